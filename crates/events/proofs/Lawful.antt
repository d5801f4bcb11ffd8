-- The laws of reading a line: what follows the word at fault does not matter, and what is named is a part of the line.
use Rattle.std.proofs.Common.{◌≡◌, ℕ, ◌+◌, ◌-◌, ◌≤◌, Bool, true, false, cond, ◌&&◌, eqb, ltb, List, [], ◌∷◌, ◌++◌, length, get_or, take, drop, Some, None, Ok, Err, Option, Result, sym, refl, ap, ◌∙◌, subst, inl, inr, ⊎_elim, arith}
use Rattle.std.specs.List.{AllByRecursion}
use Rattle.std.proofs.lemmas.List.{length-take-le, take-take}
use Rattle.refusal.specs.declared.refusals.Refusal.{Refusal}
use Rattle.words.specs.Words.{words, Placed, at, Stands}
use Rattle.words.proofs.Around.{around}
use Rattle.words.proofs.Places.{words_stand, left_stand}
use Rattle.events.specs.declared.shapes.LineKind.{LineKind}
use Rattle.events.specs.declared.shapes.LineKind.TheVariants as kind
use Rattle.events.specs.declared.shapes.LiteralWord.{LiteralWord}
use Rattle.events.specs.declared.shapes.LiteralWord.TheVariants as literal
use Rattle.events.specs.declared.shapes.Mode.{Mode}
use Rattle.events.specs.Keywords.{kind_of, literal_word}
use Rattle.words.specs.declared.rest.Words.{Words}
use Rattle.words.specs.Left.{left, end}
use Rattle.events.specs.Worked.{Worked}
use Rattle.events.specs.Laws.{Blamed, Steady, Names, NamedPart, NumberedAlike}
use Rattle.events.specs.Lines.{Said, other, assign, decide_and_or, conflict, push, pop, begin_check, integer, assigned, by_kind, said, event_of, passed, finished, completed, line_kind, number_of_case, number_of_kind}
use Rattle.events.specs.Literals.{Read, and_then, Named, valued, closed, begun_with, some_named, named, literals, next_of, next_literal}
use Rattle.events.specs.Reasons.{ended, reason_of}
use Rattle.events.proofs.Blame.{Reader, Blames, Sure, Any}
use Rattle.events.proofs.Readers.{going, line_sure, goes_event, goes_line}

module _ {X : Type 0} (F : Reader X) where
  abbrev on_line : List ℕ → Result X Refusal
  on_line line = F (length line) (words 0 line)

  blamed : (line : List ℕ) (r : Refusal) → Blames F (words 0 line) r → Blamed on_line line r
  blamed line r b =
      let a = around b.before 0 line b.word b.after (sym b.whole) in
      let text = λ (other : List ℕ). a.front ++ (b.word.letters ++ other) in
      let p : length a.front ≡ b.word.place = omega (arith, a.place) in
      record {
        front = a.front;
        word = b.word.letters;
        rest = a.tail;
        whole = a.whole;
        place = p ∙ sym b.place;
        some = a.some;
        plain = a.plain;
        apart = a.apart;
        steady = λ other h. ap (F (length (text other))) (a.again other h) ∙ b.steady (length (text other)) (words (b.word.place + length b.word.letters) other);
      }

  pub steady_line : ((e : ℕ) (ws : List Placed) → Sure Any F e ws (F e ws)) → Steady on_line
  steady_line sure line r is = ⊎_elim inl (λ b. inr (blamed line r b)) (subst (Sure Any F (length line) (words 0 line)) is (sure (length line) (words 0 line)))

going_event : (a : Result Said Refusal) → going Ok a ≡ a
going_event (Ok s) = refl
going_event (Err e) = refl

going_line : (m : Mode) (a : Result Said Refusal) → going (finished m) a ≡ completed m a
going_line m (Ok s) = refl
going_line m (Err e) = refl

pub steady_event : Steady event_of
steady_event =
    let same : (λ line. going Ok (event_of line)) ≡ event_of = λ i line. going_event (event_of line) i in
    subst (λ (f : List ℕ → Result Said Refusal). Steady f) same (steady_line (λ e ws. going Ok (said e ws)) (line_sure Ok goes_event))

pub steady_kind : (m : Mode) → Steady (line_kind m)
steady_kind m =
    let same : (λ line. going (finished m) (event_of line)) ≡ line_kind m = λ i line. going_line m (event_of line) i in
    subst (λ (f : List ℕ → Result LineKind Refusal). Steady f) same (steady_line (λ e ws. going (finished m) (said e ws)) (line_sure (finished m) (goes_line m)))

-- a word's front is a part of the line where the word is
front_stands : (line : List ℕ) (w : Placed) (n : ℕ) → n ≤ length w.letters → Stands 0 line w → Stands 0 line (at w.place (take n w.letters))
front_stands line w n h (above, part) =
    let d = drop (w.place - 0) line in
    (above, ap (λ k. take k d) (length-take-le n w.letters h) ∙ sym (take-take n (length w.letters) d h) ∙ ap (take n) part)

module _ (line : List ℕ) where
  abbrev Part : Placed → Type 0
  Part = Stands 0 line

  -- a named literal and the words after it
  abbrev Found : Result (Option (Named × List Placed)) Refusal → Type 0
  Found (Ok None) = Unit {0}
  Found (Ok (Some r)) = Part r.0.id × AllByRecursion Part r.1
  Found (Err e) = Unit {0}

  closed_found : (w : Placed) (ws : List Placed) (t : Bool) → Part w → AllByRecursion Part ws
      → Found (some_named (and_then (closed w.place ws (cond t (Some (take (length w.letters - 1) w.letters)) None)) (λ v rest. Ok (valued v false, rest))))
  closed_found w ws true h hs = (front_stands line w (length w.letters - 1) (omega arith) h, hs)
  closed_found w ws false h hs = tt

  begun_found : (k : LiteralWord) (e : ℕ) (w : Placed) (ws : List Placed) → Part w → AllByRecursion Part ws → Found (some_named (begun_with k e w ws))
  begun_found literal.Constant e w ws h hs = tt
  begun_found literal.Not e w [] h hs = tt
  begun_found literal.Not e w (v ∷ vs) h (g, gs) = closed_found v vs (ltb 0 (length v.letters) && eqb (get_or v.letters (length v.letters - 1) 0) 41) g gs
  begun_found literal.Id e w ws h hs = (h, hs)

  named_found : (e : ℕ) (ws : List Placed) → AllByRecursion Part ws → Found (named e ws)
  named_found e [] hs = tt
  named_found e (w ∷ ws) (h, hs) = begun_found (literal_word w.letters) e w ws h hs

  next_found : (ws : List Placed) (a : Result (Option (Named × List Placed)) Refusal) → Found a → NamedPart line (next_of ws a).0
  next_found ws (Ok None) h = tt
  next_found ws (Ok (Some r)) h = h.0
  next_found ws (Err e) h = tt

  pub next_named : (e : ℕ) (ws rest : List Placed) (r : Result (Option Named) Refusal) → AllByRecursion Part ws → (r, rest) ≡ next_literal e ws → NamedPart line r
  next_named e ws rest r hs is = subst (NamedPart line) (sym (ap (λ p. p.0) is)) (next_found ws (named e ws) (named_found e ws hs))

  assigned_named : (e : ℕ) (a : Result (Option (Named × List Placed)) Refusal) → Found a → Names line (assigned e a)
  assigned_named e (Ok None) h = tt
  assigned_named e (Ok (Some r)) h = h
  assigned_named e (Err x) h = tt

  push_named : (b : Read ℕ) → Names line (and_then b (λ s rest. ended (push s) rest))
  push_named (Ok (s, [])) = tt
  push_named (Ok (s, w ∷ ws)) = tt
  push_named (Err e) = tt

  scope_named : (n : ℕ) (b : Read ℕ) → Names line (and_then b (λ s rest. ended (pop n s) rest))
  scope_named n (Ok (s, [])) = tt
  scope_named n (Ok (s, w ∷ ws)) = tt
  scope_named n (Err e) = tt

  pop_named : (e : ℕ) (b : Read ℕ) → Names line (and_then b (λ n rest. and_then (integer 0 e rest) (λ s more. ended (pop n s) more)))
  pop_named e (Ok (n, ws)) = scope_named n (integer 0 e ws)
  pop_named e (Err r) = tt

  check_named : (b : Read ℕ) → Names line (and_then b (λ s rest. Ok (begin_check s)))
  check_named (Ok r) = tt
  check_named (Err e) = tt

  kind_named : (k : LineKind) (e : ℕ) (ws : List Placed) → AllByRecursion Part ws → Names line (by_kind k e ws)
  kind_named kind.Other e ws hs = tt
  kind_named kind.Assign e ws hs = assigned_named e (named e ws) (named_found e ws hs)
  kind_named kind.DecideAndOr e ws hs = tt
  kind_named kind.Conflict e ws hs = hs
  kind_named kind.Push e ws hs = push_named (integer 0 e ws)
  kind_named kind.Pop e ws hs = pop_named e (integer 1 e ws)
  kind_named kind.BeginCheck e ws hs = check_named (integer 0 e ws)

  said_named : (e : ℕ) (ws : List Placed) → AllByRecursion Part ws → Names line (said e ws)
  said_named e [] hs = tt
  said_named e (w ∷ ws) (h, hs) = kind_named (kind_of w.letters) e ws hs

  pub event_named : Names line (event_of line)
  event_named = said_named (length line) (words 0 line) (words_stand 0 line)

-- the literal that a cursor gives is a part of the line
pub given_by : (w : Words) (rest : List Placed) (r : Result (Option Named) Refusal) → (r, rest) ≡ next_literal (end w) (left w) → NamedPart w.line.now r
given_by w rest r e = next_named w.line.now (end w) (left w) rest r (left_stand w.place w.line.now) e

pub worked : Worked
worked = (refl, (refl, (refl, (refl, (refl, tt)))))

-- the kind of a line is its event's case
passed_kind : {A : Type 0} (k j : LineKind) (a : Result A Refusal) → passed k a ≡ Ok j → k ≡ j
passed_kind k j (Ok x) e = cc
passed_kind k j (Err r) e = cc

ok_kind : (k j : LineKind) → ◌≡◌ {A = Result LineKind Refusal} (Ok k) (Ok j) → k ≡ j
ok_kind k j e = cc

finished_kind : (m : Mode) (s : Said) (k : LineKind) → finished m s ≡ Ok k → number_of_kind k ≡ number_of_case s
finished_kind m other k e = sym (ap number_of_kind (ok_kind kind.Other k e))
finished_kind m (assign n end ws) k e = sym (ap number_of_kind (passed_kind kind.Assign k (reason_of m end ws) e))
finished_kind m decide_and_or k e = sym (ap number_of_kind (ok_kind kind.DecideAndOr k e))
finished_kind m (conflict end ws) k e = sym (ap number_of_kind (passed_kind kind.Conflict k (literals end ws) e))
finished_kind m (push s) k e = sym (ap number_of_kind (ok_kind kind.Push k e))
finished_kind m (pop n s) k e = sym (ap number_of_kind (ok_kind kind.Pop k e))
finished_kind m (begin_check s) k e = sym (ap number_of_kind (ok_kind kind.BeginCheck k e))

pub kind_numbered : (m : Mode) (line : List ℕ) → NumberedAlike m line
kind_numbered m line s k said told = finished_kind m s k (ap (completed m) (sym said) ∙ told)
