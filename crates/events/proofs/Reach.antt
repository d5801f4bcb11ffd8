-- For each kind of event and all values that it may hold, a line that gives it: its words, each with a space after it.
use Rattle.std.proofs.Common.{◌≡◌, ℕ, suc, ◌+◌, ◌-◌, ◌^◌, ◌<◌, ◌≤◌, Bool, true, false, cond, ◌&&◌, eqb, ltb, List, [], ◌∷◌, ◌++◌, map, length, get_or, take, drop, Some, None, Ok, Err, codes, decimal, Result, refl, ap, ◌∙◌, arith, lit<}
use Rattle.std.specs.Fmt.{signed_decimal as written}
use Rattle.std.specs.List.{AllByRecursion}
use Rattle.std.specs.Str.{bytes_eq}
use Rattle.std.proofs.lemmas.Fmt.{decimal_nonempty}
use Rattle.std.proofs.ByRecursion.{All-append, All-weaker}
use Rattle.std.proofs.lemmas.List.{length_push, get_or_push, take_at}
use Rattle.std.proofs.lemmas.Bool.{not-true, and_parts, and_left, and_right, or_from, ltb-true, lt-ltb, le-leb, eq-eqb, ne_eqb}
use Rattle.numbers.specs.Numeral.{numeral}
use Rattle.numbers.proofs.Decimal.{decimal_all, decimal_first, written_all, numeral-decimal, signed_numeral-written}
use Rattle.refusal.specs.declared.refusals.Refusal.{Refusal}
use Rattle.refusal.specs.declared.refusals.Refusal.TheVariants as refusal
use Rattle.words.specs.Words.{separator, letter, Placed, at}
use Rattle.words.proofs.Spaced.{spaced, placed, OneWord, words-spaced, all-spaced}
use Rattle.events.specs.declared.shapes.Mode.{Mode}
use Rattle.events.specs.declared.shapes.Mode.TheVariants as mode
use Rattle.events.specs.declared.shapes.Reason.{Reason}
use Rattle.events.specs.declared.shapes.Reason.TheVariants as reason
use Rattle.events.specs.declared.shapes.SolverLiteral.{SolverLiteral}
use Rattle.events.specs.declared.shapes.SolverLiteral.TheVariants as lit
use Rattle.events.specs.Keywords.{stripped, unprefixed}
use Rattle.events.specs.Laws.{Byte, Letter, Id, InRangeLiteral, InRange, unplaced, all_unplaced, Says, Reached}
use Rattle.events.specs.Lines.{Said, assign, decide_and_or, conflict, push, pop, begin_check, at_least, integer, assigned, said}
use Rattle.events.specs.Literals.{and_then, Named, valued, closed, begun_with, some_named, named, numbered, signed_by, after_p, with_rest, solver, put_first, from_first, closing, literals_after, literals}
use Rattle.events.specs.Reasons.{ended, theory_number, before_colon, reason_of}

-- a word of bytes
abbrev Sayable : List ℕ → Type 0
Sayable w = (0 < length w) × AllByRecursion Letter w

-- words of fixed letters
abbrev all_letters : List ℕ → Bool
all_letters [] = true
all_letters (b ∷ bs) = (letter b && ltb b 256) && all_letters bs

plain_from : (w : List ℕ) → all_letters w ≡ true → AllByRecursion Letter w
plain_from [] e = tt
plain_from (b ∷ bs) e =
    let both = and_parts (letter b && ltb b 256) (all_letters bs) e in
    let one = and_parts (letter b) (ltb b 256) both.0 in
    ((not-true (separator b) one.0, ltb-true b 256 one.1), plain_from bs both.1)

-- digits are letters
digit_plain : (c : ℕ) → 48 ≤ c → c ≤ 57 → Letter c
digit_plain c low high = (
  or_from (eqb c 32) _ (ne_eqb c 32 (λ e. omega arith)) (or_from (eqb c 9) _ (ne_eqb c 9 (λ e. omega arith)) (or_from (eqb c 10) _ (ne_eqb c 10 (λ e. omega arith))
      (or_from (eqb c 12) (eqb c 13) (ne_eqb c 12 (λ e. omega arith)) (ne_eqb c 13 (λ e. omega arith))))),
  omega arith,
)

decimal_word : (n : ℕ) → n < 2 ^ 64 → Sayable (decimal n)
decimal_word n h = (decimal_nonempty n h, decimal_all Letter digit_plain n h)

push_word : (w : List ℕ) (b : ℕ) → AllByRecursion Letter w → Letter b → Sayable (w ++ b ∷ [])
push_word w b h e = (omega (arith, length_push w b), All-append Letter w (b ∷ []) h (e, tt))

onto_word : (b : ℕ) (w : List ℕ) → Letter b → AllByRecursion Letter w → Sayable (b ∷ w)
onto_word b w e h = (omega arith, (e, h))

-- bytes taken off a word's ends
stripped_push : (b : ℕ) (w : List ℕ) → stripped b (w ++ b ∷ []) ≡ Some w
stripped_push b w =
    let n : length (w ++ b ∷ []) - 1 ≡ length w = omega (arith, length_push w b) in
    let some : ltb 0 (length (w ++ b ∷ [])) ≡ true = lt-ltb _ _ (omega (arith, length_push w b)) in
    let last : eqb (get_or (w ++ b ∷ []) (length (w ++ b ∷ []) - 1) 0) b ≡ true = eq-eqb _ _ (ap (λ k. get_or (w ++ b ∷ []) k 0) n ∙ get_or_push w b 0 (length w) refl) in
    (λ i. cond (some i && last i) (Some (take (n i) (w ++ b ∷ []))) None) ∙ ap Some (take_at w (b ∷ []) (length w) refl)

unprefixed_onto : (b : ℕ) (w : List ℕ) → unprefixed b (b ∷ w) ≡ Some w
unprefixed_onto b w =
    let some : ltb 0 (suc (length w)) ≡ true = lt-ltb _ _ (omega arith) in
    let first : eqb b b ≡ true = eq-eqb b b refl in
    λ i. cond (some i && first i) (Some w) None

no_prefix : (b : ℕ) (w : List ℕ) → (get_or w 0 0 ≡ b → ⊥) → unprefixed b w ≡ None
no_prefix b w ne = ap (λ t. cond t (Some (drop 1 w)) None) (and_right (ltb 0 (length w)) _ (ne_eqb _ b ne))

other_word : (w : List ℕ) (d : ℕ) (ds : List ℕ) → (get_or w 0 0 ≡ d → ⊥) → bytes_eq w (d ∷ ds) ≡ false
other_word [] d ds ne = refl
other_word (c ∷ cs) d ds ne = and_left (eqb c d) (bytes_eq cs ds) (ne_eqb c d ne)

-- solver literals
abbrev variable_words : Mode → ℕ → Bool → List (List ℕ)
variable_words mode.Bare n true = decimal n ∷ []
variable_words mode.Bare n false = (45 ∷ decimal n) ∷ []
variable_words mode.Prefixed n true = (112 ∷ decimal n) ∷ []
variable_words mode.Prefixed n false = codes "(not" ∷ ((112 ∷ decimal n) ++ 41 ∷ []) ∷ []

abbrev literal_words : Mode → SolverLiteral → List (List ℕ)
literal_words m (lit.Constant true) = codes "true" ∷ []
literal_words m (lit.Constant false) = codes "false" ∷ []
literal_words m (lit.Variable n v) = variable_words m n v

module _ (n : ℕ) (some : 0 < n) (fits : n < 2 ^ 32) where
  wide : n < 2 ^ 64
  wide = omega arith

  number_read : (p : ℕ) (v : Bool) → numbered p v (numeral (2 ^ 32 - 1) (decimal n)) ≡ Ok (lit.Variable n v)
  number_read p v =
      ap (numbered p v) (numeral-decimal (2 ^ 32 - 1) n (lit< tt) (omega arith)) ∙ ap (λ t. cond t (Err (refusal.InvalidBoolLiteral p)) (Ok (lit.Variable n v))) (ne_eqb n 0 (λ e. omega arith))

  first : (48 ≤ get_or (decimal n) 0 0) × (get_or (decimal n) 0 0 ≤ 57)
  first = decimal_first n wide

  variable_read : (m : Mode) (v : Bool) (e p : ℕ) → solver m e (placed p (variable_words m n v)) ≡ Ok (lit.Variable n v, [])
  variable_read mode.Bare true e p =
      let w = decimal n in
      let t : bytes_eq w (codes "true") ≡ false = other_word w 116 _ (λ q. omega (arith, first)) in
      let f : bytes_eq w (codes "false") ≡ false = other_word w 102 _ (λ q. omega (arith, first)) in
      (λ i. cond (t i) (Ok (lit.Constant true, [])) (cond (f i) (Ok (lit.Constant false, [])) (with_rest [] (signed_by p w (unprefixed 45 w)))))
      ∙ ap (λ o. with_rest [] (signed_by p w o)) (no_prefix 45 w (λ q. omega (arith, first))) ∙ ap (with_rest []) (number_read p true)
  variable_read mode.Bare false e p =
      let w = 45 ∷ decimal n in
      ap (λ o. with_rest [] (signed_by p w o)) (unprefixed_onto 45 (decimal n)) ∙ ap (with_rest []) (number_read p false)
  variable_read mode.Prefixed true e p =
      ap (λ o. with_rest [] (after_p p true o)) (unprefixed_onto 112 (decimal n)) ∙ ap (with_rest []) (number_read p true)
  variable_read mode.Prefixed false e p =
      let q = p + length (codes "(not") + 1 in
      ap (λ o. and_then (closed q [] o) (λ v rest. with_rest rest (after_p v.place false (unprefixed 112 v.letters)))) (stripped_push 41 (112 ∷ decimal n))
      ∙ ap (λ o. with_rest [] (after_p q false o)) (unprefixed_onto 112 (decimal n)) ∙ ap (with_rest []) (number_read q false)

  variable_plain : (m : Mode) (v : Bool) → AllByRecursion Sayable (variable_words m n v)
  variable_plain mode.Bare true = (decimal_word n wide, tt)
  variable_plain mode.Bare false = (onto_word 45 (decimal n) (refl, lit< tt) (decimal_word n wide).1, tt)
  variable_plain mode.Prefixed true = (onto_word 112 (decimal n) (refl, lit< tt) (decimal_word n wide).1, tt)
  variable_plain mode.Prefixed false = ((lit< tt, plain_from (codes "(not") refl), (push_word (112 ∷ decimal n) 41 ((refl, lit< tt), (decimal_word n wide).1) (refl, lit< tt), tt))

literal_read : (m : Mode) (l : SolverLiteral) → InRangeLiteral l → (e p : ℕ) → solver m e (placed p (literal_words m l)) ≡ Ok (l, [])
literal_read m (lit.Constant true) h e p = refl
literal_read m (lit.Constant false) h e p = refl
literal_read m (lit.Variable n v) h e p = variable_read n h.0 h.1 m v e p

literal_plain : (m : Mode) (l : SolverLiteral) → InRangeLiteral l → AllByRecursion Sayable (literal_words m l)
literal_plain m (lit.Constant true) h = ((lit< tt, plain_from (codes "true") refl), tt)
literal_plain m (lit.Constant false) h = ((lit< tt, plain_from (codes "false") refl), tt)
literal_plain m (lit.Variable n v) h = variable_plain n h.0 h.1 m v

-- reasons
abbrev reason_words : Mode → Reason → List (List ℕ)
reason_words m reason.Decision = codes "decision" ∷ codes "axiom" ∷ []
reason_words m reason.Axiom = codes "axiom" ∷ []
reason_words m (reason.Bin l) = codes "bin" ∷ literal_words m l
reason_words m (reason.Clause l) = codes "clause" ∷ literal_words m l
reason_words m (reason.Theory z) = codes "justification" ∷ (written z ++ 58 ∷ []) ∷ []

reason_read : (m : Mode) (r : Reason) → InRange r → (e p : ℕ) → reason_of m e (placed p (reason_words m r)) ≡ Ok r
reason_read m reason.Decision h e p = refl
reason_read m reason.Axiom h e p = refl
reason_read m (reason.Bin l) h e p = ap (λ a. and_then a (λ l rest. ended (reason.Bin l) rest)) (literal_read m l h e (p + length (codes "bin") + 1))
reason_read m (reason.Clause l) h e p = ap (λ a. and_then a (λ l rest. Ok (reason.Clause l))) (literal_read m l h e (p + length (codes "clause") + 1))
reason_read m (reason.Theory z) h e p =
    let q = p + length (codes "justification") + 1 in
    ap (before_colon q) (stripped_push 58 (written z)) ∙ ap (theory_number q) (signed_numeral-written z h)

reason_plain : (m : Mode) (r : Reason) → InRange r → AllByRecursion Sayable (reason_words m r)
reason_plain m reason.Decision h = ((lit< tt, plain_from (codes "decision") refl), ((lit< tt, plain_from (codes "axiom") refl), tt))
reason_plain m reason.Axiom h = ((lit< tt, plain_from (codes "axiom") refl), tt)
reason_plain m (reason.Bin l) h = ((lit< tt, plain_from (codes "bin") refl), literal_plain m l h)
reason_plain m (reason.Clause l) h = ((lit< tt, plain_from (codes "clause") refl), literal_plain m l h)
reason_plain m (reason.Theory z) h = ((lit< tt, plain_from (codes "justification") refl), (push_word (written z) 58 (written_all Letter (refl, lit< tt) digit_plain z h) (refl, lit< tt), tt))

-- named literals
abbrev named_words : List ℕ → Bool → List (List ℕ) → List (List ℕ)
named_words id true ws = id ∷ ws
named_words id false ws = codes "(not" ∷ (id ++ 41 ∷ []) ∷ ws

named_plain : (id : List ℕ) (v : Bool) (ws : List (List ℕ)) → Id id v → AllByRecursion Sayable ws → AllByRecursion Sayable (named_words id v ws)
named_plain id true ws h k = ((h.1, h.0), k)
named_plain id false ws h k = ((lit< tt, plain_from (codes "(not") refl), (push_word id 41 h (refl, lit< tt), k))

-- the line that has the words of a list
spoken : (ws : List (List ℕ)) → AllByRecursion Sayable ws → (s : Said) → said (length (spaced ws)) (placed 0 ws) ≡ Ok s → Says s
spoken ws h s e = (
  spaced ws,
  all-spaced Byte (lit< tt) ws (All-weaker Sayable (AllByRecursion Byte) (λ w k. All-weaker Letter Byte (λ b l. l.1) w k.1) ws h),
  ap (said (length (spaced ws))) (words-spaced 0 ws (All-weaker Sayable OneWord (λ w k. (k.0, All-weaker Letter (λ b. separator b ≡ false) (λ b l. l.0) w k.1)) ws h)) ∙ e,
)

-- numbers of 64 bits
integer_read : (least n : ℕ) → least ≤ n → n < 2 ^ 64 → (e p : ℕ) (ws : List Placed) → integer least e (at p (decimal n) ∷ ws) ≡ Ok (n, ws)
integer_read least n low h e p ws =
    ap (at_least least p ws) (numeral-decimal (2 ^ 64 - 1) n (lit< tt) (omega arith)) ∙ ap (λ t. cond t (Ok (n, ws)) (Err (refusal.InvalidFrameInteger p))) (le-leb least n low)

pushed : (s : ℕ) → s < 2 ^ 64 → Says (push s)
pushed s h =
    let ws : List (List ℕ) = codes "[push]" ∷ decimal s ∷ [] in
    spoken ws ((lit< tt, plain_from (codes "[push]") refl), (decimal_word s h, tt)) (push s)
    (ap (λ a. and_then a (λ s rest. ended (push s) rest)) (integer_read 0 s (omega arith) h (length (spaced ws)) (0 + length (codes "[push]") + 1) []))

checked : (s : ℕ) → s < 2 ^ 64 → Says (begin_check s)
checked s h =
    let ws : List (List ℕ) = codes "[begin-check]" ∷ decimal s ∷ [] in
    spoken ws ((lit< tt, plain_from (codes "[begin-check]") refl), (decimal_word s h, tt)) (begin_check s)
    (ap (λ a. and_then a (λ s rest. Ok (begin_check s))) (integer_read 0 s (omega arith) h (length (spaced ws)) (0 + length (codes "[begin-check]") + 1) []))

popped : (n s : ℕ) → 0 < n → n < 2 ^ 64 → s < 2 ^ 64 → Says (pop n s)
popped n s some h k =
    let ws : List (List ℕ) = codes "[pop]" ∷ decimal n ∷ decimal s ∷ [] in
    let e = length (spaced ws) in
    let p = 0 + length (codes "[pop]") + 1 in
    let q = p + length (decimal n) + 1 in
    spoken ws ((lit< tt, plain_from (codes "[pop]") refl), (decimal_word n h, (decimal_word s k, tt))) (pop n s)
    (ap (λ a. and_then a (λ n rest. and_then (integer 0 e rest) (λ s more. ended (pop n s) more))) (integer_read 1 n (omega arith) h e p (at q (decimal s) ∷ []))
    ∙ ap (λ a. and_then a (λ s more. ended (pop n s) more)) (integer_read 0 s (omega arith) k e q []))

-- an assign of any literal for any reason
named_first : (id : List ℕ) (v : Bool) → Id id v → (e p : ℕ) (ws : List (List ℕ))
    → (place : ℕ) × (q : ℕ) × (named e (placed p (named_words id v ws)) ≡ Ok (Some (valued (at place id) v, placed q ws)))
named_first id true h e p ws =
    let q = p + length id + 1 in
    (p, q, ap (λ k. some_named (begun_with k e (at p id) (placed q ws))) h.2)
named_first id false h e p ws =
    let place = p + length (codes "(not") + 1 in
    let q = place + length (id ++ 41 ∷ []) + 1 in
    (place, q, ap (λ o. some_named (and_then (closed place (placed q ws) o) (λ v rest. Ok (valued v false, rest)))) (stripped_push 41 id))

assigns : (m : Mode) (id : List ℕ) (v : Bool) (r : Reason) → Id id v → InRange r
    → (place : ℕ) × (end : ℕ) × (ws : List Placed) × Says (assign (valued (at place id) v) end ws) × (reason_of m end ws ≡ Ok r)
assigns m id v r h f =
    let why = reason_words m r in
    let ws = codes "[assign]" ∷ named_words id v why in
    let e = length (spaced ws) in
    let p = 0 + length (codes "[assign]") + 1 in
    let one = named_first id v h e p why in (
      one.0,
      e,
      placed one.1 why,
      spoken ws ((lit< tt, plain_from (codes "[assign]") refl), named_plain id v why h (reason_plain m r f)) (assign (valued (at one.0 id) v) e (placed one.1 why)) (ap (assigned e) one.2),
      reason_read m r f e one.1,
    )

-- a conflict of any named literals
abbrev cut_words : List (List ℕ × Bool) → List (List ℕ)
cut_words [] = []
cut_words (l ∷ ls) = named_words l.0 l.1 (cut_words ls)

cut_plain : (ls : List (List ℕ × Bool)) → AllByRecursion (λ l. Id l.0 l.1) ls → AllByRecursion Sayable (cut_words ls)
cut_plain [] h = tt
cut_plain (l ∷ ls) (k, h) = named_plain l.0 l.1 (cut_words ls) k (cut_plain ls h)

put_first_unplaced : (n : Named) (r : Result (List Named) Refusal) (ls : List (List ℕ × Bool)) → all_unplaced r ≡ Ok ls → all_unplaced (put_first n r) ≡ Ok (unplaced n ∷ ls)
put_first_unplaced n (Ok ns) ls e = let same : map unplaced ns ≡ ls = cc in ap (λ l. Ok (unplaced n ∷ l)) same
put_first_unplaced n (Err x) ls e = cc

cut_read : (ls : List (List ℕ × Bool)) → AllByRecursion (λ l. Id l.0 l.1) ls → (e p : ℕ) → all_unplaced (literals e (placed p (cut_words ls))) ≡ Ok ls
cut_read [] h e p = refl
cut_read ((id, true) ∷ ls) (k, h) e p =
    let ws = placed (p + length id + 1) (cut_words ls) in
    ap (λ t. all_unplaced (from_first t (at p id) (literals_after true e ws) (literals e ws))) k.2 ∙ put_first_unplaced (valued (at p id) true) (literals e ws) ls (cut_read ls h e (p + length id + 1))
cut_read ((id, false) ∷ ls) (k, h) e p =
    let place = p + length (codes "(not") + 1 in
    let q = place + length (id ++ 41 ∷ []) + 1 in
    let ws = placed q (cut_words ls) in
    ap (λ o. all_unplaced (closing place o (literals e ws))) (stripped_push 41 id) ∙ put_first_unplaced (valued (at place id) false) (literals e ws) ls (cut_read ls h e q)

conflicts : (ls : List (List ℕ × Bool)) → AllByRecursion (λ l. Id l.0 l.1) ls
    → (end : ℕ) × (ws : List Placed) × Says (conflict end ws) × (all_unplaced (literals end ws) ≡ Ok ls)
conflicts ls h =
    let ws = codes "[conflict]" ∷ cut_words ls in
    let e = length (spaced ws) in
    let p = 0 + length (codes "[conflict]") + 1 in
    (e, placed p (cut_words ls), spoken ws ((lit< tt, plain_from (codes "[conflict]") refl), cut_plain ls h) (conflict e (placed p (cut_words ls))) refl, cut_read ls h e p)

pub reached : Reached
reached = record {
  others = ([], tt, refl);
  assigns = assigns;
  decides = spoken (codes "[decide-and-or]" ∷ []) ((lit< tt, plain_from (codes "[decide-and-or]") refl), tt) decide_and_or refl;
  conflicts = conflicts;
  pushes = pushed;
  pops = popped;
  checks = checked;
}
