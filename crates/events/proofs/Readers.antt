-- Each reader of words refuses at the first word at fault, whatever follows it.
use Rattle.std.proofs.Common.{◌≡◌, ℕ, ◌-◌, ◌^◌, Bool, true, false, cond, eqb, leb, List, [], ◌∷◌, ℤ, Some, None, Ok, Err, codes, Option, Result, sym, refl, subst, inl}
use Rattle.std.specs.Str.{bytes_eq}
use Rattle.numbers.specs.Numeral.{numeral, signed_numeral}
use Rattle.refusal.specs.declared.refusals.Refusal.{Refusal}
use Rattle.refusal.specs.declared.refusals.Refusal.TheVariants as refusal
use Rattle.words.specs.Words.{Placed, at}
use Rattle.events.specs.declared.shapes.Keyword.{Keyword}
use Rattle.events.specs.declared.shapes.Keyword.TheVariants as keyword
use Rattle.events.specs.declared.shapes.LineKind.{LineKind}
use Rattle.events.specs.declared.shapes.LineKind.TheVariants as kind
use Rattle.events.specs.declared.shapes.LiteralWord.{LiteralWord}
use Rattle.events.specs.declared.shapes.LiteralWord.TheVariants as literal
use Rattle.events.specs.declared.shapes.Mode.{Mode}
use Rattle.events.specs.declared.shapes.Mode.TheVariants as mode
use Rattle.events.specs.declared.shapes.Reason.TheVariants as reason
use Rattle.events.specs.declared.shapes.SolverLiteral.{SolverLiteral}
use Rattle.events.specs.declared.shapes.SolverLiteral.TheVariants as lit
use Rattle.events.specs.Keywords.{keyword_of, kind_of, literal_word, stripped, unprefixed}
use Rattle.events.specs.Lines.{Said, other, assign, decide_and_or, conflict, push, pop, begin_check, at_least, integer, assigned, by_kind, said, passed, finished}
use Rattle.events.specs.Literals.{Read, and_then, Named, valued, closed, after_not, begun_with, some_named, named, numbered, variable, signed_by, bare, after_p, p_literal, with_rest, by_mode, solver, put_first, from_first, closing, literals_after, literals}
use Rattle.events.specs.Reasons.{ended, decided, theory_number, before_colon, theory, by_keyword, reason_of}
use Rattle.events.proofs.Blame.{Reader, Sure, SurePast, Any, Took, At, headed_any, headed_took, onward, then_any, turned_took, kept_any, then_past, refused_past, cond_past, took_past, fixed_took, fixed_any}

ended_sure : {A : Type 0} (a : A) (e : ℕ) (ws : List Placed) → Sure Any (λ e ws. ended a ws) e ws (ended a ws)
ended_sure a e [] = tt
ended_sure a e (w ∷ ws) = headed_any (λ e ws. ended a ws) w e ws (Err (refusal.ExpectedNewline w.place)) (refused_past Any w e ws (refusal.ExpectedNewline w.place) refl)

-- numbers of 64 bits
at_least_past : (least : ℕ) (w : Placed) (e : ℕ) (ws : List Placed) (o : Option ℕ) → SurePast Took (λ e ws. at_least least w.place ws o) w e ws (at_least least w.place ws o)
at_least_past least w e ws None = refused_past Took w e ws (refusal.InvalidFrameInteger w.place) refl
at_least_past least w e ws (Some n) =
    cond_past Took w e ws (leb least n) (λ e ws. Ok (n, ws)) (λ e ws. Err (refusal.InvalidFrameInteger w.place)) (took_past w e ws n) (refused_past Took w e ws (refusal.InvalidFrameInteger w.place) refl)

integer_sure : (least e : ℕ) (ws : List Placed) → Sure Took (integer least) e ws (integer least e ws)
integer_sure least e [] = inl refl
integer_sure least e (w ∷ ws) = headed_took (integer least) w e ws (integer least e (w ∷ ws)) (at_least_past least w e ws (numeral (2 ^ 64 - 1) w.letters))

-- named literals
closed_past : (w : Placed) (e : ℕ) (ws : List Placed) (o : Option (List ℕ)) → SurePast Took (λ e ws. closed w.place ws o) w e ws (closed w.place ws o)
closed_past w e ws None = refused_past Took w e ws (refusal.TupleMissingParens w.place) refl
closed_past w e ws (Some v) = took_past w e ws (at w.place v)

after_not_sure : (e : ℕ) (ws : List Placed) → Sure Took after_not e ws (after_not e ws)
after_not_sure e [] = inl refl
after_not_sure e (w ∷ ws) = headed_took after_not w e ws (after_not e (w ∷ ws)) (closed_past w e ws (stripped 41 w.letters))

begun_past : (k : LiteralWord) (w : Placed) (e : ℕ) (ws : List Placed) → SurePast Took (λ e ws. begun_with k e w ws) w e ws (begun_with k e w ws)
begun_past literal.Constant w e ws = refused_past Took w e ws (refusal.BoolLiteral w.place) refl
begun_past literal.Not w e ws = onward Took (λ e ws. begun_with literal.Not e w ws) w e ws (begun_with literal.Not e w ws) (turned_took (λ v. valued v false) after_not e ws (after_not_sure e ws))
begun_past literal.Id w e ws = took_past w e ws (valued w true)

-- solver literals
numbered_at : (p : ℕ) (v : Bool) (o : Option ℕ) → At p (numbered p v o)
numbered_at p v None = refl
numbered_at p v (Some n) = by_zero (eqb n 0)
  where
    by_zero : (t : Bool) → At p (cond t (Err (refusal.InvalidBoolLiteral p)) (Ok (lit.Variable n v)))
    by_zero true = refl
    by_zero false = tt

variable_at : (p : ℕ) (v : Bool) (digits : List ℕ) → At p (variable p v digits)
variable_at p v digits = numbered_at p v (numeral (2 ^ 32 - 1) digits)

bare_at : (w : Placed) (o : Option (List ℕ)) → At w.place (signed_by w.place w.letters o)
bare_at w None = variable_at w.place true w.letters
bare_at w (Some digits) = variable_at w.place false digits

after_p_at : (p : ℕ) (v : Bool) (o : Option (List ℕ)) → At p (after_p p v o)
after_p_at p v None = refl
after_p_at p v (Some digits) = variable_at p v digits

p_literal_at : (v : Bool) (w : Placed) → At w.place (p_literal v w)
p_literal_at v w = after_p_at w.place v (unprefixed 112 w.letters)

abbrev negated : Reader (SolverLiteral × List Placed)
negated e ws = and_then (after_not e ws) (λ v rest. with_rest rest (p_literal false v))

negated_past : (w : Placed) (e : ℕ) (ws : List Placed) (o : Option (List ℕ)) → SurePast Took (λ e ws. and_then (closed w.place ws o) (λ v rest. with_rest rest (p_literal false v))) w e ws (and_then (closed w.place ws o) (λ v rest. with_rest rest (p_literal false v)))
negated_past w e ws None = refused_past Took w e ws (refusal.TupleMissingParens w.place) refl
negated_past w e ws (Some v) = fixed_took w e ws (p_literal false (at w.place v)) (p_literal_at false (at w.place v))

negated_sure : (e : ℕ) (ws : List Placed) → Sure Took negated e ws (negated e ws)
negated_sure e [] = inl refl
negated_sure e (w ∷ ws) = headed_took negated w e ws (negated e (w ∷ ws)) (negated_past w e ws (stripped 41 w.letters))

mode_past : (m : Mode) (w : Placed) (e : ℕ) (ws : List Placed) → SurePast Took (λ e ws. by_mode m e w ws) w e ws (by_mode m e w ws)
mode_past mode.Bare w e ws = fixed_took w e ws (bare w) (bare_at w (unprefixed 45 w.letters))
mode_past mode.Prefixed w e ws =
    cond_past Took w e ws (bytes_eq w.letters (codes "(not")) negated (λ e ws. with_rest ws (p_literal true w))
    (onward Took negated w e ws (negated e ws) (negated_sure e ws)) (fixed_took w e ws (p_literal true w) (p_literal_at true w))

solver_past : (m : Mode) (w : Placed) (e : ℕ) (ws : List Placed) → SurePast Took (λ e ws. solver m e (w ∷ ws)) w e ws (solver m e (w ∷ ws))
solver_past m w e ws =
    cond_past Took w e ws (bytes_eq w.letters (codes "true")) (λ e ws. Ok (lit.Constant true, ws)) (λ e ws. cond (bytes_eq w.letters (codes "false")) (Ok (lit.Constant false, ws)) (by_mode m e w ws)) (took_past w e ws (lit.Constant true))
    (cond_past Took w e ws (bytes_eq w.letters (codes "false")) (λ e ws. Ok (lit.Constant false, ws)) (λ e ws. by_mode m e w ws) (took_past w e ws (lit.Constant false)) (mode_past m w e ws))

solver_sure : (m : Mode) (e : ℕ) (ws : List Placed) → Sure Took (solver m) e ws (solver m e ws)
solver_sure m e [] = inl refl
solver_sure m e (w ∷ ws) = headed_took (solver m) w e ws (solver m e (w ∷ ws)) (solver_past m w e ws)

-- reasons
decided_sure : (e : ℕ) (ws : List Placed) → Sure Any decided e ws (decided e ws)
decided_sure e [] = inl refl
decided_sure e (w ∷ ws) =
    headed_any decided w e ws (decided e (w ∷ ws)) (cond_past Any w e ws (bytes_eq w.letters (codes "axiom")) (λ e ws. ended reason.Decision ws) (λ e ws. Err (refusal.DecisionNotAxiom w.place))
    (onward Any (λ e ws. ended reason.Decision ws) w e ws (ended reason.Decision ws) (ended_sure reason.Decision e ws)) (refused_past Any w e ws (refusal.DecisionNotAxiom w.place) refl))

theory_at : (p : ℕ) (o : Option ℤ) → At p (theory_number p o)
theory_at p None = refl
theory_at p (Some z) = tt

before_colon_at : (p : ℕ) (o : Option (List ℕ)) → At p (before_colon p o)
before_colon_at p None = refl
before_colon_at p (Some w) = theory_at p (signed_numeral w)

theory_sure : (e : ℕ) (ws : List Placed) → Sure Any theory e ws (theory e ws)
theory_sure e [] = inl refl
theory_sure e (w ∷ ws) = headed_any theory w e ws (theory e (w ∷ ws)) (fixed_any w e ws (before_colon w.place (stripped 58 w.letters)) (before_colon_at w.place (stripped 58 w.letters)))

keyword_past : (k : Keyword) (m : Mode) (w : Placed) (e : ℕ) (ws : List Placed) → SurePast Any (λ e ws. by_keyword k m e w ws) w e ws (by_keyword k m e w ws)
keyword_past keyword.Decision m w e ws = onward Any decided w e ws (decided e ws) (decided_sure e ws)
keyword_past keyword.Axiom m w e ws = onward Any (λ e ws. ended reason.Axiom ws) w e ws (ended reason.Axiom ws) (ended_sure reason.Axiom e ws)
keyword_past keyword.Bin m w e ws =
    onward Any (λ e ws. by_keyword keyword.Bin m e w ws) w e ws (by_keyword keyword.Bin m e w ws) (then_any (solver m) (λ l e rest. ended (reason.Bin l) rest) e ws (solver_sure m e ws) (λ l rest. ended_sure (reason.Bin l) e rest))
keyword_past keyword.Clause m w e ws =
    onward Any (λ e ws. by_keyword keyword.Clause m e w ws) w e ws (by_keyword keyword.Clause m e w ws) (then_any (solver m) (λ l e rest. Ok (reason.Clause l)) e ws (solver_sure m e ws) (λ l rest. tt))
keyword_past keyword.Justification m w e ws = onward Any theory w e ws (theory e ws) (theory_sure e ws)
keyword_past keyword.Unknown m w e ws = refused_past Any w e ws (refusal.UnknownJustification w.place) refl

pub reason_sure : (m : Mode) (e : ℕ) (ws : List Placed) → Sure Any (reason_of m) e ws (reason_of m e ws)
reason_sure m e [] = inl refl
reason_sure m e (w ∷ ws) = headed_any (reason_of m) w e ws (reason_of m e (w ∷ ws)) (keyword_past (keyword_of w.letters) m w e ws)

-- all named literals
put_first_past : (n : Named) (w : Placed) (e : ℕ) (ws : List Placed) → Sure Any (literals_after false) e ws (literals_after false e ws) → SurePast Any (λ e ws. put_first n (literals_after false e ws)) w e ws (put_first n (literals_after false e ws))
put_first_past n w e ws h =
    onward Any (λ e ws. put_first n (literals_after false e ws)) w e ws (put_first n (literals_after false e ws)) (kept_any (put_first n) (λ ns. (n ∷ ns, refl)) (λ r. refl) (literals_after false) e ws h)

from_first_past : (k : LiteralWord) (w : Placed) (e : ℕ) (ws : List Placed) → Sure Any (literals_after true) e ws (literals_after true e ws) → Sure Any (literals_after false) e ws (literals_after false e ws)
    → SurePast Any (λ e ws. from_first k w (literals_after true e ws) (literals_after false e ws)) w e ws (from_first k w (literals_after true e ws) (literals_after false e ws))
from_first_past literal.Constant w e ws g h = refused_past Any w e ws (refusal.BoolLiteral w.place) refl
from_first_past literal.Not w e ws g h = onward Any (literals_after true) w e ws (literals_after true e ws) g
from_first_past literal.Id w e ws g h = put_first_past (valued w true) w e ws h

closing_past : (o : Option (List ℕ)) (w : Placed) (e : ℕ) (ws : List Placed) → Sure Any (literals_after false) e ws (literals_after false e ws)
    → SurePast Any (λ e ws. closing w.place o (literals_after false e ws)) w e ws (closing w.place o (literals_after false e ws))
closing_past None w e ws h = refused_past Any w e ws (refusal.TupleMissingParens w.place) refl
closing_past (Some v) w e ws h = put_first_past (valued (at w.place v) false) w e ws h

literals_sure : (t : Bool) (e : ℕ) (ws : List Placed) → Sure Any (literals_after t) e ws (literals_after t e ws)
literals_sure false e [] = tt
literals_sure true e [] = inl refl
literals_sure false e (w ∷ ws) = headed_any (literals_after false) w e ws (literals_after false e (w ∷ ws)) (from_first_past (literal_word w.letters) w e ws (literals_sure true e ws) (literals_sure false e ws))
literals_sure true e (w ∷ ws) = headed_any (literals_after true) w e ws (literals_after true e (w ∷ ws)) (closing_past (stripped 41 w.letters) w e ws (literals_sure false e ws))

-- whole lines, where g goes on with what was said
abbrev pub going : {X : Type 0} → (Said → Result X Refusal) → Result Said Refusal → Result X Refusal
going g (Ok s) = g s
going g (Err e) = Err e

pub record Goes {X : Type 0} (g : Said → Result X Refusal) : Type 0 where
  pub other : (x : X) × (g other ≡ Ok x)
  pub decides : (x : X) × (g decide_and_or ≡ Ok x)
  pub pushes : (s : ℕ) → (x : X) × (g (push s) ≡ Ok x)
  pub pops : (n s : ℕ) → (x : X) × (g (pop n s) ≡ Ok x)
  pub checks : (s : ℕ) → (x : X) × (g (begin_check s) ≡ Ok x)
  pub assigns : (n : Named) (e : ℕ) (ws : List Placed) → Sure Any (λ e ws. g (assign n e ws)) e ws (g (assign n e ws))
  pub conflicts : (e : ℕ) (ws : List Placed) → Sure Any (λ e ws. g (conflict e ws)) e ws (g (conflict e ws))

module _ {X : Type 0} (g : Said → Result X Refusal) (goes : Goes g) where
  fine : (s : Said) (e : ℕ) (ws : List Placed) → (x : X) × (g s ≡ Ok x) → Sure Any (λ e ws. g s) e ws (g s)
  fine s e ws (x, is) = subst (Sure Any (λ e ws. g s) e ws) (sym is) tt

  -- a line that ends here
  ends : (s : Said) → (x : X) × (g s ≡ Ok x) → (e : ℕ) (ws : List Placed) → Sure Any (λ e ws. going g (ended s ws)) e ws (going g (ended s ws))
  ends s ok e [] = subst (Sure Any (λ e ws. going g (ended s ws)) e []) (sym ok.1) tt
  ends s ok e (w ∷ ws) = headed_any (λ e ws. going g (ended s ws)) w e ws (Err (refusal.ExpectedNewline w.place)) (refused_past Any w e ws (refusal.ExpectedNewline w.place) refl)

  going_then : {A : Type 0} (b : Read A) (K : A → List Placed → Result Said Refusal) → and_then b (λ x rest. going g (K x rest)) ≡ going g (and_then b K)
  going_then (Ok r) K = refl
  going_then (Err e) K = refl

  -- a reader, by another that is equal to it
  equal_sure : (F G : Reader X) → ((e : ℕ) (ws : List Placed) → F e ws ≡ G e ws) → (e : ℕ) (ws : List Placed) → Sure Any F e ws (F e ws) → Sure Any G e ws (G e ws)
  equal_sure F G is e ws h = let all : F ≡ G = λ i e ws. is e ws i in subst (λ (H : Reader X). Sure Any H e ws (H e ws)) all h

  equal_past : (F G : Reader X) → ((e : ℕ) (ws : List Placed) → F e ws ≡ G e ws) → (w : Placed) (e : ℕ) (ws : List Placed) → SurePast Any F w e ws (F e ws) → SurePast Any G w e ws (G e ws)
  equal_past F G is w e ws h = let all : F ≡ G = λ i e ws. is e ws i in subst (λ (H : Reader X). SurePast Any H w e ws (H e ws)) all h

  assigned_is : (e : ℕ) (b : Read Named) → and_then b (λ n rest. g (assign n e rest)) ≡ going g (assigned e (some_named b))
  assigned_is e (Ok r) = refl
  assigned_is e (Err r) = refl

  assign_sure : (e : ℕ) (ws : List Placed) → Sure Any (λ e ws. going g (assigned e (named e ws))) e ws (going g (assigned e (named e ws)))
  assign_sure e [] = inl refl
  assign_sure e (w ∷ ws) =
      let k = literal_word w.letters in
      headed_any (λ e ws. going g (assigned e (named e ws))) w e ws (going g (assigned e (named e (w ∷ ws))))
      (equal_past (λ e ws. and_then (begun_with k e w ws) (λ n rest. g (assign n e rest))) (λ e ws. going g (assigned e (some_named (begun_with k e w ws)))) (λ e ws. assigned_is e (begun_with k e w ws)) w e ws
      (then_past (λ e ws. begun_with k e w ws) (λ n e rest. g (assign n e rest)) w e ws (begun_past k w e ws) (λ n rest. goes.assigns n e rest)))

  -- a number, and then the rest
  number_sure : (least : ℕ) (K : ℕ → Reader Said) → ((s e : ℕ) (rest : List Placed) → Sure Any (λ e ws. going g (K s e ws)) e rest (going g (K s e rest))) → (e : ℕ) (ws : List Placed)
      → Sure Any (λ e ws. going g (and_then (integer least e ws) (λ s rest. K s e rest))) e ws (going g (and_then (integer least e ws) (λ s rest. K s e rest)))
  number_sure least K h e ws =
      equal_sure (λ e ws. and_then (integer least e ws) (λ s rest. going g (K s e rest))) (λ e ws. going g (and_then (integer least e ws) (λ s rest. K s e rest))) (λ e ws. going_then (integer least e ws) (λ s rest. K s e rest)) e ws
      (then_any (integer least) (λ s e rest. going g (K s e rest)) e ws (integer_sure least e ws) (λ s rest. h s e rest))

  kind_sure : (k : LineKind) (e : ℕ) (ws : List Placed) → Sure Any (λ e ws. going g (by_kind k e ws)) e ws (going g (by_kind k e ws))
  kind_sure kind.Other e ws = fine other e ws goes.other
  kind_sure kind.Assign e ws = assign_sure e ws
  kind_sure kind.DecideAndOr e ws = fine decide_and_or e ws goes.decides
  kind_sure kind.Conflict e ws = goes.conflicts e ws
  kind_sure kind.Push e ws = number_sure 0 (λ s e rest. ended (push s) rest) (λ s. ends (push s) (goes.pushes s)) e ws
  kind_sure kind.Pop e ws =
      number_sure 1 (λ n e rest. and_then (integer 0 e rest) (λ s more. ended (pop n s) more)) (λ n. number_sure 0 (λ s e more. ended (pop n s) more) (λ s. ends (pop n s) (goes.pops n s))) e ws
  kind_sure kind.BeginCheck e ws = number_sure 0 (λ s e rest. Ok (begin_check s)) (λ s d rest. fine (begin_check s) d rest (goes.checks s)) e ws

  pub line_sure : (e : ℕ) (ws : List Placed) → Sure Any (λ e ws. going g (said e ws)) e ws (going g (said e ws))
  line_sure e [] = subst (Sure Any (λ e ws. going g (said e ws)) e []) (sym goes.other.1) tt
  line_sure e (w ∷ ws) =
      headed_any (λ e ws. going g (said e ws)) w e ws (going g (said e (w ∷ ws)))
      (onward Any (λ e ws. going g (by_kind (kind_of w.letters) e ws)) w e ws (going g (by_kind (kind_of w.letters) e ws)) (kind_sure (kind_of w.letters) e ws))

pub goes_event : Goes {X = Said} Ok
goes_event = record {
  other = (other, refl);
  decides = (decide_and_or, refl);
  pushes = λ s. (push s, refl);
  pops = λ n s. (pop n s, refl);
  checks = λ s. (begin_check s, refl);
  assigns = λ n e ws. tt;
  conflicts = λ e ws. tt;
}

pub goes_line : (m : Mode) → Goes (finished m)
goes_line m = record {
  other = (kind.Other, refl);
  decides = (kind.DecideAndOr, refl);
  pushes = λ s. (kind.Push, refl);
  pops = λ n s. (kind.Pop, refl);
  checks = λ s. (kind.BeginCheck, refl);
  assigns = λ n e ws. kept_any (passed kind.Assign) (λ x. (kind.Assign, refl)) (λ r. refl) (reason_of m) e ws (reason_sure m e ws);
  conflicts = λ e ws. kept_any (passed kind.Conflict) (λ x. (kind.Conflict, refl)) (λ r. refl) literals e ws (literals_sure false e ws);
}
