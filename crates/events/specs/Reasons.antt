-- Why a literal was assigned, from the words after it.
--   ended a ws           a, if no word is left
--   reason_of mode end ws   the reason that the words tell; end is the line's length
use Rattle.std.specs.Prelude.{ℕ, cond, List, [], ◌∷◌, ℤ, Some, None, Ok, Err, codes, Option, Result}
use Rattle.std.specs.Str.{bytes_eq}
use Rattle.numbers.specs.Numeral.{signed_numeral}
use Rattle.refusal.specs.declared.refusals.Refusal.{Refusal}
use Rattle.refusal.specs.declared.refusals.Refusal.TheVariants as refusal
use Rattle.words.specs.Words.{Placed}
use Rattle.events.specs.declared.shapes.Keyword.{Keyword}
use Rattle.events.specs.declared.shapes.Keyword.TheVariants as keyword
use Rattle.events.specs.declared.shapes.Mode.{Mode}
use Rattle.events.specs.declared.shapes.Reason.{Reason}
use Rattle.events.specs.declared.shapes.Reason.TheVariants as reason
use Rattle.events.specs.Keywords.{keyword_of, stripped}
use Rattle.events.specs.Literals.{and_then, solver}

abbrev pub ended : {A : Type 0} → A → List Placed → Result A Refusal
ended a [] = Ok a
ended a (w ∷ ws) = Err (refusal.ExpectedNewline w.place)

abbrev pub decided : ℕ → List Placed → Result Reason Refusal
decided end [] = Err (refusal.UnexpectedNewline end)
decided end (w ∷ ws) = cond (bytes_eq w.letters (codes "axiom")) (ended reason.Decision ws) (Err (refusal.DecisionNotAxiom w.place))

abbrev pub theory_number : ℕ → Option ℤ → Result Reason Refusal
theory_number p None = Err (refusal.InvalidTheoryId p)
theory_number p (Some z) = Ok (reason.Theory z)

abbrev pub before_colon : ℕ → Option (List ℕ) → Result Reason Refusal
before_colon p None = Err (refusal.MissingColonJustification p)
before_colon p (Some w) = theory_number p (signed_numeral w)

abbrev pub theory : ℕ → List Placed → Result Reason Refusal
theory end [] = Err (refusal.UnexpectedNewline end)
theory end (w ∷ ws) = before_colon w.place (stripped 58 w.letters)

abbrev pub by_keyword : Keyword → Mode → ℕ → Placed → List Placed → Result Reason Refusal
by_keyword keyword.Decision m end w ws = decided end ws
by_keyword keyword.Axiom m end w ws = ended reason.Axiom ws
by_keyword keyword.Bin m end w ws = and_then (solver m end ws) (λ l rest. ended (reason.Bin l) rest)
by_keyword keyword.Clause m end w ws = and_then (solver m end ws) (λ l rest. Ok (reason.Clause l))
by_keyword keyword.Justification m end w ws = theory end ws
by_keyword keyword.Unknown m end w ws = Err (refusal.UnknownJustification w.place)

abbrev pub reason_of : Mode → ℕ → List Placed → Result Reason Refusal
reason_of m end [] = Err (refusal.UnexpectedNewline end)
reason_of m end (w ∷ ws) = by_keyword (keyword_of w.letters) m end w ws
