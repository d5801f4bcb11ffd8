-- Literals, from the words of a line.
--   Named                a named literal: its id with the place of the word that has it, and its value
--   Read A               what reading gives: a value and the words left after it, or a refusal
--   and_then r f         what f makes of the value and the words left
--   named end ws         the named literal at the front of the words, or none where no word is left; end is the line's length
--   solver mode end ws   the solver literal at the front of the words
--   literals end ws      all named literals of the words, unless one is at fault
--   next_literal end ws  what a cursor over them gives next, and the words that it leaves
use Rattle.std.specs.Prelude.{ℕ, ◌-◌, ◌^◌, ◌<◌, Bool, true, false, cond, List, [], ◌∷◌, length, Some, None, Ok, Err, codes, Option, Result, ◌==◌}
use Rattle.std.specs.Str.{bytes_eq}
use Rattle.numbers.specs.Numeral.{numeral}
use Rattle.refusal.specs.declared.refusals.Refusal.{Refusal}
use Rattle.refusal.specs.declared.refusals.Refusal.TheVariants as refusal
use Rattle.words.specs.Words.{Placed, at}
use Rattle.events.specs.declared.shapes.LiteralWord.{LiteralWord}
use Rattle.events.specs.declared.shapes.LiteralWord.TheVariants as literal
use Rattle.events.specs.declared.shapes.Mode.{Mode}
use Rattle.events.specs.declared.shapes.Mode.TheVariants as mode
use Rattle.events.specs.declared.shapes.SolverLiteral.{SolverLiteral}
use Rattle.events.specs.declared.shapes.SolverLiteral.TheVariants as lit
use Rattle.events.specs.Keywords.{literal_word, stripped, unprefixed}

abbrev pub Read : Type 0 → Type 0
Read A = Result (A × List Placed) Refusal

abbrev pub and_then : {A B : Type 0} → Read A → (A → List Placed → Result B Refusal) → Result B Refusal
and_then (Ok r) f = f r.0 r.1
and_then (Err e) f = Err e

pub record Named : Type 0 where
  pub id : Placed
  pub value : Bool

abbrev pub valued : Placed → Bool → Named
valued w v = record { id = w; value = v }

-- the word after `(not`, of which one `)` is taken off
abbrev pub closed : ℕ → List Placed → Option (List ℕ) → Read Placed
closed p ws None = Err (refusal.TupleMissingParens p)
closed p ws (Some w) = Ok (at p w, ws)

abbrev pub after_not : ℕ → List Placed → Read Placed
after_not end [] = Err (refusal.UnexpectedNewline end)
after_not end (w ∷ ws) = closed w.place ws (stripped 41 w.letters)

abbrev pub begun_with : LiteralWord → ℕ → Placed → List Placed → Read Named
begun_with literal.Constant end w ws = Err (refusal.BoolLiteral w.place)
begun_with literal.Not end w ws = and_then (after_not end ws) (λ v rest. Ok (valued v false, rest))
begun_with literal.Id end w ws = Ok (valued w true, ws)

abbrev pub some_named : Read Named → Result (Option (Named × List Placed)) Refusal
some_named (Ok r) = Ok (Some r)
some_named (Err e) = Err e

abbrev pub named : ℕ → List Placed → Result (Option (Named × List Placed)) Refusal
named end [] = Ok None
named end (w ∷ ws) = some_named (begun_with (literal_word w.letters) end w ws)

-- a number from 1 to 4,294,967,295
abbrev pub numbered : ℕ → Bool → Option ℕ → Result SolverLiteral Refusal
numbered p v None = Err (refusal.InvalidBoolLiteral p)
numbered p v (Some n) = cond (n == 0) (Err (refusal.InvalidBoolLiteral p)) (Ok (lit.Variable n v))

abbrev pub variable : ℕ → Bool → List ℕ → Result SolverLiteral Refusal
variable p v digits = numbered p v (numeral (2 ^ 32 - 1) digits)

-- bare mode: one `-` may precede the number
abbrev pub signed_by : ℕ → List ℕ → Option (List ℕ) → Result SolverLiteral Refusal
signed_by p w None = variable p true w
signed_by p w (Some digits) = variable p false digits

abbrev pub bare : Placed → Result SolverLiteral Refusal
bare w = signed_by w.place w.letters (unprefixed 45 w.letters)

-- prefixed mode: the number follows `p`
abbrev pub after_p : ℕ → Bool → Option (List ℕ) → Result SolverLiteral Refusal
after_p p v None = Err (refusal.BoolLiteralNotP p)
after_p p v (Some digits) = variable p v digits

abbrev pub p_literal : Bool → Placed → Result SolverLiteral Refusal
p_literal v w = after_p w.place v (unprefixed 112 w.letters)

abbrev pub with_rest : {A : Type 0} → List Placed → Result A Refusal → Read A
with_rest ws (Ok a) = Ok (a, ws)
with_rest ws (Err e) = Err e

abbrev pub prefixed : ℕ → Placed → List Placed → Read SolverLiteral
prefixed end w ws = cond (bytes_eq w.letters (codes "(not")) (and_then (after_not end ws) (λ v rest. with_rest rest (p_literal false v))) (with_rest ws (p_literal true w))

abbrev pub by_mode : Mode → ℕ → Placed → List Placed → Read SolverLiteral
by_mode mode.Bare end w ws = with_rest ws (bare w)
by_mode mode.Prefixed end w ws = prefixed end w ws

abbrev pub solver : Mode → ℕ → List Placed → Read SolverLiteral
solver m end [] = Err (refusal.UnexpectedNewline end)
solver m end (w ∷ ws) =
    cond (bytes_eq w.letters (codes "true")) (Ok (lit.Constant true, ws)) (cond (bytes_eq w.letters (codes "false")) (Ok (lit.Constant false, ws)) (by_mode m end w ws))

abbrev pub put_first : Named → Result (List Named) Refusal → Result (List Named) Refusal
put_first n (Ok ns) = Ok (n ∷ ns)
put_first n (Err e) = Err e

abbrev pub from_first : LiteralWord → Placed → Result (List Named) Refusal → Result (List Named) Refusal → Result (List Named) Refusal
from_first literal.Constant w negated plain = Err (refusal.BoolLiteral w.place)
from_first literal.Not w negated plain = negated
from_first literal.Id w negated plain = put_first (valued w true) plain

abbrev pub closing : ℕ → Option (List ℕ) → Result (List Named) Refusal → Result (List Named) Refusal
closing p None plain = Err (refusal.TupleMissingParens p)
closing p (Some w) plain = put_first (valued (at p w) false) plain

-- all named literals; the flag says that the word before was `(not`
abbrev pub literals_after : Bool → ℕ → List Placed → Result (List Named) Refusal
literals_after false end [] = Ok []
literals_after true end [] = Err (refusal.UnexpectedNewline end)
literals_after false end (w ∷ ws) = from_first (literal_word w.letters) w (literals_after true end ws) (literals_after false end ws)
literals_after true end (w ∷ ws) = closing w.place (stripped 41 w.letters) (literals_after false end ws)

abbrev pub literals : ℕ → List Placed → Result (List Named) Refusal
literals end ws = literals_after false end ws

-- the next literal and the words after it; at the line's end and at a fault the words stay
abbrev pub next_of : List Placed → Result (Option (Named × List Placed)) Refusal → Result (Option Named) Refusal × List Placed
next_of ws (Ok None) = (Ok None, ws)
next_of ws (Ok (Some r)) = (Ok (Some r.0), r.1)
next_of ws (Err e) = (Err e, ws)

abbrev pub next_literal : ℕ → List Placed → Result (Option Named) Refusal × List Placed
next_literal end ws = next_of ws (named end ws)

-- the literals from one on, by what the cursor gave and the literals after it
abbrev pub given : Result (Option Named) Refusal → Result (List Named) Refusal → Result (List Named) Refusal
given (Ok None) later = Ok []
given (Ok (Some n)) later = put_first n later
given (Err e) later = Err e

-- a literal takes a word at least
abbrev pub Shorter : Result (Option Named) Refusal → List Placed → List Placed → Type 0
Shorter (Ok None) rest ws = Unit {0}
Shorter (Ok (Some n)) rest ws = length rest < length ws
Shorter (Err e) rest ws = Unit {0}
