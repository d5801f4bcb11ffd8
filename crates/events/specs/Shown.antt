-- What the program's answers mean, as words and numbers.
--   shown r       what a reading of a line gave
--   next_shown r  what the cursor over named literals gave
--   read_of r w   what a reading of words gave, with the words w left; word_read and named_read the same for a word and a named literal
--   OfLine l r    what an event leaves to be read is left of the line l
use Rattle.std.specs.Prelude.{◌≡◌, ℕ, List, Some, None, Ok, Err, Option, Result}
use Rattle.refusal.specs.declared.refusals.Refusal.{Refusal}
use Rattle.words.specs.declared.rest.Word.{Word}
use Rattle.words.specs.declared.rest.Words.{Words}
use Rattle.words.specs.Left.{left, line_of, end, word_of}
use Rattle.words.specs.Words.{Placed}
use Rattle.events.specs.declared.shapes.Event.{Event}
use Rattle.events.specs.declared.shapes.Event.TheVariants as event
use Rattle.events.specs.declared.shapes.NamedLiteral.{NamedLiteral}
use Rattle.events.specs.Lines as line
use Rattle.events.specs.Lines.{Said}
use Rattle.events.specs.Literals.{Read, Named, valued}

abbrev pub literal_of : NamedLiteral → Named
literal_of n = valued (word_of n.id) n.value

abbrev pub said_by : Event → Said
said_by event.Other = line.other
said_by (event.Assign n rest) = line.assign (literal_of n) (end rest) (left rest)
said_by event.DecideAndOr = line.decide_and_or
said_by (event.Conflict l) = line.conflict (end l.rest) (left l.rest)
said_by (event.Push s) = line.push s
said_by (event.Pop n s) = line.pop n s
said_by (event.BeginCheck s) = line.begin_check s

abbrev pub shown : Result Event Refusal → Result Said Refusal
shown (Ok e) = Ok (said_by e)
shown (Err r) = Err r

-- a value and the words left, or a refusal
abbrev pub read_of : {A : Type 0} → Result A Refusal → Words → Read A
read_of (Ok a) w = Ok (a, left w)
read_of (Err e) w = Err e

abbrev pub word_read : Result Word Refusal → Words → Read Placed
word_read (Ok r) w = Ok (word_of r, left w)
word_read (Err e) w = Err e

abbrev pub named_read : Result (Option NamedLiteral) Refusal → Words → Result (Option (Named × List Placed)) Refusal
named_read (Ok None) w = Ok None
named_read (Ok (Some n)) w = Ok (Some (literal_of n, left w))
named_read (Err e) w = Err e

abbrev pub next_shown : Result (Option NamedLiteral) Refusal → Result (Option Named) Refusal
next_shown (Ok None) = Ok None
next_shown (Ok (Some n)) = Ok (Some (literal_of n))
next_shown (Err e) = Err e

-- what an event leaves to be read is left of the line itself
abbrev pub OfLine : List ℕ → Result Event Refusal → Type 0
OfLine text (Ok event.Other) = Unit {0}
OfLine text (Ok (event.Assign n rest)) = line_of rest ≡ text
OfLine text (Ok event.DecideAndOr) = Unit {0}
OfLine text (Ok (event.Conflict l)) = line_of l.rest ≡ text
OfLine text (Ok (event.Push s)) = Unit {0}
OfLine text (Ok (event.Pop n s)) = Unit {0}
OfLine text (Ok (event.BeginCheck s)) = Unit {0}
OfLine text (Err e) = Unit {0}
