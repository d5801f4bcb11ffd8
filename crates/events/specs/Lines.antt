-- What a line says, from its words.
--   Said                what a line says: its kind, the words that it names and its numbers
--   number_of_case s    the number of the case, 0 to 6; number_of_kind k the same of a kind of line
--   event_of line       what the line says, as far as it can be read before a book is asked
--   line_kind mode line the kind of the line, once all of it is read
use Rattle.std.specs.Prelude.{ℕ, ◌-◌, ◌^◌, cond, List, [], ◌∷◌, length, Some, None, Ok, Err, Option, Result, nat_le}
use Rattle.numbers.specs.Numeral.{numeral}
use Rattle.refusal.specs.declared.refusals.Refusal.{Refusal}
use Rattle.refusal.specs.declared.refusals.Refusal.TheVariants as refusal
use Rattle.words.specs.Words.{Placed, words}
use Rattle.events.specs.declared.shapes.LineKind.{LineKind}
use Rattle.events.specs.declared.shapes.LineKind.TheVariants as kind
use Rattle.events.specs.declared.shapes.Mode.{Mode}
use Rattle.events.specs.Keywords.{kind_of}
use Rattle.events.specs.Literals.{Read, and_then, Named, named, literals}
use Rattle.events.specs.Reasons.{ended, reason_of}

-- an assign names its literal's id and the words after it, a conflict its words; both with the line's length
pub data Said : Type 0 where
  other : Said
  assign : Named → ℕ → List Placed → Said
  decide_and_or : Said
  conflict : ℕ → List Placed → Said
  push : ℕ → Said
  pop : ℕ → ℕ → Said
  begin_check : ℕ → Said

-- a number of 64 bits, not below the least
abbrev pub at_least : ℕ → ℕ → List Placed → Option ℕ → Read ℕ
at_least least p ws None = Err (refusal.InvalidFrameInteger p)
at_least least p ws (Some n) = cond (nat_le least n) (Ok (n, ws)) (Err (refusal.InvalidFrameInteger p))

abbrev pub integer : ℕ → ℕ → List Placed → Read ℕ
integer least end [] = Err (refusal.UnexpectedNewline end)
integer least end (w ∷ ws) = at_least least w.place ws (numeral (2 ^ 64 - 1) w.letters)

abbrev pub assigned : ℕ → Result (Option (Named × List Placed)) Refusal → Result Said Refusal
assigned end (Ok None) = Err (refusal.UnexpectedNewline end)
assigned end (Ok (Some r)) = Ok (assign r.0 end r.1)
assigned end (Err e) = Err e

abbrev pub by_kind : LineKind → ℕ → List Placed → Result Said Refusal
by_kind kind.Other end ws = Ok other
by_kind kind.Assign end ws = assigned end (named end ws)
by_kind kind.DecideAndOr end ws = Ok decide_and_or
by_kind kind.Conflict end ws = Ok (conflict end ws)
by_kind kind.Push end ws = and_then (integer 0 end ws) (λ s rest. ended (push s) rest)
by_kind kind.Pop end ws = and_then (integer 1 end ws) (λ n rest. and_then (integer 0 end rest) (λ s more. ended (pop n s) more))
by_kind kind.BeginCheck end ws = and_then (integer 0 end ws) (λ s rest. Ok (begin_check s))

abbrev pub said : ℕ → List Placed → Result Said Refusal
said end [] = Ok other
said end (w ∷ ws) = by_kind (kind_of w.letters) end ws

abbrev pub event_of : List ℕ → Result Said Refusal
event_of line = said (length line) (words 0 line)

-- the rest of the line is good
abbrev pub passed : {A : Type 0} → LineKind → Result A Refusal → Result LineKind Refusal
passed k (Ok a) = Ok k
passed k (Err e) = Err e

abbrev pub finished : Mode → Said → Result LineKind Refusal
finished m other = Ok kind.Other
finished m (assign n end ws) = passed kind.Assign (reason_of m end ws)
finished m decide_and_or = Ok kind.DecideAndOr
finished m (conflict end ws) = passed kind.Conflict (literals end ws)
finished m (push s) = Ok kind.Push
finished m (pop n s) = Ok kind.Pop
finished m (begin_check s) = Ok kind.BeginCheck

abbrev pub completed : Mode → Result Said Refusal → Result LineKind Refusal
completed m (Ok s) = finished m s
completed m (Err e) = Err e

abbrev pub line_kind : Mode → List ℕ → Result LineKind Refusal
line_kind m line = completed m (event_of line)

-- the cases by their numbers
abbrev pub number_of_case : Said → ℕ
number_of_case other = 0
number_of_case (assign n end ws) = 1
number_of_case decide_and_or = 2
number_of_case (conflict end ws) = 3
number_of_case (push s) = 4
number_of_case (pop n s) = 5
number_of_case (begin_check s) = 6

abbrev pub number_of_kind : LineKind → ℕ
number_of_kind kind.Other = 0
number_of_kind kind.Assign = 1
number_of_kind kind.DecideAndOr = 2
number_of_kind kind.Conflict = 3
number_of_kind kind.Push = 4
number_of_kind kind.Pop = 5
number_of_kind kind.BeginCheck = 6
