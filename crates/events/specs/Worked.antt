-- Worked lines in bare mode, with what they say.
--   told line   the reason that a line tells, if it is an assign; or its refusal
--   Worked      each line of the table says what stands beside it
use Rattle.std.specs.Prelude.{◌≡◌, ℕ, true, List, [], ◌∷◌, Some, None, Ok, Err, codes, Option, Result}
use Rattle.std.specs.List.{AllByRecursion}
use Rattle.refusal.specs.declared.refusals.Refusal.{Refusal}
use Rattle.refusal.specs.declared.refusals.Refusal.TheVariants as refusal
use Rattle.events.specs.declared.shapes.Mode.TheVariants.{Bare}
use Rattle.events.specs.declared.shapes.Reason.{Reason}
use Rattle.events.specs.declared.shapes.Reason.TheVariants as reason
use Rattle.events.specs.declared.shapes.SolverLiteral.TheVariants as lit
use Rattle.events.specs.Lines.{Said, other, assign, decide_and_or, conflict, push, pop, begin_check, event_of}
use Rattle.events.specs.Reasons.{reason_of}

abbrev some_reason : Result Reason Refusal → Result (Option Reason) Refusal
some_reason (Ok r) = Ok (Some r)
some_reason (Err e) = Err e

abbrev reason_told : Result Said Refusal → Result (Option Reason) Refusal
reason_told (Ok other) = Ok None
reason_told (Ok (assign n end ws)) = some_reason (reason_of Bare end ws)
reason_told (Ok decide_and_or) = Ok None
reason_told (Ok (conflict end ws)) = Ok None
reason_told (Ok (push s)) = Ok None
reason_told (Ok (pop n s)) = Ok None
reason_told (Ok (begin_check s)) = Ok None
reason_told (Err e) = Err e

abbrev pub told : List ℕ → Result (Option Reason) Refusal
told line = reason_told (event_of line)

abbrev pub table : List (List ℕ × Result (Option Reason) Refusal)
table =
    (codes "[assign] #1 bin +5", Ok (Some (reason.Bin (lit.Variable 5 true))))
    ∷ (codes "[assign] #1 bin 4294967295", Ok (Some (reason.Bin (lit.Variable 4294967295 true))))
    ∷ (codes "[assign] #1 bin 4294967296", Err (refusal.InvalidBoolLiteral 16))
    ∷ (codes "[assign] #1 bin 0", Err (refusal.InvalidBoolLiteral 16))
    ∷ (codes "[pop] 0 1", Err (refusal.InvalidFrameInteger 6))
    ∷ []

abbrev pub Worked : Type 0
Worked = AllByRecursion (λ row. told row.0 ≡ row.1) table
