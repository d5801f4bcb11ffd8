use Rattle.std.proofs.Common.{◌≡◌, length}
use Rattle.words.specs.Left.{left, end}
use Rattle.events.specs.declared.shapes.LineKind.TheVariants.{Conflict}
use Rattle.events.specs.Lines.{passed}
use Rattle.events.specs.Literals.{literals}
use Rattle.events.proofs.literals.check_literals.Given as goal

-- the literals left are at fault exactly if those of the whole list are
abbrev pub invariant-loop-literal : goal.invariant-loop-literal
invariant-loop-literal l =
    (end l.list.rest ≡ end l.initial.list.rest)
    × (passed Conflict (literals (end l.list.rest) (left l.list.rest)) ≡ passed Conflict (literals (end l.initial.list.rest) (left l.initial.list.rest)))

abbrev pub decreases-loop-literal : goal.decreases-loop-literal
decreases-loop-literal l = length (left l.list.rest)
