use Rattle.std.proofs.Common.{◌≡◌, length, take}
use Rattle.analysis.specs.Charges.{charged}
use Rattle.analysis.proofs.terms.charge_all.Given as goal

abbrev pub invariant-loop-assignment : goal.invariant-loop-assignment
invariant-loop-assignment g l = l.terms ≡ charged g.M.Join.nothing g.M.Join.joined l.totals (length l.terms) (take l.assignment-index l.assignments)
