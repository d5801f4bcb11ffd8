use Rattle.std.proofs.Common.{arith}
use Rattle.std.proofs.lemmas.List.FromFn.{fill_by_all}
use Rattle.analysis.proofs.entries.fill.Goals as goal

pub returns : goal.returns
returns g c = fill_by_all _ c.loop-old.entries _ c.args.entry (omega arith) (λ k lt. c.loop-old.invariant k (omega arith))
