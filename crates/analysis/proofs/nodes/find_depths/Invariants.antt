use Rattle.analysis.proofs.Depths.{DepthsBelow}
use Rattle.analysis.proofs.nodes.find_depths.Given as goal

abbrev pub invariant-loop-k : goal.invariant-loop-k
invariant-loop-k l = DepthsBelow l.nodes l.k l.depths
