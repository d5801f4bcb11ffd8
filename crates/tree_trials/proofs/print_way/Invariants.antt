use Rattle.std.proofs.Common.{length}
use Rattle.tree.specs.Left.{left}
use Rattle.tree_trials.proofs.print_way.Given as goal

-- the nodes still to come
abbrev pub decreases-loop-node : goal.decreases-loop-node
decreases-loop-node g l = length (left l.node-iterator)
