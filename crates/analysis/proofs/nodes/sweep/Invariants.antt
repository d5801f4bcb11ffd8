use Rattle.analysis.proofs.Joins.{lawful}
use Rattle.analysis.proofs.Sweeps.{NodesSwept}
use Rattle.analysis.proofs.nodes.sweep.Given as goal

abbrev pub invariant-loop-k : goal.invariant-loop-k
invariant-loop-k g l =
    let laws = lawful g.met.M.Join.assoc g.met.M.Join.comm g.met.M.Join.unchanged in
    NodesSwept g.M.Join.nothing g.M.Join.joined laws g.M.Measure.weight l.nodes l.k l.totals
