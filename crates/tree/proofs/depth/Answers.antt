use Rattle.std.proofs.Common.{rules}
use Rattle.tree.specs.Leads.{lead}
use Rattle.tree.proofs.Ways.{depth_le}
use Rattle.tree.proofs.depth.Goals as goal

pub count-requires-clause-fits : goal.count-requires-clause-fits
count-requires-clause-fits c = let le = depth_le (lead c.args.nodes.now) c.args.number in search rules
