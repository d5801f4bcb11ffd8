-- The leads in a list of nodes.
--   lead ns k    the next node of k towards the root: the one that its kind names, where that is below k, else none; a node without a lead is a root
use Rattle.std.specs.Prelude.{ℕ, cond, List, Some, None, Option, nat_lt}
use Rattle.std.specs.List.{slice_get}
use Rattle.items.specs.declared.cdcl.Cdcl.{Cdcl}
use Rattle.items.specs.Nodes.{lead_of}

abbrev named : ℕ → Option Cdcl → Option ℕ
named k None = None
named k (Some x) = lead_of k x.kind

abbrev below : ℕ → Option ℕ → Option ℕ
below k None = None
below k (Some p) = cond (nat_lt p k) (Some p) None

abbrev pub lead : List Cdcl → ℕ → Option ℕ
lead ns k = below k (named k (slice_get ns k))
