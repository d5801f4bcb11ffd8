-- Size and Reach: the join of nothing, the join of two, and the weight of a node of some kind and depth.
--   size n                        a Size of n modulo 2^64
--   empty_size, empty_reach       the join of nothing: 0
--   size_sum, larger_reach        the sum modulo 2^64; the larger
--   size_weight, reach_weight     each node weighs 1; each node weighs its depth
use Rattle.std.specs.Prelude.{ℕ, ◌+◌, ◌%◌, ◌^◌, max}
use Rattle.std.proofs.Common.{arith}
use Rattle.items.specs.declared.cdcl.CdclKind.{CdclKind}
use Rattle.measures.specs.declared.kinds.Size.{Size}
use Rattle.measures.specs.declared.kinds.Reach.{Reach}

abbrev pub size : ℕ → Size
size n = record { total = n % 2 ^ 64; fits = omega arith }

abbrev pub empty_size : Size
empty_size = size 0

abbrev pub size_sum : Size → Size → Size
size_sum x y = size (x.total + y.total)

abbrev pub size_weight : CdclKind → ℕ → Size
size_weight c d = size 1

abbrev pub empty_reach : Reach
empty_reach = record { depth = 0 }

abbrev pub larger_reach : Reach → Reach → Reach
larger_reach x y = record { depth = max x.depth y.depth }

abbrev pub reach_weight : CdclKind → ℕ → Reach
reach_weight c d = record { depth = d }
