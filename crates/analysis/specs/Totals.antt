-- The totals of the nodes of a tree, for a joining of values with the unit e and the join op.
--   members ns k               the nodes of the list ns whose way to the root passes through k, each once
--   kind_at ns k               the kind of node k; Root where there is none
--   weight_at w ns k           the weight of node k, by its kind and its depth
--   total e op w ns k          the weights of the members of k, joined
--   all_totals e op w ns       the totals of all nodes of ns
--   all_depths ns              the depths of all nodes of ns
--   enough n xs ys             two tables have an entry for each of n nodes
--   totalled e op w ns ds ts   what a call answers and writes over the tables ds of depths and ts of totals
use Rattle.std.specs.Prelude.{ℕ, Bool, ◌&&◌, List, map, length, fold, filter, Result, nat_le, slice_index_or}
use Rattle.std.specs.List.{range_with_len}
use Rattle.items.specs.declared.cdcl.Cdcl.{Cdcl}
use Rattle.items.specs.declared.cdcl.CdclKind.{CdclKind}
use Rattle.items.specs.declared.cdcl.CdclKind.TheVariants.{Root}
use Rattle.items.specs.Nodes.{new_node}
use Rattle.refusal.specs.declared.refusals.Refusal.{Refusal}
use Rattle.tree.specs.Leads.{lead}
use Rattle.tree.specs.Ways.{depth, passes}
use Rattle.analysis.specs.Answers.{judged, overwritten}

abbrev pub members : List Cdcl → ℕ → List ℕ
members ns k = filter (passes (lead ns) k) (range_with_len 0 (length ns))

abbrev pub kind_at : List Cdcl → ℕ → CdclKind
kind_at ns k = (slice_index_or ns k (new_node Root 0 0)).kind

abbrev pub weight_at : {M : Type 0} → (CdclKind → ℕ → M) → List Cdcl → ℕ → M
weight_at w ns k = w (kind_at ns k) (depth (lead ns) k)

abbrev pub total : {M : Type 0} → M → (M → M → M) → (CdclKind → ℕ → M) → List Cdcl → ℕ → M
total e op w ns k = fold op e (map (weight_at w ns) (members ns k))

abbrev pub all_totals : {M : Type 0} → M → (M → M → M) → (CdclKind → ℕ → M) → List Cdcl → List M
all_totals e op w ns = map (total e op w ns) (range_with_len 0 (length ns))

abbrev pub all_depths : List Cdcl → List ℕ
all_depths ns = map (depth (lead ns)) (range_with_len 0 (length ns))

abbrev pub enough : {X Y : Type 0} → ℕ → List X → List Y → Bool
enough n xs ys = nat_le n (length xs) && nat_le n (length ys)

abbrev pub totalled : {M : Type 0} → M → (M → M → M) → (CdclKind → ℕ → M) → List Cdcl → List ℕ → List M → Result (Unit {0}) Refusal × (List ℕ × List M)
totalled e op w ns ds ts = judged (enough (length ns) ds ts) (overwritten (all_depths ns) ds, overwritten (all_totals e op w ns) ts) (ds, ts)
