-- The whole sweep: the totals of the nodes ns, and the counts and charges of their assignments xs.
--   accepted ns xs ds ts m         the tables ds and ts have an entry for each node, and each assignment is at a node of ns and of a term below m
--   costs e op w ns m xs           the counts and charges of each term below m, by the totals of the nodes
--   costed e op w ns xs ds ts ms   what the sweep answers and writes over the tables ds of depths, ts of totals and ms of terms
--   nodes_of ns k                  how many nodes of ns have a way to the root that passes through k
--   size_total ns k                the total of node k by Size
--   SizeLaws ns xs                 no Size wraps: a total is a number of nodes, a charge the sum of such numbers, and none is above 2^42
--   Exact ns xs                    so it is under the limits of 1,048,576 nodes and 4,194,304 assignments
--   Worked                         a Root, two Decisions in a row and a Conflict that leads to the first of them: their ways, depths, and totals by Size and by Reach, and the costs of six assignments
use Rattle.std.specs.Prelude.{◌≡◌, ℕ, ◌^◌, ◌≤◌, Bool, true, false, ◌&&◌, List, [], ◌∷◌, map, length, sum_by, filter, Result}
use Rattle.std.specs.List.{range_with_len}
use Rattle.items.specs.declared.cdcl.Cdcl.{Cdcl}
use Rattle.items.specs.declared.cdcl.CdclKind.{CdclKind}
use Rattle.items.specs.declared.cdcl.CdclKind.TheVariants.{Root, Decision, Conflict}
use Rattle.items.specs.Nodes.{new_node}
use Rattle.measures.specs.declared.kinds.Size.{Size}
use Rattle.measures.specs.declared.kinds.Reach.{Reach}
use Rattle.measures.specs.Measures.{empty_size, size_sum, size_weight, empty_reach, larger_reach, reach_weight}
use Rattle.refusal.specs.declared.refusals.Refusal.{Refusal}
use Rattle.tree.specs.Leads.{lead}
use Rattle.tree.specs.Ways.{way}
use Rattle.analysis.specs.declared.data.TermData.{TermData}
use Rattle.analysis.specs.declared.data.TreeAssignment.{TreeAssignment}
use Rattle.analysis.specs.Answers.{judged, overwritten}
use Rattle.analysis.specs.Charges.{counts, tally, all_data, within}
use Rattle.analysis.specs.Totals.{members, total, all_depths, all_totals, enough}

abbrev pub accepted : {X Y : Type 0} → List Cdcl → List TreeAssignment → List X → List Y → ℕ → Bool
accepted ns xs ds ts m = enough (length ns) ds ts && within (length ns) m xs

abbrev pub costs : {M : Type 0} → M → (M → M → M) → (CdclKind → ℕ → M) → List Cdcl → ℕ → List TreeAssignment → List (TermData M)
costs e op w ns m xs = all_data e op (total e op w ns) m xs

abbrev pub costed : {M : Type 0} → M → (M → M → M) → (CdclKind → ℕ → M) → List Cdcl → List TreeAssignment → List ℕ → List M → List (TermData M) → Result (Unit {0}) Refusal × (List ℕ × List M × List (TermData M))
costed e op w ns xs ds ts ms =
    judged (accepted ns xs ds ts (length ms)) (overwritten (all_depths ns) ds, overwritten (all_totals e op w ns) ts, costs e op w ns (length ms) xs) (ds, ts, ms)

abbrev pub nodes_of : List Cdcl → ℕ → ℕ
nodes_of ns k = length (members ns k)

abbrev pub size_total : List Cdcl → ℕ → Size
size_total = total empty_size size_sum size_weight

pub record SizeLaws (ns : List Cdcl) (xs : List TreeAssignment) : Type 0 where
  pub totals : (k : ℕ) → ((size_total ns k).total ≡ nodes_of ns k) × (nodes_of ns k ≤ 1048576)
  pub charges : (t : ℕ) (v : Bool) → ((tally empty_size size_sum (size_total ns) xs t v).charge.total ≡ sum_by (λ a. nodes_of ns a.node) (filter (counts t v) xs))
      × (sum_by (λ a. nodes_of ns a.node) (filter (counts t v) xs) ≤ 2 ^ 42)

abbrev pub Exact : List Cdcl → List TreeAssignment → Type 0
Exact ns xs = length ns ≤ 1048576 → length xs ≤ 4194304 → SizeLaws ns xs

abbrev given : ℕ → Bool → ℕ → TreeAssignment
given t v k = record { term = record { literal = t; value = v }; node = k }

abbrev example : List Cdcl
example =
    new_node Root 0 0 ∷ new_node (Decision 0) 1 0 ∷ new_node (Decision 1) 2 0
    ∷ new_node (Conflict (record { cut = record { start = 0; count = 0 }; backtrack = 1 })) 1 0 ∷ []

-- term 0 at node 0, term 1 and twice term 2 at node 1, term 3 as false at node 2 and as true at node 3
abbrev made : List TreeAssignment
made = given 0 true 0 ∷ given 1 true 1 ∷ given 2 true 1 ∷ given 2 true 1 ∷ given 3 false 2 ∷ given 3 true 3 ∷ []

-- count and charge for true, then for false
abbrev row : TermData Size → ℕ × ℕ × ℕ × ℕ
row d = (d.positive.count, d.positive.charge.total, d.negative.count, d.negative.charge.total)

abbrev pub Worked : Type 0
Worked =
    (map (way (lead example)) (range_with_len 0 4) ≡ (0 ∷ []) ∷ (1 ∷ 0 ∷ []) ∷ (2 ∷ 1 ∷ 0 ∷ []) ∷ (3 ∷ 1 ∷ 0 ∷ []) ∷ [])
    × (all_depths example ≡ 0 ∷ 1 ∷ 2 ∷ 2 ∷ [])
    × (map (λ (x : Size). x.total) (all_totals empty_size size_sum size_weight example) ≡ 4 ∷ 3 ∷ 1 ∷ 1 ∷ [])
    × (map (λ (x : Reach). x.depth) (all_totals empty_reach larger_reach reach_weight example) ≡ 2 ∷ 2 ∷ 2 ∷ 2 ∷ [])
    × (map row (costs empty_size size_sum size_weight example 4 made) ≡ (0, 0, 0, 0) ∷ (1, 3, 0, 0) ∷ (2, 6, 0, 0) ∷ (1, 1, 1, 1) ∷ [])
