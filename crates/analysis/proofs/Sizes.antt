-- Sizes under the limits, and the worked tree.
use Rattle.std.proofs.Common.{◌≡◌, ℕ, ◌+◌, ◌%◌, ◌^◌, ◌≤◌, Bool, List, [], ◌∷◌, map, length, fold, sum_by, filter, refl, ap, ◌∙◌, arith}
use Rattle.std.specs.List.{range_with_len, AllByRecursion}
use Rattle.std.proofs.lemmas.List.FromFn.{length-range_with_len}
use Rattle.std.proofs.lemmas.List.Sums.{sum_by-cons, length-filter, count_by-le-length}
use Rattle.std.proofs.ByRecursion.{sum_by_le}
use Rattle.items.specs.declared.cdcl.Cdcl.{Cdcl}
use Rattle.tree.specs.Leads.{lead}
use Rattle.tree.specs.Ways.{passes}
use Rattle.measures.specs.declared.kinds.Size.{Size}
use Rattle.measures.specs.Measures.{empty_size, size_sum, size_weight}
use Rattle.analysis.specs.declared.data.TreeAssignment.{TreeAssignment}
use Rattle.analysis.specs.Charges.{counts}
use Rattle.analysis.specs.Costs.{nodes_of, size_total, Exact, Worked}
use Rattle.analysis.specs.Totals.{members, weight_at}

-- a join of Sizes is the sum of their totals, modulo 2^64
joined_total : {X : Type 0} (f : X → Size) (xs : List X) (a : Size) → (fold size_sum a (map f xs)).total ≡ (a.total + sum_by (λ x. (f x).total) xs) % 2 ^ 64
joined_total f [] a = let fits = a.fits in omega arith
joined_total f (x ∷ xs) a = joined_total f xs (size_sum a (f x)) ∙ omega (arith, sum_by-cons (λ y. (f y).total) x xs)

sum_ones : {X : Type 0} (xs : List X) → sum_by (λ _. 1) xs ≡ length xs
sum_ones [] = refl
sum_ones (x ∷ xs) = sum_by-cons (λ _. 1) x xs ∙ omega (arith, sum_ones xs)

all_of : {X : Type 0} (P : X → Type 0) → ((x : X) → P x) → (xs : List X) → AllByRecursion P xs
all_of P each [] = tt
all_of P each (x ∷ xs) = (each x, all_of P each xs)

nodes_le : (ns : List Cdcl) (k : ℕ) → nodes_of ns k ≤ length ns
nodes_le ns k =
    omega (arith, length-filter (passes (lead ns) k) (range_with_len 0 (length ns)), count_by-le-length (passes (lead ns) k) (range_with_len 0 (length ns)), length-range_with_len 0 (length ns))

total_exact : (ns : List Cdcl) → length ns ≤ 1048576 → (k : ℕ) → (size_total ns k).total ≡ nodes_of ns k
total_exact ns few k =
    joined_total (weight_at size_weight ns) (members ns k) empty_size ∙ omega (arith, sum_ones (members ns k), nodes_le ns k)

pub exact : (ns : List Cdcl) (xs : List TreeAssignment) → Exact ns xs
exact ns xs few short = record {
  totals = λ k. (total_exact ns few k, omega (arith, nodes_le ns k));
  charges = λ t v. (
    joined_total (λ a. size_total ns a.node) (filter (counts t v) xs) empty_size ∙ omega (arith, same t v, bound t v),
    bound t v,
  );
}
  where
    per : TreeAssignment → ℕ
    per a = nodes_of ns a.node

    same : (t : ℕ) (v : Bool) → sum_by (λ (a : TreeAssignment). (size_total ns a.node).total) (filter (counts t v) xs) ≡ sum_by per (filter (counts t v) xs)
    same t v = ap (λ f. sum_by f (filter (counts t v) xs)) (λ i a. total_exact ns few a.node i)

    bound : (t : ℕ) (v : Bool) → sum_by per (filter (counts t v) xs) ≤ 2 ^ 42
    bound t v =
        omega (
          arith,
          sum_by_le per 1048576 (filter (counts t v) xs) (all_of (λ a. per a ≤ 1048576) (λ a. omega (arith, nodes_le ns a.node)) (filter (counts t v) xs)),
          length-filter (counts t v) xs,
          count_by-le-length (counts t v) xs,
        )

pub worked : Worked
worked = (refl, refl, refl, refl, refl)
