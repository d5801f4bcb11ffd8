-- Assignments within the tables.
use Rattle.std.proofs.Common.{◌≡◌, ℕ, ◌<◌, ◌≤◌, Bool, true, false, cond, ltb, List, [], ◌∷◌, map, length, get_or, take, drop, fold, count_by, filter, Ok, sym, refl, ap, ◌∙◌, arith}
use Rattle.std.specs.List.{range_with_len}
use Rattle.std.proofs.lemmas.Grind.{common_steps}
use Rattle.std.proofs.lemmas.List.{take_at}
use Rattle.std.proofs.lemmas.List.FromFn.{length-map-range_with_len, get_or-map-range_with_len}
use Rattle.std.proofs.lemmas.Bool.{and_parts, ltb-true}
use Rattle.analysis.specs.declared.data.TermData.{TermData}
use Rattle.analysis.specs.declared.data.TreeAssignment.{TreeAssignment}
use Rattle.items.specs.declared.cdcl.Cdcl.{Cdcl}
use Rattle.items.specs.declared.cdcl.CdclKind.{CdclKind}
use Rattle.analysis.specs.Answers.{judged, overwritten}
use Rattle.analysis.specs.Charges.{counts, tally, data_of, all_data, charged, fits, within}
use Rattle.analysis.specs.Costs.{accepted, costs, costed}
use Rattle.analysis.specs.Totals.{total, all_depths, all_totals}

pub within_at : (n m : ℕ) (xs : List TreeAssignment) (i : ℕ) (d : TreeAssignment) → within n m xs ≡ true → i < length xs → ((get_or xs i d).node < n) × ((get_or xs i d).term.literal < m)
within_at n m xs i d all lt = (grind (arith, common_steps), grind (arith, common_steps))

-- what is charged goes by the totals of the nodes within the table alone
module _ {M : Type 0} (n m : ℕ) (T T' : ℕ → M) (same : (k : ℕ) → k < n → T k ≡ T' k) where
  same_totals : (p : TreeAssignment → Bool) (xs : List TreeAssignment) → within n m xs ≡ true → map (λ a. T a.node) (filter p xs) ≡ map (λ a. T' a.node) (filter p xs)
  same_totals p [] all = refl
  same_totals p (x ∷ xs) all =
      let parts = and_parts (fits n m x) (within n m xs) all in
      let here = same x.node (ltb-true x.node n (and_parts (ltb x.node n) (ltb x.term.literal m) parts.0).0) in
      step (p x) here (same_totals p xs parts.1)
    where
      step : (t : Bool) → T x.node ≡ T' x.node → map (λ a. T a.node) (filter p xs) ≡ map (λ a. T' a.node) (filter p xs)
          → map (λ a. T a.node) (cond t (x ∷ filter p xs) (filter p xs)) ≡ map (λ a. T' a.node) (cond t (x ∷ filter p xs) (filter p xs))
      step true here rest = λ i. here i ∷ rest i
      step false here rest = rest

  pub same_data : (e : M) (op : M → M → M) (xs : List TreeAssignment) → within n m xs ≡ true → all_data e op T m xs ≡ all_data e op T' m xs
  same_data e op xs all = λ i. map (λ t. data_like t i) (range_with_len 0 m)
    where
      tally_like : (t : ℕ) (v : Bool) → tally e op T xs t v ≡ tally e op T' xs t v
      tally_like t v = λ i. record { count = count_by (counts t v) xs; charge = fold op e (same_totals (counts t v) xs all i) }

      data_like : (t : ℕ) → data_of e op T xs t ≡ data_of e op T' xs t
      data_like t = λ i. record { positive = tally_like t true i; negative = tally_like t false i }

-- by the totals of the nodes, where they stand in the first entries of a table
pub charged_costs : {M : Type 0} (e : M) (op : M → M → M) (w : CdclKind → ℕ → M) (ns : List Cdcl) (ts table : List M) (m : ℕ) (xs : List TreeAssignment) → table ≡ overwritten (all_totals e op w ns) ts → within (length ns) m xs ≡ true
    → charged e op (take (length ns) table) m xs ≡ costs e op w ns m xs
charged_costs e op w ns ts table m xs written all =
    let T = total e op w ns in
    let n = length ns in
    ap (λ l. charged e op (take n l) m xs) written
    ∙ ap (λ l. charged e op l m xs) (take_at (all_totals e op w ns) (drop (length (all_totals e op w ns)) ts) n (length-map-range_with_len T 0 n))
    ∙ same_data n m (λ k. get_or (all_totals e op w ns) k e) T (λ k lt. get_or-map-range_with_len T 0 n k k e lt (omega arith)) e op xs all

-- what a call writes and answers, where its tables suffice
pub costs_done : {M : Type 0} (e : M) (op : M → M → M) (w : CdclKind → ℕ → M) (ns : List Cdcl) (xs : List TreeAssignment) (ds ds' : List ℕ) (ts ts' : List M) (ms ms' : List (TermData M)) → length ns ≤ length ds → length ns ≤ length ts
    → within (length ns) (length ms) xs ≡ true → ds' ≡ overwritten (all_depths ns) ds → ts' ≡ overwritten (all_totals e op w ns) ts → ms' ≡ charged e op (take (length ns) ts') (length ms) xs → (Ok tt, (ds', ts', ms')) ≡ costed e op w ns xs ds ts ms
costs_done {M} e op w ns xs ds ds' ts ts' ms ms' deep long all depths table charges =
    let yes : accepted ns xs ds ts (length ms) ≡ true = grind (arith, common_steps) in
    let terms : ms' ≡ costs e op w ns (length ms) xs = charges ∙ charged_costs e op w ns ts ts' (length ms) xs table all in
    (λ i. (Ok tt, (depths i, table i, terms i)))
    ∙ sym (ap (λ t. judged {X = List ℕ × List M × List (TermData M)} t (overwritten (all_depths ns) ds, overwritten (all_totals e op w ns) ts, costs e op w ns (length ms) xs) (ds, ts, ms)) yes)
