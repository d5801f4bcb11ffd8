-- One assignment more in the tallies.
use Rattle.std.proofs.Common.{◌≡◌, ℕ, ◌+◌, ◌-◌, ◌^◌, ◌<◌, min, Bool, true, false, cond, not, ◌&&◌, eqb, List, [], ◌∷◌, ◌++◌, map, length, get_or, set, take, count_by, sym, refl, ap, ◌∙◌, ⊎_elim, arith}
use Rattle.std.specs.List.{range_with_len}
use Rattle.std.proofs.lemmas.List.FromFn.{length-map-range_with_len, get_or-map-range_with_len}
use Rattle.std.proofs.lemmas.List.{same_lists, length-set, get_or-set_same, get_or-set_other, length-take-le, take_more, get_or_read_under}
use Rattle.std.proofs.lemmas.List.Sums.{sum_by_push, count_by-le-length}
use Rattle.std.proofs.lemmas.Bool.{cases_eq, eq-eqb, ne_eqb, cond-true, cond-false, and_right}
use Rattle.analysis.specs.declared.data.TreeAssignment.{TreeAssignment}
use Rattle.analysis.specs.declared.data.TermData.{TermData}
use Rattle.analysis.specs.Charges.{is, counts, tally, data_of, all_data, charged, within}
use Rattle.analysis.specs.Steps.{no_data, one_more, posted}
use Rattle.analysis.proofs.Joins.{kept_push}
use Rattle.analysis.proofs.Within.{within_at}

module _ {M : Type 0} (e : M) (op : M → M → M) (T : ℕ → M) where
  abbrev at : TreeAssignment → M
  at a = T a.node

  tally_yes : (xs : List TreeAssignment) (a : TreeAssignment) (t : ℕ) (v : Bool) → counts t v a ≡ true → length xs < 2 ^ 64 - 1 → tally e op T (xs ++ a ∷ []) t v ≡ one_more op (at a) (tally e op T xs t v)
  tally_yes xs a t v one short =
      let number : count_by (counts t v) (xs ++ a ∷ []) ≡ min (count_by (counts t v) xs + 1) (2 ^ 64 - 1) =
      sum_by_push (λ x. cond (counts t v x) 1 0) xs a ∙ ap (λ s. count_by (counts t v) xs + cond s 1 0) one ∙ omega (arith, count_by-le-length (counts t v) xs) in
      let joined = kept_push e op at (counts t v) xs a ∙ cond-true _ _ _ one in
      λ i. record { count = number i; charge = joined i }

  tally_no : (xs : List TreeAssignment) (a : TreeAssignment) (t : ℕ) (v : Bool) → counts t v a ≡ false → tally e op T (xs ++ a ∷ []) t v ≡ tally e op T xs t v
  tally_no xs a t v other =
      let number : count_by (counts t v) (xs ++ a ∷ []) ≡ count_by (counts t v) xs =
      sum_by_push (λ x. cond (counts t v x) 1 0) xs a ∙ ap (λ s. count_by (counts t v) xs + cond s 1 0) other ∙ omega arith in
      let joined = kept_push e op at (counts t v) xs a ∙ cond-false _ _ _ other in
      λ i. record { count = number i; charge = joined i }

  data_no : (xs : List TreeAssignment) (a : TreeAssignment) (t : ℕ) → ((v : Bool) → counts t v a ≡ false) → data_of e op T (xs ++ a ∷ []) t ≡ data_of e op T xs t
  data_no xs a t other = λ i. record { positive = tally_no xs a t true (other true) i; negative = tally_no xs a t false (other false) i }

  data_yes : (xs : List TreeAssignment) (a : TreeAssignment) → eqb a.node 0 ≡ false → length xs < 2 ^ 64 - 1 → data_of e op T (xs ++ a ∷ []) a.term.literal ≡ posted op a.term.value (at a) (data_of e op T xs a.term.literal)
  data_yes xs a outside short = by a.term.value refl
    where
      t : ℕ
      t = a.term.literal

      counted : (v w : Bool) → a.term.value ≡ w → counts t v a ≡ counts t v (record { term = record { literal = t; value = w }; node = a.node })
      counted v w e' = ap (λ b. counts t v (record { term = record { literal = t; value = b }; node = a.node })) e'

      tests : (b : Bool) → (not (eqb a.node 0) && (eqb t t && b)) ≡ b
      tests b = (λ i. not (outside i) && (eq-eqb t t refl i && b))

      by : (w : Bool) → a.term.value ≡ w → data_of e op T (xs ++ a ∷ []) t ≡ posted op w (at a) (data_of e op T xs t)
      by true e' = λ i. record { positive = tally_yes xs a t true (counted true true e' ∙ tests true) short i; negative = tally_no xs a t false (counted false true e' ∙ tests false) i }
      by false e' = λ i. record { positive = tally_no xs a t true (counted true false e' ∙ tests false) i; negative = tally_yes xs a t false (counted false false e' ∙ tests true) short i }

  -- nothing at node 0
  no_step : (n : ℕ) (xs : List TreeAssignment) (a : TreeAssignment) → eqb a.node 0 ≡ true → all_data e op T n (xs ++ a ∷ []) ≡ all_data e op T n xs
  no_step n xs a root =
      λ i. map (λ t. data_no xs a t (λ v. ap (λ s. not s && (eqb a.term.literal t && is v a.term.value)) root) i) (range_with_len 0 n)

  one_step : (n : ℕ) (xs : List TreeAssignment) (a : TreeAssignment) → a.term.literal < n → length xs < 2 ^ 64 - 1 → eqb a.node 0 ≡ false
      → all_data e op T n (xs ++ a ∷ []) ≡ set (all_data e op T n xs) a.term.literal (posted op a.term.value (at a) (get_or (all_data e op T n xs) a.term.literal (no_data e)))
  one_step n xs a in_table short outside =
      same_lists (all_data e op T n (xs ++ a ∷ [])) (set before t new) (long' ∙ sym (length-set before t new ∙ long)) (λ k d lt.
      let k_lt : k < n = omega (arith, long') in
      get_or-map-range_with_len (data_of e op T (xs ++ a ∷ [])) 0 n k k d k_lt (omega arith)
      ∙ ⊎_elim
      (λ (same : k ≡ t).
      ap (data_of e op T (xs ++ a ∷ [])) same ∙ data_yes xs a outside short ∙ ap (posted op a.term.value (at a)) (sym old)
      ∙ sym (ap (λ j. get_or (set before t new) j d) same ∙ get_or-set_same before t new d (omega (arith, long))))
      (λ differ.
      data_no xs a k (λ v. ap (λ s. not (eqb a.node 0) && (s && is v a.term.value)) (ne_eqb t k (λ same. differ (sym same))) ∙ and_right (not (eqb a.node 0)) false refl)
      ∙ sym (get_or-set_other before t k new d differ ∙ get_or-map-range_with_len (data_of e op T xs) 0 n k k d k_lt (omega arith)))
      (cases_eq k t))
    where
      t : ℕ
      t = a.term.literal

      before : List (TermData M)
      before = all_data e op T n xs

      new : TermData M
      new = posted op a.term.value (at a) (get_or before t (no_data e))

      long : length before ≡ n
      long = length-map-range_with_len (data_of e op T xs) 0 n

      long' : length (all_data e op T n (xs ++ a ∷ [])) ≡ n
      long' = length-map-range_with_len (data_of e op T (xs ++ a ∷ [])) 0 n

      old : get_or before t (no_data e) ≡ data_of e op T xs t
      old = get_or-map-range_with_len (data_of e op T xs) 0 n t t (no_data e) in_table (omega arith)

-- the first i assignments are charged, and then the one at i
module _ {M : Type 0} (e : M) (op : M → M → M) (ts : List M) (xs : List TreeAssignment) (i : ℕ) (d : TreeAssignment) where
  abbrev next : TreeAssignment
  next = get_or xs i d

  abbrev by : ℕ → M
  by k = get_or ts k e

  pub charge_none : (n : ℕ) → i < length xs → next.node ≡ 0 → charged e op ts n (take (i + 1) xs) ≡ charged e op ts n (take i xs)
  charge_none n lt root = ap (charged e op ts n) (take_more xs i d lt) ∙ no_step e op by n (take i xs) next (eq-eqb next.node 0 root)

  pub charge_more : (ys : List (TermData M)) (total : M) (old new : TermData M) (m : ℕ) → within (length ts) m xs ≡ true → length ys ≡ m → i < length xs → length xs < 2 ^ 64 → (next.node ≡ 0 → ⊥)
      → ys ≡ charged e op ts (length ys) (take i xs) → total ≡ get_or ts next.node total → old ≡ get_or ys next.term.literal old → new ≡ posted op next.term.value total old
      → set ys next.term.literal new ≡ charged e op ts (length (set ys next.term.literal new)) (take (i + 1) xs)
  charge_more ys total old new m all long lt few outside so total-is old-is now =
      let t = next.term.literal in
      let n = length ys in
      let fits = within_at (length ts) m xs i d all lt in
      let short : length (take i xs) < 2 ^ 64 - 1 = omega (arith, length-take-le i xs (omega arith)) in
      let total-at : total ≡ by next.node = get_or_read_under ts next.node _ total e total-is fits.0 refl in
      let old-at : old ≡ get_or ys t (no_data e) = get_or_read_under ys t _ old (no_data e) old-is fits.1 (sym long) in
      let new-at = now ∙ (λ j. posted op next.term.value (total-at j) (old-at j)) in
      (λ j. set (so j) t ((new-at ∙ ap (λ zs. posted op next.term.value (by next.node) (get_or zs t (no_data e))) so) j))
      ∙ sym (ap (λ k. charged e op ts k (take (i + 1) xs)) (length-set ys t new) ∙ ap (charged e op ts n) (take_more xs i d lt)
      ∙ one_step e op by n (take i xs) next (omega (arith, fits.1)) short (ne_eqb next.node 0 outside))
