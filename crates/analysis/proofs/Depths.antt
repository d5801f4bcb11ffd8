-- The depths of the nodes, each from that of its lead.
use Rattle.std.proofs.Common.{◌≡◌, ℕ, ◌+◌, ◌<◌, ◌≤◌, Some, None, Option, List, length, get_or, set, sym, ap, ◌∙◌, ◌^◌, Fits, w64, arith, rules}
use Rattle.std.proofs.lemmas.List.FromFn.{fill_by_all}
use Rattle.std.proofs.lemmas.List.Edits.{fill_by_more}
use Rattle.items.specs.declared.cdcl.Cdcl.{Cdcl}
use Rattle.tree.specs.Leads.{lead}
use Rattle.tree.specs.Ways.{depth}
use Rattle.tree.proofs.Leads.{lead_below}
use Rattle.tree.proofs.Ways.{depth_le, depth_root, depth_up}
use Rattle.analysis.specs.Totals.{all_depths}

module _ (ns : List Cdcl) where
  abbrev at : ℕ → ℕ
  at = depth (lead ns)

  -- the depths of the nodes below k stand in the entries ds
  unfoldable pub DepthsBelow : ℕ → List ℕ → Type 0
  DepthsBelow k ds = (i : ℕ) → i < k → get_or ds i 0 ≡ at i

  pub depths_none : (ds : List ℕ) → DepthsBelow 0 ds
  unfolding DepthsBelow
  depths_none ds i lt = absurd (omega arith)

  module _ (k : ℕ) (ds : List ℕ) (so : DepthsBelow k ds) where
    pub depths_lead : (o : Option ℕ) (q : ℕ) → o ≡ lead ns k → o ≡ Some q → (get_or ds q 0 < k) × (get_or ds q 0 + 1 ≡ at k)
    unfolding DepthsBelow
    depths_lead o q next is =
        let goes = sym next ∙ is in
        let lower = lead_below ns k q goes in
        let found = so q lower in
        (omega (arith, depth_le (lead ns) q), omega (arith, depth_up (lead ns) (lead_below ns) k q goes))

    pub depth_fits : (o : Option ℕ) (q : ℕ) → o ≡ lead ns k → o ≡ Some q → k < length ns → length ns < 2 ^ 64 → Fits w64 (get_or ds q 0 + 1)
    depth_fits o q next is lt few = let here = depths_lead o q next is in search rules

    pub depths_root : (o : Option ℕ) → o ≡ lead ns k → o ≡ None → at k ≡ 0
    depths_root o next is = depth_root (lead ns) (lead_below ns) k (sym next ∙ is)

    pub depths_more : (d : ℕ) → d ≡ at k → k < length ds → DepthsBelow (k + 1) (set ds k d)
    unfolding DepthsBelow
    depths_more d found lt i low = ap (λ x. get_or (set ds k x) i 0) found ∙ fill_by_more at ds k 0 lt so i low

    pub depths_all : length ds ≡ length ns → length ns ≤ k → ds ≡ all_depths ns
    unfolding DepthsBelow
    depths_all long high = fill_by_all at ds (length ns) 0 long (λ i lt. so i (omega arith))

pub ruleset found = (depths_none, depths_lead, depth_fits, depths_root, depths_more, depths_all)
