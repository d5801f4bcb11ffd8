-- The sweep over a list of nodes, from the last node down.
use Rattle.std.proofs.Common.{◌≡◌, ℕ, suc, ◌-◌, ◌<◌, ◌≤◌, Some, None, Option, List, map, length, get_or, set, sym, ap, ◌∙◌, subst, arith}
use Rattle.std.specs.List.{range_with_len}
use Rattle.std.proofs.lemmas.List.{length-set, get_or_read_under, get_or_default}
use Rattle.std.proofs.lemmas.List.FromFn.{get_or-map-range_with_len}
use Rattle.items.specs.declared.cdcl.Cdcl.{Cdcl}
use Rattle.items.specs.declared.cdcl.CdclKind.{CdclKind}
use Rattle.items.specs.declared.cdcl.CdclKind.TheVariants.{Root}
use Rattle.items.specs.Nodes.{new_node}
use Rattle.tree.specs.Leads.{lead}
use Rattle.tree.specs.Ways.{depth}
use Rattle.tree.proofs.Leads.{lead_below}
use Rattle.analysis.specs.Totals.{weight_at, all_depths, all_totals}
use Rattle.analysis.proofs.Joins.{Lawful}
use Rattle.analysis.proofs.Members.{Swept, swept_none, swept_root, swept_lead, swept_all}

module _ {M : Type 0} (e : M) (op : M → M → M) (laws : Lawful e op) (w : CdclKind → ℕ → M) (ns : List Cdcl) where
  -- the entries once the nodes from i on are visited
  unfoldable pub NodesSwept : ℕ → List M → Type 0
  NodesSwept = Swept (lead ns) (lead_below ns) e op laws (weight_at w ns) (length ns)

  pub sweep_none : (xs : List M) (n : ℕ) (u : M) → u ≡ e → n ≡ length ns → xs ≡ map (λ _. u) (range_with_len 0 n) → NodesSwept (length ns) xs
  unfolding NodesSwept
  sweep_none xs n u unit long clear =
      swept_none (lead ns) (lead_below ns) e op laws (weight_at w ns) (length ns) xs (clear ∙ (λ i. map (λ _. unit i) (range_with_len 0 (long i))))

  -- the node before i: its entry x is joined with its weight u
  module _ (i : ℕ) (xs : List M) (ds : List ℕ) (other : Cdcl) (x u t : M) (so : NodesSwept i xs) (some : 0 < i) (in_list : i ≤ length ns) (deep : ds ≡ all_depths ns)
      (weighed : u ≡ w (get_or ns (i - 1) other).kind (get_or ds (i - 1) 0)) (read : x ≡ get_or xs (i - 1) x) (joined : t ≡ op x u) where
    abbrev k : ℕ
    k = i - 1

    lt : k < length ns
    lt = omega arith

    weight : u ≡ weight_at w ns k
    weight =
        weighed
        ∙ (λ j. w (get_or_default ns k other (new_node Root 0 0) lt j).kind ((ap (λ l. get_or l k 0) deep ∙ get_or-map-range_with_len (depth (lead ns)) 0 (length ns) k k 0 lt (omega arith)) j))

    so' : NodesSwept (suc k) xs
    unfolding NodesSwept
    so' = subst (λ j. NodesSwept j xs) (omega arith) so

    now : t ≡ op (get_or xs k e) (weight_at w ns k)
    unfolding NodesSwept
    now = joined ∙ (λ j. op (get_or_read_under xs k (length ns) x e read lt (sym so.long) j) (weight j))

    pub sweep_root : (o : Option ℕ) → o ≡ lead ns (i - 1) → o ≡ None → NodesSwept (i - 1) (set xs (i - 1) t)
    unfolding NodesSwept
    sweep_root o next root = swept_root (lead ns) (lead_below ns) e op laws (weight_at w ns) (length ns) k xs lt so' t now (sym next ∙ root)

    pub sweep_lead : (o : Option ℕ) (q : ℕ) (y z : M) → o ≡ lead ns (i - 1) → o ≡ Some q → y ≡ get_or (set xs (i - 1) t) q y → z ≡ op y t → NodesSwept (i - 1) (set (set xs (i - 1) t) q z)
    unfolding NodesSwept
    sweep_lead o q y z next goes read' joined' =
        let goes' : lead ns k ≡ Some q = sym next ∙ goes in
        let lower = lead_below ns k q goes' in
        let at = get_or_read_under (set xs k t) q (length ns) y e read' (omega (arith, lower, lt)) (sym (length-set xs k t ∙ so.long)) in
        swept_lead (lead ns) (lead_below ns) e op laws (weight_at w ns) (length ns) k xs lt so' t now q z goes' (joined' ∙ ap (λ v. op v t) at)

  pub sweep_all : (i : ℕ) (xs : List M) → NodesSwept i xs → i ≤ 0 → xs ≡ all_totals e op w ns
  unfolding NodesSwept
  sweep_all i xs so done = swept_all (lead ns) (lead_below ns) e op laws (weight_at w ns) (length ns) xs (subst (λ j. NodesSwept j xs) (omega arith) so)

pub ruleset swept = (sweep_none, sweep_root, sweep_lead, sweep_all)
