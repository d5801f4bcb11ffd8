-- How the nodes of a tree are linked.
--   new_node c f p     a node of the kind c at the frame f, with an empty run of propagations at the key p
--   before k           the number before k; 0 has none
--   other_than b o     the node o, or none where it is b
--   backlink_of k c    previous, backtrack and sidetrack of node k, which is of the kind c
--   to_root b          the lead that a backlink gives: its backtrack, or else its previous
--   lead_of k c        the next node towards the root: a Decision's is the node before, Empty's and Conflict's parent and target, BeginCheck's its parent or node 0, Root's none
use Rattle.std.specs.Prelude.{ℕ, ◌-◌, Bool, true, false, cond, Some, None, Option, ◌==◌}
use Rattle.items.specs.declared.cdcl.Cdcl.{Cdcl}
use Rattle.items.specs.declared.cdcl.CdclBacklink.{CdclBacklink}
use Rattle.items.specs.declared.cdcl.CdclKind.{CdclKind}
use Rattle.items.specs.declared.cdcl.CdclKind.TheVariants.{Root, BeginCheck, Empty, Decision, Conflict}

abbrev pub new_node : CdclKind → ℕ → ℕ → Cdcl
new_node c f p = record { kind = c; frame = f; propagates = record { start = p; count = 0 }; conflicts = false }

abbrev pub before : ℕ → Option ℕ
before k = cond (k == 0) None (Some (k - 1))

abbrev pub other_than : ℕ → Option ℕ → Option ℕ
other_than b None = None
other_than b (Some p) = cond (p == b) None (Some p)

abbrev link : Option ℕ → Option ℕ → Bool → CdclBacklink
link p b s = record { previous = p; backtrack = b; sidetrack = s }

abbrev pub backlink_of : ℕ → CdclKind → CdclBacklink
backlink_of k Root = link None None false
backlink_of k (BeginCheck None) = link None (Some 0) true
backlink_of k (BeginCheck (Some b)) = link (other_than b (before k)) (Some b) true
backlink_of k (Empty b) = link (other_than b (before k)) (Some b) true
backlink_of k (Decision l) = link (before k) None false
backlink_of k (Conflict c) = link (before k) (Some c.backtrack) false

abbrev first_some : Option ℕ → Option ℕ → Option ℕ
first_some (Some b) p = Some b
first_some None p = p

abbrev pub to_root : CdclBacklink → Option ℕ
to_root b = first_some b.backtrack b.previous

abbrev pub lead_of : ℕ → CdclKind → Option ℕ
lead_of k Root = None
lead_of k (BeginCheck None) = Some 0
lead_of k (BeginCheck (Some b)) = Some b
lead_of k (Empty b) = Some b
lead_of k (Decision l) = before k
lead_of k (Conflict c) = Some c.backtrack
