-- Leads in a list of nodes, and the ways that follow them.
use Rattle.std.proofs.Common.{◌≡◌, ℕ, List, ◌∷◌, rules}
use Rattle.items.specs.declared.cdcl.Cdcl.{Cdcl}
use Rattle.tree.specs.Leads.{lead}
use Rattle.tree.specs.Ways.{Below, way, onward, WayLaws}
use Rattle.tree.proofs.Ways.{way_on, way_laws}

pub lead_below : (ns : List Cdcl) → Below (lead ns)
lead_below ns k p e = search rules

pub way_more : (ns : List Cdcl) (k : ℕ) → way (lead ns) k ≡ k ∷ onward (lead ns) (lead ns k)
way_more ns = way_on (lead ns) (lead_below ns)

pub laws_of : (ns : List Cdcl) (k : ℕ) → WayLaws (lead ns) k
laws_of ns = way_laws (lead ns) (lead_below ns)
