-- What a walk to the root has left, and what the questions about a way answer.
--   left c            the nodes that the cursor c has still to give
--   started r         the nodes of a cursor that was asked for, or the refusal
--   way_from ns k     the way of k in the list ns; 23 where there is no such node
--   depth_from ns k   its depth; 23 likewise
use Rattle.std.specs.Prelude.{ℕ, cond, List, length, Ok, Err, Result, nat_lt}
use Rattle.items.specs.declared.cdcl.Cdcl.{Cdcl}
use Rattle.refusal.specs.declared.refusals.Refusal.{Refusal}
use Rattle.refusal.specs.declared.refusals.Refusal.TheVariants.{BadNumber}
use Rattle.tree.specs.declared.cursor.ToRoot.{ToRoot}
use Rattle.tree.specs.Leads.{lead}
use Rattle.tree.specs.Ways.{way, onward, depth}

abbrev pub left : ToRoot → List ℕ
left c = onward (lead c.nodes.now) c.at

abbrev pub started : Result ToRoot Refusal → Result (List ℕ) Refusal
started (Ok c) = Ok (left c)
started (Err e) = Err e

abbrev pub way_from : List Cdcl → ℕ → Result (List ℕ) Refusal
way_from ns k = cond (nat_lt k (length ns)) (Ok (way (lead ns) k)) (Err BadNumber)

abbrev pub depth_from : List Cdcl → ℕ → Result ℕ Refusal
depth_from ns k = cond (nat_lt k (length ns)) (Ok (depth (lead ns) k)) (Err BadNumber)
