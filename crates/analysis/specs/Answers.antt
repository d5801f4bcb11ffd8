-- What a call on lent tables answers.
--   judged ok xs ys     where ok says that the tables suffice: nothing to tell, and they hold xs then; else the refusal 22, and they hold ys, as they did
--   overwritten xs ys   the entries ys with xs written over the first of them
use Rattle.std.specs.Prelude.{Bool, cond, List, ◌++◌, length, drop, Ok, Err, Result}
use Rattle.refusal.specs.declared.refusals.Refusal.{Refusal}
use Rattle.refusal.specs.declared.refusals.Refusal.TheVariants.{BadTables}

abbrev pub judged : {X : Type 0} → Bool → X → X → Result (Unit {0}) Refusal × X
judged ok xs ys = cond ok (Ok tt, xs) (Err BadTables, ys)

abbrev pub overwritten : {X : Type 0} → List X → List X → List X
overwritten xs ys = xs ++ drop (length xs) ys
