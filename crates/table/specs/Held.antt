-- What a table holds, and how much it can hold.
--   Held           the value of a table: its entries, in the order of their keys, and how many it can hold
--   pushed t x     what a push of x answers at the table t, and the table after it
--   written t k x  the table t with x in place of the entry of key k, if there is one
--   cut n t        the table t without the entries whose keys are n or more
use Rattle.std.specs.Prelude.{ℕ, cond, List, [], ◌∷◌, ◌++◌, length, take, slice_set, Ok, Err, Result, nat_lt}
use Rattle.table.specs.declared.Full.{Full}

pub record Held (T : Type 0) : Type 0 where
  pub held : List T
  pub room : ℕ

-- the key is the number of entries before; a full table refuses, and stays as it was
abbrev pub pushed : {T : Type 0} → Held T → T → Result ℕ Full × Held T
pushed t x =
    cond (nat_lt (length t.held) t.room) (Ok (length t.held), record t { held = t.held ++ x ∷ [] }) (Err (record {}), t)

abbrev pub written : {T : Type 0} → Held T → ℕ → T → Held T
written t k x = record t { held = slice_set t.held k x }

abbrev pub cut : {T : Type 0} → ℕ → Held T → Held T
cut n t = record t { held = take n t.held }
