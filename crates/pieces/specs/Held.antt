-- The line at hand by the bytes held of it, which lie at the carry memory's start.
--   pending_in    the line at hand: `Some n` has n bytes, and `None` says that they are more than the limit
--   FitsIn        the bytes held lie within the carry memory
use Rattle.std.specs.Prelude.{ℕ, ◌≤◌, List, length, take, Some, None, Option, IfSome}
use Rattle.pieces.specs.Reading.{Pending, kept, over}

abbrev pub pending_in : List ℕ → Option ℕ → Pending
pending_in carry (Some n) = kept (take n carry)
pending_in carry None = over

abbrev pub FitsIn : List ℕ → Option ℕ → Type 0
FitsIn carry held = IfSome held (λ n. n ≤ length carry)
