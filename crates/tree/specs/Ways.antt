-- The way of a node to the root, where up k is the next node of k towards the root.
--   Below up       each lead is below its node
--   way up k       the nodes from k to the root, both in it
--   onward up o    the way of the node o, or no nodes where o is none
--   depth up k     the number of steps on the way of k
--   passes up k j  the way of j passes through k
--   last_of xs     the last of some numbers
--   WayLaws up k   the way of k begins with k and goes on as its lead's way does; its numbers fall; its last node has no lead, and is 0 where 0 alone has none of the nodes up to k
use Rattle.std.specs.Prelude.{◌≡◌, ℕ, zero, suc, ◌-◌, ◌<◌, ◌≤◌, Bool, false, ◌||◌, List, [], ◌∷◌, length, Some, None, Option, ◌==◌}

abbrev pub Below : (ℕ → Option ℕ) → Type 0
Below up = (k p : ℕ) → up k ≡ Some p → p < k

-- at most so many nodes
abbrev pub nodes_on : (ℕ → Option ℕ) → ℕ → Option ℕ → List ℕ
nodes_on up zero o = []
nodes_on up (suc n) None = []
nodes_on up (suc n) (Some k) = k ∷ nodes_on up n (up k)

-- leads fall, so k and those below it are all that can follow
abbrev pub way : (ℕ → Option ℕ) → ℕ → List ℕ
way up k = nodes_on up (suc k) (Some k)

abbrev pub onward : (ℕ → Option ℕ) → Option ℕ → List ℕ
onward up None = []
onward up (Some k) = way up k

abbrev pub depth : (ℕ → Option ℕ) → ℕ → ℕ
depth up k = length (way up k) - 1

abbrev pub has : ℕ → List ℕ → Bool
has k [] = false
has k (x ∷ xs) = x == k || has k xs

abbrev pub passes : (ℕ → Option ℕ) → ℕ → ℕ → Bool
passes up k j = has k (way up j)

-- each number is below the one before it
abbrev pub Falls : List ℕ → Type 0
Falls [] = Unit {0}
Falls (x ∷ []) = Unit {0}
Falls (x ∷ y ∷ xs) = (y < x) × Falls (y ∷ xs)

abbrev pub last_of : List ℕ → ℕ
last_of [] = 0
last_of (x ∷ []) = x
last_of (x ∷ y ∷ xs) = last_of (y ∷ xs)

pub record WayLaws (up : ℕ → Option ℕ) (k : ℕ) : Type 0 where
  pub begins : way up k ≡ k ∷ onward up (up k)
  pub falls : Falls (way up k)
  pub ends : up (last_of (way up k)) ≡ None
  pub root : ((j : ℕ) → j ≤ k → up j ≡ None → j ≡ 0) → last_of (way up k) ≡ 0
