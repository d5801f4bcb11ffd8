-- Ways to the root: how one goes on, how long it is, that its numbers fall, and where it ends.
use Rattle.std.proofs.Common.{◌≡◌, ℕ, zero, suc, ◌-◌, ◌<◌, ◌≤◌, [], ◌∷◌, length, Some, None, Option, sym, refl, ap, ◌∙◌, arith}
use Rattle.tree.specs.Ways.{Below, Falls, nodes_on, way, onward, depth, last_of, WayLaws}

none_on : (up : ℕ → Option ℕ) (n : ℕ) → nodes_on up n None ≡ []
none_on up zero = refl
none_on up (suc n) = refl

length_on : (up : ℕ → Option ℕ) (n : ℕ) (o : Option ℕ) → length (nodes_on up n o) ≤ n
length_on up zero o = omega arith
length_on up (suc n) None = omega arith
length_on up (suc n) (Some k) = omega (arith, length_on up n (up k))

pub depth_le : (up : ℕ → Option ℕ) (k : ℕ) → depth up k ≤ k
depth_le up k = omega (arith, length_on up k (up k))

module _ (up : ℕ → Option ℕ) (falling : Below up) where
  -- room for more nodes than there are changes nothing
  room_enough : (m n k : ℕ) → k < m → k < n → nodes_on up m (Some k) ≡ nodes_on up n (Some k)
  room_enough zero n k lt lt' = absurd (omega arith)
  room_enough (suc m) zero k lt lt' = absurd (omega arith)
  room_enough (suc m) (suc n) k lt lt' =
      ap (λ xs. k ∷ xs) (next (up k) (λ p e. let lower = falling k p e in room_enough m n p (omega arith) (omega arith)))
    where
      next : (o : Option ℕ) → ((p : ℕ) → o ≡ Some p → nodes_on up m (Some p) ≡ nodes_on up n (Some p)) → nodes_on up m o ≡ nodes_on up n o
      next None rest = none_on up m ∙ sym (none_on up n)
      next (Some p) rest = rest p refl

  pub way_on : (k : ℕ) → way up k ≡ k ∷ onward up (up k)
  way_on k = ap (λ xs. k ∷ xs) (next (up k) (λ p e. falling k p e))
    where
      next : (o : Option ℕ) → ((p : ℕ) → o ≡ Some p → p < k) → nodes_on up k o ≡ onward up o
      next None lower = none_on up k
      next (Some p) lower = room_enough k (suc p) p (lower p refl) (omega arith)

  way_root : (k : ℕ) → up k ≡ None → way up k ≡ k ∷ []
  way_root k e = way_on k ∙ ap (λ o. k ∷ onward up o) e

  way_up : (k p : ℕ) → up k ≡ Some p → way up k ≡ k ∷ way up p
  way_up k p e = way_on k ∙ ap (λ o. k ∷ onward up o) e

  pub depth_root : (k : ℕ) → up k ≡ None → depth up k ≡ 0
  depth_root k e = ap (λ xs. length xs - 1) (way_root k e)

  pub depth_up : (k p : ℕ) → up k ≡ Some p → depth up k ≡ suc (depth up p)
  depth_up k p e = omega (arith, ap length (way_up k p e))

  falls_on : (n k : ℕ) → Falls (nodes_on up n (Some k))
  falls_on zero k = tt
  falls_on (suc zero) k = tt
  falls_on (suc (suc n)) k = next (up k) (falling k) (falls_on (suc n))
    where
      next : (o : Option ℕ) → ((p : ℕ) → o ≡ Some p → p < k) → ((p : ℕ) → Falls (nodes_on up (suc n) (Some p))) → Falls (k ∷ nodes_on up (suc n) o)
      next None lower rest = tt
      next (Some p) lower rest = (lower p refl, rest p)

  ends_at : (n k : ℕ) → k < n → (up (last_of (way up k)) ≡ None) × (last_of (way up k) ≤ k)
  ends_at zero k lt = absurd (omega arith)
  ends_at (suc n) k lt = next (up k) refl (λ p goes. let lower = falling k p goes in ends_at n p (omega arith))
    where
      next : (o : Option ℕ) → up k ≡ o → ((p : ℕ) → up k ≡ Some p → (up (last_of (way up p)) ≡ None) × (last_of (way up p) ≤ p))
          → (up (last_of (way up k)) ≡ None) × (last_of (way up k) ≤ k)
      next None root rest = (ap (λ xs. up (last_of xs)) (way_root k root) ∙ root, omega (arith, ap last_of (way_root k root)))
      next (Some p) goes rest =
          let further = rest p goes in
          let same = ap last_of (way_up k p goes) in
          (ap up same ∙ further.0, omega (arith, same, further.1, falling k p goes))

  pub way_laws : (k : ℕ) → WayLaws up k
  way_laws k =
      let end = ends_at (suc k) k (omega arith) in
      record { begins = way_on k; falls = falls_on (suc k) k; ends = end.0; root = λ only. only (last_of (way up k)) end.1 end.0 }
