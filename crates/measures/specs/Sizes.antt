-- Two Sizes of one total are the same, and the laws of their sum.
use Rattle.std.specs.Prelude.{◌≡◌, ℕ, ◌%◌, ◌^◌, ◌<◌}
use mathlib.Core.HLevel.{is_prop→PathP}
use Rattle.std.proofs.Math.Bridge.{le_prop}
use Rattle.std.proofs.Common.{arith}
use Rattle.measures.specs.declared.kinds.Size.{Size}
use Rattle.measures.specs.Measures.{size, empty_size, size_sum}

same_size : (x y : Size) → x.total ≡ y.total → x ≡ y
same_size x y e = λ i. record { total = e i; fits = is_prop→PathP (λ j. e j < 2 ^ 64) (λ j. le_prop) x.fits y.fits i }

pub size_fits : (x : Size) (n : ℕ) → x.total ≡ n → x ≡ size n
size_fits x n e = let fits = x.fits in same_size _ _ (omega arith)

pub size_mod : (n : ℕ) → size (n % 2 ^ 64) ≡ size n
size_mod n = same_size _ _ (omega arith)

pub sizes_assoc : (x y z : Size) → size_sum (size_sum x y) z ≡ size_sum x (size_sum y z)
sizes_assoc x y z = same_size _ _ (omega arith)

pub sizes_comm : (x y : Size) → size_sum x y ≡ size_sum y x
sizes_comm x y = same_size _ _ (omega arith)

pub sizes_none : (x : Size) → size_sum empty_size x ≡ x
sizes_none x = let fits = x.fits in same_size _ _ (omega arith)
