-- The line at hand, at the input's end, as the carry memory has it.
use Rattle.std.proofs.Common.{◌≡◌, ℕ, zero, suc, List, [], ◌∷◌, length, Some, None, Option, refl, arith}
use Rattle.std.proofs.lemmas.List.{length-take-le}
use Rattle.std.proofs.lemmas.Bool.Decides.{nat_tests}
use Rattle.pieces.specs.Reading.{handed, last_line}
use Rattle.pieces.specs.Held.{pending_in, FitsIn}

pub last_handed : (carry : List ℕ) (held : Option ℕ) → FitsIn carry held → (held ≡ Some 0 → ⊥) → last_line (length carry) (pending_in carry held) ≡ Some (handed (pending_in carry held))
last_handed carry (Some zero) fits some = absurd (some refl)
last_handed [] (Some (suc n)) fits some = absurd (omega arith)
last_handed (x ∷ xs) (Some (suc n)) fits some = grind (arith, nat_tests, length-take-le)
last_handed carry None fits some = refl
