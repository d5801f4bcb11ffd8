-- The numbers that texts write in decimal.
--   value_after n cs          the value of the digits cs after those of n
--   digits_after limit n cs   that value, where cs are digits and it is within the limit
--   unsigned limit cs         the number that one digit or more write, within the limit
--   after_plus cs             cs without the plus sign in front, if there is one
--   numeral limit cs          the number that one digit or more write after at most one plus sign
--   signed_numeral cs         the number of 32 bits that digits write after at most one sign
use Rattle.std.specs.Prelude.{ℕ, ◌+◌, ◌-◌, ◌*◌, ◌^◌, cond, ◌&&◌, List, [], ◌∷◌, ℤ, pos, neg_ℤ, Some, None, Option, ◌==◌, nat_le}
use Rattle.std.specs.Option.{option_map}
use Rattle.std.specs.Str.{all_ascii_digits}

abbrev pub value_after : ℕ → List ℕ → ℕ
value_after n [] = n
value_after n (c ∷ cs) = value_after (n * 10 + (c - 48)) cs

abbrev pub digits_after : ℕ → ℕ → List ℕ → Option ℕ
digits_after limit n cs = cond (all_ascii_digits cs && nat_le (value_after n cs) limit) (Some (value_after n cs)) None

abbrev pub unsigned : ℕ → List ℕ → Option ℕ
unsigned limit [] = None
unsigned limit (c ∷ cs) = digits_after limit 0 (c ∷ cs)

abbrev pub after_plus : List ℕ → List ℕ
after_plus [] = []
after_plus (c ∷ cs) = cond (c == 43) cs (c ∷ cs)

abbrev pub numeral : ℕ → List ℕ → Option ℕ
numeral limit cs = unsigned limit (after_plus cs)

abbrev pub signed_numeral : List ℕ → Option ℤ
signed_numeral [] = None
signed_numeral (c ∷ cs) =
    cond (c == 45) (option_map (λ n. neg_ℤ (pos n)) (unsigned (2 ^ 31) cs)) (option_map pos (numeral (2 ^ 31 - 1) (c ∷ cs)))
