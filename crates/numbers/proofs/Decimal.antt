-- The decimal text of a number is read back as that number.
use Rattle.std.proofs.Common.{◌≡◌, ℕ, suc, ◌-◌, ◌^◌, ◌<◌, ◌≤◌, true, leb, length, get_or, ℤ, pos, negsuc, neg_ℤ, Some, decimal, ap, ◌∙◌, arith, w32, SFits, rules, le-leb}
use Rattle.std.specs.Option.{option_map}
use Rattle.std.specs.Fmt.{signed_decimal as written}
use Rattle.std.specs.List.{AllByRecursion}
use Rattle.std.specs.Str.{all_ascii_digits}
use Rattle.std.proofs.lemmas.Fmt.{decimal_nonempty, digits_decimal, digits_value-decimal}
use Rattle.std.proofs.ByRecursion.{All-from_get_or}
use Rattle.std.proofs.lemmas.Str.Parse.{IsNumeralModel, numerals_by_fold, tells_all_ascii_digits, digit_at}
use Rattle.std.proofs.lemmas.Bool.{and_from, cond-true}
use Rattle.numbers.specs.Numeral.{value_after, unsigned, after_plus, numeral, signed_numeral}
use Rattle.numbers.proofs.Values.{not_empty, after_plus_none, signed_plain}

-- `all_ascii_digits` and `value_after 0` are digits and their value as the library reads them
pub own : IsNumeralModel (λ ds. all_ascii_digits ds ≡ true) (value_after 0)
own = numerals_by_fold _ tells_all_ascii_digits value_after (search rules)

pub decimal_digits : (n : ℕ) → n < 2 ^ 64 → all_ascii_digits (decimal n) ≡ true
decimal_digits n h = digits_decimal own n h

pub decimal_at : (n i : ℕ) → n < 2 ^ 64 → i < length (decimal n) → (48 ≤ get_or (decimal n) i 0) × (get_or (decimal n) i 0 ≤ 57)
decimal_at n i h lt = digit_at (decimal n) i (own.to (decimal n) (decimal_digits n h)) lt

-- what holds of every digit holds of each byte
pub decimal_all : (P : ℕ → Type 0) → ((c : ℕ) → 48 ≤ c → c ≤ 57 → P c) → (n : ℕ) → n < 2 ^ 64 → AllByRecursion P (decimal n)
decimal_all P each n h = All-from_get_or P (decimal n) 0 (λ i lt. let k = decimal_at n i h lt in each (get_or (decimal n) i 0) k.0 k.1)

-- the same, where a minus sign may stand in front
pub written_all : (P : ℕ → Type 0) → P 45 → ((c : ℕ) → 48 ≤ c → c ≤ 57 → P c) → (z : ℤ) → SFits w32 z → AllByRecursion P (written z)
written_all P minus each (pos n) h = let lt : n < 2 ^ 31 = h.sfits in decimal_all P each n (omega arith)
written_all P minus each (negsuc n) h = let lt : n < 2 ^ 31 = h.sfits in (minus, decimal_all P each (suc n) (omega arith))

pub decimal_first : (n : ℕ) → n < 2 ^ 64 → (48 ≤ get_or (decimal n) 0 0) × (get_or (decimal n) 0 0 ≤ 57)
decimal_first n h = decimal_at n 0 h (decimal_nonempty n h)

pub unsigned-decimal : (limit n : ℕ) → limit < 2 ^ 64 → n ≤ limit → unsigned limit (decimal n) ≡ Some n
unsigned-decimal limit n fits le =
    let h : n < 2 ^ 64 = omega arith in
    let value = digits_value-decimal own n h in
    let within : leb (value_after 0 (decimal n)) limit ≡ true = le-leb _ _ (omega arith) in
    not_empty limit (decimal n) (decimal_nonempty n h)
    ∙ cond-true _ _ _ (and_from _ _ (decimal_digits n h) within) ∙ ap Some value

-- a decimal text has no sign in front
pub after_plus-decimal : (n : ℕ) → n < 2 ^ 64 → after_plus (decimal n) ≡ decimal n
after_plus-decimal n h = let first = decimal_first n h in after_plus_none (decimal n) (λ e. omega arith)

pub numeral-decimal : (limit n : ℕ) → limit < 2 ^ 64 → n ≤ limit → numeral limit (decimal n) ≡ Some n
numeral-decimal limit n fits le = ap (unsigned limit) (after_plus-decimal n (omega arith)) ∙ unsigned-decimal limit n fits le

pub signed_numeral-written : (z : ℤ) → SFits w32 z → signed_numeral (written z) ≡ Some z
signed_numeral-written (pos n) h =
    let lt : n < 2 ^ 31 = h.sfits in
    let first = decimal_first n (omega arith) in
    signed_plain (decimal n) (λ e. omega arith) ∙ ap (option_map pos) (numeral-decimal (2 ^ 31 - 1) n (omega arith) (omega arith))
signed_numeral-written (negsuc n) h =
    let lt : n < 2 ^ 31 = h.sfits in
    ap (option_map (λ n. neg_ℤ (pos n))) (unsigned-decimal (2 ^ 31) (suc n) (omega arith) (omega arith))

pub ruleset read_back = (unsigned-decimal, numeral-decimal, signed_numeral-written)
