-- Numbers in decimal, and what parsing gives of them.
use Rattle.std.proofs.Common.{◌≡◌, ◌≢◌, ◌∙◌, sym, ap, subst, ℕ, zero, suc, ◌<◌, ◌^◌, List, ◌∷◌, [], length, get_or, Result, Ok, decimal, arith}
use Rattle.std.specs.Result.{OkIff}
use Rattle.std.specs.Str.Parse.{AllDigits, digits_value, ParsesUnsigned}
use Rattle.std.proofs.lemmas.Str.Parse.{IsNumeralModel, numerals_by_value, tells_digits, parse_plain}
use Rattle.std.proofs.lemmas.Fmt.{decimal_digit, decimal-digits_value, first_decimal}

own : IsNumeralModel (AllDigits 10) (digits_value 10)
own = numerals_by_value (AllDigits 10) tells_digits

-- no `+` (43) in front, and no needless zero (48)
pub record IsPlain (bs : List ℕ) : Type 0 where
  pub unsigned : get_or bs 0 0 ≢ 43
  pub lone : get_or bs 0 0 ≡ 48 → length bs ≡ 1

-- a plain text that is parsed is the number in decimal
pub parsed_plain : {E : Type 0} (bs : List ℕ) (n : ℕ) (r : Result ℕ E) → IsPlain bs → ParsesUnsigned 32 10 bs r → r ≡ Ok n → bs ≡ decimal n
parsed_plain {E} bs n r plain parses is =
    let P : Result ℕ E → Type 0 = λ s. OkIff s (AllDigits 10 bs × (0 < length bs) × (digits_value 10 bs < 2 ^ 32)) (digits_value 10 bs) in
    let o = subst P is (parse_plain own 32 bs r parses plain.unsigned) in
    let e : decimal (digits_value 10 bs) ≡ bs = decimal-digits_value own bs o.0.0 o.0.1 plain.lone (omega (arith, o.0.2)) in
    sym e ∙ ap decimal (sym o.1)

-- what is in decimal is plain
zero_plain : (bs : List ℕ) → bs ≡ 48 ∷ [] → IsPlain bs
zero_plain bs e = let P : List ℕ → Type 0 = IsPlain in subst P (sym e) (record { unsigned = λ f. omega (arith, f); lone = λ _. omega arith })

pub decimal_plain : (n : ℕ) → n < 2 ^ 64 → IsPlain (decimal n)
decimal_plain zero low = zero_plain (decimal zero) (decimal_digit zero (omega arith))
decimal_plain (suc n) low =
    let first : 48 < get_or (decimal (suc n)) 0 0 = first_decimal (suc n) (omega arith) low in
    record { unsigned = λ e. omega (arith, first, e); lone = λ e. absurd (omega (arith, first, e)) }
