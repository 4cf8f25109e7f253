-- Numbers with a size and without.
use Rattle.std.specs.Prelude.{ℕ, Bool, false, ◌^◌, ◌==◌, ◌&&◌, nat_le, nat_lt, if◌then◌else◌, List, [], ◌∷◌, Option, Some, None}
use Rattle.std.specs.List.{prefix_len}
use Rattle.verilog_lex.specs.Bytes.{is_digit_of}
use Rattle.verilog_lex.specs.declared.token.TokenKind.{TokenKind}
use Rattle.verilog_lex.specs.declared.token.TokenKind.TheVariants as kind

-- a zero in front of another digit
abbrev pub has_leading_zero : List ℕ → Bool
has_leading_zero [] = false
has_leading_zero (c ∷ []) = false
has_leading_zero (c ∷ d ∷ digits) = c == 48

-- `b`, `d` and `h` name the radix 2, 10 and 16
abbrev pub radix_of : ℕ → Option ℕ
radix_of c = if c == 98 then Some 2 else (if c == 100 then Some 10 else (if c == 104 then Some 16 else None))

abbrev pub some_digits : ℕ → ℕ → Option (ℕ × ℕ)
some_digits radix n = if n == 0 then None else Some (radix, n)

abbrev pub digits_after : Option ℕ → List ℕ → Option (ℕ × ℕ)
digits_after None rest = None
digits_after (Some radix) rest = some_digits radix (prefix_len (is_digit_of radix) rest)

-- What of a constant follows its size: an apostrophe, the letter of its radix, and at least one digit. The radix, and how
-- many digits there are.
abbrev pub constant_in : List ℕ → Option (ℕ × ℕ)
constant_in [] = None
constant_in (q ∷ []) = None
constant_in (q ∷ base ∷ rest) = if q == 39 then digits_after (radix_of base) rest else None

-- a size from 1 to 64, and a value below 2 to the size
abbrev pub fits_size : ℕ → ℕ → Bool
fits_size size value = (nat_le 1 size && nat_le size 64) && nat_lt value (2 ^ size)

abbrev pub sized_kind : ℕ → ℕ → TokenKind
sized_kind size value = if fits_size size value then kind.Sized size value else kind.OutOfRange
