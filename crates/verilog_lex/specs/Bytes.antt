-- Kinds of bytes, by their ASCII codes.
use Rattle.std.specs.Prelude.{ℕ, Bool, false, ◌&&◌, ◌||◌, not, ◌==◌, nat_lt, List, [], ◌∷◌}
use Rattle.std.specs.Char.{is_ascii_digit, is_ascii_alphabetic, is_ascii_uppercase, digit_value}

-- space, tab, carriage return and line feed
abbrev pub is_space : ℕ → Bool
is_space c = (c == 32) || ((c == 9) || ((c == 13) || (c == 10)))

-- what a comment may hold: every byte of ASCII but the line feed that ends it
abbrev pub is_comment_byte : ℕ → Bool
is_comment_byte c = nat_lt c 128 && not (c == 10)

abbrev pub is_digit : ℕ → Bool
is_digit c = is_ascii_digit c

-- a letter or `_`
abbrev pub begins_word : ℕ → Bool
begins_word c = is_ascii_alphabetic c || (c == 95)

abbrev pub is_word_byte : ℕ → Bool
is_word_byte c = is_ascii_digit c || begins_word c

-- a digit of a constant, whose letters are lower case
abbrev pub is_digit_of : ℕ → ℕ → Bool
is_digit_of radix c = nat_lt (digit_value c) radix && not (is_ascii_uppercase c)

abbrev pub begins_with : ℕ → List ℕ → Bool
begins_with b [] = false
begins_with b (c ∷ rest) = c == b
