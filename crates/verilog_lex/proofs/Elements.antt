-- A lexical element has at least one byte, and no more than the text.
use Rattle.std.proofs.Common.{◌≡◌, ℕ, suc, ◌+◌, ◌<◌, ◌≤◌, ◌==◌, ◌&&◌, true, List, [], ◌∷◌, length, take, drop, Option, Some, None, refl, sym, ap, arith, lit<, ◌-◌, nat_le, nat_eq, length-drop, length-take}
use Rattle.std.proofs.lemmas.List.Folds.{length-prefix_len}
use Rattle.std.proofs.lemmas.List.Sums.{prefix_len-le-length}
use Rattle.std.specs.Cmp.Lexicographic.{same_text}
use Rattle.std.specs.List.{prefix_len, starts_with}
use Rattle.std.specs.Str.Parse.{digits_value}
use Rattle.std.proofs.lemmas.Bool.{and_parts, cond_both, or_right}
use Rattle.verilog_lex.specs.Bytes.{is_space, is_comment_byte, is_digit, begins_word, is_word_byte, begins_with, is_digit_of}
use Rattle.verilog_lex.specs.Words.{symbol_text, symbols}
use Rattle.verilog_lex.specs.Number.{has_leading_zero, radix_of, some_digits, digits_after, constant_in}
use Rattle.verilog_lex.specs.Element.{IsWithin, element_in, number_in, number_element, sized_or_plain, symbol_at, symbol_in, symbol_or_nothing}
use Rattle.verilog_lex.specs.declared.token.Symbol.{Symbol}
use Rattle.verilog_lex.specs.declared.token.Symbol.TheVariants as symbol
use Rattle.verilog_lex.specs.declared.element.LexicalElement.{LexicalElement}
use Rattle.verilog_lex.proofs.ByteRuns.{find_passes, prefix_of}

some_digits_within : (r n len : ℕ) (c : ℕ × ℕ) → n ≤ len → some_digits r n ≡ Some c → c.1 ≤ len
some_digits_within r n len c h =
    let P : Option (ℕ × ℕ) → Type 0 = λ o. o ≡ Some c → c.1 ≤ len in
    cond_both (n == 0) None (Some (r, n)) P (λ _ e. absurd cc) (λ _ e.
    let same : (r, n) ≡ c = cc in let count : n ≡ c.1 = ap (λ (p : ℕ × ℕ). p.1) same in omega arith)

digits_after_within : (o : Option ℕ) (rest : List ℕ) (c : ℕ × ℕ) → digits_after o rest ≡ Some c → c.1 ≤ length rest
digits_after_within None rest c e = absurd cc
digits_after_within (Some r) rest c e = some_digits_within r (prefix_len (is_digit_of r) rest) (length rest) c (prefix_len-le-length (is_digit_of r) rest) e

-- what follows a size lies within the text
pub constant_within : (text : List ℕ) (c : ℕ × ℕ) → constant_in text ≡ Some c → 2 + c.1 ≤ length text
constant_within [] c = λ e. absurd cc
constant_within (q ∷ []) c = λ e. absurd cc
constant_within (q ∷ base ∷ rest) c =
    let P : Option (ℕ × ℕ) → Type 0 = λ o. o ≡ Some c → 2 + c.1 ≤ length (q ∷ base ∷ rest) in
    cond_both (q == 39) (digits_after (radix_of base) rest) None P
    (λ _ e. let count : c.1 ≤ length rest = digits_after_within (radix_of base) rest c e in omega arith) (λ _ e. absurd cc)

sized_or_plain_within : (digits after : List ℕ) (o : Option (ℕ × ℕ)) (len : ℕ) → 0 < length digits → length digits + length after ≡ len → ((c : ℕ × ℕ) → o ≡ Some c → 2 + c.1 ≤ length after) → IsWithin (sized_or_plain digits after o) len
sized_or_plain_within digits after None len some whole h =
    let P : LexicalElement → Type 0 = λ p. IsWithin p len in
    cond_both (nat_le (digits_value 10 digits) 65536) _ _ P (λ _. (some, omega arith)) (λ _. tt)
sized_or_plain_within digits after (Some c) len some whole h =
    let count : 2 + c.1 ≤ length after = h c refl in (omega arith, omega arith)

number_element_within : (digits after : List ℕ) (len : ℕ) → 0 < length digits → length digits + length after ≡ len → IsWithin (number_element digits after) len
number_element_within digits after len some whole =
    let P : LexicalElement → Type 0 = λ p. IsWithin p len in
    cond_both (has_leading_zero digits) _ _ P (λ _. tt) (λ _. sized_or_plain_within digits after (constant_in after) len some whole (constant_within after))

number_within : (text : List ℕ) → 0 < prefix_len is_digit text → IsWithin (number_in text) (length text)
number_within text h =
    let n = prefix_len is_digit text in
    let prefix : length (take n text) ≡ n = length-prefix_len is_digit text in
    let back : length (drop n text) ≡ length text - n = length-drop n text in
    let bound : n ≤ length text = prefix_len-le-length is_digit text in
    number_element_within (take n text) (drop n text) (length text) (omega arith) (omega arith)

pub symbol_positive : (s : Symbol) → 0 < length (symbol_text s)
symbol_positive symbol.LessEqual = lit< tt
symbol_positive s = lit< tt

-- a text that starts with another is as long at least
pub longer : (text prefix : List ℕ) → starts_with nat_eq text prefix ≡ true → length prefix ≤ length text
longer text prefix e =
    let same : length prefix ≡ length (take (length prefix) text) = ap length (same_text prefix (take (length prefix) text) (sym e)) in
    omega (arith, length-take (length prefix) text)

symbol_or_nothing_within : (o : Option Symbol) (text : List ℕ) → ((s : Symbol) → o ≡ Some s → length (symbol_text s) ≤ length text) → IsWithin (symbol_or_nothing o) (length text)
symbol_or_nothing_within None text h = tt
symbol_or_nothing_within (Some s) text h = (symbol_positive s, h s refl)

symbol_within : (text : List ℕ) → IsWithin (symbol_in text) (length text)
symbol_within text = symbol_or_nothing_within (symbol_at text) text (λ s e. longer text (symbol_text s) (find_passes (λ s. starts_with nat_eq text (symbol_text s)) symbols s e))

pub comment_within : (rest : List ℕ) → begins_with 47 rest ≡ true → 2 + prefix_len is_comment_byte (drop 1 rest) ≤ suc (length rest)
comment_within [] e = absurd cc
comment_within (c ∷ rest) e = let bound : prefix_len is_comment_byte rest ≤ length rest = prefix_len-le-length is_comment_byte rest in omega arith

pub element_within : (text : List ℕ) → IsWithin (element_in text) (length text)
element_within [] = tt
element_within (c ∷ rest) =
    let P : LexicalElement → Type 0 = λ p. IsWithin p (length (c ∷ rest)) in
    cond_both (is_space c) _ _ P (λ _. (omega arith, omega arith)) (λ _.
    cond_both ((c == 47) && begins_with 47 rest) _ _ P (λ e. (omega arith, comment_within rest (and_parts _ _ e).1)) (λ _.
    cond_both (is_digit c) _ _ P (λ d. number_within (c ∷ rest) (prefix_of is_digit c rest d)) (λ _.
    cond_both (begins_word c) _ _ P (λ w. (prefix_of is_word_byte c rest (or_right (is_digit c) (begins_word c) w), prefix_len-le-length is_word_byte (c ∷ rest))) (λ _. symbol_within (c ∷ rest)))))
