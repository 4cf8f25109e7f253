-- What a text begins with, where it is a spelled token and then whatever may follow.
use Rattle.std.proofs.Common.{◌≡◌, ℕ, zero, suc, ◌+◌, ◌<◌, ◌≤◌, ◌^◌, ◌==◌, ◌&&◌, true, false, not, List, [], ◌∷◌, ◌++◌, length, take, drop, get_or, Some, None, refl, ap, ◌∙◌, arith, lit<, nat_le, nat_lt, append_assoc, length-append}
use Rattle.std.proofs.lemmas.Bool.Decides.{nat_tests}
use Rattle.std.proofs.Math.Nat.{pow-le-pow_right}
use Rattle.std.proofs.Math.Seq.{take-append_seam, drop-append_seam}
use Rattle.std.proofs.lemmas.Fmt.{decimal_is_IsNumeral, first_decimal, decimal_digit}
use Rattle.std.proofs.lemmas.Str.Parse.{digit_from_value}
use Rattle.std.specs.Char.{digit_value, is_ascii_uppercase}
use Rattle.std.specs.Fmt.{decimal}
use Rattle.std.specs.List.{prefix_len, list_all}
use Rattle.std.specs.Str.Parse.{AllDigits, digits_value}
use Rattle.std.proofs.lemmas.Bool.{and_from, and_left, and_parts, cond-false, cond-true, or_parts, or_right, lt-ltb, le-leb, ltb-true, leb-true, false_from_ne_true}
use Rattle.verilog_lex.specs.Bytes.{is_space, is_digit, begins_word, is_word_byte, begins_with, is_digit_of}
use Rattle.verilog_lex.specs.Words.{keyword_text}
use Rattle.verilog_lex.specs.Number.{has_leading_zero, radix_of, some_digits, digits_after, constant_in, sized_kind, fits_size}
use Rattle.verilog_lex.specs.Element.{element_in, number_in, number_element, sized_or_plain, plain_element, word_in, word_kind}
use Rattle.verilog_lex.specs.Spelling.{is_word, goes_on, sized_text}
use Rattle.verilog_lex.specs.declared.element.LexicalElement.TheVariants.{Token}
use Rattle.verilog_lex.specs.declared.token.Keyword.{Keyword}
use Rattle.verilog_lex.specs.declared.token.Keyword.TheVariants as keyword
use Rattle.verilog_lex.specs.declared.token.TokenKind.TheVariants as kind
use Rattle.verilog_lex.proofs.ByteRuns.{stops, prefix_len-whole, word_no_space, word_no_slash, word_no_digit, digit_no_space, digit_no_slash}

-- a text that begins with a letter or `_` begins with a word
element_in-letter : (c : ℕ) (rest : List ℕ) → begins_word c ≡ true → element_in (c ∷ rest) ≡ word_in (c ∷ rest)
element_in-letter c rest e =
    cond-false (is_space c) _ _ (word_no_space c e)
    ∙ cond-false ((c == 47) && begins_with 47 rest) _ _ (and_left (c == 47) (begins_with 47 rest) (word_no_slash c e))
    ∙ cond-false (is_digit c) _ _ (word_no_digit c e)
    ∙ cond-true (begins_word c) _ _ e

-- and one that begins with a digit begins with a number
element_in-digit : (c : ℕ) (rest : List ℕ) → is_digit c ≡ true → element_in (c ∷ rest) ≡ number_in (c ∷ rest)
element_in-digit c rest e =
    cond-false (is_space c) _ _ (digit_no_space c e)
    ∙ cond-false ((c == 47) && begins_with 47 rest) _ _ (and_left (c == 47) (begins_with 47 rest) (digit_no_slash c e))
    ∙ cond-true (is_digit c) _ _ e

word_bytes : (word : List ℕ) → is_word word ≡ true → list_all is_word_byte word ≡ true
word_bytes [] e = refl
word_bytes (c ∷ rest) e =
    and_from (is_word_byte c) (list_all is_word_byte rest) (or_right (is_digit c) (begins_word c) (and_parts _ _ e).0) (and_parts _ _ e).1

word_whole : (word rest : List ℕ) (n : ℕ) → n ≡ length word → Token (word_kind (take n (word ++ rest))) n ≡ Token (word_kind word) (length word)
word_whole word rest n e = ap (λ m. Token (word_kind (take m (word ++ rest))) m) e ∙ ap (λ bytes. Token (word_kind bytes) (length word)) (take-append_seam word rest)

-- a word that the rest does not go on with is read whole
pub element_in-word : (word rest : List ℕ) → is_word word ≡ true → stops is_word_byte rest ≡ true → element_in (word ++ rest) ≡ Token (word_kind word) (length word)
element_in-word [] rest e h = absurd cc
element_in-word (c ∷ cs) rest e h =
    element_in-letter c (cs ++ rest) (and_parts _ _ e).0
    ∙ word_whole (c ∷ cs) rest (prefix_len is_word_byte ((c ∷ cs) ++ rest)) (prefix_len-whole is_word_byte (c ∷ cs) rest (word_bytes (c ∷ cs) e) h)

number_whole : (digits rest : List ℕ) (n : ℕ) → n ≡ length digits → number_element (take n (digits ++ rest)) (drop n (digits ++ rest)) ≡ number_element digits rest
number_whole digits rest n e =
    ap (λ m. number_element (take m (digits ++ rest)) (drop m (digits ++ rest))) e
    ∙ ap (λ prefix. number_element prefix (drop (length digits) (digits ++ rest))) (take-append_seam digits rest)
    ∙ ap (number_element digits) (drop-append_seam digits rest)

-- a run of digits that the rest does not go on with is read whole
element_in-digits : (digits rest : List ℕ) → 0 < length digits → list_all is_digit digits ≡ true → stops is_digit rest ≡ true → element_in (digits ++ rest) ≡ number_element digits rest
element_in-digits [] rest some e h = absurd (omega arith)
element_in-digits (c ∷ cs) rest some e h =
    element_in-digit c (cs ++ rest) (and_parts _ _ e).0
    ∙ number_whole (c ∷ cs) rest (prefix_len is_digit ((c ∷ cs) ++ rest)) (prefix_len-whole is_digit (c ∷ cs) rest e h)

-- digits of a numeral in decimal are digits of a token
digit_passes : (c : ℕ) → digit_value c < 10 → is_digit c ≡ true
digit_passes c h = let r = digit_from_value c h in grind (arith, nat_tests)

digit_of_passes : (c : ℕ) → digit_value c < 10 → is_digit_of 10 c ≡ true
digit_of_passes c h =
    let r = digit_from_value c h in
    and_from (nat_lt (digit_value c) 10) (not (is_ascii_uppercase c)) (lt-ltb (digit_value c) 10 h) (grind (arith, nat_tests))

no_digit_of : (c : ℕ) → is_digit c ≡ false → is_digit_of 10 c ≡ false
no_digit_of c e =
    and_left (nat_lt (digit_value c) 10) (not (is_ascii_uppercase c))
    (false_from_ne_true (nat_lt (digit_value c) 10) (λ t. let d : is_digit c ≡ true = digit_passes c (ltb-true (digit_value c) 10 t) in cc))

pub digits_pass : (digits : List ℕ) → AllDigits 10 digits → list_all is_digit digits ≡ true
digits_pass [] h = refl
digits_pass (c ∷ cs) h = and_from (is_digit c) (list_all is_digit cs) (digit_passes c h.0) (digits_pass cs h.1)

digits_of_pass : (digits : List ℕ) → AllDigits 10 digits → list_all (is_digit_of 10) digits ≡ true
digits_of_pass [] h = refl
digits_of_pass (c ∷ cs) h = and_from (is_digit_of 10 c) (list_all (is_digit_of 10) cs) (digit_of_passes c h.0) (digits_of_pass cs h.1)

above_zero : (digits : List ℕ) → 48 < get_or digits 0 0 → has_leading_zero digits ≡ false
above_zero [] h = refl
above_zero (c ∷ []) h = refl
above_zero (c ∷ d ∷ digits) h = grind (arith, nat_tests)

-- a number that is written has no zero in front
no_leading_zero : (n : ℕ) → n < 2 ^ 64 → has_leading_zero (decimal n) ≡ false
no_leading_zero zero h = ap has_leading_zero (decimal_digit 0 (omega arith))
no_leading_zero (suc n) h = above_zero (decimal (suc n)) (first_decimal (suc n) (omega arith) h)

-- what stands before other bytes than those of words and constants is no size
no_constant : (rest : List ℕ) → goes_on rest ≡ false → constant_in rest ≡ None
no_constant [] e = refl
no_constant (q ∷ []) e = refl
no_constant (q ∷ base ∷ rest) e = cond-false (q == 39) (digits_after (radix_of base) rest) None (or_parts (is_word_byte q) (q == 39) e).1

pub stops_words : (rest : List ℕ) → goes_on rest ≡ false → stops is_word_byte rest ≡ true
stops_words [] e = refl
stops_words (c ∷ rest) e = ap not (or_parts (is_word_byte c) (c == 39) e).0

stops_digits : (rest : List ℕ) → goes_on rest ≡ false → stops is_digit rest ≡ true
stops_digits [] e = refl
stops_digits (c ∷ rest) e = ap not (or_parts (is_digit c) (begins_word c) (or_parts (is_word_byte c) (c == 39) e).0).0

stops_digits_of : (rest : List ℕ) → goes_on rest ≡ false → stops (is_digit_of 10) rest ≡ true
stops_digits_of [] e = refl
stops_digits_of (c ∷ rest) e = ap not (no_digit_of c (or_parts (is_digit c) (begins_word c) (or_parts (is_word_byte c) (c == 39) e).0).0)

number_kind : (n : ℕ) (digits : List ℕ) → digits_value 10 digits ≡ n → n ≤ 65536 → plain_element digits ≡ Token (kind.Number n) (length digits)
number_kind n digits e h =
    let small : digits_value 10 digits ≤ 65536 = omega (arith, e) in
    cond-true (nat_le (digits_value 10 digits) 65536) _ _ (le-leb (digits_value 10 digits) 65536 small) ∙ ap (λ m. Token (kind.Number m) (length digits)) e

-- a number is read as it was written
pub element_in-number : (n : ℕ) (rest : List ℕ) → n ≤ 65536 → goes_on rest ≡ false → element_in (decimal n ++ rest) ≡ Token (kind.Number n) (length (decimal n))
element_in-number n rest h e =
    let small : n < 2 ^ 64 = omega arith in
    let d = decimal_is_IsNumeral n small in
    element_in-digits (decimal n) rest d.0.0 (digits_pass (decimal n) d.0.1) (stops_digits rest e)
    ∙ cond-false (has_leading_zero (decimal n)) _ _ (no_leading_zero n small)
    ∙ ap (sized_or_plain (decimal n) rest) (no_constant rest e)
    ∙ number_kind n (decimal n) d.1 h

constant_in-digits : (digits rest : List ℕ) → 0 < length digits → list_all (is_digit_of 10) digits ≡ true → stops (is_digit_of 10) rest ≡ true → constant_in (39 ∷ 100 ∷ (digits ++ rest)) ≡ Some (10, length digits)
constant_in-digits digits rest some e h =
    ap (some_digits 10) (prefix_len-whole (is_digit_of 10) digits rest e h) ∙ cond-false (length digits == 0) None (Some (10, length digits)) (grind (arith, nat_tests))

sized_whole : (size digits rest : List ℕ) (width value : ℕ) → digits_value 10 size ≡ width → digits_value 10 digits ≡ value → fits_size width value ≡ true → Token (sized_kind (digits_value 10 size) (digits_value 10 (take (length digits) (digits ++ rest)))) (length size + 2 + length digits) ≡ Token (kind.Sized width value) (length (size ++ (39 ∷ 100 ∷ digits)))
sized_whole size digits rest width value a b h =
    let long : length size + 2 + length digits ≡ length (size ++ (39 ∷ 100 ∷ digits)) = omega (arith, length-append size (39 ∷ 100 ∷ digits)) in
    ap (λ bytes. Token (sized_kind (digits_value 10 size) (digits_value 10 bytes)) (length size + 2 + length digits)) (take-append_seam digits rest)
    ∙ ap (λ w. Token (sized_kind w (digits_value 10 digits)) (length size + 2 + length digits)) a
    ∙ ap (λ v. Token (sized_kind width v) (length size + 2 + length digits)) b
    ∙ ap (λ k. Token k (length size + 2 + length digits)) (cond-true (fits_size width value) (kind.Sized width value) kind.OutOfRange h)
    ∙ ap (Token (kind.Sized width value)) long

-- a constant is read as it was written
pub element_in-sized : (width value : ℕ) (rest : List ℕ) → fits_size width value ≡ true → goes_on rest ≡ false → element_in (sized_text width value ++ rest) ≡ Token (kind.Sized width value) (length (sized_text width value))
element_in-sized width value rest h e =
    let low : width ≤ 64 = leb-true width 64 (and_parts (nat_le 1 width) (nat_le width 64) (and_parts (nat_le 1 width && nat_le width 64) (nat_lt value (2 ^ width)) h).0).1 in
    let fits : value < 2 ^ width = ltb-true value (2 ^ width) (and_parts (nat_le 1 width && nat_le width 64) (nat_lt value (2 ^ width)) h).1 in
    let bound : 2 ^ width ≤ 2 ^ 64 = pow-le-pow_right {n = 2} (lit< tt) low in
    let narrow : width < 2 ^ 64 = omega (arith, low) in
    let small : value < 2 ^ 64 = omega (arith, fits, bound) in
    let size = decimal_is_IsNumeral width narrow in
    let digits = decimal_is_IsNumeral value small in
    let after : List ℕ = 39 ∷ 100 ∷ (decimal value ++ rest) in
    ap element_in (append_assoc (decimal width) (39 ∷ 100 ∷ decimal value) rest)
    ∙ element_in-digits (decimal width) after size.0.0 (digits_pass (decimal width) size.0.1) refl
    ∙ cond-false (has_leading_zero (decimal width)) _ _ (no_leading_zero width narrow)
    ∙ ap (sized_or_plain (decimal width) after) (constant_in-digits (decimal value) rest digits.0.0 (digits_of_pass (decimal value) digits.0.1) (stops_digits_of rest e))
    ∙ sized_whole (decimal width) (decimal value) rest width value size.1 digits.1 h

pub keyword_is_word : (k : Keyword) → is_word (keyword_text k) ≡ true
keyword_is_word keyword.Module = refl
keyword_is_word k = refl

pub word_kind-keyword : (k : Keyword) → word_kind (keyword_text k) ≡ kind.Keyword k
word_kind-keyword keyword.Module = refl
word_kind-keyword k = refl
