-- The bytes of a kind of token have a form, and none that is refused.
use Rattle.std.proofs.Common.{◌≡◌, ℕ, ◌≤◌, ◌==◌, ◌&&◌, Bool, true, false, List, [], ◌∷◌, ◌++◌, Option, Some, None, refl, sym, ap, subst, ◌∙◌, arith, nat_eq, codes}
use Rattle.std.proofs.lemmas.Bool.Decides.{nat_tests}
use Rattle.std.specs.Cmp.Lexicographic.{pointwise, same_text}
use Rattle.std.specs.List.{list_all}
use Rattle.std.specs.Str.Parse.{digits_value}
use Rattle.std.proofs.lemmas.Bool.{and_from, and_left, and_parts}
use Rattle.verilog_lex.specs.Bytes.{is_digit, begins_word, is_word_byte}
use Rattle.verilog_lex.specs.Words.{keyword_text, keywords, symbol_text}
use Rattle.verilog_lex.specs.Number.{has_leading_zero}
use Rattle.verilog_lex.specs.Element.{keyword_of, keyword_or_name, word_kind}
use Rattle.verilog_lex.specs.Forms.{IsForm, IsRefused, HasKind}
use Rattle.verilog_lex.specs.Forms.IsForm.{word as word_form, number as number_form, constant as constant_form, symbol as symbol_form}
use Rattle.verilog_lex.specs.Forms.IsRefused.{above, zero_first}
use Rattle.verilog_lex.specs.Forms.HasKind.{keyword, name, number, constant, symbol}
use Rattle.verilog_lex.specs.declared.token.Keyword.{Keyword}
use Rattle.verilog_lex.specs.declared.token.Keyword.TheVariants as keyword_named
use Rattle.verilog_lex.specs.declared.token.Symbol.{Symbol}
use Rattle.verilog_lex.specs.declared.token.Symbol.TheVariants as symbol_named
use Rattle.verilog_lex.specs.declared.token.TokenKind.{TokenKind}
use Rattle.verilog_lex.specs.declared.token.TokenKind.TheVariants as kind
use Rattle.verilog_lex.proofs.ByteRuns.{find_passes, word_no_digit}
use Rattle.verilog_lex.proofs.Prefixes.{word_kind-keyword}

-- a zero in front of a digit
abbrev zero_front : List ℕ → Bool
zero_front [] = false
zero_front (c ∷ []) = false
zero_front (c ∷ d ∷ rest) = (c == 48) && is_digit d

zero_shows : (digits rest : List ℕ) → list_all is_digit digits ≡ true → has_leading_zero digits ≡ true → zero_front (digits ++ rest) ≡ true
zero_shows [] rest e z = absurd cc
zero_shows (c ∷ []) rest e z = absurd cc
zero_shows (c ∷ d ∷ digits) rest e z = and_from (c == 48) (is_digit d) z (and_parts (is_digit d) (list_all is_digit digits) (and_parts (is_digit c) _ e).1).0

-- no digits above 65,536, and no zero in front of another digit
not_refused : (bytes : List ℕ) → (list_all is_digit bytes ≡ true → digits_value 10 bytes ≤ 65536) → zero_front bytes ≡ false → IsRefused bytes → ⊥
not_refused bytes small first (above digits r h) = absurd (omega (arith, small r.all, h))
not_refused bytes small first (zero_first digits rest r z) = let e : zero_front (digits ++ rest) ≡ true = zero_shows digits rest r.all z in absurd cc

true_or_false : {A : Type 0} (b : Bool) → b ≡ false → b ≡ true → A
true_or_false b e h = absurd cc

keyword_digits : (k : Keyword) → list_all is_digit (keyword_text k) ≡ false
keyword_digits keyword_named.Module = refl
keyword_digits k = refl

keyword_front : (k : Keyword) → zero_front (keyword_text k) ≡ false
keyword_front keyword_named.Module = refl
keyword_front k = refl

symbol_digits : (s : Symbol) → list_all is_digit (symbol_text s) ≡ false
symbol_digits symbol_named.LessEqual = refl
symbol_digits s = refl

symbol_front : (s : Symbol) → zero_front (symbol_text s) ≡ false
symbol_front symbol_named.LessEqual = refl
symbol_front s = refl

word_no_zero : (c : ℕ) → begins_word c ≡ true → (c == 48) ≡ false
word_no_zero c e = grind (arith, nat_tests)

word_front : (c : ℕ) (bytes : List ℕ) → begins_word c ≡ true → zero_front (c ∷ bytes) ≡ false
word_front c [] e = refl
word_front c (d ∷ bytes) e = and_left (c == 48) (is_digit d) (word_no_zero c e)

digits_front : (digits : List ℕ) → has_leading_zero digits ≡ false → zero_front digits ≡ false
digits_front [] z = refl
digits_front (c ∷ []) z = refl
digits_front (c ∷ d ∷ digits) z = and_left (c == 48) (is_digit d) z

second_false : (a : Bool) → a && false ≡ false
second_false true = refl
second_false false = refl

size_front : (size rest : List ℕ) → has_leading_zero size ≡ false → zero_front (size ++ (39 ∷ rest)) ≡ false
size_front [] [] z = refl
size_front [] (c ∷ rest) z = refl
size_front (c ∷ []) rest z = second_false (c == 48)
size_front (c ∷ d ∷ size) rest z = and_left (c == 48) (is_digit d) z

-- an apostrophe is no digit
constant_digits : (size rest : List ℕ) → list_all is_digit (size ++ (39 ∷ rest)) ≡ true → ⊥
constant_digits [] rest e = absurd cc
constant_digits (c ∷ size) rest e = constant_digits size rest (and_parts (is_digit c) _ e).1

pub kind_not_refused : (bytes : List ℕ) (k : TokenKind) → HasKind bytes k → IsRefused bytes → ⊥
kind_not_refused bytes k (keyword w) = not_refused (keyword_text w) (true_or_false _ (keyword_digits w)) (keyword_front w)
kind_not_refused bytes k (name c cs b e other) =
    not_refused (c ∷ cs) (λ d. true_or_false (is_digit c) (word_no_digit c b) (and_parts (is_digit c) (list_all is_digit cs) d).0) (word_front c cs b)
kind_not_refused bytes k (number digits r z h) = not_refused digits (λ _. h) (digits_front digits z)
kind_not_refused bytes k (constant size base radix digits r z e s) =
    not_refused (size ++ (39 ∷ base ∷ digits)) (λ d. absurd (constant_digits size (base ∷ digits) d)) (size_front size (base ∷ digits) z)
kind_not_refused bytes k (symbol s) = not_refused (symbol_text s) (true_or_false _ (symbol_digits s)) (symbol_front s)

keyword_form : (k : Keyword) → IsForm (keyword_text k)
keyword_form keyword_named.Module = word_form 109 (codes "odule") refl refl
keyword_form k = word_form _ _ refl refl

-- the bytes of a token have a form
pub kind_form : (bytes : List ℕ) (k : TokenKind) → HasKind bytes k → IsForm bytes
kind_form bytes k (keyword w) = keyword_form w
kind_form bytes k (name c cs b e other) = word_form c cs b e
kind_form bytes k (number digits r z h) = number_form digits r
kind_form bytes k (constant size base radix digits r z e s) = constant_form size base radix digits r e s
kind_form bytes k (symbol s) = symbol_form s

-- a word is a keyword or a name
word_kind_of : (c : ℕ) (bytes : List ℕ) (o : Option Keyword) → begins_word c ≡ true → list_all is_word_byte bytes ≡ true → keyword_of (c ∷ bytes) ≡ o → HasKind (c ∷ bytes) (keyword_or_name o)
word_kind_of c bytes None b e f = name c bytes b e (λ k h. let same : kind.Keyword k ≡ kind.Name = sym (word_kind-keyword k) ∙ ap word_kind h ∙ ap keyword_or_name f in absurd cc)
word_kind_of c bytes (Some k) b e f =
    let same : pointwise nat_eq (keyword_text k) (c ∷ bytes) ≡ true = find_passes (λ k. pointwise nat_eq (keyword_text k) (c ∷ bytes)) keywords k f in
    let P : List ℕ → Type 0 = λ word. HasKind word (kind.Keyword k) in
    subst P (same_text (keyword_text k) (c ∷ bytes) (sym same)) (keyword k)

pub word_has_kind : (c : ℕ) (bytes : List ℕ) → begins_word c ≡ true → list_all is_word_byte bytes ≡ true → HasKind (c ∷ bytes) (word_kind (c ∷ bytes))
word_has_kind c bytes b e = word_kind_of c bytes (keyword_of (c ∷ bytes)) b e refl
