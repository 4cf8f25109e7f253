-- The forms of separators and tokens, each by itself, the bytes of each kind of token, and the longest prefix of a text with a form.
use Rattle.std.specs.Prelude.{◌≡◌, ◌≢◌, ℕ, Bool, true, false, ◌<◌, ◌≤◌, List, [], ◌∷◌, ◌++◌, length, take, Some}
use Rattle.std.specs.List.{list_all}
use Rattle.std.specs.Str.Parse.{digits_value}
use Rattle.verilog_lex.specs.Bytes.{is_space, is_comment_byte, is_digit, is_digit_of, begins_word, is_word_byte}
use Rattle.verilog_lex.specs.Words.{keyword_text, symbol_text}
use Rattle.verilog_lex.specs.Number.{radix_of, has_leading_zero, sized_kind}
use Rattle.verilog_lex.specs.declared.element.LexicalElement.{LexicalElement}
use Rattle.verilog_lex.specs.declared.element.LexicalElement.TheVariants.{Separator, Token, Nothing}
use Rattle.verilog_lex.specs.declared.token.Keyword.{Keyword}
use Rattle.verilog_lex.specs.declared.token.Symbol.{Symbol}
use Rattle.verilog_lex.specs.declared.token.TokenKind.{TokenKind}
use Rattle.verilog_lex.specs.declared.token.TokenKind.TheVariants as kind

-- a run of bytes of a kind, one at least
pub record IsRun (p : ℕ → Bool) (bytes : List ℕ) : Type 0 where
  pub some : 0 < length bytes
  pub all : list_all p bytes ≡ true

-- a space; a comment
pub data IsSeparator : List ℕ → Type 0 where
  space : (c : ℕ) → is_space c ≡ true → IsSeparator (c ∷ [])
  comment : (bytes : List ℕ) → list_all is_comment_byte bytes ≡ true → IsSeparator (47 ∷ 47 ∷ bytes)

-- a separator; a word; a run of digits; a size, `'`, a base and digits; a symbol
pub data IsForm : List ℕ → Type 0 where
  separator : (bytes : List ℕ) → IsSeparator bytes → IsForm bytes
  word : (c : ℕ) (bytes : List ℕ) → begins_word c ≡ true → list_all is_word_byte bytes ≡ true → IsForm (c ∷ bytes)
  number : (digits : List ℕ) → IsRun is_digit digits → IsForm digits
  constant : (size : List ℕ) (base radix : ℕ) (digits : List ℕ) → IsRun is_digit size → radix_of base ≡ Some radix → IsRun (is_digit_of radix) digits → IsForm (size ++ (39 ∷ base ∷ digits))
  symbol : (s : Symbol) → IsForm (symbol_text s)

-- the first n bytes have a form, and no more of them have one
pub record IsLongest (text : List ℕ) (n : ℕ) : Type 0 where
  pub within : n ≤ length text
  pub form : IsForm (take n text)
  pub no_more : (m : ℕ) → m ≤ length text → IsForm (take m text) → m ≤ n

-- A form that is no token: digits above 65,536, or a number or a size with a zero in front.
pub data IsRefused : List ℕ → Type 0 where
  above : (digits : List ℕ) → IsRun is_digit digits → 65536 < digits_value 10 digits → IsRefused digits
  zero_first : (digits rest : List ℕ) → IsRun is_digit digits → has_leading_zero digits ≡ true → IsRefused (digits ++ rest)

-- The bytes of a token of a kind: a keyword's letters; a word that is no keyword; a run of digits with no zero in front, at most
-- 65,536, with its value; a size with no zero in front, `'`, a base and digits, with size and value; a symbol.
pub data HasKind : List ℕ → TokenKind → Type 0 where
  keyword : (k : Keyword) → HasKind (keyword_text k) (kind.Keyword k)
  name : (c : ℕ) (bytes : List ℕ) → begins_word c ≡ true → list_all is_word_byte bytes ≡ true → ((k : Keyword) → keyword_text k ≢ c ∷ bytes) → HasKind (c ∷ bytes) kind.Name
  number : (digits : List ℕ) → IsRun is_digit digits → has_leading_zero digits ≡ false → digits_value 10 digits ≤ 65536 → HasKind digits (kind.Number (digits_value 10 digits))
  constant : (size : List ℕ) (base radix : ℕ) (digits : List ℕ) → IsRun is_digit size → has_leading_zero size ≡ false → radix_of base ≡ Some radix → IsRun (is_digit_of radix) digits
      → HasKind (size ++ (39 ∷ base ∷ digits)) (sized_kind (digits_value 10 size) (digits_value radix digits))
  symbol : (s : Symbol) → HasKind (symbol_text s) (kind.Symbol s)

-- the first n bytes are the longest prefix with a form, are no refused one, and are of a kind
pub record IsLongestToken (text : List ℕ) (k : TokenKind) (n : ℕ) : Type 0 where
  pub longest : IsLongest text n
  pub has_kind : HasKind (take n text) k
  pub no_refusal : IsRefused (take n text) → ⊥

-- A lexical element is the longest prefix that has a form: a separator, or a token of its kind. There is none where no prefix has
-- a form, or the longest is refused.
abbrev pub IsLongestElement : List ℕ → LexicalElement → Type 0
IsLongestElement text (Separator n) = IsLongest text n × IsSeparator (take n text)
IsLongestElement text (Token k n) = IsLongestToken text k n
IsLongestElement text Nothing = (n : ℕ) → IsLongest text n → IsRefused (take n text)
