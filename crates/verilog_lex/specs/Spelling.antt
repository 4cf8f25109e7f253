-- How lexemes are written, and what may be written after them.
use Rattle.std.specs.Prelude.{◌≡◌, ℕ, Bool, true, false, ◌||◌, ◌&&◌, ◌==◌, List, [], ◌∷◌, ◌++◌, if◌then◌else◌, None}
use Rattle.std.specs.Fmt.{decimal}
use Rattle.std.specs.List.{list_all}
use Rattle.verilog_lex.specs.Bytes.{begins_word, is_word_byte}
use Rattle.verilog_lex.specs.Words.{symbol_text}
use Rattle.verilog_lex.specs.Element.{keyword_of}
use Rattle.verilog_lex.specs.Lexeme.{Lexeme, Lexes}
use Rattle.verilog_lex.specs.declared.token.Symbol.{Symbol}
use Rattle.verilog_lex.specs.declared.token.Symbol.TheVariants as symbol

-- a letter or `_`, and then letters, digits and `_`
abbrev pub is_word : List ℕ → Bool
is_word [] = false
is_word (c ∷ rest) = begins_word c && list_all is_word_byte rest

-- a word that is no keyword
pub record IsName (word : List ℕ) : Type 0 where
  pub letters : is_word word ≡ true
  pub other : keyword_of word ≡ None

-- a constant, in decimal: size, `'`, `d`, value
abbrev pub sized_text : ℕ → ℕ → List ℕ
sized_text width value = decimal width ++ (39 ∷ 100 ∷ decimal value)

-- a symbol that may be a prefix of a longer one, or of a comment
abbrev pub is_prefix : Symbol → Bool
is_prefix symbol.Assign = true
is_prefix symbol.Less = true
is_prefix symbol.Greater = true
is_prefix symbol.Slash = true
is_prefix s = false

-- a symbol, with a space after it where it may be a prefix
abbrev pub symbol_spelling : Symbol → List ℕ
symbol_spelling s = symbol_text s ++ (if is_prefix s then 32 ∷ [] else [])

-- a text whose first byte would go on with a word or a number that stands before it
abbrev pub goes_on : List ℕ → Bool
goes_on [] = false
goes_on (c ∷ rest) = is_word_byte c || (c == 39)

-- These lexemes are read from a text whatever is written after it.
pub record IsClosed (text : List ℕ) (prefix : List Lexeme) : Type 0 where
  pub before : (rest : List ℕ) (ls : List Lexeme) → Lexes rest ls → Lexes (text ++ rest) (prefix ++ ls)

-- These lexemes are read from a text whatever is written after it that does not go on with its last word or number.
pub record IsOpen (text : List ℕ) (prefix : List Lexeme) : Type 0 where
  pub before : (rest : List ℕ) (ls : List Lexeme) → Lexes rest ls → goes_on rest ≡ false → Lexes (text ++ rest) (prefix ++ ls)
