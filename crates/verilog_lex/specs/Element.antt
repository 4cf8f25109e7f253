-- What a text begins with.
use Rattle.std.specs.Prelude.{ℕ, ◌+◌, ◌<◌, ◌≤◌, ◌==◌, ◌&&◌, nat_eq, nat_le, if◌then◌else◌, List, [], ◌∷◌, length, take, drop, Option, Some, None}
use Rattle.std.specs.Cmp.Lexicographic.{pointwise}
use Rattle.std.specs.List.{prefix_len, find, starts_with}
use Rattle.std.specs.Str.Parse.{digits_value}
use Rattle.verilog_lex.specs.Bytes.{is_space, is_comment_byte, is_digit, begins_word, is_word_byte, begins_with}
use Rattle.verilog_lex.specs.Words.{keyword_text, keywords, symbol_text, symbols}
use Rattle.verilog_lex.specs.Number.{has_leading_zero, constant_in, sized_kind}
use Rattle.verilog_lex.specs.declared.token.Keyword.{Keyword}
use Rattle.verilog_lex.specs.declared.token.Symbol.{Symbol}
use Rattle.verilog_lex.specs.declared.token.TokenKind.{TokenKind}
use Rattle.verilog_lex.specs.declared.token.TokenKind.TheVariants as kind
use Rattle.verilog_lex.specs.declared.element.LexicalElement.{LexicalElement}
use Rattle.verilog_lex.specs.declared.element.LexicalElement.TheVariants.{Separator, Token, Nothing}

abbrev pub keyword_or_name : Option Keyword → TokenKind
keyword_or_name None = kind.Name
keyword_or_name (Some k) = kind.Keyword k

abbrev pub keyword_of : List ℕ → Option Keyword
keyword_of word = find (λ k. pointwise nat_eq (keyword_text k) word) keywords

-- a word is a keyword or a name
abbrev pub word_kind : List ℕ → TokenKind
word_kind word = keyword_or_name (keyword_of word)

abbrev pub word_in : List ℕ → LexicalElement
word_in text = Token (word_kind (take (prefix_len is_word_byte text) text)) (prefix_len is_word_byte text)

abbrev pub symbol_or_nothing : Option Symbol → LexicalElement
symbol_or_nothing None = Nothing
symbol_or_nothing (Some s) = Token (kind.Symbol s) (length (symbol_text s))

-- the longest symbol in front
abbrev pub symbol_at : List ℕ → Option Symbol
symbol_at text = find (λ s. starts_with nat_eq text (symbol_text s)) symbols

abbrev pub symbol_in : List ℕ → LexicalElement
symbol_in text = symbol_or_nothing (symbol_at text)

-- digits that no rest of a constant follows: a number of at most 65,536
abbrev pub plain_element : List ℕ → LexicalElement
plain_element digits = if nat_le (digits_value 10 digits) 65536 then Token (kind.Number (digits_value 10 digits)) (length digits) else Nothing

-- digits, the text after them, and what of a constant that text begins with
abbrev pub sized_or_plain : List ℕ → List ℕ → Option (ℕ × ℕ) → LexicalElement
sized_or_plain digits after None = plain_element digits
sized_or_plain digits after (Some c) = Token (sized_kind (digits_value 10 digits) (digits_value c.0 (take c.1 (drop 2 after)))) (length digits + 2 + c.1)

abbrev pub number_element : List ℕ → List ℕ → LexicalElement
number_element digits after = if has_leading_zero digits then Nothing else sized_or_plain digits after (constant_in after)

-- a run of digits is taken whole
abbrev pub number_in : List ℕ → LexicalElement
number_in text = number_element (take (prefix_len is_digit text) text) (drop (prefix_len is_digit text) text)

-- The longest separator or token in front: a space; `//` and the rest of the line; a number; a word; a symbol.
abbrev pub element_in : List ℕ → LexicalElement
element_in [] = Nothing
element_in (c ∷ rest) =
    if is_space c then Separator 1
    else (if (c == 47) && begins_with 47 rest then Separator (2 + prefix_len is_comment_byte (drop 1 rest))
    else (if is_digit c then number_in (c ∷ rest)
    else (if begins_word c then word_in (c ∷ rest)
    else symbol_in (c ∷ rest))))

-- the element has a byte at least, and no more than there are
abbrev pub IsWithin : LexicalElement → ℕ → Type 0
IsWithin (Separator n) len = (0 < n) × (n ≤ len)
IsWithin (Token k n) len = (0 < n) × (n ≤ len)
IsWithin Nothing len = Unit {0}
