-- Tokens without their places, and the texts that are them.
use Rattle.std.specs.Prelude.{◌≡◌, ℕ, List, [], ◌∷◌, take, drop, slice_range, map, Result, Ok, Err}
use Rattle.std.specs.declared.vec.Vec.{Vec}
use Rattle.std.specs.declared.alloc.Global.{Global}
use Rattle.verilog_lex.specs.Element.{element_in}
use Rattle.verilog_lex.specs.declared.element.LexicalElement.TheVariants as element
use Rattle.verilog_lex.specs.declared.token.Keyword.{Keyword}
use Rattle.verilog_lex.specs.declared.token.Symbol.{Symbol}
use Rattle.verilog_lex.specs.declared.token.TokenKind.{TokenKind}
use Rattle.verilog_lex.specs.declared.token.TokenKind.TheVariants as kind
use Rattle.verilog_lex.specs.declared.token.Token.{Token}
use Rattle.verilog_lex.specs.declared.token.LexError.{LexError}
use Rattle.verilog_lex.specs.declared.token.LexError.TheVariants.{At, NoMemory}

-- what a token says, by itself: a name has its letters
pub data Lexeme : Type 0 where
  LName : List ℕ → Lexeme
  LKeyword : Keyword → Lexeme
  LNumber : ℕ → Lexeme
  LSized : ℕ → ℕ → Lexeme
  LOutOfRange : Lexeme
  LSymbol : Symbol → Lexeme

-- a kind of token, and the bytes that spell it
abbrev pub lexeme : TokenKind → List ℕ → Lexeme
lexeme kind.Name bytes = LName bytes
lexeme (kind.Keyword k) bytes = LKeyword k
lexeme (kind.Number n) bytes = LNumber n
lexeme (kind.Sized width value) bytes = LSized width value
lexeme kind.OutOfRange bytes = LOutOfRange
lexeme (kind.Symbol s) bytes = LSymbol s

-- a token of a text
abbrev pub lexeme_of : List ℕ → Token → Lexeme
lexeme_of text t = lexeme t.kind (slice_range text t.start t.«end»)

abbrev pub lexemes_of : List ℕ → List Token → List Lexeme
lexemes_of text ts = map (lexeme_of text) ts

-- A text is these lexemes, with separators between and around them, each the longest that begins at its place.
pub data Lexes : List ℕ → List Lexeme → Type 0 where
  done : Lexes [] []
  separator : (text : List ℕ) (n : ℕ) (ls : List Lexeme) → element_in text ≡ element.Separator n → Lexes (drop n text) ls → Lexes text ls
  next : (text : List ℕ) (n : ℕ) (k : TokenKind) (ls : List Lexeme) → element_in text ≡ element.Token k n → Lexes (drop n text) ls → Lexes text (lexeme k (take n text) ∷ ls)

-- the lexemes of a text are read, unless memory runs out
abbrev pub ReadsAs : List ℕ → Result (Vec Token Global) LexError → List Lexeme → Type 0
ReadsAs text (Ok v) ls = lexemes_of text v.items ≡ ls
ReadsAs text (Err (At at)) ls = ⊥
ReadsAs text (Err NoMemory) ls = Unit {0}
