-- The tokens of a text, with their places.
use Rattle.std.specs.Prelude.{◌≡◌, ℕ, zero, suc, ◌+◌, ◌<◌, ◌≤◌, List, [], ◌∷◌, ◌++◌, length, drop, Result, Ok, Err}
use Rattle.std.specs.declared.vec.Vec.{Vec}
use Rattle.std.specs.declared.alloc.Global.{Global}
use Rattle.verilog_lex.specs.Element.{element_in}
use Rattle.verilog_lex.specs.declared.element.LexicalElement.{LexicalElement}
use Rattle.verilog_lex.specs.declared.element.LexicalElement.TheVariants as element
use Rattle.verilog_lex.specs.declared.token.TokenKind.{TokenKind}
use Rattle.verilog_lex.specs.declared.token.Token.{Token}
use Rattle.verilog_lex.specs.declared.token.LexError.{LexError}
use Rattle.verilog_lex.specs.declared.token.LexError.TheVariants.{At, NoMemory}

abbrev pub token : TokenKind → ℕ → ℕ → Token
token k from to = record { kind = k; start = from; «end» = to }

-- From one place to another a text is these tokens with separators between and around them, each the longest that begins
-- at its place.
pub data Leads (text : List ℕ) : ℕ → List Token → ℕ → Type 0 where
  here : (at : ℕ) → Leads text at [] at
  separator : (at n : ℕ) (ts : List Token) (to : ℕ) → element_in (drop at text) ≡ element.Separator n → Leads text (at + n) ts to → Leads text at ts to
  next : (at n : ℕ) (k : TokenKind) (ts : List Token) (to : ℕ) → element_in (drop at text) ≡ element.Token k n → Leads text (at + n) ts to → Leads text at (token k at (at + n) ∷ ts) to

-- tokens lead from the begin of the text to a place before its end where nothing begins
abbrev pub IsStuck : List ℕ → ℕ → Type 0
IsStuck text at = (ts : List Token) × Leads text 0 ts at × (at < length text) × (element_in (drop at text) ≡ element.Nothing)

-- the tokens stand between two places, in order, none within another, and each has a byte at least
abbrev pub AreSpans : ℕ → List Token → ℕ → Type 0
AreSpans from [] to = from ≤ to
AreSpans from (t ∷ ts) to = (from ≤ t.start) × (t.start < t.«end») × AreSpans t.«end» ts to

-- the tokens, or the first place where nothing begins
abbrev pub Read : Type 0
Read = Result (List Token) ℕ

abbrev pub with_prefix : List Token → Read → Read
with_prefix prefix (Ok ts) = Ok (prefix ++ ts)
with_prefix prefix (Err at) = Err at

abbrev pub lex_element : (ℕ → List ℕ → Read) → ℕ → List ℕ → LexicalElement → Read
lex_element rest at text (element.Separator n) = rest (at + n) (drop n text)
lex_element rest at text (element.Token k n) = with_prefix (token k at (at + n) ∷ []) (rest (at + n) (drop n text))
lex_element rest at text element.Nothing = Err at

-- a text that begins at a place, in at most so many lexical elements
abbrev pub lex : ℕ → ℕ → List ℕ → Read
lex zero at text = Ok []
lex (suc most) at [] = Ok []
lex (suc most) at (c ∷ text) = lex_element (lex most) at (c ∷ text) (element_in (c ∷ text))

-- a text has no more lexical elements than bytes
unfoldable pub tokens_in : List ℕ → Read
tokens_in text = lex (length text) 0 text

-- what was returned is what reading gives, unless memory ran out
abbrev pub Gives : Result (Vec Token Global) LexError → Read → Type 0
Gives (Ok v) read = read ≡ Ok v.items
Gives (Err (At at)) read = read ≡ Err at
Gives (Err NoMemory) read = Unit {0}
