-- Texts that are read as they were written, element by element.
use Rattle.std.proofs.Common.{◌≡◌, ℕ, ◌+◌, ◌≤◌, true, false, Result, OnOk, List, [], ◌∷◌, ◌++◌, length, refl, sym, ap, subst, ◌∙◌, append_assoc, append-nil}
use Rattle.std.proofs.lemmas.Result.{on_ok_weaker}
use Rattle.std.proofs.Math.Seq.{take-append_seam, drop-append_seam}
use Rattle.std.specs.Fmt.{decimal}
use Rattle.verilog_lex.specs.Words.{keyword_text, symbol_text}
use Rattle.verilog_lex.specs.Number.{fits_size}
use Rattle.verilog_lex.specs.Element.{element_in, word_kind, keyword_or_name}
use Rattle.verilog_lex.specs.Lexeme.{Lexeme, LName, LKeyword, LNumber, LSized, LSymbol, Lexes, lexeme}
use Rattle.verilog_lex.specs.Lexeme.Lexes.{done, separator, next}
use Rattle.verilog_lex.specs.Spelling.{IsName, IsClosed, IsOpen, goes_on, sized_text, symbol_spelling}
use Rattle.verilog_lex.specs.declared.element.LexicalElement.TheVariants.{Token}
use Rattle.verilog_lex.specs.declared.token.Keyword.{Keyword}
use Rattle.verilog_lex.specs.declared.token.Symbol.{Symbol}
use Rattle.verilog_lex.specs.declared.token.Symbol.TheVariants as symbol
use Rattle.verilog_lex.specs.declared.token.TokenKind.{TokenKind}
use Rattle.verilog_lex.specs.declared.token.TokenKind.TheVariants as kind
use Rattle.verilog_lex.proofs.Prefixes.{element_in-word, element_in-number, element_in-sized, keyword_is_word, word_kind-keyword, stops_words}

-- a token, and then a text
Lexes-prefix : (text rest : List ℕ) (k : TokenKind) (ls : List Lexeme) → element_in (text ++ rest) ≡ Token k (length text) → Lexes rest ls → Lexes (text ++ rest) (lexeme k text ∷ ls)
Lexes-prefix text rest k ls e h =
    let P : List ℕ → Type 0 = λ bytes. Lexes bytes ls in
    let Q : List ℕ → Type 0 = λ bytes. Lexes (text ++ rest) (lexeme k bytes ∷ ls) in
    subst Q (take-append_seam text rest) (next (text ++ rest) (length text) k ls e (subst P (sym (drop-append_seam text rest)) h))

pub IsOpen-name : (word : List ℕ) → IsName word → IsOpen word (LName word ∷ [])
IsOpen-name word n = record {
  before = λ rest ls h e.
      let named : word_kind word ≡ kind.Name = ap keyword_or_name n.other in
      Lexes-prefix word rest kind.Name ls (element_in-word word rest n.letters (stops_words rest e) ∙ ap (λ k. Token k (length word)) named) h;
}

pub IsOpen-keyword : (k : Keyword) → IsOpen (keyword_text k) (LKeyword k ∷ [])
IsOpen-keyword k = record {
  before = λ rest ls h e.
      Lexes-prefix (keyword_text k) rest (kind.Keyword k) ls
      (element_in-word (keyword_text k) rest (keyword_is_word k) (stops_words rest e) ∙ ap (λ kind. Token kind (length (keyword_text k))) (word_kind-keyword k)) h;
}

pub IsOpen-number : (n : ℕ) → n ≤ 65536 → IsOpen (decimal n) (LNumber n ∷ [])
IsOpen-number n small = record { before = λ rest ls h e. Lexes-prefix (decimal n) rest (kind.Number n) ls (element_in-number n rest small e) h }

pub IsOpen-sized : (width value : ℕ) → fits_size width value ≡ true → IsOpen (sized_text width value) (LSized width value ∷ [])
IsOpen-sized width value fits = record {
  before = λ rest ls h e.
      Lexes-prefix (sized_text width value) rest (kind.Sized width value) ls (element_in-sized width value rest fits e) h;
}

-- a space stands after the symbols that may be a prefix
pub Lexes-symbol : (s : Symbol) (rest : List ℕ) (ls : List Lexeme) → Lexes rest ls → Lexes (symbol_spelling s ++ rest) (LSymbol s ∷ ls)
Lexes-symbol symbol.Assign rest ls h = next _ 1 (kind.Symbol symbol.Assign) ls refl (separator _ 1 ls refl h)
Lexes-symbol symbol.Less rest ls h = next _ 1 (kind.Symbol symbol.Less) ls refl (separator _ 1 ls refl h)
Lexes-symbol symbol.Greater rest ls h = next _ 1 (kind.Symbol symbol.Greater) ls refl (separator _ 1 ls refl h)
Lexes-symbol symbol.Slash rest ls h = next _ 1 (kind.Symbol symbol.Slash) ls refl (separator _ 1 ls refl h)
Lexes-symbol s rest ls h = next _ (length (symbol_text s)) (kind.Symbol s) ls refl h

pub IsClosed-symbol : (s : Symbol) → IsClosed (symbol_spelling s) (LSymbol s ∷ [])
IsClosed-symbol s = record { before = λ rest ls h. Lexes-symbol s rest ls h }

pub IsClosed-space : IsClosed (32 ∷ []) []
IsClosed-space = record { before = λ rest ls h. separator (32 ∷ rest) 1 ls refl h }

pub IsClosed-line : IsClosed (10 ∷ []) []
IsClosed-line = record { before = λ rest ls h. separator (10 ∷ rest) 1 ls refl h }

pub IsClosed-nothing : IsClosed [] []
IsClosed-nothing = record { before = λ rest ls h. h }

-- two texts after each other
joined : (a b rest : List ℕ) (f g ls : List Lexeme) → Lexes (a ++ (b ++ rest)) (f ++ (g ++ ls)) → Lexes ((a ++ b) ++ rest) ((f ++ g) ++ ls)
joined a b rest f g ls h = rw (append_assoc a b rest, append_assoc f g ls) h

pub IsOpen-append : (a b : List ℕ) (f g : List Lexeme) → IsClosed a f → IsOpen b g → IsOpen (a ++ b) (f ++ g)
IsOpen-append a b f g h k = record { before = λ rest ls l e. joined a b rest f g ls (h.before (b ++ rest) (g ++ ls) (k.before rest ls l e)) }

-- a text that does not go on with the word before it closes it
pub IsClosed-after : (a b : List ℕ) (f g : List Lexeme) → IsOpen a f → IsClosed b g → ((rest : List ℕ) → goes_on (b ++ rest) ≡ false) → IsClosed (a ++ b) (f ++ g)
IsClosed-after a b f g h k e = record { before = λ rest ls l. joined a b rest f g ls (h.before (b ++ rest) (g ++ ls) (k.before rest ls l) (e rest)) }

pub IsOpen-closed : (text : List ℕ) (ls : List Lexeme) → IsClosed text ls → IsOpen text ls
IsOpen-closed text ls h = record { before = λ rest ms l e. h.before rest ms l }

-- a text whose end nothing follows
pub Lexes-open : (text : List ℕ) (ls : List Lexeme) → IsOpen text ls → Lexes text ls
Lexes-open text ls h =
    let P : List ℕ → Type 0 = λ bytes. Lexes bytes (ls ++ []) in
    let Q : List Lexeme → Type 0 = λ ms. Lexes text ms in
    subst Q (append-nil ls) (subst P (append-nil text) (h.before [] [] done refl))

-- no symbol goes on with a word
pub goes_on-symbol : (s : Symbol) (rest : List ℕ) → goes_on (symbol_spelling s ++ rest) ≡ false
goes_on-symbol symbol.Assign rest = refl
goes_on-symbol s rest = refl

-- What a call that adds a text has made of a closed or an open one, unless memory ran out.
pub opens : {X E : Type 0} (r : Result X E) (old new text : List ℕ) (l : Lexeme) → IsOpen text (l ∷ []) → OnOk r (new ≡ old ++ text) → OnOk r ((ls : List Lexeme) → IsClosed old ls → IsOpen new (ls ++ l ∷ []))
opens r old new text l o added = on_ok_weaker r (λ e ls h.
    let P : List ℕ → Type 0 = λ bytes. IsOpen bytes (ls ++ l ∷ []) in
    subst P (sym e) (IsOpen-append old text ls (l ∷ []) h o)) added

pub closes : {X E : Type 0} (r : Result X E) (old new text : List ℕ) (l : Lexeme) → IsClosed text (l ∷ []) → ((rest : List ℕ) → goes_on (text ++ rest) ≡ false) → OnOk r (new ≡ old ++ text) → OnOk r ((ls : List Lexeme) → IsOpen old ls → IsClosed new (ls ++ l ∷ []))
closes r old new text l k apart added = on_ok_weaker r (λ e ls h.
    let P : List ℕ → Type 0 = λ bytes. IsClosed bytes (ls ++ l ∷ []) in
    subst P (sym e) (IsClosed-after old text ls (l ∷ []) h k apart)) added

pub separates : {X E : Type 0} (r : Result X E) (old new text : List ℕ) → IsClosed text [] → ((rest : List ℕ) → goes_on (text ++ rest) ≡ false) → OnOk r (new ≡ old ++ text) → OnOk r ((ls : List Lexeme) → IsOpen old ls → IsClosed new ls)
separates r old new text k apart added = on_ok_weaker r (λ e ls h.
    let P : List ℕ → Type 0 = λ bytes. IsClosed bytes ls in
    let Q : List Lexeme → Type 0 = λ ms. IsClosed (old ++ text) ms in
    subst P (sym e) (subst Q (append-nil ls) (IsClosed-after old text ls [] h k apart))) added
