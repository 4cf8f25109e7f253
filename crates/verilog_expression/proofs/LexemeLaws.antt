-- What single lexemes take from the beginning, and that they are read where they stand.
use Rattle.std.specs.List.{find, list_all}
use Rattle.std.specs.Str.{bytes_eq}
use Rattle.std.proofs.Common.{◌≡◌, ℕ, Bool, true, false, Option, Some, None, Ok, Err, List, [], ◌∷◌, ◌++◌, refl, sym, ap, ◌∙◌, subst}
use Rattle.std.proofs.lemmas.Bool.{and_parts, eqb-true, eq-eqb}
use Rattle.std.proofs.lemmas.Slice.Eq.{bytes_eq-Decides}
use Rattle.std.proofs.lemmas.Option.{same_Some}
use Rattle.net_core.specs.declared.tree.Op.{Op}
use Rattle.net_core.specs.declared.tree.Op.TheVariants as op
use Rattle.net_core.specs.declared.tree.Word.{Word}
use Rattle.net_core.specs.Value.{word}
use Rattle.net_core.specs.Width.{word_fits}
use Rattle.verilog_lex.specs.declared.token.Keyword.{Keyword}
use Rattle.verilog_lex.specs.declared.token.Keyword.TheVariants as keyword
use Rattle.verilog_lex.specs.declared.token.Symbol.{Symbol}
use Rattle.verilog_lex.specs.declared.token.Symbol.TheVariants as symbol
use Rattle.verilog_lex.specs.Words.{keyword_text, symbol_text, symbols}
use Rattle.verilog_lex.specs.Element.{keyword_of}
use Rattle.verilog_lex.specs.Lexeme.{Lexeme, LName, LKeyword, LNumber, LSized, LOutOfRange, LSymbol}
use Rattle.design_rules.specs.FormedSyntax.{is_name}
use Rattle.verilog_write.specs.VerilogGrammar.Grammar.{constant, op_symbol}
use Rattle.verilog_expression.specs.declared.fault.Code.{Code}
use Rattle.verilog_expression.specs.declared.fault.Code.TheVariants as code
use Rattle.verilog_expression.specs.declared.entry.Entry.{Entry}
use Rattle.verilog_expression.specs.Reads.{Reading, ◌>>=◌, fault, kept_if, found}
use Rattle.verilog_expression.specs.Lexemes.{same_lexeme, lexeme_at, symbol_at, behind, number_at, name_at, constant_at, op_of, op_at}
use Rattle.verilog_expression.specs.Expressions.{Resolve, entry_at}

-- ---- values and faults
pub bind_ok : {A B : Type 0} (r : Reading A) (f : A → Reading B) (y : B) → (r >>= f) ≡ Ok y → (x : A) × (r ≡ Ok x) × (f x ≡ Ok y)
bind_ok (Ok x) f y e = (x, refl, e)
bind_ok (Err fault) f y e = absurd cc

-- the rest of a reading whose first part gives a value
pub bind_again : {A B : Type 0} (r : Reading A) (f : A → Reading B) (x : A) → r ≡ Ok x → (r >>= f) ≡ f x
bind_again r f x e = rw e refl

pub same_ok : {A : Type 0} (x y : A) → (let r : Reading A = Ok x in r) ≡ Ok y → x ≡ y
same_ok x y e = cc

-- a fact of the value that was read
pub ok_so : {A : Type 0} (P : A → Type 0) (x y : A) → (let r : Reading A = Ok x in r) ≡ Ok y → P x → P y
ok_so P x y e h = subst P (same_ok x y e) h

pub kept_takes : {A : Type 0} (b : Bool) (x y : A) (c : Code) (ts : List Lexeme) → kept_if b x c ts ≡ Ok y → (b ≡ true) × (x ≡ y)
kept_takes true x y c ts h = (refl, same_ok x y h)
kept_takes false x y c ts h = absurd cc

pub kept_again : {A : Type 0} (b : Bool) (x : A) (c : Code) (ts : List Lexeme) → b ≡ true → kept_if b x c ts ≡ Ok x
kept_again b x c ts h = rw h refl

pub found_takes : {A : Type 0} (o : Option A) (x : A) (c : Code) (ts : List Lexeme) → found o c ts ≡ Ok x → o ≡ Some x
found_takes (Some y) x c ts h = ap (λ z. Some z) (same_ok y x h)
found_takes None x c ts h = absurd cc

-- ---- keywords and symbols are told apart by their texts
keyword_again : (k : Keyword) → keyword_of (keyword_text k) ≡ Some k
keyword_again keyword.Module = refl
keyword_again keyword.Endmodule = refl
keyword_again keyword.Input = refl
keyword_again keyword.Output = refl
keyword_again keyword.Wire = refl
keyword_again keyword.Reg = refl
keyword_again keyword.Integer = refl
keyword_again keyword.Initial = refl
keyword_again keyword.For = refl
keyword_again keyword.Assign = refl
keyword_again keyword.Always = refl
keyword_again keyword.Posedge = refl
keyword_again keyword.Begin = refl
keyword_again keyword.End = refl
keyword_again keyword.If = refl
keyword_again keyword.Else = refl

same_keyword : (a b : Keyword) → bytes_eq (keyword_text a) (keyword_text b) ≡ true → a ≡ b
same_keyword a b h =
    let e : keyword_text a ≡ keyword_text b = (bytes_eq-Decides (keyword_text a) (keyword_text b)).0 h in
    same_Some a b (sym (keyword_again a) ∙ ap keyword_of e ∙ keyword_again b)

symbol_of : List ℕ → Option Symbol
symbol_of text = find (λ s. bytes_eq (symbol_text s) text) symbols

symbol_named : (s : Symbol) → symbol_of (symbol_text s) ≡ Some s
unfolding symbol_of
symbol_named symbol.LessEqual = refl
symbol_named symbol.GreaterEqual = refl
symbol_named symbol.Equal = refl
symbol_named symbol.NotEqual = refl
symbol_named symbol.ShiftLeft = refl
symbol_named symbol.ShiftRight = refl
symbol_named symbol.OpenParenthesis = refl
symbol_named symbol.CloseParenthesis = refl
symbol_named symbol.OpenBracket = refl
symbol_named symbol.CloseBracket = refl
symbol_named symbol.OpenBrace = refl
symbol_named symbol.CloseBrace = refl
symbol_named symbol.Semicolon = refl
symbol_named symbol.Comma = refl
symbol_named symbol.Colon = refl
symbol_named symbol.Question = refl
symbol_named symbol.At = refl
symbol_named symbol.Assign = refl
symbol_named symbol.Less = refl
symbol_named symbol.Greater = refl
symbol_named symbol.Plus = refl
symbol_named symbol.Minus = refl
symbol_named symbol.Star = refl
symbol_named symbol.Slash = refl
symbol_named symbol.Percent = refl
symbol_named symbol.And = refl
symbol_named symbol.Or = refl
symbol_named symbol.Xor = refl
symbol_named symbol.Not = refl

same_symbol : (a b : Symbol) → bytes_eq (symbol_text a) (symbol_text b) ≡ true → a ≡ b
same_symbol a b h =
    let e : symbol_text a ≡ symbol_text b = (bytes_eq-Decides (symbol_text a) (symbol_text b)).0 h in
    same_Some a b (sym (symbol_named a) ∙ ap symbol_of e ∙ symbol_named b)

-- ---- lexemes
pub same_takes : (a b : Lexeme) → same_lexeme a b ≡ true → a ≡ b
same_takes (LName a) (LName b) h = ap LName ((bytes_eq-Decides a b).0 h)
same_takes (LKeyword a) (LKeyword b) h = ap LKeyword (same_keyword a b h)
same_takes (LNumber a) (LNumber b) h = ap LNumber (eqb-true a b h)
same_takes (LSymbol a) (LSymbol b) h = ap LSymbol (same_symbol a b h)
same_takes a b h = absurd cc

bytes_same : (s : List ℕ) → bytes_eq s s ≡ true
bytes_same s = (bytes_eq-Decides s s).1 refl

-- a word, a number or a symbol: a constant has no place in a phrase
abbrev pub is_word : Lexeme → Bool
is_word (LName s) = true
is_word (LKeyword k) = true
is_word (LNumber n) = true
is_word (LSized w v) = false
is_word LOutOfRange = false
is_word (LSymbol s) = true

pub same_again : (l : Lexeme) → is_word l ≡ true → same_lexeme l l ≡ true
same_again (LName s) h = bytes_same s
same_again (LKeyword k) h = bytes_same (keyword_text k)
same_again (LNumber n) h = eq-eqb n n refl
same_again (LSized w v) h = h
same_again LOutOfRange h = h
same_again (LSymbol s) h = bytes_same (symbol_text s)

pub lexeme_takes : (l : Lexeme) (ts r : List Lexeme) → lexeme_at l ts ≡ Ok r → ts ≡ l ∷ r
unfolding lexeme_at
lexeme_takes l [] r h = absurd cc
lexeme_takes l (t ∷ ts) r h =
    let k = kept_takes (same_lexeme l t) ts r code.Syntax (t ∷ ts) h in
    let e = same_takes l t k.0 in
    let f = k.1 in
    cc

pub lexeme_again : (l : Lexeme) (ts : List Lexeme) → is_word l ≡ true → lexeme_at l (l ∷ ts) ≡ Ok ts
unfolding lexeme_at
lexeme_again l ts h = kept_again (same_lexeme l l) ts code.Syntax (l ∷ ts) (same_again l h)

pub symbol_again : (s : Symbol) (ts : List Lexeme) → symbol_at s (LSymbol s ∷ ts) ≡ Ok ts
symbol_again s ts = lexeme_again (LSymbol s) ts refl

-- ---- phrases
pub behind_takes : (ls ts r : List Lexeme) → behind ls ts ≡ Ok r → ts ≡ ls ++ r
unfolding behind
behind_takes [] ts r h = same_ok ts r h
behind_takes (l ∷ ls) ts r h =
    let k = bind_ok (lexeme_at l ts) _ r h in
    lexeme_takes l ts k.0 k.1 ∙ ap (λ (more : List Lexeme). l ∷ more) (behind_takes ls k.0 r k.2)

pub behind_again : (ls ts : List Lexeme) → list_all is_word ls ≡ true → behind ls (ls ++ ts) ≡ Ok ts
unfolding behind
behind_again [] ts h = refl
behind_again (l ∷ ls) ts h =
    let p = and_parts (is_word l) (list_all is_word ls) h in
    bind_again (lexeme_at l (l ∷ (ls ++ ts))) (λ r. behind ls r) (ls ++ ts) (lexeme_again l (ls ++ ts) p.0) ∙ behind_again ls ts p.1

-- ---- numbers, names and constants
pub number_takes : (ts : List Lexeme) (x : ℕ × List Lexeme) → number_at ts ≡ Ok x → ts ≡ LNumber x.0 ∷ x.1
number_takes (LNumber n ∷ ts) x e = ap (λ (p : ℕ × List Lexeme). LNumber p.0 ∷ p.1) (same_ok (n, ts) x e)
number_takes ts x e = absurd cc

-- a name in front, and what it is
pub record TakesName (ts : List Lexeme) (x : List ℕ × List Lexeme) : Type 0 where
  pub text : ts ≡ LName x.0 ∷ x.1
  pub proper : is_name x.0 ≡ true

pub name_takes : (ts : List Lexeme) (x : List ℕ × List Lexeme) → name_at ts ≡ Ok x → TakesName ts x
name_takes (LName s ∷ ts) x e =
    let k = kept_takes (is_name s) (s, ts) x code.Syntax (LName s ∷ ts) e in
    subst (λ (y : List ℕ × List Lexeme). TakesName (LName s ∷ ts) y) k.1 (record { text = refl; proper = k.0 })
name_takes ts x e = absurd cc

pub record TakesConstant (ts : List Lexeme) (x : Word × List Lexeme) : Type 0 where
  pub text : ts ≡ constant x.0 ∷ x.1
  pub fits : word_fits x.0 ≡ true

pub constant_takes : (ts : List Lexeme) (x : Word × List Lexeme) → constant_at ts ≡ Ok x → TakesConstant ts x
constant_takes (LSized w v ∷ ts) x e =
    let k = kept_takes (word_fits (word w v)) (word w v, ts) x code.Width (LSized w v ∷ ts) e in
    subst (λ (y : Word × List Lexeme). TakesConstant (LSized w v ∷ ts) y) k.1 (record { text = refl; fits = k.0 })
constant_takes (LOutOfRange ∷ ts) x e = absurd cc
constant_takes ts x e = absurd cc

pub constant_again : (w : Word) (ts : List Lexeme) → word_fits w ≡ true → constant_at (constant w ∷ ts) ≡ Ok (w, ts)
constant_again w ts h = kept_again (word_fits w) (w, ts) code.Width (constant w ∷ ts) h

-- ---- operators
op_names : (s : Symbol) (o : Op) → op_of s ≡ Some o → s ≡ op_symbol o
op_names symbol.Plus o e = ap op_symbol (same_Some _ o e)
op_names symbol.Minus o e = ap op_symbol (same_Some _ o e)
op_names symbol.Star o e = ap op_symbol (same_Some _ o e)
op_names symbol.And o e = ap op_symbol (same_Some _ o e)
op_names symbol.Or o e = ap op_symbol (same_Some _ o e)
op_names symbol.Xor o e = ap op_symbol (same_Some _ o e)
op_names symbol.ShiftLeft o e = ap op_symbol (same_Some _ o e)
op_names symbol.ShiftRight o e = ap op_symbol (same_Some _ o e)
op_names symbol.Equal o e = ap op_symbol (same_Some _ o e)
op_names symbol.NotEqual o e = ap op_symbol (same_Some _ o e)
op_names symbol.Less o e = ap op_symbol (same_Some _ o e)
op_names symbol.LessEqual o e = ap op_symbol (same_Some _ o e)
op_names symbol.Greater o e = ap op_symbol (same_Some _ o e)
op_names symbol.GreaterEqual o e = ap op_symbol (same_Some _ o e)
op_names s o e = absurd cc

op_known : (o : Op) → op_of (op_symbol o) ≡ Some o
op_known op.Add = refl
op_known op.Sub = refl
op_known op.Mul = refl
op_known op.And = refl
op_known op.Or = refl
op_known op.Xor = refl
op_known op.ShiftLeft = refl
op_known op.ShiftRight = refl
op_known op.Equal = refl
op_known op.NotEqual = refl
op_known op.Less = refl
op_known op.LessEqual = refl
op_known op.Greater = refl
op_known op.GreaterEqual = refl

pub op_takes : (ts : List Lexeme) (x : Op × List Lexeme) → op_at ts ≡ Ok x → ts ≡ LSymbol (op_symbol x.0) ∷ x.1
op_takes (LSymbol s ∷ ts) x e = by_op (op_of s) refl
  where
    by_op : (o : Option Op) → op_of s ≡ o → LSymbol s ∷ ts ≡ LSymbol (op_symbol x.0) ∷ x.1
    by_op (Some o) k =
        let h = rw k at e in
        ap (λ (y : Symbol). LSymbol y ∷ ts) (op_names s o k) ∙ ap (λ (p : Op × List Lexeme). LSymbol (op_symbol p.0) ∷ p.1) (same_ok (o, ts) x h)
    by_op None k = let h = rw k at e in absurd cc
op_takes ts x e = absurd cc

pub op_again : (o : Op) (ts : List Lexeme) → op_at (LSymbol (op_symbol o) ∷ ts) ≡ Ok (o, ts)
op_again o ts = rw (op_known o) refl

-- ---- what a name stands for
pub record TakesEntry (names : Resolve) (ts : List Lexeme) (x : Entry × List Lexeme) : Type 0 where
  pub name : List ℕ
  pub text : ts ≡ LName name ∷ x.1
  pub proper : is_name name ≡ true
  pub stands : names name ≡ Some x.0

pub entry_takes : (names : Resolve) (ts : List Lexeme) (x : Entry × List Lexeme) → entry_at names ts ≡ Ok x → TakesEntry names ts x
unfolding entry_at
entry_takes names ts x h =
    let s = bind_ok (name_at ts) _ x h in
    let e = bind_ok (found (names s.0.0) code.Unknown ts) _ x s.2 in
    let n = name_takes ts s.0 s.1 in
    subst (λ (y : Entry × List Lexeme). TakesEntry names ts y) (same_ok (e.0, s.0.1) x e.2)
    (record { name = s.0.0; text = n.text; proper = n.proper; stands = found_takes (names s.0.0) e.0 code.Unknown ts e.1 })

pub entry_again : (names : Resolve) (s : List ℕ) (e : Entry) (ts : List Lexeme) → is_name s ≡ true → names s ≡ Some e → entry_at names (LName s ∷ ts) ≡ Ok (e, ts)
unfolding entry_at
entry_again names s e ts h k = rw (h, k) refl
