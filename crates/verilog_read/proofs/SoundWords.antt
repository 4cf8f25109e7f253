-- What widths, new names, ends and indices take from the beginning.
use Rattle.std.proofs.Common.{◌≡◌, ◌⊎◌, inl, inr, ℕ, zero, suc, ◌+◌, ◌-◌, ◌^◌, ◌<◌, ◌≤◌, Bool, true, false, not, ◌&&◌, Option, Some, Ok, List, [], ◌∷◌, ◌++◌, nat_lt, refl, sym, ap, ◌∙◌, subst, arith}
use Rattle.std.specs.Prelude.{◌==◌, if◌then◌else◌}
use Rattle.std.specs.Str.{bytes_eq}
use Rattle.std.specs.List.{list_any}
use Rattle.std.proofs.lemmas.Bool.{and_parts, cond-false, eqb-true, ltb-true, ne_eqb}
use Rattle.net_core.specs.Nets.{Netlist}
use Rattle.verilog_lex.specs.declared.token.Symbol.TheVariants as symbol
use Rattle.verilog_lex.specs.Lexeme.{Lexeme, LName, LNumber, LSymbol}
use Rattle.verilog_expression.specs.verilog_write.VerilogGrammar.Grammar.{range_lexemes}
use Rattle.design_rules.specs.FormedSyntax.{is_name}
use Rattle.verilog_expression.specs.declared.fault.Code.TheVariants as code
use Rattle.verilog_expression.specs.Lexemes.{symbol_at, behind, number_at, name_at}
use Rattle.verilog_expression.proofs.LexemeLaws.{bind_ok, ok_so, kept_takes, lexeme_takes, behind_takes, number_takes, name_takes}
use Rattle.verilog_read.specs.Header.{range_at, fresh_at}
use Rattle.verilog_read.specs.Declarations.{ends_at, index_from, index_of}

-- ---- widths
pub record TakesRange (ts : List Lexeme) (x : ℕ × List Lexeme) : Type 0 where
  pub text : ts ≡ range_lexemes x.0 ++ x.1
  pub some : 0 < x.0
  pub most : x.0 ≤ 64

-- the lexemes of `[n:0]`
abbrev brackets : ℕ → List Lexeme
brackets n = LSymbol symbol.OpenBracket ∷ LNumber n ∷ LSymbol symbol.Colon ∷ LNumber 0 ∷ LSymbol symbol.CloseBracket ∷ []

wide : (n : ℕ) (r : List Lexeme) → 0 < n → brackets n ++ r ≡ range_lexemes (suc n) ++ r
wide n r h =
    let k : suc n - 1 ≡ n = omega arith in
    let test : (suc n == 1) ≡ false = ne_eqb (suc n) 1 (λ e. let f : suc n ≡ 1 = e in omega arith) in
    sym (ap (λ (l : List Lexeme). l ++ r) (cond-false (suc n == 1) [] (brackets (suc n - 1)) test ∙ ap brackets k))

range_text : (n : ℕ) (ts t1 t2 r : List Lexeme) → ts ≡ LNumber n ∷ t1 → t1 ≡ LSymbol symbol.Colon ∷ LNumber 0 ∷ t2 → t2 ≡ LSymbol symbol.CloseBracket ∷ r → LSymbol symbol.OpenBracket ∷ ts ≡ brackets n ++ r
range_text n ts t1 t2 r p q u = cc

pub range_takes : (ts : List Lexeme) (x : ℕ × List Lexeme) → range_at ts ≡ Ok x → TakesRange ts x
unfolding range_at
range_takes (LSymbol symbol.OpenBracket ∷ ts) x e =
    let n = bind_ok (number_at ts) _ x e in
    let a = bind_ok (behind (LSymbol symbol.Colon ∷ LNumber 0 ∷ []) n.0.1) _ x n.2 in
    let r = bind_ok (symbol_at symbol.CloseBracket a.0) _ x a.2 in
    let k = kept_takes (nat_lt 0 n.0.0 && nat_lt n.0.0 64) (suc n.0.0, r.0) x code.Width a.0 r.2 in
    let t = and_parts (nat_lt 0 n.0.0) (nat_lt n.0.0 64) k.0 in
    let some : 0 < n.0.0 = ltb-true 0 n.0.0 t.0 in
    let most : n.0.0 < 64 = ltb-true n.0.0 64 t.1 in
    subst (TakesRange (LSymbol symbol.OpenBracket ∷ ts)) k.1 (record {
      text = range_text n.0.0 ts n.0.1 a.0 r.0 (number_takes ts n.0 n.1) (behind_takes (LSymbol symbol.Colon ∷ LNumber 0 ∷ []) n.0.1 a.0 a.1) (lexeme_takes (LSymbol symbol.CloseBracket) a.0 r.0 r.1)
          ∙ wide n.0.0 r.0 some;
      some = omega arith;
      most = omega arith;
    })
range_takes ts x e = ok_so (TakesRange ts) (1, ts) x e (record { text = refl; some = omega arith; most = omega arith })

-- ---- new names
pub record TakesFresh (d : Netlist) (ts : List Lexeme) (x : List ℕ × List Lexeme) : Type 0 where
  pub text : ts ≡ LName x.0 ∷ x.1
  pub proper : is_name x.0 ≡ true
  pub new : not (list_any (bytes_eq x.0) d.names) ≡ true

pub fresh_takes : (d : Netlist) (ts : List Lexeme) (x : List ℕ × List Lexeme) → fresh_at d ts ≡ Ok x → TakesFresh d ts x
unfolding fresh_at
fresh_takes d ts x e =
    let s = bind_ok (name_at ts) _ x e in
    let n = name_takes ts s.0 s.1 in
    let k = kept_takes (not (list_any (bytes_eq s.0.0) d.names)) s.0 x code.Twice ts s.2 in
    subst (TakesFresh d ts) k.1 (record { text = n.text; proper = n.proper; new = k.0 })

-- ---- the end of an item
pub ends_takes : (fits : Bool) (ts r : List Lexeme) → ends_at fits ts ≡ Ok r → (fits ≡ true) × (ts ≡ LSymbol symbol.Semicolon ∷ r)
unfolding ends_at
ends_takes fits ts r e =
    let a = bind_ok (symbol_at symbol.Semicolon ts) _ r e in
    let k = kept_takes fits a.0 r code.Width ts a.2 in
    (k.0, lexeme_takes (LSymbol symbol.Semicolon) ts a.0 a.1 ∙ ap (λ (l : List Lexeme). LSymbol symbol.Semicolon ∷ l) k.1)

-- ---- the widths of indices
pub record TakesIndex (last first most w : ℕ) : Type 0 where
  pub last_value : last ≡ 2 ^ w - 1
  pub least : first ≤ w
  pub below : w < first + most

index_tested : (b : Bool) (width w : ℕ) (more : Option ℕ) → (if b then Some width else more) ≡ Some w → ((b ≡ true) × (width ≡ w)) ⊎ (more ≡ Some w)
index_tested true width w more h = inl (refl, cc)
index_tested false width w more h = inr h

index_from_takes : (most width last w : ℕ) → index_from most width last ≡ Some w → TakesIndex last width most w
index_from_takes zero width last w h = absurd cc
index_from_takes (suc more) width last w h = elim (index_tested (last == 2 ^ width - 1) width w (index_from more (suc width) last) h) [
  | inl p ↦ record { last_value = eqb-true last (2 ^ width - 1) p.0 ∙ ap (λ (k : ℕ). 2 ^ k - 1) p.1; least = omega (arith, p.1); below = omega (arith, p.1) }
  | inr p ↦ let t = index_from_takes more (suc width) last w p in record { last_value = t.last_value; least = omega (arith, t.least); below = omega (arith, t.below) }
]

pub index_takes : (last w : ℕ) → index_of last ≡ Some w → TakesIndex last 1 16 w
index_takes last w h = index_from_takes 16 1 last w h
