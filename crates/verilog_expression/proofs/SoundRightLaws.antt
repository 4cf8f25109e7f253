-- What is read as the right side of a wire is spelled so, and keeps the rules.
use Rattle.std.specs.Prelude.{◌==◌}
use Rattle.std.proofs.Common.{◌≡◌, ℕ, ◌<◌, Bool, true, false, Some, Ok, List, ◌∷◌, ◌++◌, refl, sym, ap, ◌∙◌, subst}
use Rattle.std.proofs.lemmas.Bool.{and_from, eqb-true, eq-eqb}
use Rattle.net_core.specs.declared.tree.Net.{Net}
use Rattle.net_core.specs.Nets.{RPlain}
use Rattle.net_core.specs.Width.{Scope, same_width, right_width}
use Rattle.verilog_lex.specs.declared.token.Symbol.{Symbol}
use Rattle.verilog_lex.specs.declared.token.Symbol.TheVariants as symbol
use Rattle.verilog_lex.specs.Lexeme.{Lexeme, LName, LSymbol}
use Rattle.verilog_write.specs.VerilogGrammar.Grammar.{right_lexemes}
use Rattle.design_rules.specs.FormedSyntax.{right_spelled}
use Rattle.design_rules.specs.FormedScope.{Sorts, right_known}
use Rattle.verilog_expression.specs.declared.fault.Code.TheVariants as code
use Rattle.verilog_expression.specs.declared.entry.Entry.{Entry}
use Rattle.verilog_expression.specs.declared.entry.Entry.TheVariants as entry
use Rattle.verilog_expression.specs.Expressions.{Resolve, entry_at, whole_expr_at}
use Rattle.verilog_expression.specs.Rights.{SizedRight, as_value, value_at, division, division_at, plain_at, right_at}
use Rattle.verilog_expression.specs.Laws.{Knows, IsRightFound}
use Rattle.verilog_expression.proofs.LexemeLaws.{bind_ok, same_ok, ok_so, kept_takes, entry_takes}
use Rattle.verilog_expression.proofs.SoundTreeLaws.{whole_found}

-- the symbol between the two names
abbrev pub divider : Bool → Symbol
divider true = symbol.Slash
divider false = symbol.Percent

as_value_takes : (own : List Lexeme) (e : Entry) (x : Net × ℕ) → as_value own e ≡ Ok x → e ≡ entry.Value x.0 x.1
as_value_takes own (entry.Value n w) x h = ap (λ (p : Net × ℕ). entry.Value p.0 p.1) (same_ok (n, w) x h)
as_value_takes own e x h = absurd cc

-- the name of a net that can be read, and its width
record TakesValue (name : Net → List ℕ) (s : Scope Net) (k : Sorts Net) (ts : List Lexeme) (x : (Net × ℕ) × List Lexeme) : Type 0 where
  text : ts ≡ LName (name x.0.0) ∷ x.1
  width : s.net x.0.0 ≡ x.0.1
  some : 0 < x.0.1
  known : k.value x.0.0 ≡ true

same_whole : (a b w : ℕ) → a ≡ w → b ≡ w → same_width a b ≡ w
same_whole a b w p q = rw (p, q, eq-eqb w w refl) refl

module _ (names : Resolve) (name : Net → List ℕ) (s : Scope Net) (k : Sorts Net) (knows : Knows names name s k) where
  value_takes : (ts : List Lexeme) (x : (Net × ℕ) × List Lexeme) → value_at names ts ≡ Ok x → TakesValue name s k ts x
  unfolding value_at
  value_takes ts x h =
      let e = bind_ok (entry_at names ts) _ x h in
      let n = bind_ok (as_value ts e.0.0) _ x e.2 in
      let g = entry_takes names ts e.0 e.1 in
      let v = knows.value g.name n.0.0 n.0.1 (g.stands ∙ ap (λ (y : Entry). Some y) (as_value_takes ts e.0.0 n.0 n.1)) in
      ok_so (TakesValue name s k ts) (n.0, e.0.1) x n.2
      (record { text = g.text ∙ ap (λ (l : List ℕ). LName l ∷ e.0.1) (sym v.named); width = v.width; some = v.some; known = v.known })

  division_text : (q : Bool) (a b : Net) (l : List ℕ) (own t1 ts r : List Lexeme) → own ≡ LName l ∷ LSymbol (divider q) ∷ ts → own ≡ LName (name a) ∷ t1 → ts ≡ LName (name b) ∷ r → own ≡ right_lexemes name (division q a b) ++ r
  division_text true a b l own t1 ts r p o e = cc
  division_text false a b l own t1 ts r p o e = cc

  division_width : (q : Bool) (a b : Net) (w : ℕ) → s.net a ≡ w → s.net b ≡ w → right_width s (division q a b) ≡ w
  division_width true a b w p q = same_whole (s.net a) (s.net b) w p q
  division_width false a b w p q = same_whole (s.net a) (s.net b) w p q

  division_spelled : (q : Bool) (a b : Net) → right_spelled (division q a b) ≡ true
  division_spelled true a b = refl
  division_spelled false a b = refl

  division_known : (q : Bool) (a b : Net) → k.value a ≡ true → k.value b ≡ true → right_known k (division q a b) ≡ true
  division_known true a b p o = and_from (k.value a) (k.value b) p o
  division_known false a b p o = and_from (k.value a) (k.value b) p o

  division_takes : (q : Bool) (l : List ℕ) (own ts : List Lexeme) (x : SizedRight × List Lexeme) → own ≡ LName l ∷ LSymbol (divider q) ∷ ts → division_at names q own ts ≡ Ok x → IsRightFound name s k own x
  unfolding division_at
  division_takes q l own ts x p h =
      let a = bind_ok (value_at names own) _ x h in
      let b = bind_ok (value_at names ts) _ x a.2 in
      let f = value_takes own a.0 a.1 in
      let g = value_takes ts b.0 b.1 in
      let y = kept_takes (a.0.0.1 == b.0.0.1) (record { right = division q a.0.0.0 b.0.0.0; width = a.0.0.1 }, b.0.1) x code.Width ts b.2 in
      let w = division_width q a.0.0.0 b.0.0.0 a.0.0.1 f.width (g.width ∙ sym (eqb-true a.0.0.1 b.0.0.1 y.0)) in
      subst (IsRightFound name s k own) y.1
      (record {
        text = division_text q a.0.0.0 b.0.0.0 l own a.0.1 ts b.0.1 p f.text g.text;
        width = w;
        keeps = record {
          spelled = division_spelled q a.0.0.0 b.0.0.0;
          some = subst (λ (v : ℕ). 0 < v) (sym w) f.some;
          known = division_known q a.0.0.0 b.0.0.0 f.known g.known;
        };
      })

  plain_takes : (ts : List Lexeme) (x : SizedRight × List Lexeme) → plain_at names ts ≡ Ok x → IsRightFound name s k ts x
  unfolding plain_at
  plain_takes ts x h =
      let e = bind_ok (whole_expr_at names ts) _ x h in
      let f = whole_found names name s k knows ts e.0 e.1 in
      ok_so (IsRightFound name s k ts) (record { right = RPlain e.0.0.tree; width = e.0.0.width }, e.0.1) x e.2
      (record { text = f.text; width = f.width; keeps = record { spelled = f.keeps.spelled; some = f.keeps.some; known = f.keeps.known } })

  -- what is read as the right side of a wire is spelled so, and keeps the rules
  pub right_found : (ts : List Lexeme) (x : SizedRight × List Lexeme) → right_at names ts ≡ Ok x → IsRightFound name s k ts x
  unfolding right_at
  right_found (LName l ∷ LSymbol symbol.Slash ∷ ts) x h = division_takes true l (LName l ∷ LSymbol symbol.Slash ∷ ts) ts x refl h
  right_found (LName l ∷ LSymbol symbol.Percent ∷ ts) x h = division_takes false l (LName l ∷ LSymbol symbol.Percent ∷ ts) ts x refl h
  right_found ts x h = plain_takes ts x h
