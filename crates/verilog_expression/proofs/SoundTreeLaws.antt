-- What is read as an expression is spelled so, and keeps the rules.
use Rattle.std.specs.Prelude.{nat_lt, nat_le, if◌then◌else◌}
use Rattle.std.proofs.Common.{◌≡◌, ℕ, zero, suc, ◌+◌, ◌^◌, ◌<◌, ◌≤◌, Bool, true, false, not, ◌&&◌, Some, Ok, List, [], ◌∷◌, ◌++◌, length, refl, sym, ap, ◌∙◌, subst, append_assoc, arith}
use Rattle.std.proofs.lemmas.Bool.{and_parts, and_from, ltb-true, lt-ltb, leb-true, le-leb}
use Rattle.net_core.specs.declared.tree.Net.{Net}
use Rattle.net_core.specs.declared.tree.Net.TheVariants as net
use Rattle.net_core.specs.declared.tree.UnaryOp.{UnaryOp}
use Rattle.net_core.specs.declared.tree.UnaryOp.TheVariants as unary_op
use Rattle.net_core.specs.declared.tree.Word.{Word}
use Rattle.net_core.specs.Nets.{Tree, TConst, TRead, TBit, TPartSelect, TMemoryWord, TUnary, TBinary, TConditional, TConcatenation, TLast, TMore}
use Rattle.net_core.proofs.WidthLaws.{concatenation_is}
use Rattle.net_core.specs.Width.{Scope, const_width, part_select_width, memory_word_width, unary_width, op_width, conditional_width, concatenation_width, word_fits, width_of, parts_width}
use Rattle.verilog_lex.specs.declared.token.Symbol.{Symbol}
use Rattle.verilog_lex.specs.declared.token.Symbol.TheVariants as symbol
use Rattle.verilog_lex.specs.Lexeme.{Lexeme, LName, LNumber, LSized, LOutOfRange, LSymbol}
use Rattle.verilog_write.specs.VerilogGrammar.Grammar.{op_symbol, unary_symbol, tree_lexemes, parts_lexemes}
use Rattle.design_rules.specs.FormedSyntax.{depth, parts_depth, is_prefixed, prefixes_apart, parts_apart}
use Rattle.design_rules.specs.FormedScope.{Sorts, reads_known, parts_known}
use Rattle.verilog_expression.specs.declared.fault.Code.TheVariants as code
use Rattle.verilog_expression.specs.declared.entry.Entry.{Entry}
use Rattle.verilog_expression.specs.declared.entry.Entry.TheVariants as entry
use Rattle.verilog_expression.specs.Reads.{Read, ◌>>=◌, fault}
use Rattle.verilog_expression.specs.Lexemes.{symbol_at, number_at, constant_at, op_at, begins_number, begins_expression}
use Rattle.verilog_expression.specs.Expressions.{Resolve, Sized, SizedParts, sized, entry_at, part_select_at, select_at, memory_word_at, named_at, second_at, paren_at, more_at, parts_at, whole_width, concatenation_at, unary_at, symbol_first, constant_expr_at, first_at, expr_at, whole_expr_at}
use Rattle.verilog_expression.specs.Laws.{IsValueNamed, IsMemoryNamed, Knows, IsTreeFound}
use Rattle.verilog_expression.proofs.LexemeLaws.{bind_ok, ok_so, kept_takes, lexeme_takes, number_takes, constant_takes, op_takes, entry_takes}

pub never : {A : Type 0} → false ≡ true → A
never h = absurd cc

no_unary : (b : Bool) → (b ≡ true → false ≡ true) → not b ≡ true
no_unary true h = h refl
no_unary false h = refl

-- ---- widths
-- an expression that was read has a width
sized_so : (P : Sized × List Lexeme → Type 0) (t : Tree Net) (w : ℕ) (rest ends : List Lexeme) (x : Sized × List Lexeme) → sized t w rest ends ≡ Ok x → (0 < w → P (record { tree = t; width = w }, rest)) → P x
sized_so P t w rest ends x e h =
    let k = kept_takes (nat_lt 0 w) (record { tree = t; width = w }, rest) x code.Width ends e in
    subst P k.1 (h (ltb-true 0 w k.0))

const_whole : (w : Word) → word_fits w ≡ true → (const_width w ≡ w.width) × (0 < w.width)
const_whole w h =
    let p = and_parts (nat_lt 0 w.width) (nat_le w.width 64 && nat_lt w.value (2 ^ w.width)) h in
    (rw p.1 refl, ltb-true 0 w.width p.0)

unary_some : (p : UnaryOp) (w : ℕ) → 0 < w → 0 < unary_width p w
unary_some unary_op.Not w h = h
unary_some unary_op.ReduceOr w h = rw (lt-ltb 0 w h) (omega arith)

-- a sum that is a width
whole_sum : (n : ℕ) → 0 < whole_width n → (n ≤ 64) × (whole_width n ≡ n)
whole_sum n h = by_test (nat_le n 64) refl
  where
    by_test : (b : Bool) → nat_le n 64 ≡ b → (n ≤ 64) × (whole_width n ≡ n)
    by_test true e = (leb-true n 64 e, rw e refl)
    by_test false e = let k = rw e at h in absurd (omega arith)

-- ---- texts from their parts
pub then_text : (a t1 t2 ts : List Lexeme) → ts ≡ a ++ t1 → t1 ≡ t2 → ts ≡ a ++ t2
then_text a t1 t2 ts p q = p ∙ ap (λ (t : List Lexeme). a ++ t) q

bit_text : (s u : List ℕ) (hi : ℕ) (ts r : List Lexeme) → u ≡ s → ts ≡ LSymbol symbol.CloseBracket ∷ r → LName s ∷ LSymbol symbol.OpenBracket ∷ LNumber hi ∷ ts ≡ (LName u ∷ LSymbol symbol.OpenBracket ∷ LNumber hi ∷ LSymbol symbol.CloseBracket ∷ []) ++ r
bit_text s u hi ts r p q = cc

part_select_text : (s u : List ℕ) (hi lo : ℕ) (ts t1 r : List Lexeme) → u ≡ s → ts ≡ LNumber lo ∷ t1 → t1 ≡ LSymbol symbol.CloseBracket ∷ r → LName s ∷ LSymbol symbol.OpenBracket ∷ LNumber hi ∷ LSymbol symbol.Colon ∷ ts ≡ (LName u ∷ LSymbol symbol.OpenBracket ∷ LNumber hi ∷ LSymbol symbol.Colon ∷ LNumber lo ∷ LSymbol symbol.CloseBracket ∷ []) ++ r
part_select_text s u hi lo ts t1 r p q o = cc

memory_word_text : (s u : List ℕ) (i ts t1 t2 : List Lexeme) → u ≡ s → ts ≡ i ++ t1 → t1 ≡ LSymbol symbol.CloseBracket ∷ t2 → LName s ∷ LSymbol symbol.OpenBracket ∷ ts ≡ (LName u ∷ LSymbol symbol.OpenBracket ∷ (i ++ LSymbol symbol.CloseBracket ∷ [])) ++ t2
memory_word_text s u i ts t1 t2 p q o = rw (p, q, o) (simp append_assoc)

binary_text : (o : Lexeme) (a b ts t1 t2 t3 t4 : List Lexeme) → ts ≡ a ++ t1 → t1 ≡ o ∷ t2 → t2 ≡ b ++ t3 → t3 ≡ LSymbol symbol.CloseParenthesis ∷ t4 → LSymbol symbol.OpenParenthesis ∷ ts ≡ (LSymbol symbol.OpenParenthesis ∷ (a ++ o ∷ (b ++ LSymbol symbol.CloseParenthesis ∷ []))) ++ t4
binary_text o a b ts t1 t2 t3 t4 p q r s = rw (p, q, r, s) (simp append_assoc)

conditional_text : (c a b ts t1 t2 t3 t4 t5 t6 : List Lexeme) → ts ≡ c ++ t1 → t1 ≡ LSymbol symbol.Question ∷ t2 → t2 ≡ a ++ t3 → t3 ≡ LSymbol symbol.Colon ∷ t4 → t4 ≡ b ++ t5 → t5 ≡ LSymbol symbol.CloseParenthesis ∷ t6 → LSymbol symbol.OpenParenthesis ∷ ts ≡ (LSymbol symbol.OpenParenthesis ∷ (c ++ LSymbol symbol.Question ∷ (a ++ LSymbol symbol.Colon ∷ (b ++ LSymbol symbol.CloseParenthesis ∷ [])))) ++ t6
conditional_text c a b ts t1 t2 t3 t4 t5 t6 p q r s u v = rw (p, q, r, s, u, v) (simp append_assoc)

concatenation_text : (a ts t1 t2 : List Lexeme) → ts ≡ a ++ t1 → t1 ≡ LSymbol symbol.CloseBrace ∷ t2 → LSymbol symbol.OpenBrace ∷ ts ≡ (LSymbol symbol.OpenBrace ∷ (a ++ LSymbol symbol.CloseBrace ∷ [])) ++ t2
concatenation_text a ts t1 t2 p q = rw (p, q) (simp append_assoc)

more_text : (a b ts t1 t2 : List Lexeme) → ts ≡ a ++ LSymbol symbol.Comma ∷ t1 → t1 ≡ b ++ t2 → ts ≡ (a ++ LSymbol symbol.Comma ∷ b) ++ t2
more_text a b ts t1 t2 p q = rw (p, q) (simp append_assoc)

-- ---- what reading takes from the beginning
-- of at most this depth, and beginning with a prefix operator only where the flag says so
record Takes (name : Net → List ℕ) (s : Scope Net) (k : Sorts Net) (d : ℕ) (any : Bool) (ts : List Lexeme) (x : Sized × List Lexeme) : Type 0 where
  text : ts ≡ tree_lexemes name x.0.tree ++ x.1
  deep : depth x.0.tree ≤ d
  apart : prefixes_apart x.0.tree ≡ true
  prefix : is_prefixed x.0.tree ≡ true → any ≡ true
  width : width_of s x.0.tree ≡ x.0.width
  some : 0 < x.0.width
  known : reads_known k x.0.tree ≡ true

record TakesParts (name : Net → List ℕ) (s : Scope Net) (k : Sorts Net) (d : ℕ) (ts : List Lexeme) (x : SizedParts × List Lexeme) : Type 0 where
  text : ts ≡ parts_lexemes name x.0.parts ++ x.1
  deep : parts_depth x.0.parts ≤ d
  apart : parts_apart x.0.parts ≡ true
  width : x.0.width ≤ 64 → parts_width s x.0.parts ≡ x.0.width
  some : 0 < x.0.width
  known : parts_known k x.0.parts ≡ true

module _ (name : Net → List ℕ) (s : Scope Net) (k : Sorts Net) where
  abbrev Good : ℕ → Bool → (List Lexeme → Read Sized) → Type 0
  Good d any expr = (ts : List Lexeme) (x : Sized × List Lexeme) → expr ts ≡ Ok x → Takes name s k d any ts x

  -- the same lexemes, spelled otherwise
  from_text : (d : ℕ) (any : Bool) (ts us : List Lexeme) (x : Sized × List Lexeme) → ts ≡ us → Takes name s k d any us x → Takes name s k d any ts x
  from_text d any ts us x e h = subst (λ (vs : List Lexeme). Takes name s k d any vs x) (sym e) h

  bit_takes : (d : ℕ) (any : Bool) (text : List ℕ) (n : Net) (w hi : ℕ) (ts : List Lexeme) (x : Sized × List Lexeme) → IsValueNamed name s k text n w → (symbol_at symbol.CloseBracket ts >>= λ r. sized (TBit n hi) (part_select_width w hi hi) r ts) ≡ Ok x → Takes name s k (suc d) any (LName text ∷ LSymbol symbol.OpenBracket ∷ LNumber hi ∷ ts) x
  bit_takes d any text n w hi ts x v e =
      let r = bind_ok (symbol_at symbol.CloseBracket ts) _ x e in
      sized_so (Takes name s k (suc d) any (LName text ∷ LSymbol symbol.OpenBracket ∷ LNumber hi ∷ ts)) (TBit n hi) (part_select_width w hi hi) r.0 ts x r.2
      (λ (some : 0 < part_select_width w hi hi). record {
        text = bit_text text (name n) hi ts r.0 v.named (lexeme_takes (LSymbol symbol.CloseBracket) ts r.0 r.1);
        deep = omega arith;
        apart = refl;
        prefix = never;
        width = ap (λ m. part_select_width m hi hi) v.width;
        some = some;
        known = v.known;
      })

  part_select_takes : (d : ℕ) (any : Bool) (text : List ℕ) (n : Net) (w hi : ℕ) (ts : List Lexeme) (x : Sized × List Lexeme) → IsValueNamed name s k text n w → part_select_at n w hi ts ≡ Ok x → Takes name s k (suc d) any (LName text ∷ LSymbol symbol.OpenBracket ∷ LNumber hi ∷ ts) x
  unfolding part_select_at
  part_select_takes d any text n w hi (LSymbol symbol.Colon ∷ ts) x v e =
      let lo = bind_ok (number_at ts) _ x e in
      let r = bind_ok (symbol_at symbol.CloseBracket lo.0.1) _ x lo.2 in
      sized_so (Takes name s k (suc d) any (LName text ∷ LSymbol symbol.OpenBracket ∷ LNumber hi ∷ LSymbol symbol.Colon ∷ ts)) (TPartSelect n hi lo.0.0) (part_select_width w hi lo.0.0) r.0 lo.0.1 x r.2
      (λ (some : 0 < part_select_width w hi lo.0.0). record {
        text = part_select_text text (name n) hi lo.0.0 ts lo.0.1 r.0 v.named (number_takes ts lo.0 lo.1) (lexeme_takes (LSymbol symbol.CloseBracket) lo.0.1 r.0 r.1);
        deep = omega arith;
        apart = refl;
        prefix = never;
        width = ap (λ m. part_select_width m hi lo.0.0) v.width;
        some = some;
        known = v.known;
      })
  part_select_takes d any text n w hi ts x v e = bit_takes d any text n w hi ts x v e

  select_takes : (d : ℕ) (any : Bool) (text : List ℕ) (n : Net) (w : ℕ) (ts : List Lexeme) (x : Sized × List Lexeme) → IsValueNamed name s k text n w → select_at n w ts ≡ Ok x → Takes name s k (suc d) any (LName text ∷ LSymbol symbol.OpenBracket ∷ ts) x
  unfolding select_at
  select_takes d any text n w ts x v e =
      let hi = bind_ok (number_at ts) _ x e in
      from_text (suc d) any _ _ x (ap (λ (l : List Lexeme). LName text ∷ LSymbol symbol.OpenBracket ∷ l) (number_takes ts hi.0 hi.1)) (part_select_takes d any text n w hi.0.0 hi.0.1 x v hi.2)

  constant_expr_takes : (d : ℕ) (any : Bool) (ts : List Lexeme) (x : Sized × List Lexeme) → constant_expr_at ts ≡ Ok x → Takes name s k (suc d) any ts x
  unfolding constant_expr_at
  constant_expr_takes d any ts x e =
      let c = bind_ok (constant_at ts) _ x e in
      let g = constant_takes ts c.0 c.1 in
      let w = const_whole c.0.0 g.fits in
      ok_so (Takes name s k (suc d) any ts) (record { tree = TConst c.0.0; width = c.0.0.width }, c.0.1) x c.2
      (record { text = g.text; deep = omega arith; apart = refl; prefix = never; width = w.0; some = w.1; known = refl })

  unary_takes : (d : ℕ) (any : Bool) (p : UnaryOp) (operand : List Lexeme → Read Sized) → Good d false operand → (own ts : List Lexeme) (x : Sized × List Lexeme) → unary_at any p operand own ts ≡ Ok x → Takes name s k (suc d) any (LSymbol (unary_symbol p) ∷ ts) x
  unfolding unary_at
  unary_takes d false p operand good own ts x e = absurd cc
  unary_takes d true p operand good own ts x e =
      let a = bind_ok (operand ts) _ x e in
      let g = good ts a.0 a.1 in
      ok_so (Takes name s k (suc d) true (LSymbol (unary_symbol p) ∷ ts)) (record { tree = TUnary p a.0.0.tree; width = unary_width p a.0.0.width }, a.0.1) x a.2
      (record {
        text = ap (λ (l : List Lexeme). LSymbol (unary_symbol p) ∷ l) g.text;
        deep = let h : depth a.0.0.tree ≤ d = g.deep in omega arith;
        apart = and_from _ _ (no_unary _ g.prefix) g.apart;
        prefix = λ h. refl;
        width = ap (unary_width p) g.width;
        some = unary_some p a.0.0.width g.some;
        known = g.known;
      })

  module _ (d : ℕ) (expr : List Lexeme → Read Sized) (good : Good d true expr) where
    memory_word_takes : (any : Bool) (text : List ℕ) (m index w : ℕ) (ts : List Lexeme) (x : Sized × List Lexeme) → IsMemoryNamed name s k text m index w → memory_word_at expr m index w ts ≡ Ok x → Takes name s k (suc d) any (LName text ∷ LSymbol symbol.OpenBracket ∷ ts) x
    unfolding memory_word_at
    memory_word_takes any text m index w ts x v e =
        let i = bind_ok (expr ts) _ x e in
        let r = bind_ok (symbol_at symbol.CloseBracket i.0.1) _ x i.2 in
        let g = good ts i.0 i.1 in
        sized_so (Takes name s k (suc d) any (LName text ∷ LSymbol symbol.OpenBracket ∷ ts)) (TMemoryWord (net.Memory m) i.0.0.tree) (memory_word_width i.0.0.width index w) r.0 i.0.1 x r.2
        (λ (some : 0 < memory_word_width i.0.0.width index w). record {
          text = memory_word_text text (name (net.Memory m)) (tree_lexemes name i.0.0.tree) ts i.0.1 r.0 v.named g.text (lexeme_takes (LSymbol symbol.CloseBracket) i.0.1 r.0 r.1);
          deep = let h : depth i.0.0.tree ≤ d = g.deep in omega arith;
          apart = g.apart;
          prefix = never;
          width = rw (g.width, v.index, v.memory_word) refl;
          some = some;
          known = and_from _ _ v.known g.known;
        })

    in_value_takes : (any : Bool) (own : List Lexeme) (text : List ℕ) (n : Net) (w : ℕ) (ts : List Lexeme) (x : Sized × List Lexeme) (b c : Bool) → IsValueNamed name s k text n w → (if b then select_at n w ts else (if c then fault code.Unknown own else fault code.Syntax ts)) ≡ Ok x → Takes name s k (suc d) any (LName text ∷ LSymbol symbol.OpenBracket ∷ ts) x
    in_value_takes any own text n w ts x true c v e = select_takes d any text n w ts x v e
    in_value_takes any own text n w ts x false true v e = absurd cc
    in_value_takes any own text n w ts x false false v e = absurd cc

    in_words_takes : (any : Bool) (own : List Lexeme) (text : List ℕ) (m index w : ℕ) (ts : List Lexeme) (x : Sized × List Lexeme) (b : Bool) → IsMemoryNamed name s k text m index w → (if b then fault code.Unknown own else memory_word_at expr m index w ts) ≡ Ok x → Takes name s k (suc d) any (LName text ∷ LSymbol symbol.OpenBracket ∷ ts) x
    in_words_takes any own text m index w ts x true v e = absurd cc
    in_words_takes any own text m index w ts x false v e = memory_word_takes any text m index w ts x v e

    read_takes : (any : Bool) (text : List ℕ) (n : Net) (w : ℕ) (ts : List Lexeme) (x : Sized × List Lexeme) → IsValueNamed name s k text n w → (let r : Read Sized = Ok (record { tree = TRead n; width = w }, ts) in r) ≡ Ok x → Takes name s k (suc d) any (LName text ∷ ts) x
    read_takes any text n w ts x v e =
        ok_so (Takes name s k (suc d) any (LName text ∷ ts)) (record { tree = TRead n; width = w }, ts) x e
        (record { text = ap (λ (l : List ℕ). LName l ∷ ts) (sym v.named); deep = omega arith; apart = refl; prefix = never; width = v.width; some = v.some; known = v.known })

    named_takes : (names : Resolve) → Knows names name s k → (any : Bool) (own : List Lexeme) (text : List ℕ) (e : Entry) (ts : List Lexeme) (x : Sized × List Lexeme) → names text ≡ Some e → named_at expr own e ts ≡ Ok x → Takes name s k (suc d) any (LName text ∷ ts) x
    unfolding named_at
    named_takes names knows any own text (entry.Value n w) (LSymbol symbol.OpenBracket ∷ ts) x h e = in_value_takes any own text n w ts x (begins_number ts) (begins_expression ts) (knows.value text n w h) e
    named_takes names knows any own text (entry.Value n w) ts x h e = read_takes any text n w ts x (knows.value text n w h) e
    named_takes names knows any own text (entry.Words m i w) (LSymbol symbol.OpenBracket ∷ ts) x h e = in_words_takes any own text m i w ts x (begins_number ts) (knows.words text m i w h) e
    named_takes names knows any own text f ts x h e = absurd cc

    binary_takes : (any : Bool) (a : Sized) (t0 ts : List Lexeme) (x : Sized × List Lexeme) → Takes name s k d true t0 (a, ts) → (op_at ts >>= λ o. expr o.1 >>= λ b. symbol_at symbol.CloseParenthesis b.1 >>= λ r. sized (TBinary o.0 a.tree b.0.tree) (op_width o.0 a.width b.0.width) r b.1) ≡ Ok x → Takes name s k (suc d) any (LSymbol symbol.OpenParenthesis ∷ t0) x
    binary_takes any a t0 ts x f e =
        let o = bind_ok (op_at ts) _ x e in
        let b = bind_ok (expr o.0.1) _ x o.2 in
        let r = bind_ok (symbol_at symbol.CloseParenthesis b.0.1) _ x b.2 in
        let g = good o.0.1 b.0 b.1 in
        sized_so (Takes name s k (suc d) any (LSymbol symbol.OpenParenthesis ∷ t0)) (TBinary o.0.0 a.tree b.0.0.tree) (op_width o.0.0 a.width b.0.0.width) r.0 b.0.1 x r.2
        (λ (some : 0 < op_width o.0.0 a.width b.0.0.width). record {
          text = binary_text (LSymbol (op_symbol o.0.0)) (tree_lexemes name a.tree) (tree_lexemes name b.0.0.tree) t0 ts o.0.1 b.0.1 r.0 f.text (op_takes ts o.0 o.1) g.text (lexeme_takes (LSymbol symbol.CloseParenthesis) b.0.1 r.0 r.1);
          deep = let h : depth b.0.0.tree ≤ d = g.deep in let i : depth a.tree ≤ d = f.deep in omega arith;
          apart = and_from _ _ f.apart g.apart;
          prefix = never;
          width = rw (f.width, g.width) refl;
          some = some;
          known = and_from _ _ f.known g.known;
        })

    second_takes : (any : Bool) (a : Sized) (t0 ts : List Lexeme) (x : Sized × List Lexeme) → Takes name s k d true t0 (a, ts) → second_at expr a ts ≡ Ok x → Takes name s k (suc d) any (LSymbol symbol.OpenParenthesis ∷ t0) x
    unfolding second_at
    second_takes any a t0 (LSymbol symbol.Question ∷ ts) x f e =
        let b = bind_ok (expr ts) _ x e in
        let m = bind_ok (symbol_at symbol.Colon b.0.1) _ x b.2 in
        let c = bind_ok (expr m.0) _ x m.2 in
        let r = bind_ok (symbol_at symbol.CloseParenthesis c.0.1) _ x c.2 in
        let g = good ts b.0 b.1 in
        let h = good m.0 c.0 c.1 in
        sized_so (Takes name s k (suc d) any (LSymbol symbol.OpenParenthesis ∷ t0)) (TConditional a.tree b.0.0.tree c.0.0.tree) (conditional_width a.width b.0.0.width c.0.0.width) r.0 c.0.1 x r.2
        (λ (some : 0 < conditional_width a.width b.0.0.width c.0.0.width). record {
          text = conditional_text (tree_lexemes name a.tree) (tree_lexemes name b.0.0.tree) (tree_lexemes name c.0.0.tree) t0 (LSymbol symbol.Question ∷ ts) ts b.0.1 m.0 c.0.1 r.0 f.text refl g.text (lexeme_takes (LSymbol symbol.Colon) b.0.1 m.0 m.1) h.text (lexeme_takes (LSymbol symbol.CloseParenthesis) c.0.1 r.0 r.1);
          deep = let i : depth b.0.0.tree ≤ d = g.deep in let j : depth c.0.0.tree ≤ d = h.deep in let l : depth a.tree ≤ d = f.deep in omega arith;
          apart = and_from _ _ f.apart (and_from _ _ g.apart h.apart);
          prefix = never;
          width = rw (f.width, g.width, h.width) refl;
          some = some;
          known = and_from _ _ f.known (and_from _ _ g.known h.known);
        })
    second_takes any a t0 ts x f e = binary_takes any a t0 ts x f e

    paren_takes : (any : Bool) (ts : List Lexeme) (x : Sized × List Lexeme) → paren_at expr ts ≡ Ok x → Takes name s k (suc d) any (LSymbol symbol.OpenParenthesis ∷ ts) x
    unfolding paren_at
    paren_takes any ts x e =
        let a = bind_ok (expr ts) _ x e in
        second_takes any a.0.0 ts a.0.1 x (good ts a.0 a.1) a.2

    last_takes : (a : Sized) (t0 ts : List Lexeme) (x : SizedParts × List Lexeme) → Takes name s k d true t0 (a, ts) → (let r : Read SizedParts = Ok (record { parts = TLast a.tree; width = a.width }, ts) in r) ≡ Ok x → TakesParts name s k d t0 x
    last_takes a t0 ts x f e =
        ok_so (TakesParts name s k d t0) (record { parts = TLast a.tree; width = a.width }, ts) x e
        (record { text = f.text; deep = f.deep; apart = f.apart; width = λ h. f.width; some = f.some; known = f.known })

    more_takes : (parts : List Lexeme → Read SizedParts) → ((ts : List Lexeme) (x : SizedParts × List Lexeme) → parts ts ≡ Ok x → TakesParts name s k d ts x) → (a : Sized) (t0 ts : List Lexeme) (x : SizedParts × List Lexeme) → Takes name s k d true t0 (a, ts) → more_at parts a ts ≡ Ok x → TakesParts name s k d t0 x
    unfolding more_at
    more_takes parts many a t0 (LSymbol symbol.Comma ∷ ts) x f e =
        let ps = bind_ok (parts ts) _ x e in
        let g = many ts ps.0 ps.1 in
        let i : 0 < a.width = f.some in
        let j : 0 < ps.0.0.width = g.some in
        ok_so (TakesParts name s k d t0) (record { parts = TMore a.tree ps.0.0.parts; width = a.width + ps.0.0.width }, ps.0.1) x ps.2
        (record {
          text = more_text (tree_lexemes name a.tree) (parts_lexemes name ps.0.0.parts) t0 ts ps.0.1 f.text g.text;
          deep = let h : parts_depth ps.0.0.parts ≤ d = g.deep in let l : depth a.tree ≤ d = f.deep in omega arith;
          apart = and_from _ _ f.apart g.apart;
          width = λ (h : a.width + ps.0.0.width ≤ 64). rw (f.width, g.width (omega arith)) (concatenation_is a.width ps.0.0.width i j h);
          some = omega arith;
          known = and_from _ _ f.known g.known;
        })
    more_takes parts many a t0 ts x f e = last_takes a t0 ts x f e

    parts_takes : (n : ℕ) (ts : List Lexeme) (x : SizedParts × List Lexeme) → parts_at expr n ts ≡ Ok x → TakesParts name s k d ts x
    unfolding parts_at
    parts_takes zero ts x e = absurd cc
    parts_takes (suc n) ts x e =
        let a = bind_ok (expr ts) _ x e in
        more_takes (parts_at expr n) (parts_takes n) a.0.0 ts a.0.1 x (good ts a.0 a.1) a.2

    concatenation_takes : (any : Bool) (ts : List Lexeme) (x : Sized × List Lexeme) → concatenation_at expr ts ≡ Ok x → Takes name s k (suc d) any (LSymbol symbol.OpenBrace ∷ ts) x
    unfolding concatenation_at
    concatenation_takes any ts x e =
        let ps = bind_ok (parts_at expr (length ts) ts) _ x e in
        let r = bind_ok (symbol_at symbol.CloseBrace ps.0.1) _ x ps.2 in
        let g = parts_takes (length ts) ts ps.0 ps.1 in
        sized_so (Takes name s k (suc d) any (LSymbol symbol.OpenBrace ∷ ts)) (TConcatenation ps.0.0.parts) (whole_width ps.0.0.width) r.0 ps.0.1 x r.2
        (λ (some : 0 < whole_width ps.0.0.width).
        let q = whole_sum ps.0.0.width some in
        record {
          text = concatenation_text (parts_lexemes name ps.0.0.parts) ts ps.0.1 r.0 g.text (lexeme_takes (LSymbol symbol.CloseBrace) ps.0.1 r.0 r.1);
          deep = let h : parts_depth ps.0.0.parts ≤ d = g.deep in omega arith;
          apart = g.apart;
          prefix = never;
          width = g.width q.0 ∙ sym q.1;
          some = some;
          known = g.known;
        })

    symbol_takes : (any : Bool) (operand : List Lexeme → Read Sized) → Good d false operand → (y : Symbol) (own ts : List Lexeme) (x : Sized × List Lexeme) → symbol_first any operand expr y own ts ≡ Ok x → Takes name s k (suc d) any (LSymbol y ∷ ts) x
    unfolding symbol_first
    symbol_takes any operand bare symbol.Not own ts x e = unary_takes d any unary_op.Not operand bare own ts x e
    symbol_takes any operand bare symbol.Or own ts x e = unary_takes d any unary_op.ReduceOr operand bare own ts x e
    symbol_takes any operand bare symbol.OpenParenthesis own ts x e = paren_takes any ts x e
    symbol_takes any operand bare symbol.OpenBrace own ts x e = concatenation_takes any ts x e
    symbol_takes any operand bare y own ts x e = absurd cc

    first_takes : (names : Resolve) → Knows names name s k → (any : Bool) (operand : List Lexeme → Read Sized) → Good d false operand → (ts : List Lexeme) (x : Sized × List Lexeme) → first_at names any operand expr ts ≡ Ok x → Takes name s k (suc d) any ts x
    unfolding first_at
    first_takes names knows any operand bare (LSized w v ∷ ts) x e = constant_expr_takes d any (LSized w v ∷ ts) x e
    first_takes names knows any operand bare (LOutOfRange ∷ ts) x e = constant_expr_takes d any (LOutOfRange ∷ ts) x e
    first_takes names knows any operand bare (LName text ∷ ts) x e =
        let n = bind_ok (entry_at names (LName text ∷ ts)) _ x e in
        let g = entry_takes names (LName text ∷ ts) n.0 n.1 in
        from_text (suc d) any _ _ x g.text (named_takes names knows any (LName text ∷ ts) g.name n.0.0 n.0.1 x g.stands n.2)
    first_takes names knows any operand bare (LSymbol y ∷ ts) x e = symbol_takes any operand bare y (LSymbol y ∷ ts) ts x e
    first_takes names knows any operand bare ts x e = absurd cc

  expr_takes : (names : Resolve) → Knows names name s k → (d : ℕ) (any : Bool) → Good d any (expr_at names d any)
  unfolding expr_at
  expr_takes names knows zero any ts x e = absurd cc
  expr_takes names knows (suc d) any ts x e = first_takes d (expr_at names d true) (expr_takes names knows d true) names knows any (expr_at names d false) (expr_takes names knows d false) ts x e

tree_found : (names : Resolve) (name : Net → List ℕ) (s : Scope Net) (k : Sorts Net) → Knows names name s k → (ts : List Lexeme) (x : Sized × List Lexeme) → expr_at names 64 true ts ≡ Ok x → IsTreeFound name s k ts x
tree_found names name s k knows ts x e =
    let t = expr_takes name s k names knows 64 true ts x e in
    record {
      text = t.text;
      width = t.width;
      keeps = record {
        spelled = and_from (nat_le (depth x.0.tree) 64) (prefixes_apart x.0.tree) (le-leb (depth x.0.tree) 64 t.deep) t.apart;
        some = subst (λ (w : ℕ). 0 < w) (sym t.width) t.some;
        known = t.known;
      };
    }

-- what is read as an expression is spelled so, and keeps the rules
pub whole_found : (names : Resolve) (name : Net → List ℕ) (s : Scope Net) (k : Sorts Net) → Knows names name s k → (ts : List Lexeme) (x : Sized × List Lexeme) → whole_expr_at names ts ≡ Ok x → IsTreeFound name s k ts x
unfolding whole_expr_at
whole_found names name s k knows ts x e = tree_found names name s k knows ts x e
