-- What is read as an integer, a register or a memory is spelled so, and keeps the rules.
use Rattle.std.proofs.Common.{◌≡◌, ℕ, ◌-◌, ◌^◌, ◌<◌, ◌≤◌, true, not, ◌&&◌, Option, Some, Ok, List, [], ◌∷◌, ◌++◌, refl, sym, ap, ◌∙◌, append_assoc, arith}
use Rattle.std.specs.Prelude.{◌==◌, nat_le, map, count_by}
use Rattle.std.specs.Str.{bytes_eq}
use Rattle.std.specs.List.{list_any}
use Rattle.std.proofs.lemmas.Bool.{and_from, eqb-true, lt-ltb, le-leb}
use Rattle.std.proofs.lemmas.Slice.Eq.{bytes_eq-Decides}
use Rattle.net_core.specs.declared.tree.Word.{Word}
use Rattle.net_core.specs.declared.design.Declared.{Declared}
use Rattle.net_core.specs.declared.design.Declared.TheVariants as declared
use Rattle.net_core.specs.Nets.{Netlist}
use Rattle.net_core.specs.Names.{is_integer}
use Rattle.net_core.specs.Width.{word_fits}
use Rattle.verilog_lex.specs.declared.token.Keyword.TheVariants as keyword
use Rattle.verilog_lex.specs.declared.token.Symbol.TheVariants as symbol
use Rattle.verilog_lex.specs.Lexeme.{Lexeme, LName, LKeyword, LNumber, LSymbol}
use Rattle.verilog_expression.specs.verilog_write.VerilogGrammar.Grammar.{constant, range_lexemes, fill_lexemes, declared_lexemes}
use Rattle.design_rules.specs.Formed.{declared_fits}
use Rattle.design_rules.specs.FormedScope.{integer_known}
use Rattle.design_rules.specs.FormedSyntax.{is_name}
use Rattle.verilog_expression.specs.declared.fault.Code.TheVariants as code
use Rattle.verilog_expression.specs.declared.entry.Entry.{Entry}
use Rattle.verilog_expression.specs.declared.entry.Entry.TheVariants as entry
use Rattle.verilog_expression.specs.Reads.{found}
use Rattle.verilog_expression.specs.Lexemes.{symbol_at, behind, number_at, name_at, constant_at}
use Rattle.verilog_expression.proofs.LexemeLaws.{bind_ok, same_ok, ok_so, kept_takes, found_takes, lexeme_takes, behind_takes, number_takes, name_takes, constant_takes}
use Rattle.verilog_read.specs.Entries.{entry_in}
use Rattle.verilog_read.specs.Header.{range_at, fresh_at}
use Rattle.verilog_read.specs.Declarations.{with_declared, ends_at, integer_item_at, register_at, index_of, Part, This, Same, Bound, part_at, all_parts_at, loop_parts, as_integer, integer_at, fill_at, memory_at, stored_at, reg_item_at}
use Rattle.verilog_read.proofs.SoundNames.{AreIntegers, integer_below}
use Rattle.verilog_read.proofs.SoundWords.{range_takes, fresh_takes, ends_takes, index_takes}

-- ---- what is found
-- an item after others, in a design whose integers have these names
pub record IsDeclaredFound (d : Netlist) (ts : List Lexeme) (x : Netlist × List Lexeme) : Type 0 where
  pub name : List ℕ
  pub item : Declared
  pub made : with_declared name item d ≡ x.0
  pub proper : is_name name ≡ true
  pub new : not (list_any (bytes_eq name) d.names) ≡ true
  pub known : integer_known d.declared item ≡ true
  pub fits : declared_fits item ≡ true
  pub text : (integer : ℕ → List ℕ) → AreIntegers d integer → ts ≡ declared_lexemes integer name item ++ x.1

-- the same after `reg`, a width and a name
record IsStoredFound (d : Netlist) (width : ℕ) (s : List ℕ) (ts : List Lexeme) (x : Netlist × List Lexeme) : Type 0 where
  item : Declared
  made : with_declared s item d ≡ x.0
  known : integer_known d.declared item ≡ true
  fits : declared_fits item ≡ true
  text : (integer : ℕ → List ℕ) → AreIntegers d integer → LKeyword keyword.Reg ∷ (range_lexemes width ++ LName s ∷ ts) ≡ declared_lexemes integer s item ++ x.1

-- ---- integers
pub integer_found : (d : Netlist) (ts : List Lexeme) (x : Netlist × List Lexeme) → integer_item_at d ts ≡ Ok x → IsDeclaredFound d (LKeyword keyword.Integer ∷ ts) x
unfolding integer_item_at
integer_found d ts x e =
    let s = bind_ok (fresh_at d ts) _ x e in
    let r = bind_ok (symbol_at symbol.Semicolon s.0.1) _ x s.2 in
    let f = fresh_takes d ts s.0 s.1 in
    ok_so (IsDeclaredFound d (LKeyword keyword.Integer ∷ ts)) (with_declared s.0.0 declared.Integer d, r.0) x r.2
    (record {
      name = s.0.0;
      item = declared.Integer;
      made = refl;
      proper = f.proper;
      new = f.new;
      known = refl;
      fits = refl;
      text = λ integer named. ap (λ (l : List Lexeme). LKeyword keyword.Integer ∷ l) (f.text ∙ ap (λ (l : List Lexeme). LName s.0.0 ∷ l) (lexeme_takes (LSymbol symbol.Semicolon) s.0.1 r.0 r.1));
    })

-- ---- registers
register_text : (s c : Lexeme) (w w' ts t1 r : List Lexeme) → w ≡ w' → ts ≡ c ∷ t1 → t1 ≡ LSymbol symbol.Semicolon ∷ r → LKeyword keyword.Reg ∷ (w ++ s ∷ LSymbol symbol.Assign ∷ ts) ≡ (LKeyword keyword.Reg ∷ (w' ++ s ∷ LSymbol symbol.Assign ∷ c ∷ LSymbol symbol.Semicolon ∷ [])) ++ r
register_text s c w w' ts t1 r same p q = rw (same, p, q) (simp append_assoc)

register_found : (d : Netlist) (width : ℕ) (s : List ℕ) (ts : List Lexeme) (x : Netlist × List Lexeme) → register_at d width s ts ≡ Ok x → IsStoredFound d width s (LSymbol symbol.Assign ∷ ts) x
unfolding register_at
register_found d width s ts x e =
    let c = bind_ok (constant_at ts) _ x e in
    let r = bind_ok (ends_at (c.0.0.width == width) c.0.1) _ x c.2 in
    let k = ends_takes (c.0.0.width == width) c.0.1 r.0 r.1 in
    let f = constant_takes ts c.0 c.1 in
    ok_so (IsStoredFound d width s (LSymbol symbol.Assign ∷ ts)) (with_declared s (declared.Register c.0.0) d, r.0) x r.2
    (record {
      item = declared.Register c.0.0;
      made = refl;
      known = refl;
      fits = f.fits;
      text = λ integer named. register_text (LName s) (constant c.0.0) (range_lexemes width) (range_lexemes c.0.0.width) ts c.0.1 r.0 (ap range_lexemes (sym (eqb-true c.0.0.width width k.0))) f.text k.1;
    })

-- ---- the loop that fills a memory
abbrev part_lexeme : Part → Lexeme
part_lexeme (This l) = l
part_lexeme (Same s) = LName s
part_lexeme (Bound n) = LNumber n

part_takes : (p : Part) (ts r : List Lexeme) → part_at p ts ≡ Ok r → ts ≡ part_lexeme p ∷ r
unfolding part_at
part_takes (This l) ts r e = lexeme_takes l ts r e
part_takes (Same s) ts r e =
    let t = bind_ok (name_at ts) _ r e in
    let k = kept_takes (bytes_eq s t.0.0) t.0.1 r code.Unknown ts t.2 in
    let same : s ≡ t.0.0 = (bytes_eq-Decides s t.0.0).0 k.0 in
    (name_takes ts t.0 t.1).text ∙ ap (λ (n : List ℕ). LName n ∷ t.0.1) (sym same) ∙ ap (λ (l : List Lexeme). LName s ∷ l) k.1
part_takes (Bound n) ts r e =
    let m = bind_ok (number_at ts) _ r e in
    let k = kept_takes (n == m.0.0) m.0.1 r code.Width ts m.2 in
    number_takes ts m.0 m.1 ∙ ap (λ (i : ℕ). LNumber i ∷ m.0.1) (sym (eqb-true n m.0.0 k.0)) ∙ ap (λ (l : List Lexeme). LNumber n ∷ l) k.1

parts_take : (ps : List Part) (ts r : List Lexeme) → all_parts_at ps ts ≡ Ok r → ts ≡ map part_lexeme ps ++ r
unfolding all_parts_at
parts_take [] ts r e = same_ok ts r e
parts_take (p ∷ ps) ts r e =
    let k = bind_ok (part_at p ts) _ r e in
    part_takes p ts k.0 k.1 ∙ ap (λ (l : List Lexeme). part_lexeme p ∷ l) (parts_take ps k.0 r k.2)

-- the name of an integer
record TakesInteger (d : Netlist) (ts : List Lexeme) (x : (List ℕ × ℕ) × List Lexeme) : Type 0 where
  text : ts ≡ LName x.0.0 ∷ x.1
  stands : entry_in d x.0.0 ≡ Some (entry.Integer x.0.1)

as_integer_takes : (e : Option Entry) (k : ℕ) → as_integer e ≡ Some k → e ≡ Some (entry.Integer k)
as_integer_takes (Some (entry.Integer n)) k h = cc
as_integer_takes e k h = absurd cc

integer_takes : (d : Netlist) (ts : List Lexeme) (x : (List ℕ × ℕ) × List Lexeme) → integer_at d ts ≡ Ok x → TakesInteger d ts x
unfolding integer_at
integer_takes d ts x e =
    let s = bind_ok (name_at ts) _ x e in
    let k = bind_ok (found (as_integer (entry_in d s.0.0)) code.Unknown ts) _ x s.2 in
    ok_so (TakesInteger d ts) ((s.0.0, k.0), s.0.1) x k.2
    (record { text = (name_takes ts s.0 s.1).text; stands = as_integer_takes (entry_in d s.0.0) k.0 (found_takes (as_integer (entry_in d s.0.0)) k.0 code.Unknown ts k.1) })

-- ---- memories
-- after the range of the index
record IsFillFound (d : Netlist) (width : ℕ) (s : List ℕ) (index : ℕ) (ts : List Lexeme) (x : Netlist × List Lexeme) : Type 0 where
  first : Word
  number : ℕ
  same : width ≡ first.width
  made : with_declared s (declared.Memory index first number) d ≡ x.0
  known : number < count_by is_integer d.declared
  fits : word_fits first ≡ true
  text : (integer : ℕ → List ℕ) → AreIntegers d integer → ts ≡ LSymbol symbol.Semicolon ∷ (fill_lexemes s (integer number) (2 ^ index) first ++ x.1)

abbrev fill_prefix : List Lexeme
fill_prefix = LSymbol symbol.Semicolon ∷ LKeyword keyword.Initial ∷ LKeyword keyword.For ∷ LSymbol symbol.OpenParenthesis ∷ []

fill_text : (s i j : List ℕ) (words : ℕ) (first : Word) (ts t1 t2 t3 t4 r : List Lexeme) → ts ≡ fill_prefix ++ t1 → t1 ≡ LName i ∷ t2 → t2 ≡ map part_lexeme (loop_parts s i words) ++ t3 → t3 ≡ constant first ∷ t4 → t4 ≡ LSymbol symbol.Semicolon ∷ r → j ≡ i
    → ts ≡ LSymbol symbol.Semicolon ∷ (fill_lexemes s j words first ++ r)
fill_text s i j words first ts t1 t2 t3 t4 r p q u v k same =
    p
    ∙ ap (λ (l : List Lexeme). fill_prefix ++ l) (q ∙ ap (λ (l : List Lexeme). LName i ∷ l) (u ∙ ap (λ (l : List Lexeme). map part_lexeme (loop_parts s i words) ++ l) (v ∙ ap (λ (l : List Lexeme). constant first ∷ l) k)))
    ∙ ap (λ (n : List ℕ). LSymbol symbol.Semicolon ∷ (fill_lexemes s n words first ++ r)) (sym same)

fill_found : (d : Netlist) (width : ℕ) (s : List ℕ) (index : ℕ) (ts : List Lexeme) (x : Netlist × List Lexeme) → fill_at d width s index ts ≡ Ok x → IsFillFound d width s index ts x
unfolding fill_at
fill_found d width s index ts x e =
    let a = bind_ok (behind fill_prefix ts) _ x e in
    let i = bind_ok (integer_at d a.0) _ x a.2 in
    let b = bind_ok (all_parts_at (loop_parts s i.0.0.0 (2 ^ index)) i.0.1) _ x i.2 in
    let c = bind_ok (constant_at b.0) _ x b.2 in
    let r = bind_ok (ends_at (c.0.0.width == width) c.0.1) _ x c.2 in
    let f = integer_takes d a.0 i.0 i.1 in
    let w = constant_takes b.0 c.0 c.1 in
    let k = ends_takes (c.0.0.width == width) c.0.1 r.0 r.1 in
    ok_so (IsFillFound d width s index ts) (with_declared s (declared.Memory index c.0.0 i.0.0.1) d, r.0) x r.2
    (record {
      first = c.0.0;
      number = i.0.0.1;
      same = sym (eqb-true c.0.0.width width k.0);
      made = refl;
      known = integer_below d i.0.0.0 i.0.0.1 f.stands;
      fits = w.fits;
      text = λ integer named. fill_text s i.0.0.0 (integer i.0.0.1) (2 ^ index) c.0.0 ts a.0 i.0.1 b.0 c.0.1 r.0
          (behind_takes fill_prefix ts a.0 a.1) f.text (parts_take (loop_parts s i.0.0.0 (2 ^ index)) i.0.1 b.0 b.1) w.text k.1 (named i.0.0.0 i.0.0.1 f.stands);
    })

memory_text : (s : Lexeme) (w w' fill : List Lexeme) (n m : ℕ) (ts t1 t2 t3 r : List Lexeme) → w ≡ w' → ts ≡ LNumber 0 ∷ LSymbol symbol.Colon ∷ t1 → t1 ≡ LNumber n ∷ t2 → t2 ≡ LSymbol symbol.CloseBracket ∷ t3 → n ≡ m → t3 ≡ LSymbol symbol.Semicolon ∷ (fill ++ r)
    → LKeyword keyword.Reg ∷ (w ++ s ∷ LSymbol symbol.OpenBracket ∷ ts) ≡ (LKeyword keyword.Reg ∷ (w' ++ s ∷ LSymbol symbol.OpenBracket ∷ LNumber 0 ∷ LSymbol symbol.Colon ∷ LNumber m ∷ LSymbol symbol.CloseBracket ∷ LSymbol symbol.Semicolon ∷ fill)) ++ r
memory_text s w w' fill n m ts t1 t2 t3 r same p q u k v = rw (same, p, q, u, k, v) (simp append_assoc)

memory_fits : (index : ℕ) (w : Word) → 1 ≤ index → index < 17 → word_fits w ≡ true → ((nat_le 1 index && nat_le index 16) && word_fits w) ≡ true
memory_fits index w least below h = and_from (nat_le 1 index && nat_le index 16) (word_fits w) (and_from (nat_le 1 index) (nat_le index 16) (le-leb 1 index least) (le-leb index 16 (omega arith))) h

memory_found : (d : Netlist) (width : ℕ) (s : List ℕ) (ts : List Lexeme) (x : Netlist × List Lexeme) → memory_at d width s ts ≡ Ok x → IsStoredFound d width s (LSymbol symbol.OpenBracket ∷ ts) x
unfolding memory_at
memory_found d width s ts x e =
    let a = bind_ok (behind (LNumber 0 ∷ LSymbol symbol.Colon ∷ []) ts) _ x e in
    let n = bind_ok (number_at a.0) _ x a.2 in
    let r = bind_ok (symbol_at symbol.CloseBracket n.0.1) _ x n.2 in
    let index = bind_ok (found (index_of n.0.0) code.Width n.0.1) _ x r.2 in
    let f = fill_found d width s index.0 r.0 x index.2 in
    let t = index_takes n.0.0 index.0 (found_takes (index_of n.0.0) index.0 code.Width n.0.1 index.1) in
    record {
      item = declared.Memory index.0 f.first f.number;
      made = f.made;
      known = lt-ltb f.number (count_by is_integer d.declared) f.known;
      fits = memory_fits index.0 f.first t.least (omega (arith, t.below)) f.fits;
      text = λ integer named.
          memory_text (LName s) (range_lexemes width) (range_lexemes f.first.width) (fill_lexemes s (integer f.number) (2 ^ index.0) f.first) n.0.0 (2 ^ index.0 - 1) ts a.0 n.0.1 r.0 x.1 (ap range_lexemes f.same)
          (behind_takes (LNumber 0 ∷ LSymbol symbol.Colon ∷ []) ts a.0 a.1) (number_takes a.0 n.0 n.1) (lexeme_takes (LSymbol symbol.CloseBracket) n.0.1 r.0 r.1) t.last_value (f.text integer named);
    }

-- ---- after `reg`
stored_found : (d : Netlist) (width : ℕ) (s : List ℕ) (ts : List Lexeme) (x : Netlist × List Lexeme) → stored_at d width s ts ≡ Ok x → IsStoredFound d width s ts x
unfolding stored_at
stored_found d width s (LSymbol symbol.Assign ∷ ts) x e = register_found d width s ts x e
stored_found d width s (LSymbol symbol.OpenBracket ∷ ts) x e = memory_found d width s ts x e
stored_found d width s ts x e = absurd cc

pub reg_found : (d : Netlist) (ts : List Lexeme) (x : Netlist × List Lexeme) → reg_item_at d ts ≡ Ok x → IsDeclaredFound d (LKeyword keyword.Reg ∷ ts) x
unfolding reg_item_at
reg_found d ts x e =
    let w = bind_ok (range_at ts) _ x e in
    let s = bind_ok (fresh_at d w.0.1) _ x w.2 in
    let n = fresh_takes d w.0.1 s.0 s.1 in
    let f = stored_found d w.0.0 s.0.0 s.0.1 x s.2 in
    record {
      name = s.0.0;
      item = f.item;
      made = f.made;
      proper = n.proper;
      new = n.new;
      known = f.known;
      fits = f.fits;
      text = λ integer named.
          ap (λ (l : List Lexeme). LKeyword keyword.Reg ∷ l) ((range_takes ts w.0 w.1).text ∙ ap (λ (l : List Lexeme). range_lexemes w.0.0 ++ l) n.text)
          ∙ f.text integer named;
    }
