-- What is read as a wire, an assign or an always block is spelled so, and keeps the rules.
use Rattle.std.proofs.Common.{◌≡◌, ℕ, ◌<◌, ◌≤◌, true, not, Option, Some, Ok, List, [], ◌∷◌, ◌++◌, refl, ap, ◌∙◌, subst, append_assoc}
use Rattle.std.specs.Prelude.{◌==◌, codes}
use Rattle.std.specs.Str.{bytes_eq}
use Rattle.std.specs.List.{list_any}
use Rattle.std.proofs.lemmas.Bool.{eqb-true}
use Rattle.net_core.specs.declared.tree.Net.{Net}
use Rattle.net_core.specs.Nets.{StatementTree, WireTree, AssignTree, Netlist}
use Rattle.net_core.specs.Width.{Scope, width_of, right_width, is_assigned}
use Rattle.verilog_lex.specs.declared.token.Keyword.TheVariants as keyword
use Rattle.verilog_lex.specs.declared.token.Symbol.TheVariants as symbol
use Rattle.verilog_lex.specs.Lexeme.{Lexeme, LName, LKeyword, LSymbol}
use Rattle.verilog_expression.specs.verilog_write.VerilogGrammar.Grammar.{tree_lexemes, right_lexemes, range_lexemes, wire_lexemes, assign_lexemes, always_lexemes}
use Rattle.design_rules.specs.FormedScope.{Sorts}
use Rattle.design_rules.specs.FormedSyntax.{is_name}
use Rattle.verilog_expression.specs.declared.fault.Code.TheVariants as code
use Rattle.verilog_expression.specs.declared.entry.Entry.{Entry}
use Rattle.verilog_expression.specs.declared.entry.Entry.TheVariants as entry
use Rattle.verilog_expression.specs.Reads.{found}
use Rattle.verilog_expression.specs.Lexemes.{symbol_at, behind, name_at}
use Rattle.verilog_expression.specs.Expressions.{whole_expr_at}
use Rattle.verilog_expression.specs.Rights.{right_at}
use Rattle.verilog_expression.specs.Statements.{whole_statement_at}
use Rattle.verilog_expression.specs.Laws.{Knows, AreTargetWidths, IsTreeKept, IsRightKept, IsStatementKept, statement_lexemes}
use Rattle.verilog_expression.proofs.LexemeLaws.{bind_ok, ok_so, kept_takes, found_takes, lexeme_takes, behind_takes, name_takes}
use Rattle.verilog_expression.proofs.SoundTreeLaws.{whole_found}
use Rattle.verilog_expression.proofs.SoundRightLaws.{right_found}
use Rattle.verilog_expression.proofs.SoundStatementLaws.{statement_found}
use Rattle.verilog_read.specs.Entries.{entry_in, free_in}
use Rattle.verilog_read.specs.Header.{range_at, fresh_at}
use Rattle.verilog_read.specs.Declarations.{ends_at}
use Rattle.verilog_read.specs.Items.{with_wire, with_assign, with_always, wire_at, as_output, output_at, assign_at, always_at}
use Rattle.verilog_read.proofs.SoundWords.{range_takes, fresh_takes, ends_takes}

-- ---- wires
-- a wire where names stand for nets of these names, widths and sorts
pub record IsWireKept (own : List ℕ) (wire : WireTree) (ts rest : List Lexeme) (name : Net → List ℕ) (s : Scope Net) (k : Sorts Net) : Type 0 where
  pub text : ts ≡ wire_lexemes name own wire.width wire.right ++ rest
  pub width : right_width s wire.right ≡ wire.width
  pub keeps : IsRightKept s k wire.right

pub record IsWireFound (d : Netlist) (ts : List Lexeme) (x : Netlist × List Lexeme) : Type 0 where
  pub name : List ℕ
  pub wire : WireTree
  pub made : with_wire name wire d ≡ x.0
  pub proper : is_name name ≡ true
  pub new : not (list_any (bytes_eq name) d.names) ≡ true
  pub some : 0 < wire.width
  pub most : wire.width ≤ 64
  pub kept : (names : Net → List ℕ) (s : Scope Net) (k : Sorts Net) → Knows (entry_in d) names s k → IsWireKept name wire ts x.1 names s k

wire_text : (s : Lexeme) (w e ts t1 t2 t3 t4 r : List Lexeme) → ts ≡ w ++ t1 → t1 ≡ s ∷ t2 → t2 ≡ LSymbol symbol.Assign ∷ t3 → t3 ≡ e ++ t4 → t4 ≡ LSymbol symbol.Semicolon ∷ r
    → LKeyword keyword.Wire ∷ ts ≡ (LKeyword keyword.Wire ∷ (w ++ s ∷ LSymbol symbol.Assign ∷ (e ++ LSymbol symbol.Semicolon ∷ []))) ++ r
wire_text s w e ts t1 t2 t3 t4 r p q u v k = rw (p, q, u, v, k) (simp append_assoc)

pub wire_found : (d : Netlist) (ts : List Lexeme) (x : Netlist × List Lexeme) → wire_at d ts ≡ Ok x → IsWireFound d (LKeyword keyword.Wire ∷ ts) x
unfolding wire_at
wire_found d ts x e =
    let w = bind_ok (range_at ts) _ x e in
    let s = bind_ok (fresh_at d w.0.1) _ x w.2 in
    let b = bind_ok (symbol_at symbol.Assign s.0.1) _ x s.2 in
    let t = bind_ok (right_at (entry_in d) b.0) _ x b.2 in
    let r = bind_ok (ends_at (t.0.0.width == w.0.0) t.0.1) _ x t.2 in
    let range = range_takes ts w.0 w.1 in
    let fresh = fresh_takes d w.0.1 s.0 s.1 in
    let ends = ends_takes (t.0.0.width == w.0.0) t.0.1 r.0 r.1 in
    ok_so (IsWireFound d (LKeyword keyword.Wire ∷ ts)) (with_wire s.0.0 (record { width = w.0.0; right = t.0.0.right }) d, r.0) x r.2
    (record {
      name = s.0.0;
      wire = record { width = w.0.0; right = t.0.0.right };
      made = refl;
      proper = fresh.proper;
      new = fresh.new;
      some = range.some;
      most = range.most;
      kept = λ names sc k knows.
          let f = right_found (entry_in d) names sc k knows b.0 t.0 t.1 in
          record {
            text = wire_text (LName s.0.0) (range_lexemes w.0.0) (right_lexemes names t.0.0.right) ts w.0.1 s.0.1 b.0 t.0.1 r.0 range.text fresh.text (lexeme_takes (LSymbol symbol.Assign) s.0.1 b.0 b.1) f.text ends.1;
            width = f.width ∙ eqb-true t.0.0.width w.0.0 ends.0;
            keeps = f.keeps;
          };
    })

-- ---- assigns
-- the name of an output to which nothing is assigned
record TakesOutput (d : Netlist) (ts : List Lexeme) (x : (ℕ × ℕ) × List Lexeme) : Type 0 where
  name : List ℕ
  text : ts ≡ LName name ∷ x.1
  stands : entry_in d name ≡ Some (entry.Output x.0.0 x.0.1)
  once : not (is_assigned d.assigns x.0.0) ≡ true

as_output_takes : (e : Option Entry) (o : ℕ × ℕ) → as_output e ≡ Some o → e ≡ Some (entry.Output o.0 o.1)
as_output_takes (Some (entry.Output k w)) o h = let p : (k, w) ≡ o = cc in ap (λ (q : ℕ × ℕ). Some (entry.Output q.0 q.1)) p
as_output_takes e o h = absurd cc

output_takes : (d : Netlist) (ts : List Lexeme) (x : (ℕ × ℕ) × List Lexeme) → output_at d ts ≡ Ok x → TakesOutput d ts x
unfolding output_at
output_takes d ts x e =
    let s = bind_ok (name_at ts) _ x e in
    let o = bind_ok (found (as_output (entry_in d s.0.0)) code.Unknown ts) _ x s.2 in
    let k = kept_takes (not (is_assigned d.assigns o.0.0)) (o.0, s.0.1) x code.Twice ts o.2 in
    subst (TakesOutput d ts) k.1 (record {
      name = s.0.0;
      text = (name_takes ts s.0 s.1).text;
      stands = as_output_takes (entry_in d s.0.0) o.0 (found_takes (as_output (entry_in d s.0.0)) o.0 code.Unknown ts o.1);
      once = k.0;
    })

pub record IsAssignKept (own : List ℕ) (w : ℕ) (item : AssignTree) (ts rest : List Lexeme) (name : Net → List ℕ) (s : Scope Net) (k : Sorts Net) : Type 0 where
  pub text : ts ≡ assign_lexemes name own item.value ++ rest
  pub width : width_of s item.value ≡ w
  pub keeps : IsTreeKept s k item.value

pub record IsAssignFound (d : Netlist) (ts : List Lexeme) (x : Netlist × List Lexeme) : Type 0 where
  pub name : List ℕ
  pub width : ℕ
  pub item : AssignTree
  pub made : with_assign item d ≡ x.0
  pub stands : entry_in d name ≡ Some (entry.Output item.port width)
  pub once : not (is_assigned d.assigns item.port) ≡ true
  pub kept : (names : Net → List ℕ) (s : Scope Net) (k : Sorts Net) → Knows (entry_in d) names s k → IsAssignKept name width item ts x.1 names s k

assign_text : (s : Lexeme) (e ts t1 t2 t3 r : List Lexeme) → ts ≡ s ∷ t1 → t1 ≡ LSymbol symbol.Assign ∷ t2 → t2 ≡ e ++ t3 → t3 ≡ LSymbol symbol.Semicolon ∷ r
    → LKeyword keyword.Assign ∷ ts ≡ (LKeyword keyword.Assign ∷ s ∷ LSymbol symbol.Assign ∷ (e ++ LSymbol symbol.Semicolon ∷ [])) ++ r
assign_text s e ts t1 t2 t3 r p q u v = rw (p, q, u, v) (simp append_assoc)

pub assign_found : (d : Netlist) (ts : List Lexeme) (x : Netlist × List Lexeme) → assign_at d ts ≡ Ok x → IsAssignFound d (LKeyword keyword.Assign ∷ ts) x
unfolding assign_at
assign_found d ts x e =
    let o = bind_ok (output_at d ts) _ x e in
    let b = bind_ok (symbol_at symbol.Assign o.0.1) _ x o.2 in
    let t = bind_ok (whole_expr_at (entry_in d) b.0) _ x b.2 in
    let r = bind_ok (ends_at (t.0.0.width == o.0.0.1) t.0.1) _ x t.2 in
    let output = output_takes d ts o.0 o.1 in
    let ends = ends_takes (t.0.0.width == o.0.0.1) t.0.1 r.0 r.1 in
    ok_so (IsAssignFound d (LKeyword keyword.Assign ∷ ts)) (with_assign (record { port = o.0.0.0; value = t.0.0.tree }) d, r.0) x r.2
    (record {
      name = output.name;
      width = o.0.0.1;
      item = record { port = o.0.0.0; value = t.0.0.tree };
      made = refl;
      stands = output.stands;
      once = output.once;
      kept = λ names sc k knows.
          let f = whole_found (entry_in d) names sc k knows b.0 t.0 t.1 in
          record {
            text = assign_text (LName output.name) (tree_lexemes names t.0.0.tree) ts o.0.1 b.0 t.0.1 r.0 output.text (lexeme_takes (LSymbol symbol.Assign) o.0.1 b.0 b.1) f.text ends.1;
            width = f.width ∙ eqb-true t.0.0.width o.0.0.1 ends.0;
            keeps = f.keeps;
          };
    })

-- ---- always blocks
pub record IsAlwaysKept (d : Netlist) (statement : StatementTree Net) (ts rest : List Lexeme) (name : Net → List ℕ) (s : Scope Net) (k : Sorts Net) (rs : List ℕ) (ms : List (ℕ × ℕ)) : Type 0 where
  pub text : ts ≡ always_lexemes (statement_lexemes name statement) ++ rest
  pub keeps : IsStatementKept s k (free_in d) rs ms statement

pub record IsAlwaysFound (d : Netlist) (ts : List Lexeme) (x : Netlist × List Lexeme) : Type 0 where
  pub statement : StatementTree Net
  pub made : with_always statement d ≡ x.0
  pub kept : (names : Net → List ℕ) (s : Scope Net) (k : Sorts Net) (rs : List ℕ) (ms : List (ℕ × ℕ)) → Knows (entry_in d) names s k → AreTargetWidths s rs ms → IsAlwaysKept d statement ts x.1 names s k rs ms

abbrev always_prefix : List Lexeme
always_prefix = LSymbol symbol.At ∷ LSymbol symbol.OpenParenthesis ∷ LKeyword keyword.Posedge ∷ LName (codes "clk") ∷ LSymbol symbol.CloseParenthesis ∷ []

pub always_found : (d : Netlist) (ts : List Lexeme) (x : Netlist × List Lexeme) → always_at d ts ≡ Ok x → IsAlwaysFound d (LKeyword keyword.Always ∷ ts) x
unfolding always_at
always_found d ts x e =
    let a = bind_ok (behind always_prefix ts) _ x e in
    let t = bind_ok (whole_statement_at (entry_in d) (free_in d) a.0) _ x a.2 in
    ok_so (IsAlwaysFound d (LKeyword keyword.Always ∷ ts)) (with_always t.0.0 d, t.0.1) x t.2
    (record {
      statement = t.0.0;
      made = refl;
      kept = λ names s k rs ms knows widths.
          let f = statement_found (entry_in d) names s k (free_in d) rs ms knows widths a.0 t.0 t.1 in
          record {
            text = ap (λ (l : List Lexeme). LKeyword keyword.Always ∷ l) (behind_takes always_prefix ts a.0 a.1 ∙ ap (λ (l : List Lexeme). always_prefix ++ l) f.text);
            keeps = f.keeps;
          };
    })
