-- Each wire, assign and always block is read where it is spelled, after a design whose names stand for what they read.
use Rattle.std.proofs.Common.{◌≡◌, ℕ, ◌<◌, ◌≤◌, true, false, Some, Ok, List, [], ◌∷◌, ◌++◌, refl, append_assoc}
use Rattle.std.specs.Prelude.{codes}
use Rattle.net_core.specs.declared.tree.Net.{Net}
use Rattle.net_core.specs.Nets.{StatementTree, WireTree, AssignTree, Netlist}
use Rattle.net_core.specs.Width.{Scope, width_of, right_width, is_assigned}
use Rattle.verilog_lex.specs.declared.token.Keyword.TheVariants as keyword
use Rattle.verilog_lex.specs.declared.token.Symbol.TheVariants as symbol
use Rattle.verilog_lex.specs.Lexeme.{Lexeme, LName, LKeyword, LSymbol}
use Rattle.verilog_expression.specs.verilog_write.VerilogGrammar.Grammar.{tree_lexemes, right_lexemes, range_lexemes, wire_lexemes, assign_lexemes, always_lexemes}
use Rattle.design_rules.specs.FormedSyntax.{is_name}
use Rattle.design_rules.specs.FormedScope.{Sorts}
use Rattle.verilog_expression.specs.declared.entry.Entry.TheVariants as entry
use Rattle.verilog_expression.specs.Laws.{Names, AreTargetWidths, IsTreeKept, IsRightKept, IsStatementKept, IsBehindStatement, statement_lexemes}
use Rattle.verilog_expression.proofs.LexemeLaws.{symbol_again, behind_again}
use Rattle.verilog_expression.proofs.RoundTripTreeLaws.{whole_again}
use Rattle.verilog_expression.proofs.RoundTripRightLaws.{right_again}
use Rattle.verilog_expression.proofs.RoundTripStatementLaws.{statement_again}
use Rattle.verilog_read.specs.Entries.{entry_in, free_in}
use Rattle.verilog_read.specs.Items.{with_wire, with_assign, with_always, wire_at, output_at, assign_at, always_at, item_at}
use Rattle.verilog_read.proofs.CompleteWords.{range_again, fresh_again, ends_again}
use Rattle.verilog_read.proofs.CompleteParts.{IsNew}

-- an output to which nothing is assigned so far
pub record IsFreeOutput (a : Netlist) (s : List ℕ) (k width : ℕ) : Type 0 where
  pub proper : is_name s ≡ true
  pub stands : entry_in a s ≡ Some (entry.Output k width)
  pub free : is_assigned a.assigns k ≡ false

output_again : (a : Netlist) (s : List ℕ) (k width : ℕ) (ts : List Lexeme) → IsFreeOutput a s k width → output_at a (LName s ∷ ts) ≡ Ok ((k, width), ts)
unfolding output_at
output_again a s k width ts h = rw (h.proper, h.stands, h.free) refl

module _ (a : Netlist) (name : Net → List ℕ) (s : Scope Net) (k : Sorts Net) (named : Names (entry_in a) name s k) where
  pub wire_again : (own : List ℕ) (w : WireTree) (ts : List Lexeme) → IsNew a own → 0 < w.width → w.width ≤ 64 → IsRightKept s k w.right → right_width s w.right ≡ w.width → item_at a (wire_lexemes name own w.width w.right ++ ts) ≡ Ok (with_wire own w a, ts)
  unfolding item_at wire_at
  wire_again own w ts h l m kept e =
      let end = LSymbol symbol.Semicolon ∷ ts in
      let us = right_lexemes name w.right ++ LSymbol symbol.Semicolon ∷ [] in
      let vs = LSymbol symbol.Assign ∷ us in
      rw (
        append_assoc (range_lexemes w.width) (LName own ∷ vs) ts,
        range_again w.width own (vs ++ ts) l m,
        fresh_again a own (vs ++ ts) h.proper h.new,
        symbol_again symbol.Assign (us ++ ts),
        append_assoc (right_lexemes name w.right) (LSymbol symbol.Semicolon ∷ []) ts,
        right_again (entry_in a) name s k named w.right end kept tt,
        ends_again (right_width s w.right) w.width ts e,
      ) refl

  pub assign_again : (port : List ℕ) (x : AssignTree) (width : ℕ) (ts : List Lexeme) → IsFreeOutput a port x.port width → IsTreeKept s k x.value → width_of s x.value ≡ width → item_at a (assign_lexemes name port x.value ++ ts) ≡ Ok (with_assign x a, ts)
  unfolding item_at assign_at
  assign_again port x width ts h kept e =
      let end = LSymbol symbol.Semicolon ∷ ts in
      let us = tree_lexemes name x.value ++ LSymbol symbol.Semicolon ∷ [] in
      rw (
        output_again a port x.port width (LSymbol symbol.Assign ∷ (us ++ ts)) h,
        symbol_again symbol.Assign (us ++ ts),
        append_assoc (tree_lexemes name x.value) (LSymbol symbol.Semicolon ∷ []) ts,
        whole_again (entry_in a) name s k named x.value end kept tt,
        ends_again (width_of s x.value) width ts e,
      ) refl

  pub always_again : (rs : List ℕ) (ms : List (ℕ × ℕ)) → AreTargetWidths s rs ms → (x : StatementTree Net) (ts : List Lexeme) → IsStatementKept s k (free_in a) rs ms x → IsBehindStatement x ts → item_at a (always_lexemes (statement_lexemes name x) ++ ts) ≡ Ok (with_always x a, ts)
  unfolding item_at always_at
  always_again rs ms widths x ts kept b =
      rw (
        behind_again (LSymbol symbol.At ∷ LSymbol symbol.OpenParenthesis ∷ LKeyword keyword.Posedge ∷ LName (codes "clk") ∷ LSymbol symbol.CloseParenthesis ∷ []) (statement_lexemes name x ++ ts) refl,
        statement_again (entry_in a) name s k named (free_in a) rs ms widths x ts kept b,
      ) refl
