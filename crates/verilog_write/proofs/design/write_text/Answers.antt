use Rattle.std.proofs.Common.{[], sym, subst, List, ℕ}
use Rattle.net_core.specs.View.{netlist_of}
use Rattle.net_core.specs.declared.design.Design.{Design}
use Rattle.verilog_write.specs.VerilogGrammar.Grammar.{ports_lexemes, items_lexemes}
use Rattle.verilog_lex.specs.Spelling.{IsClosed}
use Rattle.verilog_lex.proofs.SpellingLaws.{IsClosed-nothing, Lexes-open}
use Rattle.verilog_write.specs.Adds.{AddsLine}
use Rattle.verilog_write.proofs.AddsLemmas.{opened, whole_text}
use Rattle.verilog_write.proofs.design.write_text.Goals as goal

pub returns : goal.returns
returns c =
    let P : List ℕ → Type 0 = λ text. IsClosed text [] in
    let Added : Design → Type 0 = λ d. AddsLine c.push_head.new.text.items c.push_items.new.text.items (items_lexemes (netlist_of d)) in
    let items : Added c.args.design.now = subst Added c.in_ok-names.ensures c.in_ok-push_items.ensures in
    record {
      lexemes =
          Lexes-open _ _
          (opened (whole_text c.push_line.new.text.items _ _ _ _ _ _ (ports_lexemes (netlist_of c.args.design.now) 0 c.args.design.now.ports.items) (items_lexemes (netlist_of c.args.design.now))
          (c.in_ok-push_line.ensures.read _ (c.in_ok-push_keyword.ensures.read _ (items.read _ (c.in_ok-push_head.ensures.read _ (subst P (sym c.new-text.ensures.items) IsClosed-nothing)))))));
      formed = c.requires;
    }
