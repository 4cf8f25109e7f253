-- Each assign and each always block that is read is a step: it adds its lexemes after those before it, and keeps the rules.
use Rattle.std.proofs.Common.{◌≡◌, ℕ, ◌+◌, ◌≤◌, List, [], ◌∷◌, ◌++◌, length, refl, sym, ap, ◌∙◌, subst, append_assoc, arith}
use Rattle.std.proofs.lemmas.List.{append-nil}
use Rattle.net_core.specs.declared.tree.Net.{Net}
use Rattle.net_core.specs.Nets.{StatementTree, WireTree, AssignTree, Netlist}
use Rattle.net_core.specs.Names.{name_of}
use Rattle.net_core.specs.Width.{scope, wire_widths, register_widths, memory_widths}
use Rattle.verilog_lex.specs.Lexeme.{Lexeme}
use Rattle.verilog_expression.specs.verilog_write.VerilogGrammar.Grammar.{assign_lexemes, always_lexemes, text_at, all_declared, all_wires, all_assigns, all_always}
use Rattle.design_rules.specs.Formed.{assign_rules, always_rules, assigns_start, always_start}
use Rattle.design_rules.specs.FormedScope.{sorts}
use Rattle.verilog_expression.specs.Laws.{Knows, statement_lexemes}
use Rattle.verilog_read.specs.Entries.{entry_in}
use Rattle.verilog_read.specs.Items.{with_assign, with_always}
use Rattle.verilog_read.proofs.SoundKnows.{HasPortsOfAll, knows}
use Rattle.verilog_read.proofs.SoundNames.{output_named}
use Rattle.verilog_read.proofs.SoundHeader.{grown}
use Rattle.verilog_read.proofs.SoundItems.{IsAssignFound, IsAlwaysFound, IsAlwaysKept}
use Rattle.verilog_read.proofs.SoundRules.{section_more, assign_keeps, always_keeps}
use Rattle.verilog_read.proofs.SoundSteps.{Has, Fits, text, Rules, IsStep, step_so, one_less, grows_assigns, grows_always}

-- ---- after the wires
-- what names stand for where all wires stand before
all_known : (e d : Netlist) (r : ℕ) → 2 ≤ r → HasPortsOfAll e → Has r d → Fits e r d → Knows (entry_in d) (name_of e) (scope e (wire_widths e.wires)) (sorts e (length e.wires))
all_known e d r l all c g =
    subst (λ (ws : List WireTree). Knows (entry_in d) (name_of e) (scope e (wire_widths ws)) (sorts e (length ws))) (sym (g.all_wires l)) (knows e d all c.known g.begins (g.all_declared (omega arith)))

-- ---- assigns
last_assign : (e : Netlist) (rest : List AssignTree) (a : AssignTree) → all_assigns e (rest ++ a ∷ []) ≡ all_assigns e rest ++ assign_lexemes (name_of e) (text_at e a.port) a.value
last_assign e [] a = append-nil (assign_lexemes (name_of e) (text_at e a.port) a.value)
last_assign e (b ∷ rest) a =
    ap (λ (l : List Lexeme). assign_lexemes (name_of e) (text_at e b.port) b.value ++ l) (last_assign e rest a)
    ∙ sym (append_assoc (assign_lexemes (name_of e) (text_at e b.port) b.value) (all_assigns e rest) (assign_lexemes (name_of e) (text_at e a.port) a.value))

module _ (d : Netlist) (ts : List Lexeme) (x : Netlist × List Lexeme) (f : IsAssignFound d ts x) where
  abbrev and_assign : Netlist
  and_assign = with_assign f.item d

  has_assign : Has 2 d → Has 2 and_assign
  has_assign c = record {
    known = record { counted = c.known.counted; declared = c.known.declared; wires = c.known.wires };
    no_wires = λ k. absurd (omega arith);
    no_assigns = λ k. absurd (omega arith);
    no_always = c.no_always;
  }

  fits_assign : (e : Netlist) → Fits e 2 and_assign → Fits e 2 d
  fits_assign e g = record {
    begins = record { more = g.begins.more; names = g.begins.names; ports = g.begins.ports };
    more_declared = g.more_declared;
    declared = g.declared;
    more_wires = g.more_wires;
    wires = g.wires;
    more_assigns = f.item ∷ g.more_assigns;
    assigns = one_less e.assigns d.assigns g.more_assigns f.item g.assigns;
    more_always = g.more_always;
    always = g.always;
    all_declared = g.all_declared;
    all_wires = g.all_wires;
  }

  assign_knows : (e : Netlist) → HasPortsOfAll e → Has 2 d → Fits e 2 and_assign → Knows (entry_in d) (name_of e) (scope e (wire_widths e.wires)) (sorts e (length e.wires))
  assign_knows e all c g = all_known e d 2 (omega arith) all c (fits_assign e g)

  assign_spelled : (e : Netlist) → HasPortsOfAll e → Has 2 d → Fits e 2 and_assign → text e d ++ ts ≡ text e and_assign ++ x.1
  assign_spelled e all c g =
      let own = assign_lexemes (name_of e) (text_at e f.item.port) f.item.value in
      let output = output_named e d f.name f.item.port f.width (fits_assign e g).begins f.stands in
      grown (text e and_assign) (text e d) own (assign_lexemes (name_of e) f.name f.item.value) ts x.1
      (grows_assigns (all_declared e (length e.ports) d.declared) (all_wires e (length e.ports + length e.declared) d.wires) (all_assigns e d.assigns) (all_assigns e (d.assigns ++ f.item ∷ [])) (all_always e d.always) own
      (ap (all_always e) (c.no_always (omega arith)))
      (last_assign e d.assigns f.item))
      (ap (λ (n : List ℕ). assign_lexemes (name_of e) n f.item.value) output.named)
      (f.kept (name_of e) (scope e (wire_widths e.wires)) (sorts e (length e.wires)) (assign_knows e all c g)).text

  assign_kept : (e : Netlist) → HasPortsOfAll e → Has 2 d → Fits e 2 and_assign → Rules e d → Rules e and_assign
  assign_kept e all c g r =
      let h = fits_assign e g in
      let k = f.kept (name_of e) (scope e (wire_widths e.wires)) (sorts e (length e.wires)) (assign_knows e all c g) in
      record {
        declared = r.declared;
        wires = r.wires;
        assigns = section_more (assign_rules e) (assigns_start e) 0 (length d.assigns) d.assigns f.item r.assigns (omega arith)
            (assign_keeps e f.name f.width d.assigns h.more_assigns f.item h.assigns f.once (output_named e d f.name f.item.port f.width h.begins f.stands) k.width k.keeps);
        always = r.always;
      }

  pub assign_step : IsStep 2 d ts x
  assign_step = step_so 2 d and_assign ts x f.made (record { has = has_assign; fits = fits_assign; spelled = assign_spelled; kept = assign_kept })

-- ---- always blocks
last_always : (e : Netlist) (rest : List (StatementTree Net)) (a : StatementTree Net) → all_always e (rest ++ a ∷ []) ≡ all_always e rest ++ always_lexemes (statement_lexemes (name_of e) a)
last_always e [] a = append-nil (always_lexemes (statement_lexemes (name_of e) a))
last_always e (b ∷ rest) a =
    ap (λ (l : List Lexeme). always_lexemes (statement_lexemes (name_of e) b) ++ l) (last_always e rest a)
    ∙ sym (append_assoc (always_lexemes (statement_lexemes (name_of e) b)) (all_always e rest) (always_lexemes (statement_lexemes (name_of e) a)))

module _ (d : Netlist) (ts : List Lexeme) (x : Netlist × List Lexeme) (f : IsAlwaysFound d ts x) where
  abbrev and_always : Netlist
  and_always = with_always f.statement d

  has_always : Has 3 d → Has 3 and_always
  has_always c = record {
    known = record { counted = c.known.counted; declared = c.known.declared; wires = c.known.wires };
    no_wires = λ k. absurd (omega arith);
    no_assigns = λ k. absurd (omega arith);
    no_always = λ k. absurd (omega arith);
  }

  fits_always : (e : Netlist) → Fits e 3 and_always → Fits e 3 d
  fits_always e g = record {
    begins = record { more = g.begins.more; names = g.begins.names; ports = g.begins.ports };
    more_declared = g.more_declared;
    declared = g.declared;
    more_wires = g.more_wires;
    wires = g.wires;
    more_assigns = g.more_assigns;
    assigns = g.assigns;
    more_always = f.statement ∷ g.more_always;
    always = one_less e.always d.always g.more_always f.statement g.always;
    all_declared = g.all_declared;
    all_wires = g.all_wires;
  }

  always_told : (e : Netlist) → HasPortsOfAll e → Has 3 d → Fits e 3 and_always → IsAlwaysKept d f.statement ts x.1 (name_of e) (scope e (wire_widths e.wires)) (sorts e (length e.wires)) (register_widths e.declared) (memory_widths e.declared)
  always_told e all c g =
      f.kept (name_of e) (scope e (wire_widths e.wires)) (sorts e (length e.wires)) (register_widths e.declared) (memory_widths e.declared)
      (all_known e d 3 (omega arith) all c (fits_always e g)) (record { register = λ k. refl; memory = λ k. refl })

  always_spelled : (e : Netlist) → HasPortsOfAll e → Has 3 d → Fits e 3 and_always → text e d ++ ts ≡ text e and_always ++ x.1
  always_spelled e all c g =
      let own = always_lexemes (statement_lexemes (name_of e) f.statement) in
      grown (text e and_always) (text e d) own own ts x.1
      (grows_always (all_declared e (length e.ports) d.declared) (all_wires e (length e.ports + length e.declared) d.wires) (all_assigns e d.assigns) (all_always e d.always) (all_always e (d.always ++ f.statement ∷ [])) own
      (last_always e d.always f.statement))
      refl
      (always_told e all c g).text

  always_kept : (e : Netlist) → HasPortsOfAll e → Has 3 d → Fits e 3 and_always → Rules e d → Rules e and_always
  always_kept e all c g r =
      let h = fits_always e g in
      record {
        declared = r.declared;
        wires = r.wires;
        assigns = r.assigns;
        always = section_more (always_rules e) (always_start e) 0 (length d.always) d.always f.statement r.always (omega arith)
            (always_keeps e d h.more_always f.statement h.always (always_told e all c g).keeps);
      }

  pub always_step : IsStep 3 d ts x
  always_step = step_so 3 d and_always ts x f.made (record { has = has_always; fits = fits_always; spelled = always_spelled; kept = always_kept })
