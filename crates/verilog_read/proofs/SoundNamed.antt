-- Each declaration and each wire that is read is a step: it adds its lexemes after those before it, and keeps the rules.
use Rattle.std.proofs.Common.{◌≡◌, ℕ, suc, ◌+◌, List, [], ◌∷◌, ◌++◌, length, nat_lt, sym, ap, ◌∙◌, append_assoc, arith}
use Rattle.std.specs.List.{list_all}
use Rattle.std.proofs.lemmas.Bool.{lt-ltb}
use Rattle.std.proofs.lemmas.List.{append-nil}
use Rattle.net_core.specs.declared.design.Declared.{Declared}
use Rattle.net_core.specs.Nets.{WireTree, Netlist}
use Rattle.net_core.specs.Names.{name_of}
use Rattle.net_core.specs.Width.{scope, wire_widths}
use Rattle.verilog_lex.specs.Lexeme.{Lexeme}
use Rattle.verilog_expression.specs.verilog_write.VerilogGrammar.Grammar.{declared_lexemes, wire_lexemes, text_at, integer_name, all_declared, all_wires, all_assigns, all_always}
use Rattle.design_rules.specs.Formed.{declared_fits, declared_rules, wire_rules, wires_start}
use Rattle.design_rules.specs.FormedScope.{sorts}
use Rattle.verilog_expression.specs.Laws.{Knows}
use Rattle.verilog_read.specs.Entries.{entry_in}
use Rattle.verilog_read.specs.Declarations.{with_declared}
use Rattle.verilog_read.specs.Items.{with_wire}
use Rattle.verilog_read.proofs.LawNames.{widths_prefix}
use Rattle.verilog_read.proofs.SoundKnows.{HasPortsOfAll, knows}
use Rattle.verilog_read.proofs.SoundNames.{integers_named}
use Rattle.verilog_read.proofs.SoundHeader.{placed, one_more, grown}
use Rattle.verilog_read.proofs.SoundDeclared.{IsDeclaredFound}
use Rattle.verilog_read.proofs.SoundItems.{IsWireFound}
use Rattle.verilog_read.proofs.SoundRules.{section_more, declared_keeps, wire_keeps}
use Rattle.verilog_read.proofs.SoundSteps.{Has, Fits, text, Rules, IsStep, step_so, one_less, all_more, grows_declared, grows_wires}

-- ---- what is declared
last_declared : (e : Netlist) (at k : ℕ) (xs : List Declared) (y : Declared) → k ≡ at + length xs → all_declared e at (xs ++ y ∷ []) ≡ all_declared e at xs ++ declared_lexemes (integer_name e) (text_at e k) y
last_declared e at k [] y h = let i : at ≡ k = omega arith in append-nil (declared_lexemes (integer_name e) (text_at e at) y) ∙ ap (λ (n : ℕ). declared_lexemes (integer_name e) (text_at e n) y) i
last_declared e at k (x ∷ xs) y h =
    ap (λ (l : List Lexeme). declared_lexemes (integer_name e) (text_at e at) x ++ l) (last_declared e (suc at) k xs y (omega arith))
    ∙ sym (append_assoc (declared_lexemes (integer_name e) (text_at e at) x) (all_declared e (suc at) xs) (declared_lexemes (integer_name e) (text_at e k) y))

module _ (d : Netlist) (ts : List Lexeme) (x : Netlist × List Lexeme) (f : IsDeclaredFound d ts x) where
  abbrev with_item : Netlist
  with_item = with_declared f.name f.item d

  has_item : Has 0 d → Has 0 with_item
  has_item c = record {
    known = record {
      counted = omega (arith, one_more d.names f.name, one_more d.declared f.item, c.known.counted);
      declared = all_more declared_fits d.declared f.item c.known.declared f.fits;
      wires = c.known.wires;
    };
    no_wires = c.no_wires;
    no_assigns = c.no_assigns;
    no_always = c.no_always;
  }

  fits_item : (e : Netlist) → Fits e 0 with_item → Fits e 0 d
  fits_item e g = record {
    begins = record { more = f.name ∷ g.begins.more; names = one_less e.names d.names g.begins.more f.name g.begins.names; ports = g.begins.ports };
    more_declared = f.item ∷ g.more_declared;
    declared = one_less e.declared d.declared g.more_declared f.item g.declared;
    more_wires = g.more_wires;
    wires = g.wires;
    more_assigns = g.more_assigns;
    assigns = g.assigns;
    more_always = g.more_always;
    always = g.always;
    all_declared = λ k. absurd (omega arith);
    all_wires = λ k. absurd (omega arith);
  }

  item_place : (e : Netlist) → Has 0 d → Fits e 0 with_item → length d.names ≡ length e.ports + length d.declared
  item_place e c g = let none : length d.wires ≡ 0 = ap length (c.no_wires (omega arith)) in omega (arith, c.known.counted, ap length g.begins.ports)

  item_spelled : (e : Netlist) → HasPortsOfAll e → Has 0 d → Fits e 0 with_item → text e d ++ ts ≡ text e with_item ++ x.1
  item_spelled e all c g =
      let h = fits_item e g in
      let own = declared_lexemes (integer_name e) (text_at e (length d.names)) f.item in
      grown (text e with_item) (text e d) own (declared_lexemes (integer_name e) f.name f.item) ts x.1
      (grows_declared (all_declared e (length e.ports) d.declared) (all_declared e (length e.ports) (d.declared ++ f.item ∷ [])) (all_wires e (length e.ports + length e.declared) d.wires) (all_assigns e d.assigns) (all_always e d.always) own
      (ap (all_wires e (length e.ports + length e.declared)) (c.no_wires (omega arith))) (ap (all_assigns e) (c.no_assigns (omega arith))) (ap (all_always e) (c.no_always (omega arith)))
      (last_declared e (length e.ports) (length d.names) d.declared f.item (item_place e c g)))
      (ap (λ (n : List ℕ). declared_lexemes (integer_name e) n f.item) (placed e d.names g.begins.more f.name (one_less e.names d.names g.begins.more f.name g.begins.names)))
      (f.text (integer_name e) (integers_named e d h.more_declared h.begins h.declared))

  item_kept : (e : Netlist) → HasPortsOfAll e → Has 0 d → Fits e 0 with_item → Rules e d → Rules e with_item
  item_kept e all c g r = record {
    declared = section_more (declared_rules e) 0 0 (length d.declared) d.declared f.item r.declared (omega arith)
        (declared_keeps e d.names f.name d.declared g.more_declared f.item (record { more = g.begins.more; all = one_less e.names d.names g.begins.more f.name g.begins.names; proper = f.proper; new = f.new }) (item_place e c g) (one_less e.declared d.declared g.more_declared f.item g.declared) f.known f.fits);
    wires = r.wires;
    assigns = r.assigns;
    always = r.always;
  }

  pub declared_step : IsStep 0 d ts x
  declared_step = step_so 0 d with_item ts x f.made (record { has = has_item; fits = fits_item; spelled = item_spelled; kept = item_kept })

-- ---- wires
last_wire : (e : Netlist) (at k : ℕ) (ws : List WireTree) (w : WireTree) → k ≡ at + length ws → all_wires e at (ws ++ w ∷ []) ≡ all_wires e at ws ++ wire_lexemes (name_of e) (text_at e k) w.width w.right
last_wire e at k [] w h = let i : at ≡ k = omega arith in append-nil (wire_lexemes (name_of e) (text_at e at) w.width w.right) ∙ ap (λ (n : ℕ). wire_lexemes (name_of e) (text_at e n) w.width w.right) i
last_wire e at k (v ∷ ws) w h =
    ap (λ (l : List Lexeme). wire_lexemes (name_of e) (text_at e at) v.width v.right ++ l) (last_wire e (suc at) k ws w (omega arith))
    ∙ sym (append_assoc (wire_lexemes (name_of e) (text_at e at) v.width v.right) (all_wires e (suc at) ws) (wire_lexemes (name_of e) (text_at e k) w.width w.right))

module _ (d : Netlist) (ts : List Lexeme) (x : Netlist × List Lexeme) (f : IsWireFound d ts x) where
  abbrev and_wire : Netlist
  and_wire = with_wire f.name f.wire d

  has_wire : Has 1 d → Has 1 and_wire
  has_wire c = record {
    known = record {
      counted = omega (arith, one_more d.names f.name, one_more d.wires f.wire, c.known.counted);
      declared = c.known.declared;
      wires = ap (list_all (nat_lt 0)) (widths_prefix d.wires (f.wire ∷ [])) ∙ all_more (nat_lt 0) (wire_widths d.wires) f.wire.width c.known.wires (lt-ltb 0 f.wire.width f.some);
    };
    no_wires = λ k. absurd (omega arith);
    no_assigns = c.no_assigns;
    no_always = c.no_always;
  }

  fits_wire : (e : Netlist) → Fits e 1 and_wire → Fits e 1 d
  fits_wire e g = record {
    begins = record { more = f.name ∷ g.begins.more; names = one_less e.names d.names g.begins.more f.name g.begins.names; ports = g.begins.ports };
    more_declared = g.more_declared;
    declared = g.declared;
    more_wires = f.wire ∷ g.more_wires;
    wires = one_less e.wires d.wires g.more_wires f.wire g.wires;
    more_assigns = g.more_assigns;
    assigns = g.assigns;
    more_always = g.more_always;
    always = g.always;
    all_declared = g.all_declared;
    all_wires = λ k. absurd (omega arith);
  }

  wire_at_place : (e : Netlist) → Has 1 d → Fits e 1 and_wire → length d.names ≡ length e.ports + length e.declared + length d.wires
  wire_at_place e c g = omega (arith, c.known.counted, ap length g.begins.ports, ap length (g.all_declared (omega arith)))

  wire_knows : (e : Netlist) → HasPortsOfAll e → Has 1 d → Fits e 1 and_wire → Knows (entry_in d) (name_of e) (scope e (wire_widths d.wires)) (sorts e (length d.wires))
  wire_knows e all c g = knows e d all c.known (fits_wire e g).begins (g.all_declared (omega arith))

  wire_spelled : (e : Netlist) → HasPortsOfAll e → Has 1 d → Fits e 1 and_wire → text e d ++ ts ≡ text e and_wire ++ x.1
  wire_spelled e all c g =
      let own = wire_lexemes (name_of e) (text_at e (length d.names)) f.wire.width f.wire.right in
      let at = length e.ports + length e.declared in
      grown (text e and_wire) (text e d) own (wire_lexemes (name_of e) f.name f.wire.width f.wire.right) ts x.1
      (grows_wires (all_declared e (length e.ports) d.declared) (all_wires e at d.wires) (all_wires e at (d.wires ++ f.wire ∷ [])) (all_assigns e d.assigns) (all_always e d.always) own
      (ap (all_assigns e) (c.no_assigns (omega arith))) (ap (all_always e) (c.no_always (omega arith)))
      (last_wire e at (length d.names) d.wires f.wire (wire_at_place e c g)))
      (ap (λ (n : List ℕ). wire_lexemes (name_of e) n f.wire.width f.wire.right) (placed e d.names g.begins.more f.name (one_less e.names d.names g.begins.more f.name g.begins.names)))
      (f.kept (name_of e) (scope e (wire_widths d.wires)) (sorts e (length d.wires)) (wire_knows e all c g)).text

  wire_kept : (e : Netlist) → HasPortsOfAll e → Has 1 d → Fits e 1 and_wire → Rules e d → Rules e and_wire
  wire_kept e all c g r =
      let k = f.kept (name_of e) (scope e (wire_widths d.wires)) (sorts e (length d.wires)) (wire_knows e all c g) in
      record {
        declared = r.declared;
        wires = section_more (wire_rules e) (wires_start e) 0 (length d.wires) d.wires f.wire r.wires (omega arith)
            (wire_keeps e d.names f.name d.wires g.more_wires f.wire (record { more = g.begins.more; all = one_less e.names d.names g.begins.more f.name g.begins.names; proper = f.proper; new = f.new }) (wire_at_place e c g) (one_less e.wires d.wires g.more_wires f.wire g.wires) f.some f.most k.width k.keeps);
        assigns = r.assigns;
        always = r.always;
      }

  pub wire_step : IsStep 1 d ts x
  wire_step = step_so 1 d and_wire ts x f.made (record { has = has_wire; fits = fits_wire; spelled = wire_spelled; kept = wire_kept })
