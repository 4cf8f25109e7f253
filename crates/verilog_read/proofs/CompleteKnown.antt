-- The names of a well-formed design stand for its nets, with their widths, after all that is declared and the first wires.
use Rattle.std.proofs.Common.{◌≡◌, inl, inr, ℕ, zero, suc, ◌+◌, ◌<◌, ◌≤◌, Bool, true, false, Some, List, length, take, get_or, refl, sym, ap, ◌∙◌, subst, arith}
use Rattle.std.specs.Prelude.{count_by}
use Rattle.std.proofs.lemmas.Bool.{cond-true, cond-false, ltb-true, not-true, cases_lt}
use Rattle.std.proofs.lemmas.List.{get_or_past, get_or-take, take_all}
use Rattle.net_core.specs.declared.tree.Net.{Net}
use Rattle.net_core.specs.declared.tree.Net.TheVariants as net
use Rattle.net_core.specs.declared.design.Port.{Port}
use Rattle.net_core.specs.Nets.{StatementTree, AssignTree, Netlist}
use Rattle.net_core.specs.Names.{is_register, is_memory, name_place, name_of}
use Rattle.net_core.specs.Width.{net_width, memory_width, scope, full_scope, register_widths, memory_widths, wire_widths, scope_before}
use Rattle.net_core.proofs.WireLaws.{length_widths}
use Rattle.verilog_expression.specs.verilog_write.VerilogGrammar.Grammar.{text_at}
use Rattle.design_rules.specs.FormedScope.{is_output, is_value, is_words, registers_of, memories_of, sorts}
use Rattle.design_rules.specs.Formed.{IsWellFormed}
use Rattle.design_rules.proofs.FormedItemLaws.{last_kept}
use Rattle.design_rules.proofs.FormedWidthLaws.{ports_listed}
use Rattle.design_rules.proofs.FormedLaws.{name_spelled, place_of_below, value_named, words_named, ports_counted}
use Rattle.verilog_expression.specs.declared.entry.Entry.TheVariants as entry
use Rattle.verilog_expression.specs.Laws.{Names, AreTargetWidths}
use Rattle.verilog_read.specs.Entries.{entry_of, entry_in}
use Rattle.verilog_read.proofs.LawEntries.{entry_port, entry_register, entry_memory, entry_wire}
use Rattle.verilog_read.proofs.CompletePrefixes.{behind_wires}
use Rattle.verilog_read.proofs.CompletePlaces.{stands}
use Rattle.verilog_read.proofs.CompleteWidths.{port_most, register_most, memory_most, wires_most, widths_taken}

-- ---- ports that are there
there : (ports : List Port) (k : ℕ) (none : Port) (b : Bool) → none.output ≡ b → (b ≡ (get_or ports k none).output → ⊥) → k < length ports
there ports k none b e f = elim (cases_lt k (length ports)) [
  | inl l ↦ l
  | inr l ↦ absurd (f (sym e ∙ ap (λ (p : Port). p.output) (sym (get_or_past ports k none l))))
]

true_false : true ≡ false → ⊥
true_false e = cc

pub input_there : (d : Netlist) (k : ℕ) → (get_or d.ports k (record { output = true; width = 0 })).output ≡ false → k < length d.ports
input_there d k o = there d.ports k (record { output = true; width = 0 }) true refl (λ e. true_false (e ∙ o))

pub output_there : (d : Netlist) (k : ℕ) → is_output d.ports k ≡ true → k < length d.ports
output_there d k o = there d.ports k (record { output = false; width = 0 }) false refl (λ e. true_false (sym (e ∙ o)))

-- the first port is an input
output_past : (d : Netlist) → IsWellFormed d → (k : ℕ) → is_output d.ports k ≡ true → 0 < k
output_past d h zero o = absurd (true_false (sym o ∙ ap (λ ports. is_output ports 0) (ports_listed d h)))
output_past d h (suc k) o = omega arith

module _ (d : Netlist) (h : IsWellFormed d) (before : ℕ) (few : before ≤ length d.wires) (assigns : List AssignTree) (always : List (StatementTree Net)) where
  abbrev prefix : Netlist
  prefix = behind_wires d before assigns always

  abbrev widths : List ℕ
  widths = take before (wire_widths d.wires)

  here : (place : ℕ) → 0 < place → place < length d.ports + length d.declared + before → entry_in prefix (text_at d place) ≡ Some (entry_of prefix place)
  here place l m = stands d h prefix (length d.ports + length d.declared + before) place refl (omega (arith, (last_kept d h).names)) l m

  input_known : (k : ℕ) → (get_or d.ports (suc k) (record { output = true; width = 0 })).output ≡ false → entry_in prefix (name_of d (net.Port (suc k))) ≡ Some (entry.Value (net.Port (suc k)) (net_width d widths (net.Port (suc k))))
  input_known k o =
      let none : Port = record { output = true; width = 0 } in
      let l = input_there d (suc k) o in
      let p = get_or d.ports (suc k) none in
      here (suc k) (omega arith) (omega arith)
      ∙ ap Some (entry_port prefix (suc k) none l ∙ cond-false p.output (entry.Output (suc k) p.width) (entry.Value (net.Port (suc k)) p.width) o
      ∙ ap (λ w. entry.Value (net.Port (suc k)) w) (sym (cond-false p.output 0 p.width o)))

  register_known : (k : ℕ) → k < count_by is_register d.declared → entry_in prefix (name_of d (net.Register k)) ≡ Some (entry.Value (net.Register k) (get_or (register_widths d.declared) k 0))
  register_known k l =
      here (name_place d (net.Register k)) (omega (arith, ports_counted d h)) (omega (arith, place_of_below is_register d.declared k l))
      ∙ ap Some (entry_register prefix k l)

  memory_known : (m : ℕ) → m < count_by is_memory d.declared → entry_in prefix (name_of d (net.Memory m)) ≡ Some (entry.Words m (memory_width d (net.Memory m)).0 (memory_width d (net.Memory m)).1)
  memory_known m l =
      here (name_place d (net.Memory m)) (omega (arith, ports_counted d h)) (omega (arith, place_of_below is_memory d.declared m l))
      ∙ ap Some (entry_memory prefix m l)

  wire_known : (k : ℕ) → k < before → entry_in prefix (name_of d (net.Wire k)) ≡ Some (entry.Value (net.Wire k) (get_or widths k 0))
  wire_known k l =
      here (name_place d (net.Wire k)) (omega (arith, ports_counted d h)) (omega arith)
      ∙ ap Some (entry_wire prefix k ∙ ap (λ (ws : List ℕ). entry.Value (net.Wire k) (get_or ws k 0)) (widths_taken before d.wires))

  pub output_known : (k : ℕ) → is_output d.ports k ≡ true → entry_in prefix (text_at d k) ≡ Some (entry.Output k (get_or d.ports k (record { output = false; width = 0 })).width)
  output_known k o =
      let none : Port = record { output = false; width = 0 } in
      let l = output_there d k o in
      let p = get_or d.ports k none in
      here k (output_past d h k o) (omega arith)
      ∙ ap Some (entry_port prefix k none l ∙ cond-true p.output (entry.Output k p.width) (entry.Value (net.Port k) p.width) o)

  value_known : (n : Net) → is_value d before n ≡ true → entry_in prefix (name_of d n) ≡ Some (entry.Value n (net_width d widths n))
  value_known (net.Port zero) v = cc
  value_known (net.Port (suc k)) v = input_known k (not-true (get_or d.ports (suc k) (record { output = true; width = 0 })).output v)
  value_known (net.Register k) v = register_known k (ltb-true k (registers_of d) v)
  value_known (net.Memory k) v = cc
  value_known (net.Wire k) v = wire_known k (ltb-true k before v)

  input_most : (k : ℕ) → (get_or d.ports (suc k) (record { output = true; width = 0 })).output ≡ false → net_width d widths (net.Port (suc k)) ≤ 64
  input_most k o =
      let none : Port = record { output = true; width = 0 } in
      let p = get_or d.ports (suc k) none in
      omega (arith, cond-false p.output 0 p.width o, (port_most d h (suc k) none (input_there d (suc k) o)).1)

  value_most : (n : Net) → is_value d before n ≡ true → net_width d widths n ≤ 64
  value_most (net.Port zero) v = cc
  value_most (net.Port (suc k)) v = input_most k (not-true (get_or d.ports (suc k) (record { output = true; width = 0 })).output v)
  value_most (net.Register k) v = register_most d h k (ltb-true k (registers_of d) v)
  value_most (net.Memory k) v = cc
  value_most (net.Wire k) v =
      let l : k < before = ltb-true k before v in
      omega (arith, get_or-take before (wire_widths d.wires) k 0 l, wires_most d h k (omega arith))

  is_memory_net : (n : Net) → is_words d n ≡ true → (m : ℕ) × (n ≡ net.Memory m)
  is_memory_net (net.Port k) v = cc
  is_memory_net (net.Register k) v = cc
  is_memory_net (net.Memory k) v = (k, refl)
  is_memory_net (net.Wire k) v = cc

  memory_word_most : (n : Net) → is_words d n ≡ true → (memory_width d n).1 ≤ 64
  memory_word_most (net.Port k) v = cc
  memory_word_most (net.Register k) v = cc
  memory_word_most (net.Memory k) v = memory_most d h k (ltb-true k (memories_of d) v)
  memory_word_most (net.Wire k) v = cc

  pub names : Names (entry_in prefix) (name_of d) (scope_before d before) (sorts d before)
  names = record {
    value = value_known;
    words = λ m v. memory_known m (ltb-true m (memories_of d) v);
    memory = is_memory_net;
    proper = λ n v. name_spelled d h (name_place d n) (value_named d h before n few v);
    memory_proper = λ n v. name_spelled d h (name_place d n) (words_named d h n v);
    most = value_most;
    most_memory_word = memory_word_most;
  }

-- ---- after all wires
pub all_names : (d : Netlist) → IsWellFormed d → (assigns : List AssignTree) (always : List (StatementTree Net)) → Names (entry_in (behind_wires d (length d.wires) assigns always)) (name_of d) (full_scope d) (sorts d (length d.wires))
all_names d h assigns always =
    let IsNamed : List ℕ → Type 0 = λ ws. Names (entry_in (behind_wires d (length d.wires) assigns always)) (name_of d) (scope d ws) (sorts d (length d.wires)) in
    subst IsNamed (take_all (length d.wires) (wire_widths d.wires) (omega (arith, length_widths d.wires))) (names d h (length d.wires) (omega arith) assigns always)

pub target_widths : (d : Netlist) → AreTargetWidths (full_scope d) (register_widths d.declared) (memory_widths d.declared)
target_widths d = record { register = λ r. refl; memory = λ m. refl }
