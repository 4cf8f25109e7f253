-- Designs that read what is there: wires read earlier ones alone, and nets that are declared.
use Rattle.std.specs.Prelude.{◌≡◌, ℕ, ◌<◌, true, length}
use Rattle.std.proofs.Common.{get_or}
use Rattle.net_core.specs.declared.tree.Net.{Net}
use Rattle.net_core.specs.Nets.{StatementTree, WireTree, AssignTree, Netlist}
use Rattle.net_core.specs.View.{netlist_of}
use Rattle.design_rules.specs.FormedSyntax.{trees_pass}
use Rattle.design_rules.specs.FormedScope.{sorts, reads_known, right_known, registers_of, memories_of}
use Rattle.net_optimize.specs.declared.reading.There.{There}

pub record ReadsWhatIsThere (d : Netlist) : Type 0 where
  pub wires : (i : ℕ) (w : WireTree) → i < length d.wires → w ≡ get_or d.wires i w → right_known (sorts d i) w.right ≡ true
  pub assigns : (i : ℕ) (a : AssignTree) → i < length d.assigns → a ≡ get_or d.assigns i a → reads_known (sorts d (length d.wires)) a.value ≡ true
  pub always : (i : ℕ) (a : StatementTree Net) → i < length d.always → a ≡ get_or d.always i a → trees_pass (reads_known (sorts d (length d.wires))) a ≡ true

-- these are the numbers of what the design declares
pub record IsCounted (t : There) : Type 0 where
  pub registers : t.registers ≡ registers_of (netlist_of t.design.now)
  pub memories : t.memories ≡ memories_of (netlist_of t.design.now)
