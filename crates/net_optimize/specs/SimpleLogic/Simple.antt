-- Designs of the same nets whose expressions have the same values, where nets hold words of their sizes.
use Rattle.std.specs.Prelude.{◌≡◌, ℕ, List, [], ◌∷◌}
use Rattle.net_core.specs.declared.tree.Net.{Net}
use Rattle.net_core.specs.Nets.{RightTree, WireTree, AssignTree, Netlist}
use Rattle.net_core.specs.Value.{Env, value, right_value, stops}
use Rattle.net_core.specs.Clock.{Stored, edge}
use Rattle.net_rules.specs.NetSizes.Fitting.{NetSizes, AreFitting, sizes_of}
use Rattle.net_rules.specs.LogicRules.Known.{AreKnown}
use Rattle.design_rules.specs.SolvedWires.Solving.{Solves}
use Rattle.net_optimize.specs.declared.simple_logic.facts.Facts.{Facts}
use Rattle.register_rules.specs.NarrowRegisters.Narrow.{Each}

-- the sizes of registers, where nothing is known of wires
abbrev pub registers_alone : List ℕ → NetSizes
registers_alone sizes = record { registers = sizes; wires = [] }

-- nets have these sizes, and wires the values of these expressions
pub record Hold (facts : Facts) (v : Env Net) : Type 0 where
  pub sizes : AreFitting (sizes_of facts.sizes) v
  pub known : AreKnown v facts.known.items

-- the second right side has the value of the first one, and its divisor is zero where that of the first one is
pub record IsSameRight (v : Env Net) (a b : RightTree Net) : Type 0 where
  pub value : right_value v b ≡ right_value v a
  pub stops : stops v b ≡ stops v a

abbrev pub IsSameWire : Env Net → WireTree → WireTree → Type 0
IsSameWire v a b = IsSameRight v a.right b.right

-- an output is shown the same
abbrev pub IsSameAssign : Env Net → AssignTree → AssignTree → Type 0
IsSameAssign v a b = (b.port ≡ a.port) × (value v b.value ≡ value v a.value)

-- these values solve the wires of a design, whose registers and ports have their sizes
pub record AreSized (d : Netlist) (sizes : List ℕ) (v : Env Net) : Type 0 where
  pub fit : AreFitting (registers_alone sizes) v
  pub solve : Solves v 0 d.wires

-- the second design declares what the first one declares, and does the same where registers have these sizes
pub record IsSimplified (sizes : List ℕ) (a b : Netlist) : Type 0 where
  pub declared : b.declared ≡ a.declared
  pub wires : (v : Env Net) → AreSized a sizes v → Each (IsSameWire v) a.wires b.wires
  pub assigns : (v : Env Net) → AreSized a sizes v → Each (IsSameAssign v) a.assigns b.assigns
  pub always : (v : Env Net) (s : Stored) → AreSized a sizes v → edge v b.always s ≡ edge v a.always s
