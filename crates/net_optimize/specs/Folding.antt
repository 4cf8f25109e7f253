-- Right sides, outputs and statements of the same values.
use Rattle.std.specs.Prelude.{◌≡◌, List, [], ◌∷◌, map as map_list}
use Rattle.net_core.specs.declared.tree.Net.{Net}
use Rattle.net_core.specs.Nets.{StatementTree, WireTree, AssignTree, Netlist}
use Rattle.net_core.specs.View.{wire_of, assign_of, statement_of}
use Rattle.net_core.specs.Value.{Env, value}
use Rattle.net_core.specs.Clock.{Stored, edge}
use Rattle.net_optimize.specs.declared.sections.Sections.{Sections}
pub use Rattle.net_rules.specs.LogicRules.Known.{IsValued, AreKnown}
pub use Rattle.net_optimize.specs.SimpleLogic.Simple.{IsSameRight}

-- so it is with wires, one by one
abbrev pub AreSameWires : Env Net → List WireTree → List WireTree → Type 0
AreSameWires v [] [] = Unit {0}
AreSameWires v [] (b ∷ more) = ⊥
AreSameWires v (a ∷ rest) [] = ⊥
AreSameWires v (a ∷ rest) (b ∷ more) = IsSameRight v a.right b.right × AreSameWires v rest more

-- what outputs are shown, one by one
abbrev pub AreSameAssigns : Env Net → List AssignTree → List AssignTree → Type 0
AreSameAssigns v [] [] = Unit {0}
AreSameAssigns v [] (b ∷ more) = ⊥
AreSameAssigns v (a ∷ rest) [] = ⊥
AreSameAssigns v (a ∷ rest) (b ∷ more) = (b.port ≡ a.port) × (value v b.value ≡ value v a.value) × AreSameAssigns v rest more

-- the sections of a design that wires are read in
pub record SectionTrees : Type 0 where
  pub wires : List WireTree
  pub assigns : List AssignTree
  pub always : List (StatementTree Net)

abbrev pub sections_of : Sections → SectionTrees
sections_of s = record { wires = map_list wire_of s.wires.items; assigns = map_list assign_of s.assigns.items; always = map_list statement_of s.always.items }

abbrev pub netlist_sections : Netlist → SectionTrees
netlist_sections d = record { wires = d.wires; assigns = d.assigns; always = d.always }

-- the second sections do what the first ones do
pub record AreSameSections (v : Env Net) (a b : SectionTrees) : Type 0 where
  pub wires : AreSameWires v a.wires b.wires
  pub assigns : AreSameAssigns v a.assigns b.assigns
  pub always : (s : Stored) → edge v b.always s ≡ edge v a.always s
