-- A design that is made of another one and of sections that stand for its own, and which keeps some of the wires and registers.
use Rattle.std.specs.Prelude.{◌≡◌, ℕ, ◌<◌, Bool, List, length, map as map_list}
use Rattle.net_core.specs.Nets.{Netlist}
use Rattle.net_core.specs.Clock.{first_words, first_memories}
use Rattle.net_optimize.specs.Renumber.{dropped, numbers, kept, NewNumbers, renumber_assign, renumber_always, kept_wires}
use Rattle.net_optimize.specs.Folding.{SectionTrees}

-- the new numbers where these wires and registers are kept, and each register is read as the one that is listed for it
abbrev pub new_numbers : List Bool → List Bool → List ℕ → NewNumbers
new_numbers wires registers firsts = record { wires = numbers 0 wires; registers = numbers 0 registers; firsts = firsts }

pub record IsShort (a : Netlist) (sections : SectionTrees) (firsts : List ℕ) (b : Netlist) : Type 0 where
  pub wires_kept : List Bool
  pub registers_kept : List Bool
  pub all_wires : length wires_kept ≡ length sections.wires
  pub all_registers : length registers_kept ≡ length (first_words a.declared)
  pub few_wires : length wires_kept < dropped
  pub few_registers : length registers_kept < dropped
  pub words : first_words b.declared ≡ kept registers_kept (first_words a.declared)
  pub memories : first_memories b.declared ≡ first_memories a.declared
  pub wires : b.wires ≡ kept_wires (new_numbers wires_kept registers_kept firsts) wires_kept sections.wires
  pub assigns : b.assigns ≡ map_list (renumber_assign (new_numbers wires_kept registers_kept firsts)) sections.assigns
  pub always : b.always ≡ renumber_always (new_numbers wires_kept registers_kept firsts) sections.always
