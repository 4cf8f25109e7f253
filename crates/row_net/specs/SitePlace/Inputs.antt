-- What registers take in a clock in which packets go on.
use Rattle.std.specs.Prelude.{◌≡◌, ℕ, ◌<◌, ◌≤◌, Option, Some, None, List, [], length}
use Rattle.std.proofs.Common.{get_or}
use Rattle.net_core.specs.declared.tree.Word.{Word}
use Rattle.net_core.specs.Nets.{Tree, TRead, StatementTree, SIf}
use Rattle.net_core.specs.Value.{word, nothing, Env}
use Rattle.net_core.specs.Clock.{Stored}
use Rattle.cell_nets.specs.declared.operand.Operand.{Operand}
use Rattle.cell_nets.specs.Operands.{number_in, IsOperand, IsAvailable}
use Rattle.cell_nets.specs.Wires.{HasBits}
use Rattle.overlay_net.specs.cell_core.Cells.{CellView}
use Rattle.row_net.specs.PlaceNet.Place.{width_at, HasSize}
use Rattle.row_net.specs.PlaceNet.PlaceNets.{tree_for, set_statement}
pub use Rattle.row_net.specs.declared.site_place.holding.Input.{Input}

-- an operand has the bits of the register that takes it
pub record IsHeld {N : Type 0} (width : ℕ) (a : Operand N) : Type 0 where
  pub operand : IsOperand a
  pub wide : HasBits width a

-- a register of some bits takes an operand that is there
pub record IsInput {N : Type 0} (ins : List (Operand N)) (i : Input N) : Type 0 where
  pub some : 0 < i.width
  pub most : i.width ≤ 64
  pub from : Operand N
  pub is : i.operand ≡ Some from
  pub held : IsHeld i.width from
  pub there : IsAvailable ins from

-- what stands for a carried cell, of its width, and for a carried pointer
abbrev pub cell_input : {N : Type 0} → List CellView → List (Option (Operand N)) → ℕ → Input N
cell_input cells table k = record { operand = get_or table k None; width = width_at cells k }

abbrev pub pointer_input : {N : Type 0} → ℕ → List (Option (Operand N)) → ℕ → Input N
pointer_input bits pointers k = record { operand = get_or pointers k None; width = bits }

-- the number of an operand, 0 where there is none
abbrev pub number_from : {N : Type 0} → Env N → Option (Operand N) → ℕ
number_from v None = 0
number_from v (Some a) = number_in v a

abbrev pub width_of_input : {N : Type 0} → Input N → ℕ
width_of_input i = i.width

abbrev pub input_word : {N : Type 0} → Env N → Input N → Word
input_word v i = word i.width (number_from v i.operand)

abbrev pub first_word : {N : Type 0} → Input N → Word
first_word i = word i.width 0

abbrev pub input_tree : {N : Type 0} → Input N → Tree N
input_tree i = tree_for i.operand i.width

-- registers take their inputs where a net says so
abbrev pub held_statement : {N : Type 0} → N → List (Tree N) → StatementTree N
held_statement advance values = SIf (TRead advance) (set_statement values)

-- registers of these widths, whatever they hold, and no memory
pub record HasWidths (widths : List ℕ) (s : Stored) : Type 0 where
  pub count : length s.registers ≡ length widths
  pub each : (i : ℕ) → i < length widths → HasSize (get_or widths i 0) (get_or s.registers i nothing)
  pub memories : s.memories ≡ []
