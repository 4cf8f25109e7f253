-- Instructions by their units.
use Rattle.std.specs.Prelude.{ℕ, ◌≡◌, ◌^◌, ◌<◌, List, [], ◌∷◌, length, slice_index_or, All, Option, Some, None}
use Rattle.xdp_state.specs.bpf_isa.declared.instruction.Insn.{Insn}
use Rattle.xdp_state.specs.bpf_isa.Spelling.{IsInsn}
use Rattle.xdp_state.specs.bpf_isa.Laid.{laid}
use Rattle.xdp_state.specs.xdp_machine.State.{Code}

-- the instructions of units
abbrev pub insns_of : List (Option Insn) → List Insn
insns_of [] = []
insns_of (Some i ∷ units) = i ∷ insns_of units
insns_of (None ∷ units) = insns_of units

abbrev pub unit_at : List (Option Insn) → ℕ → Option Insn
unit_at units place = slice_index_or units place None

-- the units of instructions of the table
pub record AreUnits (units : List (Option Insn)) : Type 0 where
  pub are : units ≡ laid (insns_of units)
  pub legal : All IsInsn (insns_of units)
  pub few : length units < 2 ^ 32

abbrev pub code_of : List (Option Insn) → List ℕ → Code
code_of units refs = record { insns = insns_of units; refs = refs }
