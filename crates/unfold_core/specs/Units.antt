-- The instructions of a program by their places.
use Rattle.std.specs.Prelude.{ℕ, ◌≡◌, ◌<◌, ◌^◌, List, length, slice_index_or, All, IfSome, Option, None}
use Rattle.xdp_machine.specs.bpf_isa.declared.instruction.Insn.{Insn}
use Rattle.xdp_machine.specs.bpf_isa.Spelling.{IsInsn}
use Rattle.xdp_machine.specs.bpf_isa.Text.{insn_at, unit_count}

-- at each place the instruction that begins there, if one does
pub record AreUnits (insns : List Insn) (units : List (Option Insn)) : Type 0 where
  pub size : length units ≡ unit_count insns
  pub same : (place : ℕ) → slice_index_or units place None ≡ insn_at insns place

-- and all of them are instructions of the table, at places of 32 bits
pub record ArePlaces (insns : List Insn) (units : List (Option Insn)) : Type 0 where
  pub are : AreUnits insns units
  pub legal : All (λ unit. IfSome unit IsInsn) units
  pub few : length units < 2 ^ 32
