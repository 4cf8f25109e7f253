-- Which instruction begins at a place, by the units.
use Rattle.std.proofs.Common.{Bor, ◌≡◌, ℕ, zero, suc, ◌-◌, ◌^◌, ◌<◌, List, [], ◌∷◌, ◌++◌, replicate, Some, None, refl, sym, ◌∙◌, ap, subst}
use Rattle.std.specs.Prelude.{Option, IfSome, option_copied, All}
use Rattle.xdp_state.specs.bpf_isa.declared.instruction.Insn.{Insn}
use Rattle.xdp_state.specs.bpf_isa.Spelling.{units_of, IsInsn}
use Rattle.xdp_state.specs.bpf_isa.Text.{insn_at, unit_count}
use Rattle.xdp_state.specs.bpf_isa.Laid.{laid}
use Rattle.xdp_object.proofs.bpf_isa_laws.LaidLaws.{insn_at-laid, legal_at, length-laid}
use Rattle.xdp_seq.specs.Units.{insns_of, unit_at, AreUnits}

-- which instruction begins at a place
pub unit_of : (units : List (Option Insn)) (place : ℕ) → AreUnits units → insn_at (insns_of units) place ≡ unit_at units place
unit_of units place h = insn_at-laid (insns_of units) place ∙ ap (λ us. unit_at us place) (sym h.are)

-- what is referred to is one of the instructions
pub legal_found : (is : List Insn) (place : ℕ) (o : Option (Bor Insn)) → All IsInsn is → option_copied o ≡ insn_at is place → IfSome o (λ i. IsInsn i.now)
legal_found is place None all e = tt
legal_found is place (Some i) all e = let P : Option Insn → Type 0 = λ x. IfSome x IsInsn in subst P (sym e) (legal_at is place all)

insns_of-nones : (n : ℕ) (units : List (Option Insn)) → insns_of (replicate n None ++ units) ≡ insns_of units
insns_of-nones zero units = refl
insns_of-nones (suc n) units = insns_of-nones n units

pub insns_of-laid : (is : List Insn) → insns_of (laid is) ≡ is
insns_of-laid [] = refl
insns_of-laid (i ∷ is) = ap (λ xs. i ∷ xs) (insns_of-nones (units_of i.op - 1) (laid is) ∙ insns_of-laid is)

-- instructions of the table as units
pub are_units : (is : List Insn) → All IsInsn is → unit_count is < 2 ^ 32 → AreUnits (laid is)
are_units is all few = record {
  are = ap laid (sym (insns_of-laid is));
  legal = let P : List Insn → Type 0 = λ xs. All IsInsn xs in subst P (sym (insns_of-laid is)) all;
  few = let P : ℕ → Type 0 = λ n. n < 2 ^ 32 in subst P (sym (length-laid is)) few;
}
