-- The units of instructions, and what begins at a place.
use Rattle.std.proofs.Common.{Bor, ◌≡◌, ℕ, ◌≤◌, ◌<◌, ◌^◌, ◌⊎◌, inl, inr, List, length, take, get_or, Some, None, sym, ◌∙◌, ap, subst, arith}
use Rattle.std.proofs.lemmas.List.{take_all, get_or_past, get_or_default}
use Rattle.std.proofs.lemmas.Bool.{cases_lt}
use Rattle.std.specs.Prelude.{Option, IfSome, option_copied, All}
use Rattle.xdp_machine.specs.bpf_isa.declared.instruction.Insn.{Insn}
use Rattle.xdp_machine.specs.bpf_isa.Spelling.{IsInsn}
use Rattle.xdp_machine.specs.bpf_isa.Text.{insn_at, unit_count}
use Rattle.xdp_machine.specs.bpf_isa.Laid.{laid}
use Rattle.xdp_machine.proofs.bpf_isa_laws.LaidLaws.{insn_at-laid, length-laid, legal_at}
use Rattle.unfold_core.specs.Units.{AreUnits, ArePlaces}

-- all instructions are laid out
pub laid_all : (is : List Insn) (n : ℕ) (units : List (Option Insn)) → units ≡ laid (take n is) → length is ≤ n → AreUnits is units
laid_all is n units e all =
    let whole : units ≡ laid is = e ∙ ap laid (take_all n is all) in
    record {
      size = ap length whole ∙ length-laid is;
      same = λ place. ap (λ us. get_or us place None) whole ∙ sym (insn_at-laid is place);
    }

-- no instruction begins after the last unit
pub none_behind : (is : List Insn) (place : ℕ) → unit_count is ≤ place → insn_at is place ≡ None
none_behind is place h = insn_at-laid is place ∙ get_or_past (laid is) place None (omega (arith, length-laid is))

pub legal_units : (is : List Insn) (units : List (Option Insn)) → AreUnits is units → All IsInsn is → All (λ unit. IfSome unit IsInsn) units
legal_units is units u all = λ k d below. subst (λ unit. IfSome unit IsInsn) (sym (get_or_default units k d None below ∙ u.same k)) (legal_at is k all)

pub are_places : (is given : List Insn) (units : List (Option Insn)) → given ≡ is → All IsInsn is → unit_count is < 2 ^ 32 → AreUnits given units → ArePlaces is units
are_places is given units e all few u =
    let v : AreUnits is units = subst (λ xs. AreUnits xs units) e u in
    record { are = v; legal = legal_units is units v all; few = omega (arith, v.size, few) }

-- what begins at a place is legal
pub legal_found : (units : List (Option Insn)) (place : ℕ) (o : Option (Bor Insn)) → All (λ unit. IfSome unit IsInsn) units → option_copied o ≡ get_or units place None → IfSome o (λ i. IsInsn i.now)
legal_found units place None all e = tt
legal_found units place (Some i) all e = let P : Option Insn → Type 0 = λ x. IfSome x IsInsn in subst P (sym e) (there (cases_lt place (length units)))
  where
    there : (place < length units) ⊎ (length units ≤ place) → IfSome (get_or units place None) IsInsn
    there (inl lt) = all place None lt
    there (inr ge) = let P : Option Insn → Type 0 = λ x. IfSome x IsInsn in subst P (sym (get_or_past units place None ge)) tt
