-- A call of a helper is what its helper does.
use Rattle.std.proofs.Common.{◌≡◌, ℕ, ◌==◌, if◌then◌else◌, Bool, true, false, Option, Some, None, List, sym, ◌∙◌, ap}
use Rattle.bpf_isa.specs.declared.operation.Op.TheVariants.{Call}
use Rattle.bpf_isa.specs.declared.instruction.Insn.{Insn}
use Rattle.bpf_isa.specs.declared.helper.Helper.{Helper}
use Rattle.bpf_isa.specs.Helpers.{helper_of}
use Rattle.xdp_machine.specs.State.{Machine}
use Rattle.xdp_machine.specs.Helpers.{called}
use Rattle.xdp_machine.specs.Step.{effect}

pub helper_called : (refs : List ℕ) (m n : Machine) (i : Insn) (helper : Option Helper) → i.op ≡ Call → helper_of i.imm ≡ helper → effect refs m i i.op ≡ Some n → called helper m ≡ Some n
helper_called refs m n i helper op same e = by (i.src == 0) (sym (ap (effect refs m i) op) ∙ e)
  where
    by : (t : Bool) → (if t then called (helper_of i.imm) m else None) ≡ Some n → called helper m ≡ Some n
    by true f = ap (λ (h : Option Helper). called h m) (sym same) ∙ f
    by false f = absurd cc
