-- The same instruction at two places touches the same, and one that idles nothing.
use Rattle.std.proofs.Common.{◌≡◌, ℕ, Bool, true, false, Option, Some, None, refl, sym, ◌∙◌, ap, subst}
use Rattle.std.specs.Prelude.{IsTrue}
use Rattle.xdp_machine.specs.bpf_isa.declared.operation.Width.TheVariants.{Bits64}
use Rattle.xdp_machine.specs.bpf_isa.declared.operation.AluCode.TheVariants.{Mov}
use Rattle.xdp_machine.specs.bpf_isa.declared.operation.Src.TheVariants.{K}
use Rattle.xdp_machine.specs.bpf_isa.declared.operation.Op.{Op}
use Rattle.xdp_machine.specs.bpf_isa.declared.operation.Op.TheVariants.{Alu, Ja, Jump, Call}
use Rattle.xdp_machine.specs.bpf_isa.declared.instruction.Insn.{Insn}
use Rattle.xdp_machine.specs.bpf_isa.declared.helper.Helper.{Helper}
use Rattle.xdp_machine.specs.bpf_isa.declared.helper.Helper.TheVariants.{Lookup, Update, Delete, Time, Redirect}
use Rattle.xdp_machine.specs.bpf_isa.Helpers.{helper_of}
use Rattle.xdp_machine.specs.bpf_isa.Text.{insn_at}
use Rattle.xdp_machine.specs.Values.{◌>>=◌}
use Rattle.xdp_machine.specs.State.{Machine}
use Rattle.xdp_machine.specs.Helpers.{calls_on}
use Rattle.xdp_machine.specs.Program.{XdpProgram, program_code}
use Rattle.xdp_machine.specs.Touched.{nothing, touched_by, touched_at, operation_as}
use Rattle.kind_core.proofs.TransferLaws.{is_jump}
use Rattle.cover_core.specs.Cover.{undirected, is_plain_jump, is_constant_move}
use Rattle.cover_core.proofs.Silent.{at_place, untouched}
use Rattle.cover_core.proofs.Twins.{same_op, same_insn}

-- ---- what idles

pub jump_silent : (m : Machine) (i : Insn) (op : Op) → IsTrue (is_plain_jump op) → operation_as m i op ≡ None
jump_silent m i (Ja w) is = refl
jump_silent m i op is = absurd (cc)

pub move_silent : (m : Machine) (i : Insn) (op : Op) → IsTrue (is_constant_move op) → operation_as m i op ≡ None
move_silent m i (Alu w c s) is = refl
move_silent m i op is = absurd (cc)

-- ---- the same instruction

calls_alike : (p : ℕ) (m : Machine) (o : Option Helper) → calls_on o (at_place p m) ≡ calls_on o m
calls_alike p m (Some Lookup) = refl
calls_alike p m (Some Update) = refl
calls_alike p m (Some Delete) = refl
calls_alike p m (Some Time) = refl
calls_alike p m (Some Redirect) = refl
calls_alike p m None = refl

operation_alike : (p : ℕ) (m : Machine) (i : Insn) (op : Op) → operation_as (at_place p m) i op ≡ operation_as m i op
operation_alike p m i Call = calls_alike p m (helper_of i.imm)
operation_alike p m i op = refl

jumps_on_none : (m : Machine) (i : Insn) (op : Op) → is_jump op ≡ true → operation_as m i op ≡ None
jumps_on_none m i (Jump w c s) h = refl
jumps_on_none m i op h = let bad : false ≡ true = h in absurd (cc)

pub touched_alike : (a b : XdpProgram) (p : ℕ) (m : Machine) (i j : Insn) → insn_at a.insns p ≡ Some j → insn_at b.insns m.place ≡ Some i → undirected j ≡ undirected i
    → touched_at (program_code a) (at_place p m) ≡ touched_at (program_code b) m
touched_alike a b p m i j there here same = by_kind (is_jump i.op) refl
  where
    by_kind : (jumps : Bool) → is_jump i.op ≡ jumps → touched_at (program_code a) (at_place p m) ≡ touched_at (program_code b) m
    by_kind true h =
        untouched (program_code a) (at_place p m) j j.op there refl (jumps_on_none (at_place p m) j j.op (ap is_jump (same_op i j same) ∙ h))
        ∙ sym (untouched (program_code b) m i i.op here refl (jumps_on_none m i i.op h))
    by_kind false h = ap (touched_by m.maps)
        (ap (λ (o : Option Insn). o >>= (λ x. operation_as (at_place p m) x x.op)) there ∙ operation_alike p m j j.op ∙ ap (λ (x : Insn). operation_as m x x.op) (same_insn i j h same)
        ∙ sym (ap (λ (o : Option Insn). o >>= (λ x. operation_as m x x.op)) here))
