use Rattle.std.proofs.Common.{◌≡◌, refl, subst}
use Rattle.xdp_state.specs.bpf_isa.declared.instruction.Insn.{Insn}
use Rattle.xdp_state.specs.bpf_isa.declared.operation.Op.{Op}
use Rattle.xdp_state.specs.bpf_isa.declared.operation.Op.TheVariants.{Ja, Jump, Exit}
use Rattle.xdp_state.specs.bpf_isa.Spelling.{units_of}
use Rattle.xdp_state.specs.xdp_machine.State.{Code, Machine}
use Rattle.xdp_state.specs.xdp_machine.Step.{Outcome, outcome, goes_on, effect}
use Rattle.xdp_state.specs.Machines.{machine_of}
use Rattle.xdp_seq.specs.Units.{code_of}
use Rattle.xdp_seq.specs.Flows.{Flows}
use Rattle.xdp_seq.proofs.step.outcome.Goals as goal

-- an instruction that does not jump
plain : (code : Code) (m : Machine) (i : Insn) (op : Op) → ((w : _) → op ≡ Ja w → ⊥) → ((w : _) (c : _) (s : _) → op ≡ Jump w c s → ⊥) → (op ≡ Exit → ⊥) → goes_on code.insns m.place (units_of op) (effect code.refs m i op) ≡ outcome code m i op
plain code m i (Ja w) ja jump exit = absurd (ja w refl)
plain code m i (Jump w c s) ja jump exit = absurd (jump w c s refl)
plain code m i Exit ja jump exit = absurd (exit refl)
plain code m i op ja jump exit = refl

pub returns-in_default : goal.returns-in_default
returns-in_default c =
    let m : Machine = machine_of c.args.state.now c.args.frame.now c.args.maps.now in
    let P : Outcome → Type 0 = λ o. Flows c.goes_on.result o m (machine_of c.goes_on.new.state c.goes_on.new.frame c.goes_on.new.maps) in
    subst P (plain (code_of c.args.units.now c.args.refs.now) m c.args.insn.now c.args.insn.now.op c.in_default.not-Ja c.in_default.not-Jump c.in_default.not-Exit) c.goes_on.ensures
