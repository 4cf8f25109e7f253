-- The kind of an operand describes its value.
use Rattle.std.proofs.Common.{refl}
use Rattle.xdp_machine.specs.bpf_isa.declared.operation.Src.{Src}
use Rattle.xdp_machine.specs.bpf_isa.declared.operation.Src.TheVariants.{K, X}
use Rattle.xdp_machine.specs.bpf_isa.declared.instruction.Insn.{Insn}
use Rattle.xdp_machine.specs.State.{Machine}
use Rattle.xdp_machine.specs.Step as step
use Rattle.kind_core.specs.declared.kind.Kinds.{Kinds}
use Rattle.kind_core.specs.Effects.{operand}
use Rattle.kind_core.specs.Describes.{World, Describes, DescribesMachine}

pub operand_described : (w : World) (k : Kinds) (m : Machine) (i : Insn) (s : Src) → DescribesMachine w k m → Describes w m.maps (operand k i s) (step.operand m.registers i s)
operand_described w k m i K d = refl
operand_described w k m i X d = d.registers i.src
