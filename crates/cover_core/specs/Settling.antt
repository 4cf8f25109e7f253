-- Where a run goes on without a test.
use Rattle.std.specs.Prelude.{ℕ, zero, suc, ◌+◌, Bool, true, if◌then◌else◌, List, Option, Some, None}
use Rattle.xdp_machine.specs.bpf_isa.declared.operation.Op.{Op}
use Rattle.xdp_machine.specs.bpf_isa.declared.operation.Op.TheVariants.{Ja}
use Rattle.xdp_machine.specs.bpf_isa.declared.instruction.Insn.{Insn}
use Rattle.xdp_machine.specs.bpf_isa.Spelling.{units_of}
use Rattle.xdp_machine.specs.bpf_isa.Text.{insn_at, unit_count}
use Rattle.xdp_machine.specs.Values.{◌>>=◌}
use Rattle.kind_core.specs.declared.kind.Kinds.{Kinds}
use Rattle.kind_core.specs.Edges.{decided_as}
use Rattle.unfold_core.specs.Jumps.{target_of}

-- where an instruction leads on a side: to the target of its jump, or to the next place
abbrev pub side : ℕ → Insn → Bool → Option ℕ
side place i taken = if taken then target_of place (Some i) else Some (place + units_of i.op)

-- the side on which an instruction leads on without a test: a jump always, a conditional one as these kinds decide it
abbrev pub sure_side : Kinds → Insn → Op → Option Bool
sure_side k i (Ja w) = Some true
sure_side k i op = decided_as k i op

abbrev pub settled_by : (ℕ → Option ℕ) → ℕ → Insn → Option Bool → Option ℕ
settled_by onward place i None = Some place
settled_by onward place i (Some taken) = side place i taken >>= onward

abbrev pub settled_at : (ℕ → Option ℕ) → Kinds → ℕ → Option Insn → Option ℕ
settled_at onward k place None = None
settled_at onward k place (Some i) = settled_by onward place i (sure_side k i i.op)

-- the same within so many instructions
unfoldable pub settled_within : List Insn → Kinds → ℕ → ℕ → Option ℕ
settled_within insns k zero place = None
settled_within insns k (suc n) place = settled_at (settled_within insns k n) k place (insn_at insns place)

-- Where a run settles that goes on at a place, while these kinds describe it: over all that leads on without a test, at the first other instruction. It
-- settles nowhere where none comes within as many instructions as there are units.
abbrev pub settled : List Insn → Kinds → ℕ → Option ℕ
settled insns k place = settled_within insns k (unit_count insns) place
