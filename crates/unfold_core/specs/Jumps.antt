-- Jumps, and the places that they lead to.
use Rattle.std.specs.Prelude.{ℕ, ℤ, pos, negsuc, ◌≡◌, ◌+◌, ◌+ℤ◌, ◌⊎◌, Bool, true, false, List, Option, Some, None}
use Rattle.xdp_machine.specs.bpf_isa.declared.operation.Width.TheVariants.{Bits32, Bits64}
use Rattle.xdp_machine.specs.bpf_isa.declared.operation.Op.{Op}
use Rattle.xdp_machine.specs.bpf_isa.declared.operation.Op.TheVariants.{Ja, Jump, Exit}
use Rattle.xdp_machine.specs.bpf_isa.declared.instruction.Insn.{Insn}
use Rattle.xdp_machine.specs.bpf_isa.Spelling.{units_of}
use Rattle.xdp_machine.specs.bpf_isa.Text.{insn_at}

-- how far a jump leads from the next place
abbrev pub distance : Insn → Op → Option ℤ
distance i (Ja Bits64) = Some i.offset
distance i (Ja Bits32) = Some i.imm
distance i (Jump w c s) = Some i.offset
distance i op = None

-- no place lies below 0
abbrev pub natural : ℤ → Option ℕ
natural (pos n) = Some n
natural (negsuc n) = None

abbrev pub led_to : ℕ → Option ℤ → Option ℕ
led_to place (Some d) = natural (pos (place + 1) +ℤ d)
led_to place None = None

abbrev pub target_of : ℕ → Option Insn → Option ℕ
target_of place (Some i) = led_to place (distance i i.op)
target_of place None = None

-- the target of the jump that begins at a place
abbrev pub target : List Insn → ℕ → Option ℕ
target insns place = target_of place (insn_at insns place)

-- an instruction goes on at the next place, unless it always jumps or ends the run
abbrev pub goes_on : Op → Bool
goes_on (Ja w) = false
goes_on Exit = false
goes_on op = true

-- An edge leads to the next place, or to the target of a jump.
abbrev pub LeadsFrom : ℕ → Insn → ℕ → Type 0
LeadsFrom place i to = ((goes_on i.op ≡ true) × (to ≡ place + units_of i.op)) ⊎ (target_of place (Some i) ≡ Some to)

abbrev pub Leads : List Insn → ℕ → ℕ → Type 0
Leads insns place to = (i : Insn) × (insn_at insns place ≡ Some i) × LeadsFrom place i to
