-- Kinds are sound: where an instruction is allowed, the machine has a step, and the kinds after it describe what the step leaves.
use Rattle.std.specs.Prelude.{ℕ, ℤ, pos, ◌+◌, ◌+ℤ◌, if◌then◌else◌, ◌<◌, ◌≡◌, ◌==◌, ◌≤◌, ◌⊎◌, Bool, true, false, Some, None, IfOk, List, length}
use Rattle.std.specs.List.{list_any}
use Rattle.xdp_machine.specs.bpf_isa.declared.operation.Src.{Src}
use Rattle.xdp_machine.specs.bpf_isa.declared.operation.Size.{Size}
use Rattle.xdp_machine.specs.bpf_isa.declared.operation.Width.TheVariants.{Bits32, Bits64}
use Rattle.xdp_machine.specs.bpf_isa.Spelling.{IsInsn, units_of}
use Rattle.xdp_machine.specs.bpf_isa.Text.{insn_at}
use Rattle.kind_core.specs.Tests.{passed}
use Rattle.xdp_machine.specs.Atomics.{atomic}
use Rattle.xdp_machine.specs.bpf_isa.declared.operation.Width.{Width}
use Rattle.xdp_machine.specs.bpf_isa.declared.operation.JumpCode.{JumpCode}
use Rattle.xdp_machine.specs.bpf_isa.declared.operation.Op.{Op}
use Rattle.xdp_machine.specs.bpf_isa.declared.operation.Op.TheVariants.{Ja, Jump, Call, Exit, StoreImm, Store, Atomic}
use Rattle.xdp_machine.specs.bpf_isa.declared.instruction.Insn.{Insn}
use Rattle.xdp_machine.specs.State as machine
use Rattle.xdp_machine.specs.State.{Machine}
use Rattle.xdp_machine.specs.Ranges.{IsInRange}
use Rattle.xdp_machine.specs.Pointers.{compared}
use Rattle.xdp_machine.specs.Step as step
use Rattle.kind_core.specs.declared.kind.Kinds.{Kinds}
use Rattle.kind_core.specs.Kinds.{value_bytes}
use Rattle.kind_core.specs.Profile.{writes_destination}
use Rattle.kind_core.specs.Effects.{effect_of, verdict}
use Rattle.kind_core.specs.Edges.{changed, decided, decided_as, transferred}
use Rattle.kind_core.specs.Describes.{World, DescribesMachine}

-- a machine that kinds describe, with all that it holds in range, over maps whose values are within their limit
pub record Stands (w : World) (k : Kinds) (m : Machine) : Type 0 where
  pub described : DescribesMachine w k m
  pub registers : length k.registers ≡ length m.registers
  pub slots : length k.slots ≡ length m.stack
  pub stack : length m.stack ≡ 64
  pub range : IsInRange m
  pub values : (q : ℕ) → value_bytes m.maps.decls q ≤ 64

-- whether the place of a machine is that of a reference to a map
abbrev pub at_reference : List ℕ → Machine → Bool
at_reference refs m = list_any (λ r. r == m.place) refs

-- a later node of the same run: what the lookups and sums before gave
pub record IsLater (w v : World) : Type 0 where
  pub frame : v.frame ≡ w.frame
  pub node : w.node ≤ v.node
  pub gave : (n : ℕ) → n < w.node → v.gave n ≡ w.gave n

-- the same, where just what this node gave has been added
abbrev pub IsNext : World → World → Type 0
IsNext w v = IsLater w v × (v.node ≡ w.node + 1)

-- Instructions that write their destination: arithmetic, constants and loads. A sum may give a base.
abbrev pub RegistersAreSound : Type 0
RegistersAreSound = (refs : List ℕ) (w : World) (k : Kinds) (m : Machine) (i : Insn)
    → Stands w k m → IsInsn i → writes_destination i.op ≡ true
    → IfOk (effect_of m.maps.decls k i) (λ e. (n : Machine) × (step.effect refs m i i.op ≡ Some n) × ((v : World) × IsNext w v × DescribesMachine v (changed w.node (at_reference refs m) false k e) n))

-- ST and STX
abbrev pub is_store : Op → Bool
is_store (StoreImm size) = true
is_store (Store size) = true
is_store op = false

-- Stores, into the packet, the stack and the values of maps.
abbrev pub StoresAreSound : Type 0
StoresAreSound = (refs : List ℕ) (w : World) (k : Kinds) (m : Machine) (i : Insn)
    → Stands w k m → is_store i.op ≡ true
    → IfOk (effect_of m.maps.decls k i) (λ e. (n : Machine) × (step.effect refs m i i.op ≡ Some n) × DescribesMachine w (changed w.node (at_reference refs m) false k e) n)

-- Atomic changes of numbers in values of maps.
abbrev pub AtomicsAreSound : Type 0
AtomicsAreSound = (w : World) (k : Kinds) (m : Machine) (i : Insn) (size : Size)
    → Stands w k m → IsInsn i → i.op ≡ Atomic size
    → IfOk (effect_of m.maps.decls k i) (λ e. (n : Machine) × (atomic m i size ≡ Some n) × DescribesMachine w (changed w.node false false k e) n)

-- What describes a machine at a node describes it at each later one.
abbrev pub LaterDescribes : Type 0
LaterDescribes = (w v : World) (k : Kinds) (m : Machine) → IsLater w v → DescribesMachine w k m → DescribesMachine v k m

-- Calls of helpers.
abbrev pub CallsAreSound : Type 0
CallsAreSound = (w : World) (k : Kinds) (m : Machine) (i : Insn)
    → Stands w k m → i.op ≡ Call
    → IfOk (effect_of m.maps.decls k i) (λ e. (n : Machine) × (step.calls m i ≡ Some n) × ((v : World) × IsNext w v × DescribesMachine v (changed w.node false false k e) n))

-- an edge that is not absent
abbrev pub IsPresent : Kinds → Insn → Bool → Type 0
IsPresent k i taken = (decided k i ≡ None) ⊎ (decided k i ≡ Some taken)

-- Conditional jumps: the condition has a meaning, and the jump goes along an edge that is present.
abbrev pub ConditionsAreSound : Type 0
ConditionsAreSound = (w : World) (k : Kinds) (m : Machine) (i : Insn) (wd : Width) (c : JumpCode) (s : Src)
    → Stands w k m → i.op ≡ Jump wd c s
    → IfOk (effect_of m.maps.decls k i) (λ e. (taken : Bool) × (compared wd c (machine.register m.registers i.dst) (step.operand m.registers i s) ≡ Some taken)
    × IsPresent k i taken × DescribesMachine w (changed w.node false taken k e) m)

-- where an instruction at a place leads
abbrev pub target : ℕ → Insn → Op → Bool → ℤ
target place i (Ja Bits64) taken = pos (place + 1) +ℤ i.offset
target place i (Ja Bits32) taken = pos (place + 1) +ℤ i.imm
target place i (Jump wd c s) taken = if taken then pos (place + 1) +ℤ i.offset else pos (place + 1)
target place i op taken = pos (place + units_of op)

-- A step goes along an edge that is present, and the kinds on this edge describe what it leaves.
pub record Leads (code : machine.Code) (w : World) (k : Kinds) (m : Machine) (i : Insn) (op : Op) : Type 0 where
  pub taken : Bool
  pub after : Machine
  pub world : World
  pub goes : step.step code m ≡ step.goes_to code.insns (target m.place i op taken) after
  pub present : (decided_as k i op ≡ None) ⊎ (decided_as k i op ≡ Some taken)
  pub later : IsNext w world
  pub described : DescribesMachine world (transferred m.maps.decls k i w.node (at_reference code.refs m) taken) after

abbrev pub GoesOn : machine.Code → World → Kinds → Machine → Insn → Op → Type 0
GoesOn code w k m i Exit = (verdict : ℕ) × (step.step code m ≡ step.Ends verdict)
GoesOn code w k m i op = Leads code w k m i op

-- So a machine that kinds describe at an allowed instruction is not stuck there: it ends, or goes along an edge.
abbrev pub StepsAreSound : Type 0
StepsAreSound = (code : machine.Code) (w : World) (k : Kinds) (m : Machine) (i : Insn)
    → Stands w k m → IsInsn i → insn_at code.insns m.place ≡ Some i → verdict (effect_of m.maps.decls k i) ≡ passed
    → GoesOn code w k m i i.op
