-- What every run keeps to.
use Rattle.std.specs.Prelude.{ℕ, ◌≡◌, ◌≢◌, Option, Some, None, ◌<◌, ◌^◌, List, length, All, Contains}
use Rattle.bpf_isa.specs.declared.operation.Op.{Op}
use Rattle.bpf_isa.specs.declared.operation.Op.TheVariants.{Call, StoreImm, Store, Atomic}
use Rattle.bpf_isa.specs.declared.instruction.Insn.{Insn}
use Rattle.bpf_isa.specs.Spelling.{IsInsn}
use Rattle.bpf_isa.specs.Text.{insn_at}
use Rattle.xdp_maps.specs.State.{MapState, IsSound, contents_at}
use Rattle.xdp_maps.specs.Touched.{Resource, SameOf}
use Rattle.xdp_machine.specs.Values.{Value, Entry, map_in, ◌>>=◌}
use Rattle.xdp_machine.specs.State.{Code, Machine, PacketIn, register, start}
use Rattle.xdp_machine.specs.Step.{Outcome, step, Goes, Ends, NoCase}
use Rattle.xdp_machine.specs.Runs.{Progress, Ended, Stuck, Going, Leaves, run, IsRun}
use Rattle.xdp_machine.specs.Touched.{Touched, Touches, after, operation_at, touched_at}
use Rattle.xdp_machine.specs.Ranges.{IsInRange}

-- The run has come to an end or is stuck.
abbrev pub IsOver : Progress → Type 0
IsOver (Ended e) = Unit {0}
IsOver (Stuck m) = Unit {0}
IsOver (Going m) = ⊥

-- The machine is deterministic: however many steps a run is given, it comes to one end or is stuck at one place.
abbrev pub IsDeterministic : Type 0
IsDeterministic = (code : Code) (m : Machine) (n k : ℕ) → IsOver (run code n m) → IsOver (run code k m) → run code n m ≡ run code k m

-- So a packet has one answer.
abbrev pub HasOneAnswer : Type 0
HasOneAnswer =
    (code : Code) (packet : PacketIn) (maps : MapState) (e f : Leaves) → IsRun code packet maps e → IsRun code packet maps f → e ≡ f

-- the map that a pointer leads into
abbrev pub map_under : Value → Option ℕ
map_under (Entry q key o) = Some q
map_under v = None

-- the map that an instruction names: a store or an atomic change by its pointer, a call by R1
abbrev pub map_named_as : Machine → Insn → Op → Option ℕ
map_named_as m i (StoreImm size) = map_under (register m.registers i.dst)
map_named_as m i (Store size) = map_under (register m.registers i.dst)
map_named_as m i (Atomic size) = map_under (register m.registers i.dst)
map_named_as m i Call = map_in (register m.registers 1)
map_named_as m i op = None

abbrev pub map_named : Code → Machine → Option ℕ
map_named code m = insn_at code.insns m.place >>= λ i. map_named_as m i i.op

-- A step changes the packet's own things (registers, stack, frame, target and place), of which R10 and the sizes stay, and the map
-- that its instruction names, and nothing else.
pub record ChangesOnly (named : Option ℕ) (old new : Machine) : Type 0 where
  pub ifindex : new.ifindex ≡ old.ifindex
  pub time : new.time ≡ old.time
  pub stack_end : register new.registers 10 ≡ register old.registers 10
  pub registers : length new.registers ≡ length old.registers
  pub stack : length new.stack ≡ length old.stack
  pub frame : length new.frame ≡ length old.frame
  pub decls : new.maps.decls ≡ old.maps.decls
  pub maps : (q : ℕ) → named ≢ Some q → contents_at new.maps q ≡ contents_at old.maps q

abbrev pub StepsChangeOnly : Type 0
StepsChangeOnly = (code : Code) (old new : Machine) → length old.registers ≡ 11 → step code old ≡ Goes new → ChangesOnly (map_named code old) old new

-- the frame and the maps that a run has come to
abbrev pub frame_so_far : Progress → List ℕ
frame_so_far (Ended e) = e.frame
frame_so_far (Stuck m) = m.frame
frame_so_far (Going m) = m.frame

abbrev pub maps_so_far : Progress → MapState
maps_so_far (Ended e) = e.maps
maps_so_far (Stuck m) = m.maps
maps_so_far (Going m) = m.maps

-- So a run leaves its frame as long as it was, and the maps over their declarations.
pub record KeepsSizes (m : Machine) (r : Progress) : Type 0 where
  pub frame : length (frame_so_far r) ≡ length m.frame
  pub decls : (maps_so_far r).decls ≡ m.maps.decls

abbrev pub RunsKeepSizes : Type 0
RunsKeepSizes = (code : Code) (n : ℕ) (m : Machine) → length m.registers ≡ 11 → KeepsSizes m (run code n m)

-- ---- the maps of a step

-- A step leaves the maps as its operation does.
abbrev pub StepsOperate : Type 0
StepsOperate = (code : Code) (old new : Machine) → step code old ≡ Goes new → new.maps ≡ after (operation_at code old) old.maps

-- What a step does not write stays: the presence of each key, each value, and each count.
abbrev pub StepsKeepUnwritten : Type 0
StepsKeepUnwritten =
    (code : Code) (old new : Machine) → step code old ≡ Goes new
    → (r : Resource) → ¬ Contains (touched_at code old).writes r → SameOf new.maps old.maps r

-- what a step leads to, with other maps
abbrev pub with_maps : MapState → Outcome → Outcome
with_maps maps (Goes next) = Goes (record next { maps = maps })
with_maps maps (Ends verdict) = Ends verdict
with_maps maps NoCase = NoCase

-- The step is the same on other maps: it has the same effect on all else, and does the same to these maps, and touches the same.
pub record IsSameStep (code : Code) (m : Machine) (other : MapState) : Type 0 where
  pub outcome : step code (record m { maps = other }) ≡ with_maps (after (operation_at code m) other) (step code m)
  pub touched : touched_at code (record m { maps = other }) ≡ touched_at code m

-- Two machines that are alike but for what their maps hold, and whose maps show the same of what the step reads, take the same
-- step, where both have a case.
abbrev pub TakesSameStep : Type 0
TakesSameStep =
    (code : Code) (m : Machine) (other : MapState) → IsInRange m → other.decls ≡ m.maps.decls → IsSound other
    → All (SameOf m.maps other) (touched_at code m).reads → step code m ≢ NoCase → step code (record m { maps = other }) ≢ NoCase
    → IsSameStep code m other

-- So what a packet touches is one thing.
abbrev pub TouchesOne : Type 0
TouchesOne =
    (code : Code) (packet : PacketIn) (maps : MapState) (e f : Leaves) (t u : Touched)
    → Touches code packet maps e t → Touches code packet maps f u → t ≡ u

-- ---- ranges

-- A step keeps numbers below 2 ^ 64, bytes below 256, keys and values of the lengths that are declared, and maps within their
-- declarations.
abbrev pub StepsKeepRanges : Type 0
StepsKeepRanges = (code : Code) (old new : Machine) → All IsInsn code.insns → IsInRange old → step code old ≡ Goes new → IsInRange new

-- A run begins in range.
abbrev pub StartsInRange : Type 0
StartsInRange =
    (packet : PacketIn) (maps : MapState) → All (λ b. b < 256) packet.frame → length packet.frame < 2 ^ 63 → packet.ifindex < 2 ^ 32 → packet.time < 2 ^ 64 → IsSound maps
    → IsInRange (start packet maps)

-- So what it leaves is in range.
pub record LeavesInRange (e : Leaves) : Type 0 where
  pub verdict : e.verdict < 2 ^ 32
  pub target : e.target < 2 ^ 32
  pub frame : All (λ b. b < 256) e.frame
  pub maps : IsSound e.maps

abbrev pub RunsLeaveInRange : Type 0
RunsLeaveInRange =
    (code : Code) (packet : PacketIn) (maps : MapState) (e : Leaves) → All IsInsn code.insns → IsInRange (start packet maps) → IsRun code packet maps e
    → LeavesInRange e
