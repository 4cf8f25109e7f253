-- The operations on maps that a run does, and the resources that it reads and writes.
use Rattle.std.specs.Prelude.{ℕ, zero, suc, ℤ, ◌≡◌, ◌+◌, ◌+ℤ◌, Bool, true, Option, Some, None, List, [], ◌∷◌, ◌++◌, slice_get}
use Rattle.std.specs.Int.{w64, cast_unsigned}
use Rattle.byteorder.specs.Endian.{little_bytes}
use Rattle.bpf_isa.specs.declared.operation.Op.{Op}
use Rattle.bpf_isa.specs.declared.operation.Op.TheVariants.{Call, Load, LoadSigned, StoreImm, Store, Atomic}
use Rattle.bpf_isa.specs.declared.operation.Size.{Size}
use Rattle.bpf_isa.specs.declared.instruction.Insn.{Insn}
use Rattle.bpf_isa.specs.Helpers.{helper_of}
use Rattle.bpf_isa.specs.Text.{insn_at}
use Rattle.xdp_maps.specs.declared.change.ChangeKind.{ChangeKind}
use Rattle.xdp_maps.specs.declared.change.ChangeKind.TheVariants.{Cmpxchg}
use Rattle.xdp_maps.specs.State.{MapState}
use Rattle.xdp_maps.specs.Operations as map
use Rattle.xdp_maps.specs.Operations.{Operation, operated}
use Rattle.xdp_maps.specs.Touched.{Resource, reads, writes}
use Rattle.xdp_machine.specs.Values.{Value, Number, Entry, number_in, ◌>>=◌}
use Rattle.xdp_machine.specs.State.{Code, Machine, PacketIn, register, start}
use Rattle.xdp_machine.specs.Memory.{bytes_in, aligned}
use Rattle.xdp_machine.specs.Atomics.{fetches, change_of}
use Rattle.xdp_machine.specs.Helpers.{calls_on}
use Rattle.xdp_machine.specs.Step.{Outcome, Goes, Ends, NoCase, step}
use Rattle.xdp_machine.specs.Runs.{Leaves, Ended, run}

-- ---- the operation of a step: on which map, and which

-- of an access at an offset from a pointer into an entry
abbrev pub accesses : MapState → Value → ℤ → Size → (List ℕ → ℕ → Operation) → Option (ℕ × Operation)
accesses maps (Entry q key o) offset size f =
    slice_get maps.decls q >>= λ d.
    aligned (o +ℤ offset) (bytes_in size) d.value >>= λ a.
    Some (q, f key a)
accesses maps base offset size f = None

abbrev pub stores : Machine → Value → ℤ → Size → Value → Option (ℕ × Operation)
stores m base offset size v =
    number_in v >>= λ n.
    accesses m.maps base offset size (λ key a. map.Store key a (little_bytes (bytes_in size) n))

-- whether an atomic change answers the number that it finds
abbrev pub answers_old : ChangeKind → ℕ → Bool
answers_old Cmpxchg code = true
answers_old kind code = fetches code

abbrev pub atomics : Machine → Insn → Size → Option (ℕ × Operation)
atomics m i size =
    change_of m.registers i size >>= λ x.
    accesses m.maps (register m.registers i.dst) i.offset size (λ key a. map.Atomic key a x (answers_old x.kind (cast_unsigned w64 i.imm)))

-- the operation of an instruction whose step has a case, if it is one on a map
abbrev pub operation_as : Machine → Insn → Op → Option (ℕ × Operation)
operation_as m i (Load size) = accesses m.maps (register m.registers i.src) i.offset size (λ key a. map.Load key)
operation_as m i (LoadSigned size) = accesses m.maps (register m.registers i.src) i.offset size (λ key a. map.Load key)
operation_as m i (StoreImm size) = stores m (register m.registers i.dst) i.offset size (Number (cast_unsigned w64 i.imm))
operation_as m i (Store size) = stores m (register m.registers i.dst) i.offset size (register m.registers i.src)
operation_as m i (Atomic size) = atomics m i size
operation_as m i Call = calls_on (helper_of i.imm) m
operation_as m i op = None

abbrev pub operation_at : Code → Machine → Option (ℕ × Operation)
operation_at code m = insn_at code.insns m.place >>= λ i. operation_as m i i.op

-- the maps after an operation, if there is one
abbrev pub after : Option (ℕ × Operation) → MapState → MapState
after None maps = maps
after (Some (q, op)) maps = operated maps q op

-- ---- what is touched

-- the resources that are read and written, and how many operations wrote
pub record Touched : Type 0 where
  pub reads : List Resource
  pub writes : List Resource
  pub writing : ℕ

abbrev pub nothing : Touched
nothing = record { reads = []; writes = []; writing = 0 }

abbrev pub both : Touched → Touched → Touched
both a b = record { reads = a.reads ++ b.reads; writes = a.writes ++ b.writes; writing = a.writing + b.writing }

-- an operation that writes nothing is none that writes
abbrev pub counted : List Resource → ℕ
counted [] = 0
counted (r ∷ rs) = 1

abbrev pub touched_by : MapState → Option (ℕ × Operation) → Touched
touched_by maps None = nothing
touched_by maps (Some (q, op)) = record { reads = reads maps q op; writes = writes maps q op; writing = counted (writes maps q op) }

-- by a step that has a case
abbrev pub touched_at : Code → Machine → Touched
touched_at code m = touched_by m.maps (operation_at code m)

-- what a step that leads on touched, and what follows
abbrev pub and_then : Touched → (Machine → Touched) → Outcome → Touched
and_then t more (Goes next) = both t (more next)
and_then t more (Ends verdict) = nothing
and_then t more NoCase = nothing

-- what so many steps touch, or fewer where the run ends or is stuck before
unfoldable pub touched : Code → ℕ → Machine → Touched
touched code zero m = nothing
touched code (suc n) m = and_then (touched_at code m) (touched code n) (step code m)

-- The packet run comes to this end, and touches this.
abbrev pub Touches : Code → PacketIn → MapState → Leaves → Touched → Type 0
Touches code packet maps e t = (n : ℕ) × (run code n (start packet maps) ≡ Ended e) × (touched code n (start packet maps) ≡ t)

-- The runs of a capture touch this, packet by packet.
abbrev pub AllTouch : Code → MapState → List PacketIn → List Touched → Type 0
AllTouch code maps [] [] = Unit {0}
AllTouch code maps [] (t ∷ ts) = ⊥
AllTouch code maps (packet ∷ packets) [] = ⊥
AllTouch code maps (packet ∷ packets) (t ∷ ts) = (e : Leaves) × Touches code packet maps e t × AllTouch code e.maps packets ts
