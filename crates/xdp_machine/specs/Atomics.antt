-- Atomic changes of a number in an entry: RFC 9669, section 5.3.
use Rattle.std.specs.Prelude.{List, ℕ, ℤ, ◌-◌, ◌%◌, ◌+ℤ◌, ◌==◌, Bool, true, false, if◌then◌else◌, Option, Some, None, slice_get}
use Rattle.bpf_isa.specs.declared.operation.Size.{Size}
use Rattle.bpf_isa.specs.declared.operation.Size.TheVariants.{W, Dw}
use Rattle.bpf_isa.specs.declared.instruction.Insn.{Insn}
use Rattle.std.specs.Int.{w64, cast_unsigned}
use Rattle.xdp_maps.specs.declared.change.ChangeKind.{ChangeKind}
use Rattle.xdp_maps.specs.declared.change.ChangeKind.TheVariants.{Add, Or, And, Xor, Xchg, Cmpxchg}
use Rattle.xdp_maps.specs.declared.change.Change.{Change}
use Rattle.xdp_maps.specs.State.{MapState, contents_at, with_contents}
use Rattle.xdp_maps.specs.Calls.{number_before, changed}
use Rattle.xdp_machine.specs.Values.{Value, Number, Entry, number_in, ◌>>=◌}
use Rattle.xdp_machine.specs.State.{Machine, register, put, with_registers}
use Rattle.xdp_machine.specs.Memory.{bytes_in, aligned}

-- FETCH, which is added to the other codes
abbrev pub fetches : ℕ → Bool
fetches code = code % 2 == 1

abbrev pub kind_of : ℕ → Option ChangeKind
kind_of code =
    if code - code % 2 == 0x00 then Some Add else
    if code - code % 2 == 0x40 then Some Or else
    if code - code % 2 == 0x50 then Some And else
    if code - code % 2 == 0xa0 then Some Xor else
    if code - code % 2 == 0xe0 then Some Xchg else
    if code - code % 2 == 0xf0 then Some Cmpxchg else
    None

-- whether four or eight bytes are changed
abbrev pub wide_of : Size → Option Bool
wide_of W = Some false
wide_of Dw = Some true
wide_of size = None

-- what CMPXCHG compares with: R0
abbrev pub comparand : List Value → ChangeKind → Option ℕ
comparand registers Cmpxchg = number_in (register registers 0)
comparand registers kind = Some 0

-- the change that an instruction makes
abbrev pub change_of : List Value → Insn → Size → Option Change
change_of registers i size =
    wide_of size >>= λ wide.
    kind_of (cast_unsigned w64 i.imm) >>= λ kind.
    number_in (register registers i.src) >>= λ source.
    comparand registers kind >>= λ compare.
    Some (record { kind = kind; wide = wide; source = source; compare = compare })

-- where the old number goes: with FETCH into the source, for CMPXCHG into R0
abbrev pub taking : List Value → ChangeKind → Insn → ℕ → Option (List Value)
taking registers Cmpxchg i old = put registers 0 (Number old)
taking registers kind i old = if fetches (cast_unsigned w64 i.imm) then put registers i.src (Number old) else Some registers

-- a change of a number at a place in an entry: the number that it finds, and the maps after it
abbrev pub changed_entry : MapState → ℕ → List ℕ → ℤ → Size → Change → Option (ℕ × MapState)
changed_entry maps q key o size x =
    slice_get maps.decls q >>= λ d.
    aligned o (bytes_in size) d.value >>= λ a.
    number_before (contents_at maps q) key a x >>= λ old.
    Some (old, with_contents maps q (changed (contents_at maps q) key a x))

-- the machine after a change at an offset from a pointer
abbrev pub changed_at : Machine → Insn → Size → Value → ℤ → Change → Option Machine
changed_at m i size (Entry q key o) offset x =
    changed_entry m.maps q key (o +ℤ offset) size x >>= λ found.
    with_registers (record m { maps = found.1 }) (taking m.registers x.kind i found.0)
changed_at m i size base offset x = None

abbrev pub atomic : Machine → Insn → Size → Option Machine
atomic m i size = change_of m.registers i size >>= changed_at m i size (register m.registers i.dst) i.offset
