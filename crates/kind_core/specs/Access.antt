-- Loads, stores and atomic changes: RFC 9669, sections 5.1 to 5.3.
use Rattle.std.specs.Prelude.{ℕ, ℤ, pos, ◌-◌, ◌*◌, ◌/◌, ◌%◌, ◌==◌, Bool, true, false, if◌then◌else◌, Result, Ok, Err, List, get_or}
use Rattle.std.specs.Ordering.{int_eq}
use Rattle.std.specs.Int.{w64, cast_unsigned}
use Rattle.xdp_machine.specs.bpf_isa.declared.operation.Size.{Size}
use Rattle.xdp_machine.specs.bpf_isa.declared.operation.Size.TheVariants.{W, Dw}
use Rattle.xdp_machine.specs.bpf_isa.declared.operation.Width.TheVariants.{Bits64}
use Rattle.xdp_machine.specs.bpf_isa.declared.instruction.Insn.{Insn}
use Rattle.xdp_machine.specs.xdp_maps.declared.decl.MapDecl.{MapDecl}
use Rattle.xdp_machine.specs.Memory.{bytes_in}
use Rattle.xdp_machine.specs.Atomics.{fetches}
use Rattle.kind_core.specs.declared.number.Number.{Number}
use Rattle.kind_core.specs.declared.number.Number.TheVariants.{Known}
use Rattle.kind_core.specs.declared.kind.Kind.{Kind}
use Rattle.kind_core.specs.declared.kind.Kind.TheVariants.{Unset, Num, Packet, End, Ctx, Mixed}
use Rattle.kind_core.specs.declared.kind.Kinds.{Kinds}
use Rattle.kind_core.specs.declared.places.Place.{Place}
use Rattle.kind_core.specs.declared.places.Place.TheVariants.{InPacket, InStack, InEntry}
use Rattle.kind_core.specs.declared.effects.Effect.{Effect}
use Rattle.kind_core.specs.declared.effects.Effect.TheVariants.{Nothing, Register, Slot}
use Rattle.xdp_state.specs.declared.refusal.Why.{Why}
use Rattle.xdp_state.specs.declared.refusal.Why.TheVariants as why
use Rattle.kind_core.specs.NumberBounds.{any_number}
use Rattle.kind_core.specs.Numbers.{any_bytes, number_part, number_patched, number_extended}
use Rattle.kind_core.specs.Kinds.{register}
use Rattle.kind_core.specs.Tests.{◌>>=◌, Test, passed, readable, number_in}
use Rattle.kind_core.specs.Places.{accessed}

-- loads

-- the fields of the context: data, data_end, ingress_ifindex and rx_queue_index
abbrev pub context_field : ℤ → Result Kind Why
context_field offset =
    if int_eq offset (pos 0) then Ok (Packet 0) else
    if int_eq offset (pos 4) then Ok End else
    if int_eq offset (pos 12) then Ok (Num (any_number 32)) else
    if int_eq offset (pos 16) then Ok (Num (any_number 32)) else
    Err why.Offset

-- a pointer in a slot is read whole, and of a number any part
abbrev pub from_slot : Size → ℕ → Kind → Result Kind Why
from_slot Dw a k = Ok k
from_slot size a k = number_in k >>= λ n. Ok (Num (number_part size a n))

-- what a load finds at a place: numbers of the packet and of entries are not known
abbrev pub found : List Kind → Size → Place → Result Kind Why
found slots size InPacket = Ok (Num (any_bytes size))
found slots size (InStack a) = readable (get_or slots (a / 8) Unset) >>= λ _. from_slot size (a % 8) (get_or slots (a / 8) Unset)
found slots size InEntry = Ok (Num (any_bytes size))

unfoldable pub loaded : List MapDecl → Kinds → Kind → ℤ → Size → Result Kind Why
loaded decls k base offset size = accessed decls k.checked base offset size >>= λ place. found k.slots size place

-- the context has fields of four bytes
abbrev pub is_context : Kind → Bool
is_context Ctx = true
is_context k = false

abbrev pub from_context : ℤ → Size → Result Kind Why
from_context offset W = context_field offset
from_context offset size = Err why.Offset

-- MEM
unfoldable pub loaded_plain : List MapDecl → Kinds → Kind → ℤ → Size → Result Kind Why
loaded_plain decls k base offset size = if is_context base then from_context offset size else loaded decls k base offset size

-- MEMSX: the sign is extended to 64 bits
unfoldable pub loaded_signed : List MapDecl → Kinds → Kind → ℤ → Size → Result Kind Why
loaded_signed decls k base offset size = if is_context base then Err why.Offset else
    (loaded decls k base offset size >>= λ x. number_in x >>= λ n. Ok (Num (number_extended Bits64 (8 * bytes_in size) n)))

-- stores

-- what a part of a slot is stored into: of a pointer zeros are left
abbrev pub underlying : Kind → Result Number Why
underlying Mixed = Err why.Mixed
underlying (Num n) = Ok n
underlying Unset = Ok (any_number 64)
underlying k = Ok (Known 0)

-- a slot takes any kind whole, and of a number a part
abbrev pub to_slot : Size → ℕ → Kind → Kind → Result Kind Why
to_slot Dw a old x = Ok x
to_slot size a old x = number_in x >>= λ n. underlying old >>= λ m. Ok (Num (number_patched size a m n))

abbrev pub stored_at : List Kind → Size → Kind → Place → Result Effect Why
stored_at slots size x InPacket = number_in x >>= λ _. Ok Nothing
stored_at slots size x (InStack a) = to_slot size (a % 8) (get_or slots (a / 8) Unset) x >>= λ y. Ok (Slot (a / 8) y)
stored_at slots size x InEntry = number_in x >>= λ _. Ok Nothing

unfoldable pub stored : List MapDecl → Kinds → Kind → ℤ → Size → Kind → Result Effect Why
stored decls k base offset size x = accessed decls k.checked base offset size >>= λ place. stored_at k.slots size x place

-- atomic changes

-- CMPXCHG, which compares with R0
abbrev pub compares : Insn → Bool
compares i = cast_unsigned w64 i.imm - cast_unsigned w64 i.imm % 2 == 0xf0

-- what is compared with is a number
abbrev pub comparand : Insn → Kinds → Test
comparand i k = if compares i then (number_in (register k 0) >>= λ _. passed) else passed

-- where the old number goes: of CMPXCHG into R0, with FETCH into the source
abbrev pub taking : Insn → Effect
taking i =
    if compares i then Register 0 (Num (any_number 64)) else
    if fetches (cast_unsigned w64 i.imm) then Register i.src (Num (any_number 64)) else
    Nothing

-- only entries are changed so
abbrev pub changed_at : Kinds → Insn → Place → Result Effect Why
changed_at k i InPacket = Err why.Instruction
changed_at k i (InStack a) = Err why.Instruction
changed_at k i InEntry = number_in (register k i.src) >>= λ _. comparand i k >>= λ _. Ok (taking i)

abbrev pub atomic : List MapDecl → Kinds → Insn → Size → Result Effect Why
atomic decls k i size = accessed decls k.checked (register k i.dst) i.offset size >>= λ place. changed_at k i place
