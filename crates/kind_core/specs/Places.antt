-- Where an access through a pointer lands.
use Rattle.std.specs.Prelude.{ℕ, ℤ, pos, ◌+◌, ◌<◌, ◌≤◌, ◌+ℤ◌, ◌%◌, nat_le, int_le, if◌then◌else◌, Result, Ok, Err, List}
use Rattle.xdp_machine.specs.bpf_isa.declared.operation.Size.{Size}
use Rattle.xdp_machine.specs.xdp_maps.declared.decl.MapDecl.{MapDecl}
use Rattle.xdp_machine.specs.Memory.{bytes_in}
use Rattle.kind_core.specs.declared.base.Base.{Base}
use Rattle.kind_core.specs.declared.kind.Kind.{Kind}
use Rattle.kind_core.specs.declared.kind.Kind.TheVariants.{Packet, Var, Stack, Maybe, Entry}
use Rattle.kind_core.specs.declared.places.Place.{Place}
use Rattle.kind_core.specs.declared.places.Place.TheVariants.{InPacket, InStack, InEntry}
use Rattle.xdp_state.specs.declared.refusal.Why.{Why}
use Rattle.xdp_state.specs.declared.refusal.Why.TheVariants as why
use Rattle.kind_core.specs.Kinds.{value_bytes}
use Rattle.kind_core.specs.Tests.{◌>>=◌, within, aligned}

-- bytes of the packet: in its first 256, and among those that are checked
abbrev pub in_packet : ℕ → ℤ → ℕ → Result Place Why
in_packet checked z n = within z n 256 >>= λ a. if nat_le (a + n) checked then Ok InPacket else Err why.Unchecked

-- bytes at a distance from a base: in the first 256, wherever the base lies, and among those that are checked
abbrev pub past_base : Base → ℤ → ℕ → Result Place Why
past_base b z n =
    within (pos b.bounds.low +ℤ z) 0 256 >>= λ _.
    within (pos b.bounds.high +ℤ z) n 256 >>= λ _.
    if int_le (z +ℤ pos n) b.checked then Ok InPacket else Err why.Unchecked

-- where an access from its lowest byte on begins in the stack, which is named by its end
abbrev pub in_stack : ℤ → Size → Result Place Why
in_stack z size = aligned (z +ℤ pos 512) (bytes_in size) 512 >>= λ a. Ok (InStack a)

abbrev pub in_value : List MapDecl → ℕ → ℤ → Size → Result Place Why
in_value decls q z size = aligned z (bytes_in size) (value_bytes decls q) >>= λ a. Ok InEntry

-- an access at an offset from a pointer, but for the context
abbrev pub accessed : List MapDecl → ℕ → Kind → ℤ → Size → Result Place Why
accessed decls checked (Packet o) z size = in_packet checked (pos o +ℤ z) (bytes_in size)
accessed decls checked (Var b f) z size = past_base b (f +ℤ z) (bytes_in size)
accessed decls checked (Stack o) z size = in_stack (o +ℤ z) size
accessed decls checked (Entry q o) z size = in_value decls q (pos o +ℤ z) size
accessed decls checked (Maybe q n) z size = Err why.Null
accessed decls checked k z size = Err why.Use

-- an access to the stack lies in one slot
abbrev pub FitsSlot : Size → Place → Type 0
FitsSlot size InPacket = Unit {0}
FitsSlot size (InStack a) = (a < 512) × (a % 8 + bytes_in size ≤ 8)
FitsSlot size InEntry = Unit {0}
