-- Loads and stores: RFC 9669, sections 5.1 to 5.3. Numbers stand in memory with their low byte first.
use Rattle.std.specs.Prelude.{ℕ, ℤ, pos, negsuc, ◌+◌, ◌*◌, ◌/◌, ◌%◌, ◌+ℤ◌, ◌==◌, nat_le, if◌then◌else◌, Option, Some, None, List, length, get_or, is_some, slice_get, slice_set, slice_range}
use Rattle.std.specs.Ordering.{int_eq}
use Rattle.byteorder.specs.Endian.{little_number, little_bytes}
use Rattle.bpf_isa.specs.declared.operation.Size.{Size}
use Rattle.bpf_isa.specs.declared.operation.Size.TheVariants.{B, H, W, Dw}
use Rattle.xdp_maps.specs.State.{MapState, contents_at, with_contents}
use Rattle.xdp_maps.specs.Calls.{lookup_of, patched, stored as entry_stored}
use Rattle.xdp_machine.specs.Values.{Value, Unset, Number, Packet, Stack, Context, Entry, held, number_in, ◌>>=◌}
use Rattle.xdp_machine.specs.State.{Machine}
use Rattle.xdp_machine.specs.Arithmetic.{extended}

abbrev pub bytes_in : Size → ℕ
bytes_in B = 1
bytes_in H = 2
bytes_in W = 4
bytes_in Dw = 8

-- where an access of n bytes begins, if it lies in so many
abbrev pub inside : ℤ → ℕ → ℕ → Option ℕ
inside (pos a) n len = if nat_le (a + n) len then Some a else None
inside (negsuc a) n len = None

-- the same at a multiple of n
abbrev pub aligned : ℤ → ℕ → ℕ → Option ℕ
aligned at n len = inside at n len >>= λ a. if a % n == 0 then Some a else None

-- where an access to the stack begins, from its lowest byte
abbrev pub in_stack : ℤ → ℕ → Option ℕ
in_stack o n = aligned (o +ℤ pos 512) n 512

abbrev pub number_at : Size → ℕ → List ℕ → ℕ
number_at size a bytes = little_number (bytes_in size) (slice_range bytes a (a + bytes_in size))

-- loads

abbrev pub from_frame : List ℕ → ℤ → Size → Option Value
from_frame frame o size = inside o (bytes_in size) (length frame) >>= λ a. Some (Number (number_at size a frame))

-- a pointer in a slot is read whole
abbrev pub from_slot : Size → ℕ → Value → Option Value
from_slot Dw a v = Some v
from_slot size a v = number_in v >>= λ n. Some (Number (number_at size a (little_bytes 8 n)))

abbrev pub from_stack : List Value → ℤ → Size → Option Value
from_stack stack o size = in_stack o (bytes_in size) >>= λ a. from_slot size (a % 8) (get_or stack (a / 8) Unset)

abbrev pub from_entry : MapState → ℕ → List ℕ → ℤ → Size → Option Value
from_entry maps q key o size =
    slice_get maps.decls q >>= λ d.
    aligned o (bytes_in size) d.value >>= λ a.
    lookup_of (contents_at maps q) key >>= λ value.
    Some (Number (number_at size a value))

-- what a load finds at an offset from a pointer
abbrev pub loaded : Machine → Value → ℤ → Size → Option Value
loaded m (Packet o) offset size = from_frame m.frame (o +ℤ offset) size
loaded m (Stack o) offset size = from_stack m.stack (o +ℤ offset) size
loaded m (Entry q key o) offset size = from_entry m.maps q key (o +ℤ offset) size
loaded m base offset size = None

-- and in the context: data, data_end, ingress_ifindex and rx_queue_index
abbrev pub from_context : Machine → ℤ → Option Value
from_context m offset =
    if int_eq offset (pos 0) then Some (Packet (pos 0)) else
    if int_eq offset (pos 4) then Some (Packet (pos (length m.frame))) else
    if int_eq offset (pos 12) then Some (Number m.ifindex) else
    if int_eq offset (pos 16) then Some (Number 0) else
    None

-- MEM
abbrev pub loaded_plain : Machine → Value → ℤ → Size → Option Value
loaded_plain m Context offset W = from_context m offset
loaded_plain m base offset size = loaded m base offset size

-- MEMSX: the sign is extended to 64 bits
abbrev pub loaded_signed : Machine → Value → ℤ → Size → Option Value
loaded_signed m base offset size = loaded m base offset size >>= number_in >>= λ n. Some (Number (extended 64 (8 * bytes_in size) n))

-- stores

abbrev pub to_frame : List ℕ → ℤ → Size → ℕ → Option (List ℕ)
to_frame frame o size n = inside o (bytes_in size) (length frame) >>= λ a. Some (patched frame a (little_bytes (bytes_in size) n))

-- what a part of a slot is stored into: of a pointer nothing is left
abbrev pub underlying : Value → ℕ
underlying (Number n) = n
underlying v = 0

-- a slot takes any value whole, and of a number a part
abbrev pub to_slot : Size → ℕ → Value → Value → Option Value
to_slot Dw a old v = held v
to_slot size a old v = number_in v >>= λ n. Some (Number (little_number 8 (patched (little_bytes 8 (underlying old)) a (little_bytes (bytes_in size) n))))

abbrev pub to_stack : List Value → ℤ → Size → Value → Option (List Value)
to_stack stack o size v =
    in_stack o (bytes_in size) >>= λ a.
    to_slot size (a % 8) (get_or stack (a / 8) Unset) v >>= λ slot.
    Some (slice_set stack (a / 8) slot)

-- a number is stored into the value that is under a key
abbrev pub number_stored : MapState → ℕ → List ℕ → ℕ → Size → ℕ → Option MapState
number_stored maps q key a size n =
    if is_some (lookup_of (contents_at maps q) key)
    then Some (with_contents maps q (entry_stored (contents_at maps q) key a (little_bytes (bytes_in size) n)))
    else None

abbrev pub to_entry : MapState → ℕ → List ℕ → ℤ → Size → ℕ → Option MapState
to_entry maps q key o size n =
    slice_get maps.decls q >>= λ d.
    aligned o (bytes_in size) d.value >>= λ a.
    number_stored maps q key a size n

-- the machine after a store of a value at an offset from a pointer
abbrev pub stored : Machine → Value → ℤ → Size → Value → Option Machine
stored m (Packet o) offset size v = number_in v >>= to_frame m.frame (o +ℤ offset) size >>= λ frame. Some (record m { frame = frame })
stored m (Stack o) offset size v = to_stack m.stack (o +ℤ offset) size v >>= λ stack. Some (record m { stack = stack })
stored m (Entry q key o) offset size v = number_in v >>= to_entry m.maps q key (o +ℤ offset) size >>= λ maps. Some (record m { maps = maps })
stored m base offset size v = None
