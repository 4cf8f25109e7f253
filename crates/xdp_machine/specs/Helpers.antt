-- Calls of helpers (bpf-helpers(7)): what each does to the machine, and its operation on a map.
use Rattle.std.specs.Prelude.{ℕ, zero, suc, pos, ◌+◌, ◌/◌, ◌%◌, ◌^◌, ◌+ℤ◌, if◌then◌else◌, is_some, Option, Some, None, List, [], ◌∷◌, length, drop, get_or, slice_get, slice_index, slice_range}
use Rattle.std.specs.Int.{w64, cast_unsigned}
use Rattle.byteorder.specs.Endian.{little_bytes}
use Rattle.bpf_isa.specs.declared.helper.Helper.{Helper}
use Rattle.bpf_isa.specs.declared.helper.Helper.TheVariants.{Lookup, Update, Delete, Time, Redirect}
use Rattle.xdp_maps.specs.declared.decl.MapDecl.{MapDecl}
use Rattle.xdp_maps.specs.Contents.{Contents}
use Rattle.xdp_maps.specs.State.{contents_at, with_contents}
use Rattle.xdp_maps.specs.Calls.{lookup_of, update_number, updated, delete_number, deleted}
use Rattle.xdp_maps.specs.Operations as map
use Rattle.xdp_maps.specs.Operations.{Operation}
use Rattle.xdp_machine.specs.Values.{Value, Unset, Number, Packet, Stack, Entry, number_in, map_in, ◌>>=◌}
use Rattle.xdp_machine.specs.State.{Machine, register}
use Rattle.xdp_machine.specs.Memory.{inside}

-- a byte of the stack, from its lowest: a slot with a pointer has none
abbrev pub stack_byte : List Value → ℕ → Option ℕ
stack_byte stack a = number_in (get_or stack (a / 8) Unset) >>= λ n. Some (slice_index (little_bytes 8 n) (a % 8))

-- n bytes of the stack from a place on
abbrev pub stack_bytes : List Value → ℕ → ℕ → Option (List ℕ)
stack_bytes stack a zero = Some []
stack_bytes stack a (suc n) = stack_byte stack a >>= λ b. stack_bytes stack (suc a) n >>= λ bs. Some (b ∷ bs)

-- the n bytes that a pointer leads to
abbrev pub region : List Value → List ℕ → ℕ → Value → Option (List ℕ)
region stack frame n (Packet o) = inside o n (length frame) >>= λ a. Some (slice_range frame a (a + n))
region stack frame n (Stack o) = inside (o +ℤ pos 512) n 512 >>= λ a. stack_bytes stack a n
region stack frame n v = None

-- the answer is in R0, and R1 to R5 hold nothing any more
abbrev pub answering : Value → Machine → Machine
answering v m = record m { registers = v ∷ Unset ∷ Unset ∷ Unset ∷ Unset ∷ Unset ∷ drop 6 m.registers }

-- the answer of a lookup: the entry, or null
abbrev pub entry_or_null : ℕ → List ℕ → Contents → Value
entry_or_null q key c = if is_some (lookup_of c key) then Entry q key (pos 0) else Number 0

-- lookup(map, key)
abbrev pub lookup : Machine → Option Machine
lookup m =
    map_in (register m.registers 1) >>= λ q.
    slice_get m.maps.decls q >>= λ d.
    region m.stack m.frame d.key (register m.registers 2) >>= λ key.
    Some (answering (entry_or_null q key (contents_at m.maps q)) m)

-- update(map, key, value, flags)
abbrev pub update : Machine → Option Machine
update m =
    map_in (register m.registers 1) >>= λ q.
    slice_get m.maps.decls q >>= λ d.
    region m.stack m.frame d.key (register m.registers 2) >>= λ key.
    region m.stack m.frame d.value (register m.registers 3) >>= λ value.
    number_in (register m.registers 4) >>= λ flags.
    let c = contents_at m.maps q in
    Some (answering (Number (cast_unsigned w64 (update_number d c key flags))) (record m { maps = with_contents m.maps q (updated d c key value flags) }))

-- delete(map, key)
abbrev pub delete : Machine → Option Machine
delete m =
    map_in (register m.registers 1) >>= λ q.
    slice_get m.maps.decls q >>= λ d.
    region m.stack m.frame d.key (register m.registers 2) >>= λ key.
    let c = contents_at m.maps q in
    Some (answering (Number (cast_unsigned w64 (delete_number d c key))) (record m { maps = with_contents m.maps q (deleted d c key) }))

-- redirect(ifindex, flags): XDP_REDIRECT where the flags are 0, else XDP_ABORTED
abbrev pub redirected : ℕ → ℕ → Machine → Machine
redirected ifindex zero m = answering (Number 4) (record m { target = ifindex % 2 ^ 32 })
redirected ifindex (suc flags) m = answering (Number 0) m

abbrev pub redirect : Machine → Option Machine
redirect m = number_in (register m.registers 1) >>= λ ifindex. number_in (register m.registers 2) >>= λ flags. Some (redirected ifindex flags m)

-- ktime_get_ns(): the time of the packet's capture, in place of that since the system started
abbrev pub packet_time : Machine → Option Machine
packet_time m = Some (answering (Number m.time) m)

-- a call of a helper, if it is one that the machine has
abbrev pub called : Option Helper → Machine → Option Machine
called (Some Lookup) m = lookup m
called (Some Update) m = update m
called (Some Delete) m = delete m
called (Some Time) m = packet_time m
called (Some Redirect) m = redirect m
called None m = None

-- ---- the operation of a call on the map in R1, under the key that R2 leads to

abbrev pub under_key : Machine → (MapDecl → List ℕ → Option Operation) → Option (ℕ × Operation)
under_key m f =
    map_in (register m.registers 1) >>= λ q.
    slice_get m.maps.decls q >>= λ d.
    region m.stack m.frame d.key (register m.registers 2) >>= λ key.
    f d key >>= λ op.
    Some (q, op)

abbrev pub updates : Machine → MapDecl → List ℕ → Option Operation
updates m d key =
    region m.stack m.frame d.value (register m.registers 3) >>= λ value.
    number_in (register m.registers 4) >>= λ flags.
    Some (map.Update key value flags)

abbrev pub calls_on : Option Helper → Machine → Option (ℕ × Operation)
calls_on (Some Lookup) m = under_key m (λ d key. Some (map.Lookup key))
calls_on (Some Update) m = under_key m (updates m)
calls_on (Some Delete) m = under_key m (λ d key. Some (map.Delete key))
calls_on (Some Time) m = None
calls_on (Some Redirect) m = None
calls_on None m = None
