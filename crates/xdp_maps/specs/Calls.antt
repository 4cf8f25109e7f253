-- What the helpers and the accesses to an entry do to the contents of their map (bpf-helpers(7), bpf(2);
-- RFC 9669, section 5.3). Keys and values have the lengths that the map declares.
use Rattle.std.specs.Prelude.{ℕ, ℤ, pos, ◌+◌, ◌%◌, ◌^◌, ◌==◌, nat_lt, nat_le, Bool, true, false, not, ◌&&◌, if◌then◌else◌, List, ◌++◌, length, take, drop, slice_range, slice_get, Option, Some, None, bit_and, bit_or, bit_xor}
use Rattle.std.specs.Option.{option_map}
use Rattle.std.specs.FinMap as map
use Rattle.byteorder.specs.Endian.{little_number, little_bytes}
use Rattle.xdp_maps.specs.declared.change.ChangeKind.{ChangeKind}
use Rattle.xdp_maps.specs.declared.change.ChangeKind.TheVariants.{Add, Or, And, Xor, Xchg, Cmpxchg}
use Rattle.xdp_maps.specs.declared.change.Change.{Change}
use Rattle.xdp_maps.specs.declared.decl.MapKind.{MapKind}
use Rattle.xdp_maps.specs.declared.decl.MapKind.TheVariants.{Hash, Array}
use Rattle.xdp_maps.specs.declared.decl.MapDecl.{MapDecl}
use Rattle.xdp_maps.specs.declared.errno.TheConstants.{ENOENT, E2BIG, EEXIST, EINVAL}
use Rattle.xdp_maps.specs.Contents.{Contents, index_key, index_of}

-- the value under a key, if there is one
abbrev pub lookup_of : Contents → List ℕ → Option (List ℕ)
lookup_of c key = map.get c key

-- Why an update of a hash is refused, the first reason that holds: by its capacity and the number of its
-- keys, whether the key is there, and the flags (BPF_ANY 0, BPF_NOEXIST 1, BPF_EXIST 2).
abbrev pub hash_refusal : ℕ → ℕ → Bool → ℕ → Option ℤ
hash_refusal cap used present flags =
    if nat_lt 2 flags then Some EINVAL else
    if (flags == 1) && present then Some EEXIST else
    if (flags == 2) && not present then Some ENOENT else
    if not present && nat_le cap used then Some E2BIG else
    None

-- and of an array, by its capacity and the index
abbrev pub array_refusal : ℕ → ℕ → ℕ → Option ℤ
array_refusal cap index flags =
    if nat_lt 2 flags then Some EINVAL else
    if nat_le cap index then Some E2BIG else
    if flags == 1 then Some EEXIST else
    None

abbrev pub update_error_as : MapKind → MapDecl → Contents → List ℕ → ℕ → Option ℤ
update_error_as Hash d c key flags = hash_refusal d.cap (map.len c) (map.contains_key c key) flags
update_error_as Array d c key flags = array_refusal d.cap (index_of key) flags

abbrev pub update_error : MapDecl → Contents → List ℕ → ℕ → Option ℤ
update_error d c key flags = update_error_as d.kind d c key flags

-- why a delete is refused
abbrev pub delete_error_as : MapKind → Contents → List ℕ → Option ℤ
delete_error_as Hash c key = if map.contains_key c key then None else Some ENOENT
delete_error_as Array c key = Some EINVAL

abbrev pub delete_error : MapDecl → Contents → List ℕ → Option ℤ
delete_error d c key = delete_error_as d.kind c key

-- the number that a helper answers: 0, or its error
abbrev pub number_of : Option ℤ → ℤ
number_of None = pos 0
number_of (Some e) = e

-- what a helper leaves: what it found, where it refuses
abbrev pub unless : {A : Type 0} → Option ℤ → A → A → A
unless None old new = new
unless (Some e) old new = old

abbrev pub update_number : MapDecl → Contents → List ℕ → ℕ → ℤ
update_number d c key flags = number_of (update_error d c key flags)

abbrev pub updated : MapDecl → Contents → List ℕ → List ℕ → ℕ → Contents
updated d c key value flags = unless (update_error d c key flags) c (map.insert c key value)

abbrev pub delete_number : MapDecl → Contents → List ℕ → ℤ
delete_number d c key = number_of (delete_error d c key)

abbrev pub deleted : MapDecl → Contents → List ℕ → Contents
deleted d c key = unless (delete_error d c key) c (map.remove c key)

-- a value with bytes written from a place on
abbrev pub patched : List ℕ → ℕ → List ℕ → List ℕ
patched value at bytes = take at value ++ bytes ++ drop (at + length bytes) value

-- the value under a key made anew, where there is one
abbrev pub with_value : Contents → List ℕ → (List ℕ → List ℕ) → Option (List ℕ) → Contents
with_value c key f None = c
with_value c key f (Some v) = map.insert c key (f v)

-- a store of bytes into an entry
abbrev pub stored : Contents → List ℕ → ℕ → List ℕ → Contents
stored c key at bytes = with_value c key (λ v. patched v at bytes) (map.get c key)

-- the bytes of an atomic change's number
abbrev pub change_bytes : Bool → ℕ
change_bytes true = 8
change_bytes false = 4

-- the part of a number that an atomic change sees
abbrev pub part_of : Bool → ℕ → ℕ
part_of true n = n % 2 ^ 64
part_of false n = n % 2 ^ 32

-- the number that an atomic change makes of the old one
abbrev pub result_as : ChangeKind → Bool → ℕ → ℕ → ℕ → ℕ
result_as Add wide old source compare = part_of wide (old + source)
result_as Or wide old source compare = bit_or old source
result_as And wide old source compare = bit_and old source
result_as Xor wide old source compare = bit_xor old source
result_as Xchg wide old source compare = source
result_as Cmpxchg wide old source compare = if old == compare then source else old

abbrev pub change_result : Change → ℕ → ℕ
change_result x old = result_as x.kind x.wide old (part_of x.wide x.source) (part_of x.wide x.compare)

-- the number at a place of a value, the low byte first
abbrev pub number_at : Bool → ℕ → List ℕ → ℕ
number_at wide at value = little_number (change_bytes wide) (slice_range value at (at + change_bytes wide))

-- a value with the number at a place changed
abbrev pub with_change : Change → ℕ → List ℕ → List ℕ
with_change x at value = patched value at (little_bytes (change_bytes x.wide) (change_result x (number_at x.wide at value)))

-- an atomic change of a number in an entry: the number that it finds, and what it leaves
abbrev pub number_before : Contents → List ℕ → ℕ → Change → Option ℕ
number_before c key at x = option_map (number_at x.wide at) (map.get c key)

abbrev pub changed : Contents → List ℕ → ℕ → Change → Contents
changed c key at x = with_value c key (with_change x at) (map.get c key)

-- the pairs of a map by their number: of a hash in the order of its keys' bytes, of an array by index
abbrev pub entry_as : MapKind → Contents → ℕ → Option (List ℕ × List ℕ)
entry_as Hash c i = slice_get (map.entries c) i
entry_as Array c i = option_map (λ v. (index_key i, v)) (map.get c (index_key i))

abbrev pub entry_of : MapDecl → Contents → ℕ → Option (List ℕ × List ℕ)
entry_of d c i = entry_as d.kind c i
