-- A map's declaration by the numbers that an object says of it (bpf(2), "BPF_MAP_CREATE"; `bpf_map_type` of linux/bpf.h).
use Rattle.std.specs.Prelude.{ℕ, ◌==◌, nat_lt, nat_le, min, max, Bool, not, ◌&&◌, ◌||◌, if◌then◌else◌, List, Option, Some, None, Result, Ok, Err}
use Rattle.btf_view.specs.declared.fields.MapFields.{MapFields}
use Rattle.xdp_maps.specs.declared.decl.MapDecl.{MapDecl}
use Rattle.xdp_maps.specs.declared.decl.MapKind.{MapKind}
use Rattle.xdp_maps.specs.declared.decl.MapKind.TheVariants.{Hash, Array}
use Rattle.xdp_object.specs.declared.map_records.fault.MapRule.{MapRule}
use Rattle.xdp_object.specs.declared.map_records.fault.MapRule.TheVariants.{Kind, Key, Value, Entries, Flags, Absent}

-- HASH (1) and PERCPU_HASH (5), ARRAY (2) and PERCPU_ARRAY (6): one pipeline is one processor
abbrev pub map_kind : ℕ → Option MapKind
map_kind n = if (n == 1) || (n == 5) then Some Hash else if (n == 2) || (n == 6) then Some Array else None

-- the key of an array is an index of 4 bytes
abbrev pub key_fits : MapKind → ℕ → Bool
key_fits Hash size = nat_lt 0 size && nat_le size 40
key_fits Array size = size == 4

abbrev pub value_fits : ℕ → Bool
value_fits size = nat_lt 0 size && nat_le size 64

abbrev pub entries_fit : MapKind → ℕ → Bool
entries_fit Hash n = nat_lt 0 n
entries_fit Array n = nat_lt 0 n && nat_le n 65536

-- a hash may be without preallocation (BPF_F_NO_PREALLOC, 1)
abbrev pub flags_fit : MapKind → ℕ → Bool
flags_fit Hash flags = nat_le flags 1
flags_fit Array flags = flags == 0

-- a hash has no more keys than are asked for, from 1 to 1,024
abbrev pub capacity : (hash_cap : ℕ) → MapKind → ℕ → ℕ
capacity hash_cap Hash n = min n (max (min hash_cap 1024) 1)
capacity hash_cap Array n = n

-- the first rule that the numbers of a map of this kind break
abbrev pub broken_rule : MapKind → MapFields → Option MapRule
broken_rule kind f =
    if not (key_fits kind f.key) then Some Key
    else if not (value_fits f.value) then Some Value
    else if not (entries_fit kind f.cap) then Some Entries
    else if not (flags_fit kind f.flags) then Some Flags
    else None

abbrev pub declared_unless : Option MapRule → MapDecl → Result MapDecl MapRule
declared_unless None d = Ok d
declared_unless (Some rule) d = Err rule

abbrev pub declared_as : (hash_cap : ℕ) (name : List ℕ) → MapFields → Option MapKind → Result MapDecl MapRule
declared_as hash_cap name f None = Err Kind
declared_as hash_cap name f (Some kind) =
    declared_unless (broken_rule kind f)
    (record { name = name; kind = kind; key = f.key; value = f.value; cap = capacity hash_cap kind f.cap })

abbrev pub declared_by : (hash_cap : ℕ) (name : List ℕ) → MapFields → Option ℕ → Result MapDecl MapRule
declared_by hash_cap name f None = Err Absent
declared_by hash_cap name f (Some number) = declared_as hash_cap name f (map_kind number)

-- the declaration, or the first rule that the numbers break
abbrev pub declared : (hash_cap : ℕ) (name : List ℕ) → MapFields → Result MapDecl MapRule
declared hash_cap name f = declared_by hash_cap name f f.kind
