-- Which bytes are BTF that is read, and the first error of others: the rules in their order.
use Rattle.std.specs.Prelude.{ℕ, ◌+◌, ◌^◌, ◌==◌, ◌≡◌, ◌<◌, nat_lt, Bool, ◌&&◌, ◌||◌, is_none, if◌then◌else◌, List, [], ◌∷◌, length, Option, Some, None, Result, Ok, Err}
use Rattle.std.specs.Option.{option_or}
use Rattle.btf_view.specs.File.{hdr_len, magic, parts_of, str_len, str_off, type_len, type_off, version}
use Rattle.btf_view.specs.Types.{first_of_types, kind_at, record_size}
use Rattle.btf_view.specs.declared.error.BtfError.{BtfError}
use Rattle.btf_view.specs.declared.error.BtfError.TheVariants.{Short, Magic, Kind}

-- the least header is whole: 24 bytes
unfoldable pub short_header : List ℕ → Option BtfError
short_header bytes = if nat_lt (length bytes) 24 then Some Short else None

-- the magic number, lowest byte first, and version 1
unfoldable pub wrong_magic : List ℕ → Option BtfError
wrong_magic bytes = if (magic bytes == 0xeb9f) && (version bytes == 1) then None else Some Magic

-- a part ends after the bytes
abbrev pub is_outside : List ℕ → (off len : ℕ) → Bool
is_outside bytes off len = nat_lt (length bytes) (hdr_len bytes + off + len)

-- the header is no shorter than the least one, and both parts stand in the bytes
unfoldable pub short_parts : List ℕ → Option BtfError
short_parts bytes =
    if nat_lt (hdr_len bytes) 24 || is_outside bytes (type_off bytes) (type_len bytes)
    || is_outside bytes (str_off bytes) (str_len bytes)
    then Some Short
    else None

-- the record of type `id`, at a place, is whole; it has a kind; its data is whole
unfoldable pub type_fault : List ℕ → (id at : ℕ) → Option BtfError
type_fault types id at =
    if nat_lt (length types) (at + 12) then Some Short
    else if is_none (kind_at types at) then Some (Kind id)
    else if nat_lt (length types) (at + record_size types at) then Some Short
    else None

-- the first fault of a type, in ascending order
abbrev pub types_fault : List ℕ → Option BtfError
types_fault types = first_of_types types (type_fault types)

-- the first of the errors that are there
abbrev pub first_of : List (Option BtfError) → Option BtfError
first_of [] = None
first_of (r ∷ rs) = option_or r (first_of rs)

-- the first error of bytes, if they have one
unfoldable pub first_error : List ℕ → Option BtfError
first_error bytes =
    first_of (short_header bytes ∷ wrong_magic bytes ∷ short_parts bytes ∷ types_fault (parts_of bytes).types ∷ [])

-- a call failed with this error, or did not fail and there is none
abbrev pub FailsAs : {T : Type 0} → Result T BtfError → Option BtfError → Type 0
FailsAs (Ok x) error = error ≡ None
FailsAs (Err e) error = error ≡ Some e

-- each type is whole and of a kind, and 32 bits number the bytes
pub record AreWhole (types : List ℕ) : Type 0 where
  pub small : length types < 2 ^ 32
  pub no_fault : types_fault types ≡ None
