-- The members of a STRUCT that defines a map, as libbpf reads them: `__uint(name, n)` is a pointer to an array of n,
-- `__type(name, t)` a pointer to t.
use Rattle.std.specs.Prelude.{ℕ, ◌+◌, ◌*◌, ◌==◌, Bool, false, not, is_none, is_some, if◌then◌else◌, List, [], ◌∷◌, codes, find, Option, Some, None, option_and_then, unwrap_or, Result, Ok, Err}
use Rattle.std.specs.Option.{option_map_or, option_or}
use Rattle.std.specs.Result.{result_ok}
use Rattle.btf_view.specs.Names.{is_named, name_at}
use Rattle.btf_view.specs.Numbers.{u32_at}
use Rattle.btf_view.specs.Shapes.{shape_of}
use Rattle.btf_view.specs.Sizes.{capped, map_ok, most_types, size_of}
use Rattle.btf_view.specs.declared.shape.Shape.{Shape}
use Rattle.btf_view.specs.declared.shape.Shape.TheVariants.{Pointer, ArrayOf}
use Rattle.btf_view.specs.declared.name.MemberName.{MemberName}
use Rattle.btf_view.specs.declared.name.MemberName.TheVariants.{MapType, KeySize, ValueSize, MaxEntries, MapFlags, Pinning, Key, Value}
use Rattle.btf_view.specs.declared.fields.MapFields.{MapFields}
use Rattle.btf_view.specs.declared.error.BtfError.{BtfError}
use Rattle.btf_view.specs.declared.error.BtfError.TheVariants.{Short, Field}
use Rattle.list_laws.specs.Firsts.{first_from}

-- `count` members, from a place of the type part on: records of 12 bytes (name, type, offset)
pub record MemberTable : Type 0 where
  pub types : List ℕ
  pub strings : List ℕ
  pub place : ℕ
  pub count : ℕ

-- the name and the type of member i, from 0 on
abbrev pub member_name_off : MemberTable → ℕ → ℕ
member_name_off m i = u32_at m.types (m.place + 12 * i)

abbrev pub member_type : MemberTable → ℕ → ℕ
member_type m i = u32_at m.types (m.place + 12 * i + 4)

-- ---- the names that members may have

abbrev pub text_of : MemberName → List ℕ
text_of MapType = codes "type"
text_of KeySize = codes "key_size"
text_of ValueSize = codes "value_size"
text_of MaxEntries = codes "max_entries"
text_of MapFlags = codes "map_flags"
text_of Pinning = codes "pinning"
text_of Key = codes "key"
text_of Value = codes "value"

abbrev pub member_names : List MemberName
member_names = MapType ∷ KeySize ∷ ValueSize ∷ MaxEntries ∷ MapFlags ∷ Pinning ∷ Key ∷ Value ∷ []

-- the one that begins at a place of the string part
unfoldable pub member_name_at : List ℕ → ℕ → Option MemberName
member_name_at strings at = find (λ name. is_named strings at (text_of name)) member_names

-- the name of the member that says the same number by other means
abbrev pub counterpart : MemberName → Option MemberName
counterpart Key = Some KeySize
counterpart KeySize = Some Key
counterpart Value = Some ValueSize
counterpart ValueSize = Some Value
counterpart _ = None

-- ---- the numbers that members say

-- the count of an array
abbrev pub count_of : ℕ → Shape → Result ℕ BtfError
count_of member (ArrayOf id count) = Ok count
count_of member _ = Err (Field member)

-- what a pointer to type `id` says: for `key` and `value` the size of that type, else the count of the array that it is
abbrev pub pointed : List ℕ → ℕ → MemberName → ℕ → Result ℕ BtfError
pointed types member Key id = map_ok capped (size_of types member most_types id)
pointed types member Value id = map_ok capped (size_of types member most_types id)
pointed types member _ id = count_of member (shape_of types id)

abbrev pub number_by : List ℕ → ℕ → MemberName → Shape → Result ℕ BtfError
number_by types member name (Pointer id) = pointed types member name id
number_by types member name _ = Err (Field member)

-- the number that member i says, by its name. Errors count members from 1 on
unfoldable pub number_at : MemberTable → ℕ → MemberName → Result ℕ BtfError
number_at m i name = number_by m.types (i + 1) name (shape_of m.types (member_type m i))

abbrev pub named : MemberTable → MemberName → ℕ → Option ℕ
named m name i = if is_named m.strings (member_name_off m i) (text_of name) then Some i else None

-- the first member of a name in front of member i
unfoldable pub member_before : MemberTable → ℕ → MemberName → Option ℕ
member_before m i name = first_from (named m name) 0 i

-- the number that it says
unfoldable pub number_before : MemberTable → ℕ → MemberName → Option ℕ
number_before m i name = option_and_then (λ k. result_ok (number_at m k name)) (member_before m i name)

-- ---- the first fault

-- the counterpart, if it is there, says another number
abbrev pub differs : MemberTable → ℕ → MemberName → ℕ → Bool
differs m i name n =
    option_map_or (λ k. not (k == n)) (option_and_then (number_before m i) (counterpart name)) false

abbrev pub number_fault : MemberTable → ℕ → MemberName → Result ℕ BtfError → Option BtfError
number_fault m i name (Ok n) = if differs m i name n then Some (Field (i + 1)) else None
number_fault m i name (Err e) = Some e

abbrev pub named_fault : MemberTable → ℕ → Option MemberName → Option BtfError
named_fault m i None = Some (Field (i + 1))
named_fault m i (Some name) =
    if is_some (member_before m i name) then Some (Field (i + 1)) else number_fault m i name (number_at m i name)

-- the fault of member i: its name cannot be read, is another, or stood before; it says no number; it says another
-- number than its counterpart
unfoldable pub member_fault : MemberTable → ℕ → Option BtfError
member_fault m i =
    if is_none (name_at m.strings (member_name_off m i)) then Some Short
    else named_fault m i (member_name_at m.strings (member_name_off m i))

unfoldable pub members_fault : MemberTable → Option BtfError
members_fault m = first_from (member_fault m) 0 m.count

-- ---- the fields

-- what the members say by a name
abbrev pub said : MemberTable → MemberName → Option ℕ
said m name = number_before m m.count name

-- a number that no member says is 0, but the type of the map is none then. `pinning` is for the loader alone
unfoldable pub fields_of : MemberTable → MapFields
fields_of m = record {
  kind = said m MapType;
  key = unwrap_or (option_or (said m Key) (said m KeySize)) 0;
  value = unwrap_or (option_or (said m Value) (said m ValueSize)) 0;
  cap = unwrap_or (said m MaxEntries) 0;
  flags = unwrap_or (said m MapFlags) 0;
}
