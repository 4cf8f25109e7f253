-- The types of a type part, which lie one after the other: a record of 12 bytes (name, info, size or type), and its
-- data after it (Documentation/bpf/btf.rst, "Type Encoding").
use Rattle.std.specs.Prelude.{ℕ, zero, suc, ◌+◌, ◌/◌, ◌%◌, ◌^◌, nat_lt, if◌then◌else◌, List, length, Option, Some, None, option_and_then}
use Rattle.std.specs.Option.{option_map_or}
use Rattle.btf_view.specs.Numbers.{u32_at}
use Rattle.btf_view.specs.Kinds.{data_size, kind_of}
use Rattle.btf_view.specs.declared.kind.TypeKind.{TypeKind}
use Rattle.list_laws.specs.Firsts.{first_from}

-- ---- the type whose record stands at a place

abbrev pub name_off_at : List ℕ → ℕ → ℕ
name_off_at types at = u32_at types at

-- bits 24 to 28 of the second number
unfoldable pub kind_at : List ℕ → ℕ → Option TypeKind
kind_at types at = kind_of (u32_at types (at + 4) / 2 ^ 24 % 32)

-- and its bits 0 to 15
abbrev pub vlen_at : List ℕ → ℕ → ℕ
vlen_at types at = u32_at types (at + 4) % 2 ^ 16

-- the third number, by the kind a size or a type
abbrev pub size_or_type_at : List ℕ → ℕ → ℕ
size_or_type_at types at = u32_at types (at + 8)

unfoldable pub record_size : List ℕ → ℕ → ℕ
record_size types at = 12 + option_map_or (λ kind. data_size kind (vlen_at types at)) (kind_at types at) 0

-- ---- types by their numbers

-- where the records of types 1 to `id` end
unfoldable pub end_of : List ℕ → ℕ → ℕ
end_of types zero = 0
end_of types (suc id) = end_of types id + record_size types (end_of types id)

-- where the record of a type begins, if there is such a type. Type 0 is void, and has none
unfoldable pub place_of : List ℕ → ℕ → Option ℕ
place_of types zero = None
place_of types (suc id) = if nat_lt (end_of types id) (length types) then Some (end_of types id) else None

-- the first answer to a question that is asked of the number and the place of each type, in ascending order. There
-- are no more types than bytes
unfoldable pub first_of_types : {X : Type 0} → List ℕ → (ℕ → ℕ → Option X) → Option X
first_of_types types f = first_from (λ id. option_and_then (f id) (place_of types id)) 1 (length types)
