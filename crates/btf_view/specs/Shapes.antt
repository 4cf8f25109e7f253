-- Types by what the definition of a map asks of them (Documentation/bpf/btf.rst, "Type Encoding").
use Rattle.std.specs.Prelude.{ℕ, ◌+◌, ◌*◌, ◌≤◌, List, length, Option, Some}
use Rattle.std.specs.Option.{option_map_or}
use Rattle.btf_view.specs.Numbers.{u32_at}
use Rattle.btf_view.specs.Types.{kind_at, place_of, size_or_type_at, vlen_at}
use Rattle.btf_view.specs.declared.kind.TypeKind.{TypeKind}
use Rattle.btf_view.specs.declared.kind.TypeKind.TheVariants.{Int, Ptr, Array, Struct, Union, Enum, Typedef, Volatile, Const, Restrict, Var, Datasec, Float, TypeTag, Enum64}
use Rattle.btf_view.specs.declared.shape.Shape.{Shape}
use Rattle.btf_view.specs.declared.shape.Shape.TheVariants.{Variable, Structure, Pointer, ArrayOf, Modifier, Sized, Unsized}

-- the type of a kind at a place
abbrev pub shape_by : List ℕ → ℕ → Option TypeKind → Shape
shape_by types at (Some Var) = Variable (size_or_type_at types at)
shape_by types at (Some Struct) = Structure (at + 12) (vlen_at types at) (size_or_type_at types at)
shape_by types at (Some Ptr) = Pointer (size_or_type_at types at)
shape_by types at (Some Array) = ArrayOf (u32_at types (at + 12)) (u32_at types (at + 20))
shape_by types at (Some Typedef) = Modifier (size_or_type_at types at)
shape_by types at (Some Volatile) = Modifier (size_or_type_at types at)
shape_by types at (Some Const) = Modifier (size_or_type_at types at)
shape_by types at (Some Restrict) = Modifier (size_or_type_at types at)
shape_by types at (Some TypeTag) = Modifier (size_or_type_at types at)
shape_by types at (Some Int) = Sized (size_or_type_at types at)
shape_by types at (Some Union) = Sized (size_or_type_at types at)
shape_by types at (Some Enum) = Sized (size_or_type_at types at)
shape_by types at (Some Float) = Sized (size_or_type_at types at)
shape_by types at (Some Datasec) = Sized (size_or_type_at types at)
shape_by types at (Some Enum64) = Sized (size_or_type_at types at)
shape_by types at _ = Unsized

abbrev pub shape_at : List ℕ → ℕ → Shape
shape_at types at = shape_by types at (kind_at types at)

-- type `id`: void, and a type that is not there, have no size
unfoldable pub shape_of : List ℕ → ℕ → Shape
shape_of types id = option_map_or (shape_at types) (place_of types id) Unsized

-- the members of a STRUCT stand in the type part
abbrev pub HasMembers : List ℕ → Shape → Type 0
HasMembers types (Structure members count size) = members + 12 * count ≤ length types
HasMembers types _ = Unit {0}
