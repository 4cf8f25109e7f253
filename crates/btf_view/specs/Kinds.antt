-- The kinds of types, and what stands after the record of each (Documentation/bpf/btf.rst, "Type Encoding").
use Rattle.std.specs.Prelude.{ℕ, zero, suc, ◌*◌, List, [], ◌∷◌, slice_get, Option, None}
use Rattle.btf_view.specs.declared.kind.TypeKind.{TypeKind}
use Rattle.btf_view.specs.declared.kind.TypeKind.TheVariants.{Int, Ptr, Array, Struct, Union, Enum, Fwd, Typedef, Volatile, Const, Restrict, Func, FuncProto, Var, Datasec, Float, DeclTag, TypeTag, Enum64}

-- the kinds in the order of their numbers, from 1 on
abbrev pub kinds : List TypeKind
kinds =
    Int ∷ Ptr ∷ Array ∷ Struct ∷ Union ∷ Enum ∷ Fwd ∷ Typedef ∷ Volatile ∷ Const ∷ Restrict ∷ Func ∷ FuncProto ∷ Var
    ∷ Datasec ∷ Float ∷ DeclTag ∷ TypeTag ∷ Enum64 ∷ []

-- the kind of a number, if it is that of one
abbrev pub kind_of : ℕ → Option TypeKind
kind_of zero = None
kind_of (suc n) = slice_get kinds n

-- how many bytes stand after the record of a type of this kind: so many for each of its members, values, parameters
-- or variables, of which there are `vlen`
abbrev pub data_size : TypeKind → ℕ → ℕ
data_size Int vlen = 4
data_size Array vlen = 12
data_size Struct vlen = 12 * vlen
data_size Union vlen = 12 * vlen
data_size Enum vlen = 8 * vlen
data_size FuncProto vlen = 8 * vlen
data_size Var vlen = 4
data_size Datasec vlen = 12 * vlen
data_size DeclTag vlen = 4
data_size Enum64 vlen = 12 * vlen
data_size _ vlen = 0
