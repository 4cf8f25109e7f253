-- What a chain of types leads to. A step leaves a modifier (TYPEDEF, VOLATILE, CONST, RESTRICT, TYPE_TAG) or an ARRAY;
-- 32 steps are allowed, which lead through 33 types.
use Rattle.std.specs.Prelude.{ℕ, zero, suc, ◌*◌, ◌-◌, ◌^◌, min, List, Result, Ok, Err}
use Rattle.btf_view.specs.Shapes.{shape_of}
use Rattle.btf_view.specs.declared.shape.Shape.{Shape}
use Rattle.btf_view.specs.declared.shape.Shape.TheVariants.{Variable, Structure, Pointer, ArrayOf, Modifier, Sized, Unsized}
use Rattle.btf_view.specs.declared.error.BtfError.{BtfError}
use Rattle.btf_view.specs.declared.error.BtfError.TheVariants.{Depth, Field}

abbrev pub most_types : ℕ
most_types = 33

-- the value, if there is one, by a function
abbrev pub map_ok : {A B : Type 0} → (A → B) → Result A BtfError → Result B BtfError
map_ok f (Ok x) = Ok (f x)
map_ok f (Err e) = Err e

-- ---- what is left where all modifiers are left

abbrev pub unmodified_by : (ℕ → Result Shape BtfError) → Shape → Result Shape BtfError
unmodified_by rest (Modifier id) = rest id
unmodified_by rest shape = Ok shape

-- type `id` without its modifiers, where so many types may be looked at
unfoldable pub unmodified : List ℕ → ℕ → ℕ → Result Shape BtfError
unmodified types zero id = Err Depth
unmodified types (suc n) id = unmodified_by (unmodified types n) (shape_of types id)

-- ---- sizes

abbrev pub size_by : ℕ → (ℕ → Result ℕ BtfError) → Shape → Result ℕ BtfError
size_by member rest (Sized size) = Ok size
size_by member rest (Structure members count size) = Ok size
size_by member rest (Pointer id) = Ok 8
size_by member rest (ArrayOf id count) = map_ok (λ size. count * size) (rest id)
size_by member rest (Modifier id) = rest id
size_by member rest (Variable id) = Err (Field member)
size_by member rest Unsized = Err (Field member)

-- the size of type `id`, asked for by a member, where so many types may be looked at
unfoldable pub size_of : List ℕ → (member : ℕ) → ℕ → ℕ → Result ℕ BtfError
size_of types member zero id = Err Depth
size_of types member (suc n) id = size_by member (size_of types member n) (shape_of types id)

-- a size above the greatest number of 32 bits counts as that number
abbrev pub capped : ℕ → ℕ
capped size = min size (2 ^ 32 - 1)
