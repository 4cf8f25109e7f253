-- The definition of a map: a VAR of a STRUCT type, whose members say the fields.
use Rattle.std.specs.Prelude.{ℕ, Option, Some, None, Result, Ok, Err}
use Rattle.btf_view.specs.File.{Parts}
use Rattle.btf_view.specs.Members.{MemberTable, fields_of, members_fault}
use Rattle.btf_view.specs.Shapes.{shape_of}
use Rattle.btf_view.specs.Sizes.{most_types, unmodified}
use Rattle.btf_view.specs.declared.shape.Shape.{Shape}
use Rattle.btf_view.specs.declared.shape.Shape.TheVariants.{Variable, Structure}
use Rattle.btf_view.specs.declared.fields.MapFields.{MapFields}
use Rattle.btf_view.specs.declared.error.BtfError.{BtfError}
use Rattle.btf_view.specs.declared.error.BtfError.TheVariants.{Field}

-- the members of the STRUCT that a type without modifiers is
abbrev pub members_by : Parts → Result Shape BtfError → Result MemberTable BtfError
members_by b (Ok (Structure place count size)) =
    Ok (record { types = b.types; strings = b.strings; place = place; count = count })
members_by b (Ok _) = Err (Field 0)
members_by b (Err e) = Err e

-- those of the type of a VAR
abbrev pub var_members : Parts → Shape → Result MemberTable BtfError
var_members b (Variable id) = members_by b (unmodified b.types most_types id)
var_members b _ = Err (Field 0)

-- the members of the definition of variable `id`
unfoldable pub members_of : Parts → ℕ → Result MemberTable BtfError
members_of b id = var_members b (shape_of b.types id)

abbrev pub checked : Option BtfError → MapFields → Result MapFields BtfError
checked None fields = Ok fields
checked (Some e) fields = Err e

abbrev pub fields_by : Result MemberTable BtfError → Result MapFields BtfError
fields_by (Ok m) = checked (members_fault m) (fields_of m)
fields_by (Err e) = Err e

-- the fields of the map that variable `id` defines, or the first error
unfoldable pub map_fields : Parts → ℕ → Result MapFields BtfError
map_fields b id = fields_by (members_of b id)
