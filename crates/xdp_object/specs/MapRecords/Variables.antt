-- The maps of the section `.maps`: variables, of which the type information (BTF) tells the definition.
use Rattle.std.specs.Prelude.{ℕ, List, Option, Some, None, Result, Ok, Err}
use Rattle.btf_view.specs.declared.error.BtfError.{BtfError}
use Rattle.btf_view.specs.declared.fields.MapFields.{MapFields}
use Rattle.btf_view.specs.File.{Parts, parts_of}
use Rattle.btf_view.specs.Maps.{map_fields}
use Rattle.btf_view.specs.Rules.{first_error}
use Rattle.btf_view.specs.Vars.{find_var}
use Rattle.xdp_object.specs.declared.map_records.fault.MapFault.{MapFault}
use Rattle.xdp_object.specs.declared.map_records.fault.MapFault.TheVariants.{Rule, Btf}
use Rattle.xdp_object.specs.declared.map_records.fault.MapRule.TheVariants.{Absent}

abbrev pub told : Result MapFields BtfError → Result MapFields MapFault
told (Ok fields) = Ok fields
told (Err error) = Err (Btf error)

-- of the variable that was found
abbrev pub told_of : Parts → Result (Option ℕ) BtfError → Result MapFields MapFault
told_of b (Ok (Some id)) = told (map_fields b id)
told_of b (Ok None) = Err (Rule Absent)
told_of b (Err error) = Err (Btf error)

abbrev pub told_unless : Option BtfError → Result MapFields MapFault → Result MapFields MapFault
told_unless None r = r
told_unless (Some error) r = Err (Btf error)

-- what the type information `btf` says of the variable of this name
unfoldable pub variable_fields : (btf name : List ℕ) → Result MapFields MapFault
variable_fields btf name = told_unless (first_error btf) (told_of (parts_of btf) (find_var (parts_of btf) name))
