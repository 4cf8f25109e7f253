-- The search for a variable by its name.
use Rattle.std.specs.Prelude.{ℕ, Bool, true, false, List, is_none, if◌then◌else◌, Option, Some, None, unwrap_or, Result, Ok, Err}
use Rattle.btf_view.specs.File.{Parts}
use Rattle.btf_view.specs.Names.{is_named, name_at}
use Rattle.btf_view.specs.Types.{first_of_types, kind_at, name_off_at}
use Rattle.btf_view.specs.declared.kind.TypeKind.{TypeKind}
use Rattle.btf_view.specs.declared.kind.TypeKind.TheVariants.{Var}
use Rattle.btf_view.specs.declared.error.BtfError.{BtfError}
use Rattle.btf_view.specs.declared.error.BtfError.TheVariants.{Short}

-- whether a name that has to be read is this one
abbrev pub reads_name : List ℕ → ℕ → List ℕ → Result Bool BtfError
reads_name strings at name = if is_none (name_at strings at) then Err Short else Ok (is_named strings at name)

-- whether a type of this kind is a VAR of this name
abbrev pub is_var_by : Option TypeKind → Result Bool BtfError → Result Bool BtfError
is_var_by (Some Var) named = named
is_var_by _ named = Ok false

-- whether the type at a place is one
unfoldable pub is_var : (types strings name : List ℕ) → ℕ → Result Bool BtfError
is_var types strings name at = is_var_by (kind_at types at) (reads_name strings (name_off_at types at) name)

-- the search goes on where a type is none
abbrev pub var_answer : ℕ → Result Bool BtfError → Option (Result (Option ℕ) BtfError)
var_answer id (Ok true) = Some (Ok (Some id))
var_answer id (Ok false) = None
var_answer id (Err e) = Some (Err e)

-- the first VAR of this name, or none; or the error of the first name of a VAR before it that cannot be read
unfoldable pub first_var : (types strings name : List ℕ) → Result (Option ℕ) BtfError
first_var types strings name =
    unwrap_or (first_of_types types (λ id at. var_answer id (is_var types strings name at))) (Ok None)

abbrev pub find_var : Parts → List ℕ → Result (Option ℕ) BtfError
find_var b name = first_var b.types b.strings name
