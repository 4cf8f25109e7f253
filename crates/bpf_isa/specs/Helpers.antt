-- Helper functions by their numbers (linux/bpf.h).
use Rattle.std.specs.Prelude.{ℤ, pos, if◌then◌else◌, Option, Some, None}
use Rattle.std.specs.Ordering.{int_eq}
use Rattle.bpf_isa.specs.declared.helper.Helper.{Helper}
use Rattle.bpf_isa.specs.declared.helper.Helper.TheVariants.{Lookup, Update, Delete, Time, Redirect}

-- bpf_map_lookup_elem, bpf_map_update_elem, bpf_map_delete_elem, bpf_ktime_get_ns, bpf_redirect
abbrev pub helper_number : Helper → ℤ
helper_number Lookup = pos 1
helper_number Update = pos 2
helper_number Delete = pos 3
helper_number Time = pos 5
helper_number Redirect = pos 23

-- the helper of a number, if the machine has it
abbrev pub helper_of : ℤ → Option Helper
helper_of id =
    if int_eq id (helper_number Lookup) then Some Lookup else
    if int_eq id (helper_number Update) then Some Update else
    if int_eq id (helper_number Delete) then Some Delete else
    if int_eq id (helper_number Time) then Some Time else
    if int_eq id (helper_number Redirect) then Some Redirect else
    None
