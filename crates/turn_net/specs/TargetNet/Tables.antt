-- Tables of a map before anything is written.
use Rattle.std.specs.Prelude.{ℕ, suc, replicate}
use Rattle.hazard_core.specs.xdp_maps.declared.decl.MapDecl.{MapDecl}
use Rattle.hazard_core.specs.xdp_maps.Contents.{IsWithinLimits}
use Rattle.hazard_core.specs.xdp_maps.State.{opened_state}
use Rattle.hazard_core.specs.Tables.{TableState, tables_of}
use Rattle.read_net.specs.Sites.{IsMapOf}

-- of maps up to a number, all with one declaration
abbrev pub first_tables : MapDecl → ℕ → TableState
first_tables d m = tables_of (opened_state (replicate (suc m) d))

abbrev pub TablesAreThere : Type 0
TablesAreThere = (d : MapDecl) (m : ℕ) → IsWithinLimits d → IsMapOf (first_tables d m) m d
