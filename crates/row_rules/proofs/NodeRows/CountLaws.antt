-- How many rows and origins there are.
use Rattle.std.proofs.Common.{◌≡◌, ◌∙◌, ℕ, zero, suc, List, [], ◌∷◌, length, length-append, refl, arith}
use Rattle.xdp_state.specs.xdp_machine.Program.{XdpProgram}
use Rattle.kind_core.specs.declared.kind.Kinds.{Kinds}
use Rattle.unfold_core.specs.declared.edges.Point.{Point}
use Rattle.unfold_core.specs.declared.links.Edge.{Edge}
use Rattle.row_rules.specs.PlaceRows.Locations.{location_count}
use Rattle.row_rules.specs.PlaceRows.Origins.{origin_at_start}
use Rattle.row_rules.specs.declared.node_rows.joining.Arrival.{Arrival}
use Rattle.row_rules.specs.NodeRows.Joining.{origin_at, origins_at}
use Rattle.row_rules.specs.NodeRows.Rows.{behind_node, rows_of}
use Rattle.row_rules.proofs.PlaceRows.PlaceLaws.{count_places}

pub count_rows : (p : XdpProgram) (nodes : List Point) (edges : List Edge) (n : ℕ) → length (rows_of p nodes edges n) ≡ n
count_rows p nodes edges zero = refl
count_rows p nodes edges (suc n) = length-append (rows_of p nodes edges n) (behind_node p nodes edges (rows_of p nodes edges n) n ∷ []) ∙ omega (arith, count_rows p nodes edges n)

pub count_origins : (es : List Arrival) (maker : ℕ) (k : Kinds) → length (origins_at es maker k) ≡ location_count
count_origins [] maker k = count_places origin_at_start
count_origins (a ∷ es) maker k = count_places (origin_at (a ∷ es) maker k)
