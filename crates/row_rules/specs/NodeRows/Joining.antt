-- Where edges meet.
use Rattle.std.specs.Prelude.{ℕ, ◌==◌, max, ◌&&◌, Bool, true, false, if◌then◌else◌, Option, Some, None, List, [], ◌∷◌, get_or}
use Rattle.kind_core.specs.declared.kind.Kinds.{Kinds}
use Rattle.row_rules.specs.declared.place_rows.origin.Origin.{Origin}
use Rattle.row_rules.specs.declared.node_rows.joining.Arrival.{Arrival}
use Rattle.row_rules.specs.PlaceRows.Origins.{has_data, row_of, by_place, origin_at_start}

-- the origin that an edge brings: none where there is no data on it
abbrev pub brings : Arrival → ℕ → Option Origin
brings a place = if has_data a.kinds place then get_or a.origins.places place None else None

-- the greatest row of edges, and of the origins that they bring
abbrev pub edge_row : List Arrival → ℕ
edge_row [] = 0
edge_row (a ∷ es) = max a.row (edge_row es)

abbrev pub brought_row : List Arrival → ℕ → ℕ
brought_row [] place = 0
brought_row (a ∷ es) place = max (row_of (brings a place)) (brought_row es place)

abbrev pub is_origin : Option Origin → Origin → Bool
is_origin (Some p) o = (p.maker == o.maker) && (p.row == o.row)
is_origin None o = false

abbrev pub all_bring : List Arrival → ℕ → Origin → Bool
all_bring [] place o = true
all_bring (a ∷ es) place o = is_origin (brings a place) o && all_bring es place o

-- Where all edges bring one origin it stays, else the node makes a new one, in the greatest row of those that come and of the edges.
abbrev pub new_origin : List Arrival → ℕ → ℕ → Origin
new_origin es maker place = record { maker = maker; row = max (edge_row es) (brought_row es place) }

abbrev pub met : List Arrival → ℕ → ℕ → Option Origin → Option Origin
met es maker place (Some o) = if all_bring es place o then Some o else Some (new_origin es maker place)
met es maker place None = Some (new_origin es maker place)

abbrev pub first_brings : List Arrival → ℕ → Option Origin
first_brings [] place = None
first_brings (a ∷ es) place = brings a place

-- the origin at a node, by the edges that lead to it and by what is known there
abbrev pub origin_at : List Arrival → ℕ → Kinds → ℕ → Option Origin
origin_at es maker k place = if has_data k place then met es maker place (first_brings es place) else None

-- the origins of all places: a run begins where no edge leads
abbrev pub origins_at : List Arrival → ℕ → Kinds → List (Option Origin)
origins_at [] maker k = by_place origin_at_start
origins_at (a ∷ es) maker k = by_place (origin_at (a ∷ es) maker k)
