use Rattle.std.proofs.Common.{◌≡◌, ℕ, ◌+◌, ◌<◌, None, length, get_or}
use Rattle.row_rules.specs.PlaceRows.Locations.{location_count}
use Rattle.row_rules.specs.NodeRows.Joining.{origin_at}
use Rattle.row_rules.proofs.node_rows.joining.join.Given as goal

abbrev pub invariant-loop-place : goal.invariant-loop-place
invariant-loop-place l = record {
  count : length l.places ≡ location_count;
  each : (i : ℕ) → i < l.place → get_or l.places i None ≡ origin_at l.arrivals l.maker l.kinds i;
  rest : (i : ℕ) → l.place < i + 1 → get_or l.places i None ≡ None;
}
