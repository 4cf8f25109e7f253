use Rattle.std.proofs.Common.{◌≡◌, ℕ, ◌<◌, ◌≤◌, ◌⊎◌, nat_le, nat_lt, ◌&&◌, if◌then◌else◌, Some, None, get_or}
use Rattle.row_rules.specs.PlaceRows.Locations.{location_count}
use Rattle.row_rules.specs.PlaceRows.Origins.{has_data}
use Rattle.row_rules.proofs.node_rows.node.write_span.Given as goal

abbrev pub invariant-loop-place : goal.invariant-loop-place
invariant-loop-place l = record {
  until : (l.place ≤ l.fn.span.end) ⊎ (l.place ≡ l.fn.span.from);
  each : (i : ℕ) → i < location_count → get_or l.origins.places i None
      ≡ (if nat_le l.fn.span.from i && nat_lt i l.place then (if has_data l.after i then Some l.fn.origin else None) else get_or l.fn.origins.places i None);
}
