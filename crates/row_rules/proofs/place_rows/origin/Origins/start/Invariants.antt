use Rattle.std.proofs.Common.{◌≡◌, ℕ, ◌<◌, ◌≤◌, None, length, get_or}
use Rattle.row_rules.specs.PlaceRows.Locations.{location_count, first_byte}
use Rattle.row_rules.specs.PlaceRows.Origins.{origin_at_start}
use Rattle.row_rules.proofs.place_rows.origin.Origins.start.Given as goal

abbrev pub invariant-loop-place : goal.invariant-loop-place
invariant-loop-place l = record { count : length l.places ≡ location_count; from : first_byte ≤ l.place; each : (i : ℕ) → i < l.place → get_or l.places i None ≡ origin_at_start i }
