use Rattle.std.proofs.Common.{◌≡◌, ℕ, ◌<◌, None, get_or, take}
use Rattle.row_rules.specs.PlaceRows.Locations.{location_count}
use Rattle.row_rules.specs.NodeRows.Passing.{written}
use Rattle.row_rules.proofs.node_rows.node.write_spans.Given as goal

abbrev pub invariant-loop-span : goal.invariant-loop-span
invariant-loop-span l = (i : ℕ) → i < location_count → get_or l.origins.places i None ≡ written l.after (take l.span-index l.spans) l.fn.origin l.fn.origins.places i
