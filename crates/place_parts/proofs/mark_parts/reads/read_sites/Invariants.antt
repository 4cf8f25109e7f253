use Rattle.std.specs.List.{filter}
use Rattle.std.proofs.Common.{◌≡◌}
use Rattle.hazard_core.specs.cell_core.Rows.{numbers}
use Rattle.hazard_core.specs.Marks.{has_read}
use Rattle.place_parts.specs.MarkParts.Places.{program_in, rows_in}
use Rattle.place_parts.proofs.mark_parts.reads.read_sites.Given as goal

abbrev pub invariant-loop-j : goal.invariant-loop-j
invariant-loop-j l = l.sites.items ≡ filter (has_read (program_in l.layout) (rows_in l.layout) l.k) (numbers 0 l.j)
