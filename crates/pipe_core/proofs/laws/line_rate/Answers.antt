use Rattle.pipe_core.proofs.LineRating.{drives_at_line_rate, full_drive_at_line_rate, late_drive_at_line_rate, gives_first, late_first_at_line_rate}
use Rattle.pipe_core.proofs.laws.line_rate.Goals as goal

pub returns : goal.returns
returns c = record {
  drives = drives_at_line_rate;
  full = full_drive_at_line_rate drives_at_line_rate c.ends_without_conflicts.ensures.forward c.commits.ensures.writes;
  late = late_drive_at_line_rate drives_at_line_rate c.commits.ensures.late;
  first = gives_first;
  late_first = late_first_at_line_rate gives_first c.commits.ensures.late;
}
