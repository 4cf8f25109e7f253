-- what was listed, and the rest of the text, give what the text gives
use Rattle.std.proofs.Common.{length}
use Rattle.maps_text.proofs.Runs.{IsReading}
use Rattle.maps_text.proofs.read.read_lines.Given as goal

abbrev pub invariant-lines : goal.invariant-lines
invariant-lines l = IsReading l.decls l.text l.rest l.n l.maps l.marks

abbrev pub decreases-lines : goal.decreases-lines
decreases-lines l = length l.rest
