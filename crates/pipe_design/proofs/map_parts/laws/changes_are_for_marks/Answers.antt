use Rattle.pipe_design.proofs.MapParts.Laying.{have_changes}
use Rattle.pipe_design.proofs.map_parts.laws.changes_are_for_marks.Goals as goal

pub returns : goal.returns
returns c d sites committing r f is same are = have_changes d is sites committing r f same are
