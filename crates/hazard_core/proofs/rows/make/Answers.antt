use Rattle.std.proofs.Common.{ap}
use Rattle.cell_core.specs.Cells.{site_in}
use Rattle.hazard_core.proofs.rows.make.Goals as goal

pub found_pointer-found-requires-clause-site : goal.found_pointer-found-requires-clause-site
found_pointer-found-requires-clause-site c = c.requires.site c.in-Found.j (ap site_in c.in-Found.is)

pub answer_over-answer-requires-clause-site : goal.answer_over-answer-requires-clause-site
answer_over-answer-requires-clause-site c = c.requires.site c.in-Answer.j (ap site_in c.in-Answer.is)
