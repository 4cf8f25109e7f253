use Rattle.pipe_core.proofs.Finding.{keeps_found, begins_found}
use Rattle.pipe_core.proofs.laws.found.Goals as goal

pub returns : goal.returns
returns c = record { clock = keeps_found c.reads_keep.ensures c.changes.ensures.commits c.right.ensures.action; begins = begins_found }
