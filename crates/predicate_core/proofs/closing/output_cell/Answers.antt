use Rattle.predicate_core.proofs.Closed.{outputs_within}
use Rattle.predicate_core.proofs.closing.output_cell.Goals as goal

pub returns : goal.returns
returns c = outputs_within _ _ _ _ _ _ _ _ c.bits_of.ensures c.in_ok-whole.ensures c.in_ok-c.ensures.makes c.in_ok-c.ensures.is c.in_ok-c.ensures.no_row
