use Rattle.predicate_core.proofs.Closed.{known_row, held_row}
use Rattle.predicate_core.proofs.closing.low_word.Goals as goal

pub returns-in_ok-c-in-Known-clause-no_row : goal.returns-in_ok-c-in-Known-clause-no_row
returns-in_ok-c-in-Known-clause-no_row c = known_row _ _ _ c.in_ok-c-in-Known.ensures.rises

pub returns-in_ok-c-in-Between-clause-no_row : goal.returns-in_ok-c-in-Between-clause-no_row
returns-in_ok-c-in-Between-clause-no_row c = held_row _ _ c.args.held _ (rw c.in-Between.is at c.requires) c.in_ok-c-in-Between.ensures.rises
