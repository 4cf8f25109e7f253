use Rattle.pipe_core.proofs.Order.{keeps_order, in_order}
use Rattle.pipe_core.proofs.laws.in_order.Goals as goal

pub returns : goal.returns
returns c = record { clock = keeps_order; always = in_order }
