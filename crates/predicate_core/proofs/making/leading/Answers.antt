use Rattle.std.proofs.Common.{arith}
use Rattle.predicate_core.proofs.Numbered.{lead_at}
use Rattle.predicate_core.proofs.making.leading.Goals as goal

pub returns : goal.returns
returns c n are = lead_at n c.args.ways.now c.args.numbers.now c.loop-number.number-index c.loop-number.here.items (omega (arith, c.loop-number-test.false, c.loop-number.auto.number-index-end)) c.loop-number.invariant are
