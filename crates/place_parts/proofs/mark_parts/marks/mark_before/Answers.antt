use Rattle.std.proofs.Common.{ap, arith, length}
use Rattle.place_parts.proofs.MarkParts.Taking.{before_read, before_none, before_few}
use Rattle.place_parts.proofs.mark_parts.marks.mark_before.Goals as goal

pub register-requires-clause-few : goal.register-requires-clause-few
register-requires-clause-few c = omega (arith, c.loop-i-test.true, before_few c.args.layout.now c.args.k c.requires.layout, ap length c.requires.reads)

pub returns-then-before-i : goal.returns-then-before-i
returns-then-before-i c = before_read c.args.layout.now c.args.k c.args.site c.loop-i.i c.args.before.now c.register.result c.requires.reads (omega arith) c.if-before-i.true c.register.ensures

pub returns : goal.returns
returns c = before_none c.args.layout.now c.args.k c.args.site c.args.before.now c.requires.reads (λ n d lt. c.loop-i.invariant n d (omega (arith, lt)))
