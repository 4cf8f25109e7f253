use Rattle.std.proofs.Common.{arith}
use Rattle.place_parts.proofs.MarkParts.Forming.{read_in, few_in}
use Rattle.place_parts.proofs.mark_parts.reload.mark_nets.Goals as goal

pub register-requires-clause-few : goal.register-requires-clause-few
register-requires-clause-few c = omega (arith, few_in c.args.layout.now c.args.k c.args.reads.now c.requires.layout c.requires.reads c.loop-i.i c.loop-i-test.true)

pub guard-requires-clause-site : goal.guard-requires-clause-site
guard-requires-clause-site c = read_in c.args.layout.now c.args.k c.args.reads.now c.requires.reads c.loop-i.i c.loop-i-test.true
