use Rattle.std.proofs.Common.{◌∙◌, length}
use Rattle.xdp_state.proofs.Slots.{fill_more}
use Rattle.xdp_state.proofs.stack.Stack.fill.Goals as goal

pub loop-i-preserved : goal.loop-i-preserved
loop-i-preserved c =
    fill_more c.args.self.now c.args.at c.loop-i.i (length c.args.into.now) c.loop-i.into c.in-Some.byte c.loop-i-test.true c.loop-i.auto.into c.in-Some.ensures
    ∙ c.loop-i.invariant
