use Rattle.clock_sim.proofs.OperatorLemmas.{fetch_makes}
use Rattle.clock_sim.proofs.emit.fetched.Goals as goal

pub returns-clause-makes : goal.returns-clause-makes
returns-clause-makes c =
    let typed = rw c.in-Memory.is at c.requires.typed in
    rw c.in-Memory.is (fetch_makes c.args.builder.now _ c.args.operands.now c.in-Memory.i _ c.args.at _ _ c.from-number.ensures c.in_ok-slot-in-Memory.ensures.works typed c.word_width-width.ensures)
