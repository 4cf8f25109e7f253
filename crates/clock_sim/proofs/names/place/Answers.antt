use Rattle.std.specs.Prelude.{if◌then◌else◌}
use Rattle.std.proofs.Common.{◌<◌, length, sym, ◌∙◌, arith}
use Rattle.net_core.specs.Names.{is_register, is_memory}
use Rattle.clock_sim.proofs.NameLemmas.{counted, found, passed, skipped}
use Rattle.clock_sim.proofs.names.place.Goals as goal
use Rattle.clock_sim.proofs.names.place.Goals.{then-counts+else-left-eq0, else-counts}

pub returns-then-left-eq0 : goal.returns-then-left-eq0
returns-then-left-eq0 c =
    let lt : c.loop-i.i < length c.args.declared.now = omega arith in
    found (if c.args.memory then is_memory else is_register) c.args.declared.now c.loop-i.i c.loop-i.left _ lt c.loop-i.invariant (counted c.args.memory _ ∙ sym c.counts.ensures ∙ c.if-counts.true) c.if-left-eq0.true

pub loop-i-preserved : goal.loop-i-preserved
loop-i-preserved c =
    let lt : c.loop-i.i < length c.args.declared.now = omega arith in
    elim c.if-counts.branch [
      | then-counts+else-left-eq0 w ↦ rw w.left-is (passed (if c.args.memory then is_memory else is_register) c.args.declared.now c.loop-i.i c.loop-i.left _ lt c.loop-i.invariant (counted c.args.memory _ ∙ sym c.counts.ensures ∙ w.if-counts.true) w.if-left-eq0.false)
      | else-counts w ↦ rw w.left-is (skipped (if c.args.memory then is_memory else is_register) c.args.declared.now c.loop-i.i c.loop-i.left _ lt c.loop-i.invariant (counted c.args.memory _ ∙ sym c.counts.ensures ∙ w.if-counts.false))
    ]
