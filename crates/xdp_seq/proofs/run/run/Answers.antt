use Rattle.std.proofs.Common.{◌∙◌, refl, sym, ap, arith}
use Rattle.xdp_state.specs.xdp_machine.Runs.{Ended, Stuck, leaves}
use Rattle.xdp_state.specs.Machines.{machine_of}
use Rattle.xdp_state.proofs.xdp_machine_laws.RunLaws.{run_none, run_goes, run_ends, run_stops}
use Rattle.xdp_seq.proofs.run.run.Goals as goal

pub returns-in-Ended : goal.returns-in-Ended
returns-in-Ended c =
    c.loop.invariant ∙ run_ends _ _ _ _ _ c.loop-test.true c.in-Ended.ensures.0
    ∙ ap (λ m. Ended (leaves c.in-Ended.verdict m)) (sym c.in-Ended.ensures.1)

pub returns-in-Stuck : goal.returns-in-Stuck
returns-in-Stuck c = (
  machine_of c.step.new.state c.step.new.frame c.step.new.maps,
  c.loop.invariant ∙ run_stops _ _ _ _ c.loop-test.true c.in-Stuck.ensures.0 ∙ ap Stuck (sym c.in-Stuck.ensures.1),
  record { place_is = refl; frame_is = refl; maps_are = refl },
)

pub loop-preserved : goal.loop-preserved
loop-preserved c = c.loop.invariant ∙ run_goes _ _ _ _ _ c.loop-test.true c.in-Next.ensures

pub returns : goal.returns
returns c = (
  machine_of c.loop.state c.loop.frame c.loop.maps,
  c.loop.invariant ∙ run_none _ _ _ (omega arith),
  record { place_is = refl; frame_is = refl; maps_are = refl },
)
