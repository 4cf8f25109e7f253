-- What a step in memory answers.
use Rattle.std.specs.Prelude.{◌≡◌}
use Rattle.xdp_state.specs.xdp_machine.State.{Machine}
use Rattle.xdp_state.specs.xdp_machine.Step.{Outcome, Goes, Ends, NoCase}
use Rattle.xdp_seq.specs.declared.flow.Flow.{Flow}
use Rattle.xdp_seq.specs.declared.flow.Flow.TheVariants.{Next, Ended, Stuck}

-- A step led on and has made the new machine, or the run has ended or is stuck and nothing has changed.
abbrev pub Flows : Flow → Outcome → Machine → Machine → Type 0
Flows Next outcome old new = outcome ≡ Goes new
Flows (Ended verdict) outcome old new = (outcome ≡ Ends verdict) × (new ≡ old)
Flows Stuck outcome old new = (outcome ≡ NoCase) × (new ≡ old)
