use Rattle.std.proofs.Common.{◌≡◌}
use Rattle.flow_demo.specs.Draws.{first_draws, state_after}
use Rattle.flow_demo.proofs.draws.first_draws.Given as goal

abbrev pub invariant-loop : goal.invariant-loop
invariant-loop l = record {
  state : l.generator ≡ state_after l.fn.seed l.counter;
  draws : l.draws.items ≡ first_draws l.fn.seed l.counter;
}
