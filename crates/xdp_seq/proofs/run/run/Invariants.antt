use Rattle.std.proofs.Common.{◌≡◌, ◌-◌}
use Rattle.xdp_state.specs.xdp_machine.Runs.{run}
use Rattle.xdp_seq.specs.declared.run.TheConstants.{STEP_LIMIT}
use Rattle.xdp_state.specs.Machines.{machine_of}
use Rattle.xdp_seq.specs.Units.{code_of}
use Rattle.xdp_seq.proofs.run.run.Given as goal

-- what is left of the run follows from where it has come to
abbrev pub invariant-loop : goal.invariant-loop
invariant-loop l =
    run (code_of l.units l.refs) STEP_LIMIT (machine_of l.fn.state l.fn.frame l.fn.maps)
    ≡ run (code_of l.units l.refs) (STEP_LIMIT - l.counter) (machine_of l.state l.frame l.maps)
