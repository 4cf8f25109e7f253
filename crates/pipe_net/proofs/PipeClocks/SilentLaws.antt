-- A host that does not write leaves the action.
use Rattle.std.specs.Prelude.{◌≡◌, false}
use Rattle.std.proofs.Common.{ap}
use Rattle.list_laws.proofs.OptionLaws.{none_unless}
use Rattle.block_core.specs.net_core.declared.ports.Inputs.{Inputs}
use Rattle.pipe_core.specs.Machine.{State, Build, flushed, action_as, host_ready, is_idle}
use Rattle.pipe_core.specs.HostRuns.Silent.{silent}
use Rattle.pipe_core.proofs.HostLaws.{nothing_written}
use Rattle.pipe_net.specs.Machine.{input_of}
use Rattle.pipe_net.specs.Saying.{action_in}

pub silent_action : (b : Build) (s : State) (i : Inputs) → i.host_write ≡ false → action_in b (input_of i) s ≡ action_in b (silent (input_of i)) s
silent_action b s i e = ap (action_as b s (flushed b 0 s.places)) (nothing_written (host_ready b s) (is_idle s) s.tables _ (none_unless i.host_write i.host_data e))
