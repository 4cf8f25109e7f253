-- What stands at the ports inwards, for the machine of the pipe.
use Rattle.std.specs.Prelude.{if◌then◌else◌, Some, None}
use Rattle.realization.specs.beat_core.declared.beat.Beat.{Beat}
use Rattle.realization.specs.net_core.declared.ports.Inputs.{Inputs}
use Rattle.hazard_core.specs.declared.access.Access.{Access}
use Rattle.pipe_core.specs.Machine.{Input}

abbrev pub beat_in : Inputs → Beat
beat_in i = record { word = i.in_data; bytes = i.in_bytes; last = i.in_last }

-- the host names a word in every clock, and writes it in some
abbrev pub access_in : Inputs → Access
access_in i = record { map = i.host_map; index = i.host_index; word = i.host_word; write = if i.host_write then Some i.host_data else None }

abbrev pub input_of : Inputs → Input
input_of i = record { beat = if i.in_valid then Some (beat_in i) else None; ifindex = i.in_ifindex; time = i.in_time; take = i.out_ready; host = Some (access_in i) }
