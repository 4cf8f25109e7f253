use Rattle.std.specs.Prelude.{if◌then◌else◌}
use Rattle.std.proofs.Common.{◌≡◌, ◌+◌, drop}
use Rattle.net_core.specs.Names.{is_register, is_memory, place_of}
use Rattle.clock_sim.proofs.names.place.Given as goal

abbrev pub invariant-loop-i : goal.invariant-loop-i
invariant-loop-i l = l.i + place_of (if l.memory then is_memory else is_register) (drop l.i l.declared) l.left ≡ place_of (if l.memory then is_memory else is_register) l.declared l.number
