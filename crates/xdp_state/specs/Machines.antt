-- The machine that a state, a frame and maps make up.
use Rattle.std.specs.Prelude.{ℕ, List}
use Rattle.xdp_machine.specs.xdp_maps.State.{MapState}
use Rattle.xdp_machine.specs.State.{Machine}
use Rattle.xdp_state.specs.declared.state.State.{State}

abbrev pub machine_of : State → List ℕ → MapState → Machine
machine_of s frame maps = record {
  registers = s.registers;
  stack = s.stack;
  frame = frame;
  ifindex = s.ifindex;
  time = s.time;
  maps = maps;
  target = s.target;
  place = s.place;
}
