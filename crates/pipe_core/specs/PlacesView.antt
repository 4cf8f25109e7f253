-- Places of a program with its plan, and the packets in them.
use Rattle.std.specs.Prelude.{Option, List}
use Rattle.pipe_core.specs.Machine.{Packet}
use Rattle.pipe_core.specs.BuildView.{BuildView}

pub record PlacesView : Type 0 where
  pub build : BuildView
  pub places : List (Option Packet)
