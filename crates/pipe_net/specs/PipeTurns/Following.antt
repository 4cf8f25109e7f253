-- What the part that says which operation commits stores after a clock.
use Rattle.std.specs.Prelude.{◌≡◌, length}
use Rattle.hazard_core.specs.xdp_maps.State.{MapState}
use Rattle.block_core.specs.net_core.declared.ports.Inputs.{Inputs}
use Rattle.block_core.specs.net_core.Ports.{words_of}
use Rattle.block_core.specs.net_core.Value.{Env}
use Rattle.block_core.specs.net_core.Clock.{Stored, done}
use Rattle.block_core.specs.declared.name.Name.{Name}
use Rattle.block_core.specs.Blocks.{Whole, first_of}
use Rattle.block_core.specs.Parts.{Sees}
use Rattle.pipe_core.specs.Machine.{State, new_state, clock}
use Rattle.turn_net.specs.Action.{StoresAction}
use Rattle.pipe_net.specs.declared.parts.Part.{Part}
use Rattle.pipe_net.specs.Parts as part
use Rattle.pipe_net.specs.Parts.{parts_of}
use Rattle.pipe_net.specs.Machine.{input_of}
use Rattle.pipe_net.specs.Layout.{Layout, IsSized, program_of}
use Rattle.pipe_net.specs.Relation.{HoldMaps}
use Rattle.pipe_net.specs.Saying.{ShowReturns}
use Rattle.pipe_net.specs.Standing.{ShowPackets}
use Rattle.pipe_net.specs.PipeTurns.Parts.{AreActionParts}
use Rattle.pipe_net.specs.PipeTurns.Hosting.{ShowsHost}
use Rattle.pipe_net.specs.PipeTurns.Acting.{ActionsAreFit, IsRightAction}

-- of a state how far the packet at the commit place is, and the slots that its updates took
pub record HoldsAction (l : Layout) (s : State) (ss : Part → Stored) : Type 0 where
  pub long : length s.taken ≡ length (program_of l).sites
  pub action : StoresAction l.action_shape l.records s.done s.taken (ss (part.action l.sizes))

abbrev pub ActionFollows : Type 0
ActionFollows =
    (l : Layout) (d : Whole Part) → IsSized l → (parts : AreActionParts l d) → d.parts ≡ parts_of l.sizes
    → (i : Inputs) (s : State) (ss : Part → Stored) (v : Env (Name Part)) → HoldMaps l s ss → Sees d (words_of i) ss v → ActionsAreFit l d parts v → ShowReturns l s v → ShowsHost l i s v → ShowPackets l s v → IsRightAction l i s
    → HoldsAction l (clock l.build (input_of i) s) (λ p. done v (d.block p).statement (ss p))

-- Before the first clock it stores what the machine's first state says.
abbrev pub ActionBegins : Type 0
ActionBegins = (l : Layout) (d : Whole Part) (maps : MapState) → AreActionParts l d → HoldsAction l (new_state l.build maps) (λ p. first_of (d.block p))
