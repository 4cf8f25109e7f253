-- What the parts of maps say to others and to the host.
use Rattle.std.specs.Prelude.{◌≡◌, Some}
use Rattle.block_core.specs.net_core.declared.ports.Inputs.{Inputs}
use Rattle.block_core.specs.net_core.Ports.{words_of}
use Rattle.block_core.specs.net_core.Value.{word, bit, Env}
use Rattle.block_core.specs.net_core.Clock.{Stored}
use Rattle.block_core.specs.declared.name.Name.{Name}
use Rattle.block_core.specs.Blocks.{Whole}
use Rattle.block_core.specs.Parts.{Sees}
use Rattle.turn_net.specs.HostNet.Names.{value_name}
use Rattle.pipe_core.specs.Machine.{State, host_ready, host_value}
use Rattle.pipe_net.specs.declared.parts.Part.{Part}
use Rattle.pipe_net.specs.Parts as part
use Rattle.pipe_net.specs.Machine.{input_of, access_in}
use Rattle.pipe_net.specs.Layout.{Layout}
use Rattle.pipe_net.specs.Relation.{HoldMaps}
use Rattle.pipe_net.specs.Saying.{ShowChanges}
use Rattle.pipe_net.specs.PipeTurns.Parts.{ready_net, AreActionParts}
use Rattle.pipe_net.specs.PipeTurns.Hosting.{MapsAllow}
use Rattle.pipe_net.specs.PipeMaps.Premises.{HasMaps, IsMapClock}

-- They show what the clock changes.
abbrev pub ChangesAreShown : Type 0
ChangesAreShown =
    (l : Layout) (d : Whole Part) (action : AreActionParts l d) (is : HasMaps l d action) (i : Inputs) (s : State) (ss : Part → Stored) (v : Env (Name Part)) → IsMapClock l d action is.parts i s ss v → ShowChanges l (input_of i) s v

-- It is shown what the host reads.
abbrev pub ValueIsShown : Type 0
ValueIsShown =
    (l : Layout) (d : Whole Part) (action : AreActionParts l d) → HasMaps l d action → (i : Inputs) (s : State) (ss : Part → Stored) (v : Env (Name Part)) → HoldMaps l s ss → Sees d (words_of i) ss v → v.net (ready_net l) ≡ bit (host_ready l.build s)
    → v.net (value_name (part.value l.sizes)) ≡ word 64 (host_value (host_ready l.build s) s.tables (Some (access_in i)))

-- Of each map it is shown whether the host may write the word that it names.
abbrev pub MapsLetWrite : Type 0
MapsLetWrite = (l : Layout) (d : Whole Part) (action : AreActionParts l d) → HasMaps l d action → MapsAllow l d
