-- What the registers of places show.
use Rattle.std.specs.Prelude.{◌≡◌, ℕ, ◌≤◌}
use Rattle.block_core.specs.net_core.declared.ports.Inputs.{Inputs}
use Rattle.block_core.specs.net_core.Ports.{words_of}
use Rattle.block_core.specs.net_core.Value.{Env}
use Rattle.block_core.specs.net_core.Clock.{Stored}
use Rattle.block_core.specs.declared.name.Name.{Name}
use Rattle.block_core.specs.Blocks.{Whole, Among}
use Rattle.block_core.specs.Parts.{Sees}
use Rattle.turn_net.specs.cell_nets.Operands.{AreFit}
use Rattle.pipe_core.specs.Machine.{State}
use Rattle.pipe_core.specs.History.{Trace}
use Rattle.pipe_core.specs.Computed.{IsComputed}
use Rattle.pipe_net.specs.declared.parts.Part.{Part}
use Rattle.pipe_net.specs.Parts.{parts_of}
use Rattle.pipe_net.specs.Layout.{Layout, IsSized, last_of}
use Rattle.pipe_net.specs.Relation.{IsStored, HoldPackets}
use Rattle.pipe_net.specs.Saying.{ShowAnswers}
use Rattle.pipe_net.specs.Standing.{held_registers, ShowPackets}
use Rattle.pipe_net.specs.PipePlaces.Layout.{IsLaidOut}
use Rattle.pipe_net.specs.PipePlaces.Parts.{AreStageParts}

-- what their packets hold
abbrev pub PacketsAreShown : Type 0
PacketsAreShown =
    (l : Layout) (d : Whole Part) → IsSized l → IsLaidOut l → d.parts ≡ parts_of l.sizes
    → (i : Inputs) (t : Trace) (ss : Part → Stored) (v : Env (Name Part)) → IsComputed l.build t → HoldPackets l t.state ss → Sees d (words_of i) ss v → ShowPackets l t.state v

-- numbers of their widths, whatever they hold
abbrev pub RegistersFit : Type 0
RegistersFit =
    (l : Layout) (d : Whole Part) → IsSized l → AreStageParts l d → d.parts ≡ parts_of l.sizes
    → (i : Inputs) (ss : Part → Stored) (v : Env (Name Part)) → Sees d (words_of i) ss v → ((p : Part) → Among p d.parts → IsStored (d.block p) (ss p)) → (k : ℕ) → k ≤ last_of l → AreFit v (held_registers l k)

-- and after the last place what its packet answers
abbrev pub AnswersAreShown : Type 0
AnswersAreShown =
    (l : Layout) (d : Whole Part) → IsSized l → AreStageParts l d → d.parts ≡ parts_of l.sizes
    → (i : Inputs) (s : State) (ss : Part → Stored) (v : Env (Name Part)) → Sees d (words_of i) ss v → ((p : Part) → Among p d.parts → IsStored (d.block p) (ss p)) → ShowPackets l s v → ShowAnswers l s v
