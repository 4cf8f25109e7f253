-- A clock of the parts of marks.
use Rattle.std.specs.Prelude.{◌≡◌, ℕ, ◌≤◌}
use Rattle.hazard_core.specs.xdp_maps.State.{MapState}
use Rattle.block_core.specs.net_core.declared.ports.Inputs.{Inputs}
use Rattle.block_core.specs.net_core.Ports.{words_of}
use Rattle.block_core.specs.net_core.Value.{bit, Env}
use Rattle.block_core.specs.net_core.Clock.{Stored, done}
use Rattle.block_core.specs.declared.name.Name.{Name}
use Rattle.block_core.specs.Blocks.{Whole, Among}
use Rattle.block_core.specs.Parts.{Sees}
use Rattle.hazard_core.specs.cell_core.Formed.{AllFit}
use Rattle.turn_net.specs.cell_nets.Operands.{AreFit}
use Rattle.pipe_core.specs.Machine.{State, new_state, clock}
use Rattle.read_net.specs.MarkNet.Sites.{outside}
use Rattle.read_net.specs.TouchNet.Marking.{mark_operands}
use Rattle.pipe_net.specs.declared.parts.Part.{Part}
use Rattle.pipe_net.specs.Parts.{parts_of}
use Rattle.pipe_net.specs.Machine.{input_of}
use Rattle.pipe_net.specs.Layout.{Layout, IsSized, program_of, commit_of}
use Rattle.pipe_net.specs.Relation.{IsStored, HoldMarks}
use Rattle.pipe_net.specs.Saying.{moves_in, ShowReloads, ShowChanges}
use Rattle.pipe_net.specs.Standing.{ShowPackets}
use Rattle.pipe_net.specs.PipeMarks.Parts.{advances, AreMarkParts}

-- the nets that the parts of marks read have the values of their widths
abbrev pub MarksAreFit : (l : Layout) (d : Whole Part) → AreMarkParts l d → Env (Name Part) → Type 0
MarksAreFit l d parts v = (k : ℕ) (w : k ≤ commit_of l) → AreFit v (outside (advances l) (parts k w).sites) × AreFit v (mark_operands (parts k w).reloads)

-- They show which packets must reload.
abbrev pub ReloadsAreShown : Type 0
ReloadsAreShown =
    (l : Layout) (d : Whole Part) → IsSized l → (parts : AreMarkParts l d) → d.parts ≡ parts_of l.sizes
    → (i : Inputs) (s : State) (ss : Part → Stored) (v : Env (Name Part)) → HoldMarks l s ss → Sees d (words_of i) ss v → ((p : Part) → Among p d.parts → IsStored (d.block p) (ss p)) → MarksAreFit l d parts v → ShowPackets l s v → ShowReloads l s v

-- A clock in which it is shown whether packets move on, and what changes. Sites have as many words as the keys of their maps.
abbrev pub MarksFollow : Type 0
MarksFollow =
    (l : Layout) (d : Whole Part) → IsSized l → (parts : AreMarkParts l d) → d.parts ≡ parts_of l.sizes → AllFit l.decls (program_of l).sites
    → (i : Inputs) (s : State) (ss : Part → Stored) (v : Env (Name Part)) → HoldMarks l s ss → Sees d (words_of i) ss v → ((p : Part) → Among p d.parts → IsStored (d.block p) (ss p)) → MarksAreFit l d parts v → ShowPackets l s v
    → v.net (advances l) ≡ bit (moves_in l.build (input_of i) s) → ShowChanges l (input_of i) s v → s.tables.decls ≡ l.decls
    → HoldMarks l (clock l.build (input_of i) s) (λ p. done v (d.block p).statement (ss p))

-- Before the first clock there is no packet.
abbrev pub MarksBegin : Type 0
MarksBegin = (l : Layout) (maps : MapState) (ss : Part → Stored) → HoldMarks l (new_state l.build maps) ss
