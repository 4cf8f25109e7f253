-- The parts of a pipeline, all together, and the design that is linked of them.
use Rattle.std.specs.Prelude.{◌≡◌, ℕ, ◌<◌, ◌≤◌, List, [], ◌∷◌, length}
use Rattle.hazard_core.specs.xdp_maps.declared.decl.MapKind.TheVariants.{Array}
use Rattle.block_core.specs.net_core.declared.ports.TheConstants.{IN_READY, OUT_VALID, OUT_DATA, OUT_BYTES, OUT_LAST, OUT_VERDICT, OUT_TARGET, OUT_RELOAD, HOST_VALUE, HOST_READY, HOST_PASSED}
use Rattle.block_core.specs.net_core.Nets.{Netlist, TRead}
use Rattle.block_core.specs.net_core.Ports.{port_list, port_names}
use Rattle.block_core.specs.declared.name.Name.{Name}
use Rattle.block_core.specs.Blocks.{OutputTree, Whole}
use Rattle.block_core.specs.Link.{numbered_names, link}
use Rattle.block_core.specs.ProductBlocks.Alone.{IsApartAlone}
use Rattle.turn_net.specs.cell_nets.declared.operand.Operand.TheVariants.{Known}
use Rattle.control_net.specs.declared.ring_net.names.Register.TheVariants.{Passed}
use Rattle.control_net.specs.RingNet.Names.{register_name}
use Rattle.control_net.specs.declared.names.Wire.TheVariants as wire
use Rattle.control_net.specs.Names.{back_name}
use Rattle.commit_net.specs.frame_net.ScatterNet.Scatter.{last_name, bytes_name, verdict_name, target_name, data_name}
use Rattle.turn_net.specs.HostNet.Names.{value_name}
use Rattle.pipe_net.specs.declared.parts.Part.{Part}
use Rattle.pipe_net.specs.Parts as part
use Rattle.pipe_net.specs.Parts.{part_place, parts_of}
use Rattle.pipe_net.specs.Layout.{Layout, IsSized, last_of}
use Rattle.pipe_net.specs.PipeFrames.Parts.{told_by, AreFrameParts}
use Rattle.pipe_net.specs.PipeMarks.Parts.{AreMarkParts}
use Rattle.pipe_net.specs.PipeTurns.Maps.{decl_at}
use Rattle.pipe_net.specs.PipeTurns.Parts.{ready_net, AreActionParts}
use Rattle.pipe_net.specs.PipeMaps.Parts.{AreMapParts}
use Rattle.pipe_net.specs.PipePlaces.Parts.{AreStageParts}
use Rattle.pipe_net.specs.PipeForms.Reading.{AreReadings}

-- ---- what the outputs show
abbrev pub shown_at : ℕ → Name Part → OutputTree (Name Part)
shown_at port net = record { port = port; value = TRead net }

abbrev pub outputs_of : Layout → List (OutputTree (Name Part))
outputs_of l =
    shown_at IN_READY (told_by l.sizes wire.Ready)
    ∷ shown_at OUT_VALID (told_by l.sizes wire.Shown)
    ∷ shown_at OUT_DATA (data_name part.scatter (length l.words))
    ∷ shown_at OUT_BYTES (bytes_name part.scatter)
    ∷ shown_at OUT_LAST (last_name part.scatter)
    ∷ shown_at OUT_VERDICT (verdict_name part.scatter)
    ∷ shown_at OUT_TARGET (target_name part.scatter)
    ∷ shown_at OUT_RELOAD (back_name l.shape (part.returns l.sizes) 0)
    ∷ shown_at HOST_VALUE (value_name (part.value l.sizes))
    ∷ shown_at HOST_READY (ready_net l)
    ∷ shown_at HOST_PASSED (register_name (part.control l.sizes) Passed)
    ∷ []

-- the design of these parts, under names
abbrev pub design : Layout → Whole Part → List (List ℕ) → Netlist
design l d names = link d names port_list (outputs_of l)

-- the names of its ports, and after them numbered nets
abbrev pub names_of : Whole Part → List (List ℕ)
names_of d = numbered_names d port_names

-- ---- the parts
-- They stand in their order; each has its block, over nets of the others. Of an array nothing is counted. In the blocks of places no product stands in an operand
-- of another.
pub record AreParts (l : Layout) (d : Whole Part) : Type 0 where
  pub place : d.place ≡ part_place
  pub parts : d.parts ≡ parts_of l.sizes
  pub sized : IsSized l
  pub frames : AreFrameParts l d
  pub marks : AreMarkParts l d
  pub stages : AreStageParts l d
  pub actions : AreActionParts l d
  pub maps : AreMapParts l d actions
  pub readings : AreReadings l d stages
  pub uncounted : (m : ℕ) → m < length l.decls → (decl_at l m).kind ≡ Array → (actions.maps m).used ≡ Known 0
  pub apart : (k : ℕ) → k ≤ last_of l → IsApartAlone (part.place l.sizes k) (d.block (part.place l.sizes k))
