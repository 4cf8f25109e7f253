-- A clock of the places.
use Rattle.std.specs.Prelude.{◌≡◌, ℕ, ◌<◌, ◌≤◌, true, Some, length}
use Rattle.hazard_core.specs.xdp_maps.Contents.{IsBytes}
use Rattle.hazard_core.specs.xdp_maps.State.{MapState}
use Rattle.block_core.specs.net_core.declared.ports.Inputs.{Inputs}
use Rattle.block_core.specs.net_core.Ports.{words_of}
use Rattle.block_core.specs.net_core.Value.{bit, Env}
use Rattle.block_core.specs.net_core.Clock.{Stored, done}
use Rattle.block_core.specs.declared.name.Name.{Name}
use Rattle.block_core.specs.Blocks.{Whole, Among, first_of}
use Rattle.block_core.specs.Parts.{Sees}
use Rattle.hazard_core.specs.cell_core.Sites.{ProgramView, site_at}
use Rattle.hazard_core.specs.Tables.{TableState, decl_of, table_at, slot_at}
use Rattle.hazard_core.specs.Tabled.{AreTables}
use Rattle.hazard_core.specs.declared.pointer.Pointer.TheVariants.{InSlot}
use Rattle.hazard_core.specs.StageValues.{StageValues, access_pointer}
use Rattle.read_net.specs.overlay_net.ValueNet.Words.{answers_number}
use Rattle.stage_net.specs.row_net.PlaceNet.Sources.{IsShownIn}
use Rattle.pipe_core.specs.Machine.{Packet, State, newcomer, some_send, flushed, inside, no_frame, place_at, new_state, clock}
use Rattle.pipe_core.specs.History.{Trace, IsInOrder}
use Rattle.pipe_core.specs.Computed.{IsComputed}
use Rattle.pipe_net.specs.declared.parts.Part.{Part}
use Rattle.pipe_net.specs.Parts as part
use Rattle.pipe_net.specs.Parts.{parts_of}
use Rattle.pipe_net.specs.Machine.{input_of}
use Rattle.pipe_net.specs.Layout.{Layout, IsSized, program_of, last_of}
use Rattle.pipe_net.specs.Relation.{IsStored, most_slots, HoldPackets, HoldMaps}
use Rattle.pipe_net.specs.Saying.{moves_in}
use Rattle.pipe_net.specs.PipePlaces.Parts.{advances, AreStageParts, PlacesAreFit}
use Rattle.std.proofs.Common.{get_or}

-- ---- what packets read
-- an access that answers goes through a pointer to a slot that its map has, or to none
abbrev pub HasEntries : ProgramView → TableState → StageValues → Type 0
HasEntries p t h =
    (j n : ℕ) → j < length p.sites → answers_number (site_at p.sites j).act ≡ true → access_pointer h (site_at p.sites j) ≡ InSlot n → n < length (table_at t (site_at p.sites j).map)

-- Tables that a packet can read: they are tables of their declarations, with values of bytes, and its pointers are into their maps.
pub record IsServed (l : Layout) (t : TableState) (h : StageValues) : Type 0 where
  pub tables : AreTables t
  pub values : (m n : ℕ) → m < length l.decls → n < length (table_at t m) → IsBytes (decl_of l.decls m).value (slot_at (table_at t m) n).value
  pub entries : HasEntries (program_of l) t h

-- So they are for each packet that is inside.
pub record AreServed (l : Layout) (s : State) : Type 0 where
  pub short : (m : ℕ) → length (table_at s.tables m) ≤ most_slots
  pub each : (k : ℕ) (x : Packet) → k ≤ last_of l → place_at s.places k ≡ Some x → IsServed l s.tables x.held

-- of a packet that is injected its frame is shown
abbrev pub ShowsNewcomer : Layout → State → Env (Name Part) → Type 0
ShowsNewcomer l s v =
    (x : Packet) → newcomer l.build (some_send l.build 0 s.places) s.frames (flushed l.build 0 s.places) ≡ Some x
    → IsShownIn (part.sources l.sizes) l.kept v (get_or s.frames (inside (flushed l.build 0 s.places)) no_frame)

-- ---- the laws
-- A clock in which it is shown whether packets move on, and the frame of one that is injected.
abbrev pub PacketsFollow : Type 0
PacketsFollow =
    (l : Layout) (d : Whole Part) → IsSized l → (parts : AreStageParts l d) → d.parts ≡ parts_of l.sizes
    → (i : Inputs) (t : Trace) (ss : Part → Stored) (v : Env (Name Part)) → IsInOrder l.build t → IsComputed l.build t → HoldPackets l t.state ss → HoldMaps l t.state ss → Sees d (words_of i) ss v
    → ((p : Part) → Among p d.parts → IsStored (d.block p) (ss p)) → PlacesAreFit l d parts v → AreServed l t.state
    → v.net (advances l) ≡ bit (moves_in l.build (input_of i) t.state) → ShowsNewcomer l t.state v
    → HoldPackets l (clock l.build (input_of i) t.state) (λ p. done v (d.block p).statement (ss p))

abbrev pub PacketsBegin : Type 0
PacketsBegin = (l : Layout) (d : Whole Part) (maps : MapState) → HoldPackets l (new_state l.build maps) (λ p. first_of (d.block p))
