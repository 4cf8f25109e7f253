-- Accesses of packets go through pointers into their own maps.
use Rattle.std.specs.Prelude.{◌≡◌, ℕ, suc, ◌<◌, ◌≤◌, true, Some, None, length, slice_index}
use Rattle.hazard_core.specs.xdp_maps.State.{MapState}
use Rattle.hazard_core.specs.xdp_machine.State.{PacketIn}
use Rattle.block_core.specs.net_core.declared.ports.Inputs.{Inputs}
use Rattle.block_core.specs.net_core.Clock.{Stored}
use Rattle.hazard_core.specs.cell_core.Acts.{is_access, pointer_operand}
use Rattle.hazard_core.specs.cell_core.Cells.{cell_at, site_in}
use Rattle.hazard_core.specs.cell_core.Sites.{SiteView, site_at}
use Rattle.hazard_core.specs.Tables.{TableState}
use Rattle.hazard_core.specs.StageValues.{StageValues, pointer_in, access_pointer}
use Rattle.hazard_core.specs.Rows.{cell_pointer}
use Rattle.hazard_core.specs.TableLaws.Leading.{LeadsInto, FoundsLead}
use Rattle.pipe_core.specs.Machine.{Packet, State, Build, place_at, new_state, clock}
use Rattle.pipe_core.specs.History.{Trace, IsInOrder}
use Rattle.pipe_core.specs.Computed.{IsComputed}
use Rattle.pipe_core.specs.Agreement.{IsMade, ReadsFit}
use Rattle.pipe_net.specs.declared.parts.Part.{Part}
use Rattle.pipe_net.specs.Machine.{input_of}
use Rattle.pipe_net.specs.Layout.{Layout, program_of, last_of}
use Rattle.pipe_net.specs.Relation.{HoldPackets}
use Rattle.pipe_net.specs.PipePlaces.Layout.{IsLaidOut}
use Rattle.pipe_net.specs.PipePlaces.Following.{HasEntries}

-- the cell whose pointer an access goes through
abbrev pub pointer_cell : SiteView → ℕ
pointer_cell s = slice_index s.operands (pointer_operand s.act)

-- Each access goes through a pointer into its own map, on the path or not and whatever reads answer: where a packet holds of the rows below r what the cells that are no reads make of
-- the others, its reads fit their cells, and what it found of keys leads into the maps of their sites, the pointer of an access does so too if its cell is in these rows.
abbrev pub AccessesLead : Build → Type 0
AccessesLead b =
    (t : TableState) (packet : PacketIn) (r : ℕ) (h : StageValues)
    → ((c : ℕ) → c < length b.program.cells → b.plan.row c < r → site_in (cell_at b.program.cells c).op ≡ None → IsMade b t packet h c) → ReadsFit b r h → FoundsLead b.program t h
    → (j : ℕ) → j < length b.program.sites → is_access (site_at b.program.sites j).act ≡ true → b.plan.row (pointer_cell (site_at b.program.sites j)) < r
    → LeadsInto b.program t (site_at b.program.sites j).map (access_pointer h (site_at b.program.sites j))

-- What a packet found of keys leads into the maps of their sites, and of the rows below r the other cells have the pointers that they make of what it holds.
pub record HasPointers (b : Build) (t : TableState) (r : ℕ) (h : StageValues) : Type 0 where
  pub founds : FoundsLead b.program t h
  pub others : (c : ℕ) → c < length b.program.cells → b.plan.row c < r → site_in (cell_at b.program.cells c).op ≡ None
      → pointer_in h c ≡ cell_pointer b.program b.plan.row (b.plan.row c) t h (cell_at b.program.cells c) (cell_at b.program.cells c).op

abbrev pub HavePointers : Layout → State → Type 0
HavePointers l s = (k : ℕ) (x : Packet) → k ≤ last_of l → place_at s.places k ≡ Some x → HasPointers l.build s.tables (suc k) x.held

-- A clock keeps this, whatever it does.
abbrev pub EntriesFollow : Type 0
EntriesFollow =
    (l : Layout) → IsLaidOut l → (i : Inputs) (t : Trace) (ss : Part → Stored) → IsInOrder l.build t → HoldPackets l t.state ss → HavePointers l t.state → HavePointers l (clock l.build (input_of i) t.state)

abbrev pub EntriesBegin : Type 0
EntriesBegin = (l : Layout) (maps : MapState) → HavePointers l (new_state l.build maps)

-- So each access of a packet goes through a pointer to a slot that its map has.
abbrev pub EntriesServe : Type 0
EntriesServe =
    (l : Layout) → AccessesLead l.build → (t : Trace) (ss : Part → Stored) → IsComputed l.build t → HoldPackets l t.state ss → HavePointers l t.state
    → (k : ℕ) (x : Packet) → k ≤ last_of l → place_at t.state.places k ≡ Some x → HasEntries (program_of l) t.state.tables x.held
