-- What the clocks of a pipeline keep.
use Rattle.std.specs.Prelude.{◌≡◌, ℕ, ◌<◌, ◌≤◌, None, Some, List, [], ◌∷◌, length}
use Rattle.hazard_core.specs.xdp_maps.State.{MapState, IsSound}
use Rattle.block_core.specs.net_core.declared.ports.Inputs.{Inputs}
use Rattle.block_core.specs.net_core.Ports.{words_of}
use Rattle.block_core.specs.net_core.Clock.{Stored, after, shown, stopping, first_stored}
use Rattle.block_core.specs.net_core.Trace.{IsInput}
use Rattle.block_core.specs.Blocks.{Whole}
use Rattle.block_core.specs.Parts.{stored_of}
use Rattle.hazard_core.specs.Tables.{decl_of, table_at, tables_of}
use Rattle.hazard_core.specs.Tabled.{AreTables}
use Rattle.hazard_core.specs.Changes.{IsRightCommit}
use Rattle.commit_net.specs.MapBlock.Stored.{IsFirst}
use Rattle.pipe_core.specs.Machine.{Packet, State, Commits, place_at, output}
use Rattle.pipe_core.specs.History.{Trace, next, begin, IsInOrder}
use Rattle.pipe_core.specs.Computed.{IsComputed}
use Rattle.pipe_net.specs.declared.parts.Part.{Part}
use Rattle.pipe_net.specs.Machine.{input_of, MayCome, Shows}
use Rattle.pipe_net.specs.Layout.{Layout, program_of, last_of}
use Rattle.pipe_net.specs.Relation.{Relates}
use Rattle.pipe_net.specs.Saying.{action_in}
use Rattle.pipe_net.specs.PipePlaces.Entries.{AccessesLead, HavePointers}
use Rattle.pipe_net.specs.PipeMaps.Premises.{HoldKeys}
use Rattle.pipe_net.specs.PipeForms.Parts.{design}
use Rattle.pipe_net.specs.PipeClocks.Following.{IsPipeline, Follows}

-- After these clocks the parts store what the machine's state says; slots have bytes and keys of their maps, and what packets found of keys leads into the maps of sites.
pub record Stands (l : Layout) (d : Whole Part) (t : Trace) (ss : Part → Stored) : Type 0 where
  pub order : IsInOrder l.build t
  pub computed : IsComputed l.build t
  pub related : Relates l d t.state ss
  pub keys : HoldKeys t.state.tables
  pub pointers : HavePointers l t.state

-- What is asked of a clock: where a packet is inside the tables are tables of their declarations, and an operation that commits is a right one.
pub record IsRightClock (l : Layout) (i : Inputs) (s : State) : Type 0 where
  pub tables : (k : ℕ) (x : Packet) → k ≤ last_of l → place_at s.places k ≡ Some x → AreTables s.tables
  pub commits : (j : ℕ) (x : Packet) → action_in l.build (input_of i) s ≡ Commits j x → IsRightCommit (program_of l) s.tables s.taken x.held j

-- ---- the laws
pub record GoesOn (l : Layout) (d : Whole Part) (names : List (List ℕ)) (i : Inputs) (t : Trace) (ss : Part → Stored) : Type 0 where
  pub follows : Follows l d names i t.state ss
  pub stands : Stands l d (next l.build (input_of i) t) follows.next

-- A clock keeps this, and follows the machine.
abbrev pub ClocksGoOn : Type 0
ClocksGoOn =
    (l : Layout) (d : Whole Part) (names : List (List ℕ)) → IsPipeline l d → AccessesLead l.build
    → (i : Inputs) (t : Trace) (ss : Part → Stored) → MayCome l.build t.state i → IsRightClock l i t.state → Stands l d t ss → GoesOn l d names i t ss

-- the maps before the first clock: hashes have no entries, and arrays zeros
pub record AreFirst (l : Layout) (maps : MapState) : Type 0 where
  pub decls : maps.decls ≡ l.decls
  pub sound : IsSound maps
  pub first : (m : ℕ) → m < length l.decls → IsFirst (decl_of l.decls m) (table_at (tables_of maps) m)

pub record Starts (l : Layout) (d : Whole Part) (names : List (List ℕ)) (maps : MapState) : Type 0 where
  pub first : Part → Stored
  pub stored : first_stored (design l d names) ≡ stored_of d first
  pub stands : Stands l d (begin l.build maps) first

-- So it is before the first clock.
abbrev pub PipelinesStart : Type 0
PipelinesStart = (l : Layout) (d : Whole Part) (names : List (List ℕ)) (maps : MapState) → IsPipeline l d → AreFirst l maps → Starts l d names maps

-- The same clock after clock, while only what may come does and what commits is right; where something else comes, too, the outputs show what the machine does, but then nothing is
-- said of what follows.
abbrev pub FollowsAll : Layout → Whole Part → List (List ℕ) → List Inputs → Trace → Stored → Type 0
FollowsAll l d names [] t st = Unit {0}
FollowsAll l d names (i ∷ is) t st =
    (IsInput i → IsRightClock l i t.state → Shows (output l.build (input_of i) t.state) (shown (design l d names) (words_of i) st))
    × (MayCome l.build t.state i → IsRightClock l i t.state
    → (stopping (design l d names) (words_of i) st ≡ None) × FollowsAll l d names is (next l.build (input_of i) t) (after (design l d names) (words_of i) st))

-- Whatever blocks of these contracts are linked: every list of clocks from the first on follows the machine.
abbrev pub PipelinesFollow : Type 0
PipelinesFollow =
    (l : Layout) (d : Whole Part) (names : List (List ℕ)) (maps : MapState) → IsPipeline l d → AccessesLead l.build → AreFirst l maps
    → (is : List Inputs) → FollowsAll l d names is (begin l.build maps) (first_stored (design l d names))
