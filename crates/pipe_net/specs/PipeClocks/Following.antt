-- The design of a pipeline follows the machine of the pipe.
use Rattle.std.specs.Prelude.{◌≡◌, ℕ, ◌<◌, None, List, length, map}
use Rattle.hazard_core.specs.xdp_maps.State.{MapState}
use Rattle.block_core.specs.net_core.declared.ports.Inputs.{Inputs}
use Rattle.block_core.specs.net_core.Ports.{words_of}
use Rattle.block_core.specs.net_core.Clock.{Stored, after, shown, stopping, first_stored}
use Rattle.block_core.specs.net_core.Trace.{IsInput}
use Rattle.block_core.specs.Blocks.{Whole}
use Rattle.block_core.specs.Parts.{stored_of}
use Rattle.hazard_core.specs.Tables.{decl_of, table_at, tables_of}
use Rattle.commit_net.specs.MapBlock.Stored.{IsFirst}
use Rattle.stage_net.specs.row_net.PlaceNet.Exit.{byte_numbers}
use Rattle.pipe_core.specs.Machine.{State, new_state, clock, output}
use Rattle.pipe_core.specs.History.{Trace, IsInOrder}
use Rattle.pipe_core.specs.Computed.{IsComputed}
use Rattle.pipe_net.specs.declared.parts.Part.{Part}
use Rattle.pipe_net.specs.Machine.{input_of, MayCome, Shows}
use Rattle.pipe_net.specs.Layout.{Layout}
use Rattle.pipe_net.specs.Relation.{Relates}
use Rattle.pipe_net.specs.PipePlaces.Following.{AreServed}
use Rattle.pipe_net.specs.PipeTurns.Acting.{IsRightAction}
use Rattle.pipe_net.specs.PipeMaps.Premises.{HoldKeys}
use Rattle.pipe_net.specs.PipeForms.Parts.{design, AreParts}

-- A pipeline of these parts; the bytes that may change are those of the answer's frame.
pub record IsPipeline (l : Layout) (d : Whole Part) : Type 0 where
  pub parts : AreParts l d
  pub changed : byte_numbers l.answer ≡ map (λ x. x.at) l.build.program.frame

-- What is asked of a state and of what comes: the tables can be read by the packets inside, the operation that commits is a right one, and slots have bytes and keys of their maps.
pub record IsFollowable (l : Layout) (i : Inputs) (s : State) : Type 0 where
  pub served : AreServed l s
  pub right : IsRightAction l i s
  pub keys : HoldKeys s.tables

-- One clock: no divisor is 0, the outputs show what the machine does, and what the parts store then is what its next state says.
pub record Follows (l : Layout) (d : Whole Part) (names : List (List ℕ)) (i : Inputs) (s : State) (ss : Part → Stored) : Type 0 where
  pub goes : stopping (design l d names) (words_of i) (stored_of d ss) ≡ None
  pub shown : Shows (output l.build (input_of i) s) (shown (design l d names) (words_of i) (stored_of d ss))
  pub next : Part → Stored
  pub after : after (design l d names) (words_of i) (stored_of d ss) ≡ stored_of d next
  pub related : Relates l d (clock l.build (input_of i) s) next

-- Where the parts store what a state of the machine says, the outputs show what the machine does, whatever beat is offered.
abbrev pub ClocksShow : Type 0
ClocksShow =
    (l : Layout) (d : Whole Part) (names : List (List ℕ)) → IsPipeline l d
    → (i : Inputs) (t : Trace) (ss : Part → Stored) → IsInOrder l.build t → IsComputed l.build t → IsInput i → IsFollowable l i t.state → Relates l d t.state ss
    → Shows (output l.build (input_of i) t.state) (shown (design l d names) (words_of i) (stored_of d ss))

-- And a clock in which only what may come does follows the machine.
abbrev pub ClocksFollow : Type 0
ClocksFollow =
    (l : Layout) (d : Whole Part) (names : List (List ℕ)) → IsPipeline l d
    → (i : Inputs) (t : Trace) (ss : Part → Stored) → IsInOrder l.build t → IsComputed l.build t → MayCome l.build t.state i → IsFollowable l i t.state → Relates l d t.state ss
    → Follows l d names i t.state ss

-- The declared values of the design are what its parts store before the first clock, and that is what the machine's first state says.
pub record BeginsRelated (l : Layout) (d : Whole Part) (names : List (List ℕ)) (maps : MapState) : Type 0 where
  pub first : Part → Stored
  pub stored : first_stored (design l d names) ≡ stored_of d first
  pub related : Relates l d (new_state l.build maps) first

-- Then hashes have no entries, and arrays zeros.
abbrev pub BeginRelated : Type 0
BeginRelated =
    (l : Layout) (d : Whole Part) (names : List (List ℕ)) (maps : MapState) → IsPipeline l d → maps.decls ≡ l.decls → ((m : ℕ) → m < length l.decls → IsFirst (decl_of l.decls m) (table_at (tables_of maps) m))
    → BeginsRelated l d names maps
