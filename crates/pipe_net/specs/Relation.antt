-- What the parts of a pipeline store for a state of the machine.
use Rattle.std.specs.Prelude.{◌≡◌, ℕ, suc, ◌+◌, ◌^◌, ◌<◌, ◌≤◌, Bool, true, false, Option, Some, is_some, List, [], ◌∷◌, length, map, filter, slice_index}
use Rattle.std.proofs.Common.{get_or}
use Rattle.beat_core.specs.declared.answer.Answer.{Answer}
use Rattle.beat_core.specs.Beats.{beat_count}
use Rattle.beat_core.specs.Ports.{Arrival}
use Rattle.block_core.specs.net_core.declared.tree.Word.{Word}
use Rattle.block_core.specs.net_core.Suits.{IsOfWidth}
use Rattle.block_core.specs.net_core.Value.{word, bit, nothing}
use Rattle.block_core.specs.net_core.Clock.{Stored}
use Rattle.block_core.specs.Blocks.{BlockTree, Whole, Among}
use Rattle.block_core.specs.Formed.{block_registers, block_memories}
use Rattle.hazard_core.specs.cell_core.Rows.{numbers}
use Rattle.hazard_core.specs.cell_core.Sites.{site_at}
use Rattle.hazard_core.specs.Tables.{TableState, decl_of, table_at}
use Rattle.hazard_core.specs.StageValues.{stage_value, pointer_in}
use Rattle.hazard_core.specs.Marks.{known_off, has_read}
use Rattle.pipe_core.specs.Machine.{Packet, State, inside, place_at, no_frame, marked_at}
use Rattle.control_net.specs.Control as control
use Rattle.control_net.specs.Control.{IsSound}
use Rattle.control_net.specs.Block.{code}
use Rattle.control_net.specs.RingNet.Ring.{slot}
use Rattle.commit_net.specs.frame_net.declared.held.Kept.{Kept}
use Rattle.commit_net.specs.frame_net.Frames.{HoldsFrame, Gathers, word_at}
use Rattle.commit_net.specs.frame_net.Answers.{HoldsAnswer, Changes}
use Rattle.stage_net.specs.row_net.PlaceNet.Exit.{byte_numbers}
use Rattle.stage_net.specs.row_net.SitePlace.SitePlace.{site_words}
use Rattle.hazard_core.specs.HeldRows.Fits.{FitsRows}
use Rattle.turn_net.specs.Action.{StoresAction}
use Rattle.commit_net.specs.MapBlock.Stored.{StoresMap}
use Rattle.pipe_net.specs.declared.parts.Part.{Part}
use Rattle.pipe_net.specs.Parts as part
use Rattle.pipe_net.specs.Layout.{Layout, program_of, cells_of, last_of, commit_of}

-- ---- words of their widths

-- memories of these widths of indexes and words
pub record IsMemory (index width : ℕ) (m : List Word) : Type 0 where
  pub count : length m ≡ 2 ^ index
  pub each : (a : ℕ) → a < 2 ^ index → IsOfWidth width (word_at m a)

-- What is stored has the widths of a block, whatever it holds.
pub record IsStored {N : Type 0} (b : BlockTree N) (s : Stored) : Type 0 where
  pub registers : length s.registers ≡ length b.registers
  pub memories : length s.memories ≡ length b.memories
  pub register : (i : ℕ) → i < length b.registers → IsOfWidth (get_or (block_registers b) i 0) (get_or s.registers i nothing)
  pub memory : (i : ℕ) → i < length b.memories → IsMemory (get_or (block_memories b) i (0, 0)).0 (get_or (block_memories b) i (0, 0)).1 (get_or s.memories i [])

-- ---- frames

-- what control knows, where so many answers are given and the packets in the places up to the commit place have these numbers
abbrev pub counts : ℕ → List ℕ → State → control.State
counts given ns s = record {
  given = given;
  answered = given + length s.answers;
  injected = given + length s.answers + inside s.places;
  gathered = given + length s.answers + length s.frames;
  holds = map is_some s.places;
  numbers = ns;
  passed = s.passed;
}

-- the frames without an answer stand in their slots
abbrev pub HoldsFrames : List Kept → ℕ → List (List Word) → ℕ → List Arrival → Type 0
HoldsFrames kept slots ms from frames = (j : ℕ) → j < length frames → HoldsFrame kept ms (slot slots (from + j)) (get_or frames j no_frame)

-- an answer stands in a slot beside the frame that it answers
pub record HoldsAnswered (kept : List Kept) (bytes words : List ℕ) (ms es : List (List Word)) (at : ℕ) (r : Answer) : Type 0 where
  pub frame : Arrival
  pub held : HoldsFrame kept ms at frame
  pub answer : HoldsAnswer bytes words es at r
  pub changes : Changes bytes frame.frame r

abbrev pub no_answer : Answer
no_answer = record { verdict = 0; target = 0; frame = [] }

abbrev pub HoldsAnswers : List Kept → List ℕ → List ℕ → ℕ → List (List Word) → List (List Word) → ℕ → List Answer → Type 0
HoldsAnswers kept bytes words slots ms es from answers =
    (j : ℕ) → j < length answers → HoldsAnswered kept bytes words ms es (slot slots (from + j)) (get_or answers j no_answer)

-- the next beat of the first answer is there; where there is no answer it is a first one
abbrev pub IsAt : ℕ → List Answer → Type 0
IsAt pos [] = pos ≡ 0
IsAt pos (r ∷ more) = pos < beat_count (length r.frame)

-- The parts of frames store what a state says of them, where so many answers are given whole and packets have these numbers.
pub record HoldFrames (l : Layout) (given : ℕ) (ns : List ℕ) (s : State) (ss : Part → Stored) : Type 0 where
  pub sound : IsSound l.shape (is_some s.part) (counts given ns s)
  pub control : ss (part.control l.sizes) ≡ code l.shape (counts given ns s)
  pub gather : Gathers l.shape.slot_bits l.kept s.part (slot l.shape.slots (counts given ns s).gathered) (ss (part.gather l.sizes))
  pub frames : HoldsFrames l.kept l.shape.slots (ss (part.gather l.sizes)).memories (counts given ns s).answered s.frames
  pub answers : HoldsAnswers l.kept (byte_numbers l.answer) l.words l.shape.slots (ss (part.gather l.sizes)).memories (ss (part.exit l.sizes)).memories given s.answers
  pub scatter : (ss part.scatter).registers ≡ word 11 s.pos ∷ []
  pub position : IsAt s.pos s.answers

-- ---- packets

-- the registers of a place hold the cells of its packet, and the pointers that go with them
abbrev pub HoldsPacket : Layout → ℕ → Option Packet → Stored → Type 0
HoldsPacket l k x s = (y : Packet) → x ≡ Some y → s.registers ≡ site_words (cells_of l) l.bits (stage_value y.held) (pointer_in y.held) (l.held k) (l.held_pointers k)

-- how many slots the greatest map has at most
abbrev pub most_slots : ℕ
most_slots = 65536

pub record HoldPackets (l : Layout) (s : State) (ss : Part → Stored) : Type 0 where
  pub each : (k : ℕ) → k ≤ last_of l → HoldsPacket l k (place_at s.places k) (ss (part.place l.sizes k))
  pub fits : (k : ℕ) (x : Packet) → k ≤ last_of l → place_at s.places k ≡ Some x → FitsRows (program_of l) l.decls l.build.plan.row l.flags most_slots (suc k) x.held

-- ---- marks

-- the sites at which a packet in a place has read
abbrev pub read_sites : Layout → ℕ → List ℕ
read_sites l k = filter (has_read (program_of l) l.build.plan.row k) (numbers 0 (length (program_of l).sites))

-- Registers hold the marks of a packet, but where the guard of a site is known as 0; there a mark does not count. At other sites none stands.
pub record HoldsMarks (l : Layout) (k : ℕ) (x : Packet) (registers : List Word) : Type 0 where
  pub each :
      (i : ℕ) → i < length (read_sites l k) → known_off l.build.plan.row k x.held (site_at (program_of l).sites (slice_index (read_sites l k) i)) ≡ false
      → get_or registers i nothing ≡ bit (marked_at x (slice_index (read_sites l k) i))
  pub others : (j : ℕ) → has_read (program_of l) l.build.plan.row k j ≡ false → marked_at x j ≡ false

abbrev pub HoldMarks : Layout → State → (Part → Stored) → Type 0
HoldMarks l s ss = (k : ℕ) (x : Packet) → k ≤ commit_of l → place_at s.places k ≡ Some x → HoldsMarks l k x (ss (part.marks l.sizes k)).registers

-- ---- maps

-- what says which operation commits stores how far the packet at the commit place is, and each map has its table
pub record HoldMaps (l : Layout) (s : State) (ss : Part → Stored) : Type 0 where
  pub decls : s.tables.decls ≡ l.decls
  pub long : length s.taken ≡ length (program_of l).sites
  pub action : StoresAction l.action_shape l.records s.done s.taken (ss (part.action l.sizes))
  pub tables : (m : ℕ) → m < length l.decls → StoresMap (decl_of l.decls m) (l.slot_bits m) (table_at s.tables m) (ss (part.own l.sizes m))

-- ---- all parts

pub record Relates (l : Layout) (d : Whole Part) (s : State) (ss : Part → Stored) : Type 0 where
  pub given : ℕ
  pub packet_numbers : List ℕ
  pub stored : (p : Part) → Among p d.parts → IsStored (d.block p) (ss p)
  pub frames : HoldFrames l given packet_numbers s ss
  pub packets : HoldPackets l s ss
  pub marks : HoldMarks l s ss
  pub maps : HoldMaps l s ss
