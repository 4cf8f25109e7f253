-- A clock of the parts of frames.
use Rattle.std.specs.Prelude.{◌≡◌, ℕ, not, Some, is_some, List, length, map}
use Rattle.std.proofs.Common.{get_or}
use Rattle.hazard_core.specs.xdp_maps.State.{MapState}
use Rattle.beat_core.specs.declared.beat.Beat.{Beat}
use Rattle.block_core.specs.net_core.declared.ports.Inputs.{Inputs}
use Rattle.block_core.specs.net_core.Ports.{words_of}
use Rattle.block_core.specs.net_core.Value.{word, bit, Env}
use Rattle.block_core.specs.net_core.Clock.{Stored, done}
use Rattle.block_core.specs.declared.name.Name.{Name}
use Rattle.block_core.specs.Blocks.{Whole, Among, first_of}
use Rattle.block_core.specs.Parts.{Sees}
use Rattle.pipe_core.specs.Machine.{Packet, State, newcomer, some_send, flushed, inside, no_frame, is_ready, shown_beat, first_answer, new_state, clock}
use Rattle.control_net.specs.declared.ring_net.names.Register.TheVariants.{Passed}
use Rattle.control_net.specs.RingNet.Names.{register_name}
use Rattle.control_net.specs.declared.names.Wire.TheVariants as wire
use Rattle.commit_net.specs.frame_net.ScatterNet.Scatter.{last_name, bytes_name, verdict_name, target_name, data_name}
use Rattle.stage_net.specs.row_net.PlaceNet.Exit.{byte_numbers}
use Rattle.stage_net.specs.row_net.PlaceNet.Sources.{IsShownIn}
use Rattle.pipe_net.specs.declared.parts.Part.{Part}
use Rattle.pipe_net.specs.Parts as part
use Rattle.pipe_net.specs.Parts.{parts_of}
use Rattle.pipe_net.specs.Machine.{input_of, MayCome}
use Rattle.pipe_net.specs.Layout.{Layout, IsSized, HasAnswer}
use Rattle.pipe_net.specs.Relation.{IsStored, HoldFrames}
use Rattle.pipe_net.specs.Saying.{moves_in, ShowReloads, ShowAnswers}
use Rattle.pipe_net.specs.PipeFrames.Parts.{AreFrameParts, told_by}

-- ---- what the other parts say
pub record OthersSay (l : Layout) (i : Inputs) (s : State) (v : Env (Name Part)) : Type 0 where
  pub reload : ShowReloads l s v
  pub stays : v.net l.stays ≡ bit (not (moves_in l.build (input_of i) s))
  pub answer : ShowAnswers l s v

-- ---- what these parts say and do
-- the beat that is shown, with its verdict and target
pub record ShowsBeat (l : Layout) (s : State) (x : Beat) (words : ℕ) (v : Env (Name Part)) : Type 0 where
  pub content : v.net (data_name part.scatter words) ≡ word 64 x.word
  pub bytes : v.net (bytes_name part.scatter) ≡ word 4 x.bytes
  pub last : v.net (last_name part.scatter) ≡ bit x.last
  pub verdict : v.net (verdict_name part.scatter) ≡ word 32 (first_answer s.answers).verdict
  pub target : v.net (target_name part.scatter) ≡ word 32 (first_answer s.answers).target

pub record ShowFrames (l : Layout) (i : Inputs) (s : State) (words : ℕ) (v : Env (Name Part)) : Type 0 where
  pub ready : v.net (told_by l.sizes wire.Ready) ≡ bit (is_ready l.build s)
  pub shown : v.net (told_by l.sizes wire.Shown) ≡ bit (is_some (shown_beat s))
  pub beat : (x : Beat) → shown_beat s ≡ Some x → ShowsBeat l s x words v
  pub passed : v.net (register_name (part.control l.sizes) Passed) ≡ word 32 s.passed
  pub advances : v.net (told_by l.sizes wire.Advances) ≡ bit (moves_in l.build (input_of i) s)
  -- of a packet that is injected its frame is shown
  pub frame : (x : Packet) → newcomer l.build (some_send l.build 0 s.places) s.frames (flushed l.build 0 s.places) ≡ Some x → IsShownIn (part.sources l.sizes) l.kept v (get_or s.frames (inside (flushed l.build 0 s.places)) no_frame)

-- ---- the laws
-- What is stored after a clock is what the machine's next state says, for numbers of answers and of packets that control then has.
pub record FramesGo (l : Layout) (d : Whole Part) (i : Inputs) (s : State) (ss : Part → Stored) (v : Env (Name Part)) : Type 0 where
  pub given : ℕ
  pub packet_numbers : List ℕ
  pub held : HoldFrames l given packet_numbers (clock l.build (input_of i) s) (λ p. done v (d.block p).statement (ss p))

-- What is asked of the layout: the bytes that may change are those of the answer's frame, each once.
pub record HasBytes (l : Layout) : Type 0 where
  pub answer : HasAnswer l.build
  pub changed : byte_numbers l.answer ≡ map (λ x. x.at) l.build.program.frame

-- Where parts store what a state of the machine says of frames, in registers and memories of their blocks' widths, they show in a clock what the machine does, whatever beat is
-- offered; and where only what may come does they store after it what the machine's next state says.
abbrev pub FramesFollow : Type 0
FramesFollow =
    (l : Layout) (d : Whole Part) → IsSized l → HasBytes l → AreFrameParts l d → d.parts ≡ parts_of l.sizes
    → (i : Inputs) (s : State) (ss : Part → Stored) (v : Env (Name Part)) (given : ℕ) (ns : List ℕ) → ((p : Part) → Among p d.parts → IsStored (d.block p) (ss p)) → HoldFrames l given ns s ss → Sees d (words_of i) ss v
    → OthersSay l i s v → ShowFrames l i s (length l.words) v × (MayCome l.build s i → FramesGo l d i s ss v)

-- Before the first clock they store what the machine's first state says.
abbrev pub FramesBegin : Type 0
FramesBegin =
    (l : Layout) (d : Whole Part) (maps : MapState) → IsSized l → AreFrameParts l d → (ns : List ℕ) × HoldFrames l 0 ns (new_state l.build maps) (λ p. first_of (d.block p))
