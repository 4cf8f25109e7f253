-- What contracts see of the frames inside and of their answers.
use Rattle.std.specs.Prelude.{◌≡◌, ℕ, ◌+◌, ◌*◌, ◌≤◌, Bool, if◌then◌else◌, ◌||◌, nat_lt, is_some, Option, Some, None, List, [], ◌∷◌, ◌++◌, length, drop}
use Rattle.realization.specs.beat_core.declared.answer.Answer.{Answer}
use Rattle.realization.specs.beat_core.Ports.{Arrival}
use Rattle.std.proofs.Common.{get_or}
use Rattle.hazard_core.specs.cell_core.Sites.{ProgramView, with_bytes}
use Rattle.hazard_core.specs.StageValues.{stage_value}
use Rattle.pipe_core.specs.Machine.{Packet, no_frame}
use Rattle.pipe_core.specs.declared.arrived.TheConstants.{FRAME_ROOM}

-- as in the state of the machine, and how many frames there is room for
pub record FrameQueue : Type 0 where
  pub answers : List Answer
  pub pos : ℕ
  pub frames : List Arrival
  pub part : Option Arrival
  pub slots : ℕ

abbrev pub empty_frame_queue : ℕ → FrameQueue
empty_frame_queue slots = record { answers = []; pos = 0; frames = []; part = None; slots = slots }

abbrev pub has_slot : FrameQueue → Bool
has_slot q = is_some q.part || nat_lt (length q.answers + length q.frames) q.slots

-- how many bytes have come of a frame that is coming
abbrev pub came_bytes : Option Arrival → ℕ
came_bytes None = 0
came_bytes (Some c) = length c.frame

-- the same after a beat, with which so much has come; it is a last one or not
abbrev pub gathered_as : Bool → Arrival → FrameQueue → FrameQueue
gathered_as last c q = if last then record q { frames = q.frames ++ c ∷ []; part = None } else record q { part = Some c }

-- the same after a beat of the oldest answer, a last one or not
abbrev pub given_as : Bool → FrameQueue → FrameQueue
given_as last q = if last then record q { answers = drop 1 q.answers; pos = 0 } else record q { pos = q.pos + 1 }

-- the verdict and the target of a packet that leaves
abbrev pub left_word : ProgramView → Packet → ℕ × ℕ
left_word p x = (stage_value x.held p.verdict, stage_value x.held p.target)

-- The oldest frame becomes what such a packet leaves there, if there is one.
abbrev pub left_frames : ProgramView → Option Packet → List Arrival → List Arrival
left_frames p None fs = fs
left_frames p (Some x) [] = []
left_frames p (Some x) (f ∷ fs) = record f { frame = with_bytes (stage_value x.held) f.frame p.frame } ∷ fs

-- and goes over to the answers
abbrev pub answered_as : Option (ℕ × ℕ) → FrameQueue → FrameQueue
answered_as None q = q
answered_as (Some left) q = record q {
  answers = q.answers ++ record { verdict = left.0; target = left.1; frame = (get_or q.frames 0 no_frame).frame } ∷ [];
  frames = drop 1 q.frames;
}

-- Each slot has a buffer: one for each answer and each frame, one for the frame that is coming, and the others are spare. Each list has room for all.
pub record AreHoused (slots answers frames part spare answers_cap frames_cap spare_cap pos : ℕ) : Type 0 where
  pub count : answers + frames + part + spare ≡ slots
  pub answers_room : slots ≤ answers_cap
  pub frames_room : slots ≤ frames_cap
  pub spare_room : slots ≤ spare_cap
  pub place : 8 * pos ≤ FRAME_ROOM
