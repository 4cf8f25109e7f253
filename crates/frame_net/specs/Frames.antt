-- Frames that are held in memories, by slot: their beats one after another, the number of the last beat and how many bytes it has, and
-- what else is kept of them.
use Rattle.std.specs.Prelude.{◌≡◌, ℕ, zero, suc, ◌+◌, ◌-◌, ◌*◌, ◌/◌, ◌%◌, ◌^◌, ◌<◌, min, Option, Some, None, is_some, List, [], ◌∷◌, ◌++◌, length, drop, map}
use Rattle.std.proofs.Common.{get_or}
use Rattle.beat_core.specs.list_laws.Bytes.{IsBytes}
use Rattle.beat_core.specs.declared.beat.Beat.{Beat}
use Rattle.beat_core.specs.Beats.{first_beat, beat_count}
use Rattle.beat_core.specs.Laws.{IsFrame}
use Rattle.beat_core.specs.Ports.{Arrival}
use Rattle.net_core.specs.declared.tree.Word.{Word}
use Rattle.net_core.specs.Value.{word, bit, nothing}
use Rattle.net_core.specs.Clock.{Stored}
use Rattle.frame_net.specs.declared.held.Kept.{Kept}
use Rattle.frame_net.specs.declared.held.Kept.TheVariants.{Ifindex, Time, Word as FrameWord}
use Rattle.frame_net.specs.declared.held.Further.{Further}
use Rattle.frame_net.specs.declared.held.Further.TheVariants.{Kept as Keep, Bank}

-- beat b of a frame
abbrev pub beat_of : List ℕ → ℕ → Beat
beat_of xs b = first_beat (drop (8 * b) xs)

-- the number of the last beat
abbrev pub last_of : List ℕ → ℕ
last_of xs = beat_count (length xs) - 1

abbrev pub word_at : List Word → ℕ → Word
word_at m i = get_or m i nothing

-- each beat of the frame, whose bytes past the end are 0
abbrev pub HoldsBeats : List Word → ℕ → List ℕ → Type 0
HoldsBeats m slot xs = (b : ℕ) → b < beat_count (length xs) → word_at m (slot * 2 ^ 11 + b) ≡ word 64 (beat_of xs b).word

-- a word of the frame, where the frame has it
abbrev pub HoldsKept : Kept → List Word → ℕ → Arrival → Type 0
HoldsKept Ifindex m slot a = word_at m slot ≡ word 32 a.ifindex
HoldsKept Time m slot a = word_at m slot ≡ word 64 a.time
HoldsKept (FrameWord j) m slot a = j < beat_count (length a.frame) → word_at m slot ≡ word 64 (beat_of a.frame j).word

-- ---- memories of beats: one for each 32 slots, the first in front of the others and the further ones after all
-- how many bits of a slot's number tell the slots of one memory apart
abbrev pub bank_bits : ℕ → ℕ
bank_bits bits = min bits 5

abbrev pub banks : ℕ → ℕ
banks bits = 2 ^ (bits - 5)

-- the number of such a memory
abbrev pub bank : List Kept → ℕ → ℕ
bank kept zero = 0
bank kept (suc b) = 3 + (length kept + b)

abbrev pub banks_from : ℕ → ℕ → List Further
banks_from b zero = []
banks_from b (suc n) = Bank b ∷ banks_from (suc b) n

-- the memories after the first three
abbrev pub further : ℕ → List Kept → List Further
further bits kept = map Keep kept ++ banks_from 1 (banks bits - 1)

-- the memories hold what has come of a frame
pub record HoldsPart (kept : List Kept) (ms : List (List Word)) (slot : ℕ) (a : Arrival) : Type 0 where
  pub beats : HoldsBeats (get_or ms (bank kept (slot / 32)) []) (slot % 32) a.frame
  pub rest : (k : ℕ) → k < length kept → HoldsKept (get_or kept k Ifindex) (get_or ms (3 + k) []) slot a

-- the memories hold a whole frame
pub record HoldsFrame (kept : List Kept) (ms : List (List Word)) (slot : ℕ) (a : Arrival) : Type 0 where
  pub frame : IsFrame a.frame
  pub part : HoldsPart kept ms slot a
  pub last : word_at (get_or ms 1 []) slot ≡ word 11 (last_of a.frame)
  pub bytes : word_at (get_or ms 2 []) slot ≡ word 4 (beat_of a.frame (last_of a.frame)).bytes

-- ---- a frame of which the last beat has not come
-- how many beats have come
abbrev pub position_of : Option Arrival → ℕ
position_of None = 0
position_of (Some a) = length a.frame / 8

-- whole words have come, one at least
pub record IsBegun (a : Arrival) : Type 0 where
  pub bytes : IsBytes a.frame
  pub some : 0 < length a.frame / 8
  pub whole : length a.frame ≡ 8 * (length a.frame / 8)

abbrev pub HoldsBegun : List Kept → List (List Word) → ℕ → Option Arrival → Type 0
HoldsBegun kept ms slot None = Unit {0}
HoldsBegun kept ms slot (Some a) = IsBegun a × HoldsPart kept ms slot a

-- how many bits the index of each memory has, where a slot's number has so many
abbrev pub further_bits : ℕ → Further → ℕ
further_bits bits (Keep x) = bits
further_bits bits (Bank b) = bank_bits bits + 11

abbrev pub index_bits : ℕ → List Kept → List ℕ
index_bits bits kept = (bank_bits bits + 11) ∷ bits ∷ bits ∷ map (further_bits bits) (further bits kept)

-- The part that gathers frames has its registers and memories, and in the slot what has come of a frame.
pub record Gathers (bits : ℕ) (kept : List Kept) (part : Option Arrival) (slot : ℕ) (s : Stored) : Type 0 where
  pub registers : s.registers ≡ bit (is_some part) ∷ word 11 (position_of part) ∷ []
  pub memories : map length s.memories ≡ map (λ n. 2 ^ n) (index_bits bits kept)
  pub begun : HoldsBegun kept s.memories slot part
