-- Answers that are held in memories, by slot: the verdict, the target, and the bytes that may be other ones than those of the frame that came.
use Rattle.std.specs.Prelude.{◌≡◌, ℕ, ◌+◌, ◌*◌, ◌/◌, ◌%◌, ◌^◌, ◌<◌, List, [], ◌∷◌, length, map, Contains}
use Rattle.std.proofs.Common.{get_or}
use Rattle.beat_core.specs.list_laws.Bytes.{IsBytes}
use Rattle.beat_core.specs.declared.answer.Answer.{Answer}
use Rattle.net_core.specs.declared.tree.Word.{Word}
use Rattle.net_core.specs.Value.{word}
use Rattle.frame_net.specs.Frames.{word_at}

-- a byte of a word, the lowest first
abbrev pub byte_of : ℕ → ℕ → ℕ
byte_of w k = w / 2 ^ (8 * k) % 2 ^ 8

-- the widths of the index and of the words of each memory: the verdict, the target, and each word that has bytes that may change
abbrev pub word_widths : ℕ → ℕ → ℕ × ℕ
word_widths bits j = (bits, 64)

abbrev pub answer_widths : ℕ → List ℕ → List (ℕ × ℕ)
answer_widths bits words = (bits, 32) ∷ (bits, 32) ∷ map (word_widths bits) words

-- each byte that may change, of one of these words, stands in its place of its word
pub record HoldsAnswer (bytes words : List ℕ) (es : List (List Word)) (slot : ℕ) (r : Answer) : Type 0 where
  pub verdict : word_at (get_or es 0 []) slot ≡ word 32 r.verdict
  pub target : word_at (get_or es 1 []) slot ≡ word 32 r.target
  pub changed : (i k : ℕ) → i < length words → k < 8 → Contains bytes (8 * get_or words i 0 + k) → 8 * get_or words i 0 + k < length r.frame
      → byte_of (word_at (get_or es (2 + i) []) slot).value k ≡ get_or r.frame (8 * get_or words i 0 + k) 0

-- an answer has as many bytes as a frame, and the same ones but for those that may change
pub record Changes (bytes frame : List ℕ) (r : Answer) : Type 0 where
  pub count : length r.frame ≡ length frame
  pub are_bytes : IsBytes r.frame
  pub others : (at : ℕ) → ¬ (Contains bytes at) → get_or r.frame at 0 ≡ get_or frame at 0
