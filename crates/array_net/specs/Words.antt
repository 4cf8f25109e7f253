-- Byte strings in memories: a memory for each word of eight bytes, and in it a place for each slot of a table.
use Rattle.std.specs.Prelude.{◌≡◌, ℕ, suc, ◌+◌, ◌-◌, ◌*◌, ◌<◌, min, Bool, true, false, List, [], ◌∷◌}
use Rattle.std.proofs.Common.{get_or}
use Rattle.net_core.specs.declared.tree.Word.{Word}
use Rattle.net_core.specs.Value.{word, bit, Env}
use Rattle.net_core.specs.Width.{Scope}
use Rattle.hazard_core.specs.Commits.{word_count, word_at as byte_word}
use Rattle.frame_net.specs.Frames.{word_at}
use Rattle.array_net.specs.declared.words.WordNets.{WordNets}

-- how many bits a word has of so many bytes: 64, or fewer for the last
abbrev pub word_width : ℕ → ℕ → ℕ
word_width bytes j = 8 * min 8 (bytes - 8 * j)

-- Memories, from one on, hold by slot the words of byte strings of so many bytes.
abbrev pub HoldsWords : ℕ → ℕ → List (List Word) → ℕ → (ℕ → List ℕ) → Type 0
HoldsWords cap bytes ms first strings = (j n : ℕ) → j < word_count bytes → n < cap → word_at (get_or ms (first + j) []) n ≡ word (word_width bytes j) (byte_word (strings n) j)

-- ---- what is asked of words in a clock
-- a word becomes another, or stays
pub record AsksWord {N : Type 0} (v : Env N) (width : ℕ) (nets : WordNets N) (old new : ℕ) : Type 0 where
  pub sets : Bool
  pub is_set : v.net nets.sets ≡ bit sets
  pub becomes : sets ≡ true → v.net nets.word ≡ word width new
  pub stays : sets ≡ false → new ≡ old

-- the words of a byte string, from one on, become those of another
abbrev pub AsksWords : {N : Type 0} → Env N → ℕ → ℕ → List (WordNets N) → List ℕ → List ℕ → Type 0
AsksWords v bytes j [] old new = Unit {0}
AsksWords v bytes j (n ∷ nets) old new = AsksWord v (word_width bytes j) n (byte_word old j) (byte_word new j) × AsksWords v bytes (suc j) nets old new

-- ---- the widths of these nets, and where they are read
abbrev pub HaveWidths : {N : Type 0} → Scope N → ℕ → ℕ → List (WordNets N) → Type 0
HaveWidths s bytes j [] = Unit {0}
HaveWidths s bytes j (n ∷ nets) = ((s.net n.sets ≡ 1) × (s.net n.word ≡ word_width bytes j)) × HaveWidths s bytes (suc j) nets

abbrev pub AreThere : {N : Type 0} → (N → Type 0) → List (WordNets N) → Type 0
AreThere q [] = Unit {0}
AreThere q (n ∷ nets) = (q n.sets × q n.word) × AreThere q nets
