-- Memories of words: their widths, and what they first hold.
use Rattle.std.specs.Prelude.{◌≡◌, ℕ, zero, suc, ◌+◌, ◌^◌, ◌<◌, ◌≤◌, true, [], ◌∷◌, length, map as map_list, replicate}
use Rattle.std.proofs.Common.{get_or, refl, ap, ◌∙◌, arith}
use Rattle.std.proofs.lemmas.Bool.{lt-ltb, le-leb}
use Rattle.std.proofs.lemmas.Nat.{pow_pos}
use Rattle.std.proofs.lemmas.List.{length-replicate}
use Rattle.net_core.specs.Value.{word}
use Rattle.net_core.specs.Width.{word_fits}
use Rattle.block_core.specs.Blocks.{first_memory}
use Rattle.block_core.specs.Formed.{memories_fit}
use Rattle.block_core.proofs.list_laws_laws.BoolLaws.{and_is}
use Rattle.hazard_core.specs.Commits.{word_count}
use Rattle.frame_net.specs.Stores.{widths_memory}
use Rattle.array_net.specs.Words.{word_width}
use Rattle.array_net.specs.WordTrees.{memories_from, word_memories}
use Rattle.array_net.proofs.WordLaws.{width_some, width_most}

pub memory_at : (bits bytes j n k : ℕ) → k < n → get_or (memories_from bits bytes j n) k (0, 0) ≡ (bits, word_width bytes (j + k))
memory_at bits bytes j zero k l = absurd (omega arith)
memory_at bits bytes j (suc n) zero l = let z : j ≡ j + 0 = omega arith in ap (λ i. (bits, word_width bytes i)) z
memory_at bits bytes j (suc n) (suc k) l = let z : suc j + k ≡ j + suc k = omega arith in memory_at bits bytes (suc j) n k (omega arith) ∙ ap (λ i. (bits, word_width bytes i)) z

pub count_memories : (bits bytes j n : ℕ) → length (memories_from bits bytes j n) ≡ n
count_memories bits bytes j zero = refl
count_memories bits bytes j (suc n) = ap suc (count_memories bits bytes (suc j) n)

pub fit_memories : (bits bytes j n : ℕ) → 1 ≤ bits → bits ≤ 16 → j + n ≤ word_count bytes → memories_fit (map_list widths_memory (memories_from bits bytes j n)) ≡ true
fit_memories bits bytes j zero some most few = refl
fit_memories bits bytes j (suc n) some most few =
    let w = word_width bytes j in
    let low = width_some bytes j (omega arith) in
    let wide : 0 < w = omega arith in
    let z : 0 < 2 ^ w = pow_pos w in
    let fits : word_fits (word w 0) ≡ true = rw (lt-ltb 0 w wide, le-leb w 64 (width_most bytes j), lt-ltb 0 (2 ^ w) z) refl in
    and_is _ _ (and_is _ _ (and_is _ _ (le-leb 1 bits some) (le-leb bits 16 most)) fits) (fit_memories bits bytes (suc j) n some most (omega arith))

pub memories_are_fit : (bits bytes : ℕ) → 1 ≤ bits → bits ≤ 16 → memories_fit (map_list widths_memory (word_memories bits bytes)) ≡ true
memories_are_fit bits bytes some most = fit_memories bits bytes 0 (word_count bytes) some most (omega arith)

pub first_sizes : (bits bytes j n : ℕ) → map_list length (map_list first_memory (map_list widths_memory (memories_from bits bytes j n))) ≡ replicate n (2 ^ bits)
first_sizes bits bytes j zero = refl
first_sizes bits bytes j (suc n) = λ i. length-replicate (2 ^ bits) (word (word_width bytes j) 0) i ∷ first_sizes bits bytes (suc j) n i

-- of a memory of words all are 0 at first
pub first_at : (bits bytes j n k : ℕ) → k < n → get_or (map_list first_memory (map_list widths_memory (memories_from bits bytes j n))) k [] ≡ replicate (2 ^ bits) (word (word_width bytes (j + k)) 0)
first_at bits bytes j zero k l = absurd (omega arith)
first_at bits bytes j (suc n) zero l = let z : j ≡ j + 0 = omega arith in ap (λ i. replicate (2 ^ bits) (word (word_width bytes i) 0)) z
first_at bits bytes j (suc n) (suc k) l = let z : suc j + k ≡ j + suc k = omega arith in first_at bits bytes (suc j) n k (omega arith) ∙ ap (λ i. replicate (2 ^ bits) (word (word_width bytes i) 0)) z
