-- The lowest bytes of a word, with 0 in place of the others.
use Rattle.std.specs.Prelude.{◌≡◌, ℕ, zero, suc, ◌+◌, ◌-◌, ◌*◌, ◌/◌, ◌%◌, ◌^◌, ◌<◌, ◌≤◌, nat_lt, if◌then◌else◌, true, bit_and}
use Rattle.std.proofs.Common.{sym, ap, ◌∙◌, arith}
use Rattle.std.proofs.lemmas.Bool.{lt-ltb}
use Rattle.std.proofs.lemmas.Nat.{and_mask, mod-pow-add}
use Rattle.beat_core.specs.Words.{low_bytes, word_of}
use Rattle.beat_core.proofs.WordLaws.{low_bytes-suc, low_bytes-zero, word_of-nil, word_of-cons}
use Rattle.net_core.specs.declared.tree.Op.TheVariants.{Sub, And, ShiftRight}
use Rattle.net_core.specs.declared.tree.Word.{Word}
use Rattle.net_core.specs.Nets.{Tree}
use Rattle.net_core.specs.Value.{word, Env, value, apply, concatenated}
use Rattle.net_core.proofs.LowBitsLaws.{ones_low}
use Rattle.frame_net.specs.GatherNets.{uncounted, in_bits, masked}

-- the lowest bytes of a word are its lowest bits
low_word : (n d : ℕ) → word_of (low_bytes n d) ≡ d % 2 ^ (8 * n)
low_word zero d = ap word_of (low_bytes-zero d) ∙ word_of-nil ∙ omega arith
low_word (suc n) d =
    let e : 8 * suc n ≡ 8 * n + 8 = omega arith in
    let rest : word_of (low_bytes n (d / 256)) ≡ d / 256 % 2 ^ (8 * n) = low_word n (d / 256) in
    let whole : d % 2 ^ (8 * n + 8) ≡ d / 2 ^ 8 % 2 ^ (8 * n) * 2 ^ 8 + d % 2 ^ 8 = mod-pow-add d (8 * n) 8 in
    ap word_of (low_bytes-suc n d) ∙ word_of-cons (d % 256) (low_bytes n (d / 256)) ∙ omega (arith, rest, whole) ∙ ap (λ k. d % 2 ^ k) (sym e)

left_bytes : (n : ℕ) → 1 ≤ n → n ≤ 8 → (8 + 2 ^ 4 - n) % 2 ^ 4 ≡ 8 - n
left_bytes n some most = omega arith

low_ones : (n : ℕ) → 1 ≤ n → n ≤ 8 → (if nat_lt ((8 - n) * 2 ^ 3 + 0) 64 then 18446744073709551615 / 2 ^ ((8 - n) * 2 ^ 3 + 0) else 0) ≡ 2 ^ (8 * n) - 1
low_ones n some most =
    let few : (8 - n) * 2 ^ 3 + 0 < 64 = omega arith in
    let e : (8 - n) * 2 ^ 3 + 0 ≡ 64 - 8 * n = omega arith in
    let t : nat_lt ((8 - n) * 2 ^ 3 + 0) 64 ≡ true = lt-ltb ((8 - n) * 2 ^ 3 + 0) 64 few in
    ap (λ b. if b then 18446744073709551615 / 2 ^ ((8 - n) * 2 ^ 3 + 0) else 0) t
    ∙ ap (λ k. 18446744073709551615 / 2 ^ k) e
    ∙ ones_low (8 * n) (omega arith) (omega arith)

-- the nets that mask a word
pub masked_word : {N : Type 0} (v : Env N) (bytes left shift val : Tree N) (n d : ℕ) → 1 ≤ n → n ≤ 8 → value v bytes ≡ word 4 n → value v left ≡ value v (uncounted bytes) → value v shift ≡ value v (in_bits left) → value v val ≡ word 64 d
    → value v (masked val shift) ≡ word 64 (word_of (low_bytes n d))
masked_word v bytes left shift val n d some most b l s e =
    let a : value v left ≡ word 4 (8 - n) = l ∙ ap (λ (x : Word). apply Sub (word 4 8) x) b ∙ ap (word 4) (left_bytes n some most) in
    let c : value v shift ≡ word 7 ((8 - n) * 2 ^ 3 + 0) = s ∙ ap (λ (x : Word). concatenated x (word 3 0)) a in
    ap (λ (x : Word). apply And x (apply ShiftRight (word 64 18446744073709551615) (value v shift))) e
    ∙ ap (λ (y : Word). apply And (word 64 d) (apply ShiftRight (word 64 18446744073709551615) y)) c
    ∙ ap (λ k. word 64 (bit_and d k)) (low_ones n some most)
    ∙ ap (word 64) (and_mask d (8 * n) ∙ sym (low_word n d))
