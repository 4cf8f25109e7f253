-- What is read of words in memories.
use Rattle.std.specs.Prelude.{◌≡◌, ◌≢◌, ℕ, zero, suc, ◌+◌, ◌-◌, ◌*◌, ◌^◌, ◌<◌, ◌≤◌, ◌==◌, if◌then◌else◌, max, Bool, true, false, List, length}
use Rattle.std.proofs.Common.{refl, ap, ◌∙◌, subst, arith}
use Rattle.std.proofs.Math.Nat.{mod-eq_of_lt}
use Rattle.std.proofs.lemmas.Bool.{lt-ltb, le-leb}
use Rattle.std.proofs.lemmas.Bool.Decides.{nat_tests}
use Rattle.std.proofs.lemmas.Nat.{pow_pos}
use Rattle.net_core.specs.declared.ports.TheConstants.{HOST_INDEX, HOST_WORD}
use Rattle.net_core.specs.declared.tree.Op.TheVariants.{Equal}
use Rattle.net_core.specs.declared.tree.Word.{Word}
use Rattle.net_core.specs.Nets.{Tree}
use Rattle.net_core.specs.Value.{word, bit, Env, value, apply, conditional, concatenated, part_select}
use Rattle.net_core.specs.Clock.{Stored}
use Rattle.net_core.specs.Width.{Scope, width_of, memory_word_width, concatenation_width, const_width, part_select_width}
use Rattle.net_core.proofs.WidthLaws.{concatenation_is}
use Rattle.block_core.specs.design_rules.FormedSyntax.{depth, prefixes_apart}
use Rattle.net_core.specs.ProductRules.Products.{is_flat}
use Rattle.block_core.specs.declared.name.Name.{Name}
use Rattle.block_core.specs.declared.name.Name.TheVariants as name
use Rattle.block_core.specs.Order.{Reads}
use Rattle.block_core.proofs.list_laws_laws.BoolLaws.{and_is}
use Rattle.hazard_core.specs.Commits.{word_count, word_at as byte_word}
use Rattle.frame_net.specs.GatherNets.{constant, beside}
use Rattle.frame_net.specs.SourcesNets.{held}
use Rattle.frame_net.proofs.FormLaws.{same_is}
use Rattle.array_net.specs.Words.{word_width, HoldsWords}
use Rattle.array_net.specs.WordTrees.{host_index, is_word, filled, word_shown, words_read}
use Rattle.array_net.specs.Hosts.{SeesMemories}
use Rattle.array_net.proofs.WordLaws.{width_some, width_most}
use Rattle.array_net.proofs.WordStoreLaws.{select_is, choice_is, low_part}

-- ---- a number with zeros above it
module _ {N : Type 0} (w : ℕ) (some : 0 < w) (most : w ≤ 64) (t : Tree N) where
  below : (w == 64) ≡ false → w < 64
  below e = let other : w ≢ 64 = grind (arith, nat_tests) in omega arith

  pub filled_width : (s : Scope N) → width_of s t ≡ w → width_of s (filled w t) ≡ 64
  filled_width s e = by_test (w == 64) refl
    where
      by_test : (b : Bool) → (w == 64) ≡ b → width_of s (if b then t else beside (constant (64 - w) 0) t) ≡ 64
      by_test true f = let is : w ≡ 64 = grind (arith, nat_tests) in e ∙ is
      by_test false f =
          let l = below f in
          let left : 64 - w ≤ 64 = omega arith in
          let z : 0 < 2 ^ (64 - w) = pow_pos (64 - w) in
          let c : const_width (word (64 - w) 0) ≡ 64 - w = rw (le-leb (64 - w) 64 left, lt-ltb 0 (2 ^ (64 - w)) z) refl in
          let sum : 64 - w + w ≡ 64 = omega arith in
          (λ i. concatenation_width (c i) (e i)) ∙ concatenation_is (64 - w) w (omega arith) some (omega arith) ∙ sum

  pub filled_value : (v : Env N) (n : ℕ) → value v t ≡ word w n → value v (filled w t) ≡ word 64 n
  filled_value v n e = by_test (w == 64) refl
    where
      by_test : (b : Bool) → (w == 64) ≡ b → value v (if b then t else beside (constant (64 - w) 0) t) ≡ word 64 n
      by_test true f = let is : w ≡ 64 = grind (arith, nat_tests) in e ∙ ap (λ k. word k n) is
      by_test false f =
          let l = below f in
          let sum : 64 - w + w ≡ 64 = omega arith in
          let high : 0 * 2 ^ w + n ≡ n = omega arith in
          ap (concatenated (word (64 - w) 0)) e ∙ λ i. word (sum i) (high i)

  pub filled_reads : (q : N → Type 0) → Reads q t → Reads q (filled w t)
  filled_reads q h = by_test (w == 64)
    where
      by_test : (b : Bool) → Reads q (if b then t else beside (constant (64 - w) 0) t)
      by_test true = h
      by_test false = (tt, h)

  pub filled_depth : depth t ≤ 2 → depth (filled w t) ≤ 3
  filled_depth h = by_test (w == 64)
    where
      by_test : (b : Bool) → depth (if b then t else beside (constant (64 - w) 0) t) ≤ 3
      by_test true = omega arith
      by_test false = omega arith

  pub filled_apart : prefixes_apart t ≡ true → prefixes_apart (filled w t) ≡ true
  filled_apart h = by_test (w == 64)
    where
      by_test : (b : Bool) → prefixes_apart (if b then t else beside (constant (64 - w) 0) t) ≡ true
      by_test true = h
      by_test false = h

  pub filled_flat : (made : N → Bool) → is_flat made t ≡ true → is_flat made (filled w t) ≡ true
  filled_flat made h = by_test (w == 64)
    where
      by_test : (b : Bool) → is_flat made (if b then t else beside (constant (64 - w) 0) t) ≡ true
      by_test true = h
      by_test false = h

-- ---- words of a slot
module _ {P : Type 0} (p : P) (bits first bytes : ℕ) (some : 1 ≤ bits) (most : bits ≤ 16) where
  wide : (j : ℕ) → j < word_count bytes → 0 < word_width bytes j
  wide j l = let h = width_some bytes j l in omega arith

  pub shown_width :
      (s : Scope (Name P)) (j : ℕ) (index : Tree (Name P)) → j < word_count bytes → s.index (name.Memory p (first + j)) ≡ bits → s.memory_word (name.Memory p (first + j)) ≡ word_width bytes j → width_of s index ≡ bits
      → width_of s (word_shown p first bytes j index) ≡ 64
  shown_width s j index l x w e =
      filled_width (word_width bytes j) (wide j l) (width_most bytes j) (held p (first + j) index) s
      ((λ i. memory_word_width (e i) (x i) (w i)) ∙ ap (λ t. if t then word_width bytes j else 0) (same_is bits bits some refl))

  pub shown_value :
      (v : Env (Name P)) (s : Stored) (cap : ℕ) (strings : ℕ → List ℕ) (j n : ℕ) (index : Tree (Name P)) → SeesMemories p v s → HoldsWords cap bytes s.memories first strings → first + word_count bytes ≤ length s.memories → j < word_count bytes → n < cap
      → (value v index).value ≡ n → value v (word_shown p first bytes j index) ≡ word 64 (byte_word (strings n) j)
  shown_value v s cap strings j n index sees holds count l m e =
      filled_value (word_width bytes j) (wide j l) (width_most bytes j) (held p (first + j) index) v (byte_word (strings n) j) (ap (v.memory_word (name.Memory p (first + j))) e ∙ sees (first + j) n (omega arith) ∙ holds j n l m)

  -- the word that the host names
  index_width : (s : Scope (Name P)) → s.net (name.Port HOST_INDEX) ≡ 16 → width_of s (host_index bits) ≡ bits
  index_width s e = ap (λ o. part_select_width o (bits - 1) 0) e ∙ select_is 16 bits (omega arith) some most

  pub read_width :
      (s : Scope (Name P)) (j n : ℕ) (rest : Tree (Name P)) → j + n ≤ word_count bytes → first + word_count bytes ≤ 16 → s.net (name.Port HOST_INDEX) ≡ 16 → s.net (name.Port HOST_WORD) ≡ 4
      → ((k : ℕ) → k < word_count bytes → (s.index (name.Memory p (first + k)) ≡ bits) × (s.memory_word (name.Memory p (first + k)) ≡ word_width bytes k)) → width_of s rest ≡ 64 → width_of s (words_read p bits first bytes j n rest) ≡ 64
  read_width s j zero rest few small x w ms e = e
  read_width s j (suc n) rest few small x w ms e =
      let l : j < word_count bytes = omega arith in
      let number : first + j < 2 ^ 4 = omega arith in
      let named : width_of s (is_word (first + j)) ≡ 1 = rw (w, lt-ltb (first + j) (2 ^ 4) number) refl in
      let m = ms j l in
      choice_is (width_of s (is_word (first + j))) _ _ 64 named (shown_width s j (host_index bits) l m.0 m.1 (index_width s x)) (read_width s (suc j) n rest (omega arith) small x w ms e) (omega arith)

  pub read_reads : (q : Name P → Type 0) (j n : ℕ) (rest : Tree (Name P)) → q (name.Port HOST_INDEX) → q (name.Port HOST_WORD) → ((k : ℕ) → q (name.Memory p k)) → j + n ≤ word_count bytes → Reads q rest → Reads q (words_read p bits first bytes j n rest)
  read_reads q j zero rest x w m few h = h
  read_reads q j (suc n) rest x w m few h =
      let l : j < word_count bytes = omega arith in
      ((w, tt), filled_reads (word_width bytes j) (wide j l) (width_most bytes j) (held p (first + j) (host_index bits)) q (m (first + j), x), read_reads q (suc j) n rest x w m (omega arith) h)

  pub read_depth : (j n : ℕ) (rest : Tree (Name P)) → j + n ≤ word_count bytes → depth (words_read p bits first bytes j n rest) ≤ n + max 3 (depth rest)
  read_depth j zero rest few = omega arith
  read_depth j (suc n) rest few =
      let l : j < word_count bytes = omega arith in
      let here = filled_depth (word_width bytes j) (wide j l) (width_most bytes j) (held p (first + j) (host_index bits)) (omega arith) in
      let more = read_depth (suc j) n rest (omega arith) in
      omega arith

  pub read_apart : (j n : ℕ) (rest : Tree (Name P)) → j + n ≤ word_count bytes → prefixes_apart rest ≡ true → prefixes_apart (words_read p bits first bytes j n rest) ≡ true
  read_apart j zero rest few h = h
  read_apart j (suc n) rest few h =
      let l : j < word_count bytes = omega arith in
      and_is _ _ (filled_apart (word_width bytes j) (wide j l) (width_most bytes j) (held p (first + j) (host_index bits)) refl) (read_apart (suc j) n rest (omega arith) h)

  pub read_flat : (made : Name P → Bool) (j n : ℕ) (rest : Tree (Name P)) → j + n ≤ word_count bytes → is_flat made rest ≡ true → is_flat made (words_read p bits first bytes j n rest) ≡ true
  read_flat made j zero rest few h = h
  read_flat made j (suc n) rest few h =
      let l : j < word_count bytes = omega arith in
      and_is _ _ (filled_flat (word_width bytes j) (wide j l) (width_most bytes j) (held p (first + j) (host_index bits)) made refl) (read_flat made (suc j) n rest (omega arith) h)

  -- its value
  module _ (v : Env (Name P)) (s : Stored) (cap at w : ℕ) (strings : ℕ → List ℕ) (sees : SeesMemories p v s) (holds : HoldsWords cap bytes s.memories first strings) (count : first + word_count bytes ≤ length s.memories) (within : at < cap) (room : cap ≤ 2 ^ bits)
      (index : v.net (name.Port HOST_INDEX) ≡ word 16 at) (named : v.net (name.Port HOST_WORD) ≡ word 4 w) where
    index_value : (value v (host_index bits)).value ≡ at
    index_value =
        let small : at < 2 ^ bits = omega arith in
        ap (λ x. (part_select x (bits - 1) 0).value) index ∙ ap (λ (x : Word). x.value) (low_part 16 bits at some) ∙ mod-eq_of_lt small

    is_here : (number : ℕ) → value v (is_word number) ≡ bit (w == number)
    is_here number = ap (λ x. apply Equal x (word 4 number)) named

    pub read_other : (j n : ℕ) (rest : Tree (Name P)) → ((k : ℕ) → k < n → w ≢ first + (j + k)) → value v (words_read p bits first bytes j n rest) ≡ value v rest
    read_other j zero rest other = refl
    read_other j (suc n) rest other =
        let z : first + (j + 0) ≡ first + j = omega arith in
        let here : w ≢ first + j = subst (λ k. w ≢ k) z (other 0 (omega arith)) in
        let no : (w == first + j) ≡ false = grind (arith, nat_tests) in
        ap (λ x. conditional x (value v (word_shown p first bytes j (host_index bits))) (value v (words_read p bits first bytes (suc j) n rest))) (is_here (first + j) ∙ ap bit no)
        ∙ read_other (suc j) n rest (λ k l. let e : first + (j + suc k) ≡ first + (suc j + k) = omega arith in subst (λ i. w ≢ i) e (other (suc k) (omega arith)))

    pub read_here : (j n k : ℕ) (rest : Tree (Name P)) → k < n → j + n ≤ word_count bytes → w ≡ first + (j + k) → value v (words_read p bits first bytes j n rest) ≡ word 64 (byte_word (strings at) (j + k))
    read_here j zero k rest l few e = absurd (omega arith)
    read_here j (suc n) zero rest l few e =
        let z : j ≡ j + 0 = omega arith in
        let yes : (w == first + j) ≡ true = grind (arith, nat_tests) in
        ap (λ x. conditional x (value v (word_shown p first bytes j (host_index bits))) (value v (words_read p bits first bytes (suc j) n rest))) (is_here (first + j) ∙ ap bit yes)
        ∙ shown_value v s cap strings j at (host_index bits) sees holds count (omega arith) within index_value
        ∙ ap (λ i. word 64 (byte_word (strings at) i)) z
    read_here j (suc n) (suc k) rest l few e =
        let z : suc j + k ≡ j + suc k = omega arith in
        let no : (w == first + j) ≡ false = grind (arith, nat_tests) in
        ap (λ x. conditional x (value v (word_shown p first bytes j (host_index bits))) (value v (words_read p bits first bytes (suc j) n rest))) (is_here (first + j) ∙ ap bit no)
        ∙ read_here (suc j) n k rest (omega arith) (omega arith) (omega arith)
        ∙ ap (λ i. word 64 (byte_word (strings at) i)) z
