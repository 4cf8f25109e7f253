-- The beat as it came, read in the memory of its slot.
use Rattle.std.specs.Prelude.{◌≡◌, ◌≢◌, ℕ, zero, suc, ◌+◌, ◌-◌, ◌*◌, ◌/◌, ◌%◌, ◌^◌, ◌<◌, ◌≤◌, ◌==◌, Bool, true, false, List, []}
use Rattle.std.proofs.Common.{get_or, refl, ap, ◌∙◌, arith}
use Rattle.std.proofs.lemmas.Bool.{le-leb}
use Rattle.std.proofs.lemmas.Bool.Decides.{nat_tests}
use Rattle.net_core.specs.declared.tree.Op.TheVariants.{Equal}
use Rattle.net_core.specs.declared.tree.Word.{Word}
use Rattle.net_core.specs.Value.{word, bit, Env, value, apply, concatenated, conditional, part_select}
use Rattle.net_core.specs.Width.{Scope, width_of}
use Rattle.net_core.specs.Ports.{port_list}
use Rattle.net_core.proofs.WidthLaws.{concatenation_is}
use Rattle.block_core.specs.design_rules.FormedSyntax.{depth, prefixes_apart, tree_spelled}
use Rattle.block_core.specs.declared.name.Name.{Name}
use Rattle.block_core.specs.declared.name.Name.TheVariants as name
use Rattle.block_core.specs.Blocks.{Whole}
use Rattle.block_core.specs.Order.{Reads}
use Rattle.block_core.specs.Formed.{names_scope, block_memories}
use Rattle.block_core.proofs.list_laws_laws.BoolLaws.{and_is}
use Rattle.frame_net.specs.declared.held.Kept.{Kept}
use Rattle.frame_net.specs.Frames.{word_at, bank_bits, banks, bank}
use Rattle.frame_net.specs.Gather.{held_widths}
use Rattle.frame_net.specs.GatherNets.{place, register, in_bank}
use Rattle.frame_net.specs.Sources.{SeesHeld}
use Rattle.frame_net.proofs.BankLaws.{low_slot, high_slot, bank_within, low_width, in_bank_width}
use Rattle.frame_net.proofs.FormLaws.{held_width}
use Rattle.frame_net.proofs.ReadLaws.{bank_within_held, held_bank}
use Rattle.frame_net.specs.ScatterNet.ScatterNets.{at_bank, beat_from}

module _ {P : Type 0} (p gather : P) (bits : ℕ) (kept : List Kept) (some : 1 ≤ bits) where
  -- ---- its value
  module _ (slot : Name P) (v : Env (Name P)) (ms : List (List Word)) (at pos : ℕ) (sees : SeesHeld gather bits kept slot v ms at) (wide_net : v.net (name.Wire p 0) ≡ word (5 + bits) at) (position : v.net (name.Register p 0) ≡ word 11 pos) where
    bank_is : (b : ℕ) → b < banks bits → value v (at_bank p gather bits kept b) ≡ word_at (get_or ms (bank kept b) []) (at % 32 * 2 ^ 11 + pos)
    bank_is b l =
        ap (λ (x : Word). v.memory_word (name.Memory gather (bank kept b)) (concatenated (part_select x (bank_bits bits - 1) 0) (v.net (name.Register p 0))).value) wide_net
        ∙ ap (λ (x : Word). v.memory_word (name.Memory gather (bank kept b)) (concatenated x (v.net (name.Register p 0))).value) (low_slot bits at (5 + bits) some sees.within)
        ∙ ap (λ (x : Word). v.memory_word (name.Memory gather (bank kept b)) (concatenated (word (bank_bits bits) (at % 32)) x).value) position
        ∙ sees.memory (bank kept b) (at % 32 * 2 ^ 11 + pos) (bank_within_held bits kept b l)

    here_is : (b : ℕ) → value v (in_bank bits (name.Wire p 0) b) ≡ bit (at / 32 == b)
    here_is b = ap (λ x. apply Equal (part_select x (bits + 4) 5) (word bits b)) wide_net ∙ ap (λ x. apply Equal x (word bits b)) (high_slot bits at (5 + bits) sees.within)

    pub beat_is : (b n : ℕ) → b ≤ at / 32 → at / 32 ≤ b + n → value v (beat_from p gather bits kept b n) ≡ word_at (get_or ms (bank kept (at / 32)) []) (at % 32 * 2 ^ 11 + pos)
    beat_is b zero l m =
        let e : b ≡ at / 32 = omega arith in
        ap (λ k. value v (at_bank p gather bits kept k)) e ∙ bank_is (at / 32) (bank_within bits at sees.within)
    beat_is b (suc n) l m =
        ap (λ x. conditional x (value v (at_bank p gather bits kept b)) (value v (beat_from p gather bits kept (suc b) n))) (here_is b) ∙ by_test (at / 32 == b) refl (λ h. beat_is (suc b) n h (omega arith))
      where
        by_test : (t : Bool) → (at / 32 == b) ≡ t → (suc b ≤ at / 32 → value v (beat_from p gather bits kept (suc b) n) ≡ word_at (get_or ms (bank kept (at / 32)) []) (at % 32 * 2 ^ 11 + pos))
            → conditional (bit t) (value v (at_bank p gather bits kept b)) (value v (beat_from p gather bits kept (suc b) n)) ≡ word_at (get_or ms (bank kept (at / 32)) []) (at % 32 * 2 ^ 11 + pos)
        by_test true e rest = let is : b ≡ at / 32 = grind (arith, nat_tests) in ap (λ k. value v (at_bank p gather bits kept k)) is ∙ bank_is (at / 32) (bank_within bits at sees.within)
        by_test false e rest = let other : at / 32 ≢ b = grind (arith, nat_tests) in rest (omega arith)

  -- ---- its width
  module _ (most : bits ≤ 9) (d : Whole P) (has : block_memories (d.block gather) ≡ held_widths bits kept) (wide_width : (names_scope d port_list).net (name.Wire p 0) ≡ bits + 5) (own : (names_scope d port_list).net (name.Register p 0) ≡ 11) where
    abbrev s : Scope (Name P)
    s = names_scope d port_list

    index_width : width_of s (place bits (name.Wire p 0) (register p 0)) ≡ bank_bits bits + 11
    index_width = rw (wide_width, own, low_width bits some) (concatenation_is (bank_bits bits) 11 (omega arith) (omega arith) (omega arith))

    bank_width : (b : ℕ) → b < banks bits → width_of s (at_bank p gather bits kept b) ≡ 64
    bank_width b l = held_width d gather (place bits (name.Wire p 0) (register p 0)) (held_widths bits kept) (bank kept b) (bank_bits bits + 11) 64 has (held_bank bits kept b l) index_width (omega arith)

    pub beat_width : (b n : ℕ) → b + n < banks bits → banks bits ≤ 2 ^ bits → width_of s (beat_from p gather bits kept b n) ≡ 64
    beat_width b zero l h = bank_width b (omega arith)
    beat_width b (suc n) l h = rw (in_bank_width s bits (name.Wire p 0) b some most (omega arith) wide_width, bank_width b (omega arith), beat_width (suc b) n (omega arith) h) refl

-- ---- it can be spelled, and what it reads
module _ {P : Type 0} (p gather : P) (bits : ℕ) (kept : List Kept) where
  beat_depth : (b n : ℕ) → depth (beat_from p gather bits kept b n) ≤ n + 3
  beat_depth b zero = omega arith
  beat_depth b (suc n) = let h = beat_depth (suc b) n in omega arith

  beat_apart : (b n : ℕ) → prefixes_apart (beat_from p gather bits kept b n) ≡ true
  beat_apart b zero = refl
  beat_apart b (suc n) = beat_apart (suc b) n

  pub beat_spelled : (b n : ℕ) → n ≤ 15 → tree_spelled (beat_from p gather bits kept b n) ≡ true
  beat_spelled b n l = and_is _ _ (le-leb _ 64 (let h = beat_depth b n in omega arith)) (beat_apart b n)

  pub beat_reads : (q : Name P → Type 0) → ((k : ℕ) → q (name.Memory gather k)) → q (name.Wire p 0) → q (name.Register p 0) → (b n : ℕ) → Reads q (beat_from p gather bits kept b n)
  beat_reads q m w r b zero = (m (bank kept b), (w, r))
  beat_reads q m w r b (suc n) = ((w, tt), (m (bank kept b), (w, r)), beat_reads q m w r (suc b) n)
