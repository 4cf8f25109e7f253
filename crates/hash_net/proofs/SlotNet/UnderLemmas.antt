-- When operands that show a slot say that it is used under a key, or free.
use Rattle.std.specs.Prelude.{nat_lt, if◌then◌else◌, not, ◌&&◌, ◌==◌}
use Rattle.std.specs.Str.{bytes_eq}
use Rattle.std.proofs.Common.{◌≡◌, ◌⊎◌, inl, inr, ℕ, zero, suc, ◌%◌, ◌^◌, ◌<◌, ◌≤◌, Bool, true, false, List, length, get_or, map, refl, sym, ◌∙◌, ap, subst, arith}
use Rattle.std.proofs.Math.ListN.{get_or-map}
use Rattle.std.proofs.Math.Nat.{mod-eq_of_lt}
use Rattle.std.proofs.lemmas.Bool.{and_parts, and_from, cases_lt}
use Rattle.std.proofs.lemmas.Bool.Decides.{Decides-at, Decides-eqb, same_from_decides}
use Rattle.std.proofs.lemmas.List.{length-map}
use Rattle.std.specs.Bool.{Decides}
use Rattle.std.proofs.lemmas.Slice.Eq.{bytes_eq-Decides}
use Rattle.block_core.proofs.list_laws_laws.PositionLaws.{position_within}
use Rattle.net_core.specs.Value.{Env}
use Rattle.overlay_net.specs.xdp_maps.declared.decl.MapDecl.{MapDecl}
use Rattle.overlay_net.specs.xdp_maps.Contents.{IsBytes}
use Rattle.overlay_net.specs.cell_core.Cells.{bit, on, bits_from}
use Rattle.cell_nets.proofs.cell_core_laws.SpelledLaws.{bytes_are}
use Rattle.overlay_net.specs.hazard_core.declared.slot.Slot.{Slot}
use Rattle.overlay_net.specs.hazard_core.Tables.{slot_at, no_slot, has_key, slot_of, free_slot}
use Rattle.overlay_net.specs.hazard_core.declared.pointer.Pointer.TheVariants.{InSlot, Null}
use Rattle.overlay_net.specs.hazard_core.StageValues.{slot_pointer}
use Rattle.overlay_net.specs.hazard_core.Commits.{word_count, word_at}
use Rattle.array_net.specs.Words.{word_width}
use Rattle.overlay_net.specs.SiteOperands.Pointers.{pointer_number}
use Rattle.cell_nets.specs.declared.operand.Operand.{Operand}
use Rattle.cell_nets.specs.declared.operand.Operand.TheVariants.{Known}
use Rattle.cell_nets.specs.Operands.{number_in}
use Rattle.hash_net.specs.declared.slot_net.choosing.Numbering.TheVariants.{Pointers, Slots}
use Rattle.hash_net.specs.SlotNet.Slots.{SlotOperands, slot_past, ShowsSlot, ShowSlots, HoldsKey, HaveKeys}
use Rattle.hash_net.specs.SlotNet.Choosing.{number_at, chosen, operand_at, same_bits, is_under, is_used, first_passed}
use Rattle.hash_net.proofs.SlotNet.ChosenLemmas.{from_zero, chosen_first, first_or_all}
use Rattle.hash_net.proofs.SlotNet.WordLemmas.{word_small, same_words, word_of_words}

on_bit : (b : Bool) → on (bit b) ≡ b
on_bit true = refl
on_bit false = refl

-- ---- under a key
module _
    {N : Type 0} (v : Env N) (d : MapDecl) (keys : List (Operand N)) (key : List ℕ) (holds : HoldsKey v d keys key) (enough : word_count d.key ≤ length keys) (slot : Slot) (n : SlotOperands N)
    (shows : ShowsSlot v d slot n) where
  key_bytes : IsBytes d.key key
  key_bytes = subst (IsBytes d.key) holds (bytes_are d.key (map (number_in v) keys) (omega (arith, length-map keys (number_in v))))

  -- the low bits of a word of the key
  key_word : (j : ℕ) → j < word_count d.key → bits_from (number_in v (operand_at keys j)) 0 (word_width d.key j) ≡ word_at key j
  key_word j l =
      from_zero (number_in v (operand_at keys j)) (word_width d.key j)
      ∙ ap (λ k. k % 2 ^ word_width d.key j) (sym (get_or-map (number_in v) keys j (Known 0)))
      ∙ sym (word_of_words d.key (map (number_in v) keys) j l (omega (arith, length-map keys (number_in v))))
      ∙ ap (λ k. word_at k j) holds

  slot_word : (j : ℕ) → IsBytes d.key slot.key → j < word_count d.key → bits_from (number_in v (operand_at n.key j)) 0 (word_width d.key j) ≡ word_at slot.key j
  slot_word j b l =
      from_zero (number_in v (operand_at n.key j)) (word_width d.key j) ∙ ap (λ k. k % 2 ^ word_width d.key j) (shows.key j (Known 0) l) ∙ mod-eq_of_lt {n = word_at slot.key j} {m = 2 ^ word_width d.key j} (word_small d.key slot.key j b)

  unused : slot.used ≡ false → (w : ℕ) → is_under v d.key keys n w ≡ false
  unused e zero = ap on shows.used ∙ on_bit slot.used ∙ e
  unused e (suc w) = ap (λ b. b && same_bits v (word_width d.key w) (operand_at n.key w) (operand_at keys w)) (unused e w)

  one_more :
      (w : ℕ) → Decides (is_under v d.key keys n w) ((j : ℕ) → j < w → word_at slot.key j ≡ word_at key j) → Decides (same_bits v (word_width d.key w) (operand_at n.key w) (operand_at keys w)) (word_at slot.key w ≡ word_at key w)
      → Decides (is_under v d.key keys n (suc w)) ((j : ℕ) → j < suc w → word_at slot.key j ≡ word_at key j)
  one_more w first last = (λ h j m. forth (and_parts (is_under v d.key keys n w) (same_bits v (word_width d.key w) (operand_at n.key w) (operand_at keys w)) h) j m (cases_lt j w), λ h. and_from _ _ (first.1 (λ j m. h j (omega arith))) (last.1 (h w (omega arith))))
    where
      forth : (is_under v d.key keys n w ≡ true) × (same_bits v (word_width d.key w) (operand_at n.key w) (operand_at keys w) ≡ true) → (j : ℕ) → j < suc w → (j < w) ⊎ (w ≤ j) → word_at slot.key j ≡ word_at key j
      forth parts j m (inl less) = first.0 parts.0 j less
      forth parts j m (inr over) = let s : j ≡ w = omega arith in subst (λ k. word_at slot.key k ≡ word_at key k) (sym s) (last.0 parts.1)

  words_decide : slot.used ≡ true → IsBytes d.key slot.key → (w : ℕ) → w ≤ word_count d.key → Decides (is_under v d.key keys n w) ((j : ℕ) → j < w → word_at slot.key j ≡ word_at key j)
  words_decide e b zero l = (λ h j m. absurd (omega arith), λ h. ap on shows.used ∙ on_bit slot.used ∙ e)
  words_decide e b (suc w) l = one_more w (words_decide e b w (omega arith)) last
    where
      last : Decides (same_bits v (word_width d.key w) (operand_at n.key w) (operand_at keys w)) (word_at slot.key w ≡ word_at key w)
      last = Decides-at _ (word_at slot.key w == word_at key w) (λ i. slot_word w b (omega arith) i == key_word w (omega arith) i) (Decides-eqb (word_at slot.key w) (word_at key w))

  pub under_is : (slot.used ≡ true → IsBytes d.key slot.key) → is_under v d.key keys n (word_count d.key) ≡ has_key key slot
  under_is keyed = by_used slot.used refl
    where
      by_used : (u : Bool) → slot.used ≡ u → is_under v d.key keys n (word_count d.key) ≡ has_key key slot
      by_used false e = unused e (word_count d.key) ∙ sym (ap (λ b. b && bytes_eq slot.key key) e)
      by_used true e =
          let b = keyed e in
          let words = words_decide e b (word_count d.key) (omega arith) in
          let whole : Decides (is_under v d.key keys n (word_count d.key)) (slot.key ≡ key) = (λ h. same_words d.key slot.key key b key_bytes (words.0 h), λ h. words.1 (λ j l. ap (λ k. word_at k j) h)) in
          same_from_decides _ _ whole (bytes_eq-Decides slot.key key) ∙ sym (ap (λ b. b && bytes_eq slot.key key) e)

-- ---- where a key is found
pointer_is : (b : Bool) (n : ℕ) → (if b then number_at Pointers n else 0) ≡ pointer_number (if b then InSlot n else Null)
pointer_is true n = refl
pointer_is false n = refl

pub found_is :
    {N : Type 0} (v : Env N) (d : MapDecl) (keys : List (Operand N)) (key : List ℕ) (table : List Slot) (ns : List (SlotOperands N)) (count : ℕ) → length ns ≡ count → HaveKeys d table → word_count d.key ≤ length keys → ShowSlots v d table ns × HoldsKey v d keys key
    → chosen (number_at Pointers) (λ n. is_under v d.key keys (get_or ns n slot_past) (word_count d.key)) 0 0 count ≡ pointer_number (slot_pointer table key)
found_is v d keys key table ns count many keyed enough (shows, holds) =
    chosen_first (number_at Pointers) (λ n. is_under v d.key keys (get_or ns n slot_past) (word_count d.key)) 0 (has_key key) no_slot table count (shows.count ∙ many)
    (λ n l. under_is v d keys key holds enough (slot_at table n) (get_or ns n slot_past) (shows.each n slot_past (omega arith)) (keyed n (let c = shows.count in omega arith)))
    ∙ pointer_is (nat_lt (slot_of table key) (length table)) (slot_of table key)

-- ---- the first free slot
free_is : {N : Type 0} (v : Env N) (d : MapDecl) (slot : Slot) (n : SlotOperands N) → ShowsSlot v d slot n → not (is_used v n) ≡ not slot.used
free_is v d slot n shows = ap (λ k. not (on k)) shows.used ∙ ap not (on_bit slot.used)

pub first_free :
    {N : Type 0} (v : Env N) (d : MapDecl) (table : List Slot) (ns : List (SlotOperands N)) (count : ℕ) → length ns ≡ count → ShowSlots v d table ns
    → first_passed Slots (λ n. is_used v (get_or ns n slot_past)) count 0 count ≡ free_slot table
first_free v d table ns count many shows =
    let same : count ≡ length table = sym (shows.count ∙ many) in
    chosen_first (number_at Slots) (λ n. not (is_used v (get_or ns n slot_past))) count (λ s. not s.used) no_slot table count (sym same) (λ n l. free_is v d (slot_at table n) (get_or ns n slot_past) (shows.each n slot_past (omega arith)))
    ∙ ap (λ k. if nat_lt (free_slot table) (length table) then free_slot table else k) same
    ∙ first_or_all (free_slot table) (length table) (position_within (λ s. not s.used) table)
