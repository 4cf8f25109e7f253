-- The block that shows the slots of a hash is what it is to be.
use Rattle.std.specs.Prelude.{nat_le, ◌&&◌, map as map_list}
use Rattle.std.specs.List.{list_all, range_with_len}
use Rattle.std.proofs.Common.{◌≡◌, ◌⊎◌, inl, inr, ℕ, zero, suc, ◌+◌, ◌*◌, ◌/◌, ◌%◌, ◌^◌, ◌<◌, ◌≤◌, Bool, true, false, All, List, [], ◌∷◌, ◌++◌, length, get_or, refl, sym, ◌∙◌, ap, subst, arith}
use Rattle.std.proofs.lemmas.Bool.{lt-ltb, le-leb, cases_lt}
use Rattle.std.proofs.lemmas.List.{length-map, length-replicate, get_or_append_left}
use Rattle.std.proofs.lemmas.List.Elements.{All-contains, All-nil, All-cons, All-append, All-from_get_or}
use Rattle.std.proofs.lemmas.List.FromFn.{map-range_with_len_more, get_or-map-range_with_len, length-map-range_with_len}
use Rattle.std.proofs.lemmas.Nat.{div_below, mod_below, div-mul-add, mod-mul-add}
use Rattle.std.proofs.Math.Nat.{mul-le-mul, add-mul, one-mul}
use Rattle.net_core.specs.declared.tree.Word.{Word}
use Rattle.net_core.specs.Ports.{port_list}
use Rattle.net_core.specs.Value.{bit, Env, right_value}
use Rattle.net_core.specs.Width.{Scope, width_of, right_width, same}
use Rattle.net_core.specs.Clock.{Stored}
use Rattle.block_core.specs.design_rules.FormedSyntax.{right_spelled}
use Rattle.block_core.specs.ProductBlocks.Alone.{wire_flat}
use Rattle.block_core.specs.declared.name.Name.{Name}
use Rattle.block_core.specs.declared.name.Name.TheVariants as name
use Rattle.block_core.specs.Blocks.{BlockWireTree, Whole}
use Rattle.block_core.specs.Parts.{Solve, Goes}
use Rattle.block_core.specs.Order.{RightReads, IsBefore, InOrder}
use Rattle.block_core.specs.Formed.{names_scope, name_width, block_memories, block_wires, block_wire_width, block_wires_typed, IsTypedBlock}
use Rattle.block_core.proofs.list_laws_laws.BoolLaws.{and_is}
use Rattle.overlay_net.specs.xdp_maps.declared.decl.MapDecl.{MapDecl}
use Rattle.overlay_net.specs.cell_core.Cells.{bit as cell_bit}
use Rattle.overlay_net.specs.hazard_core.declared.slot.Slot.{Slot}
use Rattle.overlay_net.specs.hazard_core.Tables.{slot_at}
use Rattle.overlay_net.specs.hazard_core.Commits.{word_count}
use Rattle.frame_net.specs.Frames.{word_at}
use Rattle.frame_net.specs.GatherNets.{constant}
use Rattle.frame_net.proofs.FormLaws.{wire_is, held_width}
use Rattle.array_net.specs.Words.{word_width}
use Rattle.array_net.specs.WordTrees.{word_memories}
use Rattle.array_net.proofs.WordLaws.{width_some, width_most}
use Rattle.array_net.proofs.WordMemoryLaws.{memory_at, count_memories}
use Rattle.hash_net.specs.HashNets.{value_first, hash_memories}
use Rattle.hash_net.specs.Hash.{StoresHash, SeesOwn}
use Rattle.cell_nets.specs.declared.operand.Operand.{Operand}
use Rattle.cell_nets.specs.declared.operand.Operand.TheVariants.{Net}
use Rattle.cell_nets.specs.Operands.{number_in, IsDeclared, AreDeclared}
use Rattle.hash_net.specs.SlotNet.Slots.{all_of, operands_of, ShowsSlot, ShowSlots}
use Rattle.hash_net.specs.SlotNet.Shown.{per_slot, wire_count, shown_width, shown_widths, shown_wire, slots_block, shown_slot, shown_slots, IsSlots}

-- ---- loops over numbers
pub pushed : {X : Type 0} (f : ℕ → X) (all new : List X) (y : X) (i : ℕ) → new ≡ all ++ y ∷ [] → y ≡ f i → all ≡ map_list f (range_with_len 0 i) → new ≡ map_list f (range_with_len 0 (i + 1))
pushed f all new y i n e h = n ∙ (λ j. h j ++ e j ∷ []) ∙ sym (map-range_with_len_more f 0 i i (omega arith))

-- ---- wires by their numbers
module _ {N : Type 0} (f : ℕ → BlockWireTree N) where
  widths_of : (a n : ℕ) → map_list block_wire_width (map_list f (range_with_len a n)) ≡ map_list (λ i. (f i).width) (range_with_len a n)
  widths_of a zero = refl
  widths_of a (suc n) = ap (λ l. (f a).width ∷ l) (widths_of (a + 1) n)

  all_typed : (s : Scope N) (a n : ℕ) → ((i : ℕ) → a ≤ i → i < a + n → (same (f i).width (right_width s (f i).right) && nat_le (f i).width 64) ≡ true) → block_wires_typed s (map_list f (range_with_len a n)) ≡ true
  all_typed s a zero h = refl
  all_typed s a (suc n) h = and_is _ _ (h a (omega arith) (omega arith)) (all_typed s (a + 1) n (λ i l m. h i (omega arith) (omega arith)))

  all_pass : (p : BlockWireTree N → Bool) (a n : ℕ) → ((i : ℕ) → p (f i) ≡ true) → list_all p (map_list f (range_with_len a n)) ≡ true
  all_pass p a zero h = refl
  all_pass p a (suc n) h = and_is _ _ (h a) (all_pass p (a + 1) n h)

module _ {P : Type 0} (f : ℕ → BlockWireTree (Name P)) (part : P) where
  solved_at : (v : Env (Name P)) (at a n i : ℕ) → at ≡ a → Solve v part at (map_list f (range_with_len a n)) → a ≤ i → i < a + n → v.net (name.Wire part i) ≡ right_value v (f i).right
  solved_at v at a zero i e h l m = absurd (omega arith)
  solved_at v at a (suc n) i e h l m = by_order (λ less. solved_at v (suc at) (a + 1) n i (omega arith) h.1 (omega arith) (omega arith)) (cases_lt a i)
    where
      by_order : (a < i → v.net (name.Wire part i) ≡ right_value v (f i).right) → (a < i) ⊎ (i ≤ a) → v.net (name.Wire part i) ≡ right_value v (f i).right
      by_order later (inl less) = later less
      by_order later (inr over) =
          let s : i ≡ at = omega arith in
          let z : a ≡ i = omega arith in
          ap (λ k. v.net (name.Wire part k)) s ∙ h.0 ∙ ap (λ k. right_value v (f k).right) z

  all_in_order : (d : Whole P) (before : List P) (at a n : ℕ) → ((i k : ℕ) → RightReads (IsBefore d before part k) (f i).right) → InOrder d before part at (map_list f (range_with_len a n))
  all_in_order d before at a zero h = tt
  all_in_order d before at a (suc n) h = (h a at, all_in_order d before (suc at) (a + 1) n h)

  all_go : (v : Env (Name P)) (a n : ℕ) → ((i : ℕ) → Goes v (f i ∷ [])) → Goes v (map_list f (range_with_len a n))
  all_go v a zero h = tt
  all_go v a (suc n) h = ((h a).0, all_go v (a + 1) n h)

-- ---- the wire of a slot's used bit, or of a word of its key
module _ (d : MapDecl) where
  pub place_within : (n k : ℕ) → n < d.cap → k < per_slot d → n * per_slot d + k < wire_count d
  place_within n k l m =
      let s : (n + 1) * per_slot d ≤ d.cap * per_slot d = mul-le-mul {n₁ = n + 1} {m₁ = per_slot d} {n₂ = d.cap} {m₂ = per_slot d} (omega arith) (omega arith) in
      let e : (n + 1) * per_slot d ≡ n * per_slot d + per_slot d = add-mul n 1 (per_slot d) ∙ ap (λ k. n * per_slot d + k) (one-mul (per_slot d)) in
      omega (arith, s, e)

  pub memory_is : (bits k : ℕ) → k < per_slot d → get_or (hash_memories bits d) k (0, 0) ≡ (bits, shown_width d k)
  memory_is bits zero l = refl
  memory_is bits (suc w) l = get_or_append_left (word_memories bits d.key) (word_memories bits d.value) (0, 0) w (omega (arith, count_memories bits d.key 0 (word_count d.key))) ∙ memory_at bits d.key 0 (word_count d.key) w (omega arith) ∙ ap (λ k. (bits, word_width d.key k)) (omega arith)

  width_there : (k : ℕ) → k < per_slot d → (0 < shown_width d k) × (shown_width d k ≤ 64)
  width_there zero l = (omega arith, omega arith)
  width_there (suc w) l = let low = width_some d.key w (omega arith) in (omega arith, width_most d.key w)

module _ {P : Type 0} (part of : P) (d : MapDecl) (bits : ℕ) (some : 1 ≤ bits) (most : bits ≤ 16) (room : d.cap ≤ 2 ^ bits) where
  index_width : (s : Scope (Name P)) (n : ℕ) → n < 2 ^ bits → width_of s (constant bits n) ≡ bits
  index_width s n l = rw (le-leb bits 64 (omega arith), lt-ltb n (2 ^ bits) l) refl

  one_typed : (w : Whole P) → block_memories (w.block of) ≡ hash_memories bits d → (i : ℕ) → i < wire_count d → (same (shown_wire of d bits i).width (right_width (names_scope w port_list) (shown_wire of d bits i).right) && nat_le (shown_wire of d bits i).width 64) ≡ true
  one_typed w has i l =
      let k = i % per_slot d in
      let n = i / per_slot d in
      let inside : k < per_slot d = mod_below i (per_slot d) (omega arith) in
      let below : n < d.cap = div_below i (per_slot d) d.cap (omega arith) l in
      let wide = width_there d k inside in
      wire_is (shown_width d k) _ wide.0 wide.1 (held_width w of (constant bits n) (hash_memories bits d) k bits (shown_width d k) has (memory_is d bits k inside) (index_width (names_scope w port_list) n (omega arith)) (omega arith))

  typed : (w : Whole P) → block_memories (w.block of) ≡ hash_memories bits d → IsTypedBlock w port_list (slots_block of d bits)
  typed w has = record { registers = refl; memories = refl; wires = all_typed (shown_wire of d bits) (names_scope w port_list) 0 (wire_count d) (λ i l m. one_typed w has i (omega arith)); statement = refl }

  widths : block_wires (slots_block of d bits) ≡ shown_widths d
  widths = widths_of (shown_wire of d bits) 0 (wire_count d)

  -- ---- what shows a slot is declared
  wire_width : (w : Whole P) → w.block part ≡ slots_block of d bits → (n k : ℕ) → n < d.cap → k < per_slot d → name_width w port_list (name.Wire part (n * per_slot d + k)) ≡ shown_width d k
  wire_width w is n k l m =
      ap (λ x. get_or (block_wires x) (n * per_slot d + k) 0) is
      ∙ ap (λ x. get_or x (n * per_slot d + k) 0) widths
      ∙ get_or-map-range_with_len (λ i. shown_width d (i % per_slot d)) 0 (wire_count d) (n * per_slot d + k) (n * per_slot d + k) 0 (place_within d n k l m) (omega arith)
      ∙ ap (shown_width d) (mod-mul-add n (per_slot d) k m)

  slot_declared : (w : Whole P) → w.block part ≡ slots_block of d bits → (n : ℕ) → n < d.cap → All (IsDeclared (names_scope w port_list)) (all_of (shown_slot part d n))
  slot_declared w is n l =
      All-cons D _ _ (let z : n * per_slot d + 0 ≡ n * per_slot d = omega arith in ap (λ i. name_width w port_list (name.Wire part i)) (sym z) ∙ wire_width w is n 0 l (omega arith))
      (All-from_get_or D words (Net (name.Wire part 0) 0) (λ j m.
      let within : j < word_count d.key = omega (arith, m, length-map-range_with_len word 0 (word_count d.key)) in
      let q : n * per_slot d + suc j ≡ n * per_slot d + 1 + j = omega arith in
      subst D (sym (get_or-map-range_with_len word 0 (word_count d.key) j j (Net (name.Wire part 0) 0) within (omega arith)))
      (ap (λ i. name_width w port_list (name.Wire part i)) (sym q) ∙ wire_width w is n (suc j) l (omega arith))))
    where
      D : Operand (Name P) → Type 0
      D = IsDeclared (names_scope w port_list)

      word : ℕ → Operand (Name P)
      word j = Net (name.Wire part (n * per_slot d + 1 + j)) (word_width d.key j)

      words : List (Operand (Name P))
      words = map_list word (range_with_len 0 (word_count d.key))

  slots_declared : (w : Whole P) → w.block part ≡ slots_block of d bits → (a n : ℕ) → a + n ≤ d.cap → All (IsDeclared (names_scope w port_list)) (operands_of (map_list (shown_slot part d) (range_with_len a n)))
  slots_declared w is a zero l = All-nil (IsDeclared (names_scope w port_list))
  slots_declared w is a (suc n) l =
      All-append (IsDeclared (names_scope w port_list)) (all_of (shown_slot part d a)) (operands_of (map_list (shown_slot part d) (range_with_len (a + 1) n))) (slot_declared w is a (omega arith)) (slots_declared w is (a + 1) n (omega arith))

  declared : (w : Whole P) → w.block part ≡ slots_block of d bits → AreDeclared (names_scope w port_list) (operands_of (shown_slots part d))
  declared w is a has = All-contains (IsDeclared (names_scope w port_list)) (operands_of (shown_slots part d)) a (slots_declared w is 0 d.cap (omega arith)) has

  -- ---- what the wires show
  module _ (v : Env (Name P)) (s : Stored) (slots : List Slot) (solved : Solve v part 0 (slots_block of d bits).wires) (sees : SeesOwn of v s) (holds : StoresHash d bits slots s) where
    there : (n k : ℕ) → n < d.cap → k < per_slot d → v.net (name.Wire part (n * per_slot d + k)) ≡ word_at (get_or s.memories k []) n
    there n k l m =
        let i = n * per_slot d + k in
        let count : length s.memories ≡ value_first d + word_count d.value = sym (length-map s.memories length) ∙ ap length holds.memories ∙ length-replicate (value_first d + word_count d.value) (2 ^ bits) in
        solved_at (shown_wire of d bits) part v 0 0 (wire_count d) i refl solved (omega arith) (omega (arith, place_within d n k l m))
        ∙ ap (λ x. v.memory_word (name.Memory of x) (i / per_slot d)) (mod-mul-add n (per_slot d) k m)
        ∙ ap (v.memory_word (name.Memory of k)) (div-mul-add n (per_slot d) k m)
        ∙ sees.memories k n (omega (arith, count))

    bit_value : (u : Bool) → (bit u).value ≡ cell_bit u
    bit_value true = refl
    bit_value false = refl

    one_shown : (n : ℕ) → n < d.cap → ShowsSlot v d (slot_at slots n) (shown_slot part d n)
    one_shown n l = record {
      used =
          let z : n * per_slot d ≡ n * per_slot d + 0 = omega arith in
          ap (λ i. (v.net (name.Wire part i)).value) z ∙ ap (λ (x : Word). x.value) (there n 0 l (omega arith) ∙ holds.used n l) ∙ bit_value (slot_at slots n).used;
      key = λ j a m.
          let q : n * per_slot d + 1 + j ≡ n * per_slot d + suc j = omega arith in
          let r : suc j ≡ 1 + j = omega arith in
          ap (number_in v) (get_or-map-range_with_len (λ j. Net (name.Wire part (n * per_slot d + 1 + j)) (word_width d.key j)) 0 (word_count d.key) j j a m (omega arith))
          ∙ ap (λ i. (v.net (name.Wire part i)).value) q
          ∙ ap (λ (x : Word). x.value) (there n (suc j) l (omega arith) ∙ ap (λ k. word_at (get_or s.memories k []) n) r ∙ holds.keys j n m l);
    }

    all_shown : ShowSlots v d slots (shown_slots part d)
    all_shown = record {
      count = holds.count ∙ sym (length-map-range_with_len (shown_slot part d) 0 d.cap);
      each = λ n a m.
          let within : n < d.cap = omega (arith, m, length-map-range_with_len (shown_slot part d) 0 d.cap) in
          subst (ShowsSlot v d (slot_at slots n)) (sym (get_or-map-range_with_len (shown_slot part d) 0 d.cap n n a within (omega arith))) (one_shown n within);
    }

  pub is_slots : IsSlots part of d bits (slots_block of d bits)
  is_slots = record {
    registers = refl;
    memories = refl;
    wires = widths;
    typed = typed;
    declared = declared;
    ordered = λ w before g. all_in_order (shown_wire of d bits) part w before 0 0 (wire_count d) (λ i k. (g, tt));
    reads = λ w. tt;
    within = tt;
    wires_spelled = all_pass (shown_wire of d bits) (λ w. right_spelled w.right) 0 (wire_count d) (λ i. refl);
    spelled = refl;
    free = record { wires = λ made. all_pass (shown_wire of d bits) (wire_flat made) 0 (wire_count d) (λ i. refl); statement = λ made. refl };
    goes = λ v. all_go (shown_wire of d bits) part v 0 (wire_count d) (λ i. (refl, tt));
    stays = λ v s. refl;
    shows = all_shown;
  }
