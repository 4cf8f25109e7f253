-- Where an index is found in an array.
use Rattle.std.specs.Prelude.{if◌then◌else◌}
use Rattle.std.specs.Str.{bytes_eq}
use Rattle.std.proofs.Common.{◌≡◌, ◌⊎◌, inl, inr, ℕ, ◌+◌, ◌-◌, ◌*◌, ◌%◌, ◌^◌, ◌<◌, ◌≤◌, Bool, true, false, List, [], ◌∷◌, length, map, refl, sym, ◌∙◌, ap, subst, arith}
use Rattle.std.proofs.Math.ListN.{get_or-map}
use Rattle.std.proofs.Math.Nat.{mod-eq_of_lt}
use Rattle.std.proofs.Math.Pow.{mod-mod-pow}
use Rattle.std.proofs.lemmas.Bool.{and_parts, cases_lt, lt-ltb, le-ltb}
use Rattle.std.proofs.lemmas.List.{length-map, take-append-le}
use Rattle.std.proofs.lemmas.List.Sums.{position_or_len_is}
use Rattle.std.proofs.lemmas.Nat.{mod_below, pow-add, pow_pos}
use Rattle.std.proofs.lemmas.Slice.Eq.{bytes_eq-Decides}
use Rattle.byteorder.specs.Endian.{little_bytes}
use Rattle.byteorder.specs.Numbers.{length-bytes_low_first}
use Rattle.byteorder.proofs.Bytes.{take-bytes_low_first}
use Rattle.net_core.specs.Value.{Env}
use Rattle.overlay_net.specs.xdp_maps.declared.decl.MapDecl.{MapDecl}
use Rattle.overlay_net.specs.xdp_maps.declared.decl.MapKind.TheVariants.{Array}
use Rattle.overlay_net.specs.xdp_maps.Contents.{IsBytes, IsWithinLimits, limits_as, index_key}
use Rattle.array_net.proofs.xdp_maps_laws.ByteLaws.{IsBytes-little_bytes}
use Rattle.overlay_net.specs.cell_core.Cells.{bits_from}
use Rattle.overlay_net.specs.cell_core.Sites.{bytes_of}
use Rattle.cell_nets.proofs.cell_core_laws.SpelledLaws.{bytes_are}
use Rattle.overlay_net.specs.hazard_core.declared.slot.Slot.{Slot}
use Rattle.overlay_net.specs.hazard_core.Tables.{slot_at, no_slot, has_key, slot_of}
use Rattle.overlay_net.specs.hazard_core.Tabled.{IsTable, IsFilledTable}
use Rattle.overlay_net.specs.hazard_core.declared.pointer.Pointer.TheVariants.{InSlot, Null}
use Rattle.overlay_net.specs.hazard_core.StageValues.{slot_pointer}
use Rattle.overlay_net.specs.hazard_core.Commits.{word_at}
use Rattle.overlay_net.specs.SiteOperands.Pointers.{pointer_number}
use Rattle.cell_nets.specs.declared.operand.Operand.{Operand}
use Rattle.cell_nets.specs.declared.operand.Operand.TheVariants.{Known}
use Rattle.cell_nets.specs.Operands.{number_in}
use Rattle.hash_net.specs.SlotNet.Slots.{HoldsKey}
use Rattle.hash_net.specs.SlotNet.Choosing.{operand_at, indexed_pointer}
use Rattle.hash_net.proofs.SlotNet.ChosenLemmas.{from_zero}
use Rattle.hash_net.proofs.SlotNet.WordLemmas.{same_words, word_of_words}

-- ---- the key of an index: its only word
index_bytes : (i : ℕ) → IsBytes 4 (index_key i)
unfolding index_key
index_bytes i = IsBytes-little_bytes 4 i

index_word : (i : ℕ) → word_at (index_key i) 0 ≡ i % 2 ^ 32
unfolding index_key
index_word i =
    ap (λ k. word_at k 0) (sym (take-append-le 4 (little_bytes 8 i) [] (omega (arith, length-bytes_low_first 0 8 i)) ∙ take-bytes_low_first 0 8 4 i (omega arith)))
    ∙ word_of_words 4 (i ∷ []) 0 (omega arith) (omega arith)

one_index : (i k : ℕ) → i < 2 ^ 32 → k < 2 ^ 32 → index_key i ≡ index_key k → i ≡ k
one_index i k a b e =
    sym (mod-eq_of_lt {n = i} {m = 2 ^ 32} a) ∙ sym (index_word i) ∙ ap (λ x. word_at x 0) e ∙ index_word k ∙ mod-eq_of_lt {n = k} {m = 2 ^ 32} b

limits_are : (d : MapDecl) → d.kind ≡ Array → IsWithinLimits d → (d.key ≡ 4) × (d.cap ≤ 65536)
limits_are d is l = subst (λ k. limits_as k d) is l.by_kind

-- the bytes of a key are those of the index in its low bits
key_is : {N : Type 0} (v : Env N) (d : MapDecl) (keys : List (Operand N)) (key : List ℕ) → d.key ≡ 4 → 1 ≤ length keys → HoldsKey v d keys key → key ≡ index_key (number_in v (operand_at keys 0) % 2 ^ 32)
key_is v d keys key four some holds = same_words 4 key (index_key x) whole (index_bytes x) (λ j l. let z : 0 ≡ j = omega arith in subst (λ k. word_at key k ≡ word_at (index_key x) k) z word)
  where
    x : ℕ
    x = number_in v (operand_at keys 0) % 2 ^ 32

    is : bytes_of 4 (map (number_in v) keys) ≡ key
    is = ap (λ k. bytes_of k (map (number_in v) keys)) (sym four) ∙ holds

    whole : IsBytes 4 key
    whole = subst (IsBytes 4) is (bytes_are 4 (map (number_in v) keys) (omega (arith, length-map keys (number_in v))))

    word : word_at key 0 ≡ word_at (index_key x) 0
    word =
        ap (λ k. word_at k 0) (sym is)
        ∙ word_of_words 4 (map (number_in v) keys) 0 (omega arith) (omega (arith, length-map keys (number_in v)))
        ∙ ap (λ k. k % 2 ^ 32) (get_or-map (number_in v) keys 0 (Known 0))
        ∙ sym (mod-eq_of_lt {n = x} {m = 2 ^ 32} (mod_below (number_in v (operand_at keys 0)) (2 ^ 32) (pow_pos 32)))
        ∙ sym (index_word x)

-- ---- the slot of an index
module _ (d : MapDecl) (table : List Slot) (is : IsTable d table) (kind : d.kind ≡ Array) (few : d.cap ≤ 65536) where
  filled : (n : ℕ) → n < length table → has_key (index_key n) (slot_at table n) ≡ true
  filled = subst (λ k. IsFilledTable k table) kind is.filled

  fails : (b : Bool) → (b ≡ true → ⊥) → b ≡ false
  fails true h = absurd (h refl)
  fails false h = refl

  pub slot_there : (i : ℕ) → i < d.cap → slot_of table (index_key i) ≡ i
  slot_there i l =
      let c = is.count in
      position_or_len_is (has_key (index_key i)) table i no_slot (omega arith)
      (λ k m. fails _ (λ t. let e : k ≡ i = is.single (index_key i) k i (omega arith) (omega arith) t (filled i (omega arith)) in absurd (omega arith)))
      (λ m. filled i m)

  other_slot : (i n : ℕ) → i < 2 ^ 32 → d.cap ≤ i → n < length table → has_key (index_key i) (slot_at table n) ≡ true → ⊥
  other_slot i n small past l t =
      let c = is.count in
      let s = slot_at table n in
      let a : s.key ≡ index_key i = (bytes_eq-Decides s.key (index_key i)).0 (and_parts s.used (bytes_eq s.key (index_key i)) t).1 in
      let b : s.key ≡ index_key n = (bytes_eq-Decides s.key (index_key n)).0 (and_parts s.used (bytes_eq s.key (index_key n)) (filled n l)).1 in
      let e : n ≡ i = one_index n i (omega arith) small (sym b ∙ a) in
      omega arith

  pub slot_past_all : (i : ℕ) → i < 2 ^ 32 → d.cap ≤ i → slot_of table (index_key i) ≡ length table
  slot_past_all i small past = position_or_len_is (has_key (index_key i)) table (length table) no_slot (omega arith) (λ k m. fails _ (other_slot i k small past m)) (λ m. absurd (omega arith))

low_there : (x bits cap : ℕ) → 3 ≤ bits → bits ≤ 34 → 4 * cap + 1 < 2 ^ bits → x % 2 ^ 32 < cap → bits_from x 0 (bits - 2) ≡ x % 2 ^ 32
low_there x bits cap some most room inside =
    let s : (34 - bits) + (bits - 2) ≡ 32 = omega arith in
    let q : bits - 2 + 2 ≡ bits = omega arith in
    let p : 2 ^ (bits - 2) * 4 ≡ 2 ^ bits = sym (pow-add 2 (bits - 2) 2) ∙ ap (λ k. 2 ^ k) q in
    from_zero x (bits - 2)
    ∙ sym (mod-mod-pow x (34 - bits) (bits - 2))
    ∙ ap (λ k. x % 2 ^ k % 2 ^ (bits - 2)) s
    ∙ mod-eq_of_lt {n = x % 2 ^ 32} {m = 2 ^ (bits - 2)} (omega (arith, p))

pub indexed_small : (cap bits x : ℕ) → 3 ≤ bits → bits ≤ 34 → 4 * cap + 1 < 2 ^ bits → indexed_pointer cap bits x < 2 ^ bits
indexed_small cap bits x some most room = by_order (cases_lt (bits_from x 0 32) cap)
  where
    by_order : (bits_from x 0 32 < cap) ⊎ (cap ≤ bits_from x 0 32) → indexed_pointer cap bits x < 2 ^ bits
    by_order (inl inside) =
        let z = from_zero x 32 in
        let e = low_there x bits cap some most room (omega (arith, z)) in
        let is : indexed_pointer cap bits x ≡ bits_from x 0 (bits - 2) * 4 + 1 = ap (λ b. if b then bits_from x 0 (bits - 2) * 4 + 1 else 0) (lt-ltb (bits_from x 0 32) cap inside) in
        omega (arith, is, e, z)
    by_order (inr past) =
        let is : indexed_pointer cap bits x ≡ 0 = ap (λ b. if b then bits_from x 0 (bits - 2) * 4 + 1 else 0) (le-ltb (bits_from x 0 32) cap past) in
        omega (arith, is)

pub index_found :
    {N : Type 0} (v : Env N) (d : MapDecl) (keys : List (Operand N)) (key : List ℕ) (table : List Slot) (bits : ℕ) → d.kind ≡ Array → IsWithinLimits d → IsTable d table → 1 ≤ length keys → 3 ≤ bits → bits ≤ 34 → 4 * d.cap + 1 < 2 ^ bits → HoldsKey v d keys key
    → indexed_pointer d.cap bits (number_in v (operand_at keys 0)) ≡ pointer_number (slot_pointer table key)
index_found v d keys key table bits kind limits is some wide most room holds = by_order (cases_lt (bits_from x 0 32) d.cap)
  where
    x : ℕ
    x = number_in v (operand_at keys 0)

    l : (d.key ≡ 4) × (d.cap ≤ 65536)
    l = limits_are d kind limits

    z : bits_from x 0 32 ≡ x % 2 ^ 32
    z = from_zero x 32

    small : x % 2 ^ 32 < 2 ^ 32
    small = mod_below x (2 ^ 32) (pow_pos 32)

    of : key ≡ index_key (x % 2 ^ 32)
    of = key_is v d keys key l.0 some holds

    by_order : (bits_from x 0 32 < d.cap) ⊎ (d.cap ≤ bits_from x 0 32) → indexed_pointer d.cap bits x ≡ pointer_number (slot_pointer table key)
    by_order (inl inside) =
        let at : slot_of table key ≡ x % 2 ^ 32 = ap (slot_of table) of ∙ slot_there d table is kind l.1 (x % 2 ^ 32) (omega (arith, z)) in
        let within : slot_of table key < length table = omega (arith, at, z, is.count) in
        let low = low_there x bits d.cap wide most room (omega (arith, z)) in
        let n : bits_from x 0 (bits - 2) * 4 + 1 ≡ 4 * slot_of table key + 1 = omega (arith, low, at) in
        ap (λ b. if b then bits_from x 0 (bits - 2) * 4 + 1 else 0) (lt-ltb (bits_from x 0 32) d.cap inside) ∙ n ∙ sym (ap (λ b. pointer_number (if b then InSlot (slot_of table key) else Null)) (lt-ltb (slot_of table key) (length table) within))
    by_order (inr past) =
        let at : slot_of table key ≡ length table = ap (slot_of table) of ∙ slot_past_all d table is kind l.1 (x % 2 ^ 32) small (omega (arith, z)) in
        ap (λ b. if b then bits_from x 0 (bits - 2) * 4 + 1 else 0) (le-ltb (bits_from x 0 32) d.cap past) ∙ sym (ap (λ b. pointer_number (if b then InSlot (slot_of table key) else Null)) (le-ltb (slot_of table key) (length table) (omega (arith, at))))
