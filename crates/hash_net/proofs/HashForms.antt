-- The block of a hash is well typed, in order, spelled and free of products.
use Rattle.std.specs.Prelude.{◌≡◌, ℕ, suc, ◌+◌, ◌-◌, ◌^◌, ◌<◌, ◌≤◌, ◌==◌, if◌then◌else◌, ◌&&◌, Bool, true, false, max, List, [], ◌∷◌, ◌++◌, length, map as map_list}
use Rattle.std.specs.List.{list_all}
use Rattle.std.proofs.Common.{get_or, refl, sym, ap, ◌∙◌, subst, arith, inl, length-append}
use Rattle.std.proofs.Math.Nat.{pow-le-pow_right}
use Rattle.std.proofs.lemmas.Bool.{lt-ltb, le-leb}
use Rattle.std.proofs.lemmas.Bool.Decides.{nat_tests}
use Rattle.std.proofs.lemmas.Nat.{pow_pos}
use Rattle.std.proofs.lemmas.List.{length-map, get_or_append_left, get_or-append-add}
use Rattle.net_core.specs.declared.ports.TheConstants.{HOST_INDEX, HOST_WORD}
use Rattle.net_core.specs.Nets.{Tree, TConditional, SEnd}
use Rattle.net_core.specs.Chains.{statements_before}
use Rattle.net_core.specs.Ports.{port_list}
use Rattle.net_core.specs.Value.{word}
use Rattle.net_core.specs.Width.{Scope, width_of, statement_typed, concatenation_width, const_width, same_width, memory_word_width, word_fits}
use Rattle.net_core.proofs.WidthLaws.{concatenation_is}
use Rattle.block_core.specs.design_rules.FormedSyntax.{right_spelled, tree_spelled, statement_spelled, statements_depth, depth}
use Rattle.net_core.specs.ProductRules.Products.{statement_flat}
use Rattle.block_core.specs.ProductBlocks.Alone.{wire_flat}
use Rattle.block_core.specs.declared.name.Name.{Name}
use Rattle.block_core.specs.declared.name.Name.TheVariants as name
use Rattle.block_core.specs.Blocks.{BlockTree, Whole, Among}
use Rattle.block_core.specs.Parts.{Within}
use Rattle.block_core.specs.Order.{IsBefore, InOrder, Reads}
use Rattle.block_core.specs.Formed.{names_scope, block_registers, block_memories, block_wires, memories_fit, block_wires_typed, IsTypedBlock, StatementReads, IsThere}
use Rattle.block_core.proofs.list_laws_laws.BoolLaws.{and_is}
use Rattle.block_core.proofs.OrderLaws.{still_before}
use Rattle.overlay_net.specs.xdp_maps.declared.decl.MapDecl.{MapDecl}
use Rattle.overlay_net.specs.xdp_maps.Contents.{IsWithinLimits}
use Rattle.overlay_net.specs.hazard_core.Commits.{word_count}
use Rattle.frame_net.specs.GatherNets.{net, constant, beside}
use Rattle.frame_net.specs.SourcesNets.{held}
use Rattle.frame_net.specs.Stores.{Store, widths_memory, store_statements}
use Rattle.frame_net.proofs.FormLaws.{one_is, same_is, wire_is}
use Rattle.frame_net.proofs.StoreLaws.{widths_are, AreStoresTyped, stores_typed, AllReads, stores_read, stores_within, AllSpelled, stores_deep, stores_placed, stores_pass}
use Rattle.array_net.specs.declared.words.WordNets.{WordNets}
use Rattle.array_net.specs.Words.{word_width, AreThere}
use Rattle.array_net.specs.WordTrees.{host_index, words_read, memories_from, word_memories, word_stores}
use Rattle.array_net.specs.ArrayNets.{names_slot, chosen_index}
use Rattle.array_net.proofs.WordStoreLaws.{select_is, choice_is, count_stores, words_typed, words_there, words_spelled, AllFlat, stores_flat, words_flat}
use Rattle.array_net.proofs.WordMemoryLaws.{memory_at, count_memories, fit_memories}
use Rattle.array_net.proofs.WordReadLaws.{read_width, read_reads, read_depth, read_apart, read_flat}
use Rattle.hash_net.specs.declared.block.HashNets.{HashNets}
use Rattle.hash_net.specs.HashNets.{value_first, hash_memories, key_nets, idle_gate, value_gate, used_sets, used_bit, value_read, hash_wires, count_after, hash_stores, hash_statement, hash_block}
use Rattle.hash_net.specs.Hash.{HaveHashWidths, AreNets}

module _ {P : Type 0} (p : P) (map : ℕ) (d : MapDecl) (bits : ℕ) (nets : HashNets (Name P)) (keys : List (Name P)) (values : List (WordNets (Name P))) (few : map < 16) (limits : IsWithinLimits d)
    (some : 1 ≤ bits) (most : bits ≤ 16) (room : d.cap ≤ 2 ^ bits) (key_count : length keys ≡ word_count d.key) (value_count : length values ≡ word_count d.value) where
  abbrev key_words : List (WordNets (Name P))
  key_words = map_list (key_nets nets.inserts) keys

  abbrev key_stores : List (Store (Name P))
  key_stores = word_stores nets.map.commits (name.Wire p 3) (name.Wire p 1) 1 d.key 0 key_words

  abbrev value_stores : List (Store (Name P))
  value_stores = word_stores nets.map.commits (name.Wire p 4) (name.Wire p 1) (value_first d) d.value 0 values

  abbrev stores : List (Store (Name P))
  stores = hash_stores p d nets keys values

  abbrev block : BlockTree (Name P)
  block = hash_block p map d bits nets keys values

  pub count_keys : length key_words ≡ word_count d.key
  count_keys = length-map keys (key_nets nets.inserts) ∙ key_count

  pub few_words : value_first d + word_count d.value ≤ 14
  few_words = let k = limits.key_short in let v = limits.value_short in omega arith

  pub count_key_stores : length key_stores ≡ word_count d.key
  count_key_stores = count_stores nets.map.commits (name.Wire p 3) (name.Wire p 1) 1 d.key 0 key_words ∙ count_keys

  pub count_value_stores : length value_stores ≡ word_count d.value
  count_value_stores = count_stores nets.map.commits (name.Wire p 4) (name.Wire p 1) (value_first d) d.value 0 values ∙ value_count

  pub count_all : length stores ≡ value_first d + word_count d.value
  count_all = ap suc (length-append key_stores value_stores) ∙ omega (arith, count_key_stores, count_value_stores)

  pub count_widths : length (hash_memories bits d) ≡ value_first d + word_count d.value
  count_widths = ap suc (length-append (word_memories bits d.key) (word_memories bits d.value)) ∙ omega (arith, count_memories bits d.key 0 (word_count d.key), count_memories bits d.value 0 (word_count d.value))

  -- ---- memories
  pub key_memory : (k : ℕ) → k < word_count d.key → get_or (hash_memories bits d) (1 + k) (0, 0) ≡ (bits, word_width d.key k)
  key_memory k l =
      let z : 1 + k ≡ suc k = omega arith in
      let y : 0 + k ≡ k = omega arith in
      ap (λ i. get_or (hash_memories bits d) i (0, 0)) z
      ∙ get_or_append_left (word_memories bits d.key) (word_memories bits d.value) (0, 0) k (omega (arith, count_memories bits d.key 0 (word_count d.key)))
      ∙ memory_at bits d.key 0 (word_count d.key) k l
      ∙ ap (λ i. (bits, word_width d.key i)) y

  pub value_memory : (k : ℕ) → k < word_count d.value → get_or (hash_memories bits d) (value_first d + k) (0, 0) ≡ (bits, word_width d.value k)
  value_memory k l =
      let c = count_memories bits d.key 0 (word_count d.key) in
      let z : value_first d + k ≡ suc (length (word_memories bits d.key) + k) = omega (arith, c) in
      let y : 0 + k ≡ k = omega arith in
      ap (λ i. get_or (hash_memories bits d) i (0, 0)) z
      ∙ get_or-append-add (word_memories bits d.key) (word_memories bits d.value) k (0, 0)
      ∙ memory_at bits d.value 0 (word_count d.value) k l
      ∙ ap (λ i. (bits, word_width d.value i)) y

  fit_append : (xs ys : List (ℕ × ℕ)) → memories_fit (map_list widths_memory xs) ≡ true → memories_fit (map_list widths_memory ys) ≡ true → memories_fit (map_list widths_memory (xs ++ ys)) ≡ true
  fit_append [] ys h k = k
  fit_append (x ∷ xs) ys h k = fit_one _ _ _ h (λ r. fit_append xs ys r k)
    where
      fit_one : (a b c : Bool) → (a && b) ≡ true → (b ≡ true → c ≡ true) → (a && c) ≡ true
      fit_one true b c h f = f h
      fit_one false b c h f = h

  memories_are_fit : memories_fit (map_list widths_memory (hash_memories bits d)) ≡ true
  memories_are_fit =
      and_is _ _ (and_is _ _ (and_is _ _ (le-leb 1 bits some) (le-leb bits 16 most)) refl)
      (fit_append (word_memories bits d.key) (word_memories bits d.value) (fit_memories bits d.key 0 (word_count d.key) some most (omega arith)) (fit_memories bits d.value 0 (word_count d.value) some most (omega arith)))

  -- ---- well typed
  module _ (w : Whole P) (here : w.block p ≡ block) (h : HaveHashWidths w d bits nets keys values) where
    abbrev s : Scope (Name P)
    s = names_scope w port_list

    own_wire : (k : ℕ) → s.net (name.Wire p k) ≡ get_or (1 ∷ bits ∷ 1 ∷ 1 ∷ 1 ∷ 1 ∷ 1 ∷ 64 ∷ []) k 0
    own_wire k = ap (λ (b : BlockTree (Name P)). get_or (block_wires b) k 0) here

    own_register : s.net (name.Register p 0) ≡ bits + 1
    own_register = ap (λ (b : BlockTree (Name P)). get_or (block_registers b) 0 0) here

    own_memories : block_memories (w.block p) ≡ hash_memories bits d
    own_memories = ap block_memories here ∙ widths_are (hash_memories bits d)

    own_memory : (k m : ℕ) → get_or (hash_memories bits d) k (0, 0) ≡ (bits, m) → (s.index (name.Memory p k) ≡ bits) × (s.memory_word (name.Memory p k) ≡ m)
    own_memory k m e = let f : get_or (block_memories (w.block p)) k (0, 0) ≡ (bits, m) = ap (λ l. get_or l k (0, 0)) own_memories ∙ e in (ap (λ x. x.0) f, ap (λ x. x.1) f)

    slot_width : width_of s (names_slot map d.cap) ≡ 1
    slot_width =
        let m : map < 2 ^ 4 = omega arith in
        let l = limits.cap_some in
        let n : 2 ^ bits ≤ 2 ^ 16 = pow-le-pow_right {n = 2} (omega arith) {i = bits} {j = 16} most in
        let c : d.cap - 1 < 2 ^ 16 = omega arith in
        rw (lt-ltb map (2 ^ 4) m, lt-ltb (d.cap - 1) (2 ^ 16) c) refl

    index_width : width_of s (chosen_index bits nets.map) ≡ bits
    index_width = choice_is (s.net nets.map.commits) (s.net nets.map.slot) _ bits h.commits h.slot (select_is 16 bits (omega arith) some most) (omega arith)

    used_width : (index : Tree (Name P)) → width_of s index ≡ bits → width_of s (held p 0 index) ≡ 1
    used_width index e =
        let m = own_memory 0 1 refl in
        (λ i. memory_word_width (e i) (m.0 i) (m.1 i)) ∙ ap (λ t. if t then 1 else 0) (same_is bits bits some refl)

    idle_width : width_of s (idle_gate p nets) ≡ 1
    idle_width = rw (h.writes, own_wire 0, h.idle) refl

    values_width : width_of s (value_gate p nets) ≡ 1
    values_width = rw (h.writes, own_wire 0, h.idle, own_wire 2) refl

    sets_width : width_of s (used_sets p nets) ≡ 1
    sets_width = rw (h.commits, h.inserts, h.deletes, own_wire 3) refl

    bit_width : width_of s (used_bit nets) ≡ 1
    bit_width = rw (h.commits, h.inserts) refl

    values_read : width_of s (words_read p bits (value_first d) d.value 0 (word_count d.value) (constant 64 0)) ≡ 64
    values_read =
        read_width p bits (value_first d) d.value some most s 0 (word_count d.value) (constant 64 0) (omega arith) (omega (arith, few_words)) refl refl (λ k l. own_memory (value_first d + k) (word_width d.value k) (value_memory k l)) refl

    keys_read : width_of s (words_read p bits 1 d.key 0 (word_count d.key) (words_read p bits (value_first d) d.value 0 (word_count d.value) (constant 64 0))) ≡ 64
    keys_read =
        read_width p bits 1 d.key some most s 0 (word_count d.key) (words_read p bits (value_first d) d.value 0 (word_count d.value) (constant 64 0)) (omega arith) (omega (arith, few_words)) refl refl
        (λ k l. own_memory (1 + k) (word_width d.key k) (key_memory k l)) values_read

    read_is : width_of s (value_read p bits d) ≡ 64
    read_is = choice_is _ _ _ 64 refl (ap (concatenation_width 63) (used_width (host_index bits) (select_is 16 bits (omega arith) some most))) keys_read (omega arith)

    value_width : width_of s (TConditional (net p 0) (value_read p bits d) (constant 64 0)) ≡ 64
    value_width = choice_is _ _ 64 64 (own_wire 0) read_is refl (omega arith)

    wires_typed : block_wires_typed s (hash_wires p map d bits nets) ≡ true
    wires_typed =
        and_is _ _ (wire_is 1 _ (omega arith) (omega arith) slot_width) (and_is _ _ (wire_is bits _ (omega arith) (omega arith) index_width)
        (and_is _ _ (wire_is 1 _ (omega arith) (omega arith) (used_width (net p 1) (own_wire 1))) (and_is _ _ (wire_is 1 _ (omega arith) (omega arith) idle_width)
        (and_is _ _ (wire_is 1 _ (omega arith) (omega arith) values_width) (and_is _ _ (wire_is 1 _ (omega arith) (omega arith) sets_width)
        (and_is _ _ (wire_is 1 _ (omega arith) (omega arith) bit_width) (and_is _ _ (wire_is 64 _ (omega arith) (omega arith) value_width) refl)))))))

    bit_wide : (k : ℕ) → s.net (name.Wire p k) ≡ 1 → width_of s (beside (constant bits 0) (net p k)) ≡ bits + 1
    bit_wide k e =
        let z : 0 < 2 ^ bits = pow_pos bits in
        let l : bits ≤ 64 = omega arith in
        let c : const_width (word bits 0) ≡ bits = rw (le-leb bits 64 l, lt-ltb 0 (2 ^ bits) z) refl in
        (λ i. concatenation_width (c i) (e i)) ∙ concatenation_is bits 1 (omega arith) (omega arith) (omega arith)

    count_width : width_of s (count_after p bits) ≡ bits + 1
    count_width =
        let b = bit_wide 6 (own_wire 6) in
        let a = bit_wide 2 (own_wire 2) in
        let same : same_width (bits + 1) (bits + 1) ≡ bits + 1 = ap (λ t. if t then bits + 1 else 0) (one_same (bits + 1)) in
        (λ i. same_width (same_width (own_register i) (b i)) (a i)) ∙ ap (λ x. same_width x (bits + 1)) same ∙ same
      where
        one_same : (n : ℕ) → (n == n) ≡ true
        one_same n = grind (arith, nat_tests)

    typed_append : (ws us : List (ℕ × ℕ)) (xs ys : List (Store (Name P))) → length xs ≡ length ws → AreStoresTyped s ws xs → AreStoresTyped s us ys → AreStoresTyped s (ws ++ us) (xs ++ ys)
    typed_append [] us [] ys e a b = b
    typed_append [] us (x ∷ xs) ys e a b = absurd (omega arith)
    typed_append (w ∷ ws) us [] ys e a b = absurd (omega arith)
    typed_append (w ∷ ws) us (x ∷ xs) ys e a b = (a.0, typed_append ws us xs ys (omega arith) a.1 b)

    stores_fit : AreStoresTyped s (hash_memories bits d) stores
    stores_fit =
        let ks : AreStoresTyped s (word_memories bits d.key) key_stores = subst (λ k. AreStoresTyped s (memories_from bits d.key 0 k) key_stores) count_keys
        (words_typed nets.map.commits (name.Wire p 3) (name.Wire p 1) 1 d.key s bits 0 key_words h.commits (own_wire 3) (own_wire 1) refl refl some (omega (arith, few_words)) (omega (arith, count_keys)) h.key_words) in
        let vs : AreStoresTyped s (word_memories bits d.value) value_stores = subst (λ k. AreStoresTyped s (memories_from bits d.value 0 k) value_stores) value_count
        (words_typed nets.map.commits (name.Wire p 4) (name.Wire p 1) (value_first d) d.value s bits 0 values h.commits (own_wire 4) (own_wire 1) refl refl some (omega (arith, few_words)) (omega (arith, value_count)) h.value_words) in (
          record { condition = own_wire 5; at = own_wire 1; value = own_wire 6; some_index = some; some_width = omega arith },
          typed_append (word_memories bits d.key) (word_memories bits d.value) key_stores value_stores (count_key_stores ∙ sym (count_memories bits d.key 0 (word_count d.key))) ks vs,
        )

    pub is_typed : IsTypedBlock w port_list block
    is_typed =
        let ms = hash_memories bits d in
        let first : word_fits (word (bits + 1) 0) ≡ true =
        (let one : 0 < bits + 1 = omega arith in let low : bits + 1 ≤ 64 = omega arith in let z : 0 < 2 ^ (bits + 1) = pow_pos (bits + 1) in rw (lt-ltb 0 (bits + 1) one, le-leb (bits + 1) 64 low, lt-ltb 0 (2 ^ (bits + 1)) z) refl) in
        record {
          registers = and_is _ _ first refl;
          memories = memories_are_fit;
          wires = wires_typed;
          statement = subst (λ l. statement_typed s ((bits + 1) ∷ []) l (hash_statement p d bits nets keys values) ≡ true) (sym (widths_are ms))
              (and_is _ _ (and_is _ _ (one_is _ (own_wire 5)) (same_is (bits + 1) _ (omega arith) count_width))
              (stores_typed s ((bits + 1) ∷ []) ms ms stores 0 (λ k l. let z : 0 + k ≡ k = omega arith in ap (λ i. get_or ms i (0, 0)) z) (count_all ∙ sym count_widths) stores_fit));
        }

  -- ---- in order
  value_reads : (q : Name P → Type 0) → q (name.Port HOST_INDEX) → q (name.Port HOST_WORD) → ((k : ℕ) → q (name.Memory p k)) → Reads q (value_read p bits d)
  value_reads q x w m = (
    (w, tt),
    (tt, (m 0, x)),
    read_reads p bits 1 d.key some most q 0 (word_count d.key) (words_read p bits (value_first d) d.value 0 (word_count d.value) (constant 64 0)) x w m (omega arith)
        (read_reads p bits (value_first d) d.value some most q 0 (word_count d.value) (constant 64 0) x w m (omega arith) tt),
  )

  pub in_order : (w : Whole P) (before : List P) → Among p w.parts → AreNets (IsBefore w before p 0) nets → InOrder w before p 0 (hash_wires p map d bits nets)
  in_order w before here a = (
    ((tt, tt), (tt, tt)),
    (
      (still_before w before p 1 nets.map.commits a.0, still_before w before p 1 nets.map.slot a.1, tt),
      (
        (here, inl (refl, omega arith)),
        (
          (still_before w before p 3 nets.map.writes a.2, (inl (refl, omega arith), still_before w before p 3 nets.idle a.3)),
          (
            (still_before w before p 4 nets.map.writes a.2, (inl (refl, omega arith), (still_before w before p 4 nets.idle a.3, inl (refl, omega arith)))),
            (
              ((still_before w before p 5 nets.map.commits a.0, (still_before w before p 5 nets.inserts a.4, still_before w before p 5 nets.deletes a.5)), (inl (refl, omega arith), (tt, tt))),
              (
                (still_before w before p 6 nets.map.commits a.0, still_before w before p 6 nets.inserts a.4, tt),
                ((inl (refl, omega arith), value_reads (IsBefore w before p 7) tt tt (λ k. here), tt), tt),
              ),
            ),
          ),
        ),
      ),
    ),
  )

  -- ---- what the statement reads and sets
  reads_append : (q : Name P → Type 0) (xs ys : List (Store (Name P))) → AllReads q xs → AllReads q ys → AllReads q (xs ++ ys)
  reads_append q [] ys a b = b
  reads_append q (x ∷ xs) ys a b = (a.0, reads_append q xs ys a.1 b)

  pub reads_there : (w : Whole P) → Among p w.parts → AreNets (IsThere w) nets → AreThere (IsThere w) key_words → AreThere (IsThere w) values → StatementReads (IsThere w) (hash_statement p d bits nets keys values)
  reads_there w here a k v = (
    (here, ((here, (tt, here)), (tt, here))),
    stores_read (IsThere w) stores 0 (
      (here, (here, here)),
      reads_append (IsThere w) key_stores value_stores (words_there nets.map.commits (name.Wire p 3) (name.Wire p 1) 1 d.key (IsThere w) 0 key_words a.0 here here tt tt k)
          (words_there nets.map.commits (name.Wire p 4) (name.Wire p 1) (value_first d) d.value (IsThere w) 0 values a.0 here here tt tt v),
    ),
  )

  pub is_within : Within 1 (length (map_list widths_memory (hash_memories bits d))) (hash_statement p d bits nets keys values)
  is_within =
      let m : length (map_list widths_memory (hash_memories bits d)) ≡ value_first d + word_count d.value = length-map (hash_memories bits d) widths_memory ∙ count_widths in
      (omega arith, stores_within 1 (length (map_list widths_memory (hash_memories bits d))) stores 0 (omega (arith, count_all, m)))

  -- ---- spelled
  value_spelled : tree_spelled (TConditional (net p 0) (value_read p bits d) (constant 64 0)) ≡ true
  value_spelled =
      let rest : Tree (Name P) = words_read p bits (value_first d) d.value 0 (word_count d.value) (constant 64 0) in
      let values_deep = read_depth p bits (value_first d) d.value some most 0 (word_count d.value) (constant 64 0) (omega arith) in
      let keys_deep = read_depth p bits 1 d.key some most 0 (word_count d.key) rest (omega arith) in
      let whole : depth (TConditional (net p 0) (value_read p bits d) (constant 64 0)) ≤ 64 = omega (arith, few_words) in
      and_is _ _ (le-leb _ 64 whole)
      (and_is _ _ (read_apart p bits 1 d.key some most 0 (word_count d.key) rest (omega arith) (read_apart p bits (value_first d) d.value some most 0 (word_count d.value) (constant 64 0) (omega arith) refl)) refl)

  pub wires_spelled : list_all (λ w. right_spelled w.right) (hash_wires p map d bits nets) ≡ true
  wires_spelled = and_is _ _ value_spelled refl

  spelled_append : (xs ys : List (Store (Name P))) → AllSpelled xs → AllSpelled ys → AllSpelled (xs ++ ys)
  spelled_append [] ys a b = b
  spelled_append (x ∷ xs) ys a b = (a.0, spelled_append xs ys a.1 b)

  pub is_spelled : statement_spelled (hash_statement p d bits nets keys values) ≡ true
  is_spelled =
      let all : AllSpelled stores = (
        (refl, (refl, refl)),
        spelled_append key_stores value_stores (words_spelled nets.map.commits (name.Wire p 3) (name.Wire p 1) 1 d.key 0 key_words)
            (words_spelled nets.map.commits (name.Wire p 4) (name.Wire p 1) (value_first d) d.value 0 values),
      ) in
      let deep : statements_depth (statements_before (store_statements 0 stores) SEnd) ≤ 2 = stores_deep stores 0 in
      let whole : suc (max 2 (statements_depth (statements_before (store_statements 0 stores) SEnd))) ≤ 64 = omega arith in
      and_is _ _ (le-leb _ 64 whole) (and_is _ _ (stores_placed stores 0) (and_is _ _ refl (stores_pass stores 0 all)))

  -- ---- free of products
  pub wires_free : (made : Name P → Bool) → list_all (wire_flat made) (hash_wires p map d bits nets) ≡ true
  wires_free made =
      let rest : Tree (Name P) = words_read p bits (value_first d) d.value 0 (word_count d.value) (constant 64 0) in
      and_is _ _ (and_is _ _ (read_flat p bits 1 d.key some most made 0 (word_count d.key) rest (omega arith) (read_flat p bits (value_first d) d.value some most made 0 (word_count d.value) (constant 64 0) (omega arith) refl)) refl) refl

  flat_append : (made : Name P → Bool) (xs ys : List (Store (Name P))) → AllFlat made xs → AllFlat made ys → AllFlat made (xs ++ ys)
  flat_append made [] ys a b = b
  flat_append made (x ∷ xs) ys a b = (a.0, flat_append made xs ys a.1 b)

  pub statement_free : (made : Name P → Bool) → statement_flat made (hash_statement p d bits nets keys values) ≡ true
  statement_free made =
      stores_flat made stores 0 (
        (refl, (refl, refl)),
        flat_append made key_stores value_stores (words_flat nets.map.commits (name.Wire p 3) (name.Wire p 1) 1 d.key made 0 key_words)
            (words_flat nets.map.commits (name.Wire p 4) (name.Wire p 1) (value_first d) d.value made 0 values),
      )
