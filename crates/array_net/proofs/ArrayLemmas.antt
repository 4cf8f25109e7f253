-- The block of an array is what it is to be.
use Rattle.std.specs.Prelude.{◌≡◌, ◌≢◌, ℕ, suc, ◌+◌, ◌-◌, ◌*◌, ◌^◌, ◌<◌, ◌≤◌, ◌==◌, nat_lt, if◌then◌else◌, ◌&&◌, ◌||◌, Bool, true, false, List, [], ◌∷◌, length, map as map_list, slice_set}
use Rattle.std.specs.List.{list_all}
use Rattle.std.proofs.Common.{get_or, refl, sym, ap, ◌∙◌, subst, arith, inl}
use Rattle.std.proofs.Math.Nat.{pow-le-pow_right, mod-eq_of_lt}
use Rattle.std.proofs.lemmas.Bool.{lt-ltb, le-leb}
use Rattle.std.proofs.lemmas.Bool.Decides.{nat_tests}
use Rattle.std.proofs.lemmas.List.{length-map, length-set, length-replicate, get_or-map, get_or-replicate, get_or-set_same, get_or-set_other}
use Rattle.net_core.specs.declared.tree.Op.TheVariants.{And, Less}
use Rattle.net_core.specs.Nets.{Tree, TRead, TBinary, TConditional, SEnd}
use Rattle.net_core.specs.Chains.{statements_before}
use Rattle.net_core.specs.Ports.{port_list}
use Rattle.net_core.specs.Value.{word, bit, Env, value, apply, conditional, part_select}
use Rattle.net_core.specs.Clock.{Stored, done, edge}
use Rattle.net_core.specs.Width.{Scope, width_of, statement_typed}
use Rattle.net_core.proofs.BitLaws.{and_bits}
use Rattle.block_core.specs.design_rules.FormedSyntax.{right_spelled, tree_spelled, statement_spelled, statements_depth, depth}
use Rattle.block_core.specs.ProductBlocks.Alone.{wire_flat}
use Rattle.block_core.specs.declared.name.Name.{Name}
use Rattle.block_core.specs.declared.name.Name.TheVariants as name
use Rattle.block_core.specs.Blocks.{BlockTree, BlockWireTree, Whole, Among, first_of}
use Rattle.block_core.specs.Parts.{Solve, Within}
use Rattle.block_core.specs.Order.{IsBefore, InOrder}
use Rattle.block_core.specs.Formed.{names_scope, name_width, block_memories, block_wires, block_wires_typed, IsTypedBlock, StatementReads, IsThere}
use Rattle.block_core.proofs.list_laws_laws.BoolLaws.{and_is}
use Rattle.block_core.proofs.OrderLaws.{still_before}
use Rattle.xdp_maps.specs.declared.decl.MapDecl.{MapDecl}
use Rattle.xdp_maps.specs.declared.decl.MapKind.TheVariants.{Array}
use Rattle.xdp_maps.specs.Contents.{IsWithinLimits}
use Rattle.hazard_core.specs.declared.slot.Slot.{Slot}
use Rattle.hazard_core.specs.declared.access.Access.{Access}
use Rattle.hazard_core.specs.declared.access.Word.{Word as HostWord}
use Rattle.hazard_core.specs.declared.access.Word.TheVariants.{Value, Nothing}
use Rattle.hazard_core.specs.Tables.{no_slot, slot_at}
use Rattle.hazard_core.specs.Commits.{word_count, word_at as byte_word, word_as, shown_word, written_word, may_write}
use Rattle.frame_net.specs.Frames.{word_at}
use Rattle.frame_net.specs.GatherNets.{net, constant}
use Rattle.frame_net.specs.Stores.{Store, widths_memory, store_statements}
use Rattle.frame_net.proofs.FormLaws.{wire_is}
use Rattle.frame_net.proofs.StoreLaws.{in_turn, none_stored, registers_stay, lengths_stay, widths_are, AreStoresTyped, stores_typed, stores_read, stores_within, stores_deep, stores_placed, stores_pass}
use Rattle.array_net.specs.declared.words.WordNets.{WordNets}
use Rattle.array_net.specs.declared.block.MapNets.{MapNets}
use Rattle.array_net.specs.Words.{word_width, AsksWord, HaveWidths, AreThere}
use Rattle.array_net.specs.WordTrees.{host_index, words_read, memories_from, word_memories, word_store, word_stores}
use Rattle.array_net.specs.Hosts.{SeesHost, SeesMemories, named_word, written_table}
use Rattle.array_net.specs.Array.{StoresArray, IsZeroed, with_value, AsksArray, IsArray}
use Rattle.array_net.specs.ArrayNets.{names_slot, has_word, chosen_index, array_wires, array_statement, array_block}
use Rattle.array_net.proofs.WordLaws.{word_there, word_zero, length_stays}
use Rattle.array_net.proofs.WordStoreLaws.{select_is, choice_is, low_part, shut, count_stores, store_of, words_typed, words_there, words_spelled, stores_flat, words_flat, words_off, words_unnamed, IsTaken, operation_takes, host_takes, words_after, asked_at}
use Rattle.array_net.proofs.WordMemoryLaws.{memory_at, count_memories, memories_are_fit, first_sizes, first_at}
use Rattle.array_net.proofs.HostLaws.{slot_named}
use Rattle.array_net.proofs.WordReadLaws.{shown_value, read_width, read_reads, read_depth, read_apart, read_flat, read_other, read_here}

module _ {P : Type 0} (p : P) (map : ℕ) (d : MapDecl) (bits : ℕ) (nets : MapNets (Name P)) (words : List (WordNets (Name P))) (few : map < 16) (kind : d.kind ≡ Array) (limits : IsWithinLimits d)
    (some : 1 ≤ bits) (most : bits ≤ 16) (room : d.cap ≤ 2 ^ bits) (count : length words ≡ word_count d.value) where
  abbrev wires : List (BlockWireTree (Name P))
  wires = array_wires p map d bits nets

  abbrev stores : List (Store (Name P))
  stores = word_stores nets.commits (name.Wire p 2) (name.Wire p 1) 0 d.value 0 words

  abbrev block : BlockTree (Name P)
  block = array_block p map d bits nets words

  abbrev read : Tree (Name P)
  read = words_read p bits 0 d.value 0 (word_count d.value) (constant 64 0)

  few_words : word_count d.value ≤ 8
  few_words = let l = limits.value_short in omega arith

  few_slots : d.cap ≤ 65536
  few_slots = let m : 2 ^ bits ≤ 2 ^ 16 = pow-le-pow_right {n = 2} (omega arith) {i = bits} {j = 16} most in omega arith

  sits : (j : ℕ) (n : WordNets (Name P)) → j < length words → n ≡ get_or words j n → word_store nets.commits (name.Wire p 2) (name.Wire p 1) 0 d.value j n ≡ get_or stores (0 + j) (word_store nets.commits (name.Wire p 2) (name.Wire p 1) 0 d.value j n)
  sits j n l e =
      let z : 0 + j ≡ j = omega arith in
      let r : Store (Name P) = word_store nets.commits (name.Wire p 2) (name.Wire p 1) 0 d.value j n in
      sym (ap (λ i. get_or stores i r) z ∙ store_of nets.commits (name.Wire p 2) (name.Wire p 1) 0 d.value 0 j words n r l e ∙ ap (λ i. word_store nets.commits (name.Wire p 2) (name.Wire p 1) 0 d.value i n) z)

  -- ---- well typed
  module _ (w : Whole P) (here : w.block p ≡ block) (commits : name_width w port_list nets.commits ≡ 1) (slot : name_width w port_list nets.slot ≡ bits) (writes : name_width w port_list nets.writes ≡ 1) (wide : HaveWidths (names_scope w port_list) d.value 0 words) where
    abbrev s : Scope (Name P)
    s = names_scope w port_list

    own_wire : (k : ℕ) → s.net (name.Wire p k) ≡ get_or (1 ∷ bits ∷ 1 ∷ 64 ∷ []) k 0
    own_wire k = ap (λ (b : BlockTree (Name P)). get_or (block_wires b) k 0) here

    own_memories : block_memories (w.block p) ≡ word_memories bits d.value
    own_memories = ap block_memories here ∙ widths_are (word_memories bits d.value)

    own_memory : (k : ℕ) → k < word_count d.value → (s.index (name.Memory p (0 + k)) ≡ bits) × (s.memory_word (name.Memory p (0 + k)) ≡ word_width d.value k)
    own_memory k l =
        let z : 0 + k ≡ k = omega arith in
        let e : get_or (block_memories (w.block p)) (0 + k) (0, 0) ≡ (bits, word_width d.value k) =
        (λ i. get_or (own_memories i) (z i) (0, 0)) ∙ memory_at bits d.value 0 (word_count d.value) k l ∙ ap (λ i. (bits, word_width d.value i)) z in
        (ap (λ x. x.0) e, ap (λ x. x.1) e)

    slot_width : width_of s (names_slot map d.cap) ≡ 1
    slot_width =
        let m : map < 2 ^ 4 = omega arith in
        let l = limits.cap_some in
        let c : d.cap - 1 < 2 ^ 16 = omega (arith, few_slots) in
        rw (lt-ltb map (2 ^ 4) m, lt-ltb (d.cap - 1) (2 ^ 16) c) refl

    index_width : width_of s (chosen_index bits nets) ≡ bits
    index_width = choice_is (s.net nets.commits) (s.net nets.slot) _ bits commits slot (select_is 16 bits (omega arith) some most) (omega arith)

    gate_width : width_of s (TBinary And (TRead nets.writes) (net p 0)) ≡ 1
    gate_width = rw (writes, own_wire 0) refl

    value_width : width_of s (TConditional (net p 0) read (constant 64 0)) ≡ 64
    value_width = choice_is _ _ 64 64 (own_wire 0) (read_width p bits 0 d.value some most s 0 (word_count d.value) (constant 64 0) (omega arith) (omega (arith, few_words)) refl refl own_memory refl) refl (omega arith)

    wires_typed : block_wires_typed s wires ≡ true
    wires_typed =
        and_is _ _ (wire_is 1 _ (omega arith) (omega arith) slot_width) (and_is _ _ (wire_is bits _ (omega arith) (omega arith) index_width)
        (and_is _ _ (wire_is 1 _ (omega arith) (omega arith) gate_width) (and_is _ _ (wire_is 64 _ (omega arith) (omega arith) value_width) refl)))

    is_typed : IsTypedBlock w port_list block
    is_typed =
        let ms = word_memories bits d.value in
        let n : length stores ≡ length ms = count_stores nets.commits (name.Wire p 2) (name.Wire p 1) 0 d.value 0 words ∙ count ∙ sym (count_memories bits d.value 0 (word_count d.value)) in
        record {
          registers = refl;
          memories = memories_are_fit bits d.value some most;
          wires = wires_typed;
          statement = subst (λ l. statement_typed s [] l (array_statement p d nets words) ≡ true) (sym (widths_are ms))
              (stores_typed s [] ms ms stores 0 (λ k l. let z : 0 + k ≡ k = omega arith in ap (λ i. get_or ms i (0, 0)) z) n
              (subst (λ k. AreStoresTyped s (memories_from bits d.value 0 k) stores) count
              (words_typed nets.commits (name.Wire p 2) (name.Wire p 1) 0 d.value s bits 0 words commits (own_wire 2) (own_wire 1) refl refl some (omega (arith, few_words)) (omega (arith, count)) wide)));
        }

  -- ---- in order, within and spelled
  in_order : (w : Whole P) (before : List P) → Among p w.parts → IsBefore w before p 0 nets.commits → IsBefore w before p 0 nets.slot → IsBefore w before p 0 nets.writes → InOrder w before p 0 wires
  in_order w before here c x g = (
    ((tt, tt), (tt, tt)),
    (
      (still_before w before p 1 nets.commits c, still_before w before p 1 nets.slot x, tt),
      (
        (still_before w before p 2 nets.writes g, inl (refl, omega arith)),
        ((inl (refl, omega arith), read_reads p bits 0 d.value some most (IsBefore w before p 3) 0 (word_count d.value) (constant 64 0) tt tt (λ k. here) (omega arith) tt, tt), tt),
      ),
    ),
  )

  reads_there : (w : Whole P) → Among p w.parts → IsThere w nets.commits → AreThere (IsThere w) words → StatementReads (IsThere w) (array_statement p d nets words)
  reads_there w here c h = stores_read (IsThere w) stores 0 (words_there nets.commits (name.Wire p 2) (name.Wire p 1) 0 d.value (IsThere w) 0 words c here here tt tt h)

  is_within : Within 0 (length (map_list widths_memory (word_memories bits d.value))) (array_statement p d nets words)
  is_within =
      let n = count_stores nets.commits (name.Wire p 2) (name.Wire p 1) 0 d.value 0 words in
      let m : length (map_list widths_memory (word_memories bits d.value)) ≡ word_count d.value = length-map (word_memories bits d.value) widths_memory ∙ count_memories bits d.value 0 (word_count d.value) in
      stores_within 0 (length (map_list widths_memory (word_memories bits d.value))) stores 0 (omega (arith, n, m, count))

  value_spelled : tree_spelled (TConditional (net p 0) read (constant 64 0)) ≡ true
  value_spelled =
      let deep = read_depth p bits 0 d.value some most 0 (word_count d.value) (constant 64 0) (omega arith) in
      let whole : depth (TConditional (net p 0) read (constant 64 0)) ≤ 64 = omega (arith, few_words) in
      and_is _ _ (le-leb _ 64 whole) (and_is _ _ (read_apart p bits 0 d.value some most 0 (word_count d.value) (constant 64 0) (omega arith) refl) refl)

  wires_spelled : list_all (λ w. right_spelled w.right) wires ≡ true
  wires_spelled = and_is _ _ value_spelled refl

  is_spelled : statement_spelled (array_statement p d nets words) ≡ true
  is_spelled =
      let deep : statements_depth (statements_before (store_statements 0 stores) SEnd) ≤ 2 = stores_deep stores 0 in
      let whole : suc (statements_depth (statements_before (store_statements 0 stores) SEnd)) ≤ 64 = omega arith in
      and_is _ _ (le-leb _ 64 whole) (and_is _ _ (stores_placed stores 0) (stores_pass stores 0 (words_spelled nets.commits (name.Wire p 2) (name.Wire p 1) 0 d.value 0 words)))

  wires_free : (made : Name P → Bool) → list_all (wire_flat made) wires ≡ true
  wires_free made = and_is _ _ (and_is _ _ (read_flat p bits 0 d.value some most made 0 (word_count d.value) (constant 64 0) (omega arith) refl) refl) refl

  -- ---- what the host names
  is_slot : (x y : Bool) → (x && y) ≡ true → y ≡ true
  is_slot true y e = e
  is_slot false y e = absurd (cc)

  word_is : (a : Access) (t u : Bool) → (a.map == map && nat_lt a.index d.cap) ≡ t → nat_lt a.word (word_count d.value) ≡ u → named_word map d a ≡ (if t then (if u then Value a.word else Nothing) else Nothing)
  word_is a t u e f = (λ i. if e i then word_as (kind i) d a.word else Nothing) ∙ ap (λ b. if t then (if b then Value a.word else Nothing) else Nothing) f

  either : (idle : Bool) → (idle || true) ≡ true
  either true = refl
  either false = refl

  word_allowed : (v : Env (Name P)) (s : Stored) (slots : List Slot) (a : Access) (number : ℕ) (idle : Bool) → StoresArray d bits slots s → SeesHost v a number → value v (has_word map d) ≡ bit (may_write idle (slot_at slots a.index) (named_word map d a))
  word_allowed v s slots a number idle t sees =
      (λ i. apply And (slot_named v map d.cap a number limits.cap_some sees i) (apply Less (sees.number_of_word i) (word 4 (word_count d.value)))) ∙ and_bits (a.map == map && nat_lt a.index d.cap) (nat_lt a.word (word_count d.value))
      ∙ by_test (a.map == map && nat_lt a.index d.cap) (nat_lt a.word (word_count d.value)) refl refl
    where
      of_word : (w : HostWord) → named_word map d a ≡ w → bit (may_write idle (slot_at slots a.index) w) ≡ bit (may_write idle (slot_at slots a.index) (named_word map d a))
      of_word w e = ap (λ x. bit (may_write idle (slot_at slots a.index) x)) (sym e)

      by_test : (x u : Bool) → (a.map == map && nat_lt a.index d.cap) ≡ x → nat_lt a.word (word_count d.value) ≡ u → bit (x && u) ≡ bit (may_write idle (slot_at slots a.index) (named_word map d a))
      by_test true true e f =
          let g = is_slot (a.map == map) (nat_lt a.index d.cap) e in
          let l : a.index < d.cap = grind (arith, nat_tests) in
          ap bit (sym (ap (λ b. idle || b) (t.used a.index l) ∙ either idle)) ∙ of_word (Value a.word) (word_is a true true e f)
      by_test true false e f = of_word Nothing (word_is a true false e f)
      by_test false u e f = of_word Nothing (word_is a false u e f)

  -- ---- a clock
  first_stores : (slots : List Slot) → IsZeroed d slots → StoresArray d bits slots (first_of block)
  first_stores slots z = record {
    registers = refl;
    memories = first_sizes bits d.value 0 (word_count d.value);
    count = z.count;
    used = z.used;
    lengths = λ n l. ap length (z.values n l) ∙ length-replicate d.value 0;
    words = λ j n l m.
        let e : 0 + j ≡ j = omega arith in
        let there : n < 2 ^ bits = omega arith in
        (λ i. word_at (get_or (first_of block).memories (e i) []) n) ∙ ap (λ ws. word_at ws n) (first_at bits d.value 0 (word_count d.value) j l) ∙ get_or-replicate (2 ^ bits) n (word (word_width d.value (0 + j)) 0) _ there
        ∙ (λ i. word (word_width d.value (e i)) 0) ∙ ap (word (word_width d.value j)) (sym (ap (λ b. byte_word b j) (z.values n m) ∙ word_zero d.value j));
  }

  memory_count : (s : Stored) (slots : List Slot) → StoresArray d bits slots s → length s.memories ≡ word_count d.value
  memory_count s slots t = sym (length-map s.memories length) ∙ ap length t.memories ∙ length-replicate (word_count d.value) (2 ^ bits)

  module _ (v : Env (Name P)) (s : Stored) (solved : Solve v p 0 wires) where
    abbrev after : Stored
    after = edge v (store_statements 0 stores) s

    after_is : done v (array_statement p d nets words) s ≡ after
    after_is = in_turn v (store_statements 0 stores) s

    gate_is : (g named : Bool) → v.net nets.writes ≡ bit g → v.net (name.Wire p 0) ≡ bit named → v.net (name.Wire p 2) ≡ bit (g && named)
    gate_is g named w n = solved.1.1.0 ∙ (λ i. apply And (w i) (n i)) ∙ and_bits g named

    gate_off : v.net nets.writes ≡ bit false → v.net (name.Wire p 2) ≡ bit false
    gate_off w = solved.1.1.0 ∙ ap (λ x. apply And x (v.net (name.Wire p 0))) w ∙ shut (v.net (name.Wire p 0))

    unchanged : v.net nets.commits ≡ bit false → v.net (name.Wire p 2) ≡ bit false → done v (array_statement p d nets words) s ≡ s
    unchanged c g = after_is ∙ none_stored v stores 0 s (words_off nets.commits (name.Wire p 2) (name.Wire p 1) 0 d.value v 0 words c g)

    module _ (slots : List Slot) (t : StoresArray d bits slots s) where
      abbrev counted : length s.memories ≡ word_count d.value
      counted = memory_count s slots t

      size : (j : ℕ) → j < word_count d.value → length (get_or s.memories (0 + j) []) ≡ 2 ^ bits
      size j l =
          let z : 0 + j ≡ j = omega arith in
          ap (λ i. length (get_or s.memories i [])) z ∙ sym (get_or-map length s.memories j [] 0 (omega (arith, counted))) ∙ ap (λ m. get_or m j 0) t.memories ∙ get_or-replicate (word_count d.value) j (2 ^ bits) 0 l

      -- a slot takes words, and becomes another
      stores_after : (n : ℕ) (x : Slot) → n < d.cap → x.used ≡ true → length x.value ≡ d.value → v.net (name.Wire p 1) ≡ word bits n
          → ((j : ℕ) (m : WordNets (Name P)) → j < length words → m ≡ get_or words j m → IsTaken nets.commits (name.Wire p 2) (name.Wire p 1) 0 d.value v j m (byte_word (slot_at slots n).value j) (byte_word x.value j))
          → StoresArray d bits (slice_set slots n x) (done v (array_statement p d nets words) s)
      stores_after n x within used long at takes =
          let inside : n < length slots = omega (arith, t.count) in
          let same : slot_at (slice_set slots n x) n ≡ x = get_or-set_same slots n x no_slot inside in
          let others : (k : ℕ) → k ≢ n → slot_at (slice_set slots n x) k ≡ slot_at slots k = λ k o. get_or-set_other slots n k x no_slot o in
          let total = count_stores nets.commits (name.Wire p 2) (name.Wire p 1) 0 d.value 0 words in
          subst (StoresArray d bits (slice_set slots n x)) (sym after_is)
          (record {
            registers = registers_stay v stores 0 s ∙ t.registers;
            memories = lengths_stay v stores 0 s ∙ t.memories;
            count = length-set slots n x ∙ t.count;
            used = λ k l. by_slot (λ (y : Slot). y.used ≡ true) n k x same others used (t.used k l);
            lengths = λ k l. by_slot (λ (y : Slot). length y.value ≡ d.value) n k x same others long (t.lengths k l);
            words = words_after nets.commits (name.Wire p 2) (name.Wire p 1) 0 d.value v d.cap bits n words stores s (λ k. (slot_at slots k).value) (λ k. (slot_at (slice_set slots n x) k).value) count
                sits
                (omega (arith, total)) (omega (arith, total, count, counted)) size within room at
                (λ j m l e. subst (λ (y : Slot). IsTaken nets.commits (name.Wire p 2) (name.Wire p 1) 0 d.value v j m (byte_word (slot_at slots n).value j) (byte_word y.value j)) (sym same) (takes j m l e))
                (λ k o. ap (λ (y : Slot). y.value) (others k o)) t.words;
          })
        where
          by_slot : (Q : Slot → Type 0) (n k : ℕ) (x : Slot) → slot_at (slice_set slots n x) n ≡ x → ((k : ℕ) → k ≢ n → slot_at (slice_set slots n x) k ≡ slot_at slots k) → Q x → Q (slot_at slots k) → Q (slot_at (slice_set slots n x) k)
          by_slot Q n k x same others here there = by_test (k == n) refl
            where
              by_test : (t : Bool) → (k == n) ≡ t → Q (slot_at (slice_set slots n x) k)
              by_test true e = let is : k ≡ n = grind (arith, nat_tests) in subst (λ i. Q (slot_at (slice_set slots n x) i)) (sym is) (subst Q (sym same) here)
              by_test false e = let other : k ≢ n = grind (arith, nat_tests) in subst Q (sym (others k other)) there

      operation_stores : (n : ℕ) (new : List ℕ) → AsksArray d bits nets words v slots n new → StoresArray d bits (with_value slots n new) (done v (array_statement p d nets words) s)
      operation_stores n new a =
          let index : v.net (name.Wire p 1) ≡ word bits n = solved.1.0 ∙ ap (λ x. conditional x (v.net nets.slot) (value v (host_index bits))) a.commits ∙ a.in_slot in
          stores_after n (record (slot_at slots n) { value = new }) a.within (t.used n a.within) a.len index
          (λ j m l e. operation_takes nets.commits (name.Wire p 2) (name.Wire p 1) 0 d.value v j m _ _ a.commits (gate_off a.silent)
          (let z : 0 + j ≡ j = omega arith in subst (λ i. AsksWord v (word_width d.value i) m (byte_word (slot_at slots n).value i) (byte_word new i)) z (asked_at v d.value 0 j words m _ _ l e a.asked)))

      -- ---- the host
      module _ (a : Access) (number : ℕ) (sees : SeesHost v a number) where
        -- no slot of the map, no word of a slot, or a word of the value of a slot
        data Naming : Type 0 where
          Elsewhere : named_word map d a ≡ Nothing → v.net (name.Wire p 0) ≡ bit false → Naming
          Past : named_word map d a ≡ Nothing → v.net (name.Wire p 0) ≡ bit true → a.index < d.cap → word_count d.value ≤ a.word → Naming
          Names : named_word map d a ≡ Value a.word → v.net (name.Wire p 0) ≡ bit true → a.index < d.cap → a.word < word_count d.value → Naming

        naming : Naming
        naming = by_test (a.map == map && nat_lt a.index d.cap) refl (nat_lt a.word (word_count d.value)) refl
          where
            named : v.net (name.Wire p 0) ≡ bit (a.map == map && nat_lt a.index d.cap)
            named = solved.0 ∙ slot_named v map d.cap a number limits.cap_some sees

            by_test : (t : Bool) → (a.map == map && nat_lt a.index d.cap) ≡ t → (u : Bool) → nat_lt a.word (word_count d.value) ≡ u → Naming
            by_test true e true f =
                let x = is_slot (a.map == map) (nat_lt a.index d.cap) e in
                let l : a.index < d.cap = grind (arith, nat_tests) in
                let m : a.word < word_count d.value = grind (arith, nat_tests) in
                Names (word_is a true true e f) (named ∙ ap bit e) l m
            by_test true e false f =
                let x = is_slot (a.map == map) (nat_lt a.index d.cap) e in
                let l : a.index < d.cap = grind (arith, nat_tests) in
                let m : word_count d.value ≤ a.word = grind (arith, nat_tests) in
                Past (word_is a true false e f) (named ∙ ap bit e) l m
            by_test false e u f = Elsewhere (word_is a false u e f) (named ∙ ap bit e)

        host_stores : (idle : Bool) → v.net nets.commits ≡ bit false → v.net nets.writes ≡ bit true → StoresArray d bits (written_table idle (named_word map d a) slots a.index number) (done v (array_statement p d nets words) s)
        host_stores idle c g = by naming
          where
            as_word : (w : HostWord) → named_word map d a ≡ w → StoresArray d bits (written_table idle w slots a.index number) (done v (array_statement p d nets words) s)
                → StoresArray d bits (written_table idle (named_word map d a) slots a.index number) (done v (array_statement p d nets words) s)
            as_word w e h = subst (λ x. StoresArray d bits (written_table idle x slots a.index number) (done v (array_statement p d nets words) s)) (sym e) h

            by : Naming → StoresArray d bits (written_table idle (named_word map d a) slots a.index number) (done v (array_statement p d nets words) s)
            by (Elsewhere e n) = as_word Nothing e (subst (StoresArray d bits slots) (sym (unchanged c (gate_is true false g n))) t)
            by (Past e n l m) =
                as_word Nothing e (subst (StoresArray d bits slots)
                (sym (after_is ∙ none_stored v stores 0 s (words_unnamed nets.commits (name.Wire p 2) (name.Wire p 1) 0 d.value v a.word true 0 words c (gate_is true true g n) sees.number_of_word (λ k o. omega (arith, count))))) t)
            by (Names e n l m) =
                let x : Slot = written_word (slot_at slots a.index) (Value a.word) number in
                let may : (idle || (slot_at slots a.index).used) ≡ true = ap (λ b. idle || b) (t.used a.index l) ∙ either idle in
                let inside : 8 * a.word < length (slot_at slots a.index).value = omega (arith, t.lengths a.index l, word_there d.value a.word m) in
                let small : a.index < 2 ^ bits = omega arith in
                let index : v.net (name.Wire p 1) ≡ word bits a.index =
                solved.1.0 ∙ ap (λ y. conditional y (v.net nets.slot) (value v (host_index bits))) c ∙ ap (λ y. part_select y (bits - 1) 0) sees.index ∙ low_part 16 bits a.index some ∙ ap (word bits) (mod-eq_of_lt small) in
                let here : 0 + a.word ≡ a.word = omega arith in
                as_word (Value a.word) e (subst (λ b. StoresArray d bits (if b then slice_set slots a.index x else slots) (done v (array_statement p d nets words) s)) (sym may)
                (stores_after a.index x l (t.used a.index l) (length_stays (slot_at slots a.index).value a.word number inside ∙ t.lengths a.index l) index
                (λ j y k f. host_takes nets.commits (name.Wire p 2) (name.Wire p 1) 0 d.value v j y a.word number (slot_at slots a.index).value c (gate_is true true g n) (sees.number_of_word ∙ ap (word 4) (sym here)) sees.content (omega (arith, count)) m (t.lengths a.index l))))

        host_shown : SeesMemories p v s → v.net (name.Wire p 3) ≡ word 64 (shown_word (slot_at slots a.index) (named_word map d a))
        host_shown memories = solved.1.1.1.0 ∙ by naming
          where
            all : 0 + word_count d.value ≤ length s.memories
            all = omega (arith, counted)

            by : Naming → conditional (v.net (name.Wire p 0)) (value v read) (word 64 0) ≡ word 64 (shown_word (slot_at slots a.index) (named_word map d a))
            by (Elsewhere e n) = (λ i. conditional (n i) (value v read) (word 64 0)) ∙ ap (λ w. word 64 (shown_word (slot_at slots a.index) w)) (sym e)
            by (Past e n l m) =
                (λ i. conditional (n i) (value v read) (word 64 0))
                ∙ read_other p bits 0 d.value some most v s d.cap a.index a.word (λ k. (slot_at slots k).value) memories t.words all l room sees.index sees.number_of_word 0 (word_count d.value) (constant 64 0) (λ k o. omega arith)
                ∙ ap (λ w. word 64 (shown_word (slot_at slots a.index) w)) (sym e)
            by (Names e n l m) =
                let z : 0 + a.word ≡ a.word = omega arith in
                (λ i. conditional (n i) (value v read) (word 64 0))
                ∙ read_here p bits 0 d.value some most v s d.cap a.index a.word (λ k. (slot_at slots k).value) memories t.words all l room sees.index sees.number_of_word 0 (word_count d.value) a.word (constant 64 0) m (omega arith) (omega arith)
                ∙ ap (λ i. word 64 (byte_word (slot_at slots a.index).value i)) z
                ∙ ap (λ w. word 64 (shown_word (slot_at slots a.index) w)) (sym e)

  pub is_array : IsArray p map d bits nets words block
  is_array = record {
    registers = refl;
    memories = widths_are (word_memories bits d.value);
    wires = refl;
    typed = λ w here commits slot writes wide. is_typed w here commits slot writes wide;
    ordered = λ w before here c x g. in_order w before here c x g;
    reads = λ w here c h. reads_there w here c h;
    within = is_within;
    wires_spelled = wires_spelled;
    spelled = is_spelled;
    free = record { wires = wires_free; statement = λ made. stores_flat made stores 0 (words_flat nets.commits (name.Wire p 2) (name.Wire p 1) 0 d.value made 0 words) };
    goes = λ v. (refl, (refl, (refl, (refl, tt))));
    first = first_stores;
    stays = λ v s solved c g. unchanged v s solved c (gate_off v s solved g);
    commits = λ v s slots n new solved t a. operation_stores v s solved slots t n new a;
    written = λ v s slots a number idle solved t sees c g. host_stores v s solved slots t a number sees idle c g;
    allows = word_allowed;
    loads = λ v s slots index n j t sees e l m. shown_value p bits 0 d.value some most v s d.cap (λ k. (slot_at slots k).value) j n index sees t.words (omega (arith, memory_count s slots t)) m l e;
    shows = λ v s slots a number solved t sees memories. host_shown v s solved slots t a number sees memories;
  }
