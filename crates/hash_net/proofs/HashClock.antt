-- A clock of the block of a hash.
use Rattle.std.specs.Prelude.{◌≡◌, ◌≢◌, ℕ, suc, ◌+◌, ◌-◌, ◌*◌, ◌^◌, ◌<◌, ◌≤◌, ◌==◌, nat_lt, nat_le, if◌then◌else◌, ◌&&◌, ◌||◌, not, Bool, true, false, List, [], ◌∷◌, ◌++◌, length, map as map_list, slice_set}
use Rattle.std.specs.List.{AllByRecursion}
use Rattle.std.proofs.Common.{get_or, refl, sym, ap, ◌∙◌, subst, arith}
use Rattle.std.proofs.Math.Nat.{mod-eq_of_lt}
use Rattle.std.proofs.lemmas.Bool.{lt-ltb, le-leb}
use Rattle.std.proofs.lemmas.Bool.Decides.{nat_tests}
use Rattle.std.proofs.lemmas.List.{length-map, length-set, length-replicate, get_or-map, get_or-replicate, get_or-set_same, get_or-set_other, get_or_append_left, get_or-append-add}
use Rattle.net_core.specs.declared.ports.TheConstants.{HOST_WORD, HOST_DATA}
use Rattle.net_core.specs.declared.tree.Op.TheVariants.{And, Or, Add, Sub, Equal, Less, LessEqual}
use Rattle.net_core.specs.declared.tree.UnaryOp.TheVariants.{ReduceOr}
use Rattle.net_core.specs.declared.tree.Word.{Word}
use Rattle.net_core.specs.Nets.{Tree, StatementTree, SIf, SSet}
use Rattle.net_core.specs.Value.{word, bit, number_of, Env, value, apply, apply_unary, conditional, concatenated, part_select}
use Rattle.net_core.specs.Clock.{Stored, done, edge}
use Rattle.net_core.proofs.BitLaws.{and_bits, or_bits}
use Rattle.block_core.specs.declared.name.Name.{Name}
use Rattle.block_core.specs.declared.name.Name.TheVariants as name
use Rattle.block_core.specs.Parts.{Solve}
use Rattle.overlay_net.specs.xdp_maps.declared.decl.MapDecl.{MapDecl}
use Rattle.overlay_net.specs.xdp_maps.declared.decl.MapKind.TheVariants.{Hash}
use Rattle.overlay_net.specs.xdp_maps.Contents.{IsWithinLimits}
use Rattle.overlay_net.specs.cell_core.Cells.{on}
use Rattle.overlay_net.specs.hazard_core.declared.slot.Slot.{Slot}
use Rattle.overlay_net.specs.hazard_core.declared.access.Access.{Access}
use Rattle.overlay_net.specs.hazard_core.declared.access.Word.{Word as HostWord}
use Rattle.overlay_net.specs.hazard_core.declared.access.Word.TheVariants.{Used, Key, Value, Nothing}
use Rattle.overlay_net.specs.hazard_core.Tables.{no_slot, slot_at, used_count}
use Rattle.overlay_net.specs.hazard_core.Shaped.{IsShaped}
use Rattle.overlay_net.specs.hazard_core.Commits.{word_count, word_at as byte_word, value_word, word_as, shown_word, written_word, may_write}
use Rattle.frame_net.specs.Frames.{word_at}
use Rattle.frame_net.specs.GatherNets.{net, constant}
use Rattle.frame_net.specs.SourcesNets.{held}
use Rattle.frame_net.specs.Stores.{Store, store_statements}
use Rattle.frame_net.proofs.StoreLaws.{in_turn, put, taken, taken_is, store_at, none_stored, registers_stay, lengths_stay, IsOff}
use Rattle.array_net.specs.declared.words.WordNets.{WordNets}
use Rattle.array_net.specs.Words.{word_width, HoldsWords, AsksWord}
use Rattle.array_net.specs.WordTrees.{host_index, words_read, word_store, word_stores}
use Rattle.array_net.specs.ArrayNets.{names_slot}
use Rattle.array_net.specs.Hosts.{SeesHost, named_word, written_table}
use Rattle.array_net.proofs.WordLaws.{word_there, length_stays}
use Rattle.array_net.proofs.WordStoreLaws.{low_part, shut, put_at, store_of, words_off, words_unnamed, IsTaken, operation_takes, host_takes, other_takes, words_after, asked_at}
use Rattle.array_net.proofs.WordReadLaws.{read_other, read_here}
use Rattle.array_net.proofs.HostLaws.{slot_named}
use Rattle.hash_net.specs.declared.block.HashNets.{HashNets}
use Rattle.hash_net.specs.HashNets.{value_first, has_word, key_nets, value_read, hash_wires, used_store, count_after, hash_stores, hash_statement}
use Rattle.hash_net.specs.Hash.{StoresHash, SeesOwn, used_after, AsksHash}
use Rattle.hash_net.proofs.CountLaws.{count_set, count_next, widened}
use Rattle.hash_net.proofs.HashForms.{count_keys, count_key_stores, count_all}

-- ---- used bits
bit_set : (i e old : Bool) → ((i || e) || false) ≡ true → i ≡ used_after i e old
bit_set true e old h = refl
bit_set false true old h = refl
bit_set false false old h = absurd (cc)

bit_stays : (i e old : Bool) → ((i || e) || false) ≡ false → used_after i e old ≡ old
bit_stays true e old h = absurd (cc)
bit_stays false true old h = absurd (cc)
bit_stays false false old h = refl

wide_bit : (b : Bool) → concatenated (word 63 0) (bit b) ≡ word 64 (if b then 1 else 0)
wide_bit true = refl
wide_bit false = refl

of_slot : (Q : Slot → Type 0) (slots : List Slot) (n k : ℕ) (x : Slot) → n < length slots → Q x → Q (slot_at slots k) → Q (slot_at (slice_set slots n x) k)
of_slot Q slots n k x l here there = by_test (k == n) refl
  where
    by_test : (t : Bool) → (k == n) ≡ t → Q (slot_at (slice_set slots n x) k)
    by_test true e = let is : k ≡ n = grind (arith, nat_tests) in subst (λ i. Q (slot_at (slice_set slots n x) i)) (sym is) (subst Q (sym (get_or-set_same slots n x no_slot l)) here)
    by_test false e = let other : k ≢ n = grind (arith, nat_tests) in subst Q (sym (get_or-set_other slots n k x no_slot other)) there

all_off : {N : Type 0} (v : Env N) (xs ys : List (Store N)) → AllByRecursion (IsOff v) xs → AllByRecursion (IsOff v) ys → AllByRecursion (IsOff v) (xs ++ ys)
all_off v [] ys a b = b
all_off v (x ∷ xs) ys a b = (a.0, all_off v xs ys a.1 b)

module _ {P : Type 0} (p : P) (map : ℕ) (d : MapDecl) (bits : ℕ) (nets : HashNets (Name P)) (keys : List (Name P)) (values : List (WordNets (Name P))) (few : map < 16) (kind : d.kind ≡ Hash) (limits : IsWithinLimits d)
    (some : 1 ≤ bits) (most : bits ≤ 16) (room : d.cap ≤ 2 ^ bits) (key_count : length keys ≡ word_count d.key) (value_count : length values ≡ word_count d.value) where
  abbrev commits : Name P
  commits = nets.map.commits

  abbrev key_words : List (WordNets (Name P))
  key_words = map_list (key_nets nets.inserts) keys

  abbrev stores : List (Store (Name P))
  stores = hash_stores p d nets keys values

  abbrev statement : StatementTree (Name P)
  statement = hash_statement p d bits nets keys values

  abbrev rest : Tree (Name P)
  rest = words_read p bits (value_first d) d.value 0 (word_count d.value) (constant 64 0)

  abbrev key_rest : Tree (Name P)
  key_rest = words_read p bits 1 d.key 0 (word_count d.key) rest

  abbrev counts : StatementTree (Name P)
  counts = SIf (net p 5) (SSet 0 (count_after p bits))

  total : length stores ≡ value_first d + word_count d.value
  total = count_all p map d bits nets keys values few limits some most room key_count value_count

  keys_all : length key_words ≡ word_count d.key
  keys_all = count_keys p map d bits nets keys values few limits some most room key_count value_count

  -- where each store stands
  key_sits : (j : ℕ) (n : WordNets (Name P)) → j < length key_words → n ≡ get_or key_words j n → word_store commits (name.Wire p 3) (name.Wire p 1) 1 d.key j n ≡ get_or stores (1 + j) (word_store commits (name.Wire p 3) (name.Wire p 1) 1 d.key j n)
  key_sits j n l e =
      let z : 1 + j ≡ suc j = omega arith in
      let y : 0 + j ≡ j = omega arith in
      let r : Store (Name P) = word_store commits (name.Wire p 3) (name.Wire p 1) 1 d.key j n in
      let c = count_key_stores p map d bits nets keys values few limits some most room key_count value_count in
      sym (ap (λ i. get_or stores i r) z ∙ get_or_append_left _ _ r j (omega (arith, c, keys_all)) ∙ store_of commits (name.Wire p 3) (name.Wire p 1) 1 d.key 0 j key_words n r l e ∙ ap (λ i. word_store commits (name.Wire p 3) (name.Wire p 1) 1 d.key i n) y)

  value_sits : (j : ℕ) (n : WordNets (Name P)) → j < length values → n ≡ get_or values j n
      → word_store commits (name.Wire p 4) (name.Wire p 1) (value_first d) d.value j n ≡ get_or stores (value_first d + j) (word_store commits (name.Wire p 4) (name.Wire p 1) (value_first d) d.value j n)
  value_sits j n l e =
      let c = count_key_stores p map d bits nets keys values few limits some most room key_count value_count in
      let y : 0 + j ≡ j = omega arith in
      let r : Store (Name P) = word_store commits (name.Wire p 4) (name.Wire p 1) (value_first d) d.value j n in
      let ks : List (Store (Name P)) = word_stores commits (name.Wire p 3) (name.Wire p 1) 1 d.key 0 key_words in
      let z : value_first d + j ≡ suc (length ks + j) = omega (arith, c) in
      sym (ap (λ i. get_or stores i r) z ∙ get_or-append-add ks _ j r ∙ store_of commits (name.Wire p 4) (name.Wire p 1) (value_first d) d.value 0 j values n r l e
      ∙ ap (λ i. word_store commits (name.Wire p 4) (name.Wire p 1) (value_first d) d.value i n) y)

  module _ (v : Env (Name P)) (s : Stored) (solved : Solve v p 0 (hash_wires p map d bits nets)) where
    after_is : done v statement s ≡ edge v (store_statements 0 stores) (done v counts s)
    after_is = in_turn v (counts ∷ store_statements 0 stores) s

    -- nothing is stored
    unchanged : v.net (name.Wire p 5) ≡ bit false → AllByRecursion (IsOff v) (word_stores commits (name.Wire p 3) (name.Wire p 1) 1 d.key 0 key_words)
        → AllByRecursion (IsOff v) (word_stores commits (name.Wire p 4) (name.Wire p 1) (value_first d) d.value 0 values) → done v statement s ≡ s
    unchanged u k w =
        after_is ∙ ap (λ (x : Word). edge v (store_statements 0 stores) (if x.value == 0 then s else record s { registers = slice_set s.registers 0 (value v (count_after p bits)) })) u
        ∙ none_stored v stores 0 s (ap (λ (x : Word). x.value) u, all_off v _ _ k w)

    idle_off : v.net nets.map.writes ≡ bit false → v.net (name.Wire p 3) ≡ bit false
    idle_off w = solved.1.1.1.0 ∙ ap (λ x. apply And x (apply And (v.net (name.Wire p 0)) (v.net nets.idle))) w ∙ shut (apply And (v.net (name.Wire p 0)) (v.net nets.idle))

    value_off : v.net nets.map.writes ≡ bit false → v.net (name.Wire p 4) ≡ bit false
    value_off w = solved.1.1.1.1.0 ∙ ap (λ x. apply And x (apply And (v.net (name.Wire p 0)) (apply Or (v.net nets.idle) (v.net (name.Wire p 2))))) w ∙ shut (apply And (v.net (name.Wire p 0)) (apply Or (v.net nets.idle) (v.net (name.Wire p 2))))

    -- whether the used bit is set, where no operation commits
    sets_by : (gated : Bool) → v.net commits ≡ bit false → v.net (name.Wire p 3) ≡ bit gated → (named : Bool) → apply Equal (v.net (name.Port HOST_WORD)) (word 4 0) ≡ bit named → v.net (name.Wire p 5) ≡ bit (false || (gated && named))
    sets_by gated c g named h =
        let asked : apply And (v.net commits) (apply Or (v.net nets.inserts) (v.net nets.deletes)) ≡ bit false = ap (λ x. apply And x (apply Or (v.net nets.inserts) (v.net nets.deletes))) c ∙ shut (apply Or (v.net nets.inserts) (v.net nets.deletes)) in
        solved.1.1.1.1.1.0 ∙ (λ i. apply Or (asked i) (apply And (g i) (h i))) ∙ ap (apply Or (bit false)) (and_bits gated named) ∙ or_bits false (gated && named)

    pub stays : v.net commits ≡ bit false → v.net nets.map.writes ≡ bit false → done v statement s ≡ s
    stays c w =
        let asked : apply And (v.net commits) (apply Or (v.net nets.inserts) (v.net nets.deletes)) ≡ bit false = ap (λ x. apply And x (apply Or (v.net nets.inserts) (v.net nets.deletes))) c ∙ shut (apply Or (v.net nets.inserts) (v.net nets.deletes)) in
        let named : apply And (v.net (name.Wire p 3)) (apply Equal (v.net (name.Port HOST_WORD)) (word 4 0)) ≡ bit false = ap (λ x. apply And x (apply Equal (v.net (name.Port HOST_WORD)) (word 4 0))) (idle_off w) ∙ shut (apply Equal (v.net (name.Port HOST_WORD)) (word 4 0)) in
        unchanged (solved.1.1.1.1.1.0 ∙ λ i. apply Or (asked i) (named i)) (words_off commits (name.Wire p 3) (name.Wire p 1) 1 d.key v 0 key_words c (idle_off w)) (words_off commits (name.Wire p 4) (name.Wire p 1) (value_first d) d.value v 0 values c (value_off w))

    module _ (slots : List Slot) (own : SeesOwn p v s) (t : StoresHash d bits slots s) where
      memory_count : length s.memories ≡ value_first d + word_count d.value
      memory_count = sym (length-map s.memories length) ∙ ap length t.memories ∙ length-replicate (value_first d + word_count d.value) (2 ^ bits)

      size : (k : ℕ) → k < value_first d + word_count d.value → length (get_or s.memories k []) ≡ 2 ^ bits
      size k l = sym (get_or-map length s.memories k [] 0 (omega (arith, memory_count))) ∙ ap (λ m. get_or m k 0) t.memories ∙ get_or-replicate (value_first d + word_count d.value) k (2 ^ bits) 0 l

      was : (n : ℕ) → n < d.cap → v.net (name.Wire p 1) ≡ word bits n → v.net (name.Wire p 2) ≡ bit (slot_at slots n).used
      was n l at = solved.1.1.0 ∙ ap (λ (x : Word). v.memory_word (name.Memory p 0) x.value) at ∙ own.memories 0 n (omega (arith, memory_count)) ∙ t.used n l

      -- ---- a slot becomes another
      module _ (n : ℕ) (x : Slot) (sets : Bool) (within : n < d.cap) (shaped : IsShaped d x) (at : v.net (name.Wire p 1) ≡ word bits n) (set : v.net (name.Wire p 5) ≡ bit sets)
          (becomes : sets ≡ true → v.net (name.Wire p 6) ≡ bit x.used) (keeps : sets ≡ false → x.used ≡ (slot_at slots n).used)
          (takes_keys : (j : ℕ) (m : WordNets (Name P)) → j < length key_words → m ≡ get_or key_words j m → IsTaken commits (name.Wire p 3) (name.Wire p 1) 1 d.key v j m (byte_word (slot_at slots n).key j) (byte_word x.key j))
          (takes_values : (j : ℕ) (m : WordNets (Name P)) → j < length values → m ≡ get_or values j m → IsTaken commits (name.Wire p 4) (name.Wire p 1) (value_first d) d.value v j m (byte_word (slot_at slots n).value j) (byte_word x.value j)) where
        abbrev u : Stored
        u = done v counts s

        abbrev new : List Slot
        new = slice_set slots n x

        inside : n < length slots
        inside = omega (arith, t.count)

        same_memories : u.memories ≡ s.memories
        same_memories = by_test ((v.net (name.Wire p 5)).value == 0)
          where
            by_test : (b : Bool) → (if b then s else record s { registers = slice_set s.registers 0 (value v (count_after p bits)) }).memories ≡ s.memories
            by_test true = refl
            by_test false = refl

        counted : u.registers ≡ word (bits + 1) (used_count new) ∷ []
        counted = ap (λ (y : Word). (if y.value == 0 then s else record s { registers = slice_set s.registers 0 (value v (count_after p bits)) }).registers) set ∙ by_test sets refl
          where
            count_is : v.net (name.Wire p 6) ≡ bit x.used → value v (count_after p bits) ≡ word (bits + 1) (used_count new)
            count_is b =
                let r : v.net (name.Register p 0) ≡ word (bits + 1) (used_count slots) = own.register ∙ ap (λ rs. get_or rs 0 (word 0 0)) t.registers in
                let more = ap (concatenated (word bits 0)) b ∙ widened bits x.used in
                let less = ap (concatenated (word bits 0)) (was n within at) ∙ widened bits (slot_at slots n).used in
                (λ i. apply Sub (apply Add (r i) (more i)) (less i)) ∙ count_next bits slots n x some inside (omega (arith, t.count))

            by_test : (b : Bool) → sets ≡ b → (if (bit b).value == 0 then s else record s { registers = slice_set s.registers 0 (value v (count_after p bits)) }).registers ≡ word (bits + 1) (used_count new) ∷ []
            by_test true e = ap (λ rs. slice_set rs 0 (value v (count_after p bits))) t.registers ∙ ap (λ y. y ∷ []) (count_is (becomes e))
            by_test false e =
                let h = count_set slots n x inside in
                let same : used_count slots ≡ used_count new = omega (arith, h, ap number_of (keeps e)) in
                t.registers ∙ ap (λ c. word (bits + 1) c ∷ []) same

        used_bits : (k : ℕ) → k < d.cap → word_at (get_or (edge v (store_statements 0 stores) u).memories 0 []) k ≡ bit (slot_at new k).used
        used_bits k l =
            let enough : 0 < length u.memories = omega (arith, ap length same_memories, memory_count) in
            let old : List Word = get_or s.memories 0 [] in
            let small : n < length old = omega (arith, size 0 (omega arith)) in
            let there : get_or (edge v (store_statements 0 stores) u).memories 0 [] ≡ put sets old n (v.net (name.Wire p 6)) =
            store_at v stores 0 0 (used_store p) u (omega arith) refl enough ∙ ap (λ ms. taken v (used_store p) (get_or ms 0 [])) same_memories ∙ taken_is v (used_store p) old sets bits n (v.net (name.Wire p 6)) set at refl in
            ap (λ m. word_at m k) there
            ∙ put_at sets old n k (v.net (name.Wire p 6)) (bit (slot_at slots k).used) (bit (slot_at new k).used) small (t.used k l) (λ o. ap (λ (y : Slot). bit y.used) (get_or-set_other slots n k x no_slot o))
            (λ is e. becomes e ∙ ap (λ (y : Slot). bit y.used) (sym (ap (slot_at new) is ∙ get_or-set_same slots n x no_slot inside)))
            (λ is e. ap bit (ap (λ (y : Slot). y.used) (ap (slot_at new) is ∙ get_or-set_same slots n x no_slot inside) ∙ keeps e ∙ ap (λ i. (slot_at slots i).used) (sym is)))

        sizes : (first bytes : ℕ) → first + word_count bytes ≤ value_first d + word_count d.value → (j : ℕ) → j < word_count bytes → length (get_or u.memories (first + j) []) ≡ 2 ^ bits
        sizes first bytes f j l = ap (λ ms. length (get_or ms (first + j) [])) same_memories ∙ size (first + j) (omega arith)

        pub stores_after : StoresHash d bits new (done v statement s)
        stores_after =
            let enough : length stores ≤ length u.memories = omega (arith, total, ap length same_memories, memory_count) in
            let here : slot_at new n ≡ x = get_or-set_same slots n x no_slot inside in
            subst (StoresHash d bits new) (sym after_is)
            (record {
              registers = registers_stay v stores 0 u ∙ counted;
              memories = lengths_stay v stores 0 u ∙ ap (map_list length) same_memories ∙ t.memories;
              count = length-set slots n x ∙ t.count;
              shaped = λ k l. of_slot (IsShaped d) slots n k x inside shaped (t.shaped k l);
              used = used_bits;
              keys = words_after commits (name.Wire p 3) (name.Wire p 1) 1 d.key v d.cap bits n key_words stores u (λ k. (slot_at slots k).key) (λ k. (slot_at new k).key) keys_all key_sits (omega (arith, total, keys_all)) enough
                  (sizes 1 d.key (omega arith)) within room at
                  (λ j m l e. subst (λ (y : Slot). IsTaken commits (name.Wire p 3) (name.Wire p 1) 1 d.key v j m (byte_word (slot_at slots n).key j) (byte_word y.key j)) (sym here) (takes_keys j m l e))
                  (λ k o. ap (λ (y : Slot). y.key) (get_or-set_other slots n k x no_slot o)) (subst (λ ms. HoldsWords d.cap d.key ms 1 (λ k. (slot_at slots k).key)) (sym same_memories) t.keys);
              values = words_after commits (name.Wire p 4) (name.Wire p 1) (value_first d) d.value v d.cap bits n values stores u (λ k. (slot_at slots k).value) (λ k. (slot_at new k).value) value_count value_sits (omega (arith, total, value_count)) enough
                  (sizes (value_first d) d.value (omega arith)) within room at
                  (λ j m l e. subst (λ (y : Slot). IsTaken commits (name.Wire p 4) (name.Wire p 1) (value_first d) d.value v j m (byte_word (slot_at slots n).value j) (byte_word y.value j)) (sym here) (takes_values j m l e))
                  (λ k o. ap (λ (y : Slot). y.value) (get_or-set_other slots n k x no_slot o)) (subst (λ ms. HoldsWords d.cap d.value ms (value_first d) (λ k. (slot_at slots k).value)) (sym same_memories) t.values);
            })

      -- ---- an operation
      pub operation_stores : (n : ℕ) (x : Slot) → AsksHash d bits nets keys values v n (slot_at slots n) x → StoresHash d bits (slice_set slots n x) (done v statement s)
      operation_stores n x a =
          let old : Slot = slot_at slots n in
          let i = a.inserts in
          let e = a.deletes in
          let index : v.net (name.Wire p 1) ≡ word bits n = solved.1.0 ∙ ap (λ y. conditional y (v.net nets.map.slot) (value v (host_index bits))) a.commits ∙ a.in_slot in
          let idle = idle_off a.silent in
          let either : apply Or (v.net nets.inserts) (v.net nets.deletes) ≡ bit (i || e) = (λ k. apply Or (a.is_insert k) (a.is_delete k)) ∙ or_bits i e in
          let named : apply And (v.net (name.Wire p 3)) (apply Equal (v.net (name.Port HOST_WORD)) (word 4 0)) ≡ bit false = ap (λ y. apply And y (apply Equal (v.net (name.Port HOST_WORD)) (word 4 0))) idle ∙ shut (apply Equal (v.net (name.Port HOST_WORD)) (word 4 0)) in
          let sets : v.net (name.Wire p 5) ≡ bit ((i || e) || false) =
          solved.1.1.1.1.1.0 ∙ (λ k. apply Or (apply And (a.commits k) (either k)) (named k)) ∙ ap (λ y. apply Or y (bit false)) (and_bits true (i || e)) ∙ or_bits (i || e) false in
          let becomes : v.net (name.Wire p 6) ≡ bit i = solved.1.1.1.1.1.1.0 ∙ ap (λ y. conditional y (v.net nets.inserts) (apply_unary ReduceOr (v.net (name.Port HOST_DATA)))) a.commits ∙ a.is_insert in
          stores_after n x ((i || e) || false) a.within a.shaped index sets (λ h. becomes ∙ ap bit (bit_set i e old.used h ∙ sym a.used)) (λ h. a.used ∙ bit_stays i e old.used h)
          (λ j m l f. operation_takes commits (name.Wire p 3) (name.Wire p 1) 1 d.key v j m _ _ a.commits idle
          (let z : 0 + j ≡ j = omega arith in subst (λ k. AsksWord v (word_width d.key k) m (byte_word old.key k) (byte_word x.key k)) z (asked_at v d.key 0 j key_words m _ _ l f a.key_words)))
          (λ j m l f. operation_takes commits (name.Wire p 4) (name.Wire p 1) (value_first d) d.value v j m _ _ a.commits (value_off a.silent)
          (let z : 0 + j ≡ j = omega arith in subst (λ k. AsksWord v (word_width d.value k) m (byte_word old.value k) (byte_word x.value k)) z (asked_at v d.value 0 j values m _ _ l f a.value_words)))

      -- ---- the host
      module _ (a : Access) (number : ℕ) (sees : SeesHost v a number) where
        abbrev old : Slot
        old = slot_at slots a.index

        -- no slot of the map, no word of a slot, or what there is of it
        data Naming : Type 0 where
          Elsewhere : named_word map d a ≡ Nothing → v.net (name.Wire p 0) ≡ bit false → Naming
          Past : named_word map d a ≡ Nothing → v.net (name.Wire p 0) ≡ bit true → a.index < d.cap → value_first d + word_count d.value ≤ a.word → Naming
          IsUsed : named_word map d a ≡ Used → v.net (name.Wire p 0) ≡ bit true → a.index < d.cap → a.word ≡ 0 → Naming
          IsKey : (k : ℕ) → named_word map d a ≡ Key k → v.net (name.Wire p 0) ≡ bit true → a.index < d.cap → a.word ≡ 1 + k → k < word_count d.key → Naming
          IsValue : (k : ℕ) → named_word map d a ≡ Value k → v.net (name.Wire p 0) ≡ bit true → a.index < d.cap → a.word ≡ value_first d + k → k < word_count d.value → Naming

        naming : Naming
        naming = by_slot (a.map == map && nat_lt a.index d.cap) refl
          where
            named : v.net (name.Wire p 0) ≡ bit (a.map == map && nat_lt a.index d.cap)
            named = solved.0 ∙ slot_named v map d.cap a number limits.cap_some sees

            is_slot : (x y : Bool) → (x && y) ≡ true → y ≡ true
            is_slot true y e = e
            is_slot false y e = absurd (cc)

            here : (t : Bool) → (a.map == map && nat_lt a.index d.cap) ≡ t → named_word map d a ≡ (if t then word_as Hash d a.word else Nothing)
            here t e = λ i. if e i then word_as (kind i) d a.word else Nothing

            by_value : (a.map == map && nat_lt a.index d.cap) ≡ true → a.index < d.cap → (a.word == 0) ≡ false → nat_le a.word (word_count d.key) ≡ false → (u : Bool) → nat_lt (a.word - 1 - word_count d.key) (word_count d.value) ≡ u → Naming
            by_value e l z g true f =
                let m : a.word - 1 - word_count d.key < word_count d.value = grind (arith, nat_tests) in
                let past : word_count d.key < a.word = grind (arith, nat_tests) in
                IsValue (a.word - 1 - word_count d.key)
                (here true e ∙ (λ i. if z i then Used else if g i then Key (a.word - 1) else if f i then Value (a.word - 1 - word_count d.key) else Nothing)) (named ∙ ap bit e) l (omega arith) m
            by_value e l z g false f =
                let m : word_count d.value ≤ a.word - 1 - word_count d.key = grind (arith, nat_tests) in
                let past : word_count d.key < a.word = grind (arith, nat_tests) in
                Past (here true e ∙ (λ i. if z i then Used else if g i then Key (a.word - 1) else if f i then Value (a.word - 1 - word_count d.key) else Nothing)) (named ∙ ap bit e) l (omega arith)

            by_key : (a.map == map && nat_lt a.index d.cap) ≡ true → a.index < d.cap → (a.word == 0) ≡ false → (u : Bool) → nat_le a.word (word_count d.key) ≡ u → Naming
            by_key e l z true g =
                let m : a.word ≤ word_count d.key = grind (arith, nat_tests) in
                let more : a.word ≢ 0 = grind (arith, nat_tests) in
                IsKey (a.word - 1) (here true e ∙ (λ i. if z i then Used else if g i then Key (a.word - 1) else value_word d (a.word - 1 - word_count d.key))) (named ∙ ap bit e) l (omega arith) (omega arith)
            by_key e l z false g = by_value e l z g (nat_lt (a.word - 1 - word_count d.key) (word_count d.value)) refl

            by_word : (a.map == map && nat_lt a.index d.cap) ≡ true → a.index < d.cap → (u : Bool) → (a.word == 0) ≡ u → Naming
            by_word e l true z =
                let none : a.word ≡ 0 = grind (arith, nat_tests) in
                IsUsed (here true e ∙ (λ i. if z i then Used else if nat_le a.word (word_count d.key) then Key (a.word - 1) else value_word d (a.word - 1 - word_count d.key))) (named ∙ ap bit e) l none
            by_word e l false z = by_key e l z (nat_le a.word (word_count d.key)) refl

            by_slot : (t : Bool) → (a.map == map && nat_lt a.index d.cap) ≡ t → Naming
            by_slot true e = let x = is_slot (a.map == map) (nat_lt a.index d.cap) e in let l : a.index < d.cap = grind (arith, nat_tests) in by_word e l (a.word == 0) refl
            by_slot false e = Elsewhere (here false e) (named ∙ ap bit e)

        module _ (idle : Bool) (c : v.net commits ≡ bit false) (g : v.net nets.map.writes ≡ bit true) (q : v.net nets.idle ≡ bit idle) where
          abbrev Leaves : HostWord → Type 0
          Leaves w = StoresHash d bits (written_table idle w slots a.index number) (done v statement s)

          idle_is : (n : Bool) → v.net (name.Wire p 0) ≡ bit n → v.net (name.Wire p 3) ≡ bit (n && idle)
          idle_is n h = solved.1.1.1.0 ∙ (λ i. apply And (g i) (apply And (h i) (q i))) ∙ ap (apply And (bit true)) (and_bits n idle) ∙ and_bits true (n && idle)

          value_is : (n w : Bool) → v.net (name.Wire p 0) ≡ bit n → v.net (name.Wire p 2) ≡ bit w → v.net (name.Wire p 4) ≡ bit (n && (idle || w))
          value_is n w h k =
              solved.1.1.1.1.0 ∙ (λ i. apply And (g i) (apply And (h i) (apply Or (q i) (k i)))) ∙ ap (λ x. apply And (bit true) (apply And (bit n) x)) (or_bits idle w) ∙ ap (apply And (bit true)) (and_bits n (idle || w)) ∙ and_bits true (n && (idle || w))

          sets_is : (gated : Bool) → v.net (name.Wire p 3) ≡ bit gated → v.net (name.Wire p 5) ≡ bit (gated && a.word == 0)
          sets_is gated h = sets_by gated c h (a.word == 0) (ap (λ x. apply Equal x (word 4 0)) sees.number_of_word)

          index : a.index < d.cap → v.net (name.Wire p 1) ≡ word bits a.index
          index l =
              let small : a.index < 2 ^ bits = omega arith in
              solved.1.0 ∙ ap (λ y. conditional y (v.net nets.map.slot) (value v (host_index bits))) c ∙ ap (λ y. part_select y (bits - 1) 0) sees.index ∙ low_part 16 bits a.index some ∙ ap (word bits) (mod-eq_of_lt small)

          -- what a word of a key or of a value takes where the host names another
          key_other : (gated : Bool) → v.net (name.Wire p 3) ≡ bit gated → ((j : ℕ) → j < word_count d.key → a.word ≢ 1 + j) → (j : ℕ) (m : WordNets (Name P)) → j < length key_words → m ≡ get_or key_words j m
              → IsTaken commits (name.Wire p 3) (name.Wire p 1) 1 d.key v j m (byte_word old.key j) (byte_word old.key j)
          key_other gated h other j m l e = other_takes commits (name.Wire p 3) (name.Wire p 1) 1 d.key v a.word gated j m (byte_word old.key j) c h sees.number_of_word (other j (omega (arith, keys_all)))

          value_other : (gated : Bool) → v.net (name.Wire p 4) ≡ bit gated → ((j : ℕ) → j < word_count d.value → a.word ≢ value_first d + j) → (j : ℕ) (m : WordNets (Name P)) → j < length values → m ≡ get_or values j m
              → IsTaken commits (name.Wire p 4) (name.Wire p 1) (value_first d) d.value v j m (byte_word old.value j) (byte_word old.value j)
          value_other gated h other j m l e = other_takes commits (name.Wire p 4) (name.Wire p 1) (value_first d) d.value v a.word gated j m (byte_word old.value j) c h sees.number_of_word (other j (omega (arith, value_count)))

          -- the host may not write what it names
          refused : v.net (name.Wire p 5) ≡ bit false → AllByRecursion (IsOff v) (word_stores commits (name.Wire p 3) (name.Wire p 1) 1 d.key 0 key_words)
              → AllByRecursion (IsOff v) (word_stores commits (name.Wire p 4) (name.Wire p 1) (value_first d) d.value 0 values) → StoresHash d bits slots (done v statement s)
          refused u k w = subst (StoresHash d bits slots) (sym (unchanged u k w)) t

          keys_off : (gated : Bool) → v.net (name.Wire p 3) ≡ bit gated → ((j : ℕ) → j < word_count d.key → a.word ≢ 1 + j) → AllByRecursion (IsOff v) (word_stores commits (name.Wire p 3) (name.Wire p 1) 1 d.key 0 key_words)
          keys_off gated h other = words_unnamed commits (name.Wire p 3) (name.Wire p 1) 1 d.key v a.word gated 0 key_words c h sees.number_of_word (λ k l. let z : 0 + k ≡ k = omega arith in subst (λ i. a.word ≢ 1 + i) (sym z) (other k (omega (arith, keys_all))))

          values_off : (gated : Bool) → v.net (name.Wire p 4) ≡ bit gated → ((j : ℕ) → j < word_count d.value → a.word ≢ value_first d + j) → AllByRecursion (IsOff v) (word_stores commits (name.Wire p 4) (name.Wire p 1) (value_first d) d.value 0 values)
          values_off gated h other =
              words_unnamed commits (name.Wire p 4) (name.Wire p 1) (value_first d) d.value v a.word gated 0 values c h sees.number_of_word (λ k l. let z : 0 + k ≡ k = omega arith in subst (λ i. a.word ≢ value_first d + i) (sym z) (other k (omega (arith, value_count))))

          pub host_stores : Leaves (named_word map d a)
          host_stores = by naming
            where
              as_word : (w : HostWord) → named_word map d a ≡ w → Leaves w → Leaves (named_word map d a)
              as_word w e h = subst Leaves (sym e) h

              unset : (w : ℕ) (b : Bool) → w ≢ 0 → (b && w == 0) ≡ false
              unset w true o = let no : (w == 0) ≡ false = grind (arith, nat_tests) in no
              unset w false o = refl

              used_by : (x : Bool) → idle ≡ x → v.net (name.Wire p 0) ≡ bit true → a.index < d.cap → a.word ≡ 0 → StoresHash d bits (if x then slice_set slots a.index (written_word old Used number) else slots) (done v statement s)
              used_by true f n l z =
                  let at = index l in
                  let gate = idle_is true n ∙ ap bit f in
                  let zero_is : (a.word == 0) ≡ true = grind (arith, nat_tests) in
                  let bit_is : v.net (name.Wire p 6) ≡ bit (on number) = solved.1.1.1.1.1.1.0 ∙ (λ i. conditional (c i) (v.net nets.inserts) (apply_unary ReduceOr (sees.content i))) ∙ reduced (number == 0) in
                  stores_after a.index (written_word old Used number) true l (record { key = (t.shaped a.index l).key; value = (t.shaped a.index l).value }) at (sets_is true gate ∙ ap bit zero_is) (λ h. bit_is) (λ h. absurd (cc))
                  (key_other true gate (λ j m. omega arith)) (value_other (true && (idle || old.used)) (value_is true old.used n (was a.index l at)) (λ j m. omega arith))
                where
                  reduced : (b : Bool) → bit (if b then false else true) ≡ bit (not b)
                  reduced true = refl
                  reduced false = refl
              used_by false f n l z =
                  let gate = idle_is true n ∙ ap bit f in
                  refused (sets_is false gate) (words_off commits (name.Wire p 3) (name.Wire p 1) 1 d.key v 0 key_words c gate) (values_off (true && (idle || old.used)) (value_is true old.used n (was a.index l (index l))) (λ j m. omega arith))

              key_by : (x : Bool) (k : ℕ) → idle ≡ x → v.net (name.Wire p 0) ≡ bit true → a.index < d.cap → a.word ≡ 1 + k → k < word_count d.key
                  → StoresHash d bits (if x then slice_set slots a.index (written_word old (Key k) number) else slots) (done v statement s)
              key_by true k f n l z m =
                  let at = index l in
                  let gate = idle_is true n ∙ ap bit f in
                  let more : a.word ≢ 0 = omega arith in
                  let h = t.shaped a.index l in
                  let inside : 8 * k < length old.key = omega (arith, h.key, word_there d.key k m) in
                  stores_after a.index (written_word old (Key k) number) false l (record { key = length_stays old.key k number inside ∙ h.key; value = h.value }) at (sets_is true gate ∙ ap bit (unset a.word true more)) (λ e. absurd (cc)) (λ e. refl)
                  (λ j y b e. host_takes commits (name.Wire p 3) (name.Wire p 1) 1 d.key v j y k number old.key c gate (sees.number_of_word ∙ ap (word 4) z) sees.content (omega (arith, keys_all)) m h.key)
                  (value_other (true && (idle || old.used)) (value_is true old.used n (was a.index l at)) (λ j b. omega arith))
              key_by false k f n l z m =
                  let gate = idle_is true n ∙ ap bit f in
                  refused (sets_is false gate) (words_off commits (name.Wire p 3) (name.Wire p 1) 1 d.key v 0 key_words c gate) (values_off (true && (idle || old.used)) (value_is true old.used n (was a.index l (index l))) (λ j b. omega arith))

              value_by : (x : Bool) (k : ℕ) → (idle || old.used) ≡ x → v.net (name.Wire p 0) ≡ bit true → a.index < d.cap → a.word ≡ value_first d + k → k < word_count d.value
                  → StoresHash d bits (if x then slice_set slots a.index (written_word old (Value k) number) else slots) (done v statement s)
              value_by true k f n l z m =
                  let at = index l in
                  let gate = value_is true old.used n (was a.index l at) ∙ ap bit f in
                  let more : a.word ≢ 0 = omega arith in
                  let h = t.shaped a.index l in
                  let inside : 8 * k < length old.value = omega (arith, h.value, word_there d.value k m) in
                  stores_after a.index (written_word old (Value k) number) false l (record { key = h.key; value = length_stays old.value k number inside ∙ h.value }) at (sets_is (true && idle) (idle_is true n) ∙ ap bit (unset a.word idle more)) (λ e. absurd (cc)) (λ e. refl)
                  (key_other (true && idle) (idle_is true n) (λ j b. omega arith))
                  (λ j y b e. host_takes commits (name.Wire p 4) (name.Wire p 1) (value_first d) d.value v j y k number old.value c gate (sees.number_of_word ∙ ap (word 4) z) sees.content (omega (arith, value_count)) m h.value)
              value_by false k f n l z m =
                  let gate = value_is true old.used n (was a.index l (index l)) ∙ ap bit f in
                  let more : a.word ≢ 0 = omega arith in
                  refused (sets_is (true && idle) (idle_is true n) ∙ ap bit (unset a.word idle more)) (keys_off (true && idle) (idle_is true n) (λ j b. omega arith)) (words_off commits (name.Wire p 4) (name.Wire p 1) (value_first d) d.value v 0 values c gate)

              by : Naming → Leaves (named_word map d a)
              by (Elsewhere e n) =
                  let gate = idle_is false n in
                  let value_gate : v.net (name.Wire p 4) ≡ bit false = solved.1.1.1.1.0 ∙ (λ i. apply And (g i) (apply And (n i) (apply Or (v.net nets.idle) (v.net (name.Wire p 2))))) ∙ ap (apply And (bit true)) (shut (apply Or (v.net nets.idle) (v.net (name.Wire p 2)))) in
                  as_word Nothing e (refused (sets_is false gate) (words_off commits (name.Wire p 3) (name.Wire p 1) 1 d.key v 0 key_words c gate) (words_off commits (name.Wire p 4) (name.Wire p 1) (value_first d) d.value v 0 values c value_gate))
              by (Past e n l m) =
                  let more : a.word ≢ 0 = omega arith in
                  as_word Nothing e (refused (sets_is (true && idle) (idle_is true n) ∙ ap bit (unset a.word idle more)) (keys_off (true && idle) (idle_is true n) (λ j b. omega arith))
                  (values_off (true && (idle || old.used)) (value_is true old.used n (was a.index l (index l))) (λ j b. omega arith)))
              by (IsUsed e n l z) = as_word Used e (used_by idle refl n l z)
              by (IsKey k e n l z m) = as_word (Key k) e (key_by idle k refl n l z m)
              by (IsValue k e n l z m) = as_word (Value k) e (value_by (idle || old.used) k refl n l z m)

        -- ---- what the host reads
        pub host_shown : v.net (name.Wire p 7) ≡ word 64 (shown_word old (named_word map d a))
        host_shown = solved.1.1.1.1.1.1.1.0 ∙ by naming
          where
            index_value : a.index < d.cap → (value v (host_index bits)).value ≡ a.index
            index_value l = let small : a.index < 2 ^ bits = omega arith in ap (λ y. (part_select y (bits - 1) 0).value) sees.index ∙ ap (λ (y : Word). y.value) (low_part 16 bits a.index some) ∙ mod-eq_of_lt small

            keys_there : 1 + word_count d.key ≤ length s.memories
            keys_there = omega (arith, memory_count)

            values_there : value_first d + word_count d.value ≤ length s.memories
            values_there = omega (arith, memory_count)

            past_used : a.word ≢ 0 → value v (value_read p bits d) ≡ value v key_rest
            past_used o = let no : (a.word == 0) ≡ false = grind (arith, nat_tests) in ap (λ y. conditional (apply Equal y (word 4 0)) (concatenated (word 63 0) (value v (held p 0 (host_index bits)))) (value v key_rest)) sees.number_of_word ∙ ap (λ b. conditional (bit b) (concatenated (word 63 0) (value v (held p 0 (host_index bits)))) (value v key_rest)) no

            past_keys : a.index < d.cap → ((k : ℕ) → k < word_count d.key → a.word ≢ 1 + (0 + k)) → value v key_rest ≡ value v rest
            past_keys l o = read_other p bits 1 d.key some most v s d.cap a.index a.word (λ n. (slot_at slots n).key) own.memories t.keys keys_there l room sees.index sees.number_of_word 0 (word_count d.key) rest o

            ends : (w : HostWord) → named_word map d a ≡ w → word 64 (shown_word old w) ≡ word 64 (shown_word old (named_word map d a))
            ends w e = ap (λ x. word 64 (shown_word old x)) (sym e)

            by : Naming → conditional (v.net (name.Wire p 0)) (value v (value_read p bits d)) (word 64 0) ≡ word 64 (shown_word old (named_word map d a))
            by (Elsewhere e n) = ap (λ x. conditional x (value v (value_read p bits d)) (word 64 0)) n ∙ ends Nothing e
            by (Past e n l m) =
                ap (λ x. conditional x (value v (value_read p bits d)) (word 64 0)) n ∙ past_used (omega arith) ∙ past_keys l (λ k b. omega arith)
                ∙ read_other p bits (value_first d) d.value some most v s d.cap a.index a.word (λ n. (slot_at slots n).value) own.memories t.values values_there l room sees.index sees.number_of_word 0 (word_count d.value) (constant 64 0) (λ k b. omega arith)
                ∙ ends Nothing e
            by (IsUsed e n l z) =
                let yes : (a.word == 0) ≡ true = grind (arith, nat_tests) in
                ap (λ x. conditional x (value v (value_read p bits d)) (word 64 0)) n
                ∙ ap (λ y. conditional (apply Equal y (word 4 0)) (concatenated (word 63 0) (value v (held p 0 (host_index bits)))) (value v key_rest)) sees.number_of_word
                ∙ ap (λ b. conditional (bit b) (concatenated (word 63 0) (value v (held p 0 (host_index bits)))) (value v key_rest)) yes
                ∙ ap (concatenated (word 63 0)) (ap (v.memory_word (name.Memory p 0)) (index_value l) ∙ own.memories 0 a.index (omega (arith, memory_count)) ∙ t.used a.index l)
                ∙ wide_bit old.used
                ∙ ends Used e
            by (IsKey k e n l z m) =
                let y : 0 + k ≡ k = omega arith in
                ap (λ x. conditional x (value v (value_read p bits d)) (word 64 0)) n ∙ past_used (omega arith)
                ∙ read_here p bits 1 d.key some most v s d.cap a.index a.word (λ n. (slot_at slots n).key) own.memories t.keys keys_there l room sees.index sees.number_of_word 0 (word_count d.key) k rest m (omega arith) (omega arith)
                ∙ ap (λ i. word 64 (byte_word old.key i)) y ∙ ends (Key k) e
            by (IsValue k e n l z m) =
                let y : 0 + k ≡ k = omega arith in
                ap (λ x. conditional x (value v (value_read p bits d)) (word 64 0)) n ∙ past_used (omega arith) ∙ past_keys l (λ k b. omega arith)
                ∙ read_here p bits (value_first d) d.value some most v s d.cap a.index a.word (λ n. (slot_at slots n).value) own.memories t.values values_there l room sees.index sees.number_of_word 0 (word_count d.value) k (constant 64 0) m (omega arith) (omega arith)
                ∙ ap (λ i. word 64 (byte_word old.value i)) y ∙ ends (Value k) e

        -- ---- whether the host may write
        pub host_allowed : (idle : Bool) → v.net nets.idle ≡ bit idle → value v (has_word p map bits d nets.idle) ≡ bit (may_write idle old (named_word map d a))
        host_allowed idle q = by naming
          where
            index_value : a.index < d.cap → (value v (host_index bits)).value ≡ a.index
            index_value l = let small : a.index < 2 ^ bits = omega arith in ap (λ y. (part_select y (bits - 1) 0).value) sees.index ∙ ap (λ (y : Word). y.value) (low_part 16 bits a.index some) ∙ mod-eq_of_lt small

            under : (l f : Bool) → a.index < d.cap → v.net (name.Wire p 0) ≡ bit true → nat_lt a.word (value_first d + word_count d.value) ≡ l → nat_le (value_first d) a.word ≡ f → value v (has_word p map bits d nets.idle) ≡ bit (l && (idle || (f && old.used)))
            under l f here n e g =
                let w = sees.number_of_word in
                let used : value v (held p 0 (host_index bits)) ≡ bit old.used = ap (v.memory_word (name.Memory p 0)) (index_value here) ∙ own.memories 0 a.index (omega (arith, memory_count)) ∙ t.used a.index here in
                (λ i. apply And (apply And ((sym solved.0 ∙ n) i) (apply Less (w i) (word 4 (value_first d + word_count d.value)))) (apply Or (q i) (apply And (apply LessEqual (word 4 (value_first d)) (w i)) (used i))))
                ∙ (λ i. apply And (apply And (bit true) (bit (e i))) (apply Or (bit idle) (apply And (bit (g i)) (bit old.used))))
                ∙ (λ i. apply And (and_bits true l i) (apply Or (bit idle) (and_bits f old.used i)))
                ∙ ap (apply And (bit l)) (or_bits idle (f && old.used))
                ∙ and_bits l (idle || (f && old.used))

            plain : (b : Bool) → (b || false) ≡ b
            plain true = refl
            plain false = refl

            ends : (w : HostWord) → named_word map d a ≡ w → bit (may_write idle old w) ≡ bit (may_write idle old (named_word map d a))
            ends w e = ap (λ x. bit (may_write idle old x)) (sym e)

            by : Naming → value v (has_word p map bits d nets.idle) ≡ bit (may_write idle old (named_word map d a))
            by (Elsewhere e n) =
                let none : apply And (value v (names_slot {P = P} map d.cap)) (apply Less (v.net (name.Port HOST_WORD)) (word 4 (value_first d + word_count d.value))) ≡ bit false =
                ap (λ x. apply And x (apply Less (v.net (name.Port HOST_WORD)) (word 4 (value_first d + word_count d.value)))) (sym solved.0 ∙ n) ∙ shut (apply Less (v.net (name.Port HOST_WORD)) (word 4 (value_first d + word_count d.value))) in
                ap (λ x. apply And x (apply Or (v.net nets.idle) (apply And (apply LessEqual (word 4 (value_first d)) (v.net (name.Port HOST_WORD))) (value v (held p 0 (host_index bits)))))) none ∙ shut (apply Or (v.net nets.idle) (apply And (apply LessEqual (word 4 (value_first d)) (v.net (name.Port HOST_WORD))) (value v (held p 0 (host_index bits))))) ∙ ends Nothing e
            by (Past e n l m) = let past : nat_lt a.word (value_first d + word_count d.value) ≡ false = grind (arith, nat_tests) in under false (nat_le (value_first d) a.word) l n past refl ∙ ends Nothing e
            by (IsUsed e n l z) =
                let some_word : nat_lt a.word (value_first d + word_count d.value) ≡ true = lt-ltb a.word (value_first d + word_count d.value) (omega arith) in
                let early : nat_le (value_first d) a.word ≡ false = grind (arith, nat_tests) in
                under true false l n some_word early ∙ ap bit (plain idle) ∙ ends Used e
            by (IsKey k e n l z m) =
                let some_word : nat_lt a.word (value_first d + word_count d.value) ≡ true = lt-ltb a.word (value_first d + word_count d.value) (omega arith) in
                let early : nat_le (value_first d) a.word ≡ false = grind (arith, nat_tests) in
                under true false l n some_word early ∙ ap bit (plain idle) ∙ ends (Key k) e
            by (IsValue k e n l z m) =
                let some_word : nat_lt a.word (value_first d + word_count d.value) ≡ true = lt-ltb a.word (value_first d + word_count d.value) (omega arith) in
                let late : nat_le (value_first d) a.word ≡ true = le-leb (value_first d) a.word (omega arith) in
                under true true l n some_word late ∙ ends (Value k) e
