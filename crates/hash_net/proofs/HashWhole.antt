-- The block of a hash is what it is to be.
use Rattle.std.specs.Prelude.{◌≡◌, ℕ, zero, suc, ◌+◌, ◌^◌, ◌<◌, ◌≤◌, List, [], ◌∷◌, ◌++◌, length, map as map_list, replicate}
use Rattle.std.proofs.Common.{get_or, refl, sym, ap, ◌∙◌, subst, arith}
use Rattle.std.proofs.lemmas.List.{length-map, length-replicate, get_or-replicate, get_or_append_left, get_or-append-add, map-append}
use Rattle.std.proofs.lemmas.List.Sums.{sum_by-cons}
use Rattle.net_core.specs.declared.tree.Word.{Word}
use Rattle.net_core.specs.Value.{word, bit, number_of}
use Rattle.net_core.specs.Clock.{Stored}
use Rattle.block_core.specs.declared.name.Name.{Name}
use Rattle.block_core.specs.Blocks.{first_memory}
use Rattle.overlay_net.specs.xdp_maps.declared.decl.MapDecl.{MapDecl}
use Rattle.overlay_net.specs.xdp_maps.declared.decl.MapKind.TheVariants.{Hash}
use Rattle.overlay_net.specs.xdp_maps.Contents.{IsWithinLimits}
use Rattle.overlay_net.specs.hazard_core.declared.slot.Slot.{Slot}
use Rattle.overlay_net.specs.hazard_core.Tables.{no_slot, slot_at, used_count, empty_slot}
use Rattle.overlay_net.specs.hazard_core.Shaped.{IsShaped}
use Rattle.overlay_net.specs.hazard_core.Commits.{word_count, word_at as byte_word}
use Rattle.frame_net.specs.Frames.{word_at}
use Rattle.frame_net.specs.Stores.{widths_memory}
use Rattle.frame_net.proofs.StoreLaws.{widths_are}
use Rattle.array_net.specs.declared.words.WordNets.{WordNets}
use Rattle.array_net.specs.Words.{word_width}
use Rattle.array_net.specs.WordTrees.{word_memories}
use Rattle.array_net.proofs.WordLaws.{word_zero}
use Rattle.array_net.proofs.WordMemoryLaws.{count_memories, first_sizes, first_at}
use Rattle.array_net.proofs.WordReadLaws.{shown_value}
use Rattle.hash_net.specs.declared.block.HashNets.{HashNets}
use Rattle.hash_net.specs.HashNets.{value_first, hash_memories, hash_block}
use Rattle.hash_net.specs.Hash.{StoresHash, IsHash}
use Rattle.hash_net.proofs.HashForms.{is_typed, in_order, reads_there, is_within, wires_spelled, is_spelled, wires_free, statement_free}
use Rattle.hash_net.proofs.HashClock.{stays, operation_stores, host_stores, host_shown, host_allowed}

-- ---- what it first stores
abbrev firsts : List (ℕ × ℕ) → List (List Word)
firsts ws = map_list first_memory (map_list widths_memory ws)

firsts_append : (xs ys : List (ℕ × ℕ)) → firsts (xs ++ ys) ≡ firsts xs ++ firsts ys
firsts_append [] ys = refl
firsts_append (x ∷ xs) ys = ap (λ l. first_memory (widths_memory x) ∷ l) (firsts_append xs ys)

replicate_append : (m n a : ℕ) → replicate m a ++ replicate n a ≡ replicate (m + n) a
replicate_append zero n a = let z : n ≡ 0 + n = omega arith in ap (λ k. replicate k a) z
replicate_append (suc m) n a = let z : suc (m + n) ≡ suc m + n = omega arith in ap (λ l. a ∷ l) (replicate_append m n a) ∙ ap (λ k. replicate k a) z

none_used : (d : MapDecl) (n : ℕ) → used_count (replicate n (empty_slot d)) ≡ 0
none_used d zero = refl
none_used d (suc n) = sum_by-cons (λ (s : Slot). number_of s.used) (empty_slot d) (replicate n (empty_slot d)) ∙ ap (λ k. 0 + k) (none_used d n)

first_stores : (d : MapDecl) (bits : ℕ) → d.cap ≤ 2 ^ bits → StoresHash d bits (replicate d.cap (empty_slot d)) (record { registers = word (bits + 1) 0 ∷ []; memories = firsts (hash_memories bits d) })
first_stores d bits room = record {
  registers = ap (λ n. word (bits + 1) n ∷ []) (sym (none_used d d.cap));
  memories = let z : suc (word_count d.key + word_count d.value) ≡ value_first d + word_count d.value = omega arith in
      (λ i. length-replicate (2 ^ bits) (word 1 0) i ∷ map_list length (firsts_append (word_memories bits d.key) (word_memories bits d.value) i))
      ∙ ap (λ l. 2 ^ bits ∷ l) (map-append length (firsts (word_memories bits d.key)) (firsts (word_memories bits d.value)) ∙ (λ i. first_sizes bits d.key 0 (word_count d.key) i ++ first_sizes bits d.value 0 (word_count d.value) i)
      ∙ replicate_append (word_count d.key) (word_count d.value) (2 ^ bits))
      ∙ ap (λ k. replicate k (2 ^ bits)) z;
  count = length-replicate d.cap (empty_slot d);
  shaped = λ n l. shaped_is n l;
  used = λ n l. let there : n < 2 ^ bits = omega arith in get_or-replicate (2 ^ bits) n (word 1 0) _ there ∙ ap (λ (s : Slot). bit s.used) (sym (slot_is n l));
  keys = λ j n l m.
      let z : 1 + j ≡ suc j = omega arith in
      let there : n < 2 ^ bits = omega arith in
      (λ i. word_at (get_or (firsts (hash_memories bits d)) (z i) []) n) ∙ (λ i. word_at (get_or (firsts_append (word_memories bits d.key) (word_memories bits d.value) i) j []) n)
      ∙ ap (λ ws. word_at ws n) (get_or_append_left (firsts (word_memories bits d.key)) (firsts (word_memories bits d.value)) [] j (omega (arith, count_firsts bits d.key)))
      ∙ word_first d.key j n l there ∙ ap (word (word_width d.key j)) (sym (ap (λ (s : Slot). byte_word s.key j) (slot_is n m) ∙ word_zero d.key j));
  values = λ j n l m.
      let c = count_firsts bits d.key in
      let z : value_first d + j ≡ suc (length (firsts (word_memories bits d.key)) + j) = omega (arith, c) in
      let there : n < 2 ^ bits = omega arith in
      (λ i. word_at (get_or (firsts (hash_memories bits d)) (z i) []) n) ∙ (λ i. word_at (get_or (firsts_append (word_memories bits d.key) (word_memories bits d.value) i) (length (firsts (word_memories bits d.key)) + j) []) n)
      ∙ ap (λ ws. word_at ws n) (get_or-append-add (firsts (word_memories bits d.key)) (firsts (word_memories bits d.value)) j [])
      ∙ word_first d.value j n l there ∙ ap (word (word_width d.value j)) (sym (ap (λ (s : Slot). byte_word s.value j) (slot_is n m) ∙ word_zero d.value j));
}
  where
    slot_is : (n : ℕ) → n < d.cap → slot_at (replicate d.cap (empty_slot d)) n ≡ empty_slot d
    slot_is n l = get_or-replicate d.cap n (empty_slot d) no_slot l

    shaped_is : (n : ℕ) → n < d.cap → IsShaped d (slot_at (replicate d.cap (empty_slot d)) n)
    shaped_is n l = subst (IsShaped d) (sym (slot_is n l)) (record { key = length-replicate d.key 0; value = length-replicate d.value 0 })

    count_firsts : (bits bytes : ℕ) → length (firsts (word_memories bits bytes)) ≡ word_count bytes
    count_firsts bits bytes = length-map (map_list widths_memory (word_memories bits bytes)) first_memory ∙ length-map (word_memories bits bytes) widths_memory ∙ count_memories bits bytes 0 (word_count bytes)

    word_first : (bytes j n : ℕ) → j < word_count bytes → n < 2 ^ bits → word_at (get_or (firsts (word_memories bits bytes)) j []) n ≡ word (word_width bytes j) 0
    word_first bytes j n l there =
        let e : 0 + j ≡ j = omega arith in
        ap (λ ws. word_at ws n) (first_at bits bytes 0 (word_count bytes) j l) ∙ get_or-replicate (2 ^ bits) n (word (word_width bytes (0 + j)) 0) _ there ∙ ap (λ i. word (word_width bytes i) 0) e

memory_count : (d : MapDecl) (bits : ℕ) (slots : List Slot) (s : Stored) → StoresHash d bits slots s → length s.memories ≡ value_first d + word_count d.value
memory_count d bits slots s t = sym (length-map s.memories length) ∙ ap length t.memories ∙ length-replicate (value_first d + word_count d.value) (2 ^ bits)

pub is_hash :
    {P : Type 0} (p : P) (map : ℕ) (d : MapDecl) (bits : ℕ) (nets : HashNets (Name P)) (keys : List (Name P)) (values : List (WordNets (Name P))) → map < 16 → d.kind ≡ Hash → IsWithinLimits d → 1 ≤ bits → bits ≤ 16 → d.cap ≤ 2 ^ bits
    → length keys ≡ word_count d.key → length values ≡ word_count d.value → IsHash p map d bits nets keys values (hash_block p map d bits nets keys values)
is_hash p map d bits nets keys values few kind limits some most room kc vc = record {
  registers = refl;
  memories = widths_are (hash_memories bits d);
  wires = refl;
  typed = λ w here h. is_typed p map d bits nets keys values few limits some most room kc vc w here h;
  ordered = λ w before here a. in_order p map d bits nets keys values few limits some most room kc vc w before here a;
  reads = λ w here a k v. reads_there p map d bits nets keys values few limits some most room kc vc w here a k v;
  within = is_within p map d bits nets keys values few limits some most room kc vc;
  wires_spelled = wires_spelled p map d bits nets keys values few limits some most room kc vc;
  spelled = is_spelled p map d bits nets keys values few limits some most room kc vc;
  free = record { wires = wires_free p map d bits nets keys values few limits some most room kc vc; statement = statement_free p map d bits nets keys values few limits some most room kc vc };
  goes = λ v. (refl, (refl, (refl, (refl, (refl, (refl, (refl, (refl, tt))))))));
  first = first_stores d bits room;
  stays = λ v s solved c g. stays p map d bits nets keys values few kind limits some most room kc vc v s solved c g;
  commits = λ v s slots n new solved own t a. operation_stores p map d bits nets keys values few kind limits some most room kc vc v s solved slots own t n new a;
  written = λ v s slots a number idle solved own t sees c g q. host_stores p map d bits nets keys values few kind limits some most room kc vc v s solved slots own t a number sees idle c g q;
  allows = λ v s slots a number idle solved own t sees q. host_allowed p map d bits nets keys values few kind limits some most room kc vc v s solved slots own t a number sees idle q;
  loads = λ v s slots index n j own t e l m.
      let c = memory_count d bits slots s t in
      shown_value p bits (value_first d) d.value some most v s d.cap (λ k. (slot_at slots k).value) j n index own.memories t.values (omega (arith, c)) m l e;
  shows = λ v s slots a number solved own t sees. host_shown p map d bits nets keys values few kind limits some most room kc vc v s solved slots own t a number sees;
}
