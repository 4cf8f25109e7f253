-- The block of a map stores after a commit the table that the commit leaves.
use Rattle.std.specs.Prelude.{Contains, replicate}
use Rattle.std.proofs.Common.{◌≡◌, ◌⊎◌, inl, inr, ◌∙◌, ℕ, ◌+◌, ◌^◌, ◌<◌, All, List, length, map, get_or, sym, ap, subst, arith}
use Rattle.std.proofs.lemmas.List.{get_or-map, length-map, length-replicate}
use Rattle.std.proofs.lemmas.List.Elements.{All-contains, Contains-append_cases}
use Rattle.std.proofs.lemmas.List.FromFn.{get_or-map-range_with_len, length-map-range_with_len}
use Rattle.std.proofs.Math.Pow.{pow_mono}
use Rattle.net_core.specs.declared.tree.Word.{Word}
use Rattle.net_core.specs.Value.{word, Env}
use Rattle.net_core.specs.Clock.{done}
use Rattle.block_core.specs.declared.name.Name.{Name}
use Rattle.block_core.specs.declared.name.Name.TheVariants as name
use Rattle.overlay_net.specs.xdp_maps.declared.decl.MapDecl.{MapDecl}
use Rattle.overlay_net.specs.xdp_maps.declared.decl.MapKind.TheVariants.{Array}
use Rattle.overlay_net.specs.xdp_maps.Contents.{IsBytes}
use Rattle.overlay_net.specs.cell_core.Sites.{site_at}
use Rattle.overlay_net.specs.hazard_core.Tables.{decl_of, slot_at}
use Rattle.overlay_net.specs.hazard_core.Commits.{word_count, word_at, written_slot}
use Rattle.hash_net.specs.array_net.Words.{word_width}
use Rattle.hash_net.specs.array_net.Array.{StoresArray}
use Rattle.hash_net.proofs.array_net_laws.WordLaws.{width_most}
use Rattle.hash_net.specs.HashNets.{value_first}
use Rattle.hash_net.specs.Hash.{StoresHash}
use Rattle.overlay_net.specs.cell_nets.Operands.{HasWidth, IsFit, AreFit}
use Rattle.commit_net.specs.declared.choosing.CommitNets.{CommitNets}
use Rattle.commit_net.specs.Choosing.{all_read}
use Rattle.commit_net.specs.Fetching.{fetched_words}
use Rattle.commit_net.specs.Wiring.{word_operand, outside_of, ShowsValue}
use Rattle.commit_net.specs.Wholes.{table_of, slot_before, slot_after}
use Rattle.commit_net.specs.Laws.{HashStores, ArrayStores}
use Rattle.commit_net.proofs.WordLemmas.{word_small}
use Rattle.commit_net.proofs.SlotLemmas.{table_is, within}
use Rattle.commit_net.proofs.LawLemmas.{one_value}

-- ---- words of a value that are fetched
module _ {P : Type 0} (fetcher : P) (count : ℕ) (v : Env (Name P)) (bytes : ℕ) (value : List ℕ) (b : IsBytes bytes value) (net : (i : ℕ) → i < count → v.net (name.Wire fetcher i) ≡ word 64 (word_at value (0 + i))) where
  abbrev words : List (Name P)
  words = fetched_words fetcher count

  word_is : (k : ℕ) (d : Name P) → k < count → get_or words k d ≡ name.Wire fetcher k
  word_is k d l = get_or-map-range_with_len (λ i. name.Wire fetcher i) 0 count k k d l (omega arith)

  inside : (k : ℕ) → k < length words → k < count
  inside k l = omega (arith, l, length-map-range_with_len (λ i. name.Wire fetcher i) 0 count)

  shown : ShowsValue v words value
  shown k n l = let z : 0 + k ≡ k = omega arith in ap (λ y. (v.net y).value) (word_is k n (inside k l)) ∙ ap (λ (x : Word). x.value) (net k (inside k l)) ∙ ap (word_at value) z

  has_width : (k : ℕ) → k < count → HasWidth v (name.Wire fetcher k) 64
  has_width k l =
      let small = word_small bytes (0 + k) value b in
      let x : word_at value (0 + k) < 2 ^ 64 = omega (arith, small, pow_mono {i = word_width bytes (0 + k)} {j = 64} (width_most bytes (0 + k))) in
      record { width = ap (λ (y : Word). y.width) (net k l); small = subst (λ (y : Word). y.value < 2 ^ 64) (sym (net k l)) x }

  each_fits : All (IsFit v) (map word_operand words)
  each_fits k d l =
      let at : k < length words = omega (arith, l, length-map words word_operand) in
      let first : Name P = name.Wire fetcher 0 in
      subst (IsFit v) (sym (get_or-map word_operand words k first d at ∙ ap word_operand (word_is k first (inside k at)))) (has_width k (inside k at))

  all_fit : (ns : List (CommitNets (Name P))) → AreFit v (all_read ns) → AreFit v (outside_of ns words)
  all_fit ns f a c = by (Contains-append_cases (map word_operand words) (all_read ns) a c)
    where
      by : Contains (map word_operand words) a ⊎ Contains (all_read ns) a → IsFit v a
      by (inl x) = All-contains (IsFit v) (map word_operand words) a each_fits x
      by (inr x) = f a x

-- ---- the blocks
memory_count : (ms : List (List Word)) (n size : ℕ) → map length ms ≡ replicate n size → length ms ≡ n
memory_count ms n size e = sym (length-map ms length) ∙ ap length e ∙ length-replicate n size

pub hash_stores : {P : Type 0} → HashStores P
hash_stores {P} = λ finder fetcher asker part map d bits ns nets keys values finds fetches asks b room find fetch ask block v s p t taken h j found fetched asked solved sees stores is.
    let w = is.slot in
    let n = written_slot p t taken h j in
    let value = (slot_before p t taken h j).value in
    let count = word_count d.value in
    let less : n < d.cap = within p t taken h j d w in
    let at : v.net nets.map.slot ≡ word bits n = find.shows v p t taken h j is.fit found is.operation (omega (arith, less, room)) in
    let many = memory_count s.memories (value_first d + count) (2 ^ bits) stores.memories in
    let net : (i : ℕ) → i < count → v.net (name.Wire fetcher i) ≡ word 64 (word_at value (0 + i)) =
    λ i l. fetch.shows v s d.cap (λ k. (slot_at (table_of p t j) k).value) n i fetched sees.memories stores.values (omega (arith, many)) (ap (λ (x : Word). x.value) at) less l in
    subst (λ l. StoresHash d bits l (done v b.statement s)) (sym (table_is p t taken h j w.right))
    (block.commits v s (table_of p t j) n (slot_after p t taken h j) solved sees stores (ask.asks v p t taken h j (all_fit fetcher count v d.value value w.value net ns is.fit) asked is.operation w (shown fetcher count v d.value value w.value net) is.commits is.silent at))

pub array_stores : {P : Type 0} → ArrayStores P
array_stores {P} = λ finder fetcher asker part map d bits ns nets values finds fetches asks b kind room find fetch ask block v s p t taken h j found fetched asked solved sees stores on is.
    let w = is.slot in
    let n = written_slot p t taken h j in
    let value = (slot_before p t taken h j).value in
    let count = word_count d.value in
    let less : n < d.cap = within p t taken h j d w in
    let array : (decl_of t.decls (site_at p.sites j).map).kind ≡ Array = ap (λ (x : MapDecl). x.kind) w.declared ∙ kind in
    let at : v.net nets.slot ≡ word bits n = find.shows v p t taken h j is.fit found is.operation (omega (arith, less, room)) in
    let many = memory_count s.memories count (2 ^ bits) stores.memories in
    let net : (i : ℕ) → i < count → v.net (name.Wire fetcher i) ≡ word 64 (word_at value (0 + i)) =
    λ i l. fetch.shows v s d.cap (λ k. (slot_at (table_of p t j) k).value) n i fetched sees stores.words (omega (arith, many)) (ap (λ (x : Word). x.value) at) less l in
    subst (λ l. StoresArray d bits l (done v b.statement s)) (sym (one_value p t taken h j w.right array on))
    (block.commits v s (table_of p t j) n (slot_after p t taken h j).value solved stores (ask.asks v p t taken h j bits nets (all_fit fetcher count v d.value value w.value net ns is.fit) asked is.operation w (shown fetcher count v d.value value w.value net) is.commits is.silent at))
