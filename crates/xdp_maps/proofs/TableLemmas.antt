-- A table stays one of its declaration.
use Rattle.std.proofs.Common.{◌≡◌, ℕ, ◌<◌, ◌≤◌, List, length, get_or, Fits, w8, Vec, Global, vec_capacity, ◌^◌, Option, Some, None, MatchOption, slice_get, sym, ap, subst, ◌∙◌, arith}
use Rattle.std.specs.Ordering.{nat_cmp}
use Rattle.std.specs.Cmp.Lexicographic.{slice_cmp}
use Rattle.std.specs.FinMap as map
use Rattle.std.proofs.lemmas.List.Elements.{All-from_get_or}
use Rattle.std.specs.Option.{option_map}
use Rattle.std.specs.Vec.{with_items}
use Rattle.std.proofs.lemmas.List.{with_items_is}
use Rattle.xdp_maps.specs.declared.decl.MapDecl.{MapDecl}
use Rattle.xdp_maps.specs.declared.short.ShortBytes.{ShortBytes}
use Rattle.xdp_maps.specs.declared.table.Table.TheVariants as table
use Rattle.xdp_maps.specs.Contents.{IsBytes, IsOver, array_of, index_key}
use Rattle.xdp_maps.specs.Calls.{entry_of, entry_as}
use Rattle.xdp_maps.specs.Layout.{IsRising}
use Rattle.xdp_maps.specs.Tables.{IsTable}
use Rattle.xdp_maps.proofs.Arrays.{get-array_of}
use Rattle.xdp_maps.proofs.IndexLaws.{index_of-index_key}
use Rattle.xdp_maps.proofs.Hashes.{order_total, order_exact, entries_of_rising, contains_at}
use Rattle.xdp_maps.proofs.Opened.{IsBytes-index_key, bytes_below}

-- the bytes of a slice
pub slice_bytes : (n : ℕ) (xs : List ℕ) → length xs ≡ n → ((i : ℕ) → Fits w8 (get_or xs i 0)) → IsBytes n xs
slice_bytes n xs len fit = record { len = len; bytes_fit = All-from_get_or (λ b. b < 256) xs 0 (λ i _. let h = fit i in omega arith) }

pub hash_table : (d : MapDecl) (old new : Vec (ShortBytes × ShortBytes) Global) → IsTable d (table.Hash old) → IsRising (slice_cmp nat_cmp) new.items → vec_capacity old ≤ vec_capacity new → IsOver d (map.from_sorted new.items) → IsTable d (table.Hash new)
hash_table d old new was rising room over = record {
  limits = was.limits;
  kept = (was.kept.0, rising, (let had = was.kept.2 in omega arith));
  over = over;
}

pub array_table : (d : MapDecl) (old : Vec ShortBytes Global) (values : List ShortBytes) → IsTable d (table.Array old) → length values ≡ length old.items → IsOver d (array_of values) → IsTable d (table.Array (with_items old values))
array_table d old values was same over =
    let items : (with_items old values).items ≡ values = with_items_is old values (same ∙ sym old.ok.0) in
    record {
      limits = was.limits;
      kept = (was.kept.0, ap length items ∙ same ∙ was.kept.1);
      over = subst (λ vs. IsOver d (array_of vs)) (sym items) over;
    }

-- each key of a hash has the declared length
pub key_length : (d : MapDecl) (entries : Vec (ShortBytes × ShortBytes) Global) → IsTable d (table.Hash entries) → (k : ℕ) (e : ShortBytes × ShortBytes) → k < length entries.items → length (get_or entries.items k e).0 ≡ d.key
key_length d entries was k e lt = (was.over.keys _ (contains_at (slice_cmp nat_cmp) order_total order_exact entries.items k e was.kept.1 lt)).0.len

-- the pairs of a hash are its entries
pub entry_hash : (d : MapDecl) (entries : Vec (ShortBytes × ShortBytes) Global) (i : ℕ) → IsTable d (table.Hash entries) → entry_of d (map.from_sorted entries.items) i ≡ slice_get entries.items i
entry_hash d entries i was =
    ap (λ k. entry_as k (map.from_sorted entries.items) i) was.kept.0
    ∙ ap (λ (es : List (List ℕ × List ℕ)). slice_get es i) (entries_of_rising (slice_cmp nat_cmp) order_total order_exact entries.items was.kept.1)

-- the pairs of an array are its values under their indexes
pub entry_array : (d : MapDecl) (values : Vec ShortBytes Global) (i : ℕ) → i < 2 ^ 32 → IsTable d (table.Array values) → entry_of d (array_of values.items) i ≡ option_map (λ v. (index_key i, v)) (slice_get values.items i)
entry_array d values i small was =
    let key = IsBytes-index_key i in
    let got = get-array_of values.items (index_key i) key.len (bytes_below (index_key i) key.bytes_fit) in
    ap (λ k. entry_as k (array_of values.items) i) was.kept.0
    ∙ ap (option_map (λ v. (index_key i, v))) (got ∙ ap (slice_get values.items) (index_of-index_key i small))

-- a value that was answered under its index
pub indexed_match : {B : Type 0} (now : B → List ℕ) (r : Option B) (s : Option (List ℕ)) (key new : List ℕ) → MatchOption r (s ≡ None) (λ v. (s ≡ Some (now v)) × (new ≡ key)) → MatchOption r (option_map {U = List ℕ × List ℕ} (λ w. (key, w)) s ≡ None) (λ v. option_map {U = List ℕ × List ℕ} (λ w. (key, w)) s ≡ Some (new, now v))
indexed_match now None s key new h = ap (option_map {U = List ℕ × List ℕ} (λ w. (key, w))) h
indexed_match now (Some v) s key new h = ap (option_map {U = List ℕ × List ℕ} (λ w. (key, w))) h.0 ∙ (let pair : List ℕ → List ℕ × List ℕ = λ k. (k, now v) in ap (λ k. Some (pair k)) (sym h.1))
