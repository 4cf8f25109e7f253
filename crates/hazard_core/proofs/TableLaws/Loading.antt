-- What a load leaves are bytes.
use Rattle.std.proofs.Common.{◌≡◌, ◌∙◌, ℕ, zero, suc, ◌+◌, ◌-◌, ◌<◌, ◌≤◌, List, [], ◌∷◌, ◌++◌, Option, Some, None, length, get_or, refl, sym, ap, subst, arith, IsTrue}
use Rattle.std.specs.Prelude.{replicate, map as map_list, is_some, unwrap_or, IfSome, slice_get}
use Rattle.std.specs.FinMap as map
use Rattle.std.proofs.lemmas.List.{length-replicate}
use Rattle.std.proofs.lemmas.List.Elements.{All-replicate}
use Rattle.std.proofs.lemmas.List.FromFn.{get_or-map-range_with_len}
use Rattle.xdp_maps.specs.declared.decl.MapKind.{MapKind}
use Rattle.xdp_maps.specs.declared.decl.MapKind.TheVariants.{Hash, Array}
use Rattle.xdp_maps.specs.declared.decl.MapDecl.{MapDecl}
use Rattle.xdp_maps.specs.Contents.{Contents, IsOver, IsWithinLimits, limits_as, index_key, IsBytes}
use Rattle.xdp_maps.specs.Calls.{entry_as, entry_of}
use Rattle.xdp_maps.specs.Laws.{IndexLaws, PairLaws}
use Rattle.xdp_maps.specs.State.{no_decl, contents_at}
use Rattle.hazard_core.specs.declared.slot.Slot.{Slot}
use Rattle.hazard_core.specs.Tables.{no_slot, decl_of, table_at, slot_at, empty_slot, pair_slot, index_slot, loaded_as, loaded_tables, tables_of}
use Rattle.hazard_core.specs.Tabled.{AreTables, LoadsTables}
use Rattle.hazard_core.specs.TableLaws.Bytes.{HasBytes, LoadsBytes}

zero_bytes : (n : ℕ) → IsBytes n (replicate n 0)
zero_bytes n = record { len = length-replicate n 0; bytes_fit = All-replicate (λ b. b < 256) n 0 (omega arith) }

-- ---- a hash

abbrev Pairs : Type 0
Pairs = List (List ℕ × List ℕ)

empty_bytes : (d : MapDecl) (n i : ℕ) → i < n → HasBytes d (slot_at (replicate n (empty_slot d)) i)
empty_bytes d zero i l = absurd (omega arith)
empty_bytes d (suc n) zero l = record { key = zero_bytes d.key; value = zero_bytes d.value }
empty_bytes d (suc n) (suc i) l = empty_bytes d n i (omega arith)

-- pairs of bytes, and unused slots after them
hash_at : (d : MapDecl) (n : ℕ) (es : Pairs) → ((i : ℕ) (key value : List ℕ) → slice_get es i ≡ Some (key, value) → IsBytes d.key key × IsBytes d.value value) → (i : ℕ) → i < length es + n
    → HasBytes d (slot_at (map_list pair_slot es ++ replicate n (empty_slot d)) i)
hash_at d n [] pairs i l = empty_bytes d n i (omega arith)
hash_at d n (e ∷ es) pairs zero l = let b = pairs 0 e.0 e.1 refl in record { key = b.0; value = b.1 }
hash_at d n (e ∷ es) pairs (suc i) l = hash_at d n es (λ k. pairs (suc k)) i (omega arith)

pair_bytes : (d : MapDecl) (c : Contents) → PairLaws d c → IsOver d c → (i : ℕ) (key value : List ℕ) → entry_of d c i ≡ Some (key, value) → IsBytes d.key key × IsBytes d.value value
pair_bytes d c laws over i key value e =
    let found = laws.found i key value e in
    let P : Option (List ℕ) → Type 0 = λ o. IfSome o (IsBytes d.value) in
    ((over.keys key (subst IsTrue (ap is_some (sym found)) refl)).0, subst P found (over.values key))

-- ---- an array

value_bytes : (n : ℕ) (v : Option (List ℕ)) → IfSome v (IsBytes n) → IsBytes n (unwrap_or v (replicate n 0))
value_bytes n None h = zero_bytes n
value_bytes n (Some v) h = h

-- ---- of both kinds

slots_as : IndexLaws → (k : MapKind) (d : MapDecl) (c : Contents) → d.kind ≡ k → PairLaws d c → IsWithinLimits d → IsOver d c → (i : ℕ) → i < d.cap → HasBytes d (slot_at (loaded_as k d c) i)
slots_as laws Hash d c kind pairs limits over i l =
    hash_at d (d.cap - length (map.entries c)) (map.entries c) (λ k key value e. pair_bytes d c pairs over k key value (ap (λ a. entry_as a c k) kind ∙ e)) i (omega arith)
slots_as laws Array d c kind pairs limits over i l =
    subst (HasBytes d) (sym (get_or-map-range_with_len (index_slot d c) 0 d.cap i i no_slot l (omega arith)))
    (record { key = subst (λ n. IsBytes n (index_key i)) (sym sized.0) (laws.key_bytes i); value = value_bytes d.value (map.get c (index_key i)) (over.values (index_key i)) })
  where
    sized : (d.key ≡ 4) × (d.cap ≤ 65536)
    sized = subst (λ k. limits_as k d) kind limits.by_kind

tables_at : (ds : List MapDecl) (cs : List Contents) → length cs ≡ length ds → (m : ℕ) → m < length ds
    → get_or (loaded_tables ds cs) m [] ≡ loaded_as (get_or ds m no_decl).kind (get_or ds m no_decl) (get_or cs m map.empty)
tables_at [] cs n m l = absurd (omega arith)
tables_at (d ∷ ds) [] n m l = absurd (omega (arith, n))
tables_at (d ∷ ds) (c ∷ cs) n zero l = refl
tables_at (d ∷ ds) (c ∷ cs) n (suc m) l = tables_at ds cs (omega (arith, n)) m (omega arith)

pub loads_bytes : IndexLaws → ((d : MapDecl) (c : Contents) → PairLaws d c) → LoadsTables → LoadsBytes
loads_bytes indexes pairs loads maps sound = record {
  shaped = record {
    beside = tables.beside;
    limits = sound.limits;
    counts = λ m l. (tables.each m l).count;
    each = λ m n l c. let b = bytes m n l c in record { key = b.key.len; value = b.value.len };
  };
  each = bytes;
}
  where
    tables : AreTables (tables_of maps)
    tables = loads maps sound

    bytes : (m n : ℕ) → m < length maps.decls → n < length (table_at (tables_of maps) m) → HasBytes (decl_of maps.decls m) (slot_at (table_at (tables_of maps) m) n)
    bytes m n l c =
        let d = decl_of maps.decls m in
        let count = (tables.each m l).count in
        subst (λ (xs : List Slot). HasBytes d (slot_at xs n)) (sym (tables_at maps.decls maps.contents sound.beside m l))
        (slots_as indexes d.kind d (contents_at maps m) refl (pairs d (contents_at maps m)) (sound.limits m l) (sound.over m l) n (omega (arith, c, count)))
