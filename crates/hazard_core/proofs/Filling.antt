-- The tables of loaded maps, slot by slot.
use Rattle.std.proofs.Common.{◌≡◌, ◌∙◌, ℕ, zero, suc, ◌+◌, ◌-◌, ◌<◌, ◌≤◌, Bool, true, false, List, [], ◌∷◌, ◌++◌, Option, Some, None, length, get_or, refl, sym, ap, subst, arith, IsTrue, length-append}
use Rattle.std.specs.Prelude.{replicate, map as map_list, is_some, unwrap_or, MatchOption, IfSome, slice_get}
use Rattle.std.specs.Option.{option_map}
use Rattle.std.specs.List.{range_with_len}
use Rattle.std.specs.FinMap as map
use Rattle.std.specs.FinMap.{len-entries}
use Rattle.std.proofs.lemmas.List.{length-map, length-replicate}
use Rattle.std.proofs.lemmas.List.FromFn.{get_or-map-range_with_len, length-map-range_with_len}
use Rattle.xdp_maps.specs.declared.decl.MapKind.{MapKind}
use Rattle.xdp_maps.specs.declared.decl.MapKind.TheVariants.{Hash, Array}
use Rattle.xdp_maps.specs.declared.decl.MapDecl.{MapDecl}
use Rattle.xdp_maps.specs.Contents.{Contents, IsOver, IsWithinLimits, IsFilled_as, TakesKey_as, limits_as, index_key, index_of, IsBytes}
use Rattle.xdp_maps.specs.Calls.{entry_as, entry_of}
use Rattle.xdp_maps.specs.Laws.{IndexLaws, PairLaws}
use Rattle.xdp_maps.specs.State.{no_decl}
use Rattle.hazard_core.specs.Shaped.{IsShaped}
use Rattle.hazard_core.specs.Tables.{Slot, no_slot, slot_at, empty_slot, pair_slot, index_slot, loaded_as, loaded_tables}

abbrev Pairs : Type 0
Pairs = List (List ℕ × List ℕ)

-- the slot of an entry, or of none
abbrev IsSlotOf : MapDecl → Slot → Option (List ℕ × List ℕ) → Type 0
IsSlotOf d s e = MatchOption e (s ≡ empty_slot d) (λ x. s ≡ pair_slot x)

unused : (d : MapDecl) (n i : ℕ) → i < n → slot_at (replicate n (empty_slot d)) i ≡ empty_slot d
unused d zero i l = absurd (omega arith)
unused d (suc n) zero l = refl
unused d (suc n) (suc i) l = unused d n i (omega arith)

hash_at : (d : MapDecl) (n : ℕ) (es : Pairs) (i : ℕ) → i < length es + n → IsSlotOf d (slot_at (map_list pair_slot es ++ replicate n (empty_slot d)) i) (slice_get es i)
hash_at d n [] i l = unused d n i (omega arith)
hash_at d n (e ∷ es) zero l = refl
hash_at d n (e ∷ es) (suc i) l = hash_at d n es i (omega arith)

array_at : (d : MapDecl) (c : Contents) (i : ℕ) (v : Option (List ℕ)) → map.get c (index_key i) ≡ v → IsTrue (is_some v) → slot_at (loaded_as Array d c) i ≡ index_slot d c i
    → IsSlotOf d (slot_at (loaded_as Array d c) i) (option_map (λ v. (index_key i, v)) v)
array_at d c i None e h s = cc
array_at d c i (Some v) e h s = s ∙ ap (λ (o : Option (List ℕ)). pair_slot (index_key i, unwrap_or o (replicate d.value 0))) e

slots_as : IndexLaws → (k : MapKind) (d : MapDecl) (c : Contents) → d.kind ≡ k → IsWithinLimits d → IsOver d c → (i : ℕ) → i < d.cap → IsSlotOf d (slot_at (loaded_as k d c) i) (entry_as k c i)
slots_as laws Hash d c kind limits over i l = hash_at d (d.cap - length (map.entries c)) (map.entries c) i (omega arith)
slots_as laws Array d c kind limits over i l =
    array_at d c i (map.get c (index_key i)) refl (all (index_key i) (subst (λ n. IsBytes n (index_key i)) (sym sized.0) (laws.key_bytes i), subst (λ k. TakesKey_as k d (index_key i)) (sym kind) below)) at
  where
    sized : (d.key ≡ 4) × (d.cap ≤ 65536)
    sized = subst (λ k. limits_as k d) kind limits.by_kind

    all : IsFilled_as Array d c
    all = subst (λ k. IsFilled_as k d c) kind over.filled

    below : index_of (index_key i) < d.cap
    below = let s = sized.1 in let e = laws.index_back i (omega (arith, l, s)) in omega (arith, e, l)

    at : slot_at (loaded_as Array d c) i ≡ index_slot d c i
    at = get_or-map-range_with_len (index_slot d c) 0 d.cap i i no_slot l (omega arith)

pub loaded_at : IndexLaws → (d : MapDecl) (c : Contents) → IsWithinLimits d → IsOver d c → (i : ℕ) → i < d.cap → IsSlotOf d (slot_at (loaded_as d.kind d c) i) (entry_of d c i)
loaded_at laws d c limits over i l = slots_as laws d.kind d c refl limits over i l

-- of the entries that there are
pub slot_some : (d : MapDecl) (s : Slot) (e : Option (List ℕ × List ℕ)) (key value : List ℕ) → e ≡ Some (key, value) → IsSlotOf d s e → s ≡ pair_slot (key, value)
slot_some d s e key value q h = let P : Option (List ℕ × List ℕ) → Type 0 = λ o. IsSlotOf d s o in subst P q h

pub slot_none : (d : MapDecl) (s : Slot) (e : Option (List ℕ × List ℕ)) → e ≡ None → IsSlotOf d s e → s ≡ empty_slot d
slot_none d s e q h = let P : Option (List ℕ × List ℕ) → Type 0 = λ o. IsSlotOf d s o in subst P q h

pub value_bytes : (d : MapDecl) (c : Contents) → PairLaws d c → IsOver d c → (i : ℕ) (key value : List ℕ) → entry_of d c i ≡ Some (key, value) → length value ≡ d.value
value_bytes d c laws over i key value e =
    let P : Option (List ℕ) → Type 0 = λ o. IfSome o (IsBytes d.value) in
    let q : IsBytes d.value value = subst P (laws.found i key value e) (over.values key) in
    q.len

pub key_bytes : (d : MapDecl) (c : Contents) → PairLaws d c → IsOver d c → (i : ℕ) (key value : List ℕ) → entry_of d c i ≡ Some (key, value) → length key ≡ d.key
key_bytes d c laws over i key value e = (over.keys key (subst IsTrue (ap is_some (sym (laws.found i key value e))) refl)).0.len

pub slot_shape : IndexLaws → (d : MapDecl) (c : Contents) → PairLaws d c → IsWithinLimits d → IsOver d c → (i : ℕ) → i < d.cap → IsShaped d (slot_at (loaded_as d.kind d c) i)
slot_shape laws d c pairs limits over i l = by (entry_of d c i) refl (loaded_at laws d c limits over i l)
  where
    by : (e : Option (List ℕ × List ℕ)) → entry_of d c i ≡ e → IsSlotOf d (slot_at (loaded_as d.kind d c) i) e → IsShaped d (slot_at (loaded_as d.kind d c) i)
    by None e h = let Q : Slot → Type 0 = λ x. IsShaped d x in subst Q (sym h) (record { key = length-replicate d.key 0; value = length-replicate d.value 0 })
    by (Some x) e h = let Q : Slot → Type 0 = λ x. IsShaped d x in subst Q (sym h) (record { key = key_bytes d c pairs over i x.0 x.1 e; value = value_bytes d c pairs over i x.0 x.1 e })

count_as : (k : MapKind) (d : MapDecl) (c : Contents) → d.kind ≡ k → IsOver d c → length (loaded_as k d c) ≡ d.cap
count_as Hash d c kind over =
    let few : map.len c ≤ d.cap = subst (λ k. IsFilled_as k d c) kind over.filled in
    let n = d.cap - length (map.entries c) in
    length-append (map_list pair_slot (map.entries c)) (replicate n (empty_slot d)) ∙ omega (arith, length-map (map.entries c) pair_slot, length-replicate n (empty_slot d), few, len-entries c)
count_as Array d c kind over = length-map-range_with_len (index_slot d c) 0 d.cap

pub loaded_count : (d : MapDecl) (c : Contents) → IsOver d c → length (loaded_as d.kind d c) ≡ d.cap
loaded_count d c over = count_as d.kind d c refl over

-- the table of each map
pub tables_count : (ds : List MapDecl) (cs : List Contents) → length cs ≡ length ds → length (loaded_tables ds cs) ≡ length ds
tables_count [] cs n = refl
tables_count (d ∷ ds) [] n = absurd (omega (arith, n))
tables_count (d ∷ ds) (c ∷ cs) n = ap suc (tables_count ds cs (omega (arith, n)))

pub tables_at : (ds : List MapDecl) (cs : List Contents) → length cs ≡ length ds → (m : ℕ) → m < length ds
    → get_or (loaded_tables ds cs) m [] ≡ loaded_as (get_or ds m no_decl).kind (get_or ds m no_decl) (get_or cs m map.empty)
tables_at [] cs n m l = absurd (omega arith)
tables_at (d ∷ ds) [] n m l = absurd (omega (arith, n))
tables_at (d ∷ ds) (c ∷ cs) n zero l = refl
tables_at (d ∷ ds) (c ∷ cs) n (suc m) l = tables_at ds cs (omega (arith, n)) m (omega arith)
