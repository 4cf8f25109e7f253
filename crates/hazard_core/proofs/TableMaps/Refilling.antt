-- What a map holds into which the slots of its table were put.
use Rattle.std.proofs.Common.{◌≡◌, ℕ, zero, suc, ◌+◌, ◌<◌, ◌≤◌, Bool, true, false, cond, List, [], ◌∷◌, Option, Some, None, length, refl, sym, ap, ◌∙◌, subst, arith, IsTrue}
use Rattle.std.specs.Prelude.{if◌then◌else◌, nat_le, is_some}
use Rattle.std.specs.Option.{option_or}
use Rattle.std.specs.Ordering.{nat_cmp, eq_by_cmp}
use Rattle.std.specs.Cmp.Lexicographic.{slice_cmp, nat_list_cmp_total}
use Rattle.std.specs.FinMap as map
use Rattle.std.specs.FinMap.{get-insert, get-empty, len-insert, len-empty, same_map, slice_cmp-IsAntisymmetric, nat_cmp-IsAntisymmetric}
use Rattle.std.specs.Str.{bytes_eq}
use Rattle.std.proofs.lemmas.Bool.{and_parts}
use Rattle.std.proofs.lemmas.Bool.Decides.{nat_tests}
use Rattle.std.proofs.lemmas.Slice.Eq.{bytes_eq-Decides}
use Rattle.std.proofs.lemmas.Map.Text.{is_eq-slice_cmp}
use Rattle.xdp_maps.specs.declared.decl.MapKind.{MapKind}
use Rattle.xdp_maps.specs.declared.decl.MapKind.TheVariants.{Hash, Array}
use Rattle.xdp_maps.specs.declared.decl.MapDecl.{MapDecl}
use Rattle.xdp_maps.specs.declared.errno.TheConstants.{E2BIG}
use Rattle.xdp_maps.specs.Contents.{Contents, IsOver, IsWithinLimits, IsBytes, TakesKey_as, limits_as, index_key, index_of, opened, opened_as}
use Rattle.xdp_maps.specs.Calls.{hash_refusal, array_refusal, update_error_as, unless, updated}
use Rattle.xdp_maps.specs.Laws.{IndexLaws, KeepsOver}
use Rattle.hazard_core.specs.declared.slot.Slot.{Slot}
use Rattle.hazard_core.specs.Tables.{slot_at, has_key, contents_of}
use Rattle.hazard_core.specs.Tabled.{IsFilledTable, IsTable}
use Rattle.hazard_core.specs.TableMaps.Refilled.{with_pair, refilled}

above : (n m : ℕ) → m < n → nat_le n m ≡ false
above n m l = by (nat_le n m) refl
  where
    by : (c : Bool) → nat_le n m ≡ c → c ≡ false
    by true e = let k : n ≤ m = grind (arith, nat_tests) in absurd (omega (arith, k, l))
    by false e = refl

-- ---- a hash: there is room for each slot

hash_takes : (cap used : ℕ) (present : Bool) → used < cap → hash_refusal cap used present 0 ≡ None
hash_takes cap used true l = refl
hash_takes cap used false l = ap (λ (b : Bool). if b then Some E2BIG else None) (above cap used l)

few : (slots : List Slot) → map.len (contents_of slots) ≤ length slots
few [] = omega (arith, len-empty (slice_cmp nat_cmp) (List ℕ))
few (s ∷ slots) = by s.used (few slots)
  where
    rest : Contents
    rest = contents_of slots

    one : (b : Bool) (n : ℕ) → n ≤ length slots → cond b n (n + 1) ≤ suc (length slots)
    one true n l = omega (arith, l)
    one false n l = omega (arith, l)

    by : (u : Bool) → map.len rest ≤ length slots → map.len (if u then map.insert rest s.key s.value else rest) ≤ suc (length slots)
    by true l = subst (λ n. n ≤ suc (length slots)) (sym (len-insert nat_list_cmp_total rest s.key s.value)) (one (map.contains_key rest s.key) (map.len rest) l)
    by false l = omega (arith, l)

hash_refilled : (d : MapDecl) → d.kind ≡ Hash → (slots : List Slot) → length slots ≤ d.cap → refilled d slots map.empty ≡ contents_of slots
hash_refilled d kind [] l = refl
hash_refilled d kind (s ∷ slots) l = ap (with_pair d s) (hash_refilled d kind slots (omega (arith, l))) ∙ by s.used
  where
    rest : Contents
    rest = contents_of slots

    taken : update_error_as d.kind d rest s.key 0 ≡ None
    taken = ap (λ (k : MapKind). update_error_as k d rest s.key 0) kind ∙ hash_takes d.cap (map.len rest) (map.contains_key rest s.key) (let n = few slots in omega (arith, l, n))

    by : (u : Bool) → (if u then updated d rest s.key s.value 0 else rest) ≡ (if u then map.insert rest s.key s.value else rest)
    by true = ap (λ e. unless e rest (map.insert rest s.key s.value)) taken
    by false = refl

-- ---- an array: each index is written over what was there

array_takes : (cap index : ℕ) → index < cap → array_refusal cap index 0 ≡ None
array_takes cap index l = ap (λ (b : Bool). if b then Some E2BIG else None) (above cap index l)

-- the keys of used slots are indexes
abbrev AreInside : MapDecl → List Slot → Type 0
AreInside d slots = (n : ℕ) → n < length slots → (slot_at slots n).used ≡ true → index_of (slot_at slots n).key < d.cap

array_refilled : (d : MapDecl) → d.kind ≡ Array → (c : Contents) (q : List ℕ) (slots : List Slot) → AreInside d slots → map.get (refilled d slots c) q ≡ option_or (map.get (contents_of slots) q) (map.get c q)
array_refilled d kind c q [] inside = ap (λ (o : Option (List ℕ)). option_or o (map.get c q)) (sym (get-empty (slice_cmp nat_cmp) q))
array_refilled d kind c q (s ∷ slots) inside = by s.used refl (array_refilled d kind c q slots (λ n l u. inside (suc n) (omega (arith, l)) u))
  where
    rest : Contents
    rest = contents_of slots

    filled : Contents
    filled = refilled d slots c

    same : Bool
    same = eq_by_cmp (slice_cmp nat_cmp) q s.key

    taken : s.used ≡ true → update_error_as d.kind d filled s.key 0 ≡ None
    taken u = ap (λ (k : MapKind). update_error_as k d filled s.key 0) kind ∙ array_takes d.cap (index_of s.key) (inside 0 (omega arith) u)

    two : (b : Bool) (o p : Option (List ℕ)) → cond b (Some s.value) (option_or o p) ≡ option_or (cond b (Some s.value) o) p
    two true o p = refl
    two false o p = refl

    by : (u : Bool) → s.used ≡ u → map.get filled q ≡ option_or (map.get rest q) (map.get c q) →
        map.get (if u then updated d filled s.key s.value 0 else filled) q ≡ option_or (map.get (if u then map.insert rest s.key s.value else rest) q) (map.get c q)
    by true u more =
        ap (λ e. map.get (unless e filled (map.insert filled s.key s.value)) q) (taken u)
        ∙ get-insert nat_list_cmp_total filled s.key s.value q
        ∙ ap (λ (o : Option (List ℕ)). cond same (Some s.value) o) more
        ∙ two same (map.get rest q) (map.get c q)
        ∙ ap (λ (o : Option (List ℕ)). option_or o (map.get c q)) (sym (get-insert nat_list_cmp_total rest s.key s.value q))
    by false u more = more

found : (slots : List Slot) (key : List ℕ) (n : ℕ) → n < length slots → has_key key (slot_at slots n) ≡ true → IsTrue (map.contains_key (contents_of slots) key)
found [] key n l e = absurd (omega (arith, l))
found (s ∷ slots) key zero l e =
    ap (λ (u : Bool). is_some (map.get (if u then map.insert rest s.key s.value else rest) key)) parts.0
    ∙ ap is_some (get-insert nat_list_cmp_total rest s.key s.value key ∙ ap (λ (b : Bool). cond b (Some s.value) (map.get rest key)) same)
  where
    rest : Contents
    rest = contents_of slots

    parts : (s.used ≡ true) × (bytes_eq s.key key ≡ true)
    parts = and_parts s.used (bytes_eq s.key key) e

    same : eq_by_cmp (slice_cmp nat_cmp) key s.key ≡ true
    same = is_eq-slice_cmp key s.key ∙ (bytes_eq-Decides key s.key).1 (sym ((bytes_eq-Decides s.key key).0 parts.1))
found (s ∷ slots) key (suc n) l e = by s.used (found slots key n (omega (arith, l)) e)
  where
    rest : Contents
    rest = contents_of slots

    two : (b : Bool) → IsTrue (map.contains_key rest key) → IsTrue (is_some (cond b (Some s.value) (map.get rest key)))
    two true h = refl
    two false h = h

    by : (u : Bool) → IsTrue (map.contains_key rest key) → IsTrue (map.contains_key (if u then map.insert rest s.key s.value else rest) key)
    by true h = ap is_some (get-insert nat_list_cmp_total rest s.key s.value key) ∙ two (eq_by_cmp (slice_cmp nat_cmp) key s.key) h
    by false h = h

array_stands : IndexLaws → (d : MapDecl) → d.kind ≡ Array → IsWithinLimits d → (c : Contents) → IsOver d c → (slots : List Slot) → IsTable d slots → refilled d slots c ≡ contents_of slots
array_stands laws d kind limits c over slots table =
    same_map nat_list_cmp_total (slice_cmp-IsAntisymmetric nat_cmp-IsAntisymmetric) (refilled d slots c) (contents_of slots) (λ q. array_refilled d kind c q slots inside ∙ at q (map.get (contents_of slots) q) refl)
  where
    sized : (d.key ≡ 4) × (d.cap ≤ 65536)
    sized = subst (λ k. limits_as k d) kind limits.by_kind

    filled : IsFilledTable Array slots
    filled = subst (λ k. IsFilledTable k slots) kind table.filled

    inside : AreInside d slots
    inside n l u =
        let m : n < d.cap = omega (arith, l, table.count) in
        let e : (slot_at slots n).key ≡ index_key n = (bytes_eq-Decides (slot_at slots n).key (index_key n)).0 (and_parts (slot_at slots n).used (bytes_eq (slot_at slots n).key (index_key n)) (filled n l)).1 in
        subst (λ i. i < d.cap) (sym (ap index_of e ∙ laws.index_back n (omega (arith, m, sized.1)))) m

    -- a key that was there is an index, so its slot has it
    there : (q v : List ℕ) → map.get c q ≡ Some v → IsTrue (map.contains_key (contents_of slots) q)
    there q v e =
        let takes = over.keys q (ap is_some e) in
        let low : index_of q < d.cap = subst (λ k. TakesKey_as k d q) kind takes.1 in
        let back : index_key (index_of q) ≡ q = laws.key_back q (subst (λ n. IsBytes n q) sized.0 takes.0) in
        let l : index_of q < length slots = omega (arith, low, table.count) in
        found slots q (index_of q) l (subst (λ (k : List ℕ). has_key k (slot_at slots (index_of q)) ≡ true) back (filled (index_of q) l))

    none : (q : List ℕ) → map.get (contents_of slots) q ≡ None → (p : Option (List ℕ)) → map.get c q ≡ p → p ≡ None
    none q e None f = refl
    none q e (Some v) f = absurd (no (sym (ap is_some e) ∙ there q v f))
      where
        no : false ≡ true → ⊥
        no h = cc

    at : (q : List ℕ) (o : Option (List ℕ)) → map.get (contents_of slots) q ≡ o → option_or o (map.get c q) ≡ o
    at q (Some v) e = refl
    at q None e = none q e (map.get c q) refl

pub stands : IndexLaws → ((d : MapDecl) (c : Contents) → KeepsOver d c) → (d : MapDecl) → IsWithinLimits d → (slots : List Slot) → IsTable d slots → refilled d slots (opened d) ≡ contents_of slots
unfolding opened
stands laws keeps d limits slots table = by d.kind refl
  where
    by : (k : MapKind) → d.kind ≡ k → refilled d slots (opened d) ≡ contents_of slots
    by Hash kind = ap (refilled d slots) (ap (λ (k : MapKind). opened_as k d) kind) ∙ hash_refilled d kind slots (omega (arith, table.count))
    by Array kind = array_stands laws d kind limits (opened d) ((keeps d (opened d)).opens limits) slots table
