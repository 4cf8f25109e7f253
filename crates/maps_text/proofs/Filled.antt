-- What the written pairs of a map make of its opened contents is what it holds.
use Rattle.std.proofs.Common.{◌≡◌, ◌≢◌, ℕ, zero, suc, ◌+◌, ◌<◌, ◌≤◌, Bool, true, false, cond, List, [], ◌∷◌, length, replicate, Option, Some, None, slice_get, IsTrue, IfSome, is_some, refl, sym, ap, subst, ◌∙◌, inl, inr, arith}
use Rattle.std.specs.Prelude.{◌==◌, if◌then◌else◌}
use Rattle.std.proofs.lemmas.Bool.{cases_eq, eqb-true, and_parts}
use Rattle.std.specs.List.{list_all}
use Rattle.std.specs.Option.{option_map, unwrap_or}
use Rattle.std.specs.Ordering.{nat_cmp, eq_by_cmp}
use Rattle.std.specs.Cmp.Lexicographic.{slice_cmp}
use Rattle.std.proofs.lemmas.Cmp.{nat_list_cmp_total}
use Rattle.std.proofs.lemmas.Option.{slice_get_within}
use Rattle.std.specs.FinMap as map
use Rattle.std.specs.FinMap.{find, get-insert, get-empty, get-from_entries, len-entries}
use Rattle.xdp_maps.specs.declared.decl.MapKind.{MapKind}
use Rattle.xdp_maps.specs.declared.decl.MapKind.TheVariants.{Hash, Array}
use Rattle.xdp_maps.specs.declared.decl.MapDecl.{MapDecl}
use Rattle.xdp_maps.specs.Contents.{Contents, IsBytes, IsOver, IsFilled_as, IsWithinLimits, TakesKey_as, limits_as, index_key, index_of, indexed, opened, opened_as}
use Rattle.xdp_maps.specs.Calls.{entry_as, entry_of}
use Rattle.xdp_maps.specs.Laws.{PairLaws, IndexLaws, SameByLookups}
use Rattle.maps_text.specs.Writing.{are_zeros, is_left_out}
use Rattle.maps_text.specs.Reading.{same}
use Rattle.maps_text.proofs.Marking.{same_itself, differ_false, same_cases}

-- with a pair that a line says
abbrev pub put_pair : MapDecl → Option (List ℕ × List ℕ) → Contents → Contents
put_pair d None x = x
put_pair d (Some p) x = if is_left_out d.kind p.1 then x else map.insert x p.0 p.1

-- with the pairs i, i + 1, .., of n of them
abbrev pub filled : MapDecl → Contents → ℕ → ℕ → Contents → Contents
filled d c i zero x = x
filled d c i (suc n) x = filled d c (suc i) n (put_pair d (entry_of d c i) x)

pub get_same : (x : Contents) (k v : List ℕ) → map.get (map.insert x k v) k ≡ Some v
get_same x k v = let t : same k k ≡ true = same_itself k in get-insert nat_list_cmp_total x k v k ∙ ap (λ b. cond b (Some v) (map.get x k)) t

pub get_other : (x : Contents) (k v q : List ℕ) → q ≢ k → map.get (map.insert x k v) q ≡ map.get x q
get_other x k v q differ = let f : same q k ≡ false = differ_false q k differ in get-insert nat_list_cmp_total x k v q ∙ ap (λ b. cond b (Some v) (map.get x q)) f

module _ (d : MapDecl) (c : Contents) (laws : PairLaws d c) where
  insert_stays : (x : Contents) (k v q : List ℕ) → map.get c k ≡ Some v → map.get x q ≡ map.get c q → map.get (map.insert x k v) q ≡ map.get c q
  insert_stays x k v q found is = elim (same_cases q k) [
    | inl at_k ↦ (let P : List ℕ → Type 0 = λ p. map.get (map.insert x k v) p ≡ map.get c p in subst P (sym at_k) (get_same x k v ∙ sym found))
    | inr differ ↦ get_other x k v q differ ∙ is
  ]

  put_stays : (o : Option (List ℕ × List ℕ)) (x : Contents) (q : List ℕ) → ((k v : List ℕ) → o ≡ Some (k, v) → map.get c k ≡ Some v) → map.get x q ≡ map.get c q → map.get (put_pair d o x) q ≡ map.get c q
  put_stays None x q found is = is
  put_stays (Some p) x q found is = elim (is_left_out d.kind p.1) as (λ b. map.get (if b then x else map.insert x p.0 p.1) q ≡ map.get c q) [
    | true ↦ is
    | false ↦ insert_stays x p.0 p.1 q (found p.0 p.1 refl) is
  ]

  stays : (n i : ℕ) (x : Contents) (q : List ℕ) → map.get x q ≡ map.get c q → map.get (filled d c i n x) q ≡ map.get c q
  stays zero i x q is = is
  stays (suc n) i x q is = stays n (suc i) (put_pair d (entry_of d c i) x) q (put_stays (entry_of d c i) x q (laws.found i) is)

  put_hit : (o : Option (List ℕ × List ℕ)) (x : Contents) (q v : List ℕ) → o ≡ Some (q, v) → is_left_out d.kind v ≡ false → map.get (put_pair d o x) q ≡ Some v
  put_hit o x q v is kept =
      ap (λ (p : Option (List ℕ × List ℕ)). map.get (put_pair d p x) q) is ∙ ap (λ (b : Bool). map.get (if b then x else map.insert x q v) q) kept ∙ get_same x q v

  hit : (n i j : ℕ) (x : Contents) (q v : List ℕ) → i ≤ j → j < i + n → entry_of d c j ≡ Some (q, v) → is_left_out d.kind v ≡ false → map.get (filled d c i n x) q ≡ map.get c q
  hit zero i j x q v low high is kept = absurd (omega arith)
  hit (suc n) i j x q v low high is kept = elim (cases_eq i j) [
    | inl here ↦
        let first : entry_of d c i ≡ Some (q, v) = ap (entry_of d c) here ∙ is in
        stays n (suc i) (put_pair d (entry_of d c i) x) q (put_hit (entry_of d c i) x q v first kept ∙ sym (laws.found i q v first))
    | inr later ↦ hit n (suc i) j (put_pair d (entry_of d c i) x) q v (omega (arith, low, later)) (omega (arith, high)) is kept
  ]

-- ---- zeros

zeros_are : (v : List ℕ) → are_zeros v ≡ true → v ≡ replicate (length v) 0
zeros_are [] h = refl
zeros_are (b ∷ v) h =
    let p = and_parts (b == 0) (list_all (λ x. x == 0) v) h in
    ap (λ n. n ∷ v) (eqb-true b 0 p.0) ∙ ap (λ (xs : List ℕ). 0 ∷ xs) (zeros_are v p.1)

same_some : (a b d : List ℕ) → ◌≡◌ {A = Option (List ℕ)} (Some a) (Some b) → a ≡ b
same_some a b d e = ap (λ (o : Option (List ℕ)). unwrap_or o d) e

find_first : (n j : ℕ) (x q w : List ℕ) → find (slice_cmp nat_cmp) q (indexed j (replicate n x)) ≡ Some w → x ≡ w
find_first zero j x q w h = cc
find_first (suc n) j x q w h =
    elim (eq_by_cmp (slice_cmp nat_cmp) q (index_key j)) as (λ b. cond b (Some x) (find (slice_cmp nat_cmp) q (indexed (j + 1) (replicate n x))) ≡ Some w → x ≡ w) [
      | true ↦ λ e. same_some x w x e
      | false ↦ λ e. find_first n (j + 1) x q w e
    ] h

array_first : (d : MapDecl) (q w : List ℕ) → d.kind ≡ Array → map.get (opened d) q ≡ Some w → replicate d.value 0 ≡ w
unfolding opened
array_first d q w array h =
    let values = replicate d.cap (replicate d.value 0) in
    find_first d.cap 0 (replicate d.value 0) q w (sym (get-from_entries nat_list_cmp_total (indexed 0 values) q) ∙ sym (ap (λ k. map.get (opened_as k d) q) array) ∙ h)

hash_first : (d : MapDecl) (q : List ℕ) → d.kind ≡ Hash → map.get (opened d) q ≡ None
unfolding opened
hash_first d q hash = ap (λ k. map.get (opened_as k d) q) hash ∙ get-empty (slice_cmp nat_cmp) q

-- a pair of a hash has a number below the capacity
pub hash_inside : (d : MapDecl) (c : Contents) (i : ℕ) (q v : List ℕ) → d.kind ≡ Hash → IsOver d c → entry_of d c i ≡ Some (q, v) → i < map.len c
hash_inside d c i q v hash over is =
    let at : slice_get (map.entries c) i ≡ Some (q, v) = subst (λ k. entry_as k c i ≡ Some (q, v)) hash is in
    let lt = slice_get_within (map.entries c) i (q, v) at in
    omega (arith, lt, len-entries c)

pub hash_room : (d : MapDecl) (c : Contents) → d.kind ≡ Hash → IsOver d c → map.len c ≤ d.cap
hash_room d c hash over = subst (λ k. IsFilled_as k d c) hash over.filled

module _ (d : MapDecl) (c : Contents) (pairs : PairLaws d c) (index : IndexLaws) (limits : IsWithinLimits d) (over : IsOver d c) (opens : IsOver d (opened d)) where
  four : d.kind ≡ Array → d.key ≡ 4
  four array = (subst (λ k. limits_as k d) array limits.by_kind).0

  -- a key of an array is the key of its index
  array_entry : (q v : List ℕ) → d.kind ≡ Array → map.get c q ≡ Some v → (index_of q < d.cap) × (entry_of d c (index_of q) ≡ Some (q, v))
  array_entry q v array is =
      let takes = over.keys q (ap is_some is) in
      let back : index_key (index_of q) ≡ q = index.key_back q (subst (λ n. IsBytes n q) (four array) takes.0) in
      let pair : List ℕ → Option (List ℕ × List ℕ) = λ k. option_map (λ w. (k, w)) (map.get c k) in
      let at : entry_as Array c (index_of q) ≡ Some (q, v) = ap pair back ∙ ap (option_map {U = List ℕ × List ℕ} (λ w. (q, w))) is in
      (subst (λ k. TakesKey_as k d q) array takes.1, subst (λ k. entry_as k c (index_of q) ≡ Some (q, v)) (sym array) at)

  opened_zeros : (q v : List ℕ) (o : Option (List ℕ)) → d.kind ≡ Array → map.get (opened d) q ≡ o → IsTrue (is_some o) → IsBytes d.value v → are_zeros v ≡ true → o ≡ Some v
  opened_zeros q v None array is there bytes none = cc
  opened_zeros q v (Some w) array is there bytes none =
      ap Some (sym (array_first d q w array is) ∙ ap (λ n. replicate n 0) (sym bytes.len) ∙ sym (zeros_are v none))

  found_array : (q v : List ℕ) → d.kind ≡ Array → map.get c q ≡ Some v → map.get (filled d c 0 d.cap (opened d)) q ≡ map.get c q
  found_array q v array is =
      let e = array_entry q v array is in
      elim (are_zeros v) as (λ b. are_zeros v ≡ b → map.get (filled d c 0 d.cap (opened d)) q ≡ map.get c q) [
        | true ↦ λ none.
            let takes = over.keys q (ap is_some is) in
            let there : IsTrue (map.contains_key (opened d) q) = (subst (λ k. IsFilled_as k d (opened d)) array opens.filled) q takes in
            let bytes : IsBytes d.value v = subst (λ o. IfSome o (IsBytes d.value)) is (over.values q) in
            stays d c pairs d.cap 0 (opened d) q (opened_zeros q v (map.get (opened d) q) array refl there bytes none ∙ sym is)
        | false ↦ λ some. hit d c pairs d.cap 0 (index_of q) (opened d) q v (omega arith) (omega (arith, e.0)) e.1 (ap (λ k. is_left_out k v) array ∙ some)
      ] refl

  found_hash : (q v : List ℕ) → d.kind ≡ Hash → map.get c q ≡ Some v → map.get (filled d c 0 d.cap (opened d)) q ≡ map.get c q
  found_hash q v hash is =
      let e = pairs.all limits over q v is in
      hit d c pairs d.cap 0 e.0 (opened d) q v (omega arith) (omega (arith, hash_inside d c e.0 q v hash over e.1, hash_room d c hash over)) e.1 (ap (λ k. is_left_out k v) hash)

  none_array : (q : List ℕ) (o : Option (List ℕ)) → d.kind ≡ Array → map.get c q ≡ None → map.get (opened d) q ≡ o → o ≡ None
  none_array q None array none is = refl
  none_array q (Some w) array none is =
      let there : IsTrue (map.contains_key c q) = (subst (λ k. IsFilled_as k d c) array over.filled) q (opens.keys q (ap is_some is)) in
      let clash : false ≡ true = sym (ap is_some none) ∙ there in
      cc

  none_there : (k : MapKind) (q : List ℕ) → d.kind ≡ k → map.get c q ≡ None → map.get (opened d) q ≡ None
  none_there Hash q hash none = hash_first d q hash
  none_there Array q array none = none_array q (map.get (opened d) q) array none refl

  some_there : (k : MapKind) (q v : List ℕ) → d.kind ≡ k → map.get c q ≡ Some v → map.get (filled d c 0 d.cap (opened d)) q ≡ map.get c q
  some_there Hash q v hash is = found_hash q v hash is
  some_there Array q v array is = found_array q v array is

  at_key : (q : List ℕ) (o : Option (List ℕ)) → map.get c q ≡ o → map.get (filled d c 0 d.cap (opened d)) q ≡ map.get c q
  at_key q None is = stays d c pairs d.cap 0 (opened d) q (none_there d.kind q refl is ∙ sym is)
  at_key q (Some v) is = some_there d.kind q v refl is

  pub filled_all : SameByLookups → filled d c 0 d.cap (opened d) ≡ c
  filled_all alike = alike (filled d c 0 d.cap (opened d)) c (λ q. at_key q (map.get c q) refl)
