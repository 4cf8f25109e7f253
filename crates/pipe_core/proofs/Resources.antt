-- What operations leave and answer on maps that show the same of what they read.
use Rattle.std.proofs.Common.{◌≡◌, ◌≢◌, ℕ, ℤ, ◌+◌, ◌-◌, ◌<◌, Bool, true, false, cond, List, length, Option, Some, None, is_some, get_or, refl, sym, ap, subst, ◌∙◌, not}
use Rattle.std.specs.Prelude.{pos, if◌then◌else◌, nat_lt, nat_le, ◌&&◌, ◌==◌}
use Rattle.std.specs.Int.{w64, cast_unsigned}
use Rattle.std.specs.Option.{option_map}
use Rattle.std.specs.Ordering.{nat_cmp, eq_by_cmp, is_eq}
use Rattle.std.specs.declared.cmp.Ordering.{Ordering}
use Rattle.std.specs.declared.cmp.Ordering.TheVariants.{Less, Equal, Greater}
use Rattle.std.specs.Cmp.Lexicographic.{slice_cmp, nat_list_cmp_total}
use Rattle.std.specs.FinMap as map
use Rattle.std.specs.FinMap.{get-insert, get-remove, len-insert, len-remove, slice_cmp-IsAntisymmetric, nat_cmp-IsAntisymmetric}
use Rattle.std.proofs.lemmas.Bool.Decides.{Decides-eqb}
use Rattle.std.proofs.lemmas.List.{get_or-set_same, get_or-set_other}
use Rattle.hazard_core.specs.xdp_maps.declared.decl.MapKind.{MapKind}
use Rattle.hazard_core.specs.xdp_maps.declared.decl.MapKind.TheVariants.{Hash, Array}
use Rattle.hazard_core.specs.xdp_maps.declared.decl.MapDecl.{MapDecl}
use Rattle.hazard_core.specs.xdp_maps.declared.errno.TheConstants.{ENOENT, E2BIG, EEXIST, EINVAL}
use Rattle.hazard_core.specs.xdp_maps.Contents.{Contents, index_of}
use Rattle.hazard_core.specs.xdp_maps.State.{MapState, decl_at, contents_at, with_contents, no_decl}
use Rattle.hazard_core.specs.xdp_maps.Calls.{lookup_of, number_of, unless, update_error_as, update_error, update_number, updated, delete_error_as, delete_error, delete_number, deleted, patched, with_value, with_change}
use Rattle.hazard_core.specs.xdp_maps.Operations.{Operation, Lookup, Load, Update, Delete, Store, Atomic, left_by, operated}
use Rattle.hazard_core.specs.xdp_maps.Touched.{Resource, Present, Content, Size, SameOf, where_done, update_writes}
use Rattle.hazard_core.specs.xdp_maps.Laws.{IsDecided}

-- ---- contents that show the same, and what is made of them

pub record Alike (c e x y : Contents) : Type 0 where
  pub content : (k : List ℕ) → lookup_of c k ≡ lookup_of e k → lookup_of x k ≡ lookup_of y k
  pub present : (k : List ℕ) → is_some (lookup_of c k) ≡ is_some (lookup_of e k) → is_some (lookup_of x k) ≡ is_some (lookup_of y k)
  pub size : map.len c ≡ map.len e → map.len x ≡ map.len y

stay_alike : (c e : Contents) → Alike c e c e
stay_alike c e = record { content = λ k h. h; present = λ k h. h; size = λ h. h }

some_of : (b : Bool) (v : List ℕ) (o : Option (List ℕ)) → is_some (cond b (Some v) o) ≡ cond b true (is_some o)
some_of true v o = refl
some_of false v o = refl

none_of : (b : Bool) (o : Option (List ℕ)) → is_some (cond b None o) ≡ cond b false (is_some o)
none_of true o = refl
none_of false o = refl

inserted_alike : (c e : Contents) (key v : List ℕ) → is_some (lookup_of c key) ≡ is_some (lookup_of e key) → Alike c e (map.insert c key v) (map.insert e key v)
inserted_alike c e key v there = record {
  content = λ k h. get-insert nat_list_cmp_total c key v k ∙ ap (cond (eq_by_cmp (slice_cmp nat_cmp) k key) (Some v)) h ∙ sym (get-insert nat_list_cmp_total e key v k);
  present = λ k h.
      let b = eq_by_cmp (slice_cmp nat_cmp) k key in
      ap is_some (get-insert nat_list_cmp_total c key v k) ∙ some_of b v (lookup_of c k) ∙ ap (cond b true) h ∙ sym (some_of b v (lookup_of e k)) ∙ sym (ap is_some (get-insert nat_list_cmp_total e key v k));
  size = λ h. len-insert nat_list_cmp_total c key v ∙ ap (λ b. cond b (map.len c) (map.len c + 1)) there ∙ ap (λ n. cond (is_some (lookup_of e key)) n (n + 1)) h ∙ sym (len-insert nat_list_cmp_total e key v);
}

removed_alike : (c e : Contents) (key : List ℕ) → is_some (lookup_of c key) ≡ is_some (lookup_of e key) → Alike c e (map.remove c key) (map.remove e key)
removed_alike c e key there = record {
  content = λ k h. get-remove nat_list_cmp_total c key k ∙ ap (cond (eq_by_cmp (slice_cmp nat_cmp) k key) None) h ∙ sym (get-remove nat_list_cmp_total e key k);
  present = λ k h.
      let b = eq_by_cmp (slice_cmp nat_cmp) k key in
      ap is_some (get-remove nat_list_cmp_total c key k) ∙ none_of b (lookup_of c k) ∙ ap (cond b false) h ∙ sym (none_of b (lookup_of e k)) ∙ sym (ap is_some (get-remove nat_list_cmp_total e key k));
  size = λ h. len-remove nat_list_cmp_total c key ∙ ap (λ b. cond b (map.len c - 1) (map.len c)) there ∙ ap (λ n. cond (is_some (lookup_of e key)) (n - 1) n) h ∙ sym (len-remove nat_list_cmp_total e key);
}

-- ---- an update, a delete

hash_none : (a b c d e : Bool) → (cast_unsigned w64 (number_of (if a then Some EINVAL else if b && c then Some EEXIST else if d && not c then Some ENOENT else if not c && e then Some E2BIG else None)) == 0) ≡ true →
    (if a then Some EINVAL else if b && c then Some EEXIST else if d && not c then Some ENOENT else if not c && e then Some E2BIG else None) ≡ None
hash_none true b c d e q = cc
hash_none false true true d e q = cc
hash_none false false true d e q = none d q
  where
    none : (d : Bool) → (cast_unsigned w64 (number_of (if d && false then Some ENOENT else None)) == 0) ≡ true → (if d && false then Some ENOENT else None) ≡ None
    none true q = refl
    none false q = refl
hash_none false true false true e q = cc
hash_none false false false true e q = cc
hash_none false true false false true q = cc
hash_none false false false false true q = cc
hash_none false true false false false q = refl
hash_none false false false false false q = refl

array_none : (a b c : Bool) → (cast_unsigned w64 (number_of (if a then Some EINVAL else if b then Some E2BIG else if c then Some EEXIST else None)) == 0) ≡ true → (if a then Some EINVAL else if b then Some E2BIG else if c then Some EEXIST else None) ≡ None
array_none true b c q = cc
array_none false true c q = cc
array_none false false true q = cc
array_none false false false q = refl

pub update_none : (d : MapDecl) (c : Contents) (key : List ℕ) (flags : ℕ) → (cast_unsigned w64 (update_number d c key flags) == 0) ≡ true → update_error d c key flags ≡ None
update_none d c key flags e = by d.kind e
  where
    by : (k : MapKind) → (cast_unsigned w64 (number_of (update_error_as k d c key flags)) == 0) ≡ true → update_error_as k d c key flags ≡ None
    by Hash q = hash_none (nat_lt 2 flags) (flags == 1) (map.contains_key c key) (flags == 2) (nat_le d.cap (map.len c)) q
    by Array q = array_none (nat_lt 2 flags) (nat_le d.cap (index_of key)) (flags == 1) q

pub delete_there : (d : MapDecl) (c : Contents) (key : List ℕ) → (cast_unsigned w64 (delete_number d c key) == 0) ≡ true → (delete_error d c key ≡ None) × (is_some (lookup_of c key) ≡ true)
delete_there d c key e = by d.kind e
  where
    hash : (b : Bool) → (cast_unsigned w64 (number_of (if b then None else Some ENOENT)) == 0) ≡ true → ((if b then None else Some ENOENT) ≡ None) × (b ≡ true)
    hash true q = (refl, refl)
    hash false q = cc

    by : (k : MapKind) → (cast_unsigned w64 (number_of (delete_error_as k c key)) == 0) ≡ true → (delete_error_as k c key ≡ None) × (is_some (lookup_of c key) ≡ true)
    by Hash q = hash (map.contains_key c key) q
    by Array q = cc

zeroed : {n : ℤ} → n ≡ pos 0 → (cast_unsigned w64 n == 0) ≡ true
zeroed e = ap (λ n. cast_unsigned w64 n == 0) e

no_some : {A : Type 0} (z : A) → Some z ≡ None → ⊥
no_some z e = cc

-- both are refused, or neither
refused_alike : (c e x y : Contents) (m n : Option ℤ) → number_of m ≡ number_of n → (number_of m ≡ pos 0 → m ≡ None) → (number_of n ≡ pos 0 → n ≡ None) → (m ≡ None → n ≡ None → Alike c e x y) → Alike c e (unless m c x) (unless n e y)
refused_alike c e x y None None same a b done = done refl refl
refused_alike c e x y None (Some z) same a b done = absurd (no_some z (b (sym same)))
refused_alike c e x y (Some z) None same a b done = absurd (no_some z (a same))
refused_alike c e x y (Some z) (Some w) same a b done = stay_alike c e

where_zero : (n : ℤ) (rs : List Resource) → n ≡ pos 0 → where_done n rs ≡ rs
where_zero n rs e = ap (λ m. where_done m rs) e

same_presence : (q : ℕ) (key : List ℕ) (a b : Bool) → update_writes q key a ≡ update_writes q key b → a ≡ b
same_presence q key true true e = refl
same_presence q key true false e = cc
same_presence q key false true e = cc
same_presence q key false false e = refl

updated_alike : (q : ℕ) (d : MapDecl) (c e : Contents) (key value : List ℕ) (flags : ℕ) → update_number d c key flags ≡ update_number d e key flags →
    where_done (update_number d e key flags) (update_writes q key (is_some (lookup_of e key))) ≡ where_done (update_number d c key flags) (update_writes q key (is_some (lookup_of c key))) →
    Alike c e (updated d c key value flags) (updated d e key value flags)
updated_alike q d c e key value flags same wrote =
    refused_alike c e (map.insert c key value) (map.insert e key value) (update_error d c key flags) (update_error d e key flags) same (λ z. update_none d c key flags (zeroed z)) (λ z. update_none d e key flags (zeroed z))
    (λ m n. inserted_alike c e key value (sym (same_presence q key (is_some (lookup_of e key)) (is_some (lookup_of c key))
    (sym (where_zero (update_number d e key flags) (update_writes q key (is_some (lookup_of e key))) (ap number_of n)) ∙ wrote ∙ where_zero (update_number d c key flags) (update_writes q key (is_some (lookup_of c key))) (ap number_of m)))))

deleted_alike : (d : MapDecl) (c e : Contents) (key : List ℕ) → delete_number d c key ≡ delete_number d e key → Alike c e (deleted d c key) (deleted d e key)
deleted_alike d c e key same =
    refused_alike c e (map.remove c key) (map.remove e key) (delete_error d c key) (delete_error d e key) same (λ z. (delete_there d c key (zeroed z)).0) (λ z. (delete_there d e key (zeroed z)).0)
    (λ m n. removed_alike c e key ((delete_there d c key (zeroed (ap number_of m))).1 ∙ sym (delete_there d e key (zeroed (ap number_of n))).1))

-- ---- a value made anew

tied : (q k : List ℕ) → eq_by_cmp (slice_cmp nat_cmp) q k ≡ true → q ≡ k
tied q k e = by (slice_cmp nat_cmp q k) refl e
  where
    by : (r : Ordering) → slice_cmp nat_cmp q k ≡ r → is_eq r ≡ true → q ≡ k
    by Less s e = cc
    by Equal s e = slice_cmp-IsAntisymmetric nat_cmp-IsAntisymmetric q k s
    by Greater s e = cc

module _ (key : List ℕ) (f : List ℕ → List ℕ) where
  value_at : (c : Contents) (k : List ℕ) → lookup_of (with_value c key f (lookup_of c key)) k ≡ cond (eq_by_cmp (slice_cmp nat_cmp) k key) (option_map f (lookup_of c key)) (lookup_of c k)
  value_at c k = by (lookup_of c key) refl
    where
      stays : (b : Bool) → eq_by_cmp (slice_cmp nat_cmp) k key ≡ b → lookup_of c key ≡ None → lookup_of c k ≡ cond b None (lookup_of c k)
      stays true t none = ap (lookup_of c) (tied k key t) ∙ none
      stays false t none = refl

      by : (o : Option (List ℕ)) → lookup_of c key ≡ o → lookup_of (with_value c key f o) k ≡ cond (eq_by_cmp (slice_cmp nat_cmp) k key) (option_map f o) (lookup_of c k)
      by None is = stays (eq_by_cmp (slice_cmp nat_cmp) k key) refl is
      by (Some v) is = get-insert nat_list_cmp_total c key (f v) k

  value_size : (c : Contents) → map.len (with_value c key f (lookup_of c key)) ≡ map.len c
  value_size c = by (lookup_of c key) refl
    where
      by : (o : Option (List ℕ)) → lookup_of c key ≡ o → map.len (with_value c key f o) ≡ map.len c
      by None is = refl
      by (Some v) is = len-insert nat_list_cmp_total c key (f v) ∙ ap (λ b. cond b (map.len c) (map.len c + 1)) (ap is_some is)

  value_present : (c : Contents) (k : List ℕ) → is_some (lookup_of (with_value c key f (lookup_of c key)) k) ≡ is_some (lookup_of c k)
  value_present c k = ap is_some (value_at c k) ∙ by (eq_by_cmp (slice_cmp nat_cmp) k key) refl
    where
      mapped : (o : Option (List ℕ)) → is_some (option_map f o) ≡ is_some o
      mapped None = refl
      mapped (Some v) = refl

      by : (b : Bool) → eq_by_cmp (slice_cmp nat_cmp) k key ≡ b → is_some (cond b (option_map f (lookup_of c key)) (lookup_of c k)) ≡ is_some (lookup_of c k)
      by true t = mapped (lookup_of c key) ∙ ap (λ x. is_some (lookup_of c x)) (sym (tied k key t))
      by false t = refl

  value_alike : (c e : Contents) → Alike c e (with_value c key f (lookup_of c key)) (with_value e key f (lookup_of e key))
  value_alike c e = record {
    content = λ k h. value_at c k ∙ by k h (eq_by_cmp (slice_cmp nat_cmp) k key) refl ∙ sym (value_at e k);
    present = λ k h. value_present c k ∙ h ∙ sym (value_present e k);
    size = λ h. value_size c ∙ h ∙ sym (value_size e);
  }
    where
      by : (k : List ℕ) → lookup_of c k ≡ lookup_of e k → (b : Bool) → eq_by_cmp (slice_cmp nat_cmp) k key ≡ b → cond b (option_map f (lookup_of c key)) (lookup_of c k) ≡ cond b (option_map f (lookup_of e key)) (lookup_of e k)
      by k h true t = let s = tied k key t in ap (λ x. option_map f (lookup_of c x)) (sym s) ∙ ap (option_map f) h ∙ ap (λ x. option_map f (lookup_of e x)) s
      by k h false t = h

-- ---- an operation on one of two states

module _ (s t : MapState) (same : t.decls ≡ s.decls) (q : ℕ) where
  decl_same : decl_at t q ≡ decl_at s q
  decl_same = ap (λ ds. get_or ds q no_decl) same

  left_alike : (op : Operation) → IsDecided s t q op → Alike (contents_at s q) (contents_at t q) (left_by (decl_at s q) (contents_at s q) op) (left_by (decl_at s q) (contents_at t q) op)
  left_alike (Lookup key) h = stay_alike (contents_at s q) (contents_at t q)
  left_alike (Load key) h = stay_alike (contents_at s q) (contents_at t q)
  left_alike (Update key value flags) h =
      let c = contents_at s q in
      let e = contents_at t q in
      updated_alike q (decl_at s q) c e key value flags (h.answer ∙ ap (λ d. update_number d e key flags) decl_same)
      (ap (λ d. where_done (update_number d e key flags) (update_writes q key (is_some (lookup_of e key)))) (sym decl_same) ∙ h.writes)
  left_alike (Delete key) h = deleted_alike (decl_at s q) (contents_at s q) (contents_at t q) key (h.answer ∙ ap (λ d. delete_number d (contents_at t q) key) decl_same)
  left_alike (Store key at bytes) h = value_alike key (λ v. patched v at bytes) (contents_at s q) (contents_at t q)
  left_alike (Atomic key at x fetch) h = value_alike key (with_change x at) (contents_at s q) (contents_at t q)

  module _ (inside : q < length s.contents) (inside' : q < length t.contents) where
    among : (p : ℕ) (x y : Contents) (P : Contents → Contents → Type 0) → P (contents_at s p) (contents_at t p) → (P (contents_at s q) (contents_at t q) → P x y) →
        P (contents_at (with_contents s q x) p) (contents_at (with_contents t q y) p)
    among p x y P old new = by (p == q) refl
      where
        by : (b : Bool) → (p == q) ≡ b → P (contents_at (with_contents s q x) p) (contents_at (with_contents t q y) p)
        by true e =
            let is : p ≡ q = (Decides-eqb p q).0 e in
            subst (λ n. P (contents_at (with_contents s q x) n) (contents_at (with_contents t q y) n)) (sym is)
            (subst (λ z. P z (contents_at (with_contents t q y) q)) (sym (get_or-set_same s.contents q x map.empty inside))
            (subst (λ z. P x z) (sym (get_or-set_same t.contents q y map.empty inside')) (new (subst (λ n. P (contents_at s n) (contents_at t n)) is old))))
        by false e =
            let other : p ≢ q = λ is. no (sym e ∙ (Decides-eqb p q).1 is) in
            subst (λ z. P z (contents_at (with_contents t q y) p)) (sym (get_or-set_other s.contents q p x map.empty other))
            (subst (λ z. P (contents_at s p) z) (sym (get_or-set_other t.contents q p y map.empty other)) old)
          where
            no : false ≡ true → ⊥
            no e = cc

    -- what both show the same of is so after an operation that they decide
    pub operated_same : (op : Operation) → IsDecided s t q op → (r : Resource) → SameOf s t r → SameOf (operated s q op) (operated t q op) r
    operated_same op h r is = subst (λ d. SameOf (operated s q op) (with_contents t q (left_by d (contents_at t q) op)) r) (sym decl_same) (by r is)
      where
        x : Contents
        x = left_by (decl_at s q) (contents_at s q) op

        y : Contents
        y = left_by (decl_at s q) (contents_at t q) op

        a : Alike (contents_at s q) (contents_at t q) x y
        a = left_alike op h

        by : (r : Resource) → SameOf s t r → SameOf (with_contents s q x) (with_contents t q y) r
        by (Present p k) is = among p x y (λ c e. is_some (lookup_of c k) ≡ is_some (lookup_of e k)) is (a.present k)
        by (Content p k) is = among p x y (λ c e. lookup_of c k ≡ lookup_of e k) is (a.content k)
        by (Size p) is = among p x y (λ c e. map.len c ≡ map.len e) is a.size
