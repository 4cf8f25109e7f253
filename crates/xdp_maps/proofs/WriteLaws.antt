-- What an operation does not write stays.
use Rattle.std.proofs.Common.{◌≡◌, ◌≢◌, ℕ, ◌+◌, Bool, true, false, cond, List, [], ◌∷◌, length, set, Some, None, is_some, ◌⊎◌, inl, inr, refl, sym, ap, subst, ◌∙◌, arith, get_or-set_same, get_or-set_other, length-set}
use Rattle.std.specs.Prelude.{Contains}
use Rattle.std.proofs.lemmas.Bool.{cases_lt}
use Rattle.std.proofs.lemmas.List.{get_or_past}
use Rattle.std.specs.Ordering.{nat_cmp}
use Rattle.std.specs.Cmp.Lexicographic.{slice_cmp}
use Rattle.std.specs.FinMap as map
use Rattle.std.specs.FinMap.{len-insert}
use Rattle.xdp_maps.specs.declared.decl.MapDecl.{MapDecl}
use Rattle.xdp_maps.specs.Contents.{Contents}
use Rattle.xdp_maps.specs.State.{MapState, decl_at, contents_at, with_contents}
use Rattle.xdp_maps.specs.Calls.{lookup_of, update_error, delete_error, number_of, unless, with_value, patched, with_change}
use Rattle.xdp_maps.specs.Operations.{Operation, Lookup, Load, Update, Delete, Store, Atomic, left_by}
use Rattle.xdp_maps.specs.Touched.{Resource, Present, Content, Size, where_done, update_writes, writes}
use Rattle.xdp_maps.specs.Laws.{KeepsUnwritten}
use Rattle.xdp_maps.proofs.Hashes.{order_total, order_exact}
use Rattle.xdp_maps.proofs.Keys.{key_cases}
use Rattle.xdp_maps.proofs.Over.{same_insert, other_insert, other_remove}
use Rattle.xdp_maps.proofs.StateLemmas.{equal_or_not}
use Rattle.xdp_maps.proofs.ResourceLaws.{first, second, third}

cases : (k key : List ℕ) → (k ≡ key) ⊎ (k ≢ key)
cases = key_cases (slice_cmp nat_cmp) order_total order_exact

-- what of one map is not among these resources stays
record Keeps (q : ℕ) (ws : List Resource) (old new : Contents) : Type 0 where
  present : (k : List ℕ) → ¬ Contains ws (Present q k) → is_some (lookup_of new k) ≡ is_some (lookup_of old k)
  content : (k : List ℕ) → ¬ Contains ws (Content q k) → lookup_of new k ≡ lookup_of old k
  size : ¬ Contains ws (Size q) → map.len new ≡ map.len old

same : (q : ℕ) (ws : List Resource) (c : Contents) → Keeps q ws c c
same q ws c = record { present = λ k no. refl; content = λ k no. refl; size = λ no. refl }

-- only the value under one key is other
at_key : (q : ℕ) (ws : List Resource) (old new : Contents) (key : List ℕ) → Contains ws (Content q key)
    → ((k : List ℕ) → k ≢ key → lookup_of new k ≡ lookup_of old k)
    → (¬ Contains ws (Present q key) → is_some (lookup_of new key) ≡ is_some (lookup_of old key))
    → (¬ Contains ws (Size q) → map.len new ≡ map.len old) → Keeps q ws old new
at_key q ws old new key written others present size = record {
  present = λ k no. elim (cases k key) [
    | inl is ↦ subst (λ (x : List ℕ). is_some (lookup_of new x) ≡ is_some (lookup_of old x)) (sym is) (present (λ has. no (subst (λ (x : List ℕ). Contains ws (Present q x)) (sym is) has)))
    | inr differ ↦ ap is_some (others k differ)
  ];
  content = λ k no. elim (cases k key) [
    | inl is ↦ absurd (no (subst (λ (x : List ℕ). Contains ws (Content q x)) (sym is) written))
    | inr differ ↦ others k differ
  ];
  size = size;
}

insert_keeps : (q : ℕ) (c : Contents) (key v : List ℕ) (b : Bool) → is_some (lookup_of c key) ≡ b → Keeps q (update_writes q key b) c (map.insert c key v)
insert_keeps q c key v true there =
    at_key q (Content q key ∷ []) c (map.insert c key v) key (first (Content q key) []) (other_insert c key v)
    (λ _. ap is_some (same_insert c key v) ∙ sym there)
    (λ _. len-insert order_total c key v ∙ ap (λ x. cond x (map.len c) (map.len c + 1)) there)
insert_keeps q c key v false absent =
    at_key q (Content q key ∷ Present q key ∷ Size q ∷ []) c (map.insert c key v) key (first (Content q key) (Present q key ∷ Size q ∷ [])) (other_insert c key v)
    (λ no. absurd (no (second (Content q key) (Present q key) (Size q ∷ [])))) (λ no. absurd (no (third (Content q key) (Present q key) (Size q))))

updated_keeps : (q : ℕ) (d : MapDecl) (c : Contents) (key value : List ℕ) (flags : ℕ)
    → Keeps q (where_done (number_of (update_error d c key flags)) (update_writes q key (is_some (lookup_of c key)))) c (unless (update_error d c key flags) c (map.insert c key value))
updated_keeps q d c key value flags =
    elim (update_error d c key flags) as (λ e. Keeps q (where_done (number_of e) (update_writes q key (is_some (lookup_of c key)))) c (unless e c (map.insert c key value))) [
      | None ↦ insert_keeps q c key value (is_some (lookup_of c key)) refl
      | Some e ↦ same q (where_done (number_of (Some e)) (update_writes q key (is_some (lookup_of c key)))) c
    ]

deleted_keeps : (q : ℕ) (d : MapDecl) (c : Contents) (key : List ℕ)
    → Keeps q (where_done (number_of (delete_error d c key)) (Content q key ∷ Present q key ∷ Size q ∷ [])) c (unless (delete_error d c key) c (map.remove c key))
deleted_keeps q d c key =
    elim (delete_error d c key) as (λ e. Keeps q (where_done (number_of e) (Content q key ∷ Present q key ∷ Size q ∷ [])) c (unless e c (map.remove c key))) [
      | None ↦
          at_key q (Content q key ∷ Present q key ∷ Size q ∷ []) c (map.remove c key) key (first (Content q key) (Present q key ∷ Size q ∷ [])) (other_remove c key)
          (λ no. absurd (no (second (Content q key) (Present q key) (Size q ∷ [])))) (λ no. absurd (no (third (Content q key) (Present q key) (Size q))))
      | Some e ↦ same q (where_done (number_of (Some e)) (Content q key ∷ Present q key ∷ Size q ∷ [])) c
    ]

with_value_keeps : (q : ℕ) (c : Contents) (key : List ℕ) (f : List ℕ → List ℕ) → Keeps q (Content q key ∷ []) c (with_value c key f (map.get c key))
with_value_keeps q c key f =
    elim (map.get c key) as (λ o. map.get c key ≡ o → Keeps q (Content q key ∷ []) c (with_value c key f o)) [
      | None ↦ λ _. same q (Content q key ∷ []) c
      | Some v ↦ λ is. insert_keeps q c key (f v) true (ap is_some is)
    ] refl

left_keeps : (s : MapState) (q : ℕ) (op : Operation) → Keeps q (writes s q op) (contents_at s q) (left_by (decl_at s q) (contents_at s q) op)
left_keeps s q (Lookup key) = same q [] (contents_at s q)
left_keeps s q (Load key) = same q [] (contents_at s q)
left_keeps s q (Update key value flags) = updated_keeps q (decl_at s q) (contents_at s q) key value flags
left_keeps s q (Delete key) = deleted_keeps q (decl_at s q) (contents_at s q) key
left_keeps s q (Store key at bytes) = with_value_keeps q (contents_at s q) key (λ v. patched v at bytes)
left_keeps s q (Atomic key at x fetch) = with_value_keeps q (contents_at s q) key (with_change x at)

-- the contents of a map that were set, if there is such a map
set_or_not : (s : MapState) (q : ℕ) (c : Contents) → (contents_at (with_contents s q c) q ≡ c) ⊎ (contents_at (with_contents s q c) q ≡ contents_at s q)
set_or_not s q c = elim (cases_lt q (length s.contents)) [
  | inl lt ↦ inl (get_or-set_same s.contents q c map.empty lt)
  | inr past ↦ inr (get_or_past (set s.contents q c) q map.empty (omega (arith, length-set s.contents q c)) ∙ sym (get_or_past s.contents q map.empty past))
]

-- the same of one map among all
among : (s : MapState) (q p : ℕ) (c : Contents) (P : Contents → Contents → Type 0) → ((x : Contents) → P x x) → (p ≡ q → P c (contents_at s q))
    → P (contents_at (with_contents s q c) p) (contents_at s p)
among s q p c P refl_P holds = elim (equal_or_not p q) [
  | inl is ↦
      let P_at : ℕ → Type 0 = λ i. P (contents_at (with_contents s q c) i) (contents_at s i) in
      subst P_at (sym is) (elim (set_or_not s q c) [
        | inl new ↦ subst (λ (x : Contents). P x (contents_at s q)) (sym new) (holds is)
        | inr old ↦ subst (λ (x : Contents). P x (contents_at s q)) (sym old) (refl_P (contents_at s q))
      ])
  | inr differ ↦ subst (λ (x : Contents). P x (contents_at s p)) (sym (get_or-set_other s.contents q p c map.empty differ)) (refl_P (contents_at s p))
]

pub keeps_unwritten : (s : MapState) (q : ℕ) (op : Operation) → KeepsUnwritten s q op
keeps_unwritten s q op (Present p k) unwritten =
    among s q p (left_by (decl_at s q) (contents_at s q) op) (λ a b. is_some (lookup_of a k) ≡ is_some (lookup_of b k)) (λ x. refl)
    (λ is. (left_keeps s q op).present k (λ has. unwritten (subst (λ (i : ℕ). Contains (writes s q op) (Present i k)) (sym is) has)))
keeps_unwritten s q op (Content p k) unwritten =
    among s q p (left_by (decl_at s q) (contents_at s q) op) (λ a b. lookup_of a k ≡ lookup_of b k) (λ x. refl)
    (λ is. (left_keeps s q op).content k (λ has. unwritten (subst (λ (i : ℕ). Contains (writes s q op) (Content i k)) (sym is) has)))
keeps_unwritten s q op (Size p) unwritten =
    among s q p (left_by (decl_at s q) (contents_at s q) op) (λ a b. map.len a ≡ map.len b) (λ x. refl)
    (λ is. (left_keeps s q op).size (λ has. unwritten (subst (λ (i : ℕ). Contains (writes s q op) (Size i)) (sym is) has)))
