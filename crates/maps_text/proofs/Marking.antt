-- Whether a key is listed, seen in a hash by its keys and in an array by its marks.
use Rattle.std.proofs.Common.{◌≡◌, ◌≢◌, ℕ, ◌<◌, Bool, true, false, cond, List, ◌∷◌, length, get_or, set, Option, Some, is_some, ◌⊎◌, inl, inr, refl, sym, ap, subst, ◌∙◌, arith, get_or-set_same, get_or-set_other, length-set}
use Rattle.std.specs.Prelude.{◌==◌, ◌||◌}
use Rattle.std.specs.Ordering.{nat_cmp, is_eq}
use Rattle.std.specs.declared.cmp.Ordering.{Ordering}
use Rattle.std.specs.declared.cmp.Ordering.TheVariants.{Less, Equal, Greater}
use Rattle.std.specs.Cmp.Lexicographic.{slice_cmp}
use Rattle.std.proofs.lemmas.Cmp.{tied_itself, nat_list_cmp_total}
use Rattle.std.proofs.lemmas.Bool.{cases_eq, eq-eqb, ne_eqb}
use Rattle.std.specs.FinMap as map
use Rattle.std.specs.FinMap.{get-insert, IsAntisymmetric, nat_cmp-IsAntisymmetric, slice_cmp-IsAntisymmetric}
use Rattle.xdp_maps.specs.declared.decl.MapKind.TheVariants.{Hash, Array}
use Rattle.xdp_maps.specs.Contents.{Contents, IsBytes, index_of, index_key}
use Rattle.xdp_maps.specs.State.{decl_at, contents_at}
use Rattle.xdp_maps.specs.Laws.{IndexLaws}
use Rattle.maps_text.specs.Reading.{same, Listed, is_listed, with_pair, listed_with}
use Rattle.maps_text.specs.Steps.{Marks, place_of}

exact : IsAntisymmetric (slice_cmp nat_cmp)
exact = slice_cmp-IsAntisymmetric nat_cmp-IsAntisymmetric

-- ---- equal byte strings

pub same_itself : (k : List ℕ) → same k k ≡ true
same_itself k = ap is_eq (tied_itself nat_list_cmp_total k)

equal_from : (r : Ordering) → is_eq r ≡ true → r ≡ Equal
equal_from Less h = cc
equal_from Equal h = refl
equal_from Greater h = cc

pub same_equal : (a b : List ℕ) → same a b ≡ true → a ≡ b
same_equal a b h = exact a b (equal_from (slice_cmp nat_cmp a b) h)

pub differ_false : (a b : List ℕ) → a ≢ b → same a b ≡ false
differ_false a b differ = elim (same a b) as (λ t. same a b ≡ t → t ≡ false) [
  | true ↦ λ h. absurd (differ (same_equal a b h))
  | false ↦ λ _. refl
] refl

pub same_cases : (a b : List ℕ) → (a ≡ b) ⊎ (a ≢ b)
same_cases a b = elim (same a b) as (λ t. same a b ≡ t → (a ≡ b) ⊎ (a ≢ b)) [
  | true ↦ λ h. inl (same_equal a b h)
  | false ↦ λ h. inr (λ e. let t : same a b ≡ true = subst (λ x. same a x ≡ true) e (same_itself a) in let clash : true ≡ false = sym t ∙ h in cc)
] refl

-- ---- one key more

pub listed_here : (keys : List (ℕ × List ℕ)) (m : ℕ) (key q : List ℕ) → is_listed ((m, key) ∷ keys) m q ≡ (same q key || is_listed keys m q)
listed_here keys m key q = let e : (m == m) ≡ true = eq-eqb m m refl in rw e refl

pub listed_other : (keys : List (ℕ × List ℕ)) (m j : ℕ) (key q : List ℕ) → (j ≡ m → ⊥) → is_listed ((m, key) ∷ keys) j q ≡ is_listed keys j q
listed_other keys m j key q differ = let e : (j == m) ≡ false = ne_eqb j m differ in rw e refl

some_cond : (b : Bool) (v : List ℕ) (o : Option (List ℕ)) → is_some (cond b (Some v) o) ≡ (b || is_some o)
some_cond true v o = refl
some_cond false v o = refl

pub contains-insert : (c : Contents) (key v q : List ℕ) → map.contains_key (map.insert c key v) q ≡ (same q key || map.contains_key c q)
contains-insert c key v q = ap is_some (get-insert nat_list_cmp_total c key v q) ∙ some_cond (same q key) v (map.get c q)

module _ (marks : List Bool) (before : Listed) (m : ℕ) (key value : List ℕ) (known : Marks marks before) (lt : m < length before.maps.decls) (beside : length before.maps.contents ≡ length before.maps.decls) where
  at_m : contents_at (with_pair before.maps m key value) m ≡ map.insert (contents_at before.maps m) key value
  at_m = get_or-set_same before.maps.contents m _ map.empty (omega (arith, beside, lt))

  at_other : (j : ℕ) → (j ≡ m → ⊥) → contents_at (with_pair before.maps m key value) j ≡ contents_at before.maps j
  at_other j differ = get_or-set_other before.maps.contents m j _ map.empty differ

  hash_after : (j : ℕ) (q : List ℕ) → j < length before.maps.decls → (decl_at before.maps j).kind ≡ Hash → map.contains_key (contents_at (with_pair before.maps m key value) j) q ≡ is_listed ((m, key) ∷ before.keys) j q
  hash_after j q within hash = elim (cases_eq j m) [
    | inl is ↦
        let at_j : ℕ → Type 0 = λ i. map.contains_key (contents_at (with_pair before.maps m key value) i) q ≡ is_listed ((m, key) ∷ before.keys) i q in
        let hash_m : (decl_at before.maps m).kind ≡ Hash = subst (λ i. (decl_at before.maps i).kind ≡ Hash) is hash in
        subst at_j (sym is) (ap (λ (c : Contents). map.contains_key c q) at_m ∙ contains-insert (contents_at before.maps m) key value q ∙ ap (λ (b : Bool). same q key || b) (known.hash m q lt hash_m) ∙ sym (listed_here before.keys m key q))
    | inr differ ↦ ap (λ (c : Contents). map.contains_key c q) (at_other j differ) ∙ known.hash j q within hash ∙ sym (listed_other before.keys m j key q differ)
  ]

  pub marks_with_hash : (decl_at before.maps m).kind ≡ Hash → Marks marks (listed_with before m key value)
  marks_with_hash hash = record {
    enough = known.enough;
    hash = hash_after;
    array = λ j q within array four small. elim (cases_eq j m) [
      | inl is ↦ (let clash : Hash ≡ Array = sym hash ∙ subst (λ i. (decl_at before.maps i).kind ≡ Array) is array in cc)
      | inr differ ↦ known.array j q within array four small ∙ sym (listed_other before.keys m j key q differ)
    ];
  }

  module _ (laws : IndexLaws) (is_array : (decl_at before.maps m).kind ≡ Array) (four_m : IsBytes 4 key) (small_m : index_of key < 65536) where
    inside : place_of m key < length marks
    inside = omega (arith, known.enough, lt, small_m)

    index_differs : (q : List ℕ) → IsBytes 4 q → q ≢ key → index_of q ≡ index_of key → ⊥
    index_differs q four differ e = differ (sym (laws.key_back q four) ∙ ap index_key e ∙ laws.key_back key four_m)

    place_other : (j : ℕ) (q : List ℕ) → index_of q < 65536 → (j ≡ m → ⊥) → place_of j q ≡ place_of m key → ⊥
    place_other j q small differ e = differ (omega (arith, e, small, small_m))

    marked_here : (q : List ℕ) → IsBytes 4 q → index_of q < 65536 → get_or (set marks (place_of m key) true) (place_of m q) false ≡ (same q key || is_listed before.keys m q)
    marked_here q four small = elim (same_cases q key) [
      | inl is ↦
          let at_key : List ℕ → Type 0 = λ p. get_or (set marks (place_of m key) true) (place_of m p) false ≡ (same p key || is_listed before.keys m p) in
          let t : same key key ≡ true = same_itself key in
          subst at_key (sym is) (get_or-set_same marks (place_of m key) true false inside ∙ rw t refl)
      | inr differ ↦
          let f : same q key ≡ false = differ_false q key differ in
          get_or-set_other marks (place_of m key) (place_of m q) true false (λ e. index_differs q four differ (omega (arith, e)))
          ∙ known.array m q lt is_array four small ∙ rw f refl
    ]

    pub marks_with_array : Marks (set marks (place_of m key) true) (listed_with before m key value)
    marks_with_array = record {
      enough = length-set marks (place_of m key) true ∙ known.enough;
      hash = hash_after;
      array = λ j q within array four small. elim (cases_eq j m) [
        | inl is ↦
            let at_j : ℕ → Type 0 = λ i. get_or (set marks (place_of m key) true) (place_of i q) false ≡ is_listed ((m, key) ∷ before.keys) i q in
            subst at_j (sym is) (marked_here q four small ∙ sym (listed_here before.keys m key q))
        | inr differ ↦
            get_or-set_other marks (place_of m key) (place_of j q) true false (place_other j q small differ)
            ∙ known.array j q within array four small ∙ sym (listed_other before.keys m j key q differ)
      ];
    }
