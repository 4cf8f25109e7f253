-- The maps in memory, one of them changed.
use Rattle.std.proofs.Common.{◌≡◌, ◌≢◌, ℕ, suc, ◌+◌, ◌<◌, List, [], ◌∷◌, ◌++◌, length, get_or, set, take, map, ◌⊎◌, inl, inr, refl, sym, ap, subst, ◌∙◌, arith, length-set, length-append, get_or-set_same, get_or-set_other}
use Rattle.std.proofs.Math.ListN.{get_or-map, get_or-append}
use Rattle.std.proofs.Math.Seq.{get_or-append_seam}
use Rattle.std.proofs.lemmas.List.{map-set, get_or_default, take_more, take_more_set}
use Rattle.std.proofs.lemmas.Bool.{cases_lt}
use Rattle.std.specs.FinMap as finite
use Rattle.xdp_maps.specs.declared.decl.MapDecl.{MapDecl}
use Rattle.xdp_maps.specs.declared.table.Table.{Table}
use Rattle.xdp_maps.specs.Contents.{Contents, IsOver}
use Rattle.xdp_maps.specs.State.{MapState, IsSound, no_decl, decl_at, contents_at, with_contents}
use Rattle.xdp_maps.specs.Tables.{IsTable, AreTables, contents_of}

-- what is seen of declarations and tables
abbrev pub seen : List MapDecl → List Table → MapState
seen ds ts = record { decls = ds; contents = map contents_of ts }

count : (ts : List Table) → length (map contents_of ts) ≡ length ts
count [] = refl
count (t ∷ ts) = ap (λ n. suc n) (count ts)

-- a table that was read is one of its declaration
pub table_at : (ds : List MapDecl) (ts : List Table) (m : ℕ) (d : MapDecl) (t : Table) → AreTables ds ts → m < length ds → d ≡ get_or ds m d → t ≡ get_or ts m t → IsTable d t
table_at ds ts m d t are lt d_is t_is = subst (λ x. IsTable x t) (sym d_is) (subst (IsTable (get_or ds m d)) (sym t_is) (are.each m d t lt))

pub equal_or_not : (j m : ℕ) → (j ≡ m) ⊎ (j ≢ m)
equal_or_not j m = elim (cases_lt j m) [
  | inl lt ↦ inr (λ same. omega arith)
  | inr le ↦ elim (cases_lt m j) [ inl lt ↦ inr (λ same. omega arith) | inr le' ↦ inl (omega arith) ]
]

-- one table is written over by another of its declaration
pub tables_set : (ds : List MapDecl) (ts : List Table) (m : ℕ) (d : MapDecl) (t : Table) → AreTables ds ts → m < length ds → d ≡ get_or ds m d → IsTable d t → AreTables ds (set ts m t)
tables_set ds ts m d t are lt d_is new = record {
  beside = length-set ts m t ∙ are.beside;
  each = λ j e u within. elim (equal_or_not j m) [
    | inl same ↦
        let at_m : IsTable (get_or ds m e) t = subst (λ x. IsTable x t) (d_is ∙ get_or_default ds m d e lt) new in
        let in_range : m < length ts = omega (arith, are.beside) in
        subst (λ i. IsTable (get_or ds i e) (get_or (set ts m t) i u)) (sym same) (subst (IsTable (get_or ds m e)) (sym (get_or-set_same ts m t u in_range)) at_m)
    | inr differ ↦ subst (IsTable (get_or ds j e)) (sym (get_or-set_other ts m j t u differ)) (are.each j e u within)
  ];
}

-- and the others are seen as before
pub seen_set : (ds : List MapDecl) (ts : List Table) (s : MapState) (m : ℕ) (d : MapDecl) (t new : Table) (f : MapDecl → Contents → Contents) → seen ds ts ≡ s → AreTables ds ts → m < length ds → d ≡ get_or ds m d → t ≡ get_or ts m t → contents_of new ≡ f d (contents_of t) → seen ds (set ts m new) ≡ with_contents s m (f (decl_at s m) (contents_at s m))
seen_set ds ts s m d t new f view are lt d_is t_is is =
    let in_range : m < length ts = omega (arith, are.beside) in
    let decl : decl_at (seen ds ts) m ≡ d = sym (d_is ∙ get_or_default ds m d no_decl lt) in
    let few : m < length (map contents_of ts) = omega (arith, in_range, count ts) in
    let contents : contents_at (seen ds ts) m ≡ contents_of t = get_or_default (map contents_of ts) m finite.empty (contents_of t) few ∙ get_or-map contents_of ts m t ∙ ap contents_of (sym t_is) in
    let written : seen ds (set ts m new) ≡ with_contents (seen ds ts) m (contents_of new) = ap (λ cs. record { decls = ds; contents = cs }) (map-set contents_of ts m new) in
    let value : contents_of new ≡ f (decl_at (seen ds ts) m) (contents_at (seen ds ts) m) = is ∙ ap (λ x. f x (contents_of t)) (sym decl) ∙ ap (f (decl_at (seen ds ts) m)) (sym contents) in
    written ∙ ap (with_contents (seen ds ts) m) value ∙ ap (λ x. with_contents x m (f (decl_at x m) (contents_at x m))) view

-- each map holds what its declaration allows
pub sound_seen : (ds : List MapDecl) (ts : List Table) (s : MapState) → seen ds ts ≡ s → AreTables ds ts → IsSound s
sound_seen ds ts s view are = subst IsSound view (record {
  beside = count ts ∙ are.beside;
  limits = λ m lt. (are.each m no_decl (some_table ds ts m are lt) lt).limits;
  over = λ m lt.
      let t = some_table ds ts m are lt in
      let few : m < length (map contents_of ts) = omega (arith, are.beside, count ts) in
      let contents : contents_at (seen ds ts) m ≡ contents_of (get_or ts m t) = get_or_default (map contents_of ts) m finite.empty (contents_of t) few ∙ get_or-map contents_of ts m t in
      subst (IsOver (get_or ds m no_decl)) (sym contents) (are.each m no_decl t lt).over;
})
  where
    first : (ts : List Table) (m : ℕ) → m < length ts → Table
    first [] m lt = absurd (omega arith)
    first (t ∷ ts) m lt = t

    some_table : (ds : List MapDecl) (ts : List Table) (m : ℕ) → AreTables ds ts → m < length ds → Table
    some_table ds ts m are lt = first ts m (omega (arith, are.beside))

-- one more declaration with its table
pub tables_push : (ds : List MapDecl) (ts : List Table) (d : MapDecl) (t : Table) → AreTables ds ts → IsTable d t → AreTables (ds ++ d ∷ []) (ts ++ t ∷ [])
tables_push ds ts d t are new = record {
  beside = omega (arith, are.beside, length-append ds (d ∷ []), length-append ts (t ∷ []));
  each = λ m e u within. elim (cases_lt m (length ds)) [
    | inl lt ↦
        let d_is = get_or-append ds (d ∷ []) e m lt in
        let t_is = get_or-append ts (t ∷ []) u m (omega (arith, are.beside)) in
        subst (λ x. IsTable x (get_or (ts ++ t ∷ []) m u)) (sym d_is) (subst (IsTable (get_or ds m e)) (sym t_is) (are.each m e u lt))
    | inr le ↦
        let last : m ≡ length ds = omega (arith, length-append ds (d ∷ [])) in
        let last_table : m ≡ length ts = omega (arith, are.beside) in
        let d_is : get_or (ds ++ d ∷ []) m e ≡ d = subst (λ i. get_or (ds ++ d ∷ []) i e ≡ d) (sym last) (get_or-append_seam ds d [] e) in
        let t_is : get_or (ts ++ t ∷ []) m u ≡ t = subst (λ i. get_or (ts ++ t ∷ []) i u ≡ t) (sym last_table) (get_or-append_seam ts t [] u) in
        subst (λ x. IsTable x (get_or (ts ++ t ∷ []) m u)) (sym d_is) (subst (IsTable d) (sym t_is) new)
  ];
}

-- one more table is made equal
pub copied_more : (ts us : List Table) (i : ℕ) (new u : Table) → i < length ts → i < length us → take i (map contents_of ts) ≡ take i (map contents_of us) → u ≡ get_or us i u → contents_of new ≡ contents_of u → take (i + 1) (map contents_of (set ts i new)) ≡ take (i + 1) (map contents_of us)
copied_more ts us i new u lt within done is same =
    let few : i < length (map contents_of ts) = omega (arith, count ts) in
    let few_us : i < length (map contents_of us) = omega (arith, count us) in
    let last : get_or (map contents_of us) i (contents_of u) ≡ contents_of new = get_or-map contents_of us i u ∙ ap contents_of (sym is) ∙ sym same in
    ap (take (i + 1)) (map-set contents_of ts i new)
    ∙ take_more_set (map contents_of ts) i (contents_of new) few
    ∙ ap (λ (xs : List Contents). xs ++ contents_of new ∷ []) done
    ∙ ap (λ (x : Contents). take i (map contents_of us) ++ x ∷ []) (sym last)
    ∙ sym (take_more (map contents_of us) i (contents_of u) few_us)
