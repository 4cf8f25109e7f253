-- Packets that hold the same of earlier rows.
use Rattle.std.proofs.Common.{◌≡◌, ℕ, ◌+◌, ◌<◌, ◌≤◌, ◌⊎◌, inl, inr, Bool, true, false, List, [], ◌∷◌, ◌++◌, get_or, length, take, drop, refl, sym, ap, ◌∙◌, arith, not, cond}
use Rattle.std.specs.Prelude.{◌==◌, ◌&&◌, if◌then◌else◌, nat_lt, slice_index, fold, map as map_list, count_by, filter}
use Rattle.std.specs.List.{AllByRecursion, list_all}
use Rattle.std.specs.Int.{w64, cast_unsigned}
use Rattle.std.specs.Str.{bytes_eq}
use Rattle.std.proofs.lemmas.Bool.Decides.{nat_tests}
use Rattle.list_laws.proofs.ListLaws.{all_below}
use Rattle.xdp_maps.specs.declared.decl.MapDecl.{MapDecl}
use Rattle.xdp_maps.specs.declared.decl.MapKind.{MapKind}
use Rattle.xdp_maps.specs.declared.decl.MapKind.TheVariants.{Hash, Array}
use Rattle.xdp_maps.specs.Calls.{number_at as changed_at}
use Rattle.xdp_maps.specs.Operations as map
use Rattle.xdp_maps.specs.Operations.{Operation, key_in}
use Rattle.cell_core.specs.xdp_machine.Memory.{number_at}
use Rattle.cell_core.specs.declared.site.Act.{Act}
use Rattle.cell_core.specs.declared.site.Act.TheVariants as act
use Rattle.cell_core.specs.Cells.{on, bit}
use Rattle.cell_core.specs.Sites.{SiteView, ProgramView, site_at, records, bytes_of, operation_as, operation_with}
use Rattle.cell_core.specs.Rows.{numbers, taken_by}
use Rattle.hazard_core.specs.Tables.{TableState, decl_of, table_at, used_count}
use Rattle.hazard_core.specs.StageValues.{Pointer, Null, same_pointer, is_null, is_update, is_delete, StageValues, stage_value, pointer_in, found_cell, answer_cell, read_cells, asked, asked_key, access_pointer, pointer_operand, writes_as, writes, adds_key, takes_key, update_pointer, slot_pointer, written_as, written_pointer, parts, is_pending, pending}
use Rattle.hazard_core.specs.Overlay.{found_as, found_over, key_pointer_as, key_pointer, looks, found_pointer, value_as, value_over, value_under, entry_value, update_answer, delete_answer, where_some, answer_as, answer_over}
use Rattle.hazard_core.specs.Keeping.{SameCell, AreAlike, looked_operands, LooksBelow, ReadsKeep}

and_parts : (a b : Bool) → a && b ≡ true → (a ≡ true) × (b ≡ true)
and_parts true true e = (refl, refl)
and_parts true false e = cc
and_parts false b e = cc

all_append : {A : Type 0} (test : A → Bool) (xs ys : List A) → list_all test (xs ++ ys) ≡ true → (list_all test xs ≡ true) × (list_all test ys ≡ true)
all_append test [] ys e = (refl, e)
all_append test (x ∷ xs) ys e =
    let q = and_parts (test x) (list_all test (xs ++ ys)) e in
    let r = all_append test xs ys q.1 in
    (ap (λ b. b && list_all test xs) q.0 ∙ r.0, r.1)

filtered : {A : Type 0} (test : A → Bool) (xs : List A) → AllByRecursion (λ x. test x ≡ true) (filter test xs)
filtered test [] = tt
filtered test (x ∷ xs) = by (test x) refl (filtered test xs)
  where
    by : (c : Bool) → test x ≡ c → AllByRecursion (λ x. test x ≡ true) (filter test xs) → AllByRecursion (λ x. test x ≡ true) (cond c (x ∷ filter test xs) (filter test xs))
    by true e more = (e, more)
    by false e more = more

kept_head : {A : Type 0} (test : A → Bool) (P : A → Type 0) (x : A) (xs : List A) → AllByRecursion P (filter test (x ∷ xs)) → P x ⊎ (test x ≡ false)
kept_head test P x xs all = by (test x) refl all
  where
    by : (c : Bool) → test x ≡ c → AllByRecursion P (cond c (x ∷ filter test xs) (filter test xs)) → P x ⊎ (test x ≡ false)
    by true e all = inl all.0
    by false e all = inr e

kept_tail : {A : Type 0} (test : A → Bool) (P : A → Type 0) (x : A) (xs : List A) → AllByRecursion P (filter test (x ∷ xs)) → AllByRecursion P (filter test xs)
kept_tail test P x xs all = by (test x) all
  where
    by : (c : Bool) → AllByRecursion P (cond c (x ∷ filter test xs) (filter test xs)) → AllByRecursion P (filter test xs)
    by true all = all.1
    by false all = all

fold_along : {A B : Type 0} (P : A → Type 0) (f g : B → A → B) (a b : B) (xs : List A) → AllByRecursion P xs → ((y : B) (x : A) → P x → f y x ≡ g y x) → a ≡ b → fold f a xs ≡ fold g b xs
fold_along P f g a b [] all h e = e
fold_along P f g a b (x ∷ xs) all h e = fold_along P f g (f a x) (g b x) xs all.1 h (h a x all.0 ∙ ap (λ y. g y x) e)

key_part : (a : Act) (key value : List ℕ) (m n : ℕ) → key_in (operation_as a key value m n) ≡ key
key_part act.Lookup key value m n = refl
key_part (act.Load at size) key value m n = refl
key_part act.Update key value m n = refl
key_part act.Delete key value m n = refl
key_part (act.Store at size) key value m n = refl
key_part (act.Atomic at a) key value m n = refl

module _ (p : ProgramView) (row : ℕ → ℕ) (r : ℕ) (t : TableState) (h g : StageValues) (alike : AreAlike p row r h g) where
  map_values : (cs : List ℕ) → AllByRecursion (λ c. row c < r) cs → map_list (stage_value h) cs ≡ map_list (stage_value g) cs
  map_values [] a = refl
  map_values (c ∷ cs) a = ap (λ x. x ∷ map_list (stage_value h) cs) (alike c (inl a.0)).value ∙ ap (λ xs. stage_value g c ∷ xs) (map_values cs a.1)

  map_pointers : (cs : List ℕ) → AllByRecursion (λ c. row c < r) cs → map_list (pointer_in h) cs ≡ map_list (pointer_in g) cs
  map_pointers [] a = refl
  map_pointers (c ∷ cs) a = ap (λ x. x ∷ map_list (pointer_in h) cs) (alike c (inl a.0)).pointer ∙ ap (λ xs. pointer_in g c ∷ xs) (map_pointers cs a.1)

  -- all that an operation takes
  abbrev TakesBelow : SiteView → Type 0
  TakesBelow s = AllByRecursion (λ c. row c < r) s.key × AllByRecursion (λ c. row c < r) s.operands

  asked_alike : (s : SiteView) → TakesBelow s → asked t.decls h s ≡ asked t.decls g s
  asked_alike s a =
      ap (λ (key : List ℕ). operation_with (decl_of t.decls s.map) s.act key (map_list (stage_value h) s.operands)) (map_values s.key a.0)
      ∙ ap (λ (xs : List ℕ). operation_with (decl_of t.decls s.map) s.act (map_list (stage_value g) s.key) xs) (map_values s.operands a.1)

  access_alike : (s : SiteView) → TakesBelow s → access_pointer h s ≡ access_pointer g s
  access_alike s a = ap (λ (qs : List Pointer). get_or qs (pointer_operand s.act) Null) (map_pointers s.operands a.1)

  -- what the read of a site looks at
  key_alike : (s : SiteView) → LooksBelow row r s → asked_key t.decls h s ≡ asked_key t.decls g s
  key_alike s a = key_part s.act _ _ _ _ ∙ ap (bytes_of (decl_of t.decls s.map).key) (map_values s.key a.0) ∙ sym (key_part s.act _ _ _ _)

  first_value : (xs : List ℕ) → AllByRecursion (λ c. row c < r) (take 1 xs) → slice_index (map_list (stage_value h) xs) 0 ≡ slice_index (map_list (stage_value g) xs) 0
  first_value [] a = refl
  first_value (x ∷ xs) a = (alike x (inl a.0)).value

  first_pointer : (xs : List ℕ) → AllByRecursion (λ c. row c < r) (take 1 xs) → get_or (map_list (pointer_in h) xs) 0 Null ≡ get_or (map_list (pointer_in g) xs) 0 Null
  first_pointer [] a = refl
  first_pointer (x ∷ xs) a = (alike x (inl a.0)).pointer

  third_pointer : (xs : List ℕ) → AllByRecursion (λ c. row c < r) (take 1 (drop 2 xs)) → get_or (map_list (pointer_in h) xs) 2 Null ≡ get_or (map_list (pointer_in g) xs) 2 Null
  third_pointer [] a = refl
  third_pointer (x ∷ []) a = refl
  third_pointer (x ∷ y ∷ xs) a = first_pointer xs a

  looks_as : (a : Act) (xs : List ℕ) → AllByRecursion (λ c. row c < r) (looked_operands a xs) → (k l v w : List ℕ) (m n : ℕ)
      → looks (operation_as a k v (slice_index (map_list (stage_value h) xs) 0) m) ≡ looks (operation_as a l w (slice_index (map_list (stage_value g) xs) 0) n)
  looks_as act.Update xs a k l v w m n = ap (λ (flags : ℕ). not (nat_lt 2 flags)) (first_value xs a)
  looks_as act.Lookup xs a k l v w m n = refl
  looks_as (act.Load at size) xs a k l v w m n = refl
  looks_as act.Delete xs a k l v w m n = refl
  looks_as (act.Store at size) xs a k l v w m n = refl
  looks_as (act.Atomic at b) xs a k l v w m n = refl

  -- an operation of which all parts stand in earlier rows
  abbrev Below : ℕ → Type 0
  Below i = list_all (λ c. nat_lt (row c) r) (parts p i) ≡ true

  guard_below : (i : ℕ) → Below i → row (site_at p.sites i).guard < r
  guard_below i b = let q = all_append (λ c. nat_lt (row c) r) (taken_by (site_at p.sites i)) (read_cells p.cells i) b in (all_below row r (taken_by (site_at p.sites i)) q.0).0

  takes_below : (i : ℕ) → Below i → TakesBelow (site_at p.sites i)
  takes_below i b =
      let s = site_at p.sites i in
      let test : ℕ → Bool = λ c. nat_lt (row c) r in
      let q = all_append test (taken_by s) (read_cells p.cells i) b in
      let k = and_parts (test s.guard) (list_all test (s.key ++ s.operands)) q.0 in
      let m = all_append test s.key s.operands k.1 in
      (all_below row r s.key m.0, all_below row r s.operands m.1)

  reads_below : (i : ℕ) → Below i → AllByRecursion (λ c. row c < r) (read_cells p.cells i)
  reads_below i b = let q = all_append (λ c. nat_lt (row c) r) (taken_by (site_at p.sites i)) (read_cells p.cells i) b in all_below row r (read_cells p.cells i) q.1

  in_range : (c : ℕ) → (row c < r) ⊎ (nat_lt c (length p.cells) ≡ false) → (row c < r) ⊎ (length p.cells ≤ c)
  in_range c (inl l) = inl l
  in_range c (inr e) = let m : length p.cells ≤ c = grind (arith, nat_tests) in inr m

  found_same : (i : ℕ) → Below i → SameCell h g (found_cell p.cells i)
  found_same i b = alike (found_cell p.cells i) (in_range (found_cell p.cells i) (kept_head (λ k. nat_lt k (length p.cells)) (λ c. row c < r) (found_cell p.cells i) (answer_cell p.cells i ∷ []) (reads_below i b)))

  answer_same : (i : ℕ) → Below i → SameCell h g (answer_cell p.cells i)
  answer_same i b =
      let rest = kept_tail (λ k. nat_lt k (length p.cells)) (λ c. row c < r) (found_cell p.cells i) (answer_cell p.cells i ∷ []) (reads_below i b) in
      alike (answer_cell p.cells i) (in_range (answer_cell p.cells i) (kept_head (λ k. nat_lt k (length p.cells)) (λ c. row c < r) (answer_cell p.cells i) [] rest))

  writes_same : (i : ℕ) → Below i → writes p t.decls h i ≡ writes p t.decls g i
  writes_same i b =
      let s = site_at p.sites i in
      let k = (decl_of t.decls s.map).kind in
      ap (λ (n : ℕ). on n && writes_as s.act k (stage_value h (answer_cell p.cells i))) (alike s.guard (inl (guard_below i b))).value
      ∙ ap (λ (n : ℕ). on (stage_value g s.guard) && writes_as s.act k n) (answer_same i b).value

  written_same_as : (a : Act) (k : MapKind) (i : ℕ) → Below i → written_as a k p t h i ≡ written_as a k p t g i
  written_same_as act.Update Hash i b = ap (update_pointer i) (found_same i b).pointer
  written_same_as act.Update Array i b = let s = site_at p.sites i in ap (λ (op : Operation). slot_pointer (table_at t s.map) (key_in op)) (asked_alike s (takes_below i b))
  written_same_as act.Delete k i b = (found_same i b).pointer
  written_same_as act.Lookup k i b = access_alike (site_at p.sites i) (takes_below i b)
  written_same_as (act.Load at size) k i b = access_alike (site_at p.sites i) (takes_below i b)
  written_same_as (act.Store at size) k i b = access_alike (site_at p.sites i) (takes_below i b)
  written_same_as (act.Atomic at a) k i b = access_alike (site_at p.sites i) (takes_below i b)

  written_same : (i : ℕ) → Below i → written_pointer p t h i ≡ written_pointer p t g i
  written_same i b = written_same_as (site_at p.sites i).act (decl_of t.decls (site_at p.sites i).map).kind i b

  over_same : (key : List ℕ) (found : Pointer) (i : ℕ) → Below i → found_over p t h key found i ≡ found_over p t g key found i
  over_same key found i b =
      let s = site_at p.sites i in
      ap (λ (c : Bool). if c && bytes_eq (asked_key t.decls h s) key then found_as s.act (written_pointer p t h i) found else found) (writes_same i b)
      ∙ ap (λ (op : Operation). if writes p t.decls g i && bytes_eq (key_in op) key then found_as s.act (written_pointer p t h i) found else found) (asked_alike s (takes_below i b))
      ∙ ap (λ (q : Pointer). if writes p t.decls g i && bytes_eq (asked_key t.decls g s) key then found_as s.act q found else found) (written_same i b)

  value_same : (under : Pointer) (old : List ℕ) (i : ℕ) → Below i → value_over p t h under old i ≡ value_over p t g under old i
  value_same under old i b =
      let s = site_at p.sites i in
      ap (λ (c : Bool). if c && same_pointer (written_pointer p t h i) under then value_as (asked t.decls h s) old else old) (writes_same i b)
      ∙ ap (λ (q : Pointer). if writes p t.decls g i && same_pointer q under then value_as (asked t.decls h s) old else old) (written_same i b)
      ∙ ap (λ (op : Operation). if writes p t.decls g i && same_pointer (written_pointer p t g i) under then value_as op old else old) (asked_alike s (takes_below i b))

  adds_same : (i : ℕ) → Below i → adds_key p t.decls h i ≡ adds_key p t.decls g i
  adds_same i b =
      let s = site_at p.sites i in
      ap (λ (c : Bool). c && is_update s.act && is_null (pointer_in h (found_cell p.cells i))) (writes_same i b)
      ∙ ap (λ (q : Pointer). writes p t.decls g i && is_update s.act && is_null q) (found_same i b).pointer

  takes_same : (i : ℕ) → Below i → takes_key p t.decls h i ≡ takes_key p t.decls g i
  takes_same i b = ap (λ (c : Bool). c && is_delete (site_at p.sites i).act) (writes_same i b)

  count_same : (f k : ℕ → Bool) (xs : List ℕ) → AllByRecursion Below xs → ((i : ℕ) → Below i → f i ≡ k i) → count_by f xs ≡ count_by k xs
  count_same f k xs all same = fold_along Below (λ n i. n + cond (f i) 1 0) (λ n i. n + cond (k i) 1 0) 0 0 xs all (λ n i b. ap (λ c. n + cond c 1 0) (same i b)) refl

  -- ---- the read of a site

  pending_below : (j : ℕ) → AllByRecursion Below (pending p row r j)
  pending_below j = each (pending p row r j) (filtered (is_pending p row r j) (numbers 0 j))
    where
      each : (xs : List ℕ) → AllByRecursion (λ i. is_pending p row r j i ≡ true) xs → AllByRecursion Below xs
      each [] a = tt
      each (i ∷ xs) a = ((and_parts (((site_at p.sites i).map == (site_at p.sites j).map) && records (site_at p.sites i).act) (list_all (λ c. nat_lt (row c) r) (parts p i)) a.0).1, each xs a.1)

  key_same_as : (k : MapKind) (before : List ℕ) (m : ℕ) (key : List ℕ) → AllByRecursion Below before → key_pointer_as k p t h before m key ≡ key_pointer_as k p t g before m key
  key_same_as Hash before m key all = fold_along Below (found_over p t h key) (found_over p t g key) (slot_pointer (table_at t m) key) (slot_pointer (table_at t m) key) before all (over_same key) refl
  key_same_as Array before m key all = refl

  key_same : (before : List ℕ) (j : ℕ) → AllByRecursion Below before → LooksBelow row r (site_at p.sites j) → key_pointer p t h before j ≡ key_pointer p t g before j
  key_same before j all looks =
      let s = site_at p.sites j in
      let k = (decl_of t.decls s.map).kind in
      key_same_as k before s.map (asked_key t.decls h s) all ∙ ap (key_pointer_as k p t g before s.map) (key_alike s looks)

  entry_same : (before : List ℕ) (m : ℕ) (under : Pointer) → AllByRecursion Below before → entry_value p t h before m under ≡ entry_value p t g before m under
  entry_same before m under all =
      fold_along Below (value_over p t h under) (value_over p t g under) (value_under (decl_of t.decls m) (table_at t m) under) (value_under (decl_of t.decls m) (table_at t m) under) before all (value_same under) refl

  found_keeps : (before : List ℕ) (j : ℕ) → AllByRecursion Below before → LooksBelow row r (site_at p.sites j) → found_pointer p t h before j ≡ found_pointer p t g before j
  found_keeps before j all below =
      let s = site_at p.sites j in
      ap (λ (q : Pointer). if looks (asked t.decls h s) then q else Null) (key_same before j all below)
      ∙ ap (λ (c : Bool). if c then key_pointer p t g before j else Null) (looks_as s.act s.operands below.1 _ _ _ _ _ _)

  answer_keeps : (before : List ℕ) (j : ℕ) → AllByRecursion Below before → LooksBelow row r (site_at p.sites j) → answer_over p t h before j ≡ answer_over p t g before j
  answer_keeps before j all below = by s.act refl below.1
    where
      s : SiteView
      s = site_at p.sites j

      d : MapDecl
      d = decl_of t.decls s.map

      key : key_pointer p t h before j ≡ key_pointer p t g before j
      key = key_same before j all below

      own : bytes_of d.key (map_list (stage_value h) s.key) ≡ bytes_of d.key (map_list (stage_value g) s.key)
      own = ap (bytes_of d.key) (map_values s.key below.0)

      present : bit (not (is_null (key_pointer p t h before j))) ≡ bit (not (is_null (key_pointer p t g before j)))
      present = ap (λ (q : Pointer). bit (not (is_null q))) key

      adds : count_by (adds_key p t.decls h) before ≡ count_by (adds_key p t.decls g) before
      adds = count_same (adds_key p t.decls h) (adds_key p t.decls g) before all adds_same

      takes : count_by (takes_key p t.decls h) before ≡ count_by (takes_key p t.decls g) before
      takes = count_same (takes_key p t.decls h) (takes_key p t.decls g) before all takes_same

      used : ℕ
      used = used_count (table_at t s.map)

      at_pointer : (n : ℕ) → pointer_operand s.act ≡ n → get_or (map_list (pointer_in h) s.operands) n Null ≡ get_or (map_list (pointer_in g) s.operands) n Null → access_pointer h s ≡ access_pointer g s
      at_pointer n e same =
          ap (λ (k : ℕ). get_or (map_list (pointer_in h) s.operands) k Null) e ∙ same ∙ sym (ap (λ (k : ℕ). get_or (map_list (pointer_in g) s.operands) k Null) e)

      under : (f : List ℕ → ℕ) → access_pointer h s ≡ access_pointer g s
          → where_some (access_pointer h s) (f (entry_value p t h before s.map (access_pointer h s))) ≡ where_some (access_pointer g s) (f (entry_value p t g before s.map (access_pointer g s)))
      under f access =
          ap (λ (q : Pointer). where_some q (f (entry_value p t h before s.map q))) access
          ∙ ap (λ (bytes : List ℕ). where_some (access_pointer g s) (f bytes)) (entry_same before s.map (access_pointer g s) all)

      by : (a : Act) → s.act ≡ a → AllByRecursion (λ c. row c < r) (looked_operands a s.operands)
          → answer_as a (operation_with d a (map_list (stage_value h) s.key) (map_list (stage_value h) s.operands)) p t h before j
          ≡ answer_as a (operation_with d a (map_list (stage_value g) s.key) (map_list (stage_value g) s.operands)) p t g before j
      by (act.Load at size) e b = under (number_at size at) (at_pointer 0 (ap pointer_operand e) (first_pointer s.operands b))
      by (act.Atomic at a) e b = under (changed_at a.wide at) (at_pointer 2 (ap pointer_operand e) (third_pointer s.operands b))
      by act.Update e b =
          let f = slice_index (map_list (stage_value h) s.operands) 0 in
          let k = bytes_of d.key (map_list (stage_value h) s.key) in
          ap (λ (n : ℕ). cast_unsigned w64 (update_answer d.kind d (used + n) (count_by (takes_key p t.decls h) before) (not (is_null (key_pointer p t h before j))) k f)) adds
          ∙ ap (λ (n : ℕ). cast_unsigned w64 (update_answer d.kind d (used + count_by (adds_key p t.decls g) before) n (not (is_null (key_pointer p t h before j))) k f)) takes
          ∙ ap (λ (q : Pointer). cast_unsigned w64 (update_answer d.kind d (used + count_by (adds_key p t.decls g) before) (count_by (takes_key p t.decls g) before) (not (is_null q)) k f)) key
          ∙ ap (λ (x : List ℕ). cast_unsigned w64 (update_answer d.kind d (used + count_by (adds_key p t.decls g) before) (count_by (takes_key p t.decls g) before) (not (is_null (key_pointer p t g before j))) x f)) own
          ∙ ap (λ (x : ℕ). cast_unsigned w64 (update_answer d.kind d (used + count_by (adds_key p t.decls g) before) (count_by (takes_key p t.decls g) before) (not (is_null (key_pointer p t g before j))) (bytes_of d.key (map_list (stage_value g) s.key)) x)) (first_value s.operands b)
      by act.Delete e b = ap (λ (q : Pointer). cast_unsigned w64 (delete_answer d.kind (not (is_null q)))) key
      by act.Lookup e b = present
      by (act.Store at size) e b = present

pub reads_keep : ReadsKeep
reads_keep p row r j t h g alike below =
    (found_keeps p row r t h g alike (pending p row r j) j (pending_below p row r t h g alike j) below, answer_keeps p row r t h g alike (pending p row r j) j (pending_below p row r t h g alike j) below)
