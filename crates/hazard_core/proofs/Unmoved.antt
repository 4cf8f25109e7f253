-- A read that a change does not touch.
use Rattle.std.proofs.Common.{◌≡◌, ◌≢◌, ℕ, ◌+◌, ◌≤◌, ◌⊎◌, inl, inr, Bool, true, false, List, [], Some, None, get_or, refl, sym, ap, ◌∙◌, subst, arith, not}
use Rattle.std.specs.Prelude.{◌==◌, ◌&&◌, ◌||◌, if◌then◌else◌, nat_lt, nat_le, map as map_list, count_by, slice_index, drop}
use Rattle.std.specs.Int.{w64, cast_unsigned}
use Rattle.std.specs.Str.{bytes_eq}
use Rattle.std.proofs.lemmas.Bool.Decides.{nat_tests, Decides-eqb}
use Rattle.std.proofs.lemmas.Slice.Eq.{bytes_eq-Decides}
use Rattle.list_laws.proofs.ListLaws.{fold_alike}
use Rattle.xdp_maps.specs.declared.decl.MapDecl.{MapDecl}
use Rattle.xdp_maps.specs.declared.decl.MapKind.{MapKind}
use Rattle.xdp_maps.specs.declared.decl.MapKind.TheVariants.{Hash, Array}
use Rattle.xdp_maps.specs.declared.errno.TheConstants.{ENOENT, E2BIG, EEXIST, EINVAL}
use Rattle.xdp_maps.specs.Calls.{hash_refusal, number_of, number_at as changed_at}
use Rattle.xdp_maps.specs.Operations.{key_in}
use Rattle.cell_core.specs.xdp_machine.Memory.{number_at}
use Rattle.cell_core.specs.declared.site.Act.{Act}
use Rattle.cell_core.specs.declared.site.Act.TheVariants as act
use Rattle.cell_core.specs.Cells.{bit}
use Rattle.cell_core.specs.Sites.{SiteView, ProgramView, site_at, operation_as, bytes_of}
use Rattle.hazard_core.specs.Tables.{Slot, TableState, decl_of, table_at, slot_at, used_count}
use Rattle.hazard_core.specs.StageValues.{Pointer, Null, InSlot, Pending, same_pointer, is_null, StageValues, stage_value, pointer_in, found_cell, asked, asked_key, access_pointer, writes, adds_key, takes_key, slot_pointer, written_as, written_pointer}
use Rattle.hazard_core.specs.Overlay.{found_as, found_over, key_pointer_as, key_pointer, looks, found_pointer, value_as, value_over, value_under, entry_value, update_answer, delete_answer, where_some, answer_as, answer_over}
use Rattle.hazard_core.specs.Marks.{Change, key_touched, entry_touched, presence_touched, touched_as, touches}
use Rattle.hazard_core.specs.Changes.{with_tables, IsChange, finds_key, reads, Unmoved}

false_true : false ≡ true → ⊥
false_true e = cc

pub same_or : (m n : ℕ) → (m ≡ n) ⊎ (m ≢ n)
same_or m n = by (m == n) refl
  where
    by : (c : Bool) → (m == n) ≡ c → (m ≡ n) ⊎ (m ≢ n)
    by true e = inl ((Decides-eqb m n).0 e)
    by false e = inr (λ q. false_true (sym e ∙ (Decides-eqb m n).1 q))

-- where the entry under a key stays
abbrev KeyStays : TableState → Change → ℕ → List ℕ → Type 0
KeyStays t e m key = (m ≢ e.map) ⊎ ((key ≢ e.key) ⊎ (e.presence ≡ false))

module _ (p : ProgramView) (t : TableState) (ts : List (List Slot)) (e : Change) (h : StageValues) (change : IsChange t e ts) where
  slot_stays : (m : ℕ) (key : List ℕ) → KeyStays t e m key → slot_pointer (get_or ts m []) key ≡ slot_pointer (table_at t m) key
  slot_stays m key (inl other) = ap (λ slots. slot_pointer slots key) (change.maps m other)
  slot_stays m key (inr why) = elim (same_or m e.map) [
    | inl same ↦ subst (λ n. slot_pointer (get_or ts n []) key ≡ slot_pointer (table_at t n) key) (sym same) (change.keys key why)
    | inr other ↦ ap (λ slots. slot_pointer slots key) (change.maps m other)
  ]

  array_stays : (m : ℕ) (key : List ℕ) → (decl_of t.decls m).kind ≡ Array → KeyStays t e m key
  array_stays m key kind = elim (same_or m e.map) [
    | inl same ↦ inr (inr (change.arrays (subst (λ n. (decl_of t.decls n).kind ≡ Array) same kind)))
    | inr other ↦ inl other
  ]

  written_stays_as : (a : Act) (k : MapKind) (i : ℕ) → (decl_of t.decls (site_at p.sites i).map).kind ≡ k → written_as a k p (with_tables t ts) h i ≡ written_as a k p t h i
  written_stays_as act.Update Hash i kind = refl
  written_stays_as act.Update Array i kind = slot_stays (site_at p.sites i).map (asked_key t.decls h (site_at p.sites i)) (array_stays (site_at p.sites i).map (asked_key t.decls h (site_at p.sites i)) kind)
  written_stays_as act.Delete k i kind = refl
  written_stays_as a k i kind = refl

  written_stays : (i : ℕ) → written_pointer p (with_tables t ts) h i ≡ written_pointer p t h i
  written_stays i = written_stays_as (site_at p.sites i).act (decl_of t.decls (site_at p.sites i).map).kind i refl

  over_stays : (key : List ℕ) (found : Pointer) (i : ℕ) → found_over p (with_tables t ts) h key found i ≡ found_over p t h key found i
  over_stays key found i = ap (λ q. if writes p t.decls h i && bytes_eq (asked_key t.decls h (site_at p.sites i)) key then found_as (site_at p.sites i).act q found else found) (written_stays i)

  key_stays_as : (k : MapKind) (before : List ℕ) (m : ℕ) (key : List ℕ) → KeyStays t e m key → key_pointer_as k p (with_tables t ts) h before m key ≡ key_pointer_as k p t h before m key
  key_stays_as Hash before m key why =
      fold_alike (found_over p (with_tables t ts) h key) (found_over p t h key) (slot_pointer (get_or ts m []) key) (slot_pointer (table_at t m) key) before (over_stays key) (slot_stays m key why)
  key_stays_as Array before m key why = slot_stays m key why

  key_stays : (before : List ℕ) (j : ℕ) → KeyStays t e (site_at p.sites j).map (asked_key t.decls h (site_at p.sites j)) → key_pointer p (with_tables t ts) h before j ≡ key_pointer p t h before j
  key_stays before j why = key_stays_as (decl_of t.decls (site_at p.sites j).map).kind before (site_at p.sites j).map (asked_key t.decls h (site_at p.sites j)) why

  -- ---- the value under a pointer

  value_stays : (under : Pointer) (old : List ℕ) (i : ℕ) → value_over p (with_tables t ts) h under old i ≡ value_over p t h under old i
  value_stays under old i = ap (λ q. if writes p t.decls h i && same_pointer q under then value_as (asked t.decls h (site_at p.sites i)) old else old) (written_stays i)

  start_stays : (m : ℕ) (under : Pointer) → (m ≢ e.map) ⊎ (entry_touched p t.decls h e under ≡ false) → value_under (decl_of t.decls m) (get_or ts m []) under ≡ value_under (decl_of t.decls m) (table_at t m) under
  start_stays m Null why = refl
  start_stays m (Pending i) why = refl
  start_stays m (InSlot n) (inl other) = ap (λ slots. (slot_at slots n).value) (change.maps m other)
  start_stays m (InSlot n) (inr free) = elim (same_or m e.map) [
    | inl same ↦ subst (λ k. (slot_at (get_or ts k []) n).value ≡ (slot_at (table_at t k) n).value) (sym same) (change.values n (λ q. false_true (sym free ∙ (Decides-eqb n e.slot).1 q)))
    | inr other ↦ ap (λ slots. (slot_at slots n).value) (change.maps m other)
  ]

  entry_stays : (before : List ℕ) (m : ℕ) (under : Pointer) → (m ≢ e.map) ⊎ (entry_touched p t.decls h e under ≡ false) → entry_value p (with_tables t ts) h before m under ≡ entry_value p t h before m under
  entry_stays before m under why =
      fold_alike (value_over p (with_tables t ts) h under) (value_over p t h under) (value_under (decl_of t.decls m) (get_or ts m []) under) (value_under (decl_of t.decls m) (table_at t m) under) before (value_stays under) (start_stays m under why)

  -- ---- what is not touched

  apart : (m : ℕ) (x : Bool) → (m == e.map) && x ≡ false → (m ≢ e.map) ⊎ (x ≡ false)
  apart m x q = by (m == e.map) refl q
    where
      by : (c : Bool) → (m == e.map) ≡ c → c && x ≡ false → (m ≢ e.map) ⊎ (x ≡ false)
      by true c q = inr q
      by false c q = inl (λ same. false_true (sym c ∙ (Decides-eqb m e.map).1 same))

  -- the touched reads of a key
  touched_is : (a : Act) (j : ℕ) → finds_key a ≡ true → touched_as a p t.decls h j e ≡ presence_touched (decl_of t.decls (site_at p.sites j).map).kind (asked t.decls h (site_at p.sites j)) (not (is_null (pointer_in h (found_cell p.cells j)))) e
  touched_is act.Lookup j f = refl
  touched_is act.Update j f = refl
  touched_is act.Delete j f = refl
  touched_is (act.Load at size) j f = cc
  touched_is (act.Store at size) j f = cc
  touched_is (act.Atomic at a) j f = cc

  other_key : (key : List ℕ) → bytes_eq key e.key ≡ false → key ≢ e.key
  other_key key q same = false_true (sym q ∙ (bytes_eq-Decides key e.key).1 same)

  by_presence : (b : Bool) (key : List ℕ) → (b ≡ false → key ≢ e.key) → e.presence && b ≡ false → (key ≢ e.key) ⊎ (e.presence ≡ false)
  by_presence b key differs q = by e.presence refl q
    where
      by : (c : Bool) → e.presence ≡ c → c && b ≡ false → (key ≢ e.key) ⊎ (e.presence ≡ false)
      by true c q = inl (differs q)
      by false c q = inr c

  looked : (a : Act) (key value : List ℕ) (first second : ℕ) (found : Bool) → finds_key a ≡ true → looks (operation_as a key value first second) ≡ true →
      e.presence && key_touched (operation_as a key value first second) found e.key ≡ false → (key_in (operation_as a key value first second) ≢ e.key) ⊎ (e.presence ≡ false)
  looked act.Lookup key value first second found f l q = by_presence (bytes_eq key e.key) key (other_key key) q
  looked act.Delete key value first second found f l q = by_presence (bytes_eq key e.key) key (other_key key) q
  looked act.Update key value first second found f l q =
      by_presence (not (nat_lt 2 first) && (bytes_eq key e.key || (nat_lt first 2 && not found))) key (λ z. other_key key (split (not (nat_lt 2 first)) (bytes_eq key e.key) (nat_lt first 2 && not found) l z)) q
    where
      split : (a b c : Bool) → a ≡ true → a && (b || c) ≡ false → b ≡ false
      split true true c x y = cc
      split true false c x y = refl
      split false b c x y = cc
  looked (act.Load at size) key value first second found f l q = cc
  looked (act.Store at size) key value first second found f l q = cc
  looked (act.Atomic at a) key value first second found f l q = cc

  why_key : (k : MapKind) (j : ℕ) (found : Bool) → (decl_of t.decls (site_at p.sites j).map).kind ≡ k → finds_key (site_at p.sites j).act ≡ true → looks (asked t.decls h (site_at p.sites j)) ≡ true →
      ((site_at p.sites j).map ≢ e.map) ⊎ (presence_touched k (asked t.decls h (site_at p.sites j)) found e ≡ false) → KeyStays t e (site_at p.sites j).map (asked_key t.decls h (site_at p.sites j))
  why_key k j found kind f l (inl other) = inl other
  why_key Array j found kind f l (inr q) = array_stays (site_at p.sites j).map (asked_key t.decls h (site_at p.sites j)) kind
  why_key Hash j found kind f l (inr q) =
      let s = site_at p.sites j in
      inr (looked s.act (bytes_of (decl_of t.decls s.map).key (map_list (stage_value h) s.key)) (bytes_of (decl_of t.decls s.map).value (drop 1 (map_list (stage_value h) s.operands)))
      (slice_index (map_list (stage_value h) s.operands) 0) (slice_index (map_list (stage_value h) s.operands) 1) found f l q)

  -- ---- answers

  abbrev Untouched : ℕ → Type 0
  Untouched j = touches p t.decls h j e ≡ false

  found_why : (j : ℕ) → finds_key (site_at p.sites j).act ≡ true → Untouched j → looks (asked t.decls h (site_at p.sites j)) ≡ true → KeyStays t e (site_at p.sites j).map (asked_key t.decls h (site_at p.sites j))
  found_why j f q l =
      let s = site_at p.sites j in
      let k = (decl_of t.decls s.map).kind in
      let found = not (is_null (pointer_in h (found_cell p.cells j))) in
      why_key k j found refl f l (apart s.map (presence_touched k (asked t.decls h s) found e) (subst (λ x. (s.map == e.map) && x ≡ false) (touched_is s.act j f) q))

  found_stays : (before : List ℕ) (j : ℕ) → finds_key (site_at p.sites j).act ≡ true → Untouched j → found_pointer p (with_tables t ts) h before j ≡ found_pointer p t h before j
  found_stays before j f q = by (looks (asked t.decls h (site_at p.sites j))) refl
    where
      by : (l : Bool) → looks (asked t.decls h (site_at p.sites j)) ≡ l → (if l then key_pointer p (with_tables t ts) h before j else Null) ≡ (if l then key_pointer p t h before j else Null)
      by true l = key_stays before j (found_why j f q l)
      by false l = refl

  access_why : (j : ℕ) (a : Act) → touched_as (site_at p.sites j).act p t.decls h j e ≡ entry_touched p t.decls h e (access_pointer h (site_at p.sites j)) → Untouched j → ((site_at p.sites j).map ≢ e.map) ⊎ (entry_touched p t.decls h e (access_pointer h (site_at p.sites j)) ≡ false)
  access_why j a same q =
      let s = site_at p.sites j in
      apart s.map (entry_touched p t.decls h e (access_pointer h s)) (subst (λ x. (s.map == e.map) && x ≡ false) same q)

  -- why an update is refused does not rest on the size where the key is there or the flags are past 1
  refused : (cap m n flags : ℕ) (x y : Bool) → (nat_lt 2 flags ≡ false → x ≡ y) → (nat_lt 2 flags ≡ false → nat_lt flags 2 && not y ≡ true → m ≡ n) → hash_refusal cap m x flags ≡ hash_refusal cap n y flags
  refused cap m n flags x y same size = by (nat_lt 2 flags) refl same size
    where
      two : (x y : Bool) → x ≡ y → (nat_lt 2 flags ≡ false) → (nat_lt flags 2 && not y ≡ true → m ≡ n) →
          (if (flags == 1) && x then Some EEXIST else if (flags == 2) && not x then Some ENOENT else if not x && nat_le cap m then Some E2BIG else None)
          ≡ (if (flags == 1) && y then Some EEXIST else if (flags == 2) && not y then Some ENOENT else if not y && nat_le cap n then Some E2BIG else None)
      two true true e past k = refl
      two false false e past k = three (nat_lt flags 2) refl
        where
          three : (c : Bool) → nat_lt flags 2 ≡ c →
              (if (flags == 1) && false then Some EEXIST else if (flags == 2) && true then Some ENOENT else if nat_le cap m then Some E2BIG else None)
              ≡ (if (flags == 1) && false then Some EEXIST else if (flags == 2) && true then Some ENOENT else if nat_le cap n then Some E2BIG else None)
          three true c = let same : m ≡ n = k (ap (λ z. z && true) c) in ap (λ u. if (flags == 1) && false then Some EEXIST else if (flags == 2) && true then Some ENOENT else if nat_le cap u then Some E2BIG else None) same
          three false c =
              let a : 2 ≤ flags = grind (arith, nat_tests) in
              let b : flags ≤ 2 = grind (arith, nat_tests) in
              let two : flags ≡ 2 = omega arith in
              rw two refl
      two true false e past k = cc
      two false true e past k = cc

      by : (c : Bool) → nat_lt 2 flags ≡ c → (c ≡ false → x ≡ y) → (c ≡ false → nat_lt flags 2 && not y ≡ true → m ≡ n) →
          (if c then Some EINVAL else if (flags == 1) && x then Some EEXIST else if (flags == 2) && not x then Some ENOENT else if not x && nat_le cap m then Some E2BIG else None)
          ≡ (if c then Some EINVAL else if (flags == 1) && y then Some EEXIST else if (flags == 2) && not y then Some ENOENT else if not y && nat_le cap n then Some E2BIG else None)
      by true past same size = refl
      by false past same size = two x y (same refl) past (size refl)

  size_stays : (m : ℕ) → (m ≢ e.map) ⊎ (e.presence ≡ false) → used_count (get_or ts m []) ≡ used_count (table_at t m)
  size_stays m (inl other) = ap used_count (change.maps m other)
  size_stays m (inr kept) = elim (same_or m e.map) [
    | inl same ↦ subst (λ n. used_count (get_or ts n []) ≡ used_count (table_at t n)) (sym same) (change.size kept)
    | inr other ↦ ap used_count (change.maps m other)
  ]

  -- an update that asks for the size is touched by each change of it
  asks_size : (key : List ℕ) (flags : ℕ) (found : Bool) → nat_lt 2 flags ≡ false → nat_lt flags 2 && not found ≡ true → e.presence && (not (nat_lt 2 flags) && (bytes_eq key e.key || (nat_lt flags 2 && not found))) ≡ false → e.presence ≡ false
  asks_size key flags found past asks q = by e.presence (nat_lt 2 flags) (bytes_eq key e.key) (nat_lt flags 2 && not found) past asks q
    where
      by : (c d f g : Bool) → d ≡ false → g ≡ true → c && (not d && (f || g)) ≡ false → c ≡ false
      by false d f g x y z = refl
      by true true f g x y z = cc
      by true false true g x y z = cc
      by true false false true x y z = cc
      by true false false false x y z = cc

  answer_stays : (before : List ℕ) (j : ℕ) → reads (site_at p.sites j).act ≡ true → Untouched j → ((site_at p.sites j).act ≡ act.Update → (decl_of t.decls (site_at p.sites j).map).kind ≡ Hash → pointer_in h (found_cell p.cells j) ≡ found_pointer p t h before j) →
      answer_over p (with_tables t ts) h before j ≡ answer_over p t h before j
  answer_stays before j r q held = by s.act refl r
    where
      s : SiteView
      s = site_at p.sites j

      d : MapDecl
      d = decl_of t.decls s.map

      key : List ℕ
      key = bytes_of d.key (map_list (stage_value h) s.key)

      value : List ℕ
      value = bytes_of d.value (drop 1 (map_list (stage_value h) s.operands))

      flags : ℕ
      flags = slice_index (map_list (stage_value h) s.operands) 0

      second : ℕ
      second = slice_index (map_list (stage_value h) s.operands) 1

      under : Pointer
      under = access_pointer h s

      present : TableState → Bool
      present x = not (is_null (key_pointer p x h before j))

      looks_by : (a : Act) → a ≡ s.act → looks (operation_as a key value flags second) ≡ true → looks (asked t.decls h s) ≡ true
      looks_by a is l = subst (λ b. looks (operation_as b key value flags second) ≡ true) is l

      finds_by : (a : Act) → a ≡ s.act → finds_key a ≡ true → finds_key s.act ≡ true
      finds_by a is f = subst (λ b. finds_key b ≡ true) is f

      key_by : (a : Act) → a ≡ s.act → finds_key a ≡ true → looks (operation_as a key value flags second) ≡ true → key_pointer p (with_tables t ts) h before j ≡ key_pointer p t h before j
      key_by a is f l = key_stays before j (found_why j (finds_by a is f) q (looks_by a is l))

      entry_by : (a : Act) → a ≡ s.act → touched_as a p t.decls h j e ≡ entry_touched p t.decls h e under → entry_value p (with_tables t ts) h before s.map under ≡ entry_value p t h before s.map under
      entry_by a is same = entry_stays before s.map under (access_why j a (subst (λ b. touched_as b p t.decls h j e ≡ entry_touched p t.decls h e under) is same) q)

      size_by : act.Update ≡ s.act → (k : MapKind) → d.kind ≡ k → k ≡ Hash → nat_lt 2 flags ≡ false → nat_lt flags 2 && not (present t) ≡ true → used_count (get_or ts s.map []) ≡ used_count (table_at t s.map)
      size_by is Array kind hash past asks = cc
      size_by is Hash kind hash past asks =
          let found = not (is_null (pointer_in h (found_cell p.cells j))) in
          let l : looks (asked t.decls h s) ≡ true = looks_by act.Update is (ap not past) in
          let at_key : found_pointer p t h before j ≡ key_pointer p t h before j = ap (λ (z : Bool). if z then key_pointer p t h before j else Null) l in
          let same : found ≡ present t = ap (λ x. not (is_null x)) (held (sym is) kind ∙ at_key) in
          let u : (s.map == e.map) && presence_touched d.kind (asked t.decls h s) found e ≡ false = subst (λ x. (s.map == e.map) && x ≡ false) (touched_is s.act j (finds_by act.Update is refl)) q in
          let v : (s.map == e.map) && presence_touched Hash (operation_as act.Update key value flags second) found e ≡ false =
          subst (λ (b : Act). (s.map == e.map) && presence_touched Hash (operation_as b key value flags second) found e ≡ false) (sym is) (subst (λ k. (s.map == e.map) && presence_touched k (asked t.decls h s) found e ≡ false) kind u) in
          size_stays s.map (elim (apart s.map (presence_touched Hash (operation_as act.Update key value flags second) found e) v) [
            | inl other ↦ inl other
            | inr z ↦ inr (asks_size key flags found past (subst (λ x. nat_lt flags 2 && not x ≡ true) (sym same) asks) z)
          ])

      update_by : act.Update ≡ s.act → (k : MapKind) → d.kind ≡ k → (plus minus : ℕ) →
          update_answer k d (used_count (get_or ts s.map []) + plus) minus (present (with_tables t ts)) key flags ≡ update_answer k d (used_count (table_at t s.map) + plus) minus (present t) key flags
      update_by is Array kind plus minus = refl
      update_by is Hash kind plus minus =
          ap number_of (refused (d.cap + minus) (used_count (get_or ts s.map []) + plus) (used_count (table_at t s.map) + plus) flags (present (with_tables t ts)) (present t)
          (λ past. ap (λ x. not (is_null x)) (key_by act.Update is refl (ap not past)))
          (λ past asks. ap (λ n. n + plus) (size_by is Hash kind refl past asks)))

      by : (a : Act) → a ≡ s.act → reads a ≡ true → answer_as a (operation_as a key value flags second) p (with_tables t ts) h before j ≡ answer_as a (operation_as a key value flags second) p t h before j
      by act.Lookup is f = ap (λ x. bit (not (is_null x))) (key_by act.Lookup is f refl)
      by act.Delete is f = ap (λ x. cast_unsigned w64 (delete_answer d.kind (not (is_null x)))) (key_by act.Delete is f refl)
      by act.Update is f = ap (cast_unsigned w64) (update_by is d.kind refl (count_by (adds_key p t.decls h) before) (count_by (takes_key p t.decls h) before))
      by (act.Load at size) is f = ap (λ bytes. where_some under (number_at size at bytes)) (entry_by (act.Load at size) is refl)
      by (act.Atomic at a) is f = ap (λ bytes. where_some under (changed_at a.wide at bytes)) (entry_by (act.Atomic at a) is (ap (λ (z : Bool). z && entry_touched p t.decls h e under) f))
      by (act.Store at size) is f = cc

pub unmoved : Unmoved
unmoved p t ts e h before j change q held = record {
  found = λ f. found_stays p t ts e h change before j f q;
  answer = λ r. answer_stays p t ts e h change before j r q held;
}
