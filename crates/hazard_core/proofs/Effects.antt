-- What one operation of a packet does to what it reads after it.
use Rattle.std.proofs.Common.{◌≡◌, ◌≢◌, ℕ, zero, suc, ◌+◌, ◌<◌, ◌⊎◌, inl, inr, Bool, true, false, List, [], get_or, length, refl, sym, ap, ◌∙◌, subst, arith, length-set, get_or-set_other, get_or-set_same}
use Rattle.std.specs.Prelude.{◌&&◌, ◌==◌, if◌then◌else◌, slice_set, slice_index}
use Rattle.std.specs.Str.{bytes_eq}
use Rattle.std.proofs.lemmas.Bool.Decides.{Decides-eqb}
use Rattle.std.proofs.lemmas.Slice.Eq.{bytes_eq-Decides}
use Rattle.xdp_maps.specs.declared.decl.MapKind.TheVariants.{Hash}
use Rattle.cell_core.specs.Cells.{bit}
use Rattle.cell_core.specs.Sites.{ProgramView, site_at}
use Rattle.hazard_core.specs.Tables.{Slot, TableState, decl_of, table_at, slot_at, has_key, used_count}
use Rattle.hazard_core.specs.StageValues.{Pointer, Null, InSlot, Pending, same_pointer, StageValues, asked, asked_key, writes, adds_key, takes_key, slot_pointer, written_pointer}
use Rattle.hazard_core.specs.Overlay.{found_as, found_over, value_as, value_over, value_under}
use Rattle.hazard_core.specs.Tabled.{IsTable}
use Rattle.hazard_core.proofs.Changing.{pointer_stays}
use Rattle.hazard_core.proofs.Unmoved.{same_or}
use Rattle.hazard_core.proofs.Slots.{pointer_is, slot_other, FitsSlot, table_keeps}

-- a pointer to an entry that the packet made is to the slot that it took
abbrev pub resolve : List ℕ → Pointer → Pointer
resolve taken Null = Null
resolve taken (InSlot n) = InSlot n
resolve taken (Pending i) = InSlot (slice_index taken i)

module _ (p : ProgramView) (t : TableState) (h : StageValues) where
  -- over the operations of the sites below j on one map: where a key is found, the value under a pointer, and the numbers of keys that came and went
  abbrev pub key_at : ℕ → List ℕ → ℕ → Pointer
  key_at m key zero = slot_pointer (table_at t m) key
  key_at m key (suc j) = if (site_at p.sites j).map == m then found_over p t h key (key_at m key j) j else key_at m key j

  abbrev pub value_at : ℕ → Pointer → ℕ → List ℕ
  value_at m under zero = value_under (decl_of t.decls m) (table_at t m) under
  value_at m under (suc j) = if (site_at p.sites j).map == m then value_over p t h under (value_at m under j) j else value_at m under j

  abbrev pub adds_at : ℕ → ℕ → ℕ
  adds_at m zero = 0
  adds_at m (suc j) = adds_at m j + (if (site_at p.sites j).map == m then bit (adds_key p t.decls h j) else 0)

  abbrev pub takes_at : ℕ → ℕ → ℕ
  takes_at m zero = 0
  takes_at m (suc j) = takes_at m j + (if (site_at p.sites j).map == m then bit (takes_key p t.decls h j) else 0)

  -- the tables and the slots taken after the operations below j agree with that
  pub record Follows (j : ℕ) (ts : List (List Slot)) (taken : List ℕ) : Type 0 where
    pub beside : length ts ≡ length t.decls
    pub long : length taken ≡ length p.sites
    pub tables : (m : ℕ) → m < length t.decls → IsTable (decl_of t.decls m) (get_or ts m [])
    pub keys : (m : ℕ) (key : List ℕ) → m < length t.decls → resolve taken (key_at m key j) ≡ slot_pointer (get_or ts m []) key
    pub pending : (m : ℕ) (key : List ℕ) (i : ℕ) → m < length t.decls → key_at m key j ≡ Pending i → i < j
    pub values : (m : ℕ) (key : List ℕ) (n : ℕ) → m < length t.decls → resolve taken (key_at m key j) ≡ InSlot n → value_at m (key_at m key j) j ≡ (slot_at (get_or ts m []) n).value
    pub size : (m : ℕ) → m < length t.decls → (decl_of t.decls m).kind ≡ Hash → used_count (get_or ts m []) + takes_at m j ≡ used_count (table_at t m) + adds_at m j

  -- the map and the key of site j
  abbrev pub map_of : ℕ → ℕ
  map_of j = (site_at p.sites j).map

  abbrev pub key_of : ℕ → List ℕ
  key_of j = asked_key t.decls h (site_at p.sites j)

  -- A slot of the map of site j is written: what it takes to follow on.
  pub record Effect (j : ℕ) (slots : List Slot) (taken more : List ℕ) (n : ℕ) (s : Slot) : Type 0 where
    pub map : map_of j < length t.decls
    pub fits : FitsSlot (decl_of t.decls (map_of j)) slots n s
    pub same_taken : (i : ℕ) → i < j → slice_index more i ≡ slice_index taken i
    pub long : length more ≡ length taken
    pub others : (key : List ℕ) → key ≢ key_of j → has_key key s ≡ has_key key (slot_at slots n)
    pub only : (key : List ℕ) → key ≢ key_of j → has_key key (slot_at slots n) ≡ false
    pub apart : (key : List ℕ) → key ≢ key_of j → same_pointer (written_pointer p t h j) (key_at (map_of j) key j) ≡ false
    pub own_key : resolve more (key_at (map_of j) (key_of j) (suc j)) ≡ slot_pointer (slice_set slots n s) (key_of j)
    pub own_pending : (i : ℕ) → key_at (map_of j) (key_of j) (suc j) ≡ Pending i → i < suc j
    pub own_value : (m : ℕ) → resolve more (key_at (map_of j) (key_of j) (suc j)) ≡ InSlot m → value_at (map_of j) (key_at (map_of j) (key_of j) (suc j)) (suc j) ≡ (slot_at (slice_set slots n s) m).value
    pub size : (decl_of t.decls (map_of j)).kind ≡ Hash → used_count (slice_set slots n s) + takes_at (map_of j) (suc j) ≡ used_count (table_at t (map_of j)) + adds_at (map_of j) (suc j)

  false_true : false ≡ true → ⊥
  false_true e = cc

  same_key_or : (a b : List ℕ) → (a ≡ b) ⊎ (a ≢ b)
  same_key_or a b = by (bytes_eq a b) refl
    where
      by : (c : Bool) → bytes_eq a b ≡ c → (a ≡ b) ⊎ (a ≢ b)
      by true e = inl ((bytes_eq-Decides a b).0 e)
      by false e = inr (λ q. false_true (sym e ∙ (bytes_eq-Decides a b).1 q))

  here : (j : ℕ) → ((site_at p.sites j).map == map_of j) ≡ true
  here j = (Decides-eqb (map_of j) (map_of j)).1 refl

  elsewhere : (j m : ℕ) → m ≢ map_of j → ((site_at p.sites j).map == m) ≡ false
  elsewhere j m other = by ((site_at p.sites j).map == m) refl
    where
      by : (c : Bool) → ((site_at p.sites j).map == m) ≡ c → c ≡ false
      by true e = absurd (other (sym ((Decides-eqb (map_of j) m).0 e)))
      by false e = refl

  -- on another map, and of another key of this map, nothing changes
  other_map : (j m : ℕ) (key : List ℕ) → m ≢ map_of j → key_at m key (suc j) ≡ key_at m key j
  other_map j m key other = ap (λ (c : Bool). if c then found_over p t h key (key_at m key j) j else key_at m key j) (elsewhere j m other)

  other_map_value : (j m : ℕ) (u : Pointer) → m ≢ map_of j → value_at m u (suc j) ≡ value_at m u j
  other_map_value j m u other = ap (λ (c : Bool). if c then value_over p t h u (value_at m u j) j else value_at m u j) (elsewhere j m other)

  pub this_key : (j : ℕ) (key : List ℕ) → key_at (map_of j) key (suc j) ≡ found_over p t h key (key_at (map_of j) key j) j
  this_key j key = ap (λ (c : Bool). if c then found_over p t h key (key_at (map_of j) key j) j else key_at (map_of j) key j) (here j)

  pub this_value : (j : ℕ) (u : Pointer) → value_at (map_of j) u (suc j) ≡ value_over p t h u (value_at (map_of j) u j) j
  this_value j u = ap (λ (c : Bool). if c then value_over p t h u (value_at (map_of j) u j) j else value_at (map_of j) u j) (here j)

  pub this_adds : (j : ℕ) → adds_at (map_of j) (suc j) ≡ adds_at (map_of j) j + bit (adds_key p t.decls h j)
  this_adds j = ap (λ (c : Bool). adds_at (map_of j) j + (if c then bit (adds_key p t.decls h j) else 0)) (here j)

  pub this_takes : (j : ℕ) → takes_at (map_of j) (suc j) ≡ takes_at (map_of j) j + bit (takes_key p t.decls h j)
  this_takes j = ap (λ (c : Bool). takes_at (map_of j) j + (if c then bit (takes_key p t.decls h j) else 0)) (here j)

  other_key : (j : ℕ) (key : List ℕ) → key ≢ key_of j → key_at (map_of j) key (suc j) ≡ key_at (map_of j) key j
  other_key j key other = this_key j key ∙ by (writes p t.decls h j) (bytes_eq (key_of j) key) (found_as (site_at p.sites j).act (written_pointer p t h j) (key_at (map_of j) key j)) refl
    where
      by : (c d : Bool) (x : Pointer) → bytes_eq (key_of j) key ≡ d → (if c && d then x else key_at (map_of j) key j) ≡ key_at (map_of j) key j
      by true true x e = absurd (other (sym ((bytes_eq-Decides (key_of j) key).0 e)))
      by true false x e = refl
      by false d x e = refl

  other_value : (j : ℕ) (u : Pointer) → same_pointer (written_pointer p t h j) u ≡ false → value_at (map_of j) u (suc j) ≡ value_at (map_of j) u j
  other_value j u apart = this_value j u ∙ by (writes p t.decls h j) (same_pointer (written_pointer p t h j) u) (value_as (asked t.decls h (site_at p.sites j)) (value_at (map_of j) u j)) apart
    where
      by : (c d : Bool) (x : List ℕ) → d ≡ false → (if c && d then x else value_at (map_of j) u j) ≡ value_at (map_of j) u j
      by true true x e = cc
      by true false x e = refl
      by false d x e = refl

  -- a pointer to an entry of an earlier update is resolved as it was
  pub resolves : (j : ℕ) (taken more : List ℕ) (u : Pointer) → ((i : ℕ) → i < j → slice_index more i ≡ slice_index taken i) → ((i : ℕ) → u ≡ Pending i → i < j) → resolve more u ≡ resolve taken u
  resolves j taken more Null same low = refl
  resolves j taken more (InSlot n) same low = refl
  resolves j taken more (Pending i) same low = ap InSlot (same i (low i refl))

  pub effect_follows : (j : ℕ) (ts : List (List Slot)) (taken more : List ℕ) (n : ℕ) (s : Slot) → Follows j ts taken → Effect j (get_or ts (map_of j) []) taken more n s →
      Follows (suc j) (slice_set ts (map_of j) (slice_set (get_or ts (map_of j) []) n s)) more
  effect_follows j ts taken more n s f e = record {
    beside = length-set ts (map_of j) new ∙ f.beside;
    long = e.long ∙ f.long;
    tables = λ m l. elim (same_or m (map_of j)) [
      | inl same ↦ subst (λ k. IsTable (decl_of t.decls k) (get_or us k [])) (sym same) (subst (IsTable (decl_of t.decls (map_of j))) (sym at_map) (table_keeps (decl_of t.decls (map_of j)) slots n s (f.tables (map_of j) e.map) e.fits))
      | inr other ↦ subst (IsTable (decl_of t.decls m)) (sym (past m other)) (f.tables m l)
    ];
    keys = λ m key l. elim (same_or m (map_of j)) [
      | inl same ↦ subst (λ k. resolve more (key_at k key (suc j)) ≡ slot_pointer (get_or us k []) key) (sym same) (own_keys key)
      | inr other ↦ ap (resolve more) (other_map j m key other) ∙ resolves j taken more (key_at m key j) e.same_taken (λ i q. f.pending m key i l q) ∙ f.keys m key l ∙ ap (λ xs. slot_pointer xs key) (sym (past m other))
    ];
    pending = λ m key i l q. elim (same_or m (map_of j)) [
      | inl same ↦ own_pending key i (subst (λ k. key_at k key (suc j) ≡ Pending i) same q)
      | inr other ↦ let low = f.pending m key i l (sym (other_map j m key other) ∙ q) in omega (arith, low)
    ];
    values = λ m key k l q. elim (same_or m (map_of j)) [
      | inl same ↦ subst (λ x. value_at x (key_at x key (suc j)) (suc j) ≡ (slot_at (get_or us x []) k).value) (sym same) (own_values key k (subst (λ x. resolve more (key_at x key (suc j)) ≡ InSlot k) same q))
      | inr other ↦
          let u = other_map j m key other in
          let r = resolves j taken more (key_at m key j) e.same_taken (λ i z. f.pending m key i l z) in
          ap (λ x. value_at m x (suc j)) u ∙ other_map_value j m (key_at m key j) other ∙ f.values m key k l (sym r ∙ ap (resolve more) (sym u) ∙ q) ∙ ap (λ xs. (slot_at xs k).value) (sym (past m other))
    ];
    size = λ m l kind. elim (same_or m (map_of j)) [
      | inl same ↦
          subst (λ k. used_count (get_or us k []) + takes_at k (suc j) ≡ used_count (table_at t k) + adds_at k (suc j)) (sym same)
          (subst (λ xs. used_count xs + takes_at (map_of j) (suc j) ≡ used_count (table_at t (map_of j)) + adds_at (map_of j) (suc j)) (sym at_map) (e.size (subst (λ k. (decl_of t.decls k).kind ≡ Hash) same kind)))
      | inr other ↦
          let a : adds_at m (suc j) ≡ adds_at m j + 0 = ap (λ (c : Bool). adds_at m j + (if c then bit (adds_key p t.decls h j) else 0)) (elsewhere j m other) in
          let b : takes_at m (suc j) ≡ takes_at m j + 0 = ap (λ (c : Bool). takes_at m j + (if c then bit (takes_key p t.decls h j) else 0)) (elsewhere j m other) in
          let q = f.size m l kind in
          let u = ap used_count (past m other) in
          omega (arith, a, b, q, u)
    ];
  }
    where
      slots : List Slot
      slots = get_or ts (map_of j) []

      new : List Slot
      new = slice_set slots n s

      us : List (List Slot)
      us = slice_set ts (map_of j) new

      at_map : get_or us (map_of j) [] ≡ new
      at_map = let l = e.map in get_or-set_same ts (map_of j) new [] (omega (arith, l, f.beside))

      past : (m : ℕ) → m ≢ map_of j → get_or us m [] ≡ get_or ts m []
      past m other = get_or-set_other ts (map_of j) m new [] other

      earlier_taken : (key : List ℕ) → key ≢ key_of j → resolve more (key_at (map_of j) key (suc j)) ≡ resolve taken (key_at (map_of j) key j)
      earlier_taken key other = ap (resolve more) (other_key j key other) ∙ resolves j taken more (key_at (map_of j) key j) e.same_taken (λ i q. f.pending (map_of j) key i e.map q)

      own_keys : (key : List ℕ) → resolve more (key_at (map_of j) key (suc j)) ≡ slot_pointer (get_or us (map_of j) []) key
      own_keys key = elim (same_key_or key (key_of j)) [
        | inl same ↦ ap (λ k. resolve more (key_at (map_of j) k (suc j))) same ∙ e.own_key ∙ ap (slot_pointer new) (sym same) ∙ ap (λ xs. slot_pointer xs key) (sym at_map)
        | inr other ↦ earlier_taken key other ∙ f.keys (map_of j) key e.map ∙ sym (pointer_stays slots n s key e.fits.in_range (e.others key other)) ∙ ap (λ xs. slot_pointer xs key) (sym at_map)
      ]

      own_pending : (key : List ℕ) (i : ℕ) → key_at (map_of j) key (suc j) ≡ Pending i → i < suc j
      own_pending key i q = elim (same_key_or key (key_of j)) [
        | inl same ↦ e.own_pending i (ap (λ k. key_at (map_of j) k (suc j)) (sym same) ∙ q)
        | inr other ↦ let low = f.pending (map_of j) key i e.map (sym (other_key j key other) ∙ q) in omega (arith, low)
      ]

      own_values : (key : List ℕ) (k : ℕ) → resolve more (key_at (map_of j) key (suc j)) ≡ InSlot k → value_at (map_of j) (key_at (map_of j) key (suc j)) (suc j) ≡ (slot_at (get_or us (map_of j) []) k).value
      own_values key k q = elim (same_key_or key (key_of j)) [
        | inl same ↦
            ap (λ z. value_at (map_of j) (key_at (map_of j) z (suc j)) (suc j)) same ∙ e.own_value k (ap (λ z. resolve more (key_at (map_of j) z (suc j))) (sym same) ∙ q)
            ∙ ap (λ xs. (slot_at xs k).value) (sym at_map)
        | inr other ↦
            let r : resolve taken (key_at (map_of j) key j) ≡ InSlot k = sym (earlier_taken key other) ∙ q in
            let st = pointer_is slots key k (sym (f.keys (map_of j) key e.map) ∙ r) in
            let away : k ≢ n = λ z. false_true (sym (e.only key other) ∙ ap (λ x. has_key key (slot_at slots x)) (sym z) ∙ st.has) in
            ap (λ u. value_at (map_of j) u (suc j)) (other_key j key other) ∙ other_value j (key_at (map_of j) key j) (e.apart key other) ∙ f.values (map_of j) key k e.map r
            ∙ ap (λ (x : Slot). x.value) (sym (slot_other slots n k s away)) ∙ ap (λ xs. (slot_at xs k).value) (sym at_map)
      ]
