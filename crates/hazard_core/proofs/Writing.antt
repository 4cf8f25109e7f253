-- The three kinds of operations that write: one makes an entry, one writes its value, one takes it away.
use Rattle.std.proofs.Common.{◌≡◌, ◌≢◌, ℕ, suc, ◌+◌, ◌<◌, Bool, true, false, List, [], get_or, length, refl, sym, ap, ◌∙◌, subst, arith, cond, length-set, get_or-set_other, get_or-set_same}
use Rattle.std.specs.Prelude.{◌&&◌, if◌then◌else◌, slice_set, slice_index}
use Rattle.std.specs.Str.{bytes_eq}
use Rattle.std.proofs.lemmas.Bool.Decides.{Decides-eqb}
use Rattle.std.proofs.lemmas.Bool.{and_parts}
use Rattle.std.proofs.lemmas.List.Sums.{sum_by-set}
use Rattle.std.proofs.lemmas.Slice.Eq.{bytes_eq-Decides}
use Rattle.xdp_maps.specs.declared.decl.MapDecl.{MapDecl}
use Rattle.xdp_maps.specs.declared.decl.MapKind.TheVariants.{Hash, Array}
use Rattle.xdp_maps.specs.Contents.{IsBytes}
use Rattle.xdp_maps.specs.Operations.{Operation}
use Rattle.cell_core.specs.declared.site.Act.{Act}
use Rattle.cell_core.specs.declared.site.Act.TheVariants as act
use Rattle.cell_core.specs.Cells.{bit}
use Rattle.cell_core.specs.Sites.{ProgramView, site_at}
use Rattle.hazard_core.specs.Tables.{Slot, no_slot, TableState, decl_of, slot_at, has_key, used_count}
use Rattle.hazard_core.specs.StageValues.{Pointer, Null, InSlot, Pending, same_pointer, is_null, StageValues, asked, pointer_in, found_cell, is_update, is_delete, writes, adds_key, takes_key, slot_pointer, written_pointer}
use Rattle.hazard_core.specs.Overlay.{found_as, value_as}
use Rattle.hazard_core.specs.Tabled.{IsTable}
use Rattle.hazard_core.proofs.Changing.{pointer_tests, unused_key, other_key}
use Rattle.hazard_core.proofs.Slots.{Stands, pointer_is, pointer_null, alone, comes, goes, slot_here, same_key}
use Rattle.hazard_core.proofs.Changing.{pointer_stays, count_stays}
use Rattle.hazard_core.proofs.Effects.{resolve, key_at, value_at, Follows, map_of, key_of, Effect, this_key, this_value, this_adds, this_takes, resolves}

own_bytes : (key : List ℕ) → bytes_eq key key ≡ true
own_bytes key = (bytes_eq-Decides key key).1 refl

itself : (u : Pointer) → same_pointer u u ≡ true
itself Null = refl
itself (InSlot n) = (Decides-eqb n n).1 refl
itself (Pending i) = (Decides-eqb i i).1 refl

-- a used slot more, or less
count_more : (slots : List Slot) (n : ℕ) (s : Slot) → n < length slots → (slot_at slots n).used ≡ false → s.used ≡ true → used_count (slice_set slots n s) ≡ used_count slots + 1
count_more slots n s l e f =
    let number : Bool → ℕ = λ b. cond b 1 0 in
    let q = sum_by-set (λ (x : Slot). number x.used) slots n s no_slot l in
    omega (arith, q, ap number e, ap number f)

count_less : (slots : List Slot) (n : ℕ) (s : Slot) → n < length slots → (slot_at slots n).used ≡ true → s.used ≡ false → used_count (slice_set slots n s) + 1 ≡ used_count slots
count_less slots n s l e f =
    let number : Bool → ℕ = λ b. cond b 1 0 in
    let q = sum_by-set (λ (x : Slot). number x.used) slots n s no_slot l in
    omega (arith, q, ap number e, ap number f)

module _ (p : ProgramView) (t : TableState) (h : StageValues) (j : ℕ) (ts : List (List Slot)) (taken : List ℕ) (f : Follows p t h j ts taken) (on : writes p t.decls h j ≡ true) (map : map_of p t h j < length t.decls) where
  abbrev slots : List Slot
  slots = get_or ts (map_of p t h j) []

  abbrev d : MapDecl
  d = decl_of t.decls (map_of p t h j)

  abbrev key : List ℕ
  key = key_of p t h j

  abbrev op : Operation
  op = asked t.decls h (site_at p.sites j)

  false_true : false ≡ true → ⊥
  false_true e = cc

  -- where the own key is found now, and the value there
  own : key_at p t h (map_of p t h j) (key_of p t h j) (suc j) ≡ found_as (site_at p.sites j).act (written_pointer p t h j) (key_at p t h (map_of p t h j) (key_of p t h j) j)
  own =
      let was = key_at p t h (map_of p t h j) (key_of p t h j) j in
      let new = found_as (site_at p.sites j).act (written_pointer p t h j) was in
      this_key p t h j (key_of p t h j) ∙ ap (λ (c : Bool). if c && bytes_eq (key_of p t h j) (key_of p t h j) then new else was) on ∙ ap (λ (c : Bool). if c then new else was) (own_bytes (key_of p t h j))

  own_value : (u : Pointer) → u ≡ written_pointer p t h j → value_at p t h (map_of p t h j) u (suc j) ≡ value_as (asked t.decls h (site_at p.sites j)) (value_at p t h (map_of p t h j) u j)
  own_value u e =
      let was = value_at p t h (map_of p t h j) u j in
      let new = value_as (asked t.decls h (site_at p.sites j)) was in
      let same : same_pointer (written_pointer p t h j) u ≡ true = ap (same_pointer (written_pointer p t h j)) e ∙ itself (written_pointer p t h j) in
      this_value p t h j u ∙ ap (λ (c : Bool). if c && same_pointer (written_pointer p t h j) u then new else was) on ∙ ap (λ (c : Bool). if c then new else was) same

  -- ---- an entry is made

  pub insert_effect : (n : ℕ) (value : List ℕ) → (site_at p.sites j).act ≡ act.Update → (decl_of t.decls (map_of p t h j)).kind ≡ Hash → written_pointer p t h j ≡ Pending j → key_at p t h (map_of p t h j) (key_of p t h j) j ≡ Null →
      is_null (pointer_in h (found_cell p.cells j)) ≡ true → n < length (get_or ts (map_of p t h j) []) → (slot_at (get_or ts (map_of p t h j) []) n).used ≡ false → IsBytes (decl_of t.decls (map_of p t h j)).key (key_of p t h j) → j < length p.sites →
      ((old : List ℕ) → value_as (asked t.decls h (site_at p.sites j)) old ≡ value) →
      Effect p t h j (get_or ts (map_of p t h j) []) taken (slice_set taken j n) n (record { used = true; key = key_of p t h j; value = value })
  insert_effect n value is kind w none absent l unused bytes in_range sets = record {
    map = map;
    fits = record {
      in_range = l;
      key = λ u. bytes;
      new = λ k e i m away. subst (λ z. has_key z (slot_at slots i) ≡ false) ((bytes_eq-Decides key k).0 e) (pointer_null slots key gone i m);
      kept = λ array. absurd (hash_array (sym kind ∙ array));
    };
    same_taken = λ i m. get_or-set_other taken j i n 0 (λ e. omega (arith, e, m));
    long = length-set taken j n;
    others = λ k other. ap (λ b. true && b) (other_key key k other) ∙ sym (unused_key (slot_at slots n) k unused);
    only = λ k other. unused_key (slot_at slots n) k unused;
    apart = λ k other. new_pointer k (same_pointer (written_pointer p t h j) (key_at p t h (map_of p t h j) k j)) refl;
    own_key = ap (resolve (slice_set taken j n)) at ∙ ap InSlot took ∙ sym stands;
    own_pending = λ i e. let q : j ≡ i = same_pending (sym at ∙ e) in omega (arith, q);
    own_value = λ m e.
        let q : n ≡ m = same_slot (sym took ∙ slots_same (sym (ap (resolve (slice_set taken j n)) at) ∙ e)) in
        ap (λ u. value_at p t h (map_of p t h j) u (suc j)) at ∙ own_value (Pending j) (sym w) ∙ sets (value_at p t h (map_of p t h j) (Pending j) j)
        ∙ ap (λ (x : Slot). x.value) (sym (slot_here slots n s l)) ∙ ap (λ k. (slot_at (slice_set slots n s) k).value) q;
    size = λ hash.
        let a : adds_key p t.decls h j ≡ true = ap (λ c. c && is_update (site_at p.sites j).act && is_null (pointer_in h (found_cell p.cells j))) on ∙ ap (λ (a : Act). is_update a && is_null (pointer_in h (found_cell p.cells j))) is ∙ absent in
        let b : takes_key p t.decls h j ≡ false = ap (λ c. c && is_delete (site_at p.sites j).act) on ∙ ap is_delete is in
        let x = this_adds p t h j in
        let y = this_takes p t h j in
        let z = f.size (map_of p t h j) map hash in
        let c = count_more slots n s l unused refl in
        omega (arith, x, y, z, c, ap bit a, ap bit b);
  }
    where
      s : Slot
      s = record { used = true; key = key_of p t h j; value = value }

      hash_array : Hash ≡ Array → ⊥
      hash_array e = cc

      same_pending : {i : ℕ} → Pending j ≡ Pending i → j ≡ i
      same_pending e = cc

      slots_same : {a b : ℕ} → InSlot a ≡ InSlot b → a ≡ b
      slots_same e = cc

      same_slot : {a b : ℕ} → a ≡ b → a ≡ b
      same_slot e = e

      gone : slot_pointer (get_or ts (map_of p t h j) []) (key_of p t h j) ≡ Null
      gone = sym (f.keys (map_of p t h j) (key_of p t h j) map) ∙ ap (resolve taken) none

      at : key_at p t h (map_of p t h j) (key_of p t h j) (suc j) ≡ Pending j
      at = own ∙ ap (λ (a : Act). found_as a (written_pointer p t h j) (key_at p t h (map_of p t h j) (key_of p t h j) j)) is ∙ w

      took : slice_index (slice_set taken j n) j ≡ n
      took = let q = f.long in get_or-set_same taken j n 0 (omega (arith, q, in_range))

      stands : slot_pointer (slice_set slots n s) key ≡ InSlot n
      stands = comes slots n s key l (own_bytes key) (λ i m away. pointer_null slots key gone i m)

      new_pointer : (k : List ℕ) (c : Bool) → same_pointer (written_pointer p t h j) (key_at p t h (map_of p t h j) k j) ≡ c → c ≡ false
      new_pointer k false e = refl
      new_pointer k true e =
          let q = f.pending (map_of p t h j) k j map (sym (pointer_tests (written_pointer p t h j) (key_at p t h (map_of p t h j) k j) e) ∙ w) in
          absurd (omega (arith, q))

  -- ---- a value is written

  pub write_effect : (n : ℕ) (more : List ℕ) → is_delete (site_at p.sites j).act ≡ false → written_pointer p t h j ≡ key_at p t h (map_of p t h j) (key_of p t h j) j → resolve taken (key_at p t h (map_of p t h j) (key_of p t h j) j) ≡ InSlot n →
      ((decl_of t.decls (map_of p t h j)).kind ≡ Hash → adds_key p t.decls h j ≡ false) → ((i : ℕ) → i < j → slice_index more i ≡ slice_index taken i) → length more ≡ length taken →
      Effect p t h j (get_or ts (map_of p t h j) []) taken more n (record (slot_at (get_or ts (map_of p t h j) []) n) { value = value_as (asked t.decls h (site_at p.sites j)) (slot_at (get_or ts (map_of p t h j) []) n).value })
  write_effect n more stays w there adds same long = record {
    map = map;
    fits = record {
      in_range = st.in_range;
      key = λ u. table.keys n st.in_range u;
      new = λ k e i m away. alone d slots table k n i st.in_range m away e;
      kept = λ array k. refl;
    };
    same_taken = same;
    long = long;
    others = λ k other. refl;
    only = λ k other. other_stands k other;
    apart = λ k other. other_pointer k other (same_pointer (written_pointer p t h j) (key_at p t h (map_of p t h j) k j)) refl;
    own_key = ap (resolve more) at ∙ moved ∙ there ∙ sym (stands ∙ refl);
    own_pending = λ i e. let q = f.pending (map_of p t h j) key i map (sym at ∙ e) in omega (arith, q);
    own_value = λ m e.
        let q : n ≡ m = slots_same (sym there ∙ sym moved ∙ sym (ap (resolve more) at) ∙ e) in
        ap (λ u. value_at p t h (map_of p t h j) u (suc j)) at ∙ own_value was (sym w) ∙ ap (value_as op) (f.values (map_of p t h j) key n map there)
        ∙ ap (λ (x : Slot). x.value) (sym (slot_here slots n s st.in_range)) ∙ ap (λ k. (slot_at (slice_set slots n s) k).value) q;
    size = λ hash.
        let b : takes_key p t.decls h j ≡ false = ap (λ c. c && is_delete (site_at p.sites j).act) on ∙ stays in
        let x = this_adds p t h j in
        let y = this_takes p t h j in
        let z = f.size (map_of p t h j) map hash in
        let c = count_stays slots n s st.in_range refl in
        omega (arith, x, y, z, c, ap bit (adds hash), ap bit b);
  }
    where
      s : Slot
      s = record (slot_at (get_or ts (map_of p t h j) []) n) { value = value_as (asked t.decls h (site_at p.sites j)) (slot_at (get_or ts (map_of p t h j) []) n).value }

      was : Pointer
      was = key_at p t h (map_of p t h j) (key_of p t h j) j

      table : IsTable (decl_of t.decls (map_of p t h j)) (get_or ts (map_of p t h j) [])
      table = f.tables (map_of p t h j) map

      st : Stands (get_or ts (map_of p t h j) []) (key_of p t h j) n
      st = pointer_is (get_or ts (map_of p t h j) []) (key_of p t h j) n (sym (f.keys (map_of p t h j) (key_of p t h j) map) ∙ there)

      slots_same : {a b : ℕ} → InSlot a ≡ InSlot b → a ≡ b
      slots_same e = cc

      found_is : (a : Act) → is_delete a ≡ false → (u : Pointer) → found_as a u u ≡ u
      found_is act.Update e u = refl
      found_is act.Delete e u = cc
      found_is act.Lookup e u = refl
      found_is (act.Load at size) e u = refl
      found_is (act.Store at size) e u = refl
      found_is (act.Atomic at a) e u = refl

      at : key_at p t h (map_of p t h j) (key_of p t h j) (suc j) ≡ key_at p t h (map_of p t h j) (key_of p t h j) j
      at = own ∙ ap (λ (u : Pointer). found_as (site_at p.sites j).act u was) w ∙ found_is (site_at p.sites j).act stays was

      moved : resolve more (key_at p t h (map_of p t h j) (key_of p t h j) j) ≡ resolve taken (key_at p t h (map_of p t h j) (key_of p t h j) j)
      moved = resolves p t h j taken more was same (λ i e. f.pending (map_of p t h j) key i map e)

      stands : slot_pointer (slice_set slots n s) key ≡ InSlot n
      stands = pointer_stays slots n s key st.in_range refl ∙ sym (f.keys (map_of p t h j) key map) ∙ there

      other_stands : (k : List ℕ) → k ≢ key_of p t h j → has_key k (slot_at (get_or ts (map_of p t h j) []) n) ≡ false
      other_stands k other = no (has_key k (slot_at (get_or ts (map_of p t h j) []) n)) refl
        where
          no : (c : Bool) → has_key k (slot_at (get_or ts (map_of p t h j) []) n) ≡ c → c ≡ false
          no false e = refl
          no true e = absurd (other (same_key k (key_of p t h j) (slot_at (get_or ts (map_of p t h j) []) n) e st.has))

      other_pointer : (k : List ℕ) → k ≢ key_of p t h j → (c : Bool) → same_pointer (written_pointer p t h j) (key_at p t h (map_of p t h j) k j) ≡ c → c ≡ false
      other_pointer k other false e = refl
      other_pointer k other true e =
          let q : key_at p t h (map_of p t h j) k j ≡ was = sym (pointer_tests (written_pointer p t h j) (key_at p t h (map_of p t h j) k j) e) ∙ w in
          let r = pointer_is (get_or ts (map_of p t h j) []) k n (sym (f.keys (map_of p t h j) k map) ∙ ap (resolve taken) q ∙ there) in
          absurd (false_true (sym (other_stands k other) ∙ r.has))

  -- ---- an entry is taken away

  pub remove_effect : (n : ℕ) → (site_at p.sites j).act ≡ act.Delete → (decl_of t.decls (map_of p t h j)).kind ≡ Hash → written_pointer p t h j ≡ key_at p t h (map_of p t h j) (key_of p t h j) j →
      resolve taken (key_at p t h (map_of p t h j) (key_of p t h j) j) ≡ InSlot n → Effect p t h j (get_or ts (map_of p t h j) []) taken taken n (record (slot_at (get_or ts (map_of p t h j) []) n) { used = false })
  remove_effect n is kind w there = record {
    map = map;
    fits = record {
      in_range = st.in_range;
      key = λ u. cc;
      new = λ k e i m away. absurd (false_true e);
      kept = λ array. absurd (hash_array (sym kind ∙ array));
    };
    same_taken = λ i l. refl;
    long = refl;
    others = λ k other. sym (other_stands k other);
    only = λ k other. other_stands k other;
    apart = λ k other. other_pointer k other (same_pointer (written_pointer p t h j) (key_at p t h (map_of p t h j) k j)) refl;
    own_key = ap (resolve taken) at ∙ sym (goes slots n s key st.in_range refl (λ i m away. alone d slots table key n i st.in_range m away st.has));
    own_pending = λ i e. absurd (no_pending (sym at ∙ e));
    own_value = λ m e. absurd (no_slot_there (sym (ap (resolve taken) at) ∙ e));
    size = λ hash.
        let a : adds_key p t.decls h j ≡ false = ap (λ c. c && is_update (site_at p.sites j).act && is_null (pointer_in h (found_cell p.cells j))) on ∙ ap (λ (a : Act). is_update a && is_null (pointer_in h (found_cell p.cells j))) is in
        let b : takes_key p t.decls h j ≡ true = ap (λ c. c && is_delete (site_at p.sites j).act) on ∙ ap is_delete is in
        let x = this_adds p t h j in
        let y = this_takes p t h j in
        let z = f.size (map_of p t h j) map hash in
        let used = (and_parts (slot_at slots n).used (bytes_eq (slot_at slots n).key key) st.has).0 in
        let c = count_less slots n s st.in_range used refl in
        omega (arith, x, y, z, c, ap bit a, ap bit b);
  }
    where
      s : Slot
      s = record (slot_at (get_or ts (map_of p t h j) []) n) { used = false }

      hash_array : Hash ≡ Array → ⊥
      hash_array e = cc

      no_pending : {i : ℕ} → Null ≡ Pending i → ⊥
      no_pending e = cc

      no_slot_there : {m : ℕ} → Null ≡ InSlot m → ⊥
      no_slot_there e = cc

      table : IsTable (decl_of t.decls (map_of p t h j)) (get_or ts (map_of p t h j) [])
      table = f.tables (map_of p t h j) map

      st : Stands (get_or ts (map_of p t h j) []) (key_of p t h j) n
      st = pointer_is (get_or ts (map_of p t h j) []) (key_of p t h j) n (sym (f.keys (map_of p t h j) (key_of p t h j) map) ∙ there)

      at : key_at p t h (map_of p t h j) (key_of p t h j) (suc j) ≡ Null
      at = own ∙ ap (λ (a : Act). found_as a (written_pointer p t h j) (key_at p t h (map_of p t h j) (key_of p t h j) j)) is

      other_stands : (k : List ℕ) → k ≢ key_of p t h j → has_key k (slot_at (get_or ts (map_of p t h j) []) n) ≡ false
      other_stands k other = no (has_key k (slot_at (get_or ts (map_of p t h j) []) n)) refl
        where
          no : (c : Bool) → has_key k (slot_at (get_or ts (map_of p t h j) []) n) ≡ c → c ≡ false
          no false e = refl
          no true e = absurd (other (same_key k (key_of p t h j) (slot_at (get_or ts (map_of p t h j) []) n) e st.has))

      other_pointer : (k : List ℕ) → k ≢ key_of p t h j → (c : Bool) → same_pointer (written_pointer p t h j) (key_at p t h (map_of p t h j) k j) ≡ c → c ≡ false
      other_pointer k other false e = refl
      other_pointer k other true e =
          let q : key_at p t h (map_of p t h j) k j ≡ key_at p t h (map_of p t h j) (key_of p t h j) j = sym (pointer_tests (written_pointer p t h j) (key_at p t h (map_of p t h j) k j) e) ∙ w in
          let r = pointer_is (get_or ts (map_of p t h j) []) k n (sym (f.keys (map_of p t h j) k map) ∙ ap (resolve taken) q ∙ there) in
          absurd (false_true (sym (other_stands k other) ∙ r.has))
