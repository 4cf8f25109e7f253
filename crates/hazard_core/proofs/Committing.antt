-- Each operation of a packet on its path, committed in its turn.
use Rattle.std.proofs.Common.{◌≡◌, ℕ, ◌+◌, ◌<◌, Bool, true, false, List, [], Some, None, get_or, length, refl, sym, ap, ◌∙◌, subst, arith, not, length-set, get_or-set_other}
use Rattle.std.specs.Prelude.{◌&&◌, ◌==◌, if◌then◌else◌, nat_lt, nat_le, slice_set, slice_index, count_by, map as map_list}
use Rattle.std.specs.Int.{w64, cast_unsigned}
use Rattle.std.specs.Str.{bytes_eq}
use Rattle.std.proofs.lemmas.Bool.Decides.{nat_tests, Decides-eqb}
use Rattle.std.proofs.lemmas.Bool.{and_parts}
use Rattle.std.proofs.lemmas.Slice.Eq.{bytes_eq-Decides}
use Rattle.xdp_maps.specs.declared.decl.MapKind.{MapKind}
use Rattle.xdp_maps.specs.declared.decl.MapKind.TheVariants.{Hash, Array}
use Rattle.xdp_maps.specs.declared.errno.TheConstants.{ENOENT, E2BIG, EEXIST, EINVAL}
use Rattle.xdp_maps.specs.Contents.{IsBytes, limits_as, index_key, index_of}
use Rattle.xdp_maps.specs.Laws.{IndexLaws}
use Rattle.xdp_maps.specs.Calls.{number_of}
use Rattle.xdp_maps.specs.Operations.{Operation, key_in}
use Rattle.cell_core.specs.declared.site.Act.{Act}
use Rattle.cell_core.specs.declared.site.Act.TheVariants as act
use Rattle.cell_core.specs.Sites.{ProgramView, site_at, operation_with, bytes_of}
use Rattle.cell_core.specs.Formed.{AllFit}
use Rattle.hazard_core.specs.Tables.{Slot, TableState, decl_of, table_at, slot_at, has_key, free_slot, used_count}
use Rattle.hazard_core.specs.StageValues.{Pointer, Null, InSlot, Pending, same_pointer, is_null, StageValues, stage_value, pointer_in, guard_on, asked, asked_key, access_pointer, found_cell, answer_cell, is_update, is_delete, writes_as, writes, adds_key, takes_key, update_pointer, slot_pointer, written_as, written_pointer}
use Rattle.hazard_core.specs.Overlay.{key_pointer, looks, value_as, update_answer, delete_answer, answer_as}
use Rattle.hazard_core.specs.Commits.{makes_entry, slot_under, written_slot, slot_as, taken_after}
use Rattle.hazard_core.specs.Changes.{with_tables, IsRightCommit}
use Rattle.hazard_core.specs.Tabled.{IsFilledTable, AreTables}
use Rattle.hazard_core.specs.Replay.{earlier, HoldsReads, is_access, asks, says_done}
use Rattle.hazard_core.proofs.Changing.{pointer_stays}
use Rattle.hazard_core.proofs.Slots.{Stands, alone, comes, goes, pointer_null, pointer_is, pointer_only, pointer_no_pending, has_free, free_is_unused}
use Rattle.hazard_core.proofs.Effects.{resolve, key_at, Follows, map_of, key_of, Effect}
use Rattle.hazard_core.proofs.Writing.{insert_effect, write_effect, remove_effect}
use Rattle.hazard_core.proofs.Finding.{asked_bytes, array_key, key_found, found_key, adds_fold, takes_fold, reaches}

no_case : true ≡ false → ⊥
no_case e = cc

-- ---- what a done answer says

pub hash_tests : (a b c d e : Bool) → (cast_unsigned w64 (number_of (if a then Some EINVAL else if b && c then Some EEXIST else if d && not c then Some ENOENT else if not c && e then Some E2BIG else None)) == 0) ≡ true → (a ≡ false) × (c ≡ false → e ≡ false)
hash_tests true b c d e q = cc
hash_tests false true true d e q = cc
hash_tests false false true d e q = (refl, λ z. absurd (no_case z))
hash_tests false true false true e q = cc
hash_tests false false false true e q = cc
hash_tests false true false false true q = cc
hash_tests false false false false true q = cc
hash_tests false b false false false q = (refl, λ z. refl)

pub array_tests : (a b c : Bool) → (cast_unsigned w64 (number_of (if a then Some EINVAL else if b then Some E2BIG else if c then Some EEXIST else None)) == 0) ≡ true → b ≡ false
array_tests true b c q = cc
array_tests false true c q = cc
array_tests false false c q = refl

pub delete_tests : (c : Bool) → (cast_unsigned w64 (delete_answer Hash c) == 0) ≡ true → c ≡ true
delete_tests true q = refl
delete_tests false q = cc

-- ---- pointers

record Resolved (taken : List ℕ) (j : ℕ) (u : Pointer) : Type 0 where
  n : ℕ
  at : resolve taken u ≡ InSlot n
  under : (slots : List Slot) → slot_under slots taken j u ≡ n
  apart : same_pointer u (Pending j) ≡ false

resolved : (taken : List ℕ) (j : ℕ) (u : Pointer) → is_null u ≡ false → ((i : ℕ) → u ≡ Pending i → i < j) → Resolved taken j u
resolved taken j Null e low = cc
resolved taken j (InSlot n) e low = record { n = n; at = refl; under = λ slots. refl; apart = refl }
resolved taken j (Pending i) e low = record {
  n = slice_index taken i;
  at = refl;
  under = λ slots. ap (λ (c : Bool). if c then free_slot slots else slice_index taken i) other;
  apart = other;
}
  where
    other : (i == j) ≡ false
    other = by (i == j) refl
      where
        by : (c : Bool) → (i == j) ≡ c → c ≡ false
        by true q = let l = low i refl in absurd (omega (arith, l, (Decides-eqb i j).0 q))
        by false q = refl

value_slot : (a : Act) → is_delete a ≡ false → (op : Operation) (key : List ℕ) (s : Slot) → slot_as a false op key s ≡ record s { value = value_as op s.value }
value_slot act.Update e op key s = refl
value_slot act.Delete e op key s = cc
value_slot act.Lookup e op key s = refl
value_slot (act.Load at size) e op key s = refl
value_slot (act.Store at size) e op key s = refl
value_slot (act.Atomic at a) e op key s = refl

and_false : (c : Bool) → c && false ≡ false
and_false true = refl
and_false false = refl

module _ (laws : IndexLaws) (p : ProgramView) (t : TableState) (h : StageValues) (base : AreTables t) (fit : AllFit t.decls p.sites) (reads : HoldsReads p t h) where
  -- what the commit of site j does
  pub record Commit (j : ℕ) (ts : List (List Slot)) (taken : List ℕ) : Type 0 where
    pub n : ℕ
    pub s : Slot
    pub more : List ℕ
    pub effect : Effect p t h j (get_or ts (map_of p t h j) []) taken more n s
    pub slot : written_slot p (with_tables t ts) taken h j ≡ n
    pub new : slot_as (site_at p.sites j).act (makes_entry p (with_tables t ts) h j) (asked t.decls h (site_at p.sites j)) (asked_key t.decls h (site_at p.sites j)) (slot_at (get_or ts (map_of p t h j) []) n) ≡ s
    pub took : taken_after p (with_tables t ts) taken h j ≡ more
    pub right : IsRightCommit p (with_tables t ts) taken h j
    pub lands : is_delete (site_at p.sites j).act ≡ false → slot_pointer (slice_set (get_or ts (map_of p t h j) []) n s) (key_of p t h j) ≡ InSlot n
    pub gone : is_delete (site_at p.sites j).act ≡ true → slot_pointer (slice_set (get_or ts (map_of p t h j) []) n s) (key_of p t h j) ≡ Null
    pub stood : is_update (site_at p.sites j).act ≡ false → slot_pointer (get_or ts (map_of p t h j) []) (key_of p t h j) ≡ InSlot n

  module _ (j : ℕ) (ts : List (List Slot)) (taken : List ℕ) (l : j < length p.sites) (f : Follows p t h j ts taken) (on : writes p t.decls h j ≡ true) where
    abbrev m : ℕ
    m = map_of p t h j

    abbrev u : Pointer
    u = key_at p t h (map_of p t h j) (key_of p t h j) j

    abbrev w : TableState
    w = with_tables t ts

    abbrev slots : List Slot
    slots = get_or ts (map_of p t h j) []

    abbrev kind : MapKind
    kind = (decl_of t.decls (map_of p t h j)).kind

    in_map : map_of p t h j < length t.decls
    in_map = (fit j l).map

    map_there : map_of p t h j < length ts
    map_there = let a = in_map in let b = f.beside in omega (arith, a, b)

    guard : guard_on h (site_at p.sites j) ≡ true
    guard = (and_parts (guard_on h (site_at p.sites j)) (writes_as (site_at p.sites j).act (decl_of t.decls (site_at p.sites j).map).kind (stage_value h (answer_cell p.cells j))) on).0

    low : (i : ℕ) → key_at p t h (map_of p t h j) (key_of p t h j) j ≡ Pending i → i < j
    low i e = f.pending (map_of p t h j) (key_of p t h j) i in_map e

    stands : (n : ℕ) → resolve taken (key_at p t h (map_of p t h j) (key_of p t h j) j) ≡ InSlot n → Stands (get_or ts (map_of p t h j) []) (key_of p t h j) n
    stands n e = pointer_is (get_or ts (map_of p t h j) []) (key_of p t h j) n (sym (f.keys (map_of p t h j) (key_of p t h j) in_map) ∙ e)

    -- ---- a value is written
    write_commit : is_delete (site_at p.sites j).act ≡ false → written_pointer p (with_tables t ts) h j ≡ written_pointer p t h j → written_pointer p t h j ≡ key_at p t h (map_of p t h j) (key_of p t h j) j →
        is_null (key_at p t h (map_of p t h j) (key_of p t h j) j) ≡ false → ((decl_of t.decls (map_of p t h j)).kind ≡ Hash → adds_key p t.decls h j ≡ false) → Commit j ts taken
    write_commit stays same at some adds = record {
      n = r.n;
      s = record (slot_at slots r.n) { value = value_as (asked t.decls h (site_at p.sites j)) (slot_at slots r.n).value };
      more = taken_after p w taken h j;
      effect = write_effect p t h j ts taken f on in_map r.n (taken_after p w taken h j) stays at r.at adds (λ i b. earlier_taken i b (is_update (site_at p.sites j).act)) (long (is_update (site_at p.sites j).act));
      slot = there;
      new = ap (λ (c : Bool). slot_as (site_at p.sites j).act c (asked t.decls h (site_at p.sites j)) (asked_key t.decls h (site_at p.sites j)) (slot_at slots r.n)) makes
          ∙ value_slot (site_at p.sites j).act stays (asked t.decls h (site_at p.sites j)) (asked_key t.decls h (site_at p.sites j)) (slot_at slots r.n);
      took = refl;
      right = record {
        map = map_there;
        slot = let a = (stands r.n r.at).in_range in omega (arith, a, there);
        used = λ d. absurd (no_case (sym d ∙ stays));
        key = λ d. absurd (no_case (sym d ∙ stays));
      };
      lands = λ d. pointer_stays slots r.n (record (slot_at slots r.n) { value = value_as (asked t.decls h (site_at p.sites j)) (slot_at slots r.n).value }) (key_of p t h j) (stands r.n r.at).in_range refl ∙ was_there;
      gone = λ d. absurd (no_case (sym d ∙ stays));
      stood = λ d. was_there;
    }
      where
        r : Resolved taken j (key_at p t h (map_of p t h j) (key_of p t h j) j)
        r = resolved taken j (key_at p t h (map_of p t h j) (key_of p t h j) j) some low

        there : written_slot p (with_tables t ts) taken h j ≡ r.n
        there = ap (slot_under slots taken j) (same ∙ at) ∙ r.under slots

        was_there : slot_pointer (get_or ts (map_of p t h j) []) (key_of p t h j) ≡ InSlot r.n
        was_there = sym (f.keys (map_of p t h j) (key_of p t h j) in_map) ∙ r.at

        makes : makes_entry p (with_tables t ts) h j ≡ false
        makes = ap (λ q. is_update (site_at p.sites j).act && same_pointer q (Pending j)) (same ∙ at) ∙ ap (λ c. is_update (site_at p.sites j).act && c) r.apart ∙ and_false (is_update (site_at p.sites j).act)

        earlier_taken : (i : ℕ) → i < j → (c : Bool) → slice_index (if c then slice_set taken j (written_slot p (with_tables t ts) taken h j) else taken) i ≡ slice_index taken i
        earlier_taken i b true = get_or-set_other taken j i (written_slot p (with_tables t ts) taken h j) 0 (λ e. omega (arith, e, b))
        earlier_taken i b false = refl

        long : (c : Bool) → length (if c then slice_set taken j (written_slot p (with_tables t ts) taken h j) else taken) ≡ length taken
        long true = length-set taken j (written_slot p (with_tables t ts) taken h j)
        long false = refl

    -- ---- an entry is taken away
    remove_commit : (site_at p.sites j).act ≡ act.Delete → (decl_of t.decls (map_of p t h j)).kind ≡ Hash → written_pointer p (with_tables t ts) h j ≡ written_pointer p t h j → written_pointer p t h j ≡ key_at p t h (map_of p t h j) (key_of p t h j) j →
        is_null (key_at p t h (map_of p t h j) (key_of p t h j) j) ≡ false → Commit j ts taken
    remove_commit is hash same at some = record {
      n = r.n;
      s = record (slot_at slots r.n) { used = false };
      more = taken;
      effect = remove_effect p t h j ts taken f on in_map r.n is hash at r.at;
      slot = there;
      new = ap (λ (a : Act). slot_as a (makes_entry p w h j) (asked t.decls h (site_at p.sites j)) (asked_key t.decls h (site_at p.sites j)) (slot_at slots r.n)) is;
      took = ap (λ (a : Act). if is_update a then slice_set taken j (written_slot p w taken h j) else taken) is;
      right = record {
        map = map_there;
        slot = omega (arith, st.in_range, there);
        used = λ d. ap (λ k. (slot_at slots k).used) there ∙ st_parts.0;
        key = λ d. ap (λ k. (slot_at slots k).key) there ∙ (bytes_eq-Decides (slot_at slots r.n).key (key_of p t h j)).0 st_parts.1;
      };
      lands = λ d. absurd (no_case (sym (ap is_delete is) ∙ d));
      gone = λ d. goes slots r.n (record (slot_at slots r.n) { used = false }) (key_of p t h j) st.in_range refl (λ i m away. alone (decl_of t.decls (map_of p t h j)) slots (f.tables (map_of p t h j) in_map) (key_of p t h j) r.n i st.in_range m away st.has);
      stood = λ d. sym (f.keys (map_of p t h j) (key_of p t h j) in_map) ∙ r.at;
    }
      where
        r : Resolved taken j (key_at p t h (map_of p t h j) (key_of p t h j) j)
        r = resolved taken j (key_at p t h (map_of p t h j) (key_of p t h j) j) some low

        there : written_slot p (with_tables t ts) taken h j ≡ r.n
        there = ap (slot_under slots taken j) (same ∙ at) ∙ r.under slots

        st : Stands (get_or ts (map_of p t h j) []) (key_of p t h j) r.n
        st = stands r.n r.at

        st_parts : ((slot_at (get_or ts (map_of p t h j) []) r.n).used ≡ true) × (bytes_eq (slot_at (get_or ts (map_of p t h j) []) r.n).key (key_of p t h j) ≡ true)
        st_parts = and_parts (slot_at (get_or ts (map_of p t h j) []) r.n).used (bytes_eq (slot_at (get_or ts (map_of p t h j) []) r.n).key (key_of p t h j)) st.has

    -- ---- an entry is made
    insert_commit : (site_at p.sites j).act ≡ act.Update → (decl_of t.decls (map_of p t h j)).kind ≡ Hash → written_pointer p (with_tables t ts) h j ≡ written_pointer p t h j → written_pointer p t h j ≡ Pending j →
        key_at p t h (map_of p t h j) (key_of p t h j) j ≡ Null → is_null (pointer_in h (found_cell p.cells j)) ≡ true → used_count (get_or ts (map_of p t h j) []) < length (get_or ts (map_of p t h j) []) → Commit j ts taken
    insert_commit is hash same at none absent room = record {
      n = free_slot slots;
      s = record { used = true; key = key_of p t h j; value = value_as (asked t.decls h (site_at p.sites j)) (slot_at slots (free_slot slots)).value };
      more = slice_set taken j (free_slot slots);
      effect = insert_effect p t h j ts taken f on in_map (free_slot slots) (value_as (asked t.decls h (site_at p.sites j)) (slot_at slots (free_slot slots)).value) is hash at none absent (has_free slots room)
          (free_is_unused slots (has_free slots room)) (asked_bytes p t.decls h j fit l) l sets;
      slot = there;
      new = ap (λ (c : Bool). slot_as (site_at p.sites j).act c (asked t.decls h (site_at p.sites j)) (asked_key t.decls h (site_at p.sites j)) (slot_at slots (free_slot slots))) makes
          ∙ ap (λ (a : Act). slot_as a true (asked t.decls h (site_at p.sites j)) (asked_key t.decls h (site_at p.sites j)) (slot_at slots (free_slot slots))) is;
      took = ap (λ (a : Act). if is_update a then slice_set taken j (written_slot p w taken h j) else taken) is ∙ ap (slice_set taken j) there;
      right = record {
        map = map_there;
        slot = omega (arith, has_free slots room, there);
        used = λ d. absurd (no_case (sym d ∙ ap is_delete is));
        key = λ d. absurd (no_case (sym d ∙ ap is_delete is));
      };
      lands = λ d. comes slots (free_slot slots) (record { used = true; key = key_of p t h j; value = value_as (asked t.decls h (site_at p.sites j)) (slot_at slots (free_slot slots)).value }) (key_of p t h j) (has_free slots room)
          ((bytes_eq-Decides (key_of p t h j) (key_of p t h j)).1 refl) (λ i m away. pointer_null slots (key_of p t h j) (sym (f.keys (map_of p t h j) (key_of p t h j) in_map) ∙ ap (resolve taken) none) i m);
      gone = λ d. absurd (no_case (sym d ∙ ap is_delete is));
      stood = λ d. absurd (no_case (sym (ap is_update is) ∙ d));
    }
      where
        itself : (j == j) ≡ true
        itself = (Decides-eqb j j).1 refl

        there : written_slot p (with_tables t ts) taken h j ≡ free_slot (get_or ts (map_of p t h j) [])
        there = ap (slot_under slots taken j) (same ∙ at) ∙ ap (λ (c : Bool). if c then free_slot slots else slice_index taken j) itself

        makes : makes_entry p (with_tables t ts) h j ≡ true
        makes = ap (λ q. is_update (site_at p.sites j).act && same_pointer q (Pending j)) (same ∙ at) ∙ ap (λ c. is_update (site_at p.sites j).act && c) itself ∙ ap (λ (a : Act). is_update a && true) is

        sets : (old : List ℕ) → value_as (asked t.decls h (site_at p.sites j)) old ≡ value_as (asked t.decls h (site_at p.sites j)) (slot_at (get_or ts (map_of p t h j) []) (free_slot (get_or ts (map_of p t h j) []))).value
        sets old =
            let s = site_at p.sites j in
            let value : Act → List ℕ → List ℕ = λ a. value_as (operation_with (decl_of t.decls s.map) a (map_list (stage_value h) s.key) (map_list (stage_value h) s.operands)) in
            ap (λ (a : Act). value a old) is ∙ ap (λ (a : Act). value a (slot_at slots (free_slot slots)).value) (sym is)

    -- ---- which it is, by the operation

    abbrev key : List ℕ
    key = bytes_of (decl_of t.decls (site_at p.sites j).map).key (map_list (stage_value h) (site_at p.sites j).key)

    abbrev operands : List ℕ
    operands = map_list (stage_value h) (site_at p.sites j).operands

    -- what an operation answers, were it the one of site j
    abbrev pub answered : Act → ℕ
    answered a = answer_as a (operation_with (decl_of t.decls (site_at p.sites j).map) a (map_list (stage_value h) (site_at p.sites j).key) (map_list (stage_value h) (site_at p.sites j).operands)) p t h (earlier p j) j

    -- a site that says that it was done answered 0
    pub done : says_done (site_at p.sites j).act (decl_of t.decls (map_of p t h j)).kind ≡ true → (stage_value h (answer_cell p.cells j) == 0) ≡ true → (a : Act) → (site_at p.sites j).act ≡ a → (answered a == 0) ≡ true
    done says done_zero a is = ap (λ (a : Act). answered a == 0) (sym is) ∙ sym (reads.done j l guard says) ∙ done_zero

    update_hash : (site_at p.sites j).act ≡ act.Update → (decl_of t.decls (map_of p t h j)).kind ≡ Hash → (stage_value h (answer_cell p.cells j) == 0) ≡ true → Commit j ts taken
    update_hash is hash done_zero = by (key_at p t h m (key_of p t h j) j) refl
      where
        flags : ℕ
        flags = slice_index operands 0

        present : Bool
        present = not (is_null (key_pointer p t h (earlier p j) j))

        plus : ℕ
        plus = used_count (table_at t m) + count_by (adds_key p t.decls h) (earlier p j)

        minus : ℕ
        minus = count_by (takes_key p t.decls h) (earlier p j)

        says : says_done (site_at p.sites j).act (decl_of t.decls (map_of p t h j)).kind ≡ true
        says = ap (λ (a : Act). says_done a (decl_of t.decls m).kind) is

        zero_answer : (cast_unsigned w64 (update_answer Hash (decl_of t.decls (map_of p t h j)) (used_count (table_at t (map_of p t h j)) + count_by (adds_key p t.decls h) (earlier p j)) (count_by (takes_key p t.decls h) (earlier p j))
            (not (is_null (key_pointer p t h (earlier p j) j))) (bytes_of (decl_of t.decls (site_at p.sites j).map).key (map_list (stage_value h) (site_at p.sites j).key)) (slice_index (map_list (stage_value h) (site_at p.sites j).operands) 0)) == 0) ≡ true
        zero_answer = subst (λ k. (cast_unsigned w64 (update_answer k (decl_of t.decls m) plus minus present key flags) == 0) ≡ true) hash (done says done_zero act.Update is)

        facts : (nat_lt 2 (slice_index (map_list (stage_value h) (site_at p.sites j).operands) 0) ≡ false)
            × (not (is_null (key_pointer p t h (earlier p j) j)) ≡ false → nat_le ((decl_of t.decls (map_of p t h j)).cap + count_by (takes_key p t.decls h) (earlier p j)) (used_count (table_at t (map_of p t h j)) + count_by (adds_key p t.decls h) (earlier p j)) ≡ false)
        facts = hash_tests (nat_lt 2 flags) (flags == 1) present (flags == 2) (nat_le ((decl_of t.decls m).cap + minus) plus) zero_answer

        looked : looks (asked t.decls h (site_at p.sites j)) ≡ true
        looked = ap (λ (a : Act). looks (operation_with (decl_of t.decls (site_at p.sites j).map) a (map_list (stage_value h) (site_at p.sites j).key) operands)) is ∙ ap not facts.0

        found : pointer_in h (found_cell p.cells j) ≡ key_at p t h (map_of p t h j) (key_of p t h j) j
        found = found_key p t h reads j l guard (ap (λ (a : Act). asks a (decl_of t.decls m).kind) is ∙ ap (asks act.Update) hash) looked

        pointer : written_pointer p t h j ≡ update_pointer j (pointer_in h (found_cell p.cells j))
        pointer = ap (λ (a : Act). written_as a (decl_of t.decls m).kind p t h j) is ∙ ap (λ k. written_as act.Update k p t h j) hash

        same : written_pointer p (with_tables t ts) h j ≡ written_pointer p t h j
        same = ap (λ (a : Act). written_as a (decl_of t.decls m).kind p w h j) is ∙ ap (λ k. written_as act.Update k p w h j) hash ∙ sym pointer

        room : is_null (key_at p t h (map_of p t h j) (key_of p t h j) j) ≡ true → used_count (get_or ts (map_of p t h j) []) < length (get_or ts (map_of p t h j) [])
        room none =
            let some : present ≡ false = ap (λ q. not (is_null q)) (key_found p t h j) ∙ ap not none in
            let less = facts.1 some in
            let c : plus < (decl_of t.decls m).cap + minus = grind (arith, nat_tests) in
            let a = adds_fold p t h m j in
            let b = takes_fold p t h m j in
            let z = f.size m in_map hash in
            let n = (f.tables m in_map).count in
            omega (arith, c, a, b, z, n)

        writes_there : (q : Pointer) → key_at p t h (map_of p t h j) (key_of p t h j) j ≡ q → is_null q ≡ false → Commit j ts taken
        writes_there q e some =
            let some_found : is_null (pointer_in h (found_cell p.cells j)) ≡ false = ap is_null (found ∙ e) ∙ some in
            write_commit (ap is_delete is) same (pointer ∙ ap (λ (c : Bool). if c then Pending j else pointer_in h (found_cell p.cells j)) some_found ∙ found) (ap is_null e ∙ some)
            (λ k. ap (λ c. c && is_update (site_at p.sites j).act && is_null (pointer_in h (found_cell p.cells j))) on ∙ ap (λ c. is_update (site_at p.sites j).act && c) some_found ∙ and_false (is_update (site_at p.sites j).act))

        by : (q : Pointer) → key_at p t h (map_of p t h j) (key_of p t h j) j ≡ q → Commit j ts taken
        by Null e =
            let none : is_null (pointer_in h (found_cell p.cells j)) ≡ true = ap is_null (found ∙ e) in
            insert_commit is hash same (pointer ∙ ap (λ (c : Bool). if c then Pending j else pointer_in h (found_cell p.cells j)) none) e none (room (ap is_null e))
        by (InSlot n) e = writes_there (InSlot n) e refl
        by (Pending i) e = writes_there (Pending i) e refl

    update_array : (site_at p.sites j).act ≡ act.Update → (decl_of t.decls (map_of p t h j)).kind ≡ Array → (stage_value h (answer_cell p.cells j) == 0) ≡ true → Commit j ts taken
    update_array is array done_zero = write_commit (ap is_delete is) (pointer_on w ∙ sym (slots_same) ∙ sym (pointer_on t)) (pointer_on t ∙ sym stays) some (λ hash. absurd (no_kind (sym array ∙ hash)))
      where
        no_kind : Array ≡ Hash → ⊥
        no_kind e = cc

        stays : key_at p t h (map_of p t h j) (key_of p t h j) j ≡ slot_pointer (table_at t (map_of p t h j)) (key_of p t h j)
        stays = array_key p t h m (key_of p t h j) j array

        pointer_on : (v : TableState) → written_as (site_at p.sites j).act (decl_of t.decls (map_of p t h j)).kind p (with_tables t v.tables) h j ≡ slot_pointer (table_at (with_tables t v.tables) (map_of p t h j)) (key_of p t h j)
        pointer_on v = ap (λ (a : Act). written_as a (decl_of t.decls m).kind p (with_tables t v.tables) h j) is ∙ ap (λ k. written_as act.Update k p (with_tables t v.tables) h j) array

        no_pending : (q : Pointer) → ((i : ℕ) → q ≡ Pending i → ⊥) → resolve taken q ≡ q
        no_pending Null none = refl
        no_pending (InSlot n) none = refl
        no_pending (Pending i) none = absurd (none i refl)

        slots_same : slot_pointer (table_at t (map_of p t h j)) (key_of p t h j) ≡ slot_pointer (get_or ts (map_of p t h j) []) (key_of p t h j)
        slots_same =
            sym stays ∙ sym (no_pending u (λ i e. pointer_no_pending (table_at t m) (key_of p t h j) i (sym stays ∙ e))) ∙ f.keys m (key_of p t h j) in_map

        flags : ℕ
        flags = slice_index operands 0

        says : says_done (site_at p.sites j).act (decl_of t.decls (map_of p t h j)).kind ≡ true
        says = ap (λ (a : Act). says_done a (decl_of t.decls m).kind) is

        in_range : nat_le (decl_of t.decls (map_of p t h j)).cap (index_of (bytes_of (decl_of t.decls (site_at p.sites j).map).key (map_list (stage_value h) (site_at p.sites j).key))) ≡ false
        in_range = array_tests (nat_lt 2 flags) (nat_le (decl_of t.decls m).cap (index_of key)) (flags == 1)
            (subst (λ k. (cast_unsigned w64 (update_answer k (decl_of t.decls m) (used_count (table_at t m) + count_by (adds_key p t.decls h) (earlier p j)) (count_by (takes_key p t.decls h) (earlier p j)) (not (is_null (key_pointer p t h (earlier p j) j))) key flags) == 0) ≡ true) array (done says done_zero act.Update is))

        key_same : key_of p t h j ≡ bytes_of (decl_of t.decls (site_at p.sites j).map).key (map_list (stage_value h) (site_at p.sites j).key)
        key_same = ap (λ (a : Act). key_in (operation_with (decl_of t.decls (site_at p.sites j).map) a (map_list (stage_value h) (site_at p.sites j).key) operands)) is

        some : is_null (key_at p t h (map_of p t h j) (key_of p t h j) j) ≡ false
        some =
            let d = decl_of t.decls m in
            let k = key_of p t h j in
            let limit : limits_as Array d = subst (λ k. limits_as k d) array (base.limits m in_map).by_kind in
            let table = base.each m in_map in
            let n = index_of k in
            let e : nat_le d.cap n ≡ false = ap (λ z. nat_le d.cap (index_of z)) key_same ∙ in_range in
            let below : n < d.cap = grind (arith, nat_tests) in
            let c = table.count in
            let there : n < length (table_at t m) = omega (arith, below, c) in
            let all : IsFilledTable Array (table_at t m) = subst (λ k. IsFilledTable k (table_at t m)) array table.filled in
            let back : index_key n ≡ k = laws.key_back k (subst (λ n. IsBytes n k) limit.0 (asked_bytes p t.decls h j fit l)) in
            ap is_null (stays ∙ pointer_only d (table_at t m) table k n there (ap (λ z. has_key z (slot_at (table_at t m) n)) (sym back) ∙ all n there))

    delete_hash : (site_at p.sites j).act ≡ act.Delete → (decl_of t.decls (map_of p t h j)).kind ≡ Hash → (stage_value h (answer_cell p.cells j) == 0) ≡ true → Commit j ts taken
    delete_hash is hash done_zero = remove_commit is hash (at_pointer ts ∙ sym (at_pointer t.tables)) (at_pointer t.tables ∙ found) some
      where
        at_pointer : (us : List (List Slot)) → written_pointer p (with_tables t us) h j ≡ pointer_in h (found_cell p.cells j)
        at_pointer us = ap (λ (a : Act). written_as a (decl_of t.decls m).kind p (with_tables t us) h j) is

        says : says_done (site_at p.sites j).act (decl_of t.decls (map_of p t h j)).kind ≡ true
        says = ap (λ (a : Act). says_done a (decl_of t.decls m).kind) is ∙ ap (says_done act.Delete) hash

        present : not (is_null (key_pointer p t h (earlier p j) j)) ≡ true
        present = delete_tests (not (is_null (key_pointer p t h (earlier p j) j))) (subst (λ k. (cast_unsigned w64 (delete_answer k (not (is_null (key_pointer p t h (earlier p j) j)))) == 0) ≡ true) hash (done says done_zero act.Delete is))

        looked : looks (asked t.decls h (site_at p.sites j)) ≡ true
        looked = ap (λ (a : Act). looks (operation_with (decl_of t.decls (site_at p.sites j).map) a (map_list (stage_value h) (site_at p.sites j).key) operands)) is

        found : pointer_in h (found_cell p.cells j) ≡ key_at p t h (map_of p t h j) (key_of p t h j) j
        found = found_key p t h reads j l guard (ap (λ (a : Act). asks a (decl_of t.decls m).kind) is ∙ ap (asks act.Delete) hash) looked

        not_not : (c : Bool) → not c ≡ true → c ≡ false
        not_not true e = cc
        not_not false e = refl

        some : is_null (key_at p t h (map_of p t h j) (key_of p t h j) j) ≡ false
        some = ap is_null (sym (key_found p t h j)) ∙ not_not (is_null (key_pointer p t h (earlier p j) j)) present

    access_write : is_access (site_at p.sites j).act ≡ true → is_update (site_at p.sites j).act ≡ false → is_delete (site_at p.sites j).act ≡ false → ((us : List (List Slot)) → written_pointer p (with_tables t us) h j ≡ access_pointer h (site_at p.sites j)) → Commit j ts taken
    access_write is no_update no_delete at =
        let r = reaches p t h reads j l (reads.accesses j l guard is) in
        write_commit no_delete (at ts ∙ sym (at t.tables)) (at t.tables ∙ r.at) (ap is_null (sym r.at) ∙ r.some)
        (λ hash. ap (λ c. c && is_update (site_at p.sites j).act && is_null (pointer_in h (found_cell p.cells j))) on ∙ ap (λ c. c && is_null (pointer_in h (found_cell p.cells j))) no_update)

    commit_as : (a : Act) → (site_at p.sites j).act ≡ a → (k : MapKind) → (decl_of t.decls (map_of p t h j)).kind ≡ k → writes_as a k (stage_value h (answer_cell p.cells j)) ≡ true → Commit j ts taken
    commit_as act.Update is Hash hash w = update_hash is hash w
    commit_as act.Update is Array array w = update_array is array w
    commit_as act.Delete is Hash hash w = delete_hash is hash w
    commit_as act.Delete is Array array w = cc
    commit_as act.Lookup is k kind w = cc
    commit_as (act.Load at size) is k kind w = cc
    commit_as (act.Store at size) is k kind w = access_write (ap is_access is) (ap is_update is) (ap is_delete is) (λ us. ap (λ (a : Act). written_as a (decl_of t.decls m).kind p (with_tables t us) h j) is)
    commit_as (act.Atomic at x) is k kind w = access_write (ap is_access is) (ap is_update is) (ap is_delete is) (λ us. ap (λ (a : Act). written_as a (decl_of t.decls m).kind p (with_tables t us) h j) is)

    pub commit : Commit j ts taken
    commit = commit_as (site_at p.sites j).act refl (decl_of t.decls m).kind refl (and_parts (guard_on h (site_at p.sites j)) (writes_as (site_at p.sites j).act (decl_of t.decls (site_at p.sites j).map).kind (stage_value h (answer_cell p.cells j))) on).1
