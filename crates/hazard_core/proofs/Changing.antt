-- What a commit and the host change.
use Rattle.std.proofs.Common.{◌≡◌, ◌≢◌, ℕ, zero, suc, ◌+◌, ◌<◌, ◌⊎◌, inl, inr, Bool, true, false, List, [], ◌∷◌, get_or, length, refl, sym, ap, ◌∙◌, subst, arith, not, cond, length-set, get_or-set_other, get_or-set_same}
use Rattle.std.specs.Prelude.{◌&&◌, ◌||◌, if◌then◌else◌, nat_lt, slice_set}
use Rattle.std.specs.List.{position_or_len, prefix_len}
use Rattle.std.specs.Str.{bytes_eq}
use Rattle.std.proofs.lemmas.Bool.Decides.{Decides-eqb}
use Rattle.std.proofs.lemmas.List.Sums.{sum_by-set}
use Rattle.std.proofs.lemmas.Slice.Eq.{bytes_eq-Decides}
use Rattle.xdp_maps.specs.declared.decl.MapKind.TheVariants.{Array}
use Rattle.xdp_maps.specs.Operations.{Operation}
use Rattle.cell_core.specs.declared.site.Act.{Act}
use Rattle.cell_core.specs.declared.site.Act.TheVariants as act
use Rattle.cell_core.specs.Sites.{SiteView, ProgramView, site_at}
use Rattle.hazard_core.specs.Tables.{Slot, no_slot, TableState, decl_of, table_at, slot_at, has_key, slot_of, free_slot, used_count}
use Rattle.hazard_core.specs.StageValues.{Pointer, Null, InSlot, Pending, same_pointer, is_update, is_delete, StageValues, stage_value, answer_cell, asked, asked_key, guard_on, writes_as, writes, slot_pointer, written_as, written_pointer}
use Rattle.hazard_core.specs.Overlay.{value_as}
use Rattle.hazard_core.specs.Commits.{with_slot, makes_entry, slot_under, written_slot, slot_as, committed, changed_key, change_by, host_written, word_in, may_write, Word, Used, Key, Value, Nothing, written_word}
use Rattle.hazard_core.specs.Changes.{IsChange, IsRightCommit, CommitsChange, HostChanges}

-- a slot that passes a test as the old one does leaves the first one that passes it
first_stays : (test : Slot → Bool) (slots : List Slot) (n : ℕ) (s : Slot) → n < length slots → test s ≡ test (slot_at slots n) → position_or_len test (slice_set slots n s) ≡ position_or_len test slots
first_stays test [] n s l e = absurd (omega arith)
first_stays test (x ∷ slots) zero s l e = ap (λ b. cond (not b) (1 + prefix_len (λ y. not (test y)) slots) 0) e
first_stays test (x ∷ slots) (suc n) s l e = ap (λ m. cond (not (test x)) (1 + m) 0) (first_stays test slots n s (omega arith) e)

pub pointer_stays : (slots : List Slot) (n : ℕ) (s : Slot) (key : List ℕ) → n < length slots → has_key key s ≡ has_key key (slot_at slots n) → slot_pointer (slice_set slots n s) key ≡ slot_pointer slots key
pointer_stays slots n s key l e =
    ap (λ m. if nat_lt m (length (slice_set slots n s)) then InSlot m else Null) (first_stays (has_key key) slots n s l e)
    ∙ ap (λ m. if nat_lt (slot_of slots key) m then InSlot (slot_of slots key) else Null) (length-set slots n s)

pub count_stays : (slots : List Slot) (n : ℕ) (s : Slot) → n < length slots → s.used ≡ (slot_at slots n).used → used_count (slice_set slots n s) ≡ used_count slots
count_stays slots n s l e =
    let number : Bool → ℕ = λ b. cond b 1 0 in
    let q = sum_by-set (λ (x : Slot). number x.used) slots n s no_slot l in
    omega (arith, q, ap number e)

-- a slot that is written
record IsWritten (t : TableState) (m n : ℕ) (k : List ℕ) (b : Bool) (s : Slot) : Type 0 where
  map : m < length t.tables
  slot : n < length (table_at t m)
  keys : (key : List ℕ) → (key ≢ k) ⊎ (b ≡ false) → has_key key s ≡ has_key key (slot_at (table_at t m) n)
  size : b ≡ false → s.used ≡ (slot_at (table_at t m) n).used
  arrays : (decl_of t.decls m).kind ≡ Array → b ≡ false

written_changes : (t : TableState) (m n : ℕ) (k : List ℕ) (b : Bool) (s : Slot) → IsWritten t m n k b s → IsChange t (record { map = m; slot = n; key = k; presence = b }) (with_slot t m n s).tables
written_changes t m n k b s w =
    let here : get_or (slice_set t.tables m (slice_set (table_at t m) n s)) m [] ≡ slice_set (table_at t m) n s = get_or-set_same t.tables m (slice_set (table_at t m) n s) [] w.map in
    record {
      maps = λ m' other. get_or-set_other t.tables m m' (slice_set (table_at t m) n s) [] other;
      values = λ n' other. ap (λ slots. (slot_at slots n').value) here ∙ ap (λ (x : Slot). x.value) (get_or-set_other (table_at t m) n n' s no_slot other);
      keys = λ key why. ap (λ slots. slot_pointer slots key) here ∙ pointer_stays (table_at t m) n s key w.slot (w.keys key why);
      size = λ kept. ap used_count here ∙ count_stays (table_at t m) n s w.slot (w.size kept);
      arrays = w.arrays;
    }

-- ---- a commit

pub pointer_tests : (p q : Pointer) → same_pointer p q ≡ true → p ≡ q
pointer_tests Null Null e = refl
pointer_tests Null (InSlot n) e = cc
pointer_tests Null (Pending n) e = cc
pointer_tests (InSlot m) Null e = cc
pointer_tests (InSlot m) (InSlot n) e = ap InSlot ((Decides-eqb m n).0 e)
pointer_tests (InSlot m) (Pending n) e = cc
pointer_tests (Pending m) Null e = cc
pointer_tests (Pending m) (InSlot n) e = cc
pointer_tests (Pending m) (Pending n) e = ap Pending ((Decides-eqb m n).0 e)

-- the first slot that passes a test passes it
first_passes : (test : Slot → Bool) (slots : List Slot) → position_or_len test slots < length slots → test (slot_at slots (position_or_len test slots)) ≡ true
first_passes test [] l = absurd (omega arith)
first_passes test (x ∷ slots) l = by (test x) refl l (first_passes test slots)
  where
    n : ℕ
    n = position_or_len test slots

    next : (m : ℕ) → suc n ≡ m → test (slot_at slots n) ≡ true → test (slot_at (x ∷ slots) m) ≡ true
    next zero e h = absurd (omega arith)
    next (suc m) e h = subst (λ k. test (slot_at slots k) ≡ true) (omega arith) h

    by : (c : Bool) → test x ≡ c → cond (not c) (1 + n) 0 < length (x ∷ slots) → (n < length slots → test (slot_at slots n) ≡ true) → test (slot_at (x ∷ slots) (cond (not c) (1 + n) 0)) ≡ true
    by true e l more = e
    by false e l more = next (1 + n) (omega arith) (more (omega arith))

pub unused_key : (s : Slot) (key : List ℕ) → s.used ≡ false → has_key key s ≡ false
unused_key s key e = ap (λ b. b && bytes_eq s.key key) e

pub other_key : (a key : List ℕ) → key ≢ a → bytes_eq a key ≡ false
other_key a key other = by (bytes_eq a key) refl
  where
    by : (c : Bool) → bytes_eq a key ≡ c → c ≡ false
    by true e = absurd (other (sym ((bytes_eq-Decides a key).0 e)))
    by false e = refl

module _ (p : ProgramView) (t : TableState) (taken : List ℕ) (h : StageValues) (j : ℕ) (on : writes p t.decls h j ≡ true) (right : IsRightCommit p t taken h j) where
  -- a new entry goes into a slot that is not used
  free_is_unused : makes_entry p t h j ≡ true → (slot_at (table_at t (site_at p.sites j).map) (written_slot p t taken h j)).used ≡ false
  free_is_unused m =
      let slots = table_at t (site_at p.sites j).map in
      let q : written_pointer p t h j ≡ Pending j = pointer_tests (written_pointer p t h j) (Pending j) (second (is_update (site_at p.sites j).act) (same_pointer (written_pointer p t h j) (Pending j)) m) in
      let n : written_slot p t taken h j ≡ free_slot slots = ap (slot_under slots taken j) q ∙ itself slots in
      let l : free_slot slots < length slots = omega (arith, right.slot, n) in
      let u = first_passes (λ s. not s.used) slots l in
      ap (λ k. (slot_at slots k).used) n ∙ unused (slot_at slots (free_slot slots)).used u
    where
      second : (a b : Bool) → a && b ≡ true → b ≡ true
      second true b e = e
      second false b e = cc

      itself : (slots : List Slot) → slot_under slots taken j (Pending j) ≡ free_slot slots
      itself slots = ap (λ (b : Bool). if b then free_slot slots else get_or taken j 0) ((Decides-eqb j j).1 refl)

      unused : (u : Bool) → not u ≡ true → u ≡ false
      unused true e = cc
      unused false e = refl

  -- the keys of an array stay
  no_entry : (a : Act) → a ≡ (site_at p.sites j).act → (decl_of t.decls (site_at p.sites j).map).kind ≡ Array → same_pointer (written_as a (decl_of t.decls (site_at p.sites j).map).kind p t h j) (Pending j) ≡ true → a ≡ act.Update → ⊥
  no_entry act.Update is kind same e =
      let slots = table_at t (site_at p.sites j).map in
      let key = asked_key t.decls h (site_at p.sites j) in
      by (nat_lt (slot_of slots key) (length slots)) (subst (λ k. same_pointer (written_as act.Update k p t h j) (Pending j) ≡ true) kind same)
    where
      by : (c : Bool) → same_pointer (if c then InSlot (slot_of (table_at t (site_at p.sites j).map) (asked_key t.decls h (site_at p.sites j))) else Null) (Pending j) ≡ true → ⊥
      by true e = cc
      by false e = cc
  no_entry act.Lookup is kind same e = cc
  no_entry act.Delete is kind same e = cc
  no_entry (act.Load at size) is kind same e = cc
  no_entry (act.Store at size) is kind same e = cc
  no_entry (act.Atomic at a) is kind same e = cc

  no_delete : (decl_of t.decls (site_at p.sites j).map).kind ≡ Array → act.Delete ≡ (site_at p.sites j).act → ⊥
  no_delete kind is =
      let s = site_at p.sites j in
      let n = stage_value h (answer_cell p.cells j) in
      let u : guard_on h s && writes_as act.Delete (decl_of t.decls s.map).kind n ≡ true = subst (λ (a : Act). guard_on h s && writes_as a (decl_of t.decls s.map).kind n ≡ true) (sym is) on in
      let v : guard_on h s && false ≡ true = subst (λ k. guard_on h s && writes_as act.Delete k n ≡ true) kind u in
      nothing (guard_on h s) v
    where
      nothing : (b : Bool) → b && false ≡ true → ⊥
      nothing true e = cc
      nothing false e = cc

  commit_writes : IsWritten t (site_at p.sites j).map (written_slot p t taken h j)
      (changed_key (site_at p.sites j).act (asked_key t.decls h (site_at p.sites j)) (slot_at (table_at t (site_at p.sites j).map) (written_slot p t taken h j)).key)
      (is_delete (site_at p.sites j).act || makes_entry p t h j)
      (slot_as (site_at p.sites j).act (makes_entry p t h j) (asked t.decls h (site_at p.sites j)) (asked_key t.decls h (site_at p.sites j)) (slot_at (table_at t (site_at p.sites j).map) (written_slot p t taken h j)))
  commit_writes = by s.act refl (same_pointer (written_pointer p t h j) (Pending j)) refl
    where
      s : SiteView
      s = site_at p.sites j

      n : ℕ
      n = written_slot p t taken h j

      x : Slot
      x = slot_at (table_at t s.map) n

      op : Operation
      op = asked t.decls h s

      key : List ℕ
      key = asked_key t.decls h s

      value_only : (a : Act) → slot_as a false op key x ≡ record x { value = value_as op x.value } → changed_key a key x.key ≡ changed_key a key x.key → IsWritten t s.map n (changed_key a key x.key) false (record x { value = value_as op x.value })
      value_only a e f = record { map = right.map; slot = right.slot; keys = λ k why. refl; size = λ k. refl; arrays = λ k. refl }

      by : (a : Act) → a ≡ s.act → (m : Bool) → same_pointer (written_pointer p t h j) (Pending j) ≡ m → IsWritten t s.map n (changed_key a key x.key) (is_delete a || (is_update a && m)) (slot_as a (is_update a && m) op key x)
      by act.Update is true e = record {
        map = right.map;
        slot = right.slot;
        keys = λ k why. elim why [
          | inl other ↦ ap (λ b. true && b) (other_key key k other) ∙ sym (unused_key x k (free_is_unused (ap (λ (a : Act). is_update a && same_pointer (written_pointer p t h j) (Pending j)) (sym is) ∙ e)))
          | inr kept ↦ cc
        ];
        size = λ kept. cc;
        arrays = λ kind. absurd (no_entry act.Update is kind (subst (λ (a : Act). same_pointer (written_as a (decl_of t.decls s.map).kind p t h j) (Pending j) ≡ true) (sym is) e) refl);
      }
      by act.Update is false e = value_only act.Update refl refl
      by act.Delete is m e = record {
        map = right.map;
        slot = right.slot;
        keys = λ k why. elim why [
          | inl other ↦
              let d : is_delete s.act ≡ true = ap is_delete (sym is) in
              sym (ap (λ b. b && bytes_eq x.key k) (right.used d) ∙ ap (λ a. bytes_eq a k) (right.key d) ∙ other_key key k other)
          | inr kept ↦ cc
        ];
        size = λ kept. cc;
        arrays = λ kind. absurd (no_delete kind is);
      }
      by act.Lookup is m e = value_only act.Lookup refl refl
      by (act.Load at size) is m e = value_only (act.Load at size) refl refl
      by (act.Store at size) is m e = value_only (act.Store at size) refl refl
      by (act.Atomic at a) is m e = value_only (act.Atomic at a) refl refl

pub commits_change : CommitsChange
unfolding committed change_by
commits_change p t taken h j on right =
    let s = site_at p.sites j in
    let n = written_slot p t taken h j in
    written_changes t s.map n (changed_key s.act (asked_key t.decls h s) (slot_at (table_at t s.map) n).key) (is_delete s.act || makes_entry p t h j)
    (slot_as s.act (makes_entry p t h j) (asked t.decls h s) (asked_key t.decls h s) (slot_at (table_at t s.map) n)) (commit_writes p t taken h j on right)

-- ---- the host

pub host_changes : HostChanges
unfolding host_written
host_changes t a n map slot may =
    written_changes t a.map a.index (slot_at (table_at t a.map) a.index).key false (written_word (slot_at (table_at t a.map) a.index) (word_in t a) n) (by (word_in t a) may)
  where
    x : Slot
    x = slot_at (table_at t a.map) a.index

    by : (w : Word) → may_write false x w ≡ true → IsWritten t a.map a.index x.key false (written_word x w n)
    by Used e = cc
    by (Key w) e = cc
    by (Value w) e = record { map = map; slot = slot; keys = λ k why. refl; size = λ k. refl; arrays = λ k. refl }
    by Nothing e = cc
