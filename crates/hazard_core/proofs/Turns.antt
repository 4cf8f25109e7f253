-- All operations of a packet on its path, one after another.
use Rattle.std.proofs.Common.{◌≡◌, ℕ, zero, suc, ◌+◌, ◌<◌, ◌≤◌, Bool, true, false, List, [], get_or, length, refl, sym, ap, ◌∙◌, subst, arith}
use Rattle.std.specs.Prelude.{◌&&◌, ◌==◌, if◌then◌else◌, slice_set}
use Rattle.xdp_maps.specs.Laws.{IndexLaws}
use Rattle.cell_core.specs.Cells.{bit}
use Rattle.cell_core.specs.Sites.{ProgramView, site_at}
use Rattle.cell_core.specs.Formed.{AllFit}
use Rattle.hazard_core.specs.Tables.{Slot, TableState, decl_of, table_at, slot_at}
use Rattle.hazard_core.specs.StageValues.{Pointer, Null, InSlot, Pending, is_null, is_update, is_delete, StageValues, asked, asked_key, pointer_in, found_cell, writes, adds_key, takes_key, slot_pointer}
use Rattle.hazard_core.specs.Overlay.{found_over, value_over, value_under}
use Rattle.std.proofs.lemmas.List.{get_or-set_same}
use Rattle.hazard_core.specs.Commits.{with_slot, makes_entry, slot_as, written_slot, committed, taken_after}
use Rattle.hazard_core.specs.Changes.{with_tables, IsRightCommit}
use Rattle.hazard_core.specs.Tabled.{AreTables}
use Rattle.hazard_core.specs.Replay.{Replayed, replay_one, replayed, HoldsReads, IsInTurn, CommitsInTurn}
use Rattle.hazard_core.proofs.Slots.{pointer_no_pending}
use Rattle.hazard_core.proofs.Effects.{resolve, key_at, value_at, adds_at, takes_at, Follows, map_of, effect_follows}
use Rattle.hazard_core.proofs.Finding.{found_idle, value_idle}
use Rattle.hazard_core.proofs.Committing.{Commit, commit}

plain : (taken : List ℕ) (q : Pointer) → ((i : ℕ) → q ≡ Pending i → ⊥) → resolve taken q ≡ q
plain taken Null none = refl
plain taken (InSlot n) none = refl
plain taken (Pending i) none = absurd (none i refl)

module _ (p : ProgramView) (t : TableState) (h : StageValues) where
  starts : (taken : List ℕ) → AreTables t → length taken ≡ length p.sites → Follows p t h 0 t.tables taken
  starts taken base long = record {
    beside = base.beside;
    long = long;
    tables = base.each;
    keys = λ m key l. same m key;
    pending = λ m key i l e. absurd (pointer_no_pending (table_at t m) key i e);
    values = λ m key n l e. under m n (slot_pointer (table_at t m) key) (sym (same m key) ∙ e);
    size = λ m l kind. refl;
  }
    where
      same : (m : ℕ) (key : List ℕ) → resolve taken (slot_pointer (table_at t m) key) ≡ slot_pointer (table_at t m) key
      same m key = plain taken (slot_pointer (table_at t m) key) (λ i e. pointer_no_pending (table_at t m) key i e)

      under : (m n : ℕ) (q : Pointer) → q ≡ InSlot n → value_under (decl_of t.decls m) (table_at t m) q ≡ (slot_at (table_at t m) n).value
      under m n q e = ap (value_under (decl_of t.decls m) (table_at t m)) e

  -- an operation that does not write changes nothing
  idles : (j : ℕ) (ts : List (List Slot)) (taken : List ℕ) → writes p t.decls h j ≡ false → Follows p t h j ts taken → Follows p t h (suc j) ts taken
  idles j ts taken idle f = record {
    beside = f.beside;
    long = f.long;
    tables = f.tables;
    keys = λ m key l. ap (resolve taken) (key_stays m key) ∙ f.keys m key l;
    pending = λ m key i l e. let q = f.pending m key i l (sym (key_stays m key) ∙ e) in omega (arith, q);
    values = λ m key n l e. ap (λ u. value_at p t h m u (suc j)) (key_stays m key) ∙ value_stays m (key_at p t h m key j) ∙ f.values m key n l (sym (ap (resolve taken) (key_stays m key)) ∙ e);
    size = λ m l kind.
        let a : adds_at p t h m (suc j) ≡ adds_at p t h m j + 0 = ap (λ n. adds_at p t h m j + n) (none ((site_at p.sites j).map == m) (adds_key p t.decls h j) (ap (λ c. c && is_update (site_at p.sites j).act && is_null (pointer_in h (found_cell p.cells j))) idle)) in
        let b : takes_at p t h m (suc j) ≡ takes_at p t h m j + 0 = ap (λ n. takes_at p t h m j + n) (none ((site_at p.sites j).map == m) (takes_key p t.decls h j) (ap (λ c. c && is_delete (site_at p.sites j).act) idle)) in
        let q = f.size m l kind in
        omega (arith, a, b, q);
  }
    where
      none : (c d : Bool) → d ≡ false → (if c then bit d else 0) ≡ 0
      none true d e = ap bit e
      none false d e = refl

      key_stays : (m : ℕ) (key : List ℕ) → key_at p t h m key (suc j) ≡ key_at p t h m key j
      key_stays m key = by ((site_at p.sites j).map == m)
        where
          by : (c : Bool) → (if c then found_over p t h key (key_at p t h m key j) j else key_at p t h m key j) ≡ key_at p t h m key j
          by true = found_idle p t h key (key_at p t h m key j) j idle
          by false = refl

      value_stays : (m : ℕ) (u : Pointer) → value_at p t h m u (suc j) ≡ value_at p t h m u j
      value_stays m u = by ((site_at p.sites j).map == m)
        where
          by : (c : Bool) → (if c then value_over p t h u (value_at p t h m u j) j else value_at p t h m u j) ≡ value_at p t h m u j
          by true = value_idle p t h u (value_at p t h m u j) j idle
          by false = refl

-- how far the operations have come
pub record Reached (p : ProgramView) (t : TableState) (h : StageValues) (j : ℕ) (r : Replayed) : Type 0 where
  pub ts : List (List Slot)
  pub is : r.tables ≡ with_tables t ts
  pub follows : Follows p t h j ts r.taken

module _ (laws : IndexLaws) (p : ProgramView) (t : TableState) (h : StageValues) (base : AreTables t) (fit : AllFit t.decls p.sites) (reads : HoldsReads p t h) where
  pub committed_is : (j : ℕ) (ts : List (List Slot)) (taken : List ℕ) (c : Commit laws p t h base fit reads j ts taken) →
      committed p (with_tables t ts) taken h j ≡ with_tables t (slice_set ts (map_of p t h j) (slice_set (get_or ts (map_of p t h j) []) c.n c.s))
  unfolding committed
  committed_is j ts taken c =
      let m = map_of p t h j in
      let slots = get_or ts m [] in
      let w = with_tables t ts in
      let s = site_at p.sites j in
      ap (λ k. with_slot w m k (slot_as s.act (makes_entry p w h j) (asked t.decls h s) (asked_key t.decls h s) (slot_at slots k))) c.slot ∙ ap (with_slot w m c.n) c.new

  next_follows : (j : ℕ) (r : Replayed) → j < length p.sites → Reached p t h j r → Reached p t h (suc j) (replay_one p h r j)
  next_follows j r l f = by (writes p r.tables.decls h j) (ap (λ (v : TableState). writes p v.decls h j) f.is)
    where
      by : (c : Bool) → c ≡ writes p t.decls h j → Reached p t h (suc j) (if c then record { tables = committed p r.tables r.taken h j; taken = taken_after p r.tables r.taken h j } else r)
      by true e =
          let c = commit laws p t h base fit reads j f.ts r.taken l f.follows (sym e) in
          let m = map_of p t h j in
          record {
            ts = slice_set f.ts m (slice_set (get_or f.ts m []) c.n c.s);
            is = ap (λ v. committed p v r.taken h j) f.is ∙ committed_is j f.ts r.taken c;
            follows = subst (Follows p t h (suc j) (slice_set f.ts m (slice_set (get_or f.ts m []) c.n c.s))) (sym (ap (λ v. taken_after p v r.taken h j) f.is ∙ c.took)) (effect_follows p t h j f.ts r.taken c.more c.n c.s f.follows c.effect);
          }
      by false e = record { ts = f.ts; is = f.is; follows = idles p t h j f.ts r.taken (sym e) f.follows }

  pub all_follow : (taken : List ℕ) → length taken ≡ length p.sites → (j : ℕ) → j ≤ length p.sites → Reached p t h j (replayed p h (record { tables = t; taken = taken }) j)
  all_follow taken long zero l = record { ts = t.tables; is = refl; follows = starts p t h taken base long }
  all_follow taken long (suc j) l = next_follows j (replayed p h (record { tables = t; taken = taken }) j) (omega (arith, l)) (all_follow taken long j (omega (arith, l)))

  are_tables : (j : ℕ) (r : Replayed) → Reached p t h j r → AreTables r.tables
  are_tables j r f = subst AreTables (sym f.is) (record { beside = f.follows.beside; limits = base.limits; each = f.follows.tables })

  pub in_turn : (taken : List ℕ) → length taken ≡ length p.sites → (j : ℕ) → j ≤ length p.sites → IsInTurn p t taken h j
  in_turn taken long j l =
      let r = replayed p h (record { tables = t; taken = taken }) j in
      let f = all_follow taken long j l in
      record {
        decls = ap (λ (v : TableState). v.decls) f.is;
        tables = are_tables j r f;
        right = λ below on. subst (λ v. IsRightCommit p v r.taken h j) (sym f.is) (commit laws p t h base fit reads j f.ts r.taken below f.follows on).right;
        lands = λ below on stays.
            let c = commit laws p t h base fit reads j f.ts r.taken below f.follows on in
            let m = map_of p t h j in
            let slots = slice_set (get_or f.ts m []) c.n c.s in
            let inside = c.right.map in
            let here : table_at (committed p (with_tables t f.ts) r.taken h j) m ≡ slots = ap (λ v. table_at v m) (committed_is j f.ts r.taken c) ∙ get_or-set_same f.ts m slots [] inside in
            subst (λ v. slot_pointer (table_at (committed p v r.taken h j) m) (asked_key t.decls h (site_at p.sites j)) ≡ InSlot (written_slot p v r.taken h j)) (sym f.is)
            (ap (λ xs. slot_pointer xs (asked_key t.decls h (site_at p.sites j))) here ∙ c.lands stays ∙ sym (ap InSlot c.slot));
      }

pub commits_in_turn : IndexLaws → CommitsInTurn
commits_in_turn laws p t taken h base fit long reads j l = in_turn laws p t h base fit reads taken long j l
