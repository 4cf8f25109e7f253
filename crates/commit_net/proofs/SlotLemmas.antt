-- The slot that an operation writes, before and after it.
use Rattle.std.specs.Prelude.{slice_set}
use Rattle.std.proofs.Common.{◌≡◌, ◌≢◌, ◌∙◌, ℕ, ◌+◌, ◌*◌, ◌<◌, ◌≤◌, Bool, true, false, List, [], length, map, refl, sym, ap, subst, arith}
use Rattle.std.proofs.lemmas.Bool.{and_parts}
use Rattle.std.proofs.lemmas.Nat.{div_below}
use Rattle.std.proofs.lemmas.List.{get_or-set_same, get_or-set_other, length-map}
use Rattle.overlay_net.specs.xdp_maps.declared.decl.MapDecl.{MapDecl}
use Rattle.overlay_net.specs.xdp_maps.Operations.{Operation}
use Rattle.overlay_net.specs.xdp_maps.Contents.{IsBytes}
use Rattle.overlay_net.specs.cell_core.declared.site.Act.{Act}
use Rattle.overlay_net.specs.cell_core.declared.site.Act.TheVariants as act
use Rattle.overlay_net.specs.cell_core.Formed.{HasWords}
use Rattle.overlay_net.specs.cell_core.Sites.{ProgramView, SiteView, site_at, operation_with}
use Rattle.overlay_net.specs.hazard_core.declared.slot.Slot.{Slot}
use Rattle.overlay_net.specs.hazard_core.Tables.{TableState, decl_of, table_at, slot_at, no_slot}
use Rattle.overlay_net.specs.hazard_core.Shaped.{IsShaped}
use Rattle.overlay_net.specs.hazard_core.declared.pointer.Pointer.TheVariants.{Pending}
use Rattle.overlay_net.specs.hazard_core.StageValues.{StageValues, stage_value, same_pointer, is_update, is_delete, asked, asked_key, written_pointer}
use Rattle.overlay_net.specs.hazard_core.Overlay.{value_as}
use Rattle.overlay_net.specs.hazard_core.Commits.{word_count, word_at, slot_as, makes_entry, written_slot, committed}
use Rattle.overlay_net.specs.hazard_core.Changes.{IsRightCommit}
use Rattle.hazard_core.proofs.OperationLaws.{value_bytes}
use Rattle.hash_net.specs.Hash.{used_after}
use Rattle.overlay_net.specs.ValueNet.Words.{IsAligned}
use Rattle.overlay_net.proofs.cell_core_laws.SpelledLaws.{bytes_length}
use Rattle.commit_net.specs.Choosing.{changes_word}
use Rattle.commit_net.specs.Wholes.{table_of, slot_before, slot_after, WritesSlot}
use Rattle.commit_net.proofs.ChooseLemmas.{asked_key_is, word_stays}

-- ---- the tables after a commit
module _ (p : ProgramView) (t : TableState) (taken : List ℕ) (h : StageValues) (j : ℕ) where
  abbrev s : SiteView
  s = site_at p.sites j

  abbrev n : ℕ
  n = written_slot p t taken h j

  abbrev pub slot_new : Slot
  slot_new = slot_as s.act (makes_entry p t h j) (asked t.decls h s) (asked_key t.decls h s) (slot_before p t taken h j)

  table_new : IsRightCommit p t taken h j → table_of p (committed p t taken h j) j ≡ slice_set (table_of p t j) n slot_new
  unfolding committed
  table_new right = get_or-set_same t.tables s.map (slice_set (table_of p t j) n slot_new) [] right.map

  pub slot_is : IsRightCommit p t taken h j → slot_after p t taken h j ≡ slot_new
  slot_is right = ap (λ l. slot_at l n) (table_new right) ∙ get_or-set_same (table_of p t j) n slot_new no_slot right.slot

  pub table_is : IsRightCommit p t taken h j → table_of p (committed p t taken h j) j ≡ slice_set (table_of p t j) n (slot_after p t taken h j)
  table_is right = table_new right ∙ ap (λ x. slice_set (table_of p t j) n x) (sym (slot_is right))

  pub others_stay : (m : ℕ) → m ≢ s.map → table_at (committed p t taken h j) m ≡ table_at t m
  unfolding committed
  others_stay m apart = get_or-set_other t.tables s.map m (slice_set (table_of p t j) n slot_new) [] apart

  pub decls_stay : (committed p t taken h j).decls ≡ t.decls
  unfolding committed
  decls_stay = refl

-- ---- what an operation leaves of a slot
no_update : (b : Bool) → (b ≡ true → false ≡ true) → b ≡ false
no_update true f = absurd (clash (f refl))
  where
    clash : false ≡ true → ⊥
    clash e = cc
no_update false f = refl

pub used_is : (a : Act) (new : Bool) (op : Operation) (key : List ℕ) (x : Slot) → (new ≡ true → is_update a ≡ true) → (slot_as a new op key x).used ≡ used_after new (is_delete a) x.used
used_is act.Update true op key x f = refl
used_is act.Update false op key x f = refl
used_is act.Delete new op key x f = ap (λ b. used_after b true x.used) (sym (no_update new f))
used_is act.Lookup new op key x f = ap (λ b. used_after b false x.used) (sym (no_update new f))
used_is (act.Load at size) new op key x f = ap (λ b. used_after b false x.used) (sym (no_update new f))
used_is (act.Store at size) new op key x f = ap (λ b. used_after b false x.used) (sym (no_update new f))
used_is (act.Atomic at a) new op key x f = ap (λ b. used_after b false x.used) (sym (no_update new f))

pub key_put : (a : Act) (new : Bool) (op : Operation) (key : List ℕ) (x : Slot) → (new ≡ true → is_update a ≡ true) → new ≡ true → (slot_as a new op key x).key ≡ key
key_put act.Update true op key x f e = refl
key_put act.Update false op key x f e = cc
key_put act.Delete new op key x f e = let no : false ≡ true = f e in cc
key_put act.Lookup new op key x f e = let no : false ≡ true = f e in cc
key_put (act.Load at size) new op key x f e = let no : false ≡ true = f e in cc
key_put (act.Store at size) new op key x f e = let no : false ≡ true = f e in cc
key_put (act.Atomic at a) new op key x f e = let no : false ≡ true = f e in cc

pub key_kept : (a : Act) (new : Bool) (op : Operation) (key : List ℕ) (x : Slot) → new ≡ false → (slot_as a new op key x).key ≡ x.key
key_kept act.Update true op key x e = cc
key_kept act.Update false op key x e = refl
key_kept act.Delete new op key x e = refl
key_kept act.Lookup new op key x e = refl
key_kept (act.Load at size) new op key x e = refl
key_kept (act.Store at size) new op key x e = refl
key_kept (act.Atomic at a) new op key x e = refl

pub value_left : (d : MapDecl) (a : Act) (new : Bool) (ks xs key : List ℕ) (x : Slot) → (slot_as a new (operation_with d a ks xs) key x).value ≡ value_as (operation_with d a ks xs) x.value
value_left d act.Update true ks xs key x = refl
value_left d act.Update false ks xs key x = refl
value_left d act.Delete new ks xs key x = refl
value_left d act.Lookup new ks xs key x = refl
value_left d (act.Load at size) new ks xs key x = refl
value_left d (act.Store at size) new ks xs key x = refl
value_left d (act.Atomic at a) new ks xs key x = refl

-- ---- lengths
pub words_enough : (n k : ℕ) → n ≤ 8 * k → word_count n ≤ k
words_enough n k l = let less : n + 7 < (k + 1) * 8 = omega (arith, l) in omega (arith, div_below (n + 7) 8 (k + 1) (omega arith) less)

-- ---- of a slot that is written
module _ (p : ProgramView) (t : TableState) (taken : List ℕ) (h : StageValues) (j : ℕ) (d : MapDecl) (w : WritesSlot p t taken h j d) where
  abbrev site : SiteView
  site = site_at p.sites j

  abbrev old : Slot
  old = slot_before p t taken h j

  abbrev new : Slot
  new = slot_after p t taken h j

  makes_updates : makes_entry p t h j ≡ true → is_update site.act ≡ true
  makes_updates e = (and_parts (is_update site.act) (same_pointer (written_pointer p t h j) (Pending j)) e).0

  slots : new ≡ slot_new p t taken h j
  slots = slot_is p t taken h j w.right

  pub used_new : new.used ≡ used_after (makes_entry p t h j) (is_delete site.act) old.used
  used_new = ap (λ (x : Slot). x.used) slots ∙ used_is site.act (makes_entry p t h j) (asked t.decls h site) (asked_key t.decls h site) old makes_updates

  pub key_new : makes_entry p t h j ≡ true → new.key ≡ asked_key t.decls h site
  key_new e = ap (λ (x : Slot). x.key) slots ∙ key_put site.act (makes_entry p t h j) (asked t.decls h site) (asked_key t.decls h site) old makes_updates e

  pub key_old : makes_entry p t h j ≡ false → new.key ≡ old.key
  key_old e = ap (λ (x : Slot). x.key) slots ∙ key_kept site.act (makes_entry p t h j) (asked t.decls h site) (asked_key t.decls h site) old e

  pub value_new : new.value ≡ value_as (asked t.decls h site) old.value
  value_new = ap (λ (x : Slot). x.value) slots ∙ value_left (decl_of t.decls site.map) site.act (makes_entry p t h j) (map (stage_value h) site.key) (map (stage_value h) site.operands) (asked_key t.decls h site) old

  pub within : written_slot p t taken h j < d.cap
  within = let l = w.right.slot in omega (arith, l, w.shaped.counts site.map w.fits.map, ap (λ (x : MapDecl). x.cap) w.declared)

  old_shaped : IsShaped d old
  old_shaped = subst (λ x. IsShaped x old) w.declared (w.shaped.each site.map (written_slot p t taken h j) w.fits.map w.right.slot)

  key_enough : d.key ≤ 8 * length site.key
  key_enough = let l = w.fits.key in omega (arith, l, ap (λ (x : MapDecl). x.key) w.declared)

  pub key_words : word_count d.key ≤ length site.key
  key_words = words_enough d.key (length site.key) key_enough

  key_length : length (asked_key t.decls h site) ≡ d.key
  key_length = ap length (sym (asked_key_is t.decls h site d w.declared)) ∙ bytes_length d.key (map (stage_value h) site.key) (omega (arith, key_enough, length-map site.key (stage_value h)))

  abbrev there : MapDecl
  there = decl_of t.decls site.map

  value_there : IsBytes there.value old.value
  value_there = subst (λ (x : MapDecl). IsBytes x.value old.value) (sym w.declared) w.value

  value_length : length new.value ≡ d.value
  value_length =
      let xs = map (stage_value h) site.operands in
      let words : HasWords there.value site.act (length xs) = subst (HasWords there.value site.act) (sym (length-map site.operands (stage_value h))) w.fits.value in
      ap length value_new ∙ (value_bytes there site.act (map (stage_value h) site.key) xs old.value value_there words w.fits.inside).len ∙ ap (λ (x : MapDecl). x.value) w.declared

  pub new_shaped : IsShaped d new
  new_shaped = record { key = by (makes_entry p t h j) refl; value = value_length }
    where
      by : (b : Bool) → makes_entry p t h j ≡ b → length new.key ≡ d.key
      by true e = ap length (key_new e) ∙ key_length
      by false e = ap length (key_old e) ∙ old_shaped.key

  -- a word that the operation does not change stays
  pub word_left : IsAligned site.act → (i : ℕ) → changes_word site.act i ≡ false → word_at new.value i ≡ word_at old.value i
  word_left aligned i same = ap (λ l. word_at l i) value_new ∙ word_stays there site.act (map (stage_value h) site.key) (map (stage_value h) site.operands) old.value i same aligned w.fits.inside value_there
