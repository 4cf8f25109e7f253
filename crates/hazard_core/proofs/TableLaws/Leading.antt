-- What a packet finds of keys leads into the maps of their sites.
use Rattle.std.proofs.Common.{◌≡◌, ◌≢◌, ◌∙◌, ℕ, suc, ◌+◌, ◌<◌, ◌⊎◌, inl, inr, Bool, true, false, List, [], ◌∷◌, length, get_or, refl, sym, ap, subst, arith}
use Rattle.std.specs.Prelude.{◌==◌, ◌&&◌, ◌||◌, nat_lt, if◌then◌else◌, fold, All, slice_set}
use Rattle.std.specs.Str.{bytes_eq}
use Rattle.std.proofs.lemmas.Bool.{cases_lt, cases_eq, eqb-true, ltb-true, and_parts}
use Rattle.std.proofs.lemmas.List.{length-set, length-replicate, get_or-set_same, get_or-set_other, get_or-replicate, get_or_past}
use Rattle.std.proofs.lemmas.List.Elements.{All-head, All-tail, filter_passes}
use Rattle.std.proofs.lemmas.List.Sums.{passes_at_first}
use Rattle.xdp_maps.specs.declared.decl.MapKind.{MapKind}
use Rattle.xdp_maps.specs.declared.decl.MapKind.TheVariants.{Hash, Array}
use Rattle.cell_core.specs.xdp_machine.State.{PacketIn}
use Rattle.cell_core.specs.declared.operator.Operator.{Operator}
use Rattle.cell_core.specs.declared.operator.Operator.TheVariants.{Found}
use Rattle.cell_core.specs.declared.site.Act.{Act}
use Rattle.cell_core.specs.declared.site.Act.TheVariants as act
use Rattle.cell_core.specs.Cells.{CellView, no_cell, cell_at, bits_from}
use Rattle.cell_core.specs.Sites.{ProgramView, site_at}
use Rattle.cell_core.specs.Rows.{numbers}
use Rattle.hazard_core.specs.declared.pointer.Pointer.{Pointer}
use Rattle.hazard_core.specs.declared.pointer.Pointer.TheVariants.{Null, InSlot, Pending}
use Rattle.hazard_core.specs.Tables.{TableState, decl_of, table_at, slot_of}
use Rattle.hazard_core.specs.StageValues.{StageValues, is_found_of, found_cell, pointer_in, with_cell, is_null, update_pointer, slot_pointer, written_as, written_pointer, asked, asked_key, writes, is_pending, pending, is_update, is_delete}
use Rattle.hazard_core.specs.Overlay.{found_as, found_over, looks, key_pointer_as, key_pointer, found_pointer}
use Rattle.hazard_core.specs.Rows.{cell_number, cell_pointer, with_made, made_from, with_row}
use Rattle.hazard_core.specs.TableLaws.Leading.{LeadsInto, FoundsLead, BeginsLead, RowsLead, ChangesLead, WritesLead}
use Rattle.hazard_core.proofs.HeldLaws.{found_is}

null_leads : (p : ProgramView) (t : TableState) (m : ℕ) → LeadsInto p t m Null
null_leads p t m = record { slot = λ n e. absurd (cc); made = λ i e. absurd (cc) }

slot_leads : (p : ProgramView) (t : TableState) (m : ℕ) (key : List ℕ) → LeadsInto p t m (slot_pointer (table_at t m) key)
slot_leads p t m key = by (nat_lt n (length (table_at t m))) refl
  where
    n : ℕ
    n = slot_of (table_at t m) key

    by : (b : Bool) → nat_lt n (length (table_at t m)) ≡ b → LeadsInto p t m (if b then InSlot n else Null)
    by false e = null_leads p t m
    by true e = record { slot = λ k is. let same : n ≡ k = cc in subst (λ i. i < length (table_at t m)) same (ltb-true n (length (table_at t m)) e); made = λ i is. absurd (cc) }

module _ (p : ProgramView) (t : TableState) (h : StageValues) (leads : FoundsLead p t h) where
  own_leads : (i : ℕ) → LeadsInto p t (site_at p.sites i).map (pointer_in h (found_cell p.cells i))
  own_leads i = elim (cases_lt (found_cell p.cells i) (length p.cells)) [
    | inl l ↦ leads.each (found_cell p.cells i) i l (found_is i (cell_at p.cells (found_cell p.cells i)).op (passes_at_first (λ c. is_found_of i c.op) p.cells no_cell l))
    | inr l ↦
        subst (LeadsInto p t (site_at p.sites i).map) (sym (get_or_past h.pointers (found_cell p.cells i) Null (omega (arith, l, leads.count)))) (null_leads p t (site_at p.sites i).map)
  ]

  update_leads : (i : ℕ) (x : Pointer) → LeadsInto p t (site_at p.sites i).map x → LeadsInto p t (site_at p.sites i).map (update_pointer i x)
  update_leads i x l = by (is_null x)
    where
      by : (b : Bool) → LeadsInto p t (site_at p.sites i).map (if b then Pending i else x)
      by false = l
      by true = record { slot = λ n e. absurd (cc); made = λ k e. let same : i ≡ k = cc in ap (λ (n : ℕ). (site_at p.sites n).map) (sym same) }

  written_leads : (a : Act) (k : MapKind) (i : ℕ) (found : Pointer) → LeadsInto p t (site_at p.sites i).map found → LeadsInto p t (site_at p.sites i).map (found_as a (written_as a k p t h i) found)
  written_leads act.Update Hash i found l = update_leads i (pointer_in h (found_cell p.cells i)) (own_leads i)
  written_leads act.Update Array i found l = slot_leads p t (site_at p.sites i).map (asked_key t.decls h (site_at p.sites i))
  written_leads act.Delete k i found l = null_leads p t (site_at p.sites i).map
  written_leads act.Lookup k i found l = l
  written_leads (act.Load at size) k i found l = l
  written_leads (act.Store at size) k i found l = l
  written_leads (act.Atomic at a) k i found l = l

  over_leads : (m : ℕ) (key : List ℕ) (found : Pointer) (i : ℕ) → (site_at p.sites i).map ≡ m → LeadsInto p t m found → LeadsInto p t m (found_over p t h key found i)
  over_leads m key found i map l =
      by (writes p t.decls h i && bytes_eq (asked_key t.decls h (site_at p.sites i)) key)
      (subst (λ n. LeadsInto p t n new) map (written_leads (site_at p.sites i).act (decl_of t.decls (site_at p.sites i).map).kind i found (subst (λ n. LeadsInto p t n found) (sym map) l)))
    where
      new : Pointer
      new = found_as (site_at p.sites i).act (written_pointer p t h i) found

      by : (b : Bool) → LeadsInto p t m new → LeadsInto p t m (if b then new else found)
      by true n = n
      by false n = l

  fold_leads : (m : ℕ) (key : List ℕ) (before : List ℕ) (found : Pointer) → All (λ i. (site_at p.sites i).map ≡ m) before → LeadsInto p t m found → LeadsInto p t m (fold (found_over p t h key) found before)
  fold_leads m key [] found all l = l
  fold_leads m key (i ∷ before) found all l =
      fold_leads m key before (found_over p t h key found i) (All-tail (λ k. (site_at p.sites k).map ≡ m) i before all) (over_leads m key found i (All-head (λ k. (site_at p.sites k).map ≡ m) i before all) l)

  key_leads : (k : MapKind) (m : ℕ) (key : List ℕ) (before : List ℕ) → All (λ i. (site_at p.sites i).map ≡ m) before → LeadsInto p t m (key_pointer_as k p t h before m key)
  key_leads Hash m key before all = fold_leads m key before (slot_pointer (table_at t m) key) all (slot_leads p t m key)
  key_leads Array m key before all = slot_leads p t m key

  found_leads : (j : ℕ) (before : List ℕ) → All (λ i. (site_at p.sites i).map ≡ (site_at p.sites j).map) before → LeadsInto p t (site_at p.sites j).map (found_pointer p t h before j)
  found_leads j before all =
      by (looks (asked t.decls h (site_at p.sites j))) (key_leads (decl_of t.decls (site_at p.sites j).map).kind (site_at p.sites j).map (asked_key t.decls h (site_at p.sites j)) before all)
    where
      by : (b : Bool) → LeadsInto p t (site_at p.sites j).map (key_pointer p t h before j) → LeadsInto p t (site_at p.sites j).map (if b then key_pointer p t h before j else Null)
      by true l = l
      by false l = null_leads p t (site_at p.sites j).map

  changed_leads : (a : Act) (k : MapKind) (i : ℕ) → (is_update a || is_delete a) ≡ true → LeadsInto p t (site_at p.sites i).map (written_as a k p t h i)
  changed_leads act.Update Hash i e = update_leads i (pointer_in h (found_cell p.cells i)) (own_leads i)
  changed_leads act.Update Array i e = slot_leads p t (site_at p.sites i).map (asked_key t.decls h (site_at p.sites i))
  changed_leads act.Delete k i e = own_leads i
  changed_leads a k i e = absurd (cc)

-- pending operations are on the map of the site
pending_map : (p : ProgramView) (row : ℕ → ℕ) (r j : ℕ) → All (λ i. (site_at p.sites i).map ≡ (site_at p.sites j).map) (pending p row r j)
pending_map p row r j k d l =
    let i : ℕ = get_or (pending p row r j) k d in
    let both = filter_passes (is_pending p row r j) (numbers 0 j) k d l in
    eqb-true (site_at p.sites i).map (site_at p.sites j).map (and_parts ((site_at p.sites i).map == (site_at p.sites j).map) _ (and_parts _ _ both).0).0

-- ---- along a row

module _ (p : ProgramView) (row : ℕ → ℕ) (r : ℕ) (t : TableState) (packet : PacketIn) where
  cell_leads : (h : StageValues) → FoundsLead p t h → (c : CellView) (op : Operator) (j : ℕ) → op ≡ Found j → LeadsInto p t (site_at p.sites j).map (cell_pointer p row r t h c op)
  cell_leads h leads c op j e = subst (λ (x : Operator). LeadsInto p t (site_at p.sites j).map (cell_pointer p row r t h c x)) (sym e) (found_leads p t h leads j (pending p row r j) (pending_map p row r j))

  made_leads : (h : StageValues) (k : ℕ) (c : CellView) → c ≡ cell_at p.cells k → FoundsLead p t h → FoundsLead p t (with_made p row r t packet h k c)
  made_leads h k c is leads = by (row k == r)
    where
      x : Pointer
      x = cell_pointer p row r t h c c.op

      n : ℕ
      n = bits_from (cell_number p row r t packet h c c.op) c.from c.width

      each : (d j : ℕ) → d < length p.cells → (cell_at p.cells d).op ≡ Found j → (d ≡ k) ⊎ (d ≢ k) → LeadsInto p t (site_at p.sites j).map (get_or (slice_set h.pointers k x) d Null)
      each d j l o (inr other) = subst (LeadsInto p t (site_at p.sites j).map) (sym (get_or-set_other h.pointers k d x Null other)) (leads.each d j l o)
      each d j l o (inl same) =
          let there : k < length h.pointers = omega (arith, l, same, leads.count) in
          subst (LeadsInto p t (site_at p.sites j).map) (sym (ap (λ (i : ℕ). get_or (slice_set h.pointers k x) i Null) same ∙ get_or-set_same h.pointers k x Null there))
          (cell_leads h leads c c.op j (ap (λ (y : CellView). y.op) is ∙ ap (λ (i : ℕ). (cell_at p.cells i).op) (sym same) ∙ o))

      by : (b : Bool) → FoundsLead p t (if b then with_cell h k n x else h)
      by false = leads
      by true = record { count = length-set h.pointers k x ∙ leads.count; each = λ d j l o. each d j l o (cases_eq d k) }

  -- these cells are those of the program from number k on
  abbrev AreFrom : ℕ → List CellView → Type 0
  AreFrom k cs = (i : ℕ) → i < length cs → cell_at cs i ≡ cell_at p.cells (k + i)

  from_leads : (cs : List CellView) (k : ℕ) (h : StageValues) → AreFrom k cs → FoundsLead p t h → FoundsLead p t (made_from p row r t packet k cs h)
  from_leads [] k h are leads = leads
  from_leads (c ∷ cs) k h are leads =
      from_leads cs (suc k) (with_made p row r t packet h k c) (λ i l. are (suc i) (omega (arith, l)) ∙ ap (λ (n : ℕ). cell_at p.cells n) (omega arith))
      (made_leads h k c (are 0 (omega arith) ∙ ap (λ (n : ℕ). cell_at p.cells n) (omega arith)) leads)

pub rows_lead : RowsLead
unfolding with_row
rows_lead p row r t packet h leads = from_leads p row r t packet p.cells 0 h (λ i l. ap (λ (n : ℕ). cell_at p.cells n) (omega arith)) leads

pub begins_lead : BeginsLead
begins_lead p t = record {
  count = length-replicate (length p.cells) Null;
  each = λ c j l o. subst (LeadsInto p t (site_at p.sites j).map) (sym (get_or-replicate (length p.cells) c Null Null l)) (null_leads p t (site_at p.sites j).map);
}

pub changes_lead : ChangesLead
changes_lead p t u h same leads = record {
  count = leads.count;
  each = λ c j l o.
      let x = leads.each c j l o in
      record { slot = λ n e. let s = x.slot n e in let k = same.slots (site_at p.sites j).map in omega (arith, s, k); made = x.made };
}

pub writes_lead : WritesLead
writes_lead p t h j leads e = changed_leads p t h leads (site_at p.sites j).act (decl_of t.decls (site_at p.sites j).map).kind j e
