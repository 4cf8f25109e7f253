-- What a commit leaves.
use Rattle.std.specs.Prelude.{nat_lt, ◌&&◌, if◌then◌else◌, slice_set}
use Rattle.std.proofs.Common.{◌≡◌, ◌∙◌, ℕ, Bool, true, false, List, length, refl, sym, ap}
use Rattle.std.proofs.lemmas.Bool.{and_parts}
use Rattle.overlay_net.specs.xdp_maps.declared.decl.MapKind.{MapKind}
use Rattle.overlay_net.specs.xdp_maps.declared.decl.MapKind.TheVariants.{Hash, Array}
use Rattle.overlay_net.specs.xdp_maps.Operations.{Operation}
use Rattle.overlay_net.specs.cell_core.declared.site.Act.{Act}
use Rattle.overlay_net.specs.cell_core.declared.site.Act.TheVariants as act
use Rattle.overlay_net.specs.cell_core.Sites.{ProgramView, site_at}
use Rattle.overlay_net.specs.hazard_core.declared.slot.Slot.{Slot}
use Rattle.overlay_net.specs.hazard_core.Tables.{TableState, decl_of, table_at, slot_of}
use Rattle.overlay_net.specs.hazard_core.declared.pointer.Pointer.TheVariants.{Null, InSlot, Pending}
use Rattle.overlay_net.specs.hazard_core.StageValues.{same_pointer, StageValues, stage_value, answer_cell, guard_on, is_update, is_delete, asked, asked_key, writes_as, written_as}
use Rattle.overlay_net.specs.hazard_core.Commits.{makes_entry, written_slot, slot_as}
use Rattle.commit_net.specs.Wholes.{table_of, slot_before}
use Rattle.commit_net.specs.Laws.{CommitsOneSlot, CommitsOneValue}
use Rattle.commit_net.proofs.SlotLemmas.{slot_is, table_is, others_stay, decls_stay}

pub one_slot : CommitsOneSlot
one_slot p t taken h j right = record { decls = decls_stay p t taken h j; table = table_is p t taken h j right; others = others_stay p t taken h j }

-- ---- of an array
no_pending : (b : Bool) (n j : ℕ) → same_pointer (if b then InSlot n else Null) (Pending j) ≡ false
no_pending true n j = refl
no_pending false n j = refl

-- no operation makes an entry
none_made : (a : Act) (k : MapKind) (p : ProgramView) (t : TableState) (h : StageValues) (j : ℕ) → k ≡ Array → (is_update a && same_pointer (written_as a k p t h j) (Pending j)) ≡ false
none_made act.Update Hash p t h j e = cc
none_made act.Update Array p t h j e =
    let slots = table_at t (site_at p.sites j).map in
    let n = slot_of slots (asked_key t.decls h (site_at p.sites j)) in
    no_pending (nat_lt n (length slots)) n j
none_made act.Delete k p t h j e = refl
none_made act.Lookup k p t h j e = refl
none_made (act.Load at size) k p t h j e = refl
none_made (act.Store at size) k p t h j e = refl
none_made (act.Atomic at a) k p t h j e = refl

-- and none that writes takes one away
none_taken : (a : Act) (k : MapKind) (answer : ℕ) → k ≡ Array → writes_as a k answer ≡ true → is_delete a ≡ false
none_taken act.Delete Hash answer e w = cc
none_taken act.Delete Array answer e w = cc
none_taken act.Update k answer e w = refl
none_taken act.Lookup k answer e w = refl
none_taken (act.Load at size) k answer e w = refl
none_taken (act.Store at size) k answer e w = refl
none_taken (act.Atomic at a) k answer e w = refl

but_value : (a : Act) (new : Bool) (op : Operation) (key : List ℕ) (x : Slot) → new ≡ false → is_delete a ≡ false → slot_as a new op key x ≡ record x { value = (slot_as a new op key x).value }
but_value act.Update true op key x e f = cc
but_value act.Update false op key x e f = refl
but_value act.Delete new op key x e f = cc
but_value act.Lookup new op key x e f = refl
but_value (act.Load at size) new op key x e f = refl
but_value (act.Store at size) new op key x e f = refl
but_value (act.Atomic at a) new op key x e f = refl

pub one_value : CommitsOneValue
one_value p t taken h j right kind on =
    let s = site_at p.sites j in
    let k = (decl_of t.decls s.map).kind in
    let old = slot_before p t taken h j in
    let n = written_slot p t taken h j in
    let is = slot_is p t taken h j right in
    let made : makes_entry p t h j ≡ false = none_made s.act k p t h j kind in
    let kept : is_delete s.act ≡ false = none_taken s.act k (stage_value h (answer_cell p.cells j)) kind (and_parts (guard_on h s) (writes_as s.act k (stage_value h (answer_cell p.cells j))) on).1 in
    table_is p t taken h j right
    ∙ ap (slice_set (table_of p t j) n) (is ∙ but_value s.act (makes_entry p t h j) (asked t.decls h s) (asked_key t.decls h s) old made kept ∙ ap (λ (x : Slot). record old { value = x.value }) (sym is))
