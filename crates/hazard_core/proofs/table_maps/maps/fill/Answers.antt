use Rattle.std.proofs.Common.{◌≡◌, ◌∙◌, ℕ, suc, ◌-◌, ◌<◌, length, drop, ap, arith}
use Rattle.std.proofs.lemmas.List.{get_or_default}
use Rattle.xdp_maps.specs.State.{decl_at, contents_at, with_contents}
use Rattle.hazard_core.specs.declared.slot.Slot.{Slot}
use Rattle.hazard_core.specs.Tables.{no_slot, slot_at}
use Rattle.hazard_core.specs.TableMaps.Refilled.{with_pair, refilled}
use Rattle.hazard_core.proofs.TableMaps.Filling.{slot_more}
use Rattle.hazard_core.proofs.table_maps.maps.fill.Goals as goal

pub loop-i-preserved : goal.loop-i-preserved
loop-i-preserved c =
    let s = c.args.maps.now in
    let m = c.loop-i.maps in
    let k = c.args.map in
    let slots = c.args.slots.now in
    let i = c.loop-i.i - 1 in
    let next : c.loop-i.i ≡ suc i = omega (arith, c.loop-i-test.true) in
    let l : i < length slots = omega (arith, c.loop-i-test.true, c.loop-i.invariant.within) in
    let slot : c.index-slots-i.result ≡ slot_at slots i = c.index-slots-i.is ∙ get_or_default slots i c.index-slots-i.result no_slot l in
    let before : m ≡ with_contents s k (refilled (decl_at s k) (drop (suc i) slots) (contents_at s k)) = c.loop-i.invariant.maps ∙ ap (λ (n : ℕ). with_contents s k (refilled (decl_at s k) (drop n slots) (contents_at s k))) next in
    record {
      within = omega (arith, l);
      maps = c.put.ensures ∙ ap (λ (x : Slot). with_contents m k (with_pair (decl_at m k) x (contents_at m k))) slot ∙ slot_more s m k i slots c.requires.contents l before;
    }
