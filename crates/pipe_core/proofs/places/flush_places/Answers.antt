use Rattle.std.proofs.Common.{◌≡◌, ◌∙◌, ◌+◌, ◌-◌, ◌<◌, sym, subst, length, map as map_list, arith, length-set}
use Rattle.std.proofs.lemmas.List.{length-map}
use Rattle.hazard_core.specs.cell_core.View.{program_of}
use Rattle.pipe_core.specs.Planned.{build_of, IsPacketOf}
use Rattle.pipe_core.specs.StageMemory.{in_place}
use Rattle.pipe_core.proofs.Moving.{send_step, flush_step, stock_at, stock_set}
use Rattle.pipe_core.proofs.places.flush_places.Goals as goal

pub loop-k-preserved : goal.loop-k-preserved
loop-k-preserved c =
    let p = program_of c.args.planned.now.program.now in
    let b = build_of c.args.planned.now in
    let old = map_list in_place c.args.places.now.items in
    let ps = c.loop-k.places.items in
    let k = c.loop-k.k - 1 in
    let v = c.index_mut.result.now in
    let q = c.flush_place-back.new.place in
    let h = c.loop-k.invariant in
    let next : c.loop-k.k ≡ k + 1 = omega (arith, c.loop-k-test.true) in
    let l : k < length ps = omega (arith, c.loop-k-test.true, h.within) in
    let count : length ps ≡ length old = h.count ∙ sym (length-map c.args.places.now.items in_place) in
    let is = c.index_mut.ensures.value in
    record {
      within = omega (arith, length-set ps k q, h.within);
      count = length-set ps k q ∙ h.count;
      places = flush_step b old ps c.loop-k.k k v q c.loop-k.back c.flush_place-back.result l count next is h.places h.back c.flush_place-back.ensures.back c.flush_place-back.ensures.place;
      back = send_step b old ps c.loop-k.k k v q c.loop-k.back c.flush_place-back.result l count next is h.places h.back c.flush_place-back.ensures.back;
      of = stock_set p ps k q (subst (IsPacketOf p) (sym c.flush_place-back.ensures.packet) (stock_at p ps k v l is h.of)) h.of;
    }
