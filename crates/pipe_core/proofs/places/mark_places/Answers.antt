use Rattle.std.proofs.Common.{◌∙◌, ◌<◌, length, arith, length-set}
use Rattle.hazard_core.specs.cell_core.View.{program_of}
use Rattle.pipe_core.specs.Planned.{build_of}
use Rattle.pipe_core.proofs.Moving.{mark_step, stock_set}
use Rattle.pipe_core.proofs.places.mark_places.Goals as goal

pub loop-k-preserved : goal.loop-k-preserved
loop-k-preserved c =
    let q = c.mark_place.new.place in
    let l : c.loop-k.k < length c.loop-k.places.items = omega (arith, c.loop-k-test.true, c.len-k-end.ensures, c.loop-k.invariant.count) in
    record {
      count = length-set c.loop-k.places.items c.loop-k.k q ∙ c.loop-k.invariant.count;
      places = mark_step c.args.to (build_of c.args.planned.now) c.args.tables.now c.args.change.now _ c.loop-k.places.items c.loop-k.k c.index_mut.result.now q l c.index_mut.ensures.value c.mark_place.ensures.place c.loop-k.invariant.places;
      of = stock_set (program_of c.args.planned.now.program.now) c.loop-k.places.items c.loop-k.k q c.mark_place.ensures.of c.loop-k.invariant.of;
    }
