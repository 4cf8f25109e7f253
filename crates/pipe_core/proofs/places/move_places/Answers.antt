use Rattle.std.proofs.Common.{◌≡◌, ◌∙◌, ◌+◌, ◌<◌, ap, sym, subst, length, set, map as map_list, arith, length-set}
use Rattle.hazard_core.specs.cell_core.Cells.{bit}
use Rattle.hazard_core.specs.cell_core.View.{program_of}
use Rattle.realization.specs.beat_core.Ports.{Arrival}
use Rattle.pipe_core.specs.declared.places.Stage.{Stage}
use Rattle.pipe_core.specs.Machine.{enters}
use Rattle.pipe_core.specs.Planned.{build_of, IsPacketOf}
use Rattle.pipe_core.specs.StageMemory.{in_place}
use Rattle.pipe_core.proofs.Moving.{older_step, move_step, moved_on, stock_at, stock_set}
use Rattle.pipe_core.proofs.places.move_places.Goals as goal
use Rattle.pipe_core.proofs.places.move_places.Goals.{then-moving, else-moving}

pub overflow_sub-older : goal.overflow_sub-older
overflow_sub-older c =
    let l : c.loop-k.k < length c.loop-k.places.items = omega (arith, c.loop-k-test.true, c.len-k-end.ensures, c.loop-k.invariant.count) in
    let s = older_step c.loop-k.places.items c.loop-k.k c.index_mut.result.now c.move_place.new.place l c.index_mut.ensures.value in
    let u : bit c.index_mut.result.now.used ≡ 1 = ap (λ (x : Stage). bit x.used) (sym c.move_place.ensures.moving) ∙ ap bit c.if-moving.true in
    omega (arith, s, u, c.loop-k.invariant.older)

pub loop-k-preserved : goal.loop-k-preserved
loop-k-preserved c =
    let p = program_of c.args.planned.now.program.now in
    let b = build_of c.args.planned.now in
    let q = c.move_place.new.place in
    let l : c.loop-k.k < length c.loop-k.places.items = omega (arith, c.loop-k-test.true, c.len-k-end.ensures, c.loop-k.invariant.count) in
    let s = older_step c.loop-k.places.items c.loop-k.k c.index_mut.result.now q l c.index_mut.ensures.value in
    let same = ap (λ (x : Stage). bit x.used) (sym c.move_place.ensures.moving) in
    let enter = c.move_place.ensures.place ∙ ap (λ (a : Arrival). enters b c.args.tables.now c.loop-k.k a (in_place c.loop-k.moving)) c.source_at-source.ensures in
    record {
      count = length-set c.loop-k.places.items c.loop-k.k q ∙ c.loop-k.invariant.count;
      older = elim c.if-moving.branch [
        | then-moving w ↦ let u : bit c.index_mut.result.now.used ≡ 1 = same ∙ ap bit w.if-moving.true in omega (arith, s, u, w.older-is, c.loop-k.invariant.older)
        | else-moving w ↦ let u : bit c.index_mut.result.now.used ≡ 0 = same ∙ ap bit w.if-moving.false in omega (arith, s, u, w.older-is, c.loop-k.invariant.older)
      ];
      places =
          ap (λ (x : Stage). moved_on b c.args.tables.now c.args.frames.now (c.loop-k.k + 1) (in_place x) (map_list in_place (set c.loop-k.places.items c.loop-k.k q))) c.move_place.ensures.moving
          ∙ move_step b c.args.tables.now c.args.frames.now _ c.loop-k.places.items c.loop-k.k c.loop-k.older c.loop-k.moving c.index_mut.result.now q l c.index_mut.ensures.value c.loop-k.invariant.older enter c.loop-k.invariant.places;
      moving = subst (λ (x : Stage). IsPacketOf p x.packet) (sym c.move_place.ensures.moving) (stock_at p c.loop-k.places.items c.loop-k.k c.index_mut.result.now l c.index_mut.ensures.value c.loop-k.invariant.of);
      of = stock_set p c.loop-k.places.items c.loop-k.k q c.move_place.ensures.of c.loop-k.invariant.of;
    }
