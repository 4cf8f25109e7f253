use Rattle.std.proofs.Common.{◌≡◌, ◌+◌, ◌++◌, length, take, drop, sym, ap, subst, ◌∙◌, arith}
use Rattle.unfold_core.specs.Tables.{target_in, AreLast}
use Rattle.unfold_core.proofs.Found.{recorded_at, recorded_length, written}
use Rattle.unfold_core.proofs.tables.last_jumps.Goals as goal

pub loop-place-preserved : goal.loop-place-preserved
loop-place-preserved c =
    let same : length c.record_jump.new.last ≡ length c.loop-place.last.items = ap length c.record_jump.ensures ∙ recorded_length c.deref_mut.result.now c.loop-place.place _ ∙ ap length c.deref_mut.ensures.value in
    let all : take c.loop-place.last.len (c.record_jump.new.last ++ drop (length c.record_jump.new.last) c.loop-place.last.items) ≡ c.record_jump.new.last =
    written c.record_jump.new.last c.loop-place.last.items c.loop-place.last.len same (omega (arith, c.loop-place.last.ok.0)) in
    record {
      last = subst (λ xs. AreLast (target_in c.args.units.now) (c.loop-place.place + 1) xs) (sym all)
          (recorded_at c.args.units.now c.loop-place.place _ c.loop-place.last.items c.deref_mut.result.now c.record_jump.new.last c.loop-place-test.true c.deref_mut.ensures.value c.loop-place.invariant.last c.record_jump.ensures);
      size = ap length all ∙ same ∙ c.loop-place.invariant.size;
    }
