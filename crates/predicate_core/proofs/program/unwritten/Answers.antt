use Rattle.std.proofs.Common.{◌<◌, [], ◌∷◌, length, length-append, sym, ap, subst, arith}
use Rattle.std.specs.Prelude.{All}
use Rattle.std.proofs.lemmas.List.Elements.{All-append, All-cons, All-nil, All-weaker}
use Rattle.operator_cells.specs.Making.{seen}
use Rattle.operator_cells.proofs.MakingLaws.{grown}
use Rattle.predicate_core.specs.StepCells.Waiting.{waiting_for}
use Rattle.predicate_core.proofs.LastRow.{no_row_then, no_row_more}
use Rattle.predicate_core.proofs.program.unwritten.Goals as goal

pub loop-map-preserved : goal.loop-map-preserved
loop-map-preserved c = record {
  grows = grown c.loop-map.invariant.grows c.in_ok-c.ensures.grows;
  no_row = no_row_then _ _ _ c.in_ok-c.ensures.grows c.loop-map.invariant.no_row (no_row_more _ _ _ c.in_ok-c.ensures.rises.grows (λ row n low. omega arith));
  waiting = (
    (let e = ap length c.in_ok-push.ensures.items in omega (arith, e, c.loop-map.invariant.waiting.0, length-append c.loop-map.all.items (c.in_ok-c.c ∷ []))),
    subst (All (λ x. x < length (seen c.pending.new.cells.items))) (sym c.in_ok-push.ensures.items) (All-append (λ x. x < length (seen c.pending.new.cells.items)) c.loop-map.all.items (c.in_ok-c.c ∷ [])
        (All-weaker (λ x. x < length (seen c.loop-map.cells.items)) (λ x. x < length (seen c.pending.new.cells.items)) (λ x h. omega (arith, h, c.in_ok-c.ensures.grows.longer)) c.loop-map.all.items c.loop-map.invariant.waiting.1)
        (All-cons (λ x. x < length (seen c.pending.new.cells.items)) c.in_ok-c.c [] (let e = ap length c.in_ok-c.ensures.adds.is in omega (arith, e, c.in_ok-c.ensures.adds.at, length-append (seen c.loop-map.cells.items) (waiting_for [] ∷ []))) (All-nil _))),
  );
}
