use Rattle.std.proofs.Common.{◌<◌, List, [], ◌∷◌, length, length-append, sym, ap, subst, arith}
use Rattle.std.specs.Prelude.{All}
use Rattle.std.proofs.lemmas.List.Elements.{All-append, All-cons, All-nil, All-weaker}
use Rattle.operator_cells.specs.declared.joining.Arm.{Arm}
use Rattle.operator_cells.specs.Making.{seen}
use Rattle.operator_cells.proofs.MakingLaws.{grown}
use Rattle.predicate_core.specs.StepCells.Waiting.{Gathers}
use Rattle.predicate_core.proofs.Gathered.{gathers_more}
use Rattle.predicate_core.proofs.making.gather.Goals as goal

pub loop-map-preserved : goal.loop-map-preserved
loop-map-preserved c = record {
  grows = grown c.loop-map.invariant.grows c.in_ok-c.ensures.grows;
  waiting = (
    (let e = ap length c.in_ok-push.ensures.items in omega (arith, e, c.loop-map.invariant.waiting.0, length-append c.loop-map.all.items (c.in_ok-c.c ∷ []))),
    subst (All (λ x. x < length (seen c.pending_at.new.cells.items))) (sym c.in_ok-push.ensures.items) (All-append (λ x. x < length (seen c.pending_at.new.cells.items)) c.loop-map.all.items (c.in_ok-c.c ∷ [])
        (All-weaker (λ x. x < length (seen c.loop-map.cells.items)) (λ x. x < length (seen c.pending_at.new.cells.items)) (λ x h. omega (arith, h, c.in_ok-c.ensures.grows.longer)) c.loop-map.all.items c.loop-map.invariant.waiting.1)
        (All-cons (λ x. x < length (seen c.pending_at.new.cells.items)) c.in_ok-c.c [] c.in_ok-c.ensures.there (All-nil _))),
  );
  rows = gathers_more _ (seen c.loop-map.cells.items) (seen c.pending_at.new.cells.items) _ _ _ c.loop-map.map c.loop-map.all.items _ c.in_ok-arms.arms.items c.in_ok-c.c c.loop-map.invariant.rows c.in_ok-arms.ensures.brought
      (subst (λ (arms : List Arm). Gathers (seen c.loop-map.cells.items) (seen c.pending_at.new.cells.items) arms c.in_ok-c.c) c.deref.ensures.value c.in_ok-c.ensures) c.in_ok-push.ensures.items c.loop-map.invariant.waiting.0;
}
