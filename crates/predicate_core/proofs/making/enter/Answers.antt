use Rattle.std.proofs.Common.{ℕ, List, [], ◌∷◌, ◌++◌, length, length-append, take, map, ◌∙◌, ap, subst, arith, refl}
use Rattle.std.proofs.Math.ListN.{length-set}
use Rattle.std.proofs.lemmas.List.{length-take-le, take_all}
use Rattle.predicate_core.specs.Progress.{targets, Entered}
use Rattle.predicate_core.proofs.Numbered.{count_targets, no_way}
use Rattle.predicate_core.proofs.Entering.{entered_none, entered_step}
use Rattle.predicate_core.proofs.making.enter.Goals as goal

pub loop-i-init : goal.loop-i-init
loop-i-init c = record {
  at = omega (arith, c.len-i.ensures);
  size = refl;
  entered = subst (λ (n : ℕ). Entered (take (length c.args.pending.now.items) (targets c.args.ways.now)) (take n (targets c.args.ways.now)) (map (λ x. x.items) c.args.entries.now.items) (map (λ x. x.items) c.args.entries.now.items)
      (map (λ x. x.items) c.args.pending.now.items) (map (λ x. x.items) c.args.pending.now.items) c.args.brought.now) (omega (arith, c.len-i.ensures))
      (entered_none (take (length c.args.pending.now.items) (targets c.args.ways.now)) (map (λ x. x.items) c.args.entries.now.items) (map (λ x. x.items) c.args.pending.now.items) c.args.brought.now);
}

pub loop-i-preserved : goal.loop-i-preserved
loop-i-preserved c = record {
  at = (let e = ap length c.in_ok-push-2.ensures.items in omega (arith, e, c.loop-i.invariant.at, length-append c.loop-i.pending.items (c.in_ok-row.row ∷ [])));
  size = length-set c.loop-i.entries.items _ c.push.new.self ∙ c.loop-i.invariant.size;
  entered = entered_step (λ x. x.items) (λ x. x.items) c.args.ways.now c.loop-i.i no_way (take (length c.args.pending.now.items) (targets c.args.ways.now)) (map (λ x. x.items) c.args.entries.now.items) c.loop-i.entries.items c.index_mut.result.now c.push.new.self (map (λ x. x.items) c.args.pending.now.items) c.loop-i.pending.items c.push-in-loop-i.new.self.items c.in_ok-row.row c.args.brought.now
      c.loop-i-test.true (omega (arith, c.loop-i.auto.i, c.len-i.ensures, length-take-le (length c.args.pending.now.items) (targets c.args.ways.now) (omega (arith, c.requires.before, count_targets c.args.ways.now))))
      (let x = c.requires.inside c.loop-i.i no_way c.loop-i-test.true in omega (arith, x, c.loop-i.invariant.size)) c.index_mut.ensures.value
      (c.in_ok-push.ensures.ok ∙ ap (λ (n : ℕ). c.index_mut.result.now.items ++ n ∷ []) c.in-Ok.ensures.1) c.in_ok-push-2.ensures.items c.in_ok-row.ensures.ok c.loop-i.invariant.entered;
}

pub returns : goal.returns
returns c = subst (λ (tos : List ℕ). Entered (take (length c.args.pending.now.items) (targets c.args.ways.now)) tos (map (λ x. x.items) c.args.entries.now.items) (map (λ x. x.items) c.loop-i.entries.items)
    (map (λ x. x.items) c.args.pending.now.items) (map (λ x. x.items) c.loop-i.pending.items) c.args.brought.now) (take_all c.loop-i.i (targets c.args.ways.now) (omega (arith, c.loop-i-test.false, count_targets c.args.ways.now))) c.loop-i.invariant.entered
