use Rattle.std.proofs.Common.{rules, ◌∙◌, ℕ, List, get_or, map, ap, arith}
use Rattle.std.proofs.lemmas.List.{take_all}
use Rattle.predicate_core.specs.Gathering.{arms_of}
use Rattle.predicate_core.proofs.Gathered.{arms_pushed}
use Rattle.predicate_core.proofs.Progressing.{row_is}
use Rattle.predicate_core.proofs.making.arms.Goals as goal

pub loop-number-preserved : goal.loop-number-preserved
loop-number-preserved c = record {
  count = search rules;
  there = search rules;
  brought = λ d. arms_pushed c.args.ways.now (map (λ x. x.items) c.args.pending.now) c.args.numbers.now c.args.map c.loop-number.number-index c.loop-number.arms.items c.push.new.self.items _ 0 c.deref-row.result.now d
      (omega (arith, c.loop-number-test.true, c.loop-number.auto.number-index-end)) (c.requires.numbers c.loop-number.number-index 0 (omega (arith, c.loop-number-test.true, c.loop-number.auto.number-index-end))) c.in_ok-push.ensures.items
      (row_is (λ x. x.items) c.args.pending.now (get_or c.args.numbers.now c.loop-number.number-index 0) c.index-pending-at.result c.deref-row.result.now c.deref-row.ensures c.index-pending-at.is
      (let l = c.requires.numbers c.loop-number.number-index 0 (omega (arith, c.loop-number-test.true, c.loop-number.auto.number-index-end)) in omega (arith, l, c.requires.beside)))
      (c.loop-number.invariant.brought d);
}

pub returns-clause-brought : goal.returns-clause-brought
returns-clause-brought c d = c.loop-number.invariant.brought d
    ∙ ap (λ (ns : List ℕ). arms_of c.args.ways.now (map (λ x. x.items) c.args.pending.now) ns c.args.map d) (take_all c.loop-number.number-index c.args.numbers.now (omega (arith, c.loop-number-test.false, c.loop-number.auto.number-index-end)))
