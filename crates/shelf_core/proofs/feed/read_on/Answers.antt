use Rattle.std.proofs.Common.{◌≡◌, ◌≤◌, ◌+◌, length, take, sym, ◌∙◌, subst, arith, rules}
use Rattle.std.proofs.lemmas.Grind.{common_steps}
use Rattle.std.proofs.lemmas.List.{length-take-le}
use Rattle.std.proofs.lemmas.Slice.{take-put_mid_below}
use Rattle.shelf_core.specs.Shelf.{Reads}
use Rattle.shelf_core.specs.Feeding.{StandsAt}
use Rattle.shelf_core.proofs.FeedingLaws.{stands_more, there, take_put_more}
use Rattle.shelf_core.proofs.feed.read_on.Goals as goal

pub loop-end-preserved : goal.loop-end-preserved
loop-end-preserved g c = record {
  tells = search rules;
  held = search rules;
  reads = search rules;
  writes = search rules;
  made = let inv = c.loop-end.invariant.made in let made = c.read_at.ensures.made in omega (arith, inv, made, c.loop-end-test.true, c.if-n-eq0.false);
  from = search rules;
  len = grind (arith, common_steps);
  room = grind (arith, common_steps);
  within = search rules;
  same = take-put_mid_below c.loop-end.end _ c.loop-end.buffer c.read_at.new.into c.args.kept c.loop-end.invariant.from c.loop-end.invariant.room ∙ c.loop-end.invariant.same;
  there = λ t lt.
      let reads : Reads (g.S.Shelf.held c.args.shelf.now c.args.name.now) (c.args.at + c.loop-end.end) c.in_ok-n.n c.read_at.new.into = search rules in
      there _ _ _ c.read_at.new.into reads;
  stand = λ t s.
      let room : c.in_ok-n.n ≤ length c.read_at.new.into = search rules in
      let reads : Reads (g.S.Shelf.held c.args.shelf.now c.args.name.now) (c.args.at + c.loop-end.end) c.in_ok-n.n c.read_at.new.into = search rules in
      let len : length (take c.loop-end.end c.loop-end.buffer) ≡ c.loop-end.end = length-take-le c.loop-end.end c.loop-end.buffer c.loop-end.invariant.room in
      let at : Reads (g.S.Shelf.held c.args.shelf.now c.args.name.now) (c.args.at + length (take c.loop-end.end c.loop-end.buffer)) c.in_ok-n.n c.read_at.new.into =
      subst (λ k. Reads (g.S.Shelf.held c.args.shelf.now c.args.name.now) (c.args.at + k) c.in_ok-n.n c.read_at.new.into) (sym len) reads in
      subst (λ l. StandsAt (g.S.Shelf.held c.args.shelf.now c.args.name.now) c.args.at l) (sym (take_put_more c.loop-end.end _ c.in_ok-n.n c.loop-end.buffer c.read_at.new.into c.loop-end.invariant.room room))
      (stands_more _ c.args.at c.in_ok-n.n (take c.loop-end.end c.loop-end.buffer) c.read_at.new.into (omega (arith, c.if-n-eq0.false)) room (c.loop-end.invariant.stand t s) at);
}
