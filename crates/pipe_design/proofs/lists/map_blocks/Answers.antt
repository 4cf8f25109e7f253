use Rattle.std.proofs.Common.{◌≡◌, ◌∙◌, ◌<◌, ◌∷◌, sym, ap, arith, length, map as map_list}
use Rattle.block_core.specs.View.{block_of}
use Rattle.pipe_design.specs.Parts.{blocks_of_map}
use Rattle.pipe_design.proofs.Joining.{cons_both, first_and_rest, six_pushed, pair_less, none_left}
use Rattle.pipe_design.proofs.lists.map_blocks.Goals as goal

pub loop-part-preserved : goal.loop-part-preserved
loop-part-preserved c =
    let at = c.loop-part.invariant in
    let some = c.in-Some.ensures.steps in
    let rest = c.loop-part.rest.items in
    let x = c.in-Some.part in
    let y = c.remove.result in
    let short = ap length some.0 in
    let there : 0 < length rest = omega (arith, at.many, short) in
    let less : rest ≡ y ∷ c.remove.new.self.items = first_and_rest rest y there ∙ cons_both (sym c.remove.ensures.value) (sym c.remove.ensures.items) in
    let fewer = ap length less in
    let six =
    six_pushed block_of c.loop-part.blocks.items _ _ _ _ _ _ x.table.finds x.table.fetches x.table.asks x.table.stores x.written.block y.block c.in_ok-push.ensures.items c.in_ok-push-2.ensures.items c.in_ok-push-3.ensures.items
    c.in_ok-push-4.ensures.items c.in_ok-push-5.ensures.items c.in_ok-push-6.ensures.items in
    record {
      count = let gone = some.1 in let was = at.count in omega arith;
      many = omega (arith, at.many, short, fewer);
      made = pair_less blocks_of_map (map_list block_of c.loop-part.blocks.items) _ _ _ _ rest c.remove.new.self.items x y some.0 less six at.made;
    }

pub returns : goal.returns
returns c =
    let at = c.loop-part.invariant in
    let none = c.in-None.ensures.steps in
    none_left blocks_of_map _ _ _ _ (sym at.count ∙ none.0) at.made
