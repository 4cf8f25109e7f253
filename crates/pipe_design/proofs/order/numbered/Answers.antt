use Rattle.std.proofs.Common.{◌≡◌, ◌∙◌, ◌++◌, ℕ, suc, List, [], ◌∷◌, ap, sym, subst, arith, length, length-append, map as map_list}
use Rattle.std.proofs.lemmas.List.{map-append, length-map}
use Rattle.block_core.specs.declared.block.Placed.{Placed}
use Rattle.block_core.specs.View.{block_of}
use Rattle.hazard_core.specs.cell_core.Rows.{numbers}
use Rattle.pipe_net.specs.declared.parts.Part.{Part}
use Rattle.pipe_net.specs.Parts.{part}
use Rattle.pipe_design.specs.Order.{AreNumbered}
use Rattle.pipe_design.proofs.Joining.{all_yielded, left_more}
use Rattle.pipe_design.proofs.Ordering.{numbered_more}
use Rattle.pipe_design.proofs.order.numbered.Goals as goal

pub loop-block-preserved : goal.loop-block-preserved
loop-block-preserved c =
    let at = c.loop-block.invariant in
    let some = c.in-Some.ensures.steps in
    let m : Placed Part = record { part = part c.len.result; block = c.in-Some.block } in
    let items = c.in_ok-push.ensures.items in
    let one : length (c.loop-block.yielded ++ c.in-Some.block ∷ []) ≡ suc (length c.loop-block.yielded) = omega (arith, length-append c.loop-block.yielded (c.in-Some.block ∷ [])) in
    record {
      left = left_more _ c.in-Some.block _ _ _ some.0 at.left;
      count = let short = ap length some.0 in let gone = some.1 in let was = at.count in omega arith;
      long = omega (arith, ap length items, length-append c.loop-block.all.items (m ∷ []), one, at.long);
      parts = ap (map_list (λ m. m.part)) items ∙ numbered_more (length c.loop-block.yielded) c.loop-block.all.items m at.parts (omega (arith, c.len.ensures)) ∙ ap (λ n. map_list part (numbers 0 n)) (sym one);
      are = ap (map_list (λ m. block_of m.block)) items ∙ map-append (λ m. block_of m.block) c.loop-block.all.items (m ∷ []) ∙ ap (λ l. l ++ block_of c.in-Some.block ∷ []) at.are ∙ sym (map-append block_of c.loop-block.yielded (c.in-Some.block ∷ []));
    }

pub returns : goal.returns
returns c =
    let at = c.loop-block.invariant in
    let none = c.in-None.ensures.steps in
    let all = all_yielded _ _ _ at.left (sym at.count ∙ none.0) in
    record {
      parts = at.parts ∙ ap (λ l. map_list part (numbers 0 l)) (ap length all ∙ sym (length-map c.args.blocks.items block_of));
      are = at.are ∙ ap (map_list block_of) all;
    }
