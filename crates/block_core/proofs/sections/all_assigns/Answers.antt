use Rattle.std.proofs.Common.{map, ap, sym, ◌∙◌, refl}
use Rattle.net_core.specs.View.{assign_of, tree_of}
use Rattle.block_core.specs.Rename.{rename}
use Rattle.block_core.specs.Link.{link_output}
use Rattle.block_core.specs.View.{output_of, resolve_in}
use Rattle.block_core.specs.Range.{tree_in_range, assigns_in_range}
use Rattle.block_core.proofs.Loops.{end_of, pushed, map_map}
use Rattle.block_core.proofs.Linkings.{assign_same}
use Rattle.block_core.proofs.Ranges.{one_in_range, one_past, none_past, tells_past}
use Rattle.block_core.proofs.sections.all_assigns.Goals as goal

pub loop-output-preserved : goal.loop-output-preserved
loop-output-preserved g c =
    let f = resolve_in g.P.Part.place c.args.starts.now in
    record {
      linked = pushed assign_of (λ o. link_output f (output_of o)) c.args.outputs.now c.loop-output.output-index c.output-item.result c.loop-output.all.items _ _ _
          c.in_ok-push.ensures.items c.loop-output-test.true c.output-item.is (assign_same _ _ _ refl c.in_ok-value.ensures.linked) c.loop-output.invariant.linked;
      range = one_in_range (λ os. assigns_in_range (map (λ o. link_output f (output_of o)) os)) (λ o. tree_in_range (rename f (tree_of o.value))) (λ x xs. refl) c.args.outputs.now c.loop-output.output-index _
          c.loop-output.invariant.range c.output-item.result c.loop-output-test.true c.output-item.is c.in_ok-value.ensures.range;
    }

pub returns-in_err-value-clause-range : goal.returns-in_err-value-clause-range
returns-in_err-value-clause-range g c =
    let f = resolve_in g.P.Part.place c.args.starts.now in
    tells_past c.from_residual.result _ _ c.from_residual.ensures.1
    (λ many. ap assigns_in_range (map_map (link_output f) output_of c.args.outputs.now)
    ∙ one_past (λ os. assigns_in_range (map (λ o. link_output f (output_of o)) os)) (λ o. tree_in_range (rename f (tree_of o.value))) (λ x xs. refl) c.args.outputs.now c.loop-output.output-index _
    c.loop-output.invariant.range c.output-item.result c.loop-output-test.true c.output-item.is (c.in_err-value.ensures.range many))

pub returns-clause-linked : goal.returns-clause-linked
returns-clause-linked g c =
    let f = resolve_in g.P.Part.place c.args.starts.now in
    end_of (λ os. map (λ o. link_output f (output_of o)) os) refl c.args.outputs.now c.loop-output.output-index _ _ c.loop-output-test.false c.loop-output.invariant.linked
    ∙ sym (map_map (link_output f) output_of c.args.outputs.now)

pub returns-clause-range : goal.returns-clause-range
returns-clause-range g c =
    let f = resolve_in g.P.Part.place c.args.starts.now in
    ap assigns_in_range (map_map (link_output f) output_of c.args.outputs.now)
    ∙ none_past (λ os. assigns_in_range (map (λ o. link_output f (output_of o)) os)) (λ o. tree_in_range (rename f (tree_of o.value))) (λ x xs. refl) c.args.outputs.now c.loop-output.output-index _
    c.loop-output.invariant.range c.loop-output-test.false refl
