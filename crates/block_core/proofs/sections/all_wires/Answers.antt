use Rattle.std.proofs.Common.{◌+◌, ◌++◌, map, drop, ap, sym, ◌∙◌}
use Rattle.std.proofs.lemmas.List.Folds.{list_all-append}
use Rattle.net_core.specs.View.{wire_of}
use Rattle.block_core.specs.Blocks.{gather}
use Rattle.block_core.specs.Link.{link_wires}
use Rattle.block_core.specs.View.{block_of, block_wire_of, resolve_in}
use Rattle.block_core.specs.Range.{wires_in_range}
use Rattle.block_core.proofs.Loops.{gather_more}
use Rattle.block_core.proofs.Ranges.{one_in_range, one_past, tells_past}
use Rattle.block_core.proofs.sections.all_wires.Goals as goal

pub loop-placed-preserved : goal.loop-placed-preserved
loop-placed-preserved g c =
    let f = resolve_in g.P.Part.place c.args.starts.now in
    record {
      linked = ap (λ ws. ws ++ gather (λ m. link_wires f (block_of m.block).wires) (drop (c.loop-placed.placed-index + 1) c.args.parts.now))
          (c.in_ok-add_wires.ensures.linked ∙ ap (λ ws. map wire_of c.loop-placed.all.items ++ link_wires f (map block_wire_of ws)) c.deref.ensures.value)
          ∙ gather_more (λ m. link_wires f (block_of m.block).wires) c.args.parts.now c.loop-placed.placed-index c.placed-item.result (map wire_of c.loop-placed.all.items) c.loop-placed-test.true c.placed-item.is
          ∙ c.loop-placed.invariant.linked;
      range = one_in_range (λ ms. wires_in_range (gather (λ m. link_wires f (block_of m.block).wires) ms)) (λ m. wires_in_range (link_wires f (block_of m.block).wires)) (λ m ms. list_all-append _ (link_wires f (block_of m.block).wires) _)
          c.args.parts.now c.loop-placed.placed-index _ c.loop-placed.invariant.range c.placed-item.result c.loop-placed-test.true c.placed-item.is
          (sym (ap (λ ws. wires_in_range (link_wires f (map block_wire_of ws))) c.deref.ensures.value) ∙ c.in_ok-add_wires.ensures.range);
    }

pub returns-in_err-add_wires-clause-range : goal.returns-in_err-add_wires-clause-range
returns-in_err-add_wires-clause-range g c =
    let f = resolve_in g.P.Part.place c.args.starts.now in
    tells_past c.from_residual.result _ _ c.from_residual.ensures.1
    (λ many. one_past (λ ms. wires_in_range (gather (λ m. link_wires f (block_of m.block).wires) ms)) (λ m. wires_in_range (link_wires f (block_of m.block).wires)) (λ m ms. list_all-append _ (link_wires f (block_of m.block).wires) _)
    c.args.parts.now c.loop-placed.placed-index _ c.loop-placed.invariant.range c.placed-item.result c.loop-placed-test.true c.placed-item.is
    (sym (ap (λ ws. wires_in_range (link_wires f (map block_wire_of ws))) c.deref.ensures.value) ∙ c.in_err-add_wires.ensures.range many))
