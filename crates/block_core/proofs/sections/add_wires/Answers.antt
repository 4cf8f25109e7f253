use Rattle.std.proofs.Common.{map, ◌++◌, sym, ap, ◌∙◌, refl}
use Rattle.net_core.specs.View.{wire_of, right_of}
use Rattle.block_core.specs.Rename.{rename_right}
use Rattle.block_core.specs.Link.{link_wire}
use Rattle.block_core.specs.View.{block_wire_of, resolve_in}
use Rattle.block_core.specs.Range.{right_in_range, wires_in_range}
use Rattle.block_core.proofs.Loops.{end_of, pushed, map_map}
use Rattle.block_core.proofs.Linkings.{wire_same}
use Rattle.block_core.proofs.Ranges.{one_in_range, one_past, none_past, tells_past}
use Rattle.block_core.proofs.sections.add_wires.Goals as goal

pub loop-wire-preserved : goal.loop-wire-preserved
loop-wire-preserved g c =
    let f = resolve_in g.P.Part.place c.args.starts.now in
    record {
      linked = pushed wire_of (λ w. link_wire f (block_wire_of w)) c.args.wires.now c.loop-wire.wire-index c.wire-item.result c.loop-wire.all.items _ _ _
          c.in_ok-push.ensures.items c.loop-wire-test.true c.wire-item.is (wire_same _ _ _ refl c.in_ok-right.ensures.linked) c.loop-wire.invariant.linked;
      range = one_in_range (λ ws. wires_in_range (map (λ w. link_wire f (block_wire_of w)) ws)) (λ w. right_in_range (rename_right f (right_of w.right))) (λ x xs. refl) c.args.wires.now c.loop-wire.wire-index _
          c.loop-wire.invariant.range c.wire-item.result c.loop-wire-test.true c.wire-item.is c.in_ok-right.ensures.range;
    }

pub returns-in_err-right-clause-range : goal.returns-in_err-right-clause-range
returns-in_err-right-clause-range g c =
    let f = resolve_in g.P.Part.place c.args.starts.now in
    tells_past c.from_residual.result _ _ c.from_residual.ensures.1
    (λ many. ap wires_in_range (map_map (link_wire f) block_wire_of c.args.wires.now)
    ∙ one_past (λ ws. wires_in_range (map (λ w. link_wire f (block_wire_of w)) ws)) (λ w. right_in_range (rename_right f (right_of w.right))) (λ x xs. refl) c.args.wires.now c.loop-wire.wire-index _
    c.loop-wire.invariant.range c.wire-item.result c.loop-wire-test.true c.wire-item.is (c.in_err-right.ensures.range many))

pub returns-clause-linked : goal.returns-clause-linked
returns-clause-linked g c =
    let f = resolve_in g.P.Part.place c.args.starts.now in
    end_of (λ ws. map (λ w. link_wire f (block_wire_of w)) ws) refl c.args.wires.now c.loop-wire.wire-index _ _ c.loop-wire-test.false c.loop-wire.invariant.linked
    ∙ ap (λ ys. map wire_of c.args.all.now.items ++ ys) (sym (map_map (link_wire f) block_wire_of c.args.wires.now))

pub returns-clause-range : goal.returns-clause-range
returns-clause-range g c =
    let f = resolve_in g.P.Part.place c.args.starts.now in
    ap wires_in_range (map_map (link_wire f) block_wire_of c.args.wires.now)
    ∙ none_past (λ ws. wires_in_range (map (λ w. link_wire f (block_wire_of w)) ws)) (λ w. right_in_range (rename_right f (right_of w.right))) (λ x xs. refl) c.args.wires.now c.loop-wire.wire-index _
    c.loop-wire.invariant.range c.loop-wire-test.false refl
