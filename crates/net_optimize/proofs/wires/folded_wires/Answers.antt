use Rattle.std.proofs.Common.{◌∙◌, sym, ap, subst, map, take, length, length-append, arith, ◌++◌, [], ◌∷◌}
use Rattle.std.proofs.Math.ListN.{get_or-map}
use Rattle.std.proofs.lemmas.List.{length-map, map-append, take_more}
use Rattle.net_core.specs.Nets.{WireTree}
use Rattle.net_core.specs.View.{right_of, wire_of}
use Rattle.net_optimize.specs.Folding.{AreKnown, AreSameWires}
use Rattle.design_rules.specs.SolvedWires.Solving.{Solves}
use Rattle.net_optimize.proofs.ListLemmas.{wire_step}
use Rattle.net_optimize.proofs.wires.folded_wires.Goals as goal

pub loop-wire-preserved : goal.loop-wire-preserved
loop-wire-preserved c =
    let l = c.loop-wire in
    let i = l.wire-index in
    let all = map wire_of c.args.wires.now in
    let w = wire_of c.wire-item.result in
    let x : WireTree = record { width = w.width; right = right_of c.in_ok-right.right } in
    let at = ap wire_of c.wire-item.is ∙ sym (get_or-map wire_of c.args.wires.now i c.wire-item.result) in
    let old = take_more all i w (omega (arith, length-map c.args.wires.now wire_of)) ∙ ap (λ y. take i all ++ y ∷ []) (sym at) in
    let new = ap (map wire_of) c.in_ok-push.ensures.items ∙ map-append wire_of l.folded.items _ in
    record {
      wires = ap length c.in_ok-push.ensures.items ∙ length-append l.folded.items _ ∙ omega (arith, l.invariant.wires);
      known = ap length c.in_ok-push-2.ensures.items ∙ length-append l.known.items _ ∙ omega (arith, l.invariant.known);
      same = λ v s.
          let so_far = l.invariant.same v s in
          let p = wire_step v all (map wire_of l.folded.items) l.known.items i w x c.in_ok-fact.fact s so_far.0 so_far.1 l.invariant.known (omega (arith, length-map c.args.wires.now wire_of)) at
          (λ k. c.in_ok-right.ensures v (subst (AreKnown v) (sym c.deref.ensures.value) k))
          (λ k. c.in_ok-fact.ensures v (subst (λ xs. Solves v 0 (map wire_of xs)) (sym c.deref-in-loop-wire.ensures.value) k)) in (
            subst (λ xs. AreSameWires v xs (map wire_of c.push.new.self.items)) (sym old) (subst (λ ys. AreSameWires v (take i all ++ w ∷ []) ys) (sym new) p.0),
            subst (AreKnown v) (sym c.in_ok-push-2.ensures.items) p.1,
          );
    }
