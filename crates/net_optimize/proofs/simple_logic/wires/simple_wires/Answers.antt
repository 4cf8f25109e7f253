use Rattle.std.proofs.Common.{◌∙◌, sym, ap, subst, map, take, length, length-append, arith, ◌++◌, [], ◌∷◌}
use Rattle.std.proofs.lemmas.List.{map_more}
use Rattle.net_core.specs.declared.tree.Net.TheVariants.{Wire}
use Rattle.net_core.specs.View.{wire_of}
use Rattle.net_rules.specs.NetSizes.Fitting.{AreFitting, Fits}
use Rattle.net_rules.specs.LogicRules.Known.{AreKnown, IsValued}
use Rattle.net_optimize.specs.SimpleLogic.Simple.{IsSameWire}
use Rattle.net_optimize.proofs.SimpleLogic.ListLemmas.{each_pushed, wire_at, fit_append, known_append}
use Rattle.net_optimize.proofs.simple_logic.wires.simple_wires.Goals as goal

pub loop-wire-preserved : goal.loop-wire-preserved
loop-wire-preserved c =
    let l = c.loop-wire in
    let i = l.wire-index in
    let w = c.wire-item.result in
    let before = map wire_of (take i c.args.wires.now) in
    let whole = map_more wire_of c.args.wires.now i w (omega arith) ∙ ap (λ x. before ++ wire_of x ∷ []) (sym c.wire-item.is) in
    let size = c.right_size-size.result in
    let fact = c.in_ok-fact.fact in
    record {
      sizes = ap length c.in_ok-push-2.ensures.items ∙ length-append l.facts.sizes.wires.items _ ∙ omega (arith, l.invariant.sizes);
      known = ap length c.in_ok-push-3.ensures.items ∙ length-append l.facts.known.items _ ∙ omega (arith, l.invariant.known);
      same = λ v fit solve.
          each_pushed (IsSameWire v) wire_of before l.all.items _ (wire_of w) _ _ whole c.in_ok-push.ensures.items (l.invariant.same v fit solve) (c.in_ok-right.ensures v (l.invariant.hold v fit solve));
      hold = λ v fit solve.
          let h = l.invariant.hold v fit solve in
          let at = wire_at v c.args.wires.now i w c.wire-item.is (omega arith) solve in
          let fits = subst (λ n. Fits size (v.net (Wire n))) (sym l.invariant.sizes) (subst (Fits size) at (c.right_size-size.ensures v h.sizes)) in
          let valued = subst (λ n. IsValued v fact (v.net (Wire n))) (sym l.invariant.known) (subst (IsValued v fact) ((c.in_ok-right.ensures v h).value ∙ at) (c.in_ok-fact.ensures v)) in
          record {
            sizes = subst (λ ws. AreFitting (record { registers = l.facts.sizes.registers.items; wires = ws }) v) (sym c.in_ok-push-2.ensures.items) (fit_append v l.facts.sizes.registers.items l.facts.sizes.wires.items size h.sizes fits);
            known = subst (AreKnown v) (sym c.in_ok-push-3.ensures.items) (known_append v l.facts.known.items fact h.known valued);
          };
    }
