use Rattle.std.proofs.Common.{◌≡◌, ◌<◌, ◌∙◌, get_or, true, sym, ap, subst, arith, inl, inr, length}
use Rattle.std.proofs.lemmas.Bool.{cases_lt}
use Rattle.net_core.specs.declared.design.Wire.{Wire}
use Rattle.net_core.specs.Nets.{WireTree}
use Rattle.net_core.specs.View.{netlist_of, wire_of, right_of}
use Rattle.design_rules.specs.FormedScope.{sorts, right_known}
use Rattle.net_optimize.proofs.ReadingLemmas.{at_map}
use Rattle.net_optimize.proofs.reading.wires_known.Goals as goal

pub loop-k-preserved : goal.loop-k-preserved
loop-k-preserved c =
    let items = c.args.design.now.wires.items in
    let k = c.loop-k.k in
    let y = c.index-all-k.result in
    record {
      all = c.loop-k.invariant.all;
      known = λ i x l e. elim (cases_lt i k) [
        | inl lt ↦ c.loop-k.invariant.known i x lt e
        | inr past ↦
            let here : i ≡ k = omega arith in
            let few : i < length items = omega (arith, ap length c.loop-k.invariant.all) in
            let is : y ≡ get_or items i y = subst (λ n. y ≡ get_or items n y) (sym here) (rw c.loop-k.invariant.all at c.index-all-k.is) in
            let same : wire_of y ≡ x = at_map wire_of items i y x few is e in
            let known : right_known (sorts (netlist_of c.args.design.now) k) (right_of y.right) ≡ true =
            ap (λ (w : Wire). right_known (sorts (netlist_of c.args.design.now) k) (right_of w.right)) c.index-all-k.is ∙ sym c.right_known.ensures ∙ c.if-not-right_known.false in
            subst (λ (z : WireTree). right_known (sorts (netlist_of c.args.design.now) i) z.right ≡ true) same
            (subst (λ n. right_known (sorts (netlist_of c.args.design.now) n) (right_of y.right) ≡ true) (sym here) known)
      ];
    }
