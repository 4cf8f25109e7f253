use Rattle.std.proofs.Common.{◌≡◌, ◌<◌, ◌∙◌, get_or, true, sym, ap, subst, arith, inl, inr, length}
use Rattle.std.proofs.lemmas.Bool.{cases_lt}
use Rattle.net_core.specs.declared.design.Assign.{Assign}
use Rattle.net_core.specs.Nets.{AssignTree}
use Rattle.net_core.specs.View.{netlist_of, assign_of, tree_of}
use Rattle.design_rules.specs.FormedScope.{sorts, reads_known}
use Rattle.net_optimize.proofs.ReadingLemmas.{at_map}
use Rattle.net_optimize.proofs.reading.assigns_known.Goals as goal

pub loop-k-preserved : goal.loop-k-preserved
loop-k-preserved c =
    let items = c.args.there.design.now.assigns.items in
    let k = c.loop-k.k in
    let y = c.index-all-k.result in
    record {
      all = c.loop-k.invariant.all;
      known = λ i x l e. elim (cases_lt i k) [
        | inl lt ↦ c.loop-k.invariant.known i x lt e
        | inr past ↦
            let here : i ≡ k = omega arith in
            let few : i < length items = omega (arith, ap length c.loop-k.invariant.all) in
            let is : y ≡ get_or items i y = subst (λ n. y ≡ get_or items n y) (sym here) (rw c.loop-k.invariant.all at c.index-all-k.is) in
            let same : assign_of y ≡ x = at_map assign_of items i y x few is e in
            let known : reads_known (sorts (netlist_of c.args.there.design.now) c.args.there.wires) (tree_of y.value) ≡ true =
            ap (λ (w : Assign). reads_known (sorts (netlist_of c.args.there.design.now) c.args.there.wires) (tree_of w.value)) c.index-all-k.is ∙ sym c.reads_known.ensures ∙ c.if-not-reads_known.false in
            subst (λ (z : AssignTree). reads_known (sorts (netlist_of c.args.there.design.now) c.args.there.wires) z.value ≡ true) same known
      ];
    }
