use Rattle.std.proofs.Common.{◌≡◌, ◌<◌, ◌∙◌, get_or, true, sym, ap, subst, arith, inl, inr, length}
use Rattle.std.proofs.lemmas.Bool.{cases_lt}
use Rattle.net_core.specs.declared.tree.Net.{Net}
use Rattle.net_core.specs.Nets.{StatementTree}
use Rattle.net_core.specs.View.{netlist_of, statement_of}
use Rattle.design_rules.specs.FormedScope.{sorts, reads_known}
use Rattle.design_rules.specs.FormedSyntax.{trees_pass}
use Rattle.net_optimize.proofs.ReadingLemmas.{at_map}
use Rattle.net_optimize.proofs.reading.always_known.Goals as goal

pub loop-k-preserved : goal.loop-k-preserved
loop-k-preserved c =
    let items = c.args.there.design.now.always.items in
    let k = c.loop-k.k in
    let y = c.index-all-k.result in
    record {
      all = c.loop-k.invariant.all;
      known = λ i x l e. elim (cases_lt i k) [
        | inl lt ↦ c.loop-k.invariant.known i x lt e
        | inr past ↦
            let here : i ≡ k = omega arith in
            let few : i < length items = omega (arith, ap length c.loop-k.invariant.all) in
            let is : y ≡ get_or items i y = subst (λ n. y ≡ get_or items n y) (sym here) (rw c.loop-k.invariant.all at c.index-all-k.is) in
            let same : statement_of y ≡ x = at_map statement_of items i y x few is e in
            subst (λ (z : StatementTree Net). trees_pass (reads_known (sorts (netlist_of c.args.there.design.now) c.args.there.wires)) z ≡ true) same
            (sym c.stmt_known.ensures ∙ c.if-not-stmt_known.false)
      ];
    }
