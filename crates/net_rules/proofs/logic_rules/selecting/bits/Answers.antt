use Rattle.std.proofs.Common.{subst, sym}
use Rattle.net_rules.specs.NetSizes.Fitting.{Fits}
use Rattle.net_rules.proofs.LogicRules.SelectLemmas.{whole}
use Rattle.net_rules.proofs.logic_rules.selecting.bits.Goals as goal

pub returns-then-of-high : goal.returns-then-of-high
returns-then-of-high c v fit =
    whole c.of.result c.args.high c.args.low (v.net c.args.n) (sym c.if-of-high.true) c.if-low-eq0.true (subst (λ k. Fits k (v.net c.args.n)) (sym c.of.ensures) (fit c.args.n))
