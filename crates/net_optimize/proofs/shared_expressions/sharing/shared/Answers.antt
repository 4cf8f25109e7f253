use Rattle.std.proofs.Common.{sym, subst, map}
use Rattle.net_core.specs.View.{wire_of}
use Rattle.net_optimize.specs.SharedExpressions.Standing.{NoneStops}
use Rattle.net_optimize.proofs.shared_expressions.sharing.shared.Goals as goal

pub made-requires-clause-goes : goal.made-requires-clause-goes
made-requires-clause-goes c v u st none =
    c.in_ok-are_placed.ensures.goes c.if-not-branch.false v u st (subst (λ ws. NoneStops u (map wire_of ws)) (sym c.deref.ensures.value) none)
