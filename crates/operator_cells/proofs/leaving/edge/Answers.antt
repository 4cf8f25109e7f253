use Rattle.operator_cells.proofs.Growing.{grown_none}
use Rattle.operator_cells.proofs.Edges.{taken_is, passed_is, makes_if}
use Rattle.std.proofs.Common.{arith}
use Rattle.operator_cells.proofs.RisingLaws.{stand_none, stand_more, rises_then}
use Rattle.operator_cells.proofs.leaving.edge.Goals as goal

pub returns-then-taken-clause-makes : goal.returns-then-taken-clause-makes
returns-then-taken-clause-makes c = rw c.if-taken.true (makes_if _ _ _ _ _ _ _ (grown_none _) c.in_ok-c.ensures.makes (λ packet v r p. taken_is (v c.args.guard) (v c.args.condition) p.0 p.1))

pub returns-clause-makes : goal.returns-clause-makes
returns-clause-makes c = rw c.if-taken.false (makes_if _ _ _ _ _ _ _ c.in_ok-other.ensures.makes.grows c.in_ok-c-2.ensures.makes
    (λ packet v r p. passed_is (v c.args.guard) (v c.args.condition) (v c.in_ok-other.other) p.0 p.1 (c.in_ok-other.ensures.makes.value packet v r)))

pub returns-then-taken-clause-rises : goal.returns-then-taken-clause-rises
returns-then-taken-clause-rises c = rises_then stand_none c.in_ok-c.ensures.rises (λ row p. omega arith)

pub returns-clause-rises : goal.returns-clause-rises
returns-clause-rises c = rises_then (stand_more stand_none c.in_ok-other.ensures.rises (λ row p. omega arith)) c.in_ok-c-2.ensures.rises (λ row p. omega arith)
