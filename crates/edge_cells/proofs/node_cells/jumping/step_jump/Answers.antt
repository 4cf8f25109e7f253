use Rattle.edge_cells.proofs.node_cells.jumping.step_jump.Goals as goal
use Rattle.std.proofs.lemmas.Result.{IfOk-weaker}

pub returns-in-Some-Some-clause-steps : goal.returns-in-Some-Some-clause-steps
returns-in-Some-Some-clause-steps c = rw (c.in-Some-Some.is-0, c.in-Some-Some.is-1) c.step_both.ensures.steps

pub returns-in-Some-None-clause-steps : goal.returns-in-Some-None-clause-steps
returns-in-Some-None-clause-steps c =
    rw (c.in-Some-None.is-0, c.in-Some-None.is-1) (IfOk-weaker c.step_one.result _ _ (λ done h g sites exits d is next jump made. h g sites exits d is next made) c.step_one.ensures.steps)

pub returns-in-None-Some-clause-steps : goal.returns-in-None-Some-clause-steps
returns-in-None-Some-clause-steps c =
    rw (c.in-None-Some.is-0, c.in-None-Some.is-1) (IfOk-weaker c.step_one-in-None-Some.result _ _ (λ done h g sites exits d is next jump made. h g sites exits d is jump made) c.step_one-in-None-Some.ensures.steps)
