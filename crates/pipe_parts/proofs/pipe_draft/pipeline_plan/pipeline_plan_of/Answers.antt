use Rattle.std.proofs.Common.{rules, ◌≡◌, true}
use Rattle.pipe_parts.proofs.pipe_draft.pipeline_plan.pipeline_plan_of.Goals as goal

pub returns-clause-late : goal.returns-clause-late
returns-clause-late c = λ few late.
    let early : c.are_early.result ≡ true = search (rules, c.if-not-are_early.false) in
    absurd (late (c.are_early.ensures.yes early))
