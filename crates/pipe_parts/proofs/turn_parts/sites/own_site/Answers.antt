use Rattle.pipe_parts.specs.PipeDraft.PipelinePlan.{plan_in}
use Rattle.pipe_parts.proofs.TurnParts.Siting.{own_of}
use Rattle.pipe_parts.proofs.turn_parts.sites.own_site.Goals as goal

pub returns-clause-own : goal.returns-clause-own
returns-clause-own c = own_of c.args.pipeline_plan.now c.requires.pipeline_plan (plan_in c.args.pipeline_plan.now).commit c.args.at.now c.requires.at _ c.requires.site c.site_at.ensures.act c.index.ensures
