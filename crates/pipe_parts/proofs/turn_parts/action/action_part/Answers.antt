use Rattle.std.proofs.Common.{subst, arith}
use Rattle.block_core.specs.View.{block_of}
use Rattle.turn_net.specs.declared.nets.ActionNets.{ActionNets}
use Rattle.turn_net.specs.Action.{IsAction}
use Rattle.pipe_net.specs.declared.parts.Part.{Part}
use Rattle.pipe_net.specs.Parts as part
use Rattle.pipe_parts.specs.PipeDraft.PipelinePlan.{program_in, decls_in}
use Rattle.pipe_parts.proofs.TurnParts.Acting.{few, have_operands, records_are, all_kept}
use Rattle.pipe_parts.proofs.turn_parts.action.action_part.Goals as goal

pub action-requires-2-clause-few : goal.action-requires-2-clause-few
action-requires-2-clause-few c = omega (arith, few c.args.pipeline_plan.now c.requires.pipeline_plan c.args.records.now c.requires.records, c.requires.pipeline_plan.few_sites)

pub action-requires-2-clause-operands : goal.action-requires-2-clause-operands
action-requires-2-clause-operands c = have_operands c.args.pipeline_plan.now c.requires.pipeline_plan c.args.records.now c.requires.records

pub action-requires-2-clause-kept : goal.action-requires-2-clause-kept
action-requires-2-clause-kept c = all_kept c.args.pipeline_plan.now c.requires.pipeline_plan c.args.records.now c.requires.records c.args.action_shape.now c.requires.action_shape

pub returns : goal.returns
returns c =
    let d = c.args.pipeline_plan.now in
    let p = program_in d in
    let s = c.args.action_shape.now in
    let rs = c.args.records.now in
    let t = c.in_ok-made.made in
    let are = records_are d c.requires.pipeline_plan rs c.requires.records in
    record {
      records = are;
      is =
          subst (λ (n : ActionNets Part). IsAction p (decls_in d) (part.action d.sizes) s n rs (block_of t.block) t.chosen.items t.commits t.stays) c.action_nets-nets.ensures
          (subst (λ (x : Part). IsAction p (decls_in d) x s c.action_nets-nets.result rs (block_of t.block) t.chosen.items t.commits t.stays) c.action.ensures (c.in_ok-made.ensures p (decls_in d) are));
    }
