use Rattle.std.proofs.Common.{length, ◌∙◌, refl, ap}
use Rattle.xdp_state.specs.xdp_machine.State.{start}
use Rattle.xdp_seq.specs.declared.run.TheConstants.{STEP_LIMIT}
use Rattle.xdp_state.proofs.xdp_machine_laws.RunLaws.{runs_keep_sizes}
use Rattle.xdp_seq.proofs.Kept.{frame_answered, maps_answered}
use Rattle.xdp_seq.proofs.plan.run_bytes.Goals as goal

pub returns-clause-answer : goal.returns-clause-answer
returns-clause-answer c =
    let start_is = c.restart.ensures c.args.frame.now c.args.maps.now in
    rw (← c.plan.view_is, ← c.deref.ensures.value, ← c.deref-2.ensures.value, ← start_is) c.run.ensures

pub returns-clause-frame : goal.returns-clause-frame
returns-clause-frame c =
    ap length (frame_answered _ _ _ _ (returns-clause-answer c))
    ∙ (runs_keep_sizes c.args.plan.now STEP_LIMIT (start (record { frame = c.args.frame.now; ifindex = c.args.meta.ifindex; time = c.args.meta.time }) c.args.maps.now) refl).frame

pub returns-clause-decls : goal.returns-clause-decls
returns-clause-decls c =
    ap (λ s. s.decls) (maps_answered _ _ _ _ (returns-clause-answer c))
    ∙ (runs_keep_sizes c.args.plan.now STEP_LIMIT (start (record { frame = c.args.frame.now; ifindex = c.args.meta.ifindex; time = c.args.meta.time }) c.args.maps.now) refl).decls
