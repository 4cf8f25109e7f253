-- What cell runs rest on.
use Rattle.std.proofs.Common.{sym, ◌∙◌}
use Rattle.hazard_core.specs.cell_core.SiteLaws.{ValuesKeep}
use Rattle.pipe_core.specs.Apart.{RunsElsewhere, RunsComplete}
use Rattle.pipe_core.proofs.Elsewhere.{same_reads, run_elsewhere}
use Rattle.pipe_core.proofs.Completing.{only_one, completed}

pub runs_elsewhere : RunsElsewhere
runs_elsewhere b plan packet maps other v same sound sound' fit run all =
    let s = same_reads v b.program.sites maps other same sound sound' fit all in
    (run_elsewhere b.program plan.sites plan.finds plan.answers packet maps other v s run, s.touches)

pub runs_complete : ValuesKeep → RunsComplete
runs_complete keep decls p formed sited packet maps given fits =
    let q = completed keep decls p formed sited packet maps given fits in (
      q.0,
      record { run = q.1; aside = q.2 },
      λ w h k l. only_one keep decls p formed sited packet maps w q.0 h.run q.1 (λ i j m e off off'. h.aside i j m e off ∙ sym (q.2 i j m e off')) k l,
    )
