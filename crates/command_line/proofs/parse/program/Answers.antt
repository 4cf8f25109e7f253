use Rattle.std.proofs.Common.{◌∙◌, sym, ap, ap₂}
use Rattle.clap.specs.Simple.{App, with_subcommand}
use Rattle.command_line.proofs.BuilderLemmas.{forms_next}
use Rattle.command_line.proofs.parse.program.Goals as goal

pub loop-row-preserved : goal.loop-row-preserved
loop-row-preserved c =
    c.in_ok-program.ensures.shape c.in_ok-command_of.ensures.local
    ∙ (ap₂ with_subcommand c.loop-row.invariant (ap (λ (a : App). a.top) c.in_ok-command_of.ensures.app)
    ∙ sym (forms_next c.args.rows.now c.loop-row.row-index _ c.loop-row-test.true))
