use Rattle.std.proofs.Common.{◌∙◌, ap}
use Rattle.kind_core.specs.declared.kind.Kind.TheVariants.{Num}
use Rattle.register_cells.proofs.LoadRows.{value_copied}
use Rattle.register_cells.proofs.loading.whole.Goals as goal

pub returns-in_ok-c-in-Num-Between-clause-rows : goal.returns-in_ok-c-in-Num-Between-clause-rows
returns-in_ok-c-in-Num-Between-clause-rows c = λ ps.
    value_copied ps _ _ c.args.kind _ _ c.args.p _ (c.in-Num-Between.is ∙ ap Num (rw c.in-Num-Between.is at c.in-Num-Between.field-0-is)) c.in_ok-c-in-Num-Between.ensures.rises
