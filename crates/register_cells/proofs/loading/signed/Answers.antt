use Rattle.std.proofs.Common.{◌∙◌, ap}
use Rattle.kind_core.specs.declared.kind.Kind.TheVariants.{Num}
use Rattle.register_cells.proofs.LoadRows.{sign_to}
use Rattle.register_cells.proofs.loading.signed.Goals as goal

pub returns-in_ok-c-in-Num-Between-clause-rows : goal.returns-in_ok-c-in-Num-Between-clause-rows
returns-in_ok-c-in-Num-Between-clause-rows c = λ ps n is.
    sign_to ps _ _ c.args.size c.args.kind n _ _ c.args.p _ (c.in-Num-Between.is ∙ ap Num (rw c.in-Num-Between.is at c.in-Num-Between.field-0-is)) is c.in_ok-c-in-Num-Between.ensures.rises
