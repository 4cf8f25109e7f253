use Rattle.std.proofs.Common.{◌≡◌}
use Rattle.kind_core.specs.declared.number.Number.TheVariants.{Between}
use Rattle.register_cells.proofs.MovingRows.{copy_to, extended_to}
use Rattle.register_cells.proofs.moving.copied.Goals as goal

pub returns-in_ok-c-in-Num-Between-clause-rows : goal.returns-in_ok-c-in-Num-Between-clause-rows
returns-in_ok-c-in-Num-Between-clause-rows c = λ ps.
    let open_one : c.in-Num-Between.field-0 ≡ Between _ _ = rw c.in-Num-Between.is at c.in-Num-Between.field-0-is in
    copy_to ps c.args.width c.args.count c.in-Num-Between.field-0 _ _ c.args.q c.in_ok-c-in-Num-Between.c c.in-Num-Between.is open_one c.in_ok-c-in-Num-Between.ensures.rises

pub returns-in_ok-c-in-Num-clause-rows : goal.returns-in_ok-c-in-Num-clause-rows
returns-in_ok-c-in-Num-clause-rows c = λ ps. extended_to ps c.args.width c.args.count _ c.args.q c.in_ok-c-in-Num.c c.in-Num.is (c.in_ok-c-in-Num.ensures.rows ps)
