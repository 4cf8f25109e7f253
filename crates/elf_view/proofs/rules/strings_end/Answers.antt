-- The loop stops after the last zero byte, or at 0.
use Rattle.std.proofs.Common.{arith}
use Rattle.elf_view.proofs.SearchLaws.{is_some-string_at}
use Rattle.elf_view.proofs.rules.strings_end.Goals as goal

pub returns-else-table-end-ne0 : goal.returns-else-table-end-ne0
returns-else-table-end-ne0 c = λ at.
    is_some-string_at c.args.table.now c.loop-end.end at c.loop-end.invariant.0 c.loop-end.invariant.1 (λ h. c.if-table-end-ne0.false)

pub returns-after-loop-end : goal.returns-after-loop-end
returns-after-loop-end c = λ at.
    is_some-string_at c.args.table.now c.loop-end.end at c.loop-end.invariant.0 c.loop-end.invariant.1
    (λ h. absurd (omega arith))
