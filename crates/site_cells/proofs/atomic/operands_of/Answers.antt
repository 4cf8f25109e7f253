use Rattle.std.proofs.Common.{arith, sym, ◌∙◌}
use Rattle.site_cells.proofs.AtomicRows.{two_rise, source_low, compared_low}
use Rattle.site_cells.proofs.atomic.operands_of.Goals as goal

pub returns-in_ok-compared-clause-rises : goal.returns-in_ok-compared-clause-rises
returns-in_ok-compared-clause-rises c = λ ps.
    two_rise (c.in_ok-source.ensures.rises ps) (c.in_ok-compared.ensures.rises ps) (λ row. source_low row ps c.args.held.now c.args.kinds.now c.args.insn.now c.requires.src)
    (λ row. compared_low row ps c.args.held.now c.args.kinds.now c.args.insn.now (sym c.compares.ensures ∙ c.if-compares.true))

pub returns-in_ok-compared-2-clause-rises : goal.returns-in_ok-compared-2-clause-rises
returns-in_ok-compared-2-clause-rises c = λ ps.
    two_rise (c.in_ok-source.ensures.rises ps) c.in_ok-compared-2.ensures.rises (λ row. source_low row ps c.args.held.now c.args.kinds.now c.args.insn.now c.requires.src) (λ row. omega arith)
