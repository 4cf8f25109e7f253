use Rattle.std.proofs.Common.{ap, arith}
use Rattle.net_core.specs.View.{netlist_of}
use Rattle.verilog_expression.specs.View.{lexemes_left}
use Rattle.verilog_expression.proofs.LoopStepLaws.{fails_on, gives_error, gives_fault}
use Rattle.verilog_read.specs.Items.{rank}
use Rattle.verilog_read.proofs.Begun.{item_late, item_begun, item_faulty}
use Rattle.verilog_read.proofs.sections.ordered_item.Goals as goal

pub returns-then-rank-clause-read : goal.returns-then-rank-clause-read
returns-then-rank-clause-read c =
    let e = ap rank c.section_of-section.ensures in
    gives_fault _ c.fault-then-rank.result _ _ c.fault-then-rank.ensures
    (item_late c.args.now (netlist_of c.args.partial) (lexemes_left c.args.rest) _ c.in-Some.item c.in-Some.ensures (omega (arith, c.if-rank.true, c.rank.ensures, c.rank-2.ensures, e)))

pub returns-in_err-partial-clause-read : goal.returns-in_err-partial-clause-read
returns-in_err-partial-clause-read c =
    let e = ap rank c.section_of-section.ensures in
    gives_error _ c.from_residual.result _ c.in_err-partial.field-0.0 _ c.from_residual.ensures (λ e' h. h)
    (fails_on _ _ _ (λ f k. item_faulty c.args.now (netlist_of c.args.partial) (lexemes_left c.args.rest) _ c.in-Some.item f c.in-Some.ensures (omega (arith, c.if-rank.false, c.rank.ensures, c.rank-2.ensures, e)) k) c.in_err-partial.ensures.read)

pub returns-clause-read : goal.returns-clause-read
returns-clause-read c =
    let e = ap rank c.section_of-section.ensures in
    item_begun c.args.now c.section_of-section.result (netlist_of c.args.partial) _ (lexemes_left c.args.rest) _ _ c.in-Some.item c.in-Some.ensures (omega (arith, c.if-rank.false, c.rank.ensures, c.rank-2.ensures, e)) c.in_ok-partial.ensures.read c.section_of-section.ensures
