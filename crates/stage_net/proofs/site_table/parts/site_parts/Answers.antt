use Rattle.std.proofs.Common.{length, length-append, ap, arith}
use Rattle.std.proofs.lemmas.List.{length-map}
use Rattle.hazard_core.specs.cell_core.View.{cell_of, program_of}
use Rattle.stage_net.specs.SiteTable.Parts.{is_part}
use Rattle.stage_net.proofs.SiteTable.FlagLemmas.{flags_more, parts_are}
use Rattle.stage_net.proofs.site_table.parts.site_parts.Goals as goal

pub loop-number-preserved : goal.loop-number-preserved
loop-number-preserved c =
    record {
      count = omega (arith, simp length-append at (ap length c.in_ok-push.ensures.items), c.loop-number.invariant.count);
      each = flags_more (is_part (program_of c.args.program.now)) c.loop-number.parts.items c.push.new.self.items c.loop-number.number c.is_part.result c.loop-number.invariant.count c.loop-number.invariant.each c.is_part.ensures c.in_ok-push.ensures.items;
    }

pub returns : goal.returns
returns c =
    let cells = c.args.program.now.cells.items in
    parts_are (program_of c.args.program.now) c.loop-number.parts.items (omega (arith, c.loop-number.invariant.count, length-map cells cell_of, c.loop-number-test.false, c.loop-number.auto.number-end, c.len-number-end.ensures))
    (λ k lt. c.loop-number.invariant.each k (omega (arith, lt, length-map cells cell_of, c.loop-number-test.false, c.len-number-end.ensures)))
