use Rattle.std.proofs.Common.{arith}
use Rattle.port_drive.proofs.AnswerCounts.CountLemmas.{none_left, some_left}
use Rattle.port_drive.proofs.answer_counts.entries.entry_count.Goals as goal

pub returns-in-None : goal.returns-in-None
returns-in-None c = omega (arith, none_left c.args.maps.now c.args.map c.loop-i.i c.requires.hash c.in-None.ensures.pair, c.loop-i.invariant.some)

pub loop-i-preserved : goal.loop-i-preserved
loop-i-preserved c = record {
  some = some_left c.args.maps.now c.args.map c.loop-i.i (c.entry.new.key, c.in-Some.field-0.now) c.requires.hash c.in-Some.ensures.pair;
  key = omega (arith, c.entry.auto.key, c.loop-i.invariant.key);
}
