use Rattle.std.proofs.Common.{◌≡◌, take}
use Rattle.capture_run.specs.States.{sink_of, IsLaterSink}
use Rattle.ehdl_top.specs.Ends.{ArePut}
use Rattle.ehdl_top.proofs.command.put_lines.Given as goal

abbrev pub invariant-loop-line : goal.invariant-loop-line
invariant-loop-line g l = record {
  put : ArePut (take l.line-index l.lines) (sink_of g.O.Sink l.fn.out) (sink_of g.O.Sink l.out);
  none : l.line-index ≡ 0 → l.out ≡ l.fn.out;
  later : IsLaterSink (sink_of g.O.Sink l.fn.out) (sink_of g.O.Sink l.out);
}
