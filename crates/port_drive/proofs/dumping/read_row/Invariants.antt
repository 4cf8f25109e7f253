use Rattle.std.proofs.Common.{◌≡◌, ◌++◌, ◌-◌, length, take, map}
use Rattle.std.specs.List.{range_with_len}
use Rattle.net_core.specs.Trace.{trace}
use Rattle.realization.specs.HostHistory.Host.{asked, shown_words}
use Rattle.port_drive.proofs.HostClocks.{UnderWay}
use Rattle.port_drive.proofs.dumping.read_row.Given as goal

abbrev pub invariant-loop-word : goal.invariant-loop-word
invariant-loop-word g l = record {
  netlist : g.C.Clocked.netlist l.sim ≡ g.C.Clocked.netlist l.initial.sim;
  way : UnderWay (g.C.Clocked.netlist l.initial.sim) (g.C.Clocked.stored l.initial.sim) (map (asked l.map l.index) (range_with_len 0 (length l.initial.row))) (map (asked l.map l.index) (range_with_len l.word (length l.initial.row - l.word))) (g.C.Clocked.stored l.sim);
  shown : take l.word l.row ++ shown_words (trace (g.C.Clocked.netlist l.initial.sim) (g.C.Clocked.stored l.sim) (map (asked l.map l.index) (range_with_len l.word (length l.initial.row - l.word)))) ≡ shown_words (trace (g.C.Clocked.netlist l.initial.sim) (g.C.Clocked.stored l.initial.sim) (map (asked l.map l.index) (range_with_len 0 (length l.initial.row))));
}
