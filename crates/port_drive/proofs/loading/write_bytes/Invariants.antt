use Rattle.std.proofs.Common.{◌≡◌, ◌+◌, ◌≤◌, length}
use Rattle.beat_core.specs.Beats.{beat_count}
use Rattle.realization.specs.HostHistory.Rows.{words_of}
use Rattle.realization.specs.HostHistory.Host.{row_writes}
use Rattle.port_drive.proofs.HostClocks.{UnderWay}
use Rattle.port_drive.proofs.loading.write_bytes.Given as goal

abbrev pub invariant-loop-rest : goal.invariant-loop-rest
invariant-loop-rest g l = record {
  netlist : g.C.Clocked.netlist l.sim ≡ g.C.Clocked.netlist l.initial.sim;
  way : UnderWay (g.C.Clocked.netlist l.initial.sim) (g.C.Clocked.stored l.initial.sim) (row_writes l.map l.index l.first (words_of l.bytes)) (row_writes l.map l.index l.word (words_of l.rest)) (g.C.Clocked.stored l.sim);
  room : l.word + beat_count (length l.rest) ≤ 16;
}

abbrev pub decreases-loop-rest : goal.decreases-loop-rest
decreases-loop-rest g l = length l.rest
