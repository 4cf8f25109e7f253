use Rattle.std.proofs.Common.{◌≡◌, ◌≤◌, length}
use Rattle.xdp_maps.specs.State.{decl_at}
use Rattle.port_drive.specs.AnswerCounts.Counts.{entry_count}
use Rattle.port_drive.proofs.answer_counts.entries.entry_count.Given as goal

abbrev pub invariant-loop-i : goal.invariant-loop-i
invariant-loop-i l = record {
  some : l.i ≤ entry_count l.maps l.map;
  key : length l.key ≡ (decl_at l.maps l.map).key;
}
