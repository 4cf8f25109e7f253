use Rattle.std.proofs.Common.{◌≡◌, ℕ, List, length}
use Rattle.overlay_net.specs.cell_core.Sites.{ProgramView}
use Rattle.overlay_net.specs.hazard_core.StageValues.{StageValues}
use Rattle.overlay_net.specs.hazard_core.Tables.{TableState}
use Rattle.overlay_net.specs.cell_nets.Wires.{wires_of}
use Rattle.commit_net.proofs.GatherLemmas.{Keys}
use Rattle.commit_net.proofs.whole.key_nets.Given as goal

abbrev pub invariant-loop-w : goal.invariant-loop-w
invariant-loop-w g l = record {
  count : length l.keys.items ≡ l.w;
  stands : (p : ProgramView) (t : TableState) (taken : List ℕ) (h : StageValues) (j : ℕ) → Keys l.part l.decl l.sites p t taken h j (wires_of l.fn.wires.items) (wires_of l.wires.items) l.keys.items;
}
