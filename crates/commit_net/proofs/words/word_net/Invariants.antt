use Rattle.std.proofs.Common.{◌≡◌, ℕ, All, List, length}
use Rattle.overlay_net.specs.cell_core.Sites.{ProgramView}
use Rattle.overlay_net.specs.hazard_core.StageValues.{StageValues}
use Rattle.overlay_net.specs.hazard_core.Tables.{TableState}
use Rattle.overlay_net.specs.cell_nets.Operands.{IsOperand}
use Rattle.overlay_net.specs.cell_nets.Wires.{wires_of}
use Rattle.commit_net.proofs.WordLemmas.{Far}
use Rattle.commit_net.proofs.words.word_net.Given as goal

abbrev pub invariant-loop-site : goal.invariant-loop-site
invariant-loop-site g l = record {
  count : length l.all.items ≡ l.site-index;
  operands : All IsOperand l.all.items;
  stands : (p : ProgramView) (t : TableState) (taken : List ℕ) (h : StageValues) (j : ℕ) (value : List ℕ) → Far l.part l.decl l.sites l.w l.old p t taken h j value (wires_of l.fn.wires.items) (wires_of l.wires.items) l.all.items l.site-index;
}
