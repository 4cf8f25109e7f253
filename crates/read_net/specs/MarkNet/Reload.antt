-- The part that says whether a mark of the packet at a place calls for a reload.
use Rattle.std.specs.Prelude.{◌≡◌, ℕ, Bool, ◌&&◌, List, [], ◌∷◌}
use Rattle.std.specs.List.{list_any}
use Rattle.block_core.specs.net_core.Value.{bit as bit_word, Env}
use Rattle.block_core.specs.declared.name.Name.{Name}
use Rattle.block_core.specs.Blocks.{BlockTree}
use Rattle.block_core.specs.Parts.{Solve}
use Rattle.overlay_net.specs.cell_core.Sites.{ProgramView, site_at}
use Rattle.overlay_net.specs.hazard_core.StageValues.{StageValues}
use Rattle.overlay_net.specs.hazard_core.Marks.{known_on}
use Rattle.overlay_net.specs.cell_nets.declared.operand.Operand.TheVariants.{Net}
use Rattle.overlay_net.specs.cell_nets.Operands.{AreFit}
use Rattle.overlay_net.specs.cell_nets.OperandBlocks.Wiring.{IsWiring, Offers}
use Rattle.read_net.specs.declared.touch_net.marks.MarkNets.{MarkNets}
use Rattle.read_net.specs.TouchNet.Marking.{mark_operands, shown_reload, AreKnown, ShowMarks}

-- whether one of the marks at these sites calls for a reload, in a packet that holds the rows up to r
abbrev pub some_reload : ProgramView → (ℕ → ℕ) → ℕ → StageValues → (ℕ → Bool) → List ℕ → Bool
some_reload p row r h marked js = list_any (λ j. marked j && known_on row r h (site_at p.sites j)) js

-- The part has wires alone, and gives a net of one bit to others that says so by its operands, and of whatever packet they show.
pub record MustReload {P : Type 0} (part : P) (ms : List (MarkNets (Name P))) (reload : Name P) (b : BlockTree (Name P)) : Type 0 where
  pub wiring : IsWiring part (mark_operands ms) b
  pub offers : Offers part (mark_operands ms) b (Net reload 1 ∷ [])
  pub says : (v : Env (Name P)) → AreFit v (mark_operands ms) → Solve v part 0 b.wires → v.net reload ≡ bit_word (list_any (shown_reload v) ms)
  pub shows :
      (v : Env (Name P)) (p : ProgramView) (row : ℕ → ℕ) (r : ℕ) (h : StageValues) (js : List ℕ) (marked : ℕ → Bool) → AreFit v (mark_operands ms) → Solve v part 0 b.wires → AreKnown p row r js ms → ShowMarks v p row r h marked js ms
      → v.net reload ≡ bit_word (some_reload p row r h marked js)
