-- Operands that stand in a table, and cells that have bits.
use Rattle.std.specs.Prelude.{◌==◌, Option}
use Rattle.std.proofs.Common.{◌≡◌, ℕ, zero, suc, ◌<◌, Bool, false, ◌||◌, List, [], ◌∷◌, length, arith, get_or, map, sym, ◌∙◌, ap}
use Rattle.std.proofs.lemmas.List.{get_or-map}
use Rattle.overlay_net.specs.cell_core.declared.cell.Cell.{Cell}
use Rattle.overlay_net.specs.cell_core.Cells.{CellView, cell_at, no_cell}
use Rattle.overlay_net.specs.cell_core.View.{cell_of}
use Rattle.cell_nets.specs.declared.operand.Operand.{Operand}
use Rattle.row_net.specs.Table.{Stands, is_number, is_constant}

pub stands_inside : {N : Type 0} (table : List (Option (Operand N))) (k : ℕ) (a : Operand N) → Stands table k a → k < length table
stands_inside [] k a s = cc
stands_inside (x ∷ table) zero a s = omega arith
stands_inside (x ∷ table) (suc k) a s = omega (arith, stands_inside table k a s)

-- a cell that is not the same for all packets has bits
pub wide_of : (c : CellView) → is_constant c ≡ false → 0 < c.width
wide_of c h = not_zero c.width (is_number c.op) h
  where
    not_zero : (w : ℕ) (b : Bool) → ((w == 0) || b) ≡ false → 0 < w
    not_zero zero b e = cc
    not_zero (suc w) b e = omega arith
