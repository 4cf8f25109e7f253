use Rattle.std.proofs.Common.{◌∙◌, ap, List, ℕ}
use Rattle.cell_core.specs.xdp_maps.Calls.{patched}
use Rattle.operator_cells.proofs.RisingLaws.{stand_none, stand_more}
use Rattle.operator_cells.specs.declared.held_cells.machine_cells.RegisterCells.{RegisterCells}
use Rattle.operator_cells.specs.HeldCells.RegisterCells.{number_of}
use Rattle.operator_cells.proofs.HeldCells.RowLaws.{rise_last}
use Rattle.register_cells.proofs.ValueLaws.{same_most}
use Rattle.register_cells.proofs.PointingLaws.{window_keeps}
use Rattle.register_cells.proofs.Made.{bytes_after}
use Rattle.register_cells.proofs.storing.to_window.Goals as goal

pub returns-clause-makes : goal.returns-clause-makes
returns-clause-makes c =
    let made = rw c.bytes_in.ensures.value at c.in_ok-bytes.ensures.makes in
    let with_window : List ℕ → RegisterCells = λ window. record c.args.held.now { window = window } in (
      c.in_ok-bytes.bytes.items,
      ap with_window (c.overwrite.ensures ∙ ap (patched c.args.held.now.window c.args.at) c.deref.ensures.value),
      bytes_after (λ v. number_of v c.args.n c.args.q) c.in_ok-c.ensures.makes made,
    )

pub returns-clause-rises : goal.returns-clause-rises
returns-clause-rises c =
    let made = rw c.bytes_in.ensures.value at c.in_ok-bytes.ensures.makes in
    let with_window : List ℕ → RegisterCells = λ window. record c.args.held.now { window = window } in (
      c.in_ok-bytes.bytes.items,
      ap with_window (c.overwrite.ensures ∙ ap (patched c.args.held.now.window c.args.at) c.deref.ensures.value),
      made.count,
      rise_last (stand_more stand_none c.in_ok-c.ensures.rises (λ row h. same_most)) c.in_ok-bytes.ensures.rises (λ row h. h.1),
    )

pub returns-clause-points : goal.returns-clause-points
returns-clause-points c = λ k. window_keeps k c.args.held.now _
