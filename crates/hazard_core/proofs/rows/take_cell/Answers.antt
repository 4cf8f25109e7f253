use Rattle.std.proofs.Common.{◌∙◌, ap, sym}
use Rattle.cell_core.specs.Cells.{site_in}
use Rattle.hazard_core.proofs.rows.take_cell.Goals as goal

pub make-n-requires-clause-site : goal.make-n-requires-clause-site
make-n-requires-clause-site c = λ j e. c.requires.sites c.args.k j c.requires.cell (ap site_in (sym c.formed_cell-cell.ensures.op) ∙ e)
