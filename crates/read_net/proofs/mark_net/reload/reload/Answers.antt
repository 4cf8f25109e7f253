use Rattle.std.proofs.Common.{sym, subst}
use Rattle.std.specs.List.{list_any}
use Rattle.overlay_net.specs.cell_core.Cells.{bit}
use Rattle.overlay_net.specs.cell_nets.Wires.{wires_of, always, Gives}
use Rattle.read_net.specs.TouchNet.Marking.{mark_operands, shown_reload, ShowMarks}
use Rattle.read_net.specs.MarkNet.Reload.{some_reload, MustReload}
use Rattle.read_net.proofs.MarkNet.ReloadLemmas.{reload_part}
use Rattle.read_net.proofs.mark_net.reload.reload.Goals as goal

pub returns : goal.returns
returns g c =
    let a = c.args in
    let ms = a.marks.now in
    let any = c.in_ok-any.any in
    let mid = wires_of c.reload_net.new.wires.items in
    let none = c.new-wires.ensures.items in
    subst (MustReload a.part ms c.in_ok-reload.reload) (sym c.in_ok-block.ensures)
    (reload_part a.part ms c.in_ok-reload.reload any mid (wires_of c.named.new.wires.items) c.in_ok-reload.ensures
    (subst (λ l. Gives a.part (wires_of l) mid (mark_operands ms) always (λ v. bit (list_any (shown_reload v) ms)) 1 any) none c.in_ok-any.ensures.shown)
    (λ p row r h js marked known.
    subst (λ l. Gives a.part (wires_of l) mid (mark_operands ms) (λ v. ShowMarks v p row r h marked js ms) (λ v. bit (some_reload p row r h marked js)) 1 any) none (c.in_ok-any.ensures.given p row r h js marked known)))
