use Rattle.std.specs.List.{list_any}
use Rattle.std.proofs.Common.{◌∙◌, ◌&&◌, refl, ap, arith}
use Rattle.std.proofs.lemmas.List.{take_all}
use Rattle.overlay_net.specs.cell_core.Cells.{bit}
use Rattle.overlay_net.specs.cell_core.Sites.{site_at}
use Rattle.pipe_core.specs.hazard_core.Marks.{known_on}
use Rattle.overlay_net.specs.cell_nets.Wires.{wires_of, always}
use Rattle.overlay_net.proofs.cell_nets_laws.StepNets.ChainLaws.{starts, last, ends}
use Rattle.overlay_net.proofs.cell_nets_laws.StepNets.StepLaws.{avail_at}
use Rattle.read_net.specs.TouchNet.Marking.{mark_operands, shown_reload, HasOperands}
use Rattle.read_net.proofs.TouchNet.MarkLemmas.{mark_more, reload_is}
use Rattle.read_net.proofs.touch_net.marks.reload_net.Goals as goal

pub loop-mark-init : goal.loop-mark-init
loop-mark-init g c = ends (starts c.args.part (wires_of c.args.wires.now.items) (mark_operands c.args.marks.now) always) _ 1 _ (λ ins h. tt) (omega arith) (omega arith) (λ v f k. refl)

pub reload_also-requires : goal.reload_also-requires
reload_also-requires g c = record {
  reload = c.loop-mark.invariant.operand;
  mark = avail_at HasOperands c.args.marks.now c.loop-mark.mark-index c.mark-item.result (omega arith) c.mark-item.is c.requires;
}

pub loop-mark-preserved : goal.loop-mark-preserved
loop-mark-preserved g c =
    mark_more c.args.part _ _ _ c.args.marks.now c.loop-mark.mark-index c.mark-item.result c.loop-mark.reload c.in_ok-reload.reload (omega arith) c.mark-item.is c.loop-mark.invariant c.in_ok-reload.ensures

pub returns-clause-shown : goal.returns-clause-shown
returns-clause-shown g c =
    let ms = c.args.marks.now in
    last (starts c.args.part (wires_of c.args.wires.now.items) (mark_operands ms) always) c.loop-mark.invariant (λ ins h. h) (λ v f k. tt) (λ v. bit (list_any (shown_reload v) ms))
    (λ v f k. ap (λ l. bit (list_any (shown_reload v) l)) (take_all c.loop-mark.mark-index ms (omega arith)))

pub returns-clause-given : goal.returns-clause-given
returns-clause-given g c = λ p row r h js marked known.
    let ms = c.args.marks.now in
    last (starts c.args.part (wires_of c.args.wires.now.items) (mark_operands ms) _) c.loop-mark.invariant (λ ins h. h) (λ v f k. tt) (λ v. bit (list_any (λ j. marked j && known_on row r h (site_at p.sites j)) js))
    (λ v f k. ap (λ l. bit (list_any (shown_reload v) l)) (take_all c.loop-mark.mark-index ms (omega arith)) ∙ ap bit (reload_is v p row r h marked js ms known k))
