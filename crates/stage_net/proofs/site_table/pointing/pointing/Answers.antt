use Rattle.std.proofs.Common.{Bool, ◌≡◌, ◌<◌, ◌≤◌, ℕ, List, length, length-append, map, get_or, ap, subst, rules, arith}
use Rattle.std.proofs.lemmas.List.{length-map}
use Rattle.row_plan.proofs.cell_core_laws.ViewLaws.{cell_is}
use Rattle.hazard_core.specs.cell_core.Cells.{CellView}
use Rattle.hazard_core.specs.cell_core.Formed.{takes}
use Rattle.hazard_core.specs.cell_core.View.{cell_of}
use Rattle.stage_net.specs.SiteTable.Pointing.{IsFlagged}
use Rattle.stage_net.proofs.SiteTable.FlagLemmas.{flagged_more, flagged_are}
use Rattle.stage_net.proofs.site_table.pointing.pointing.Goals as goal

pub may_point-points-requires : goal.may_point-points-requires
may_point-points-requires c =
    let cells : List CellView = map cell_of c.args.cells.now in
    let n : ℕ = c.loop-cell.cell-index in
    let within : n < length cells = omega (arith, length-map c.args.cells.now cell_of, c.loop-cell-test.true) in
    let item : c.cell-item.result ≡ get_or c.args.cells.now n c.cell-item.result = search rules in
    subst (λ (v : CellView). takes v.op ≤ length v.ins) (cell_is c.args.cells.now n c.cell-item.result c.loop-cell-test.true item) (c.requires.each n within).enough

pub loop-cell-preserved : goal.loop-cell-preserved
loop-cell-preserved c =
    let cells : List CellView = map cell_of c.args.cells.now in
    let n : ℕ = c.loop-cell.cell-index in
    let within : n < length cells = omega (arith, length-map c.args.cells.now cell_of, c.loop-cell-test.true) in
    let item : c.cell-item.result ≡ get_or c.args.cells.now n c.cell-item.result = search rules in
    record {
      count = omega (arith, simp length-append at (ap length c.in_ok-push.ensures.items), c.loop-cell.invariant.count);
      each = flagged_more cells c.loop-cell.flags.items c.push.new.self.items n (cell_of c.cell-item.result) c.may_point-points.result c.requires within c.loop-cell.invariant.count c.loop-cell.invariant.each
          (cell_is c.args.cells.now n c.cell-item.result c.loop-cell-test.true item)
          (subst (λ (l : List Bool). IsFlagged l c.cell-item.result.op c.cell-item.result.ins.items c.may_point-points.result) c.deref.ensures.value c.may_point-points.ensures) c.in_ok-push.ensures.items;
    }

pub returns : goal.returns
returns c =
    flagged_are (map cell_of c.args.cells.now) c.loop-cell.flags.items (omega (arith, c.loop-cell.invariant.count, length-map c.args.cells.now cell_of, c.loop-cell-test.false, c.loop-cell.auto.cell-index-end))
    (λ k lt. c.loop-cell.invariant.each k (omega (arith, lt, length-map c.args.cells.now cell_of, c.loop-cell-test.false)))
