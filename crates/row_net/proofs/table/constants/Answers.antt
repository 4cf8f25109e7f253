use Rattle.std.proofs.Common.{rules, ◌≡◌, ◌≤◌, ◌<◌, ℕ, List, length, length-append, map, get_or, ap, subst, arith}
use Rattle.std.proofs.lemmas.List.{length-map}
use Rattle.overlay_net.specs.cell_core.Cells.{CellView, cell_at}
use Rattle.overlay_net.specs.cell_core.View.{cell_of}
use Rattle.row_net.proofs.TableLemmas.{constants_are, constants_more}
use Rattle.row_net.proofs.table.constants.Goals as goal
use Rattle.row_plan.proofs.cell_core_laws.ViewLaws.{cell_is}

pub constant-requires : goal.constant-requires
constant-requires g c =
    let cells : List CellView = map cell_of c.args.cells.now in
    let n : ℕ = c.loop-cell.cell-index in
    let within : n < length cells = omega (arith, length-map c.args.cells.now cell_of, c.loop-cell-test.true) in
    let item : c.cell-item.result ≡ get_or c.args.cells.now n c.cell-item.result = search rules in
    let here : cell_at cells n ≡ cell_of c.cell-item.result = cell_is c.args.cells.now n c.cell-item.result c.loop-cell-test.true item in
    let f = c.requires.each n within in
    record { width = subst (λ (v : CellView). v.width ≤ 64) here f.width; from = subst (λ (v : CellView). v.from ≤ 63) here f.from }

pub loop-cell-preserved : goal.loop-cell-preserved
loop-cell-preserved g c =
    let cells : List CellView = map cell_of c.args.cells.now in
    let n : ℕ = c.loop-cell.cell-index in
    let item : c.cell-item.result ≡ get_or c.args.cells.now n c.cell-item.result = search rules in
    let here : cell_at cells n ≡ cell_of c.cell-item.result = cell_is c.args.cells.now n c.cell-item.result c.loop-cell-test.true item in
    record {
      count = omega (arith, simp length-append at (ap length c.in_ok-push.ensures.items), c.loop-cell.invariant.count);
      each = constants_more cells c.loop-cell.table.items c.push.new.self.items n (cell_of c.cell-item.result) c.constant.result c.loop-cell.invariant.count c.loop-cell.invariant.each here c.constant.ensures c.in_ok-push.ensures.items;
    }

pub returns : goal.returns
returns g c = constants_are (map cell_of c.args.cells.now) c.loop-cell.table.items (omega (arith, c.loop-cell.invariant.count, length-map c.args.cells.now cell_of, c.loop-cell-test.false)) (λ k lt. c.loop-cell.invariant.each k (omega (arith, lt, length-map c.args.cells.now cell_of, c.loop-cell-test.false)))
