use Rattle.std.proofs.Common.{ℕ, length, length-append, slice_index, ap, arith}
use Rattle.row_net.proofs.TableLemmas.{stands_at, found_at, operands_more}
use Rattle.row_net.proofs.table.operands.Goals as goal
use Rattle.row_net.proofs.TableLaws.{stands_inside}

pub offset_bounds-table-cell : goal.offset_bounds-table-cell
offset_bounds-table-cell g c = let r = c.requires c.loop-cell.cell-index 0 c.loop-cell-test.true in omega (arith, stands_inside c.args.table.now (slice_index c.args.ins.now c.loop-cell.cell-index) r.0 r.1)

pub bounds-table-cell : goal.bounds-table-cell
bounds-table-cell g c = let r = c.requires c.loop-cell.cell-index 0 c.loop-cell-test.true in stands_inside c.args.table.now (slice_index c.args.ins.now c.loop-cell.cell-index) r.0 r.1

pub unwrap-requires : goal.unwrap-requires
unwrap-requires g c = found_at c.args.table.now (slice_index c.args.ins.now c.loop-cell.cell-index) c.index-table-cell.result c.index-table-cell.is (c.requires c.loop-cell.cell-index 0 c.loop-cell-test.true)

pub loop-cell-preserved : goal.loop-cell-preserved
loop-cell-preserved g c =
    let i : ℕ = c.loop-cell.cell-index in
    let j : ℕ = slice_index c.args.ins.now i in
    let r = c.requires i 0 c.loop-cell-test.true in
    record {
      count = omega (arith, simp length-append at (ap length c.in_ok-push.ensures.items), c.loop-cell.invariant.count);
      each = operands_more c.args.table.now c.args.ins.now c.loop-cell.args.items c.push.new.self.items i c.unwrap.result c.loop-cell.invariant.count c.loop-cell.invariant.each
          (stands_at c.args.table.now j c.index-table-cell.result c.unwrap.result (stands_inside c.args.table.now j r.0 r.1) c.index-table-cell.is c.unwrap.ensures) c.in_ok-push.ensures.items;
    }

pub returns : goal.returns
returns g c = record { count = omega (arith, c.loop-cell.invariant.count, c.loop-cell-test.false, c.loop-cell.auto.cell-index-end); each = λ n d lt. c.loop-cell.invariant.each n d (omega (arith, lt, c.loop-cell-test.false)) }
