use Rattle.std.proofs.Common.{◌≡◌, ℕ, suc, ◌+◌, length, subst, arith}
use Rattle.operator_cells.specs.Making.{seen}
use Rattle.operator_cells.proofs.RisingLaws.{rise_more}
use Rattle.operator_cells.specs.HeldCells.RegisterCells.{pointed}
use Rattle.edge_cells.specs.Meeting.{BringCells}
use Rattle.edge_cells.proofs.Pointed.{bring_later, words_more}
use Rattle.edge_cells.proofs.meeting.meet_key.Goals as goal

pub meet_cell-requires-clause-there : goal.meet_cell-requires-clause-there
meet_cell-requires-clause-there c =
    let one : suc c.loop-j.j ≡ c.loop-j.j + 1 = omega arith in
    subst (λ (k : ℕ). BringCells (length (seen c.loop-j.cells.items)) (pointed c.args.pointers.now) c.args.ways.now c.args.part k) one
    (bring_later (length (seen c.args.cells.now.items)) (length (seen c.loop-j.cells.items)) (pointed c.args.pointers.now) c.args.ways.now c.args.part (suc c.loop-j.j) c.loop-j.invariant.0.grows.longer (c.requires.there c.loop-j.j c.loop-j-test.true))

pub loop-j-preserved : goal.loop-j-preserved
loop-j-preserved c = (words_more _ _ _ _ _ _ _ _ _ _ c.loop-j.invariant.0 c.in_ok-c.ensures.picks c.in_ok-push.ensures.ok, rise_more c.in_ok-push.ensures.ok c.loop-j.invariant.1 c.in_ok-c.ensures.rises (λ row. omega arith))
