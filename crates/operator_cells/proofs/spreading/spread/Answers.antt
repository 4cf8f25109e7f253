use Rattle.std.proofs.Common.{◌≡◌, ℕ, subst, arith}
use Rattle.byteorder.specs.Endian.{little_bytes}
use Rattle.operator_cells.specs.Making.{seen}
use Rattle.operator_cells.specs.Spreading.{MakesBytes}
use Rattle.operator_cells.proofs.RisingLaws.{rise_more}
use Rattle.operator_cells.proofs.Spread.{bytes_next}
use Rattle.operator_cells.proofs.spreading.spread.Goals as goal

pub loop-i-preserved : goal.loop-i-preserved
loop-i-preserved c = record {
  makes = bytes_next _ _ _ _ _ _ _ _ c.in_ok-push.ensures.items c.loop-i.invariant.makes c.in_ok-byte.ensures.makes;
  rises = rise_more c.in_ok-push.ensures.items c.loop-i.invariant.rises c.in_ok-byte.ensures.rises (λ row. omega arith);
}

pub returns-clause-makes : goal.returns-clause-makes
returns-clause-makes c =
    let e : c.loop-i.i ≡ c.args.count = omega (arith, c.loop-i-test.false, c.loop-i.auto.i-end) in
    subst (λ (k : ℕ). MakesBytes (seen c.args.cells.now.items) (seen c.loop-i.cells.items) k c.loop-i.bytes.items (λ v. little_bytes k (v c.args.a))) e c.loop-i.invariant.makes
