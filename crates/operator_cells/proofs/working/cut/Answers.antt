use Rattle.std.proofs.Common.{sym, arith}
use Rattle.operator_cells.proofs.Growing.{grown_none}
use Rattle.operator_cells.proofs.Numbers.{low_same}
use Rattle.operator_cells.proofs.MakingLaws.{fits_64}
use Rattle.operator_cells.proofs.RisingLaws.{rises_by, rises_none}
use Rattle.operator_cells.proofs.working.cut.Goals as goal

pub returns-in-Bits64-clause-makes : goal.returns-in-Bits64-clause-makes
returns-in-Bits64-clause-makes c = record {
  grows = grown_none _;
  there = c.requires.there;
  value = λ packet v r. sym (rw c.in-Bits64.is (low_same 64 (v c.args.a) (fits_64 packet _ v c.values_fit.ensures c.requires.formed r c.args.a c.requires.there)));
}

pub returns-in_ok-c-in-Bits32-clause-rises : goal.returns-in_ok-c-in-Bits32-clause-rises
returns-in_ok-c-in-Bits32-clause-rises c = rises_by c.in_ok-c-in-Bits32.ensures.rises (λ row. omega arith)

pub returns-in-Bits64-clause-rises : goal.returns-in-Bits64-clause-rises
returns-in-Bits64-clause-rises c = rises_none _ _ (λ row. omega arith)
