use Rattle.std.proofs.Common.{arith, sym, subst}
use Rattle.kind_core.specs.declared.kind.Kind.{Kind}
use Rattle.operator_cells.specs.Making.{seen}
use Rattle.operator_cells.proofs.RisingLaws.{rises_by}
use Rattle.site_cells.specs.Words.{HoldsByte}
use Rattle.site_cells.proofs.Slots.{byte_number}
use Rattle.site_cells.proofs.WordRows.{number_value}
use Rattle.site_cells.proofs.words.slot_byte.Goals as goal

pub returns-in_ok-c-in-Num-clause-holds : goal.returns-in_ok-c-in-Num-clause-holds
returns-in_ok-c-in-Num-clause-holds c = subst (λ (k : Kind). HoldsByte (seen c.args.cells.now.items) (seen c.number_byte.new.cells.items) k c.args.held c.args.at c.in_ok-c-in-Num.c) (sym c.in-Num.is) (byte_number _ _ _ _ _ _ c.in_ok-c-in-Num.ensures.makes)

pub returns-in_ok-c-in-Num-clause-rises : goal.returns-in_ok-c-in-Num-clause-rises
returns-in_ok-c-in-Num-clause-rises c = λ ps. rises_by c.in_ok-c-in-Num.ensures.rises (λ row. number_value row ps _ _ _ c.in-Num.is)

pub returns-in_ok-c-in_default-clause-rises : goal.returns-in_ok-c-in_default-clause-rises
returns-in_ok-c-in_default-clause-rises c = λ ps. rises_by c.in_ok-c-in_default.ensures.rises (λ row. omega arith)
