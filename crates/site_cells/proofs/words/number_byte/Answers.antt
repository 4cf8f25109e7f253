use Rattle.std.proofs.Common.{arith, sym, subst, refl, slice_index}
use Rattle.byteorder.specs.Endian.{little_bytes}
use Rattle.kind_core.specs.declared.number.Number.{Number}
use Rattle.operator_cells.specs.Making.{seen, Makes}
use Rattle.operator_cells.specs.HeldCells.RegisterCells.{number_of}
use Rattle.operator_cells.proofs.RisingLaws.{rises_by}
use Rattle.site_cells.proofs.Slots.{byte_unknown, byte_known}
use Rattle.site_cells.proofs.WordRows.{unknown_row}
use Rattle.site_cells.proofs.words.number_byte.Goals as goal

pub returns-in_ok-c-in-Known-clause-makes : goal.returns-in_ok-c-in-Known-clause-makes
returns-in_ok-c-in-Known-clause-makes c = subst (λ (x : Number). Makes (seen c.args.cells.now.items) (seen c.shared_constant.new.cells.items) c.in_ok-c-in-Known.c (λ packet v. slice_index (little_bytes 8 (number_of v x c.args.held)) c.args.at)) (sym c.in-Known.is)
    (byte_known _ _ _ _ _ _ c.requires.inside refl c.in_ok-c-in-Known.ensures.makes)

pub returns-in_ok-c-in-Between-clause-makes : goal.returns-in_ok-c-in-Between-clause-makes
returns-in_ok-c-in-Between-clause-makes c = subst (λ (x : Number). Makes (seen c.args.cells.now.items) (seen c.shared_slice.new.cells.items) c.in_ok-c-in-Between.c (λ packet v. slice_index (little_bytes 8 (number_of v x c.args.held)) c.args.at)) (sym c.in-Between.is)
    (byte_unknown _ _ _ _ _ c.requires.inside c.in_ok-c-in-Between.ensures.makes)

pub returns-in_ok-c-in-Known-clause-rises : goal.returns-in_ok-c-in-Known-clause-rises
returns-in_ok-c-in-Known-clause-rises c = rises_by c.in_ok-c-in-Known.ensures.rises (λ row. omega arith)

pub returns-in_ok-c-in-Between-clause-rises : goal.returns-in_ok-c-in-Between-clause-rises
returns-in_ok-c-in-Between-clause-rises c = rises_by c.in_ok-c-in-Between.ensures.rises (λ row. unknown_row row _ _ _ _ c.in-Between.is)
