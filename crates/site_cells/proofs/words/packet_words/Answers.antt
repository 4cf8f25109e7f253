use Rattle.std.proofs.Common.{refl, arith}
use Rattle.site_cells.proofs.Regions.{packet_region, packet_fits}
use Rattle.operator_cells.proofs.HeldCells.RowLaws.{rise_by}
use Rattle.site_cells.proofs.WordRows.{window_within}
use Rattle.site_cells.proofs.words.packet_words.Goals as goal

pub returns-clause-holds : goal.returns-clause-holds
returns-clause-holds c = λ decls ps node allowed.
    packet_region decls ps node c.args.kinds.now c.args.held.now _ _ c.args.at c.args.count _ _ c.are_whole.ensures.window (packet_fits c.args.kinds.now c.args.at c.args.count allowed) refl c.in_ok-words.ensures.joins

pub returns-clause-made : goal.returns-clause-made
returns-clause-made c = record { grows = c.in_ok-words.ensures.joins.grows; there = c.in_ok-words.ensures.joins.there }

pub returns-clause-rises : goal.returns-clause-rises
returns-clause-rises c = λ ps. rise_by c.in_ok-words.ensures.rises (λ row. window_within row ps c.args.held.now c.args.kinds.now c.args.at c.args.count c.are_whole.ensures.window (omega (arith, c.if-to-gt256.false)))
