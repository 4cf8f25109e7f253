use Rattle.std.proofs.Common.{◌≡◌, pos, arith, sym, ap, subst}
use Rattle.kind_core.specs.declared.kind.Kind.{Kind}
use Rattle.kind_core.specs.Tests.{passed}
use Rattle.kind_core.specs.Calls.{region}
use Rattle.operator_cells.specs.Making.{seen}
use Rattle.operator_cells.specs.row_rules.PlaceRows.Spans.{span_row}
use Rattle.operator_cells.specs.row_rules.PlaceRows.Spans as places
use Rattle.operator_cells.specs.HeldCells.Rows.{held_row}
use Rattle.operator_cells.proofs.HeldCells.RowLaws.{rise_by}
use Rattle.site_cells.specs.Words.{HoldsRegion}
use Rattle.site_cells.proofs.words.region_words.Goals as goal

pub returns-in_ok-words-in-Packet-clause-holds : goal.returns-in_ok-words-in-Packet-clause-holds
returns-in_ok-words-in-Packet-clause-holds c = λ decls ps node allowed.
    subst (λ (k : Kind). HoldsRegion decls ps node c.args.kinds.now c.args.held.now (seen c.args.cells.now.items) (seen c.packet_words.new.cells.items) k c.args.count c.in_ok-words-in-Packet.words.items) (sym c.in-Packet.is)
    (c.in_ok-words-in-Packet.ensures.holds decls ps node (subst (λ (k : Kind). region c.args.kinds.now c.args.count k ≡ passed) c.in-Packet.is allowed))

pub returns-in_ok-words-in-Stack-clause-holds : goal.returns-in_ok-words-in-Stack-clause-holds
returns-in_ok-words-in-Stack-clause-holds c = λ decls ps node allowed. c.in_ok-words-in-Stack.ensures.holds decls ps node _ c.in-Stack.is allowed

pub returns-in_ok-words-in-Packet-clause-rises : goal.returns-in_ok-words-in-Packet-clause-rises
returns-in_ok-words-in-Packet-clause-rises c = λ ps.
    rise_by (c.in_ok-words-in-Packet.ensures.rises ps) (λ row. omega (arith, ap (λ (k : Kind). span_row (held_row row ps c.args.held.now c.args.kinds.now) (places.region k (pos 0) c.args.count)) c.in-Packet.is))
