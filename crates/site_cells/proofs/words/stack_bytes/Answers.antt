use Rattle.std.proofs.Common.{◌≡◌, ℕ, ◌+◌, ◌/◌, List, arith, sym, subst}
use Rattle.operator_cells.specs.Making.{seen}
use Rattle.operator_cells.specs.Rising.{RiseAll}
use Rattle.operator_cells.proofs.RisingLaws.{rise_none, rise_more}
use Rattle.operator_cells.specs.row_rules.PlaceRows.Spans.{slots_of, span_row}
use Rattle.operator_cells.specs.HeldCells.Rows.{held_row}
use Rattle.site_cells.specs.Words.{HoldsBytes}
use Rattle.site_cells.proofs.Slots.{counts_number, bytes_none, bytes_more}
use Rattle.site_cells.proofs.WordRows.{slot_within}
use Rattle.site_cells.proofs.words.stack_bytes.Goals as goal

pub slot_byte-requires-clause-there : goal.slot_byte-requires-clause-there
slot_byte-requires-clause-there c =
    counts_number c.requires.inside.0 _ _ c.requires.inside.1 _ _ (c.loop-i.invariant.0 c.requires.inside.0 c.requires.inside.1 0).grows.longer
    (c.requires.inside.2.slots ((c.args.at + c.loop-i.i) / 8) (omega (arith, c.requires.within, c.loop-i-test.true)))

pub loop-i-init : goal.loop-i-init
loop-i-init c = (
  λ decls ps node. subst (λ (bs : List ℕ). HoldsBytes decls ps node c.args.kinds.now c.args.held.now (seen c.args.cells.now.items) (seen c.args.cells.now.items) c.args.at 0 bs) (sym c.new-bytes.ensures.items) (bytes_none decls ps node _ _ _ _),
  λ ps. subst (λ (bs : List ℕ). RiseAll (seen c.args.cells.now.items) (seen c.args.cells.now.items) bs (λ row. span_row (held_row row ps c.args.held.now c.args.kinds.now) (slots_of c.args.at c.args.count))) (sym c.new-bytes.ensures.items) rise_none,
)

pub loop-i-preserved : goal.loop-i-preserved
loop-i-preserved c = (
  λ decls ps node. bytes_more decls ps node c.args.kinds.now c.args.held.now _ _ _ c.args.at c.args.count c.loop-i.i _ _ _ c.requires.within c.loop-i-test.true (c.loop-i.invariant.0 decls ps node) c.in_ok-byte.ensures.holds c.in_ok-push.ensures.items,
  λ ps. rise_more c.in_ok-push.ensures.items (c.loop-i.invariant.1 ps) (c.in_ok-byte.ensures.rises ps)
      (λ row. slot_within row ps c.args.held.now c.args.kinds.now c.args.at c.args.count c.loop-i.i c.requires.within c.loop-i-test.true),
)

pub returns-clause-holds : goal.returns-clause-holds
returns-clause-holds c = λ decls ps node.
    let e : c.loop-i.i ≡ c.args.count = omega (arith, c.loop-i-test.false, c.loop-i.auto.i-end) in
    subst (λ (n : ℕ). HoldsBytes decls ps node c.args.kinds.now c.args.held.now (seen c.args.cells.now.items) (seen c.loop-i.cells.items) c.args.at n c.loop-i.bytes.items) e (c.loop-i.invariant.0 decls ps node)

pub returns-clause-rises : goal.returns-clause-rises
returns-clause-rises c = c.loop-i.invariant.1
