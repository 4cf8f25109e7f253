use Rattle.std.proofs.Common.{ℕ, List, sym, arith, refl, subst}
use Rattle.cell_core.specs.Rows.{greatest}
use Rattle.operator_cells.specs.Making.{seen}
use Rattle.operator_cells.specs.Rising.{RiseAll}
use Rattle.operator_cells.proofs.RisingLaws.{rise_none, rise_more}
use Rattle.site_cells.proofs.Joining.{Joined, joined_none, joined_more, joined_all, part_there}
use Rattle.site_cells.proofs.WordRows.{range_row}
use Rattle.site_cells.proofs.words.join_words.Goals as goal

pub loop-j-init : goal.loop-j-init
loop-j-init c = subst (λ (ws : List ℕ). Joined (seen c.args.cells.now.items) (seen c.args.cells.now.items) c.args.bytes.now 0 ws × RiseAll (seen c.args.cells.now.items) (seen c.args.cells.now.items) ws (λ row. greatest row c.args.bytes.now))
    (sym c.new-words.ensures.items) (joined_none _ _, rise_none)

pub join_bytes-requires-clause-there : goal.join_bytes-requires-clause-there
join_bytes-requires-clause-there c = part_there _ _ _ _ _ c.loop-j.invariant.0.grows.longer c.requires.there

pub loop-j-preserved : goal.loop-j-preserved
loop-j-preserved c = (
  joined_more _ _ _ _ _ _ _ _ _ _ c.loop-j.invariant.0 (omega (arith, c.loop-j-test.true)) c.min-end.ensures refl c.in_ok-word.ensures.makes c.in_ok-push.ensures.ok,
  rise_more c.in_ok-push.ensures.ok c.loop-j.invariant.1 c.in_ok-word.ensures.rises (λ row. range_row row _ _ _),
)

pub returns-clause-joins : goal.returns-clause-joins
returns-clause-joins c = joined_all _ _ _ _ c.loop-j.j (omega (arith, c.loop-j-test.false)) c.loop-j.invariant.0

pub returns-clause-rises : goal.returns-clause-rises
returns-clause-rises c = c.loop-j.invariant.1
