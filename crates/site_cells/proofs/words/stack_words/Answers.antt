use Rattle.std.proofs.Common.{◌≡◌, ◌<◌, ℕ, List, [], length, arith, sym, ap, subst}
use Rattle.std.specs.Prelude.{All}
use Rattle.operator_cells.specs.Making.{seen}
use Rattle.operator_cells.proofs.MakingLaws.{grown}
use Rattle.kind_core.specs.declared.kind.Kind.{Kind}
use Rattle.kind_core.specs.Tests.{passed}
use Rattle.kind_core.specs.Calls.{region}
use Rattle.operator_cells.specs.Rising.{RiseAll}
use Rattle.cell_core.specs.Rows.{greatest}
use Rattle.operator_cells.specs.row_rules.PlaceRows.Spans.{span_row}
use Rattle.operator_cells.specs.HeldCells.Rows.{held_row}
use Rattle.operator_cells.proofs.HeldCells.RowLaws.{rise_by}
use Rattle.site_cells.specs.Words.{JoinsWords, HoldsRegion}
use Rattle.site_cells.proofs.Regions.{stack_numbers, stack_region, stack_fits}
use Rattle.site_cells.proofs.WordRows.{rise_through}
use Rattle.site_cells.proofs.words.stack_words.Goals as goal

pub join_words-requires-clause-there : goal.join_words-requires-clause-there
join_words-requires-clause-there c = subst (All (λ i. i < length (seen c.stack_bytes.new.cells.items))) (sym c.deref.ensures.value) (c.in_ok-bytes-in-Some.ensures.holds [] [] 0).there

pub join_words-requires-clause-most : goal.join_words-requires-clause-most
join_words-requires-clause-most c = omega (arith, ap length c.deref.ensures.value, (c.in_ok-bytes-in-Some.ensures.holds [] [] 0).long, c.requires.most)

pub returns-in_ok-words-in-Some-clause-made : goal.returns-in_ok-words-in-Some-clause-made
returns-in_ok-words-in-Some-clause-made c = record { grows = grown (c.in_ok-bytes-in-Some.ensures.holds [] [] 0).grows c.in_ok-words-in-Some.ensures.joins.grows; there = c.in_ok-words-in-Some.ensures.joins.there }

pub returns-in_ok-words-in-Some-clause-holds : goal.returns-in_ok-words-in-Some-clause-holds
returns-in_ok-words-in-Some-clause-holds c = λ decls ps node o is allowed.
    let e = sym (c.in-Some.ensures.value o is) in
    subst (λ (k : Kind). HoldsRegion decls ps node c.args.kinds.now c.args.held.now (seen c.args.cells.now.items) (seen c.join_words.new.cells.items) k c.args.count c.in_ok-words-in-Some.words.items) (sym is)
    (stack_region decls ps node c.args.kinds.now c.args.held.now _ _ _ o c.in-Some.from c.args.count _ _ e
    (stack_numbers c.args.kinds.now o c.in-Some.from c.args.count c.are_whole.ensures.slots c.in-Some.ensures.within e (subst (λ (k : Kind). region c.args.kinds.now c.args.count k ≡ passed) is allowed)) (c.in_ok-bytes-in-Some.ensures.holds decls ps node)
    (subst (λ (xs : List ℕ). JoinsWords (seen c.stack_bytes.new.cells.items) (seen c.join_words.new.cells.items) xs c.in_ok-words-in-Some.words.items) c.deref.ensures.value c.in_ok-words-in-Some.ensures.joins))

pub returns-in-None-clause-holds : goal.returns-in-None-clause-holds
returns-in-None-clause-holds c = λ decls ps node o is allowed.
    absurd (stack_fits c.args.kinds.now o c.args.count (sym (c.in-None.ensures.value o is)) (subst (λ (k : Kind). region c.args.kinds.now c.args.count k ≡ passed) is allowed))

pub returns-in_ok-words-in-Some-clause-rises : goal.returns-in_ok-words-in-Some-clause-rises
returns-in_ok-words-in-Some-clause-rises c = λ ps.
    rise_by (rise_through (c.in_ok-bytes-in-Some.ensures.rises ps)
    (subst (λ (xs : List ℕ). RiseAll (seen c.stack_bytes.new.cells.items) (seen c.join_words.new.cells.items) c.in_ok-words-in-Some.words.items (λ row. greatest row xs)) c.deref.ensures.value c.in_ok-words-in-Some.ensures.rises))
    (λ row. omega (arith, ap (span_row (held_row row ps c.args.held.now c.args.kinds.now)) c.in-Some.ensures.span))
