use Rattle.std.proofs.Common.{◌∙◌, ℕ, ◌<◌, ◌∷◌, ◌++◌, List, length, sym, ap, subst, arith}
use Rattle.std.specs.Prelude.{All}
use Rattle.cell_core.specs.declared.cell.Cell.{Cell}
use Rattle.cell_core.specs.View.{site_of}
use Rattle.cell_core.specs.Rows.{taken_by}
use Rattle.cell_core.specs.Formed.{IsBelow}
use Rattle.operator_cells.specs.Making.{seen}
use Rattle.site_cells.proofs.SitedLaws.{sited_length}
use Rattle.predicate_core.specs.StepCells.Waiting.{AreReaders}
use Rattle.predicate_core.proofs.StepCells.Waiting.{stays_alone, stays_unwritten, taken_there, site_seen, waits}
use Rattle.predicate_core.proofs.step_cells.pending.pending_behind.Goals as goal

pub returns-then-sites-sites_before : goal.returns-then-sites-sites_before
returns-then-sites-sites_before c = stays_alone (seen c.args.cells.now.items) c.args.sites.now c.args.sites_before c.args.first c.args.before c.requires.before c.if-sites-sites_before.true

pub returns-then-not-records : goal.returns-then-not-records
returns-then-not-records c =
    stays_unwritten (seen c.args.cells.now.items) c.args.sites.now c.args.sites_before c.args.first c.args.before c.index-sites-sites_before.result c.requires.before c.if-sites-sites_before.false c.index-sites-sites_before.is (sym c.records.ensures ∙ c.if-not-records.true)

pub pending-requires : goal.pending-requires
pending-requires c =
    let at = site_seen c.args.sites.now c.args.sites_before c.index-sites-sites_before.result c.if-sites-sites_before.false c.index-sites-sites_before.is in
    let read = subst (λ (xs : List Cell). AreReaders (seen xs) c.in-Ok.number c.args.first c.in_ok-reading.reading.items) c.deref.ensures.value c.in_ok-reading.ensures in
    subst (All (λ i. i < length (seen c.args.cells.now.items)))
    (sym (c.deref-3.ensures.value ∙ c.in_ok-extend_from_slice.ensures.items ∙ ap (λ (xs : List ℕ). xs ++ c.deref-2.result.now) c.in_ok-ins.ensures
    ∙ ap (λ (xs : List ℕ). c.args.before ∷ taken_by (site_of c.index-sites-sites_before.result) ++ xs) c.deref-2.ensures.value))
    (taken_there (length (seen c.args.cells.now.items)) (site_of c.index-sites-sites_before.result) c.args.before c.in_ok-reading.reading.items c.requires.before
    (subst (IsBelow (length (seen c.args.cells.now.items))) at (c.requires.site (omega (arith, c.if-sites-sites_before.false, sited_length c.args.sites.now)))) read.there)

pub returns : goal.returns
returns c =
    let at = site_seen c.args.sites.now c.args.sites_before c.index-sites-sites_before.result c.if-sites-sites_before.false c.index-sites-sites_before.is in
    let read = subst (λ (xs : List Cell). AreReaders (seen xs) c.in-Ok.number c.args.first c.in_ok-reading.reading.items) c.deref.ensures.value c.in_ok-reading.ensures in
    waits (seen c.args.cells.now.items) (seen c.pending.new.cells.items) _ c.args.sites_before c.args.first c.args.before c.in_ok-c.c (site_of c.index-sites-sites_before.result) c.deref-3.result.now c.in_ok-reading.reading.items
    at (sym c.records.ensures ∙ c.if-not-records.false)
    (subst (λ (n : ℕ). AreReaders (seen c.args.cells.now.items) n c.args.first c.in_ok-reading.reading.items) c.in-Ok.ensures.1 read)
    (c.deref-3.ensures.value ∙ c.in_ok-extend_from_slice.ensures.items ∙ ap (λ (xs : List ℕ). xs ++ c.deref-2.result.now) c.in_ok-ins.ensures
    ∙ ap (λ (xs : List ℕ). c.args.before ∷ taken_by (site_of c.index-sites-sites_before.result) ++ xs) c.deref-2.ensures.value)
    c.in_ok-c.ensures.adds c.in_ok-c.ensures.grows c.in_ok-c.ensures.rises
