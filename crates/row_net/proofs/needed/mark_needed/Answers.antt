use Rattle.std.proofs.Common.{◌≡◌, List, true, map, ap, subst, arith}
use Rattle.std.proofs.lemmas.List.{length-map}
use Rattle.overlay_net.specs.cell_core.Cells.{CellView, cell_at, is_read}
use Rattle.overlay_net.specs.cell_core.Sites.{SiteView}
use Rattle.overlay_net.specs.cell_core.View.{cell_of, site_of, program_of}
use Rattle.row_net.specs.Needed.{Marks, OfSites}
use Rattle.row_net.proofs.MarkLemmas.{are_needed}
use Rattle.row_net.proofs.needed.mark_needed.Goals as goal

pub returns : goal.returns
returns c =
    let a = c.mark_answer.new.flags in
    let b = c.mark_sites.new.flags in
    let d = c.mark_reads.new.flags in
    are_needed (program_of c.args.program.now) c.args.flags.now a b d c.mark_inputs.new.flags c.requires.formed (omega (arith, c.requires.count, length-map c.args.program.now.cells.items cell_of)) c.requires.blank c.mark_answer.ensures
    (subst (λ (ss : List SiteView). Marks (OfSites ss) a b) (ap (map site_of) c.deref.ensures.value) c.mark_sites.ensures)
    (subst (λ (cs : List CellView). Marks (λ k. is_read (cell_at cs k).op ≡ true) b d) (ap (map cell_of) c.deref-2.ensures.value) c.mark_reads.ensures) c.mark_inputs.ensures
