-- What is kept of frames shows the cells that come with a packet.
use Rattle.std.specs.Prelude.{not}
use Rattle.std.proofs.Common.{◌≡◌, ℕ, ◌<◌, Bool, true, false, All, List, length, get_or, refl, sym, subst}
use Rattle.std.proofs.lemmas.List.Elements.{Contains-get_or, filter_passes}
use Rattle.block_core.proofs.list_laws_laws.BoolLaws.{both_of}
use Rattle.hazard_core.specs.cell_core.Cells.{cell_at}
use Rattle.hazard_core.specs.cell_core.Formed.{AreFormed}
use Rattle.hazard_core.specs.cell_core.Rows.{numbers}
use Rattle.hazard_core.specs.cell_core.Sites.{ProgramView}
use Rattle.frame_net.specs.declared.held.Kept.{Kept}
use Rattle.frame_net.specs.declared.held.Kept.TheVariants as kept
use Rattle.row_net.specs.Needed.{flag}
use Rattle.row_net.specs.Lists.{varies}
use Rattle.row_net.specs.Table.{is_constant}
use Rattle.row_net.specs.PlaceNet.Sources.{IsSource}
use Rattle.row_net.proofs.TableLaws.{wide_of}
use Rattle.pipe_parts.specs.PipeDraft.Sources.{comes, is_source, source_list, AreKeptFor}
use Rattle.pipe_parts.proofs.PipeDraft.Listing.{kept_below}
use Rattle.pipe_parts.proofs.PipeDraft.SourceLaws.{shown_of}

not_of : (b : Bool) → not b ≡ true → b ≡ false
not_of true e = cc
not_of false e = refl

module _ (p : ProgramView) (needed : List Bool) (formed : AreFormed p.cells) (sources : List ℕ) (are : sources ≡ source_list p needed) where
  passes : All (λ k. is_source p needed k ≡ true) sources
  passes = subst (All (λ k. is_source p needed k ≡ true)) (sym are) (filter_passes (is_source p needed) (numbers 0 (length p.cells)))

  pub sources_within : All (λ k. k < length p.cells) sources
  sources_within = subst (All (λ k. k < length p.cells)) (sym are) (kept_below (is_source p needed) (length p.cells))

  pub are_sources : (list : List Kept) → AreKeptFor p.cells sources list → All (IsSource list p.cells) sources
  are_sources list kept i e lt =
      let k = get_or sources i e in
      let op = (cell_at p.cells k).op in
      let within : k < length p.cells = sources_within i e lt in
      let says = both_of (varies p needed k) (comes op) (passes i e lt) in
      record {
        within = within;
        some = wide_of (cell_at p.cells k) (not_of (is_constant (cell_at p.cells k)) (both_of (flag needed k) (not (is_constant (cell_at p.cells k))) says.0).1);
        shown = shown_of list op says.1 (formed.each k within).in_range (λ what t. kept.taken what (k, Contains-get_or sources i e lt, t));
      }
