use Rattle.std.proofs.Common.{◌≡◌, ℕ, ◌<◌, All, length, map, subst, arith}
use Rattle.std.proofs.lemmas.List.{length-map}
use Rattle.hazard_core.specs.cell_core.Cells.{cell_at}
use Rattle.hazard_core.specs.cell_core.View.{cell_of}
use Rattle.hazard_core.specs.cell_core.Formed.{IsInRange}
use Rattle.pipe_parts.specs.PipeDraft.Keeping.{KeepsMore}
use Rattle.pipe_parts.proofs.PipeDraft.Keeps.{Words, all_more, are_kept}
use Rattle.pipe_parts.proofs.pipe_draft.kept.kept_words.Goals as goal

pub returns : goal.returns
returns c =
    let cells = map cell_of c.args.cells.now in
    let listed = c.args.listed.now in
    let words = c.keep_words.new.kept.items in
    let more = c.keep.new.kept.items in
    let all = c.keep-2.new.kept.items in
    let same : length cells ≡ length c.args.cells.now = length-map c.args.cells.now cell_of in
    let range : (k : ℕ) → k < length cells → IsInRange (cell_at cells k).op = λ k lt. c.requires.range k (omega (arith, lt, same)) in
    let within : All (λ k. k < length cells) listed = λ i d lt. omega (arith, c.requires.within i d lt, same) in
    are_kept cells listed range within all
    (all_more cells listed words more all (subst (λ l. KeepsMore cells listed (Words cells listed 32) 32 l words) c.new-kept.ensures.items c.in_ok-keep_words.ensures) c.in_ok-keep.ensures c.in_ok-keep-2.ensures)
