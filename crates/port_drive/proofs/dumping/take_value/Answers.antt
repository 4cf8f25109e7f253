use Rattle.std.proofs.Common.{◌≡◌, length, take, get_or, sym, ap, ◌∙◌, arith}
use Rattle.std.specs.FinMap as finite
use Rattle.xdp_maps.specs.Contents.{index_key}
use Rattle.xdp_maps.specs.State.{decl_at, contents_at, with_contents}
use Rattle.realization.specs.HostHistory.Rows.{bytes_of, row_length_as}
use Rattle.beat_core.specs.Beats.{beat_count}
use Rattle.port_drive.proofs.LoadLemmas.{decl_read}
use Rattle.port_drive.proofs.DumpLemmas.{value_updated}
use Rattle.port_drive.proofs.dumping.take_value.Goals as goal

pub returns : goal.returns
returns c =
    let s = c.args.maps.now in
    let m = c.args.map in
    let decl = decl_read s c.decls.result.now m c.index-decls-map.result c.decls.ensures.decls c.requires.map c.index-decls-map.is in
    let n = (get_or c.decls.result.now m c.index-decls-map.result).value in
    let len : n ≡ (decl_at s m).value = ap (λ d. d.value) (sym c.index-decls-map.is ∙ decl) in
    let words : length c.args.row.now ≡ beat_count (decl_at s m).value = c.requires.row ∙ ap (λ k. row_length_as k (decl_at s m)) c.requires.array in
    let value = c.bytes_of_words-value.ensures n (omega (arith, len, words)) ∙ ap (λ k. bytes_of k c.args.row.now) len in
    c.update.ensures.maps
    ∙ ap (with_contents s m) (value_updated (decl_at s m) (contents_at s m) c.args.index c.key_of-key.result (take n c.bytes_of_words-value.result) c.requires.array c.key_of-key.ensures c.requires.index (omega (arith, c.ranges.index.fits)) ∙ ap (finite.insert (contents_at s m) (index_key c.args.index)) value)
