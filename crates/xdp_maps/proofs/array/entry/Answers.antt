use Rattle.std.proofs.Common.{◌∙◌, ap, sym, arith, Some, List, ℕ, ◌++◌}
use Rattle.std.proofs.Math.ListN.{drop_of_length-le}
use Rattle.byteorder.specs.Endian.{little_bytes}
use Rattle.std.proofs.lemmas.Option.{slice_get-get_or}
use Rattle.xdp_maps.specs.Contents.{index_key}
use Rattle.xdp_maps.proofs.Arrays.{slice_get-past}
use Rattle.xdp_maps.proofs.array.entry.Goals as goal

pub returns-then-at-values-clause-found : goal.returns-then-at-values-clause-found
unfolding index_key
returns-then-at-values-clause-found c =
    (slice_get-get_or c.args.values.now c.args.i c.index-values-at.result c.if-at-values.true ∙ ap Some (sym c.index-values-at.is ∙ sym c.as_slice.ensures.bytes), c.write_u32.ensures ∙ ap (λ (t : List ℕ). little_bytes 4 c.args.i ++ t) (drop_of_length-le c.args.key.now {i = 4} (omega (arith, c.requires))))

pub returns-else-at-values-clause-found : goal.returns-else-at-values-clause-found
returns-else-at-values-clause-found c = slice_get-past c.args.values.now c.args.i c.if-at-values.false
