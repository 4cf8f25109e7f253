use Rattle.std.proofs.Common.{◌<◌, ◌≤◌, sym, subst, length}
use Rattle.xdp_maps.specs.Contents.{index_of}
use Rattle.xdp_maps.proofs.Arrays.{bytes_fit, get_inside, get_past}
use Rattle.xdp_maps.proofs.array.lookup.Goals as goal

pub returns-then-i-values : goal.returns-then-i-values
returns-then-i-values c =
    let inside : index_of c.args.key.now < length c.args.values.now = subst (λ i. i < length c.args.values.now) c.index-i.ensures c.if-i-values.true in
    let found = get_inside c.args.values.now c.args.key.now c.index-values-i.result c.requires.key (bytes_fit c.args.key.now c.type_inv.key) inside in
    cc (found, c.as_slice.ensures.bytes, c.index-values-i.is, c.index-i.ensures)

pub returns-else-i-values : goal.returns-else-i-values
returns-else-i-values c =
    sym (get_past c.args.values.now c.args.key.now c.requires.key (bytes_fit c.args.key.now c.type_inv.key) (subst (λ i. length c.args.values.now ≤ i) c.index-i.ensures c.if-i-values.false))
