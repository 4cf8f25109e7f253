use Rattle.std.proofs.Common.{◌≡◌, ◌<◌, ap, sym, ◌∙◌, None, length, set}
use Rattle.std.specs.FinMap as map
use Rattle.xdp_maps.specs.Contents.{index_of, array_of}
use Rattle.xdp_maps.specs.Calls.{array_refusal, unless}
use Rattle.xdp_maps.proofs.Arrays.{bytes_fit, array_of-set}
use Rattle.xdp_maps.proofs.Refusals.{inside-array_refusal}
use Rattle.xdp_maps.proofs.array.update.Goals as goal

pub returns-in-None-clause-contents : goal.returns-in-None-clause-contents
returns-in-None-clause-contents c =
    let vs = c.args.values.now in
    let key = c.args.key.now in
    let error : None ≡ array_refusal (length vs) (index_of key) c.args.flags = cc (c.in-None.ensures, c.index-i.ensures) in
    let inside : index_of key < length vs = inside-array_refusal (length vs) (index_of key) c.args.flags (sym error) in
    ap (λ i. array_of (set vs i c.of.result)) c.index-i.ensures
    ∙ array_of-set vs key c.of.result c.requires.few c.requires.key (bytes_fit c.args.key.now c.type_inv.key) inside
    ∙ ap (map.insert (array_of vs) key) c.of.ensures
    ∙ ap (λ o. unless o (array_of vs) (map.insert (array_of vs) key c.args.value.now)) error
