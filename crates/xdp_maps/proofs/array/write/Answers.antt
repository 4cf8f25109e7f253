use Rattle.std.proofs.Common.{◌<◌, ◌≤◌, ◌+◌, ap, sym, ◌∙◌, subst, length, get_or, set, is_some, IfSome}
use Rattle.std.specs.FinMap as map
use Rattle.xdp_maps.specs.Contents.{index_of, array_of}
use Rattle.xdp_maps.specs.Calls.{patched, with_value}
use Rattle.xdp_maps.proofs.Arrays.{bytes_fit, array_of-set, get_inside, get_past}
use Rattle.xdp_maps.proofs.array.write.Goals as goal

pub write-requires : goal.write-requires
write-requires c =
    let vs = c.args.values.now in
    let key = c.args.key.now in
    let inside : index_of key < length vs = subst (λ i. i < length vs) c.index-i.ensures c.if-i-values.true in
    let found = get_inside vs key c.index-values-i.result c.requires.key (bytes_fit c.args.key.now c.type_inv.key) inside in
    let fits = subst (λ o. IfSome o (λ v. c.args.at + length c.args.bytes.now ≤ length v)) found c.requires.inside in
    subst (λ i. c.args.at + length c.args.bytes.now ≤ length (get_or vs i c.index-values-i.result)) (sym c.index-i.ensures) fits

pub returns-then-i-values-clause-present : goal.returns-then-i-values-clause-present
returns-then-i-values-clause-present c =
    let vs = c.args.values.now in
    let inside : index_of c.args.key.now < length vs = subst (λ i. i < length vs) c.index-i.ensures c.if-i-values.true in
    sym (ap is_some (get_inside vs c.args.key.now c.index-values-i.result c.requires.key (bytes_fit c.args.key.now c.type_inv.key) inside))

pub returns-then-i-values-clause-contents : goal.returns-then-i-values-clause-contents
returns-then-i-values-clause-contents c =
    let vs = c.args.values.now in
    let key = c.args.key.now in
    let inside : index_of key < length vs = subst (λ i. i < length vs) c.index-i.ensures c.if-i-values.true in
    let found = get_inside vs key c.index-values-i.result c.requires.key (bytes_fit c.args.key.now c.type_inv.key) inside in
    ap (λ i. array_of (set vs i c.write.new.self)) c.index-i.ensures
    ∙ array_of-set vs key c.write.new.self c.requires.few c.requires.key (bytes_fit c.args.key.now c.type_inv.key) inside
    ∙ ap (map.insert (array_of vs) key) c.write.ensures
    ∙ ap (λ i. map.insert (array_of vs) key (patched (get_or vs i c.index-values-i.result) c.args.at c.args.bytes.now)) c.index-i.ensures
    ∙ sym (ap (with_value (array_of vs) key (λ v. patched v c.args.at c.args.bytes.now)) found)

pub returns-else-i-values-clause-present : goal.returns-else-i-values-clause-present
returns-else-i-values-clause-present c =
    let vs = c.args.values.now in
    sym (ap is_some (get_past vs c.args.key.now c.requires.key (bytes_fit c.args.key.now c.type_inv.key) (subst (λ i. length vs ≤ i) c.index-i.ensures c.if-i-values.false)))

pub returns-else-i-values-clause-contents : goal.returns-else-i-values-clause-contents
returns-else-i-values-clause-contents c =
    let vs = c.args.values.now in
    let past = get_past vs c.args.key.now c.requires.key (bytes_fit c.args.key.now c.type_inv.key) (subst (λ i. length vs ≤ i) c.index-i.ensures c.if-i-values.false) in
    sym (ap (with_value (array_of vs) c.args.key.now (λ v. patched v c.args.at c.args.bytes.now)) past)
