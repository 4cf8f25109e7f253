use Rattle.std.proofs.Common.{◌≡◌, ap, subst, ◌∙◌, IfOk, IfErr}
use Rattle.std.specs.Ordering.{nat_cmp}
use Rattle.std.specs.Cmp.Lexicographic.{slice_cmp}
use Rattle.std.specs.FinMap as map
use Rattle.std.specs.FinMap.{put}
use Rattle.xdp_maps.specs.Layout.{IsAt, IsGapFor}
use Rattle.xdp_maps.proofs.Entries.{put_gap}
use Rattle.xdp_maps.proofs.Hashes.{order_total, order_exact, edited, written}
use Rattle.xdp_maps.proofs.hash.put.Goals as goal

-- the value at the key's place is written over
pub returns-in-Ok-clause-contents : goal.returns-in-Ok-clause-contents
returns-in-Ok-clause-contents c =
    let es = c.args.entries.now.items in
    let key = c.args.key.now in
    let at : IsAt es key c.in-Ok.i = subst (λ r. IfOk r (IsAt es key)) c.in-Ok.is c.requires.found in
    (written (slice_cmp nat_cmp) order_total order_exact es key c.in-Ok.i c.index_mut.result.now c.of.result c.requires.rising at c.index_mut.ensures.value).contents
    ∙ ap (map.insert (map.from_sorted es) key) c.of.ensures

pub returns-in-Ok-clause-rising : goal.returns-in-Ok-clause-rising
returns-in-Ok-clause-rising c =
    let es = c.args.entries.now.items in
    let key = c.args.key.now in
    let at : IsAt es key c.in-Ok.i = subst (λ r. IfOk r (IsAt es key)) c.in-Ok.is c.requires.found in
    (written (slice_cmp nat_cmp) order_total order_exact es key c.in-Ok.i c.index_mut.result.now c.of.result c.requires.rising at c.index_mut.ensures.value).rising

-- the pair goes into the gap
pub returns-in-Err-clause-contents : goal.returns-in-Err-clause-contents
returns-in-Err-clause-contents c =
    let es = c.args.entries.now.items in
    let key = c.args.key.now in
    let gap : IsGapFor (slice_cmp nat_cmp) es key c.in-Err.i = subst (λ r. IfErr r (IsGapFor (slice_cmp nat_cmp) es key)) c.in-Err.is c.requires.absent in
    let place = put_gap (slice_cmp nat_cmp) order_total order_exact es key c.args.value.now c.in-Err.i gap in
    let items = rw c.unwrap.ensures at c.insert.ensures.items in
    let new : put (slice_cmp nat_cmp) key c.args.value.now es ≡ c.insert.new.self.items = cc (place, items, c.of-in-Err.ensures, c.of-in-Err-2.ensures) in
    (edited (slice_cmp nat_cmp) order_total order_exact es _ key c.args.value.now c.requires.rising new).contents

pub returns-in-Err-clause-rising : goal.returns-in-Err-clause-rising
returns-in-Err-clause-rising c =
    let es = c.args.entries.now.items in
    let key = c.args.key.now in
    let gap : IsGapFor (slice_cmp nat_cmp) es key c.in-Err.i = subst (λ r. IfErr r (IsGapFor (slice_cmp nat_cmp) es key)) c.in-Err.is c.requires.absent in
    let place = put_gap (slice_cmp nat_cmp) order_total order_exact es key c.args.value.now c.in-Err.i gap in
    let items = rw c.unwrap.ensures at c.insert.ensures.items in
    let new : put (slice_cmp nat_cmp) key c.args.value.now es ≡ c.insert.new.self.items = cc (place, items, c.of-in-Err.ensures, c.of-in-Err-2.ensures) in
    (edited (slice_cmp nat_cmp) order_total order_exact es _ key c.args.value.now c.requires.rising new).rising
