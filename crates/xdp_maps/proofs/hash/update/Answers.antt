use Rattle.std.proofs.Common.{◌≡◌, ap, ◌∙◌, Some, None, to_z, of_z, w64}
use Rattle.std.specs.Ordering.{nat_cmp}
use Rattle.std.specs.Cmp.Lexicographic.{slice_cmp}
use Rattle.std.specs.FinMap as map
use Rattle.xdp_maps.specs.Calls.{number_of, unless, hash_refusal}
use Rattle.xdp_maps.proofs.Hashes.{order_total, order_exact, len_of_rising}
use Rattle.xdp_maps.proofs.Refusals.{signed-hash_refusal}
use Rattle.xdp_maps.proofs.hash.update.Goals as goal

pub returns-in-Some-clause-number : goal.returns-in-Some-clause-number
returns-in-Some-clause-number c =
    let m = map.from_sorted {R = slice_cmp nat_cmp} c.args.entries.now.items in
    let used = len_of_rising (slice_cmp nat_cmp) order_total order_exact c.args.entries.now.items c.requires.rising in
    let there = rw c.deref.ensures.value at c.place-at.ensures.present in
    let error : Some c.in-Some.error ≡ hash_refusal c.args.cap (map.len m) (map.contains_key m c.args.key.now) c.args.flags = cc (c.in-Some.ensures, used, there, c.is_ok.ensures.value, c.len.ensures) in
    ap (λ o. to_z w64 (of_z w64 (number_of o))) error ∙ signed-hash_refusal c.args.cap (map.len m) (map.contains_key m c.args.key.now) c.args.flags

pub returns-in-Some-clause-contents : goal.returns-in-Some-clause-contents
returns-in-Some-clause-contents c =
    let m = map.from_sorted {R = slice_cmp nat_cmp} c.args.entries.now.items in
    let used = len_of_rising (slice_cmp nat_cmp) order_total order_exact c.args.entries.now.items c.requires.rising in
    let there = rw c.deref.ensures.value at c.place-at.ensures.present in
    let error : Some c.in-Some.error ≡ hash_refusal c.args.cap (map.len m) (map.contains_key m c.args.key.now) c.args.flags = cc (c.in-Some.ensures, used, there, c.is_ok.ensures.value, c.len.ensures) in
    ap (λ o. unless o m (map.insert m c.args.key.now c.args.value.now)) error

pub returns-in-None-clause-number : goal.returns-in-None-clause-number
returns-in-None-clause-number c =
    let m = map.from_sorted {R = slice_cmp nat_cmp} c.args.entries.now.items in
    let used = len_of_rising (slice_cmp nat_cmp) order_total order_exact c.args.entries.now.items c.requires.rising in
    let there = rw c.deref.ensures.value at c.place-at.ensures.present in
    let error : None ≡ hash_refusal c.args.cap (map.len m) (map.contains_key m c.args.key.now) c.args.flags = cc (c.in-None.ensures, used, there, c.is_ok.ensures.value, c.len.ensures) in
    ap number_of error

pub returns-in-None-clause-contents : goal.returns-in-None-clause-contents
returns-in-None-clause-contents c =
    let m = map.from_sorted {R = slice_cmp nat_cmp} c.args.entries.now.items in
    let used = len_of_rising (slice_cmp nat_cmp) order_total order_exact c.args.entries.now.items c.requires.rising in
    let there = rw c.deref.ensures.value at c.place-at.ensures.present in
    let error : None ≡ hash_refusal c.args.cap (map.len m) (map.contains_key m c.args.key.now) c.args.flags = cc (c.in-None.ensures, used, there, c.is_ok.ensures.value, c.len.ensures) in
    c.put.ensures.contents ∙ ap (λ o. unless o m (map.insert m c.args.key.now c.args.value.now)) error
