use Rattle.std.proofs.Common.{◌+◌, ◌≤◌, sym, ap, subst, ◌∙◌, length, IfSome}
use Rattle.std.specs.Ordering.{nat_cmp}
use Rattle.std.specs.Cmp.Lexicographic.{slice_cmp}
use Rattle.std.specs.FinMap as map
use Rattle.xdp_maps.specs.Calls.{patched, with_value}
use Rattle.xdp_maps.specs.Layout.{IsAt}
use Rattle.xdp_maps.proofs.Hashes.{order_total, order_exact, written}
use Rattle.xdp_maps.proofs.hash.write.Goals as goal

pub write-requires : goal.write-requires
write-requires c =
    let es = c.args.entries.now.items in
    let at : IsAt es c.args.key.now c.in-Ok.i = rw c.deref.ensures.value at c.in-Ok.ensures.found in
    let edit = written (slice_cmp nat_cmp) order_total order_exact es c.args.key.now c.in-Ok.i c.index_mut.result.now c.args.bytes.now c.requires.rising at c.index_mut.ensures.value in
    subst (λ o. IfSome o (λ v. c.args.at + length c.args.bytes.now ≤ length v)) edit.value c.requires.inside

pub returns-in-Ok-clause-contents : goal.returns-in-Ok-clause-contents
returns-in-Ok-clause-contents c =
    let es = c.args.entries.now.items in
    let m = map.from_sorted {R = slice_cmp nat_cmp} es in
    let key = c.args.key.now in
    let at : IsAt es key c.in-Ok.i = rw c.deref.ensures.value at c.in-Ok.ensures.found in
    let edit = written (slice_cmp nat_cmp) order_total order_exact es key c.in-Ok.i c.index_mut.result.now c.write.new.self c.requires.rising at c.index_mut.ensures.value in
    edit.contents ∙ ap (map.insert m key) c.write.ensures ∙ sym (ap (with_value m key (λ v. patched v c.args.at c.args.bytes.now)) edit.value)

pub returns-in-Ok-clause-rising : goal.returns-in-Ok-clause-rising
returns-in-Ok-clause-rising c =
    let es = c.args.entries.now.items in
    let at : IsAt es c.args.key.now c.in-Ok.i = rw c.deref.ensures.value at c.in-Ok.ensures.found in
    (written (slice_cmp nat_cmp) order_total order_exact es c.args.key.now c.in-Ok.i c.index_mut.result.now c.write.new.self c.requires.rising at c.index_mut.ensures.value).rising
