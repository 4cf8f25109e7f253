use Rattle.std.proofs.Common.{sym, ap, subst, ◌∙◌, arith}
use Rattle.std.specs.Ordering.{nat_cmp}
use Rattle.std.specs.Cmp.Lexicographic.{slice_cmp}
use Rattle.std.specs.FinMap as map
use Rattle.xdp_maps.specs.Calls.{number_of, unless}
use Rattle.xdp_maps.specs.Layout.{IsAt, IsRising}
use Rattle.xdp_maps.proofs.Entries.{rising-remove}
use Rattle.xdp_maps.proofs.Hashes.{order_total, order_exact, remove_of_rising}
use Rattle.xdp_maps.proofs.Refusals.{delete_error-present, delete_error-absent}
use Rattle.xdp_maps.proofs.hash.delete.Goals as goal

pub returns-in-Ok : goal.returns-in-Ok
returns-in-Ok c =
    let es = c.args.entries.now.items in
    let key = c.args.key.now in
    let there = sym (rw c.deref.ensures.value at c.in-Ok.ensures.present) in
    let at : IsAt es key c.in-Ok.i = rw c.deref.ensures.value at c.in-Ok.ensures.found in
    let error = delete_error-present (map.from_sorted es) key there in
    record {
      number = sym (ap number_of error);
      contents = ap (λ (t : _). map.from_sorted {R = slice_cmp nat_cmp} t) c.remove.ensures.items ∙ remove_of_rising (slice_cmp nat_cmp) order_total order_exact es key c.in-Ok.i c.requires at ∙ sym (ap (λ e. unless e (map.from_sorted es) (map.remove (map.from_sorted es) key)) error);
      rising = subst (IsRising (slice_cmp nat_cmp)) (sym c.remove.ensures.items) (rising-remove (slice_cmp nat_cmp) order_total order_exact es c.in-Ok.i c.requires);
      room = omega (arith, c.remove.ensures.capacity);
    }

pub returns-in-Err : goal.returns-in-Err
returns-in-Err c =
    let es = c.args.entries.now.items in
    let key = c.args.key.now in
    let gone = sym (rw c.deref.ensures.value at c.in-Err.ensures.present) in
    let error = delete_error-absent (map.from_sorted es) key gone in
    record {
      number = sym (ap number_of error);
      contents = sym (ap (λ e. unless e (map.from_sorted es) (map.remove (map.from_sorted es) key)) error);
      rising = c.requires;
      room = omega arith;
    }
