use Rattle.std.proofs.Common.{sym, ap, ◌∙◌, Some}
use Rattle.std.specs.Ordering.{nat_cmp}
use Rattle.std.specs.Cmp.Lexicographic.{slice_cmp}
use Rattle.xdp_maps.proofs.Entries.{find_at, find_gap}
use Rattle.xdp_maps.proofs.Hashes.{order_total, order_exact, get_of_rising}
use Rattle.xdp_maps.proofs.hash.lookup.Goals as goal

-- the entry at the key's place has its value
pub returns-in-Ok : goal.returns-in-Ok
returns-in-Ok c =
    let found = find_at (slice_cmp nat_cmp) order_total order_exact c.args.entries.now c.args.key.now c.in-Ok.i c.requires c.in-Ok.ensures.found c.index-entries-i.result in
    let got = get_of_rising (slice_cmp nat_cmp) order_total order_exact c.args.entries.now c.args.key.now c.requires in
    ap Some c.as_slice.ensures.bytes ∙ sym found ∙ sym got

pub returns-in-Err : goal.returns-in-Err
returns-in-Err c =
    let none = find_gap (slice_cmp nat_cmp) order_total order_exact c.args.entries.now c.args.key.now c.in-Err.field-0 c.in-Err.ensures.absent in
    let got = get_of_rising (slice_cmp nat_cmp) order_total order_exact c.args.entries.now c.args.key.now c.requires in
    sym none ∙ sym got
