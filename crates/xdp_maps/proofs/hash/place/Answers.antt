use Rattle.std.proofs.Common.{rules}
use Rattle.std.specs.Ordering.{nat_cmp}
use Rattle.std.specs.Cmp.Lexicographic.{slice_cmp}
use Rattle.std.proofs.lemmas.Fn.{always_returns_same}
use Rattle.xdp_maps.proofs.Entries.{searched}
use Rattle.xdp_maps.proofs.Hashes.{order_total, order_exact, search_tells}
use Rattle.xdp_maps.proofs.hash.place.Goals as goal

-- the closure compares an entry's key with the key
pub returns : goal.returns
returns c =
    let facts = c.binary_search_by.ensures in
    let by_key = facts.position (λ e. slice_cmp nat_cmp e.0 c.args.key.now) (always_returns_same _ _ _ (λ a r g called. (search rules, search rules))) in
    let place = searched (slice_cmp nat_cmp) order_total order_exact c.args.entries.now c.args.key.now c.requires _ facts.bound by_key in
    record {
      found = place.found;
      absent = place.absent;
      present = search_tells (slice_cmp nat_cmp) order_total order_exact c.args.entries.now c.args.key.now _ c.requires place.found place.absent;
    }
