use Rattle.std.proofs.Common.{◌≡◌, length, subst, ap, arith}
use Rattle.std.specs.Ordering.{nat_cmp}
use Rattle.std.specs.Cmp.Lexicographic.{slice_cmp}
use Rattle.std.specs.FinMap as map
use Rattle.xdp_maps.specs.declared.table.Table.TheVariants as table
use Rattle.xdp_maps.specs.Contents.{IsFilled_as}
use Rattle.xdp_maps.specs.Tables.{IsTable}
use Rattle.xdp_maps.proofs.Hashes.{order_total, order_exact, len_of_rising}
use Rattle.xdp_maps.proofs.table.Table.copy_from.Goals as goal

pub copy_from-requires : goal.copy_from-requires
copy_from-requires c =
    let d = c.args.decl.now in
    let was : IsTable d (table.Hash c.in-Hash-Hash.entries) = subst (IsTable d) c.in-Hash-Hash.is-0 c.requires.kept in
    let from : IsTable d (table.Hash c.in-Hash-Hash.others) = subst (IsTable d) c.in-Hash-Hash.is-1 c.requires.from in
    let few = subst (λ k. IsFilled_as k d (map.from_sorted {R = slice_cmp nat_cmp} c.in-Hash-Hash.others.items)) from.kept.0 from.over.filled in
    let count = len_of_rising (slice_cmp nat_cmp) order_total order_exact c.in-Hash-Hash.others.items from.kept.1 in
    let room = was.kept.2 in
    let items : length c.deref.result.now ≡ length c.in-Hash-Hash.others.items = ap length c.deref.ensures.value in
    omega (arith, few, count, room, items)
