use Rattle.std.proofs.Common.{sym, subst}
use Rattle.std.specs.FinMap as map
use Rattle.xdp_maps.specs.declared.table.Table.TheVariants as table
use Rattle.xdp_maps.specs.Contents.{IsOver}
use Rattle.xdp_maps.specs.Calls.{delete_error_as, unless}
use Rattle.xdp_maps.specs.Tables.{IsTable}
use Rattle.xdp_maps.proofs.Over.{deleted_over}
use Rattle.xdp_maps.proofs.TableLemmas.{hash_table}
use Rattle.xdp_maps.proofs.table.Table.delete.Goals as goal

pub returns-in-Hash-clause-kept : goal.returns-in-Hash-clause-kept
returns-in-Hash-clause-kept c =
    let d = c.args.decl.now in
    let was : IsTable d (table.Hash c.in-Hash.entries) = subst (IsTable d) c.in-Hash.is c.requires.kept in
    let m = map.from_sorted c.in-Hash.entries.items in
    let over = subst (λ k. IsOver d (unless (delete_error_as k m c.args.key.now) m (map.remove m c.args.key.now))) was.kept.0 (deleted_over d m c.args.key.now was.over) in
    hash_table d c.in-Hash.entries c.delete.new.entries was c.delete.ensures.rising c.delete.ensures.room (subst (IsOver d) (sym c.delete.ensures.contents) over)
