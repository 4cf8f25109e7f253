use Rattle.std.proofs.Common.{sym, subst}
use Rattle.std.specs.FinMap as map
use Rattle.xdp_maps.specs.declared.table.Table.TheVariants as table
use Rattle.xdp_maps.specs.Contents.{IsOver, array_of}
use Rattle.xdp_maps.specs.Calls.{update_error_as, unless}
use Rattle.xdp_maps.specs.Tables.{IsTable}
use Rattle.xdp_maps.proofs.Over.{updated_over}
use Rattle.xdp_maps.proofs.TableLemmas.{slice_bytes, hash_table, array_table}
use Rattle.xdp_maps.proofs.table.Table.update.Goals as goal

pub returns-in-Hash-clause-kept : goal.returns-in-Hash-clause-kept
returns-in-Hash-clause-kept c =
    let d = c.args.decl.now in
    let was : IsTable d (table.Hash c.in-Hash.entries) = subst (IsTable d) c.in-Hash.is c.requires.kept in
    let m = map.from_sorted c.in-Hash.entries.items in
    let key = slice_bytes d.key c.args.key.now c.requires.key c.type_inv.key in
    let value = slice_bytes d.value c.args.value.now c.requires.value c.type_inv.value in
    let over = subst (λ k. IsOver d (unless (update_error_as k d m c.args.key.now c.args.flags) m (map.insert m c.args.key.now c.args.value.now))) was.kept.0 (updated_over d m c.args.key.now c.args.value.now c.args.flags was.over key value) in
    hash_table d c.in-Hash.entries c.update.new.entries was c.update.ensures.rising c.update.ensures.room (subst (IsOver d) (sym c.update.ensures.contents) over)

pub returns-in-Array-clause-kept : goal.returns-in-Array-clause-kept
returns-in-Array-clause-kept c =
    let d = c.args.decl.now in
    let was : IsTable d (table.Array c.in-Array.values) = subst (IsTable d) c.in-Array.is c.requires.kept in
    let m = array_of c.in-Array.values.items in
    let key = slice_bytes d.key c.args.key.now c.requires.key c.type_inv.key in
    let value = slice_bytes d.value c.args.value.now c.requires.value c.type_inv.value in
    let over = subst (λ k. IsOver d (unless (update_error_as k d m c.args.key.now c.args.flags) m (map.insert m c.args.key.now c.args.value.now))) was.kept.0 (updated_over d m c.args.key.now c.args.value.now c.args.flags was.over key value) in
    let new = rw (c.deref_mut.ensures.value, was.kept.1) at c.update-in-Array.ensures.contents in
    let same = rw c.deref_mut.ensures.value at c.update-in-Array.auto.values in
    array_table d c.in-Array.values c.update-in-Array.new.values was same (subst (IsOver d) (sym new) over)
