use Rattle.std.proofs.Common.{refl, sym, subst}
use Rattle.std.specs.FinMap as map
use Rattle.xdp_maps.specs.declared.table.Table.TheVariants as table
use Rattle.xdp_maps.specs.Contents.{IsOver, array_of}
use Rattle.xdp_maps.specs.Tables.{IsTable}
use Rattle.xdp_maps.proofs.Over.{stored_over}
use Rattle.xdp_maps.proofs.TableLemmas.{slice_bytes, hash_table, array_table}
use Rattle.xdp_maps.proofs.table.Table.write.Goals as goal

pub returns-in-Hash-clause-kept : goal.returns-in-Hash-clause-kept
returns-in-Hash-clause-kept c =
    let d = c.args.decl.now in
    let was : IsTable d (table.Hash c.in-Hash.entries) = subst (IsTable d) c.in-Hash.is c.requires.kept in
    let bytes = slice_bytes _ c.args.bytes.now refl c.type_inv.bytes in
    let over = stored_over d (map.from_sorted c.in-Hash.entries.items) c.args.key.now c.args.at c.args.bytes.now was.over c.requires.inside bytes.bytes_fit in
    hash_table d c.in-Hash.entries c.write.new.entries was c.write.ensures.rising c.write.ensures.room (subst (IsOver d) (sym c.write.ensures.contents) over)

pub returns-in-Array-clause-kept : goal.returns-in-Array-clause-kept
returns-in-Array-clause-kept c =
    let d = c.args.decl.now in
    let was : IsTable d (table.Array c.in-Array.values) = subst (IsTable d) c.in-Array.is c.requires.kept in
    let bytes = slice_bytes _ c.args.bytes.now refl c.type_inv.bytes in
    let over = stored_over d (array_of c.in-Array.values.items) c.args.key.now c.args.at c.args.bytes.now was.over c.requires.inside bytes.bytes_fit in
    let new = rw c.deref_mut.ensures.value at c.write-in-Array.ensures.contents in
    let same = rw c.deref_mut.ensures.value at c.write-in-Array.auto.values in
    array_table d c.in-Array.values c.write-in-Array.new.values was same (subst (IsOver d) (sym new) over)
