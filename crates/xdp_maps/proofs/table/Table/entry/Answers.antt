use Rattle.std.proofs.Common.{◌≡◌, sym, subst, ap, ◌∙◌, Some, None, MatchOption, slice_get}
use Rattle.xdp_maps.specs.declared.table.Table.TheVariants as table
use Rattle.xdp_maps.specs.Contents.{index_key}
use Rattle.xdp_maps.specs.Calls.{entry_of}
use Rattle.xdp_maps.specs.Tables.{IsTable, contents_of}
use Rattle.xdp_maps.proofs.TableLemmas.{key_length, entry_hash, entry_array, indexed_match}
use Rattle.xdp_maps.proofs.table.Table.entry.Goals as goal

pub entry-requires : goal.entry-requires
entry-requires c k e lt =
    let was : IsTable c.args.decl.now (table.Hash c.in-Hash.entries) = subst (IsTable c.args.decl.now) c.in-Hash.is c.requires.kept in
    let inside = rw c.deref.ensures.value at lt in
    let key = key_length c.args.decl.now c.in-Hash.entries was k e inside in
    rw c.deref.ensures.value (key ∙ sym c.requires.key)

pub returns-in-Hash-clause-found : goal.returns-in-Hash-clause-found
returns-in-Hash-clause-found c =
    let d = c.args.decl.now in
    let was : IsTable d (table.Hash c.in-Hash.entries) = subst (IsTable d) c.in-Hash.is c.requires.kept in
    let pair = ap (λ t. entry_of d (contents_of t) c.args.i) c.in-Hash.is ∙ entry_hash d c.in-Hash.entries c.args.i was in
    let found = rw c.deref.ensures.value at c.entry.ensures.found in
    subst (λ o. MatchOption c.entry.result (o ≡ None) (λ v. o ≡ Some (c.entry.new.key, v.now))) (sym pair) found

pub returns-in-Array-clause-found : goal.returns-in-Array-clause-found
returns-in-Array-clause-found c =
    let d = c.args.decl.now in
    let was : IsTable d (table.Array c.in-Array.values) = subst (IsTable d) c.in-Array.is c.requires.kept in
    let pair = ap (λ t. entry_of d (contents_of t) c.args.i) c.in-Array.is ∙ entry_array d c.in-Array.values c.args.i c.ranges.i.fits was in
    let found = rw c.deref-in-Array.ensures.value at c.entry-in-Array.ensures.found in
    let match = indexed_match (λ v. v.now) c.entry-in-Array.result (slice_get c.in-Array.values.items c.args.i) (index_key c.args.i) c.entry-in-Array.new.key found in
    subst (λ o. MatchOption c.entry-in-Array.result (o ≡ None) (λ v. o ≡ Some (c.entry-in-Array.new.key, v.now))) (sym pair) match
