use Rattle.std.proofs.Common.{[], ◌∷◌, false, ap, length, arith, refl, to_z-of_z}
use Rattle.std.specs.Int.{w16}
use Rattle.operator_cells.specs.Making.{seen}
use Rattle.kind_core.specs.Kinds.{register}
use Rattle.kind_core.specs.Effects.{effect_as}
use Rattle.cell_core.specs.declared.site.Act.TheVariants as act
use Rattle.operator_cells.specs.HeldCells.RegisterCells.{pointed}
use Rattle.site_cells.proofs.Entries.{entry_index, entry_seen, place_aligned}
use Rattle.site_cells.proofs.Slots.{counts_number}
use Rattle.site_cells.proofs.Stores.{store_made}
use Rattle.site_cells.proofs.Allowed.{store_allowed}
use Rattle.site_cells.proofs.Points.{entry_used, nothing_keeps, access_points}
use Rattle.site_cells.proofs.SiteReads.{silent_reads}
use Rattle.site_cells.proofs.EntryRows.{store_rows}
use Rattle.site_cells.proofs.access.operate_store.Goals as goal

pub bounds-pointers-held : goal.bounds-pointers-held
bounds-pointers-held c = entry_index c.args.pointers.now c.requires.inside c.requires.insn.dst_register c.in-Entry.is

pub number_in-requires : goal.number_in-requires
number_in-requires c = counts_number c.args.decls.now (length (seen c.args.cells.now.items)) _ (pointed c.args.pointers.now) _ _ (omega arith) (c.requires.inside.registers c.args.insn.now.src c.requires.insn.src_register)

pub returns-in_ok-push_access-clause-operates : goal.returns-in_ok-push_access-clause-operates
returns-in_ok-push_access-clause-operates c = λ is_ref taken allowed.
    store_made c.args.decls.now c.args.insn.now c.args.here is_ref taken c.args.kinds.now c.args.held.now _ _ (pointed c.args.pointers.now) _ _ c.args.size _ _ c.place.result c.in_ok-source.source _ _ c.requires.op c.requires.insn.src_register c.requires.insn.dst_register c.in-Entry.is c.requires.guard allowed
    c.requires.inside (to_z-of_z {w = w16} (record { sfits = c.requires.insn.offset_range.sfits })) c.place.ensures (entry_seen c.args.pointers.now c.requires.inside c.requires.insn.dst_register c.in-Entry.is c.index-pointers-held.is) c.in_ok-source.ensures.number c.in_ok-push_access.ensures

pub returns-in_ok-push_access-clause-rows : goal.returns-in_ok-push_access-clause-rows
returns-in_ok-push_access-clause-rows c = λ is_ref allowed.
    store_rows c.args.decls.now c.args.insn.now c.args.here is_ref c.args.kinds.now c.args.held.now _ _ (pointed c.args.pointers.now) _ _ c.args.size _ _ c.place.result c.in_ok-source.source _ c.requires.op c.requires.insn.src_register c.requires.insn.dst_register c.in-Entry.is allowed
    (entry_seen c.args.pointers.now c.requires.inside c.requires.insn.dst_register c.in-Entry.is c.index-pointers-held.is) c.in_ok-source.ensures.made.0 (c.in_ok-source.ensures.rises (pointed c.args.pointers.now)) c.in_ok-push_access.ensures

pub returns-in_ok-push_access-clause-points : goal.returns-in_ok-push_access-clause-points
returns-in_ok-push_access-clause-points c = λ is_ref allowed.
    let f = store_allowed c.args.decls.now c.args.kinds.now c.args.insn.now c.args.size _ _ (register c.args.kinds.now c.args.insn.now.src) (ap (effect_as c.args.decls.now c.args.kinds.now c.args.insn.now) c.requires.op) c.in-Entry.is allowed in
    access_points c.args.decls.now c.args.insn.now c.args.here c.args.kinds.now _ c.args.held.now _ _ _ (pointed c.args.pointers.now) _ _ _ _ _ (act.Store c.place.result c.args.size) _ (c.in_ok-source.source ∷ []) c.requires.insn.dst_register c.in-Entry.is
    (entry_seen c.args.pointers.now c.requires.inside c.requires.insn.dst_register c.in-Entry.is c.index-pointers-held.is) (c.in_ok-source.source, refl) (nothing_keeps c.args.kinds.now _ c.args.held.now (f.3 c.args.here.node is_ref false)) c.in_ok-push_access.ensures
    (silent_reads c.args.decls.now _ c.args.here _ _ _ _ (act.Store c.place.result c.args.size) _ (c.in_ok-source.source ∷ []) c.in_ok-source.ensures.made.0 (entry_used c.args.kinds.now c.args.insn.now _ c.args.insn.now.dst _ _ c.requires.op refl c.in-Entry.is)
    (place_aligned c.args.decls.now c.in-Entry.map c.in-Entry.o c.place.result _ c.args.insn.now.offset c.args.size f.2 (to_z-of_z {w = w16} (record { sfits = c.requires.insn.offset_range.sfits })) c.place.ensures) (λ k. refl) (λ k. refl))
