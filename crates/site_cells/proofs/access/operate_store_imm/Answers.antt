use Rattle.std.proofs.Common.{[], ◌∷◌, false, ◌∙◌, refl, ap, to_z-of_z}
use Rattle.std.specs.Int.{w16, w64, cast_unsigned}
use Rattle.kind_core.specs.declared.number.Number.TheVariants.{Known}
use Rattle.kind_core.specs.declared.kind.Kind.TheVariants.{Num}
use Rattle.kind_core.specs.Effects.{effect_as}
use Rattle.cell_core.specs.declared.site.Act.TheVariants as act
use Rattle.operator_cells.specs.HeldCells.RegisterCells.{pointed}
use Rattle.site_cells.proofs.Entries.{entry_index, entry_seen, place_aligned}
use Rattle.kind_core.proofs.xdp_machine_laws.NumberLaws.{word_of, imm_fits}
use Rattle.site_cells.proofs.Stores.{imm_made}
use Rattle.site_cells.proofs.Allowed.{store_allowed}
use Rattle.site_cells.proofs.Points.{entry_used, nothing_keeps, access_points}
use Rattle.site_cells.proofs.SiteReads.{silent_reads}
use Rattle.site_cells.proofs.EntryRows.{imm_rows}
use Rattle.site_cells.proofs.access.operate_store_imm.Goals as goal

pub bounds-pointers-held : goal.bounds-pointers-held
bounds-pointers-held c = entry_index c.args.pointers.now c.requires.inside c.requires.insn.dst_register c.in-Entry.is

pub returns-in_ok-push_access-clause-operates : goal.returns-in_ok-push_access-clause-operates
returns-in_ok-push_access-clause-operates c = λ is_ref taken allowed.
    imm_made c.args.decls.now c.args.insn.now c.args.here is_ref taken c.args.kinds.now c.args.held.now _ _ (pointed c.args.pointers.now) _ _ c.args.size _ _ c.place.result c.in_ok-source.source _ _ _ c.requires.op c.requires.insn.dst_register c.in-Entry.is c.requires.guard allowed
    c.requires.inside (to_z-of_z {w = w16} (record { sfits = c.requires.insn.offset_range.sfits })) c.place.ensures (entry_seen c.args.pointers.now c.requires.inside c.requires.insn.dst_register c.in-Entry.is c.index-pointers-held.is) (c.cast_unsigned.ensures ∙ ap (cast_unsigned w64) {y = c.args.insn.now.imm} (to_z-of_z {w = w64} (record { sfits = imm_fits c.args.insn.now.op c.args.insn.now.imm c.requires.insn.imm_range }))) (word_of c.args.insn.now.imm (imm_fits c.args.insn.now.op c.args.insn.now.imm c.requires.insn.imm_range)) c.in_ok-source.ensures.makes c.in_ok-push_access.ensures

pub returns-in_ok-push_access-clause-rows : goal.returns-in_ok-push_access-clause-rows
returns-in_ok-push_access-clause-rows c = λ is_ref allowed.
    imm_rows c.args.decls.now c.args.insn.now c.args.here is_ref c.args.kinds.now c.args.held.now _ _ (pointed c.args.pointers.now) _ _ c.args.size _ _ c.place.result c.in_ok-source.source _ c.requires.op c.requires.insn.dst_register c.in-Entry.is allowed
    (entry_seen c.args.pointers.now c.requires.inside c.requires.insn.dst_register c.in-Entry.is c.index-pointers-held.is) c.in_ok-source.ensures.makes.grows c.in_ok-source.ensures.rises c.in_ok-push_access.ensures

pub returns-in_ok-push_access-clause-points : goal.returns-in_ok-push_access-clause-points
returns-in_ok-push_access-clause-points c = λ is_ref allowed.
    let f = store_allowed c.args.decls.now c.args.kinds.now c.args.insn.now c.args.size _ _ (Num (Known (cast_unsigned w64 c.args.insn.now.imm))) (ap (effect_as c.args.decls.now c.args.kinds.now c.args.insn.now) c.requires.op) c.in-Entry.is allowed in
    access_points c.args.decls.now c.args.insn.now c.args.here c.args.kinds.now _ c.args.held.now _ _ _ (pointed c.args.pointers.now) _ _ _ _ _ (act.Store c.place.result c.args.size) _ (c.in_ok-source.source ∷ []) c.requires.insn.dst_register c.in-Entry.is
    (entry_seen c.args.pointers.now c.requires.inside c.requires.insn.dst_register c.in-Entry.is c.index-pointers-held.is) (c.in_ok-source.source, refl) (nothing_keeps c.args.kinds.now _ c.args.held.now (f.3 c.args.here.node is_ref false)) c.in_ok-push_access.ensures
    (silent_reads c.args.decls.now _ c.args.here _ _ _ _ (act.Store c.place.result c.args.size) _ (c.in_ok-source.source ∷ []) c.in_ok-source.ensures.makes.grows (entry_used c.args.kinds.now c.args.insn.now _ c.args.insn.now.dst _ _ c.requires.op refl c.in-Entry.is)
    (place_aligned c.args.decls.now c.in-Entry.map c.in-Entry.o c.place.result _ c.args.insn.now.offset c.args.size f.2 (to_z-of_z {w = w16} (record { sfits = c.requires.insn.offset_range.sfits })) c.place.ensures) (λ k. refl) (λ k. refl))
