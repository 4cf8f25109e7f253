use Rattle.std.proofs.Common.{[], false, ◌*◌, ℕ, refl, ap, to_z-of_z}
use Rattle.std.specs.Int.{w16}
use Rattle.cell_core.specs.declared.site.Act.TheVariants as act
use Rattle.operator_cells.specs.HeldCells.RegisterCells.{pointed}
use Rattle.site_cells.proofs.Entries.{entry_index, entry_seen, entry_there, place_aligned}
use Rattle.site_cells.proofs.Loads.{load_made}
use Rattle.site_cells.proofs.Allowed.{load_allowed}
use Rattle.site_cells.proofs.Points.{entry_used, read_keeps, access_points}
use Rattle.site_cells.proofs.SiteReads.{access_reads}
use Rattle.operator_cells.proofs.MakingLaws.{grown_none}
use Rattle.site_cells.proofs.EntryRows.{load_rows}
use Rattle.site_cells.proofs.access.operate_load.Goals as goal

pub bounds-pointers-held : goal.bounds-pointers-held
bounds-pointers-held c = entry_index c.args.pointers.now c.requires.inside c.requires.insn.src_register c.in-Entry.is

pub access_answer-requires-clause-key : goal.access_answer-requires-clause-key
access_answer-requires-clause-key c = (entry_there c.args.pointers.now c.requires.inside c.requires.insn.src_register c.in-Entry.is c.index-pointers-held.is).key

pub access_answer-requires-clause-found : goal.access_answer-requires-clause-found
access_answer-requires-clause-found c = (entry_there c.args.pointers.now c.requires.inside c.requires.insn.src_register c.in-Entry.is c.index-pointers-held.is).found

pub returns-in_ok-c-clause-operates : goal.returns-in_ok-c-clause-operates
returns-in_ok-c-clause-operates c = λ is_ref taken allowed.
    load_made c.args.decls.now c.args.insn.now c.args.here is_ref taken c.args.kinds.now c.args.held.now _ _ (pointed c.args.pointers.now) _ _ c.args.size _ _ c.place.result c.in_ok-c.c _ _ _ c.requires.op c.requires.insn.src_register c.requires.insn.dst_register c.in-Entry.is c.requires.guard allowed
    c.are_whole.ensures.registers c.are_whole.ensures.register_cells c.requires.inside (to_z-of_z {w = w16} (record { sfits = c.requires.insn.offset_range.sfits })) c.place.ensures (entry_seen c.args.pointers.now c.requires.inside c.requires.insn.src_register c.in-Entry.is c.index-pointers-held.is) (ap (λ (n : ℕ). 8 * n) c.bytes_in.ensures.value) c.in_ok-c.ensures

pub returns-in_ok-c-clause-rows : goal.returns-in_ok-c-clause-rows
returns-in_ok-c-clause-rows c = λ is_ref allowed.
    load_rows c.args.decls.now c.args.insn.now c.args.here is_ref c.args.kinds.now c.args.held.now _ _ (pointed c.args.pointers.now) _ _ c.args.size _ _ c.place.result c.in_ok-c.c _ _ c.requires.op c.requires.insn.src_register c.requires.insn.dst_register c.in-Entry.is allowed
    c.are_whole.ensures.registers c.are_whole.ensures.register_cells (entry_seen c.args.pointers.now c.requires.inside c.requires.insn.src_register c.in-Entry.is c.index-pointers-held.is) c.in_ok-c.ensures

pub returns-in_ok-c-clause-points : goal.returns-in_ok-c-clause-points
returns-in_ok-c-clause-points c = λ is_ref allowed.
    let f = load_allowed c.args.decls.now c.args.kinds.now c.args.insn.now c.args.size _ _ c.requires.op c.in-Entry.is allowed in
    access_points c.args.decls.now c.args.insn.now c.args.here c.args.kinds.now _ c.args.held.now _ _ _ (pointed c.args.pointers.now) _ _ _ _ _ (act.Load c.place.result c.args.size) _ [] c.requires.insn.src_register c.in-Entry.is (entry_seen c.args.pointers.now c.requires.inside c.requires.insn.src_register c.in-Entry.is c.index-pointers-held.is) refl
    (read_keeps _ _ c.args.kinds.now _ c.args.held.now c.args.insn.now.dst c.in_ok-c.c (f.1 c.args.here.node is_ref false) c.requires.insn.dst_register c.are_whole.ensures.registers c.are_whole.ensures.register_cells) c.in_ok-c.ensures.sites_are
    (access_reads c.args.decls.now _ c.args.here _ _ _ _ _ _ _ (act.Load c.place.result c.args.size) _ [] c.in_ok-c.c _ grown_none c.in_ok-c.ensures grown_none (entry_used c.args.kinds.now c.args.insn.now _ c.args.insn.now.src _ _ c.requires.op refl c.in-Entry.is)
    (place_aligned c.args.decls.now c.in-Entry.map c.in-Entry.o c.place.result _ c.args.insn.now.offset c.args.size f.0 (to_z-of_z {w = w16} (record { sfits = c.requires.insn.offset_range.sfits })) c.place.ensures) (ap (λ (n : ℕ). 8 * n) c.bytes_in.ensures.value) refl (λ k. refl) (λ k. refl))
