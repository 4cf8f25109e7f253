use Rattle.std.proofs.Common.{false, ◌∙◌, ◌*◌, ◌++◌, ◌∷◌, [], ℕ, ℤ, pos, ◌+ℤ◌, arith, refl, sym, ap, subst, to_z-of_z}
use Rattle.std.specs.Int.{w16}
use Rattle.cell_core.specs.bpf_isa.Rules.{IsSized}
use Rattle.kind_core.specs.Kinds.{value_bytes}
use Rattle.cell_core.specs.xdp_machine.Memory.{bytes_in, aligned}
use Rattle.cell_core.specs.declared.site.Act.TheVariants as act
use Rattle.operator_cells.specs.Making.{seen}
use Rattle.operator_cells.proofs.MakingLaws.{grown_none, reads_none}
use Rattle.operator_cells.specs.HeldCells.RegisterCells.{PointerView, pointed}
use Rattle.site_cells.specs.Sited.{sited}
use Rattle.site_cells.specs.Siting.{Accesses, access_site}
use Rattle.site_cells.proofs.Allowed.{atomic_allowed}
use Rattle.site_cells.proofs.Changed.{leaves_held, taken_small, takes_old}
use Rattle.site_cells.proofs.Entries.{entry_index, entry_seen, entry_there}
use Rattle.site_cells.proofs.Points.{entry_used, read_keeps, nothing_keeps, access_points}
use Rattle.site_cells.proofs.Atomics.{atomic_bytes, atomic_aligned, taken_answers}
use Rattle.site_cells.proofs.SiteReads.{silent_reads, access_reads}
use Rattle.site_cells.proofs.AtomicRows.{silent_rows, taken_rows}
use Rattle.site_cells.proofs.atomic.operate_atomic.Goals as goal

pub bounds-pointers-held : goal.bounds-pointers-held
bounds-pointers-held c = entry_index c.args.pointers.now c.requires.inside c.requires.insn.dst_register c.in-Entry.is

pub access_answer-requires-clause-key : goal.access_answer-requires-clause-key
access_answer-requires-clause-key c =
    let p = entry_there c.args.pointers.now c.requires.inside c.requires.insn.dst_register c.in-Entry.is c.index-pointers-held.is in
    λ j d l. omega (arith, p.key j d l, c.in_ok-own.ensures.holds.grows.longer)

pub access_answer-requires-clause-found : goal.access_answer-requires-clause-found
access_answer-requires-clause-found c =
    let p = entry_there c.args.pointers.now c.requires.inside c.requires.insn.dst_register c.in-Entry.is c.index-pointers-held.is in
    omega (arith, p.found, c.in_ok-own.ensures.holds.grows.longer)

pub returns-in_ok-push_access-in-None-clause-operates : goal.returns-in_ok-push_access-in-None-clause-operates
returns-in_ok-push_access-in-None-clause-operates c = λ is_ref edge allowed.
    let offset = to_z-of_z {w = w16} (record { sfits = c.requires.insn.offset_range.sfits }) in
    leaves_held c.args.decls.now c.args.insn.now c.args.here c.args.kinds.now c.args.held.now _ _ _ (pointed c.args.pointers.now) _ _ c.args.size c.in-Entry.map c.in-Entry.o c.place-at.result _ _ c.atomic_of.result
    (record {
      op = c.requires.op;
      sized = subst IsSized c.requires.op c.requires.insn.size;
      dst = c.requires.insn.dst_register;
      base = c.in-Entry.is;
      guard = c.requires.guard;
      allowed = atomic_allowed c.args.decls.now c.args.kinds.now c.args.insn.now c.args.size c.in-Entry.map c.in-Entry.o c.requires.op c.in-Entry.is allowed;
      inside = c.requires.inside;
      place = λ b e. c.place-at.ensures b (ap (λ (z : ℤ). aligned (pos c.in-Entry.o +ℤ z) (bytes_in c.args.size) (value_bytes c.args.decls.now c.in-Entry.map)) offset ∙ e);
      change = c.atomic_of.ensures;
      operands = c.in_ok-own.ensures.holds;
      grows = reads_none _ _ _ grown_none;
      sites_are = c.in_ok-push_access-in-None.ensures ∙ ap (λ (x : PointerView). sited c.args.sites.now.items ++ access_site c.args.here c.in-Entry.map (act.Atomic c.place-at.result c.atomic_of.result) x (c.in_ok-own.own.source ∷ c.in_ok-own.own.compared ∷ []) ∷ []) (entry_seen c.args.pointers.now c.requires.inside c.requires.insn.dst_register c.in-Entry.is c.index-pointers-held.is);
    }) is_ref edge (sym c.taken_by.ensures ∙ c.in-None.is) (omega arith)

pub returns-in_ok-c-in-Some-clause-operates : goal.returns-in_ok-c-in-Some-clause-operates
returns-in_ok-c-in-Some-clause-operates c = λ is_ref edge allowed.
    let offset = to_z-of_z {w = w16} (record { sfits = c.requires.insn.offset_range.sfits }) in
    let reads = subst (λ (x : PointerView). Accesses (seen c.operands_of.new.cells.items) (seen c.access_answer.new.cells.items) (sited c.args.sites.now.items) (sited c.access_answer.new.sites.items) c.args.here c.in-Entry.map (act.Atomic c.place-at.result c.atomic_of.result) x (c.in_ok-own.own.source ∷ c.in_ok-own.own.compared ∷ []) c.in_ok-c-in-Some.c (8 * c.bytes_in.result)) (entry_seen c.args.pointers.now c.requires.inside c.requires.insn.dst_register c.in-Entry.is c.index-pointers-held.is) c.in_ok-c-in-Some.ensures in
    takes_old c.args.decls.now c.args.insn.now c.args.here c.args.kinds.now c.args.held.now _ _ _ (pointed c.args.pointers.now) _ _ c.args.size c.in-Entry.map c.in-Entry.o c.place-at.result _ _ c.atomic_of.result
    (record {
      op = c.requires.op;
      sized = subst IsSized c.requires.op c.requires.insn.size;
      dst = c.requires.insn.dst_register;
      base = c.in-Entry.is;
      guard = c.requires.guard;
      allowed = atomic_allowed c.args.decls.now c.args.kinds.now c.args.insn.now c.args.size c.in-Entry.map c.in-Entry.o c.requires.op c.in-Entry.is allowed;
      inside = c.requires.inside;
      place = λ b e. c.place-at.ensures b (ap (λ (z : ℤ). aligned (pos c.in-Entry.o +ℤ z) (bytes_in c.args.size) (value_bytes c.args.decls.now c.in-Entry.map)) offset ∙ e);
      change = c.atomic_of.ensures;
      operands = c.in_ok-own.ensures.holds;
      grows = reads.grows;
      sites_are = reads.sites_are;
    }) is_ref edge _ c.in_ok-c-in-Some.c _ (taken_small c.args.insn.now _ c.requires.insn.src_register (sym c.taken_by.ensures ∙ c.in-Some.is)) (sym c.taken_by.ensures ∙ c.in-Some.is) c.are_whole.ensures.registers c.are_whole.ensures.register_cells (ap (λ (n : ℕ). 8 * n) c.bytes_in.ensures.value) reads

pub returns-in_ok-push_access-in-None-clause-rows : goal.returns-in_ok-push_access-in-None-clause-rows
returns-in_ok-push_access-in-None-clause-rows c = λ is_ref allowed.
    silent_rows c.args.decls.now c.args.insn.now c.args.here is_ref c.args.kinds.now c.args.held.now _ _ (seen c.operands_of.new.cells.items) (pointed c.args.pointers.now) _ _ c.args.size c.in-Entry.map c.in-Entry.o c.place-at.result _ _ c.atomic_of.result _ c.requires.op c.requires.insn.dst_register c.in-Entry.is
    (atomic_allowed c.args.decls.now c.args.kinds.now c.args.insn.now c.args.size c.in-Entry.map c.in-Entry.o c.requires.op c.in-Entry.is allowed) (entry_seen c.args.pointers.now c.requires.inside c.requires.insn.dst_register c.in-Entry.is c.index-pointers-held.is) c.in_ok-own.ensures.holds (c.in_ok-own.ensures.rises (pointed c.args.pointers.now)) (sym c.taken_by.ensures ∙ c.in-None.is) c.in_ok-push_access-in-None.ensures

pub returns-in_ok-c-in-Some-clause-rows : goal.returns-in_ok-c-in-Some-clause-rows
returns-in_ok-c-in-Some-clause-rows c = λ is_ref allowed.
    taken_rows c.args.decls.now c.args.insn.now c.args.here is_ref c.args.kinds.now c.args.held.now _ _ _ (pointed c.args.pointers.now) _ _ c.args.size c.in-Entry.map c.in-Entry.o c.place-at.result _ _ c.atomic_of.result _ c.requires.op c.requires.insn.dst_register c.in-Entry.is
    (atomic_allowed c.args.decls.now c.args.kinds.now c.args.insn.now c.args.size c.in-Entry.map c.in-Entry.o c.requires.op c.in-Entry.is allowed) (entry_seen c.args.pointers.now c.requires.inside c.requires.insn.dst_register c.in-Entry.is c.index-pointers-held.is) c.in_ok-own.ensures.holds (c.in_ok-own.ensures.rises (pointed c.args.pointers.now)) _ c.in_ok-c-in-Some.c _ (taken_small c.args.insn.now _ c.requires.insn.src_register (sym c.taken_by.ensures ∙ c.in-Some.is)) (sym c.taken_by.ensures ∙ c.in-Some.is)
    c.are_whole.ensures.registers c.are_whole.ensures.register_cells c.in_ok-c-in-Some.ensures

pub returns-in_ok-push_access-in-None-clause-points : goal.returns-in_ok-push_access-in-None-clause-points
returns-in_ok-push_access-in-None-clause-points c = λ is_ref allowed.
    let f = atomic_allowed c.args.decls.now c.args.kinds.now c.args.insn.now c.args.size c.in-Entry.map c.in-Entry.o c.requires.op c.in-Entry.is allowed in
    access_points c.args.decls.now c.args.insn.now c.args.here c.args.kinds.now _ c.args.held.now _ _ _ (pointed c.args.pointers.now) _ _ _ _ _ (act.Atomic c.place-at.result c.atomic_of.result) _ (c.in_ok-own.own.source ∷ c.in_ok-own.own.compared ∷ []) c.requires.insn.dst_register c.in-Entry.is
    (entry_seen c.args.pointers.now c.requires.inside c.requires.insn.dst_register c.in-Entry.is c.index-pointers-held.is) (c.in_ok-own.own.source, c.in_ok-own.own.compared, refl) (nothing_keeps c.args.kinds.now _ c.args.held.now (f.not_taken c.args.here.node is_ref false (sym c.taken_by.ensures ∙ c.in-None.is))) c.in_ok-push_access-in-None.ensures
    (silent_reads c.args.decls.now _ c.args.here _ _ _ _ (act.Atomic c.place-at.result c.atomic_of.result) _ (c.in_ok-own.own.source ∷ c.in_ok-own.own.compared ∷ []) c.in_ok-own.ensures.holds.grows (entry_used c.args.kinds.now c.args.insn.now _ c.args.insn.now.dst _ _ c.requires.op refl c.in-Entry.is)
    (atomic_aligned c.args.decls.now c.args.insn.now c.in-Entry.map c.in-Entry.o c.place-at.result _ c.args.insn.now.offset c.args.size c.atomic_of.result (subst IsSized c.requires.op c.requires.insn.size) c.atomic_of.ensures f.placed (to_z-of_z {w = w16} (record { sfits = c.requires.insn.offset_range.sfits })) c.place-at.ensures) (λ k. refl) (λ k. refl))

pub returns-in_ok-c-in-Some-clause-points : goal.returns-in_ok-c-in-Some-clause-points
returns-in_ok-c-in-Some-clause-points c = λ is_ref allowed.
    let f = atomic_allowed c.args.decls.now c.args.kinds.now c.args.insn.now c.args.size c.in-Entry.map c.in-Entry.o c.requires.op c.in-Entry.is allowed in
    let to = sym c.taken_by.ensures ∙ c.in-Some.is in
    access_points c.args.decls.now c.args.insn.now c.args.here c.args.kinds.now _ c.args.held.now _ _ _ (pointed c.args.pointers.now) _ _ _ _ _ (act.Atomic c.place-at.result c.atomic_of.result) _ (c.in_ok-own.own.source ∷ c.in_ok-own.own.compared ∷ []) c.requires.insn.dst_register c.in-Entry.is
    (entry_seen c.args.pointers.now c.requires.inside c.requires.insn.dst_register c.in-Entry.is c.index-pointers-held.is) (c.in_ok-own.own.source, c.in_ok-own.own.compared, refl)
    (read_keeps _ _ c.args.kinds.now _ c.args.held.now c.in-Some.register c.in_ok-c-in-Some.c (f.taken c.args.here.node is_ref false c.in-Some.register to) (taken_small c.args.insn.now _ c.requires.insn.src_register to) c.are_whole.ensures.registers c.are_whole.ensures.register_cells) c.in_ok-c-in-Some.ensures.sites_are
    (access_reads c.args.decls.now _ c.args.here _ _ _ _ _ _ _ (act.Atomic c.place-at.result c.atomic_of.result) _ (c.in_ok-own.own.source ∷ c.in_ok-own.own.compared ∷ []) c.in_ok-c-in-Some.c _ c.in_ok-own.ensures.holds.grows c.in_ok-c-in-Some.ensures grown_none (entry_used c.args.kinds.now c.args.insn.now _ c.args.insn.now.dst _ _ c.requires.op refl c.in-Entry.is)
    (atomic_aligned c.args.decls.now c.args.insn.now c.in-Entry.map c.in-Entry.o c.place-at.result _ c.args.insn.now.offset c.args.size c.atomic_of.result (subst IsSized c.requires.op c.requires.insn.size) c.atomic_of.ensures f.placed (to_z-of_z {w = w16} (record { sfits = c.requires.insn.offset_range.sfits })) c.place-at.ensures)
    (ap (λ (n : ℕ). 8 * n) (c.bytes_in.ensures.value ∙ atomic_bytes c.args.insn.now c.args.size c.atomic_of.result (subst IsSized c.requires.op c.requires.insn.size) c.atomic_of.ensures)) (taken_answers c.args.insn.now c.args.size c.atomic_of.result c.in-Some.register c.atomic_of.ensures to) (λ k. refl) (λ k. refl))
