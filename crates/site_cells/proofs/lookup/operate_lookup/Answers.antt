use Rattle.std.proofs.Common.{◌<◌, false, refl, sym, subst, arith, length}
use Rattle.std.specs.Prelude.{All}
use Rattle.operator_cells.specs.Making.{seen}
use Rattle.operator_cells.specs.HeldCells.RegisterCells.{pointed}
use Rattle.site_cells.proofs.Allowed.{lookup_allowed}
use Rattle.site_cells.proofs.Lookups.{lookup_made}
use Rattle.site_cells.proofs.Points.{call_used, lookup_points}
use Rattle.site_cells.proofs.LookupRows.{lookup_rows}
use Rattle.site_cells.proofs.lookup.operate_lookup.Goals as goal

pub look_up-requires-clause-key : goal.look_up-requires-clause-key
look_up-requires-clause-key c = subst (All (λ i. i < length (seen c.region_words.new.cells.items))) (sym c.deref.ensures) c.in_ok-key.ensures.made.there

pub look_up-requires-clause-pending : goal.look_up-requires-clause-pending
look_up-requires-clause-pending c = omega (arith, c.requires.pending, c.in_ok-key.ensures.made.grows.longer)

pub returns-clause-operates : goal.returns-clause-operates
returns-clause-operates c = λ is_ref taken allowed.
    lookup_made c.args.decls.now c.args.insn.now c.args.here is_ref taken c.args.kinds.now c.args.held.now _ _ _ _ _ _ _ _ _ _ _ _ _ c.requires.op c.requires.helper allowed c.requires.guard c.are_whole.ensures.register_cells c.requires.inside
    refl c.key_bytes.ensures c.map_in-map.ensures c.deref.ensures (c.in_ok-key.ensures.holds c.args.decls.now _ c.args.here.node) c.in_ok-c.ensures

pub returns-clause-rows : goal.returns-clause-rows
returns-clause-rows c = λ is_ref allowed.
    lookup_rows c.args.decls.now c.args.insn.now c.args.here is_ref c.args.kinds.now c.args.held.now _ _ _ _ _ _ _ _ _ _ _ _ _ c.requires.op c.requires.helper allowed c.are_whole.ensures.register_cells c.requires.inside
    refl c.key_bytes.ensures c.map_in-map.ensures c.deref.ensures c.in_ok-key.ensures.made.grows (c.in_ok-key.ensures.rises (pointed c.args.pointers.now.items)) c.in_ok-c.ensures

pub returns-clause-points : goal.returns-clause-points
returns-clause-points c = λ is_ref allowed.
    let f = lookup_allowed c.args.decls.now c.args.kinds.now c.args.insn.now c.requires.op c.requires.helper allowed in
    lookup_points c.args.decls.now c.args.insn.now c.args.here c.args.kinds.now _ c.args.held.now _ _ _ _ _ _ _ f.0 _ _ _ (f.4 c.args.here.node is_ref false) (c.map_in-map.ensures f.0 f.1) c.are_whole.ensures.register_cells (call_used c.args.kinds.now c.args.insn.now f.0 c.requires.op f.1) c.in_ok-key.ensures.made.grows c.in_ok-c.ensures
