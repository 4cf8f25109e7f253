use Rattle.std.proofs.Common.{◌<◌, false, refl, sym, subst, arith, length}
use Rattle.std.specs.Prelude.{All}
use Rattle.operator_cells.specs.Making.{seen}
use Rattle.site_cells.proofs.Allowed.{delete_allowed}
use Rattle.site_cells.proofs.Changes.{delete_made}
use Rattle.site_cells.proofs.ChangeRows.{delete_rows}
use Rattle.site_cells.proofs.Points.{call_used, change_points}
use Rattle.site_cells.proofs.change.operate_delete.Goals as goal

pub change-requires-clause-key : goal.change-requires-clause-key
change-requires-clause-key c = subst (All (λ i. i < length (seen c.region_words.new.cells.items))) (sym c.deref.ensures) c.in_ok-key.ensures.made.there

pub change-requires-clause-pending : goal.change-requires-clause-pending
change-requires-clause-pending c = omega (arith, c.requires.pending, c.in_ok-key.ensures.made.grows.longer)

pub returns-clause-operates : goal.returns-clause-operates
returns-clause-operates c = λ ps is_ref taken allowed inside.
    delete_made c.args.decls.now c.args.insn.now c.args.here is_ref taken c.args.kinds.now c.args.held.now _ _ _ ps _ _ _ _ _ _ _ _ _ _ c.requires.op c.requires.helper allowed c.requires.guard c.are_whole.ensures.register_cells inside
    refl c.key_bytes.ensures c.map_in-map.ensures c.deref.ensures refl (c.in_ok-key.ensures.holds c.args.decls.now ps c.args.here.node) c.in_ok-c.ensures

pub returns-clause-rows : goal.returns-clause-rows
returns-clause-rows c = λ ps is_ref allowed inside.
    delete_rows c.args.decls.now c.args.insn.now c.args.here is_ref c.args.kinds.now c.args.held.now _ _ _ ps _ _ _ _ _ _ _ _ _ _ c.requires.op c.requires.helper allowed c.are_whole.ensures.register_cells
    refl c.key_bytes.ensures c.map_in-map.ensures c.deref.ensures refl refl (c.in_ok-key.ensures.rises ps) c.in_ok-c.ensures

pub returns-clause-points : goal.returns-clause-points
returns-clause-points c = λ ps is_ref allowed.
    let f = delete_allowed c.args.decls.now c.args.kinds.now c.args.insn.now c.requires.op c.requires.helper allowed in
    change_points c.args.decls.now c.args.insn.now c.args.here is_ref c.args.kinds.now _ c.args.held.now _ _ _ ps _ _ f.0 _ _ _ _ _ _ refl (f.4 c.args.here.node is_ref false) (c.map_in-map.ensures f.0 f.1) c.are_whole.ensures.register_cells
    (call_used c.args.kinds.now c.args.insn.now f.0 c.requires.op f.1) c.in_ok-key.ensures.made.grows c.in_ok-c.ensures refl
