use Rattle.std.proofs.Common.{◌∙◌, ◌++◌, ◌∷◌, [], false, refl, sym, ap, take, List, ℕ}
use Rattle.operator_cells.proofs.MakingLaws.{grown}
use Rattle.site_cells.proofs.Answered.{inside_among}
use Rattle.site_cells.proofs.Allowed.{update_allowed}
use Rattle.site_cells.proofs.Changes.{update_made}
use Rattle.site_cells.proofs.ChangeRows.{update_rows}
use Rattle.site_cells.proofs.Points.{call_used, change_points}
use Rattle.site_cells.proofs.change.operate_update.Goals as goal

pub region_words-requires-2-clause-inside : goal.region_words-requires-2-clause-inside
region_words-requires-2-clause-inside c =
    (c.args.decls.now, c.requires.inside.0 ++ [], inside_among c.args.decls.now _ _ c.requires.inside.0 [] c.args.held.now c.args.kinds.now c.in_ok-key.ensures.made.grows.longer c.requires.inside.1)

pub returns-clause-operates : goal.returns-clause-operates
returns-clause-operates c = λ ps is_ref taken allowed inside.
    update_made c.args.decls.now c.args.insn.now c.args.here is_ref taken c.args.kinds.now c.args.held.now _ _ _ _ _ ps _ _ _ _ _ _ _ _ _ _ _ _ _ _ c.requires.op c.requires.helper allowed c.requires.guard c.are_whole.ensures.register_cells inside
    refl refl c.key_bytes.ensures c.value_bytes.ensures c.map_in-map.ensures c.deref-2.ensures (c.deref-3.ensures.value ∙ c.in_ok-operands.ensures ∙ ap (λ (xs : List ℕ). c.in_ok-flags.flags ∷ xs) c.deref.ensures)
    (c.in_ok-key.ensures.holds c.args.decls.now ps c.args.here.node) (c.in_ok-value.ensures.holds c.args.decls.now ps c.args.here.node) c.in_ok-flags.ensures.number c.in_ok-c.ensures

pub returns-clause-rows : goal.returns-clause-rows
returns-clause-rows c = λ ps is_ref allowed inside.
    update_rows c.args.decls.now c.args.insn.now c.args.here is_ref c.args.kinds.now c.args.held.now _ _ _ _ _ ps _ _ _ _ _ _ _ _ _ _ _ _ _ _ c.requires.op c.requires.helper allowed c.are_whole.ensures.register_cells
    refl refl c.key_bytes.ensures c.value_bytes.ensures c.map_in-map.ensures c.deref-2.ensures refl (c.deref-3.ensures.value ∙ c.in_ok-operands.ensures ∙ ap (λ (xs : List ℕ). c.in_ok-flags.flags ∷ xs) c.deref.ensures)
    (c.in_ok-key.ensures.rises ps) (c.in_ok-value.ensures.rises ps) (c.in_ok-flags.ensures.rises ps) c.in_ok-c.ensures

pub returns-clause-points : goal.returns-clause-points
returns-clause-points c = λ ps is_ref allowed.
    let f = update_allowed c.args.decls.now c.args.kinds.now c.args.insn.now c.requires.op c.requires.helper allowed in
    change_points c.args.decls.now c.args.insn.now c.args.here is_ref c.args.kinds.now _ c.args.held.now _ _ _ ps _ _ f.0 _ _ _ _ _ _ refl (f.7 c.args.here.node is_ref false) (c.map_in-map.ensures f.0 f.1) c.are_whole.ensures.register_cells
    (call_used c.args.kinds.now c.args.insn.now f.0 c.requires.op f.1) (grown c.in_ok-key.ensures.made.grows (grown c.in_ok-value.ensures.made.grows c.in_ok-flags.ensures.made.0)) c.in_ok-c.ensures
    (sym (ap (λ (xs : List ℕ). take 1 xs) (c.deref-3.ensures.value ∙ c.in_ok-operands.ensures)))
