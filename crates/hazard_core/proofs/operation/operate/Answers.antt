use Rattle.std.proofs.Common.{◌∙◌, ℕ, ap, sym, subst, length, map as map_list}
use Rattle.std.proofs.lemmas.List.{length-map}
use Rattle.cell_core.specs.Formed.{HasWords}
use Rattle.hazard_core.specs.Tables.{decl_of}
use Rattle.xdp_maps.specs.declared.decl.MapDecl.{MapDecl}
use Rattle.cell_core.specs.Sites.{operation_with}
use Rattle.hazard_core.specs.StageValues.{stage_value}
use Rattle.hazard_core.specs.Overlay.{value_as}
use Rattle.hazard_core.proofs.Lengths.{value_length}
use Rattle.hazard_core.proofs.operation.operate.Goals as goal

pub returns-clause-count : goal.returns-clause-count
returns-clause-count c =
    let s = c.args.site.now in
    let v = stage_value c.args.held.now in
    let P : ℕ → Type 0 = λ n. HasWords (decl_of c.args.tables.now.decls s.map).value s.act n in
    let words = subst P (sym (length-map s.operands.items v)) c.requires.value in
    λ e. ap length c.operate_as.ensures
    ∙ ap (λ (d : MapDecl). length (value_as (operation_with d s.act (map_list v s.key.items) (map_list v s.operands.items)) c.args.value.now)) c.decl.ensures.decl
    ∙ value_length (decl_of c.args.tables.now.decls s.map) s.act (map_list v s.key.items) (map_list v s.operands.items) c.args.value.now words c.requires.inside e ∙ sym e
