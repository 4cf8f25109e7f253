use Rattle.std.proofs.Common.{◌≡◌, sym, subst}
use Rattle.std.proofs.lemmas.Result.{IfOk-weaker}
use Rattle.pipe_design.specs.declared.map_parts.committing.Committing.{Committing}
use Rattle.pipe_design.specs.Parts.{AreMapCommits}
use Rattle.pipe_design.proofs.Acting.{committing}
use Rattle.pipe_design.proofs.parts.maps_by.Goals as goal

pub map_parts-requires-clause-committing : goal.map_parts-requires-clause-committing
map_parts-requires-clause-committing c =
    let d = c.args.pipeline_plan.now in
    let action = c.args.action.now in
    let said : Committing = record { chosen = c.deref.result; maps = c.deref-2.result } in
    committing d action said c.requires.action c.deref.ensures.value (subst (AreMapCommits d action) (sym c.deref-2.ensures.value) c.in_ok-maps.ensures)

pub returns : goal.returns
returns c =
    let d = c.args.pipeline_plan.now in
    let action = c.args.action.now in
    let said : Committing = record { chosen = c.deref.result; maps = c.deref-2.result } in
    IfOk-weaker c.map_parts.result _ _
    (λ r are. record { committing = said; chosen = c.deref.ensures.value; said = subst (AreMapCommits d action) (sym c.deref-2.ensures.value) c.in_ok-maps.ensures; are = are })
    c.map_parts.ensures
