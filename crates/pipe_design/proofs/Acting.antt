-- What the parts of actions say has the operands that the parts of maps take, and what stands for maps is what the parts of places take.
use Rattle.std.proofs.Common.{◌≡◌, ◌∙◌, ℕ, ◌<◌, All, List, length, map as map_list, get_or, sym, ap, subst, arith}
use Rattle.std.proofs.lemmas.List.{length-map}
use Rattle.block_core.proofs.list_laws_laws.PlaceLaws.{some_of}
use Rattle.block_core.specs.declared.name.Name.{Name}
use Rattle.overlay_net.specs.cell_nets.Operands.{IsOperand}
use Rattle.commit_net.specs.read_net.declared.sites.MapNets.{MapNets}
use Rattle.commit_net.specs.read_net.declared.sites.OwnSite.{OwnSite}
use Rattle.commit_net.specs.declared.map_block.form.MapForm.{MapForm}
use Rattle.control_net.specs.declared.ring_net.shape.ControlShape.{ControlShape}
use Rattle.turn_net.specs.declared.target_net.targets.TargetPart.{TargetPart}
use Rattle.turn_net.specs.Nets.{number_of}
use Rattle.pipe_net.specs.declared.parts.Part.{Part}
use Rattle.pipe_parts.specs.declared.pipe_draft.pipeline_plan.PipelinePlan.{PipelinePlan}
use Rattle.pipe_parts.specs.declared.pipe_draft.places.StageSources.{StageSources}
use Rattle.pipe_parts.specs.PipeDraft.PipelinePlan.{program_in, decls_in}
use Rattle.pipe_parts.specs.SlotParts.Nets.{AreMapNets}
use Rattle.pipe_parts.specs.declared.turn_parts.parts.ActionParts.{ActionParts}
use Rattle.pipe_parts.specs.TurnParts.Parts.{AreActionPartsIn}
use Rattle.pipe_design.specs.MapParts.Operations.{AreTargetsOn, IsCommitting}
use Rattle.pipe_design.specs.declared.map_parts.committing.MapCommits.{MapCommits}
use Rattle.pipe_design.specs.declared.map_parts.committing.Committing.{Committing}
use Rattle.place_parts.specs.Maps.{AreMapsFor}
use Rattle.pipe_design.specs.Parts.{SaysAll, AreMapCommits}

pub many_forms : (d : PipelinePlan) → length (decls_in d) ≡ length d.forms.items
many_forms d = length-map d.forms.items (λ (f : MapForm). f.decl)

-- ---- what stands for maps
pub maps_for : (d : PipelinePlan) (nets : List (MapNets (Name Part))) → AreMapNets d nets → AreMapsFor d nets
maps_for d nets are = record {
  count = are.count;
  each = λ m n f lt. let h = are.each m n lt f in record { is = h.is; bits = h.bits; decl = h.decl; none = h.none; uncounted = h.uncounted };
}

-- ---- what is said of operations
module _ (d : PipelinePlan) (c : ControlShape) (at : StageSources) (nets : List (MapNets (Name Part))) (action : ActionParts) (are : AreActionPartsIn d c at nets action) (are_nets : AreMapNets d nets) where
  targets_on : (m : ℕ) (t : TargetPart Part) → m < length d.forms.items → AreTargetsOn (program_in d) m (get_or action.targets.items m t).targets.items
  targets_on m t lt =
      let f = some_of d.forms.items m lt in
      let n = some_of nets m (omega (arith, lt, are_nets.count)) in
      let h = (are.targets.each m n f t lt).has in
      record {
        count = h.count ∙ sym (length-map (are.own m) (λ (s : OwnSite (Name Part)). s.site)) ∙ ap length (are.owns m lt).sites;
        operands = h.operands;
      }

  pub says_all : SaysAll d action
  says_all = record {
    chosen = record { count = are.action.is.count ∙ sym (length-map action.records.items number_of) ∙ ap length are.records.sites; operands = are.action.is.operands };
    commits = are.commits.is.many;
    count = are.targets.count;
    targets = targets_on;
  }

-- ---- so have those that are passed on
pub committing : (d : PipelinePlan) (action : ActionParts) (c : Committing) → SaysAll d action → c.chosen.now ≡ action.action.chosen.items → AreMapCommits d action c.maps.now → IsCommitting d c
committing d action c says chosen maps =
    let many = many_forms d in
    record {
      chosen = record { count = ap length chosen ∙ says.chosen.count; operands = subst (All IsOperand) (sym chosen) says.chosen.operands };
      maps = maps.count ∙ sym many;
      targets = λ m on lt.
          let within : m < length d.forms.items = omega (arith, lt, many) in
          let t = some_of action.targets.items m (omega (arith, within, says.count)) in
          subst (AreTargetsOn (program_in d) m) (sym ((maps.each m on within).targets t)) (says.targets m t within);
    }
