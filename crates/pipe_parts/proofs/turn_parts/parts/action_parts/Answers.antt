use Rattle.std.specs.List.{filter}
use Rattle.std.specs.declared.alloc.Global.{Global}
use Rattle.std.specs.declared.vec.Vec.{Vec}
use Rattle.std.proofs.Common.{◌∙◌, ℕ, ◌<◌, All, List, length, sym, subst, arith}
use Rattle.block_core.proofs.list_laws_laws.PlaceLaws.{some_of}
use Rattle.block_core.specs.declared.name.Name.{Name}
use Rattle.block_core.specs.View.{block_of}
use Rattle.overlay_net.specs.cell_nets.declared.operand.Operand.{Operand}
use Rattle.overlay_net.specs.cell_nets.Operands.{IsOperand}
use Rattle.commit_net.specs.declared.target.TakenSlot.{TakenSlot}
use Rattle.commit_net.specs.Targets.{slots_of}
use Rattle.read_net.specs.declared.sites.OwnSite.{OwnSite}
use Rattle.turn_net.specs.declared.target_net.targets.TargetPart.{TargetPart}
use Rattle.turn_net.specs.declared.nets.RecordNets.{RecordNets}
use Rattle.turn_net.specs.Actions.{record_sites}
use Rattle.pipe_net.specs.declared.parts.Part.{Part}
use Rattle.pipe_parts.specs.PipeDraft.PipelinePlan.{program_in, decls_in}
use Rattle.pipe_parts.specs.TurnParts.Sites.{AreOwnOf, AreOwnLists, list_at, keeps_at, taken_in}
use Rattle.pipe_parts.specs.TurnParts.Records.{AreTargetParts, HaveTargets, targets_at, AreRecordsOf, AreRecordsAt}
use Rattle.pipe_parts.specs.TurnParts.Parts.{IsActionPart, IsCommitsPart}
use Rattle.pipe_parts.proofs.TurnParts.Taking.{taken_operands}
use Rattle.pipe_parts.proofs.TurnParts.Aiming.{list_is, have_targets, records_of}
use Rattle.pipe_parts.proofs.turn_parts.parts.action_parts.Goals as goal

pub target_parts-requires-clause-owns : goal.target_parts-requires-clause-owns
target_parts-requires-clause-owns c = (c.args.at.now, subst (AreOwnLists c.args.pipeline_plan.now c.args.at.now) (sym c.deref.ensures.value) c.in_ok-owns.ensures)

pub target_parts-requires-clause-taken : goal.target_parts-requires-clause-taken
target_parts-requires-clause-taken c =
    let d = c.args.pipeline_plan.now in
    let s = c.action_shape-action_shape.result in
    subst (λ (ss : List (TakenSlot (Name Part))). All IsOperand (slots_of ss)) (sym (c.deref-2.ensures.value ∙ c.in_ok-taken.ensures))
    (taken_operands d.sizes s.slot_bits 1 (filter (keeps_at (program_in d) (decls_in d)) (record_sites (program_in d))) c.action_shape-action_shape.ensures.slot_bits)

pub records_at-requires-clause-targets : goal.records_at-requires-clause-targets
records_at-requires-clause-targets c =
    let d = c.args.pipeline_plan.now in
    let have = have_targets d c.args.maps.now (list_at c.deref.result.now) c.deref-2.result.now c.in_ok-targets.targets.items c.requires.maps.count c.in_ok-targets.ensures in
    subst (λ (lists : List (Vec (OwnSite (Name Part)) Global)). HaveTargets d (list_at lists) c.deref-4.result.now) (c.deref.ensures.value ∙ sym c.deref-3.ensures.value)
    (subst (λ (rs : List (TargetPart Part)). HaveTargets d (list_at c.deref.result.now) rs) (sym c.deref-4.ensures.value) have)

pub action_part-requires-clause-records : goal.action_part-requires-clause-records
action_part-requires-clause-records c =
    let d = c.args.pipeline_plan.now in
    let of = records_of d c.args.at.now (list_at c.deref-3.result.now) (targets_at c.deref-4.result.now) c.in_ok-records.records.items c.in_ok-records.ensures in
    subst (λ (rs : List (RecordNets (Name Part))). AreRecordsOf d rs) (sym c.deref-5.ensures.value) of

pub commits_part-requires-clause-records : goal.commits_part-requires-clause-records
commits_part-requires-clause-records c =
    let d = c.args.pipeline_plan.now in
    let of = records_of d c.args.at.now (list_at c.deref-3.result.now) (targets_at c.deref-4.result.now) c.in_ok-records.records.items c.in_ok-records.ensures in
    subst (λ (rs : List (RecordNets (Name Part))). AreRecordsOf d rs) (sym c.deref-6.ensures.value) of

pub commits_part-requires-clause-chosen : goal.commits_part-requires-clause-chosen
commits_part-requires-clause-chosen c = subst (λ (os : List (Operand (Name Part))). All IsOperand os) (sym c.deref-7.ensures.value) c.in_ok-action.ensures.is.operands

pub returns : goal.returns
returns c =
    let d = c.args.pipeline_plan.now in
    let b = c.args.at.now in
    let s = c.action_shape-action_shape.result in
    let lists = c.in_ok-owns.owns.items in
    let parts = c.in_ok-targets.targets.items in
    let rs = c.in_ok-records.records.items in
    let t = c.in_ok-action.action in
    let k = c.in_ok-commits.commits in
    let own : List (Vec (OwnSite (Name Part)) Global) → ℕ → List (OwnSite (Name Part)) = list_at in
    record {
      own = own lists;
      owns = λ m lt.
          let within : m < length lists = omega (arith, lt, c.in_ok-owns.ensures.count) in
          let r = some_of lists m within in
          subst (AreOwnOf d b m) (sym (list_is lists m r within)) (c.in_ok-owns.ensures.each m r lt);
      shape = c.action_shape-action_shape.ensures;
      targets =
          subst (λ (xs : List (Vec (OwnSite (Name Part)) Global)). AreTargetParts d c.args.maps.now (own xs) (taken_in d s) parts) c.deref.ensures.value
          (subst (λ (ss : List (TakenSlot (Name Part))). AreTargetParts d c.args.maps.now (own c.deref.result.now) ss parts) (c.deref-2.ensures.value ∙ c.in_ok-taken.ensures) c.in_ok-targets.ensures);
      records =
          subst (λ (xs : List (Vec (OwnSite (Name Part)) Global)). AreRecordsAt d b (own xs) (targets_at parts) rs) c.deref-3.ensures.value
          (subst (λ (ps : List (TargetPart Part)). AreRecordsAt d b (own c.deref-3.result.now) (targets_at ps) rs) c.deref-4.ensures.value c.in_ok-records.ensures);
      action = subst (λ (xs : List (RecordNets (Name Part))). IsActionPart d c.args.shape.now s xs t) c.deref-5.ensures.value c.in_ok-action.ensures;
      commits =
          subst (λ (xs : List (RecordNets (Name Part))). IsCommitsPart d xs t.chosen.items k.commits.items (block_of k.block)) c.deref-6.ensures.value
          (subst (λ (os : List (Operand (Name Part))). IsCommitsPart d c.deref-6.result.now os k.commits.items (block_of k.block)) c.deref-7.ensures.value c.in_ok-commits.ensures);
      host = c.in_ok-host.ensures;
    }
