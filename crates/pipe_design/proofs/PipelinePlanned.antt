-- The layout is one by the pipeline plan, and its answer stands after the last place.
use Rattle.std.proofs.Common.{◌≡◌, ◌∙◌, ℕ, suc, ◌<◌, ◌≤◌, List, [], length, map as map_list, get_or, refl, sym, ap, subst, arith}
use Rattle.std.proofs.lemmas.List.{length-map, get_or-map}
use Rattle.std.proofs.lemmas.List.Elements.{All-weaker}
use Rattle.block_core.proofs.list_laws_laws.PlaceLaws.{some_of}
use Rattle.block_core.specs.declared.name.Name.{Name}
use Rattle.overlay_net.specs.cell_nets.declared.operand.Operand.{Operand}
use Rattle.commit_net.specs.declared.map_block.form.MapForm.{MapForm}
use Rattle.row_net.specs.Table.{Stands}
use Rattle.row_net.specs.declared.place_net.outputs.AnswerByte.{AnswerByte}
use Rattle.commit_net.specs.declared.change_net.change.ChangePart.{ChangePart}
use Rattle.pipe_net.specs.declared.parts.Part.{Part}
use Rattle.pipe_net.specs.declared.parts.Sizes.{Sizes}
use Rattle.pipe_net.specs.Layout.{Layout, Table, ChangeView, IsSized}
use Rattle.pipe_net.specs.PipePlaces.Layout.{IsChanged}
use Rattle.pipe_parts.specs.declared.pipe_draft.pipeline_plan.PipelinePlan.{PipelinePlan}
use Rattle.pipe_parts.specs.declared.pipe_draft.places.StageSources.{StageSources}
use Rattle.pipe_parts.specs.PipeDraft.PipelinePlan.{program_in, plan_in, decls_in, IsPipelinePlan}
use Rattle.pipe_parts.specs.PipeDraft.Places.{ArePlaces}
use Rattle.pipe_parts.specs.PipeDraft.Laid.{IsPipelinePlanned, IsAnswered}
use Rattle.place_parts.specs.MarkParts.Laws.{IsChangeIn}
use Rattle.pipe_design.specs.Answer.{IsByteIn, AreOutputs}
use Rattle.pipe_design.specs.Layout.{Shown, IsShapeOf, view_of, no_change, layout}

module _ (d : PipelinePlan) (is : IsPipelinePlan d) (places : List StageSources) (stand : ArePlaces d places) (s : Shown) where
  abbrev l : Layout
  l = layout d places s

  pub many_forms : length (decls_in d) ≡ length d.forms.items
  many_forms = length-map d.forms.items (λ (f : MapForm). f.decl)

  pub many_maps : d.sizes.maps ≡ length (decls_in d)
  many_maps = ap (λ (z : Sizes). z.maps) is.sizes

  pub pipeline_planned : IsPipelinePlanned d places l
  pipeline_planned = record {
    build = refl;
    decls = refl;
    sizes = refl;
    bits = refl;
    slot_bits = λ m f lt. get_or-map (λ (x : MapForm). x.bits) d.forms.items m f 0 (omega (arith, many_forms, lt));
    flags = refl;
    kept = refl;
    sources = refl;
    constants = refl;
    plain = refl;
    made = λ k. refl;
    held = λ k. refl;
    made_pointers = λ k. refl;
    held_pointers = λ k. refl;
    table = λ k b le. get_or-map (λ (x : StageSources). x.tables.table.items) places k b [] (omega (arith, stand.count, le));
    pointers = λ k b le. get_or-map (λ (x : StageSources). x.tables.pointers.items) places k b [] (omega (arith, stand.count, le));
  }

  pub sized : IsShapeOf d s.shape → IsSized l
  sized shape = record {
    small = is.small;
    commit = ap (λ (z : Sizes). z.commit) is.sizes;
    last = ap (λ (z : Sizes). z.last) is.sizes;
    maps = many_maps;
    slots = shape.slots;
    stages = shape.stages;
    commits = shape.commit;
  }

  some_place : StageSources
  some_place = some_of places 0 (omega (arith, stand.count))

  abbrev last_table : Table
  last_table = (get_or places (plan_in d).last some_place).tables.table.items

  is_last : l.table (suc (plan_in d).last) ≡ last_table
  is_last = pipeline_planned.table (plan_in d).last some_place (omega arith)

  in_last : (k : ℕ) (a : Operand (Name Part)) → Stands last_table k a → Stands (l.table (suc (plan_in d).last)) k a
  in_last k a h = subst (λ t. Stands t k a) (sym is_last) h

  changed_in : (x : AnswerByte (Name Part)) → IsByteIn last_table (program_in d).frame x → IsChanged l x
  changed_in x h = record { byte = h.byte; changed = h.changed; at = h.at; stands = in_last h.byte.cell x.operand h.stands }

  pub answered : ((b : StageSources) → AreOutputs (program_in d) (get_or places (plan_in d).last b).tables.table.items s.answer) → IsAnswered l
  answered outputs =
      let h = outputs some_place in
      record {
        verdict = in_last (program_in d).verdict s.answer.verdict h.verdict;
        target = in_last (program_in d).target s.answer.target h.target;
        bytes = All-weaker (IsByteIn last_table (program_in d).frame) (IsChanged l) changed_in s.answer.bytes.items h.bytes;
      }

  -- what stands for a change is that of its part
  pub change_in : (m : ℕ) (c : ChangePart (Name Part)) → m < length s.changes → IsChangeIn l m (get_or s.changes m c)
  change_in m c lt =
      let e = get_or-map view_of s.changes m c no_change lt in
      record {
        slot = ap (λ (v : ChangeView). v.slot) e;
        key = ap (λ (v : ChangeView). v.key) e;
        presence = ap (λ (v : ChangeView). v.presence) e;
        any = ap (λ (v : ChangeView). v.any) e;
        by_host = ap (λ (v : ChangeView). v.by_host) e;
      }
