-- What the part that says which operation commits takes.
use Rattle.std.specs.Prelude.{◌^◌, ◌≤◌}
use Rattle.std.specs.List.{AllPairs}
use Rattle.std.proofs.Common.{◌≡◌, ◌∙◌, ℕ, ◌<◌, All, List, length, get_or, sym, ap, subst, arith}
use Rattle.std.proofs.Math.Nat.{pow-le-pow_right}
use Rattle.std.proofs.lemmas.List.{get_or-map, length-map}
use Rattle.hazard_core.specs.xdp_maps.declared.decl.MapDecl.{MapDecl}
use Rattle.block_core.specs.declared.name.Name.{Name}
use Rattle.hazard_core.specs.cell_core.declared.site.Act.{Act}
use Rattle.hazard_core.specs.cell_core.Sites.{site_at}
use Rattle.overlay_net.specs.cell_nets.declared.operand.Operand.{Operand}
use Rattle.overlay_net.specs.cell_nets.declared.operand.Operand.TheVariants as operand
use Rattle.overlay_net.specs.cell_nets.Operands.{IsNarrow}
use Rattle.turn_net.specs.declared.nets.RecordNets.{RecordNets}
use Rattle.turn_net.specs.declared.nets.ActionShape.{ActionShape}
use Rattle.turn_net.specs.Nets.{number_of, sites_of, keeps_slot, keeps, HasOperands, IsKept, AreRecords}
use Rattle.pipe_net.specs.declared.parts.Part.{Part}
use Rattle.pipe_parts.specs.declared.pipe_draft.pipeline_plan.PipelinePlan.{PipelinePlan}
use Rattle.pipe_parts.specs.PipeDraft.PipelinePlan.{program_in, decls_in, IsPipelinePlan}
use Rattle.pipe_parts.specs.TurnParts.Sites.{IsActionShape, keeps_at}
use Rattle.pipe_parts.specs.TurnParts.Records.{AreRecordsOf}
use Rattle.pipe_parts.proofs.TurnParts.Siting.{no_form, maps_there, records_rise, records_few}

narrow_more : (a b : ℕ) (o : Operand (Name Part)) → a ≤ b → IsNarrow a o → IsNarrow b o
narrow_more a b (operand.Known n) le h = let more : 2 ^ a ≤ 2 ^ b = pow-le-pow_right (omega arith) le in omega (arith, h, more)
narrow_more a b (operand.Net n w) le h = omega (arith, h, le)
narrow_more a b (operand.Part n of from w) le h = omega (arith, h, le)

module _ (d : PipelinePlan) (is : IsPipelinePlan d) (rs : List (RecordNets (Name Part))) (are : AreRecordsOf d rs) where
  pub records_long : length rs ≡ length (sites_of rs)
  records_long = sym (length-map rs number_of)

  pub few : length rs ≤ length (program_in d).sites
  few = omega (arith, records_long, ap length are.sites, records_few (program_in d))

  pub have_operands : All HasOperands rs
  have_operands i r lt = (are.each i r lt).operands

  numbers_rise : AllPairs (λ i j. i < j) (sites_of rs)
  numbers_rise = subst (AllPairs (λ i j. i < j)) (sym are.sites) (records_rise (program_in d))

  rising : (i k : ℕ) (r : RecordNets (Name Part)) → i < k → k < length rs → (get_or rs i r).number < (get_or rs k r).number
  rising i k r lt within =
      let here : i < length rs = omega (arith, lt, within) in
      let h : get_or (sites_of rs) i 0 < get_or (sites_of rs) k 0 = numbers_rise i k 0 lt (omega (arith, within, records_long)) in
      omega (arith, h, get_or-map number_of rs i r 0 here, get_or-map number_of rs k r 0 within)

  pub records_are : AreRecords (program_in d) (decls_in d) rs
  records_are = record { each = λ i r lt. record { act = (are.each i r lt).act; decl = (are.each i r lt).decl }; rising = rising }

  pub keep_alike : All (λ r. keeps r ≡ keeps_at (program_in d) (decls_in d) r.number) rs
  keep_alike i r lt =
      let x = get_or rs i r in
      let h = are.each i r lt in
      ap (λ (a : Act). keeps_slot a x.decl.now.kind) (sym h.act) ∙ ap (λ (e : MapDecl). keeps_slot (site_at (program_in d).sites x.number).act e.kind) (sym h.decl)

  module _ (s : ActionShape) (shape : IsActionShape d s) where
    pub all_kept : All (IsKept s.slot_bits) rs
    all_kept i r lt =
        let x = get_or rs i r in
        let h = are.each i r lt in
        let m = (site_at (program_in d).sites x.number).map in
        let there : m < length d.forms.items = maps_there d m (is.ready.fits x.number h.known).map in
        λ k. narrow_more (get_or d.forms.items m no_form).bits s.slot_bits x.target (shape.slots m no_form there) (h.narrow no_form)
