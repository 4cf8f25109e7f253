-- What the operations at record sites write.
use Rattle.std.specs.Prelude.{Contains, ◌==◌}
use Rattle.std.specs.declared.alloc.Global.{Global}
use Rattle.std.specs.declared.vec.Vec.{Vec}
use Rattle.std.proofs.Common.{◌≡◌, ◌∙◌, ℕ, zero, suc, ◌<◌, All, List, [], ◌∷◌, length, get_or, sym, ap, subst, arith}
use Rattle.std.proofs.lemmas.Bool.{eq-eqb}
use Rattle.std.proofs.lemmas.List.{get_or-map, length-map}
use Rattle.std.proofs.lemmas.List.Elements.{All-cons}
use Rattle.block_core.proofs.list_laws_laws.PlaceLaws.{some_of}
use Rattle.block_core.specs.declared.name.Name.{Name}
use Rattle.hazard_core.specs.cell_core.Sites.{site_at}
use Rattle.overlay_net.specs.cell_nets.declared.operand.Operand.{Operand}
use Rattle.overlay_net.specs.cell_nets.Operands.{IsOperand, IsNarrow}
use Rattle.overlay_net.proofs.cell_nets_laws.StepNets.StepLaws.{narrow_bits}
use Rattle.commit_net.specs.declared.target.TakenSlot.{TakenSlot}
use Rattle.read_net.specs.declared.sites.OwnSite.{OwnSite}
use Rattle.read_net.specs.declared.sites.MapNets.{MapNets}
use Rattle.read_net.specs.Sites.{sites_of}
use Rattle.commit_net.specs.declared.map_block.form.MapForm.{MapForm}
use Rattle.hazard_core.specs.Tables.{decl_of}
use Rattle.turn_net.specs.declared.nets.RecordNets.{RecordNets}
use Rattle.turn_net.specs.Actions.{record_sites}
use Rattle.turn_net.specs.Nets.{site_read}
use Rattle.turn_net.specs.declared.target_net.targets.Target.{Target}
use Rattle.turn_net.specs.declared.target_net.targets.TargetPart.{TargetPart}
use Rattle.turn_net.specs.TargetNet.Targets.{all_of, HasTargets}
use Rattle.pipe_net.specs.declared.parts.Part.{Part}
use Rattle.pipe_parts.specs.declared.pipe_draft.pipeline_plan.PipelinePlan.{PipelinePlan}
use Rattle.pipe_parts.specs.declared.pipe_draft.places.StageSources.{StageSources}
use Rattle.pipe_parts.specs.PipeDraft.PipelinePlan.{program_in, decls_in, IsPipelinePlan}
use Rattle.pipe_parts.specs.PipeDraft.Places.{AreStageSources}
use Rattle.pipe_parts.specs.TurnParts.Sites.{AreOwnOf, list_at}
use Rattle.pipe_parts.specs.TurnParts.Records.{AreTargetParts, HaveTargets, targets_at, IsTargetAt, AreRecordsOf, IsRecordAt, AreRecordsAt}
use Rattle.pipe_parts.proofs.TurnParts.Listing.{in_filter}
use Rattle.pipe_parts.proofs.TurnParts.Siting.{no_form, maps_there, operands, nets_at}

-- ---- the list of a map
pub list_is : (lists : List (Vec (OwnSite (Name Part)) Global)) (m : ℕ) (r : Vec (OwnSite (Name Part)) Global) → m < length lists → list_at lists m ≡ (get_or lists m r).items
list_is lists m r lt = get_or-map (λ (x : Vec (OwnSite (Name Part)) Global). x.items) lists m r [] lt

pub targets_are : (rs : List (TargetPart Part)) (m : ℕ) (r : TargetPart Part) → m < length rs → targets_at rs m ≡ (get_or rs m r).targets.items
targets_are rs m r lt = get_or-map (λ (x : TargetPart Part). x.targets.items) rs m r [] lt

-- as they are read, by a number that is the same
pub list_read :
    (lists : List (Vec (OwnSite (Name Part)) Global)) (k m : ℕ) (r : Vec (OwnSite (Name Part)) Global) (owns : List (OwnSite (Name Part))) → m < length lists → k ≡ m → r ≡ get_or lists k r → owns ≡ r.items → owns ≡ list_at lists m
list_read lists k m r owns lt same at is = is ∙ ap (λ (x : Vec (OwnSite (Name Part)) Global). x.items) at ∙ ap (λ n. (get_or lists n r).items) same ∙ sym (list_is lists m r lt)

pub targets_read :
    (rs : List (TargetPart Part)) (k m : ℕ) (r : TargetPart Part) (outs : List (Target (Name Part))) → m < length rs → k ≡ m → outs ≡ (get_or rs k r).targets.items → outs ≡ targets_at rs m
targets_read rs k m r outs lt same is = is ∙ ap (λ n. (get_or rs n r).targets.items) same ∙ sym (targets_are rs m r lt)

pub have_targets :
    (d : PipelinePlan) (maps : List (MapNets (Name Part))) (own : ℕ → List (OwnSite (Name Part))) (taken : List (TakenSlot (Name Part))) (rs : List (TargetPart Part)) → length maps ≡ length d.forms.items → AreTargetParts d maps own taken rs
    → HaveTargets d own rs
have_targets d maps own taken rs many are = record { count = are.count; each = λ m f r lt. (are.each m (some_of maps m (omega (arith, lt, many))) f r lt).has }

-- a record site is among those of its map
pub own_there : (d : PipelinePlan) (b : StageSources) (m j : ℕ) (owns : List (OwnSite (Name Part))) → AreOwnOf d b m owns → Contains (record_sites (program_in d)) j → (site_at (program_in d).sites j).map ≡ m → Contains (sites_of owns) j
own_there d b m j owns are there same =
    subst (λ js. Contains js j) (sym are.sites) (in_filter (λ i. (site_at (program_in d).sites i).map == m) (record_sites (program_in d)) j there (eq-eqb (site_at (program_in d).sites j).map m same))

-- it is not missed
pub found_there : (owns : List (OwnSite (Name Part))) (j : ℕ) → Contains (sites_of owns) j → ((n : ℕ) (o : OwnSite (Name Part)) → n < length owns → ¬ ((get_or owns n o).site ≡ j)) → ⊥
found_there owns j (i, lt, e) none =
    let within : i < length owns = omega (arith, lt, length-map owns (λ (o : OwnSite (Name Part)). o.site)) in
    let o : OwnSite (Name Part) = some_of owns i within in
    none i o within (sym (get_or-map (λ (x : OwnSite (Name Part)). x.site) owns i o j within) ∙ e)

-- ---- the operand
slot_has : (outs : List (Target (Name Part))) → All IsOperand (all_of outs) → (i : ℕ) (t : Target (Name Part)) → i < length outs → IsOperand (get_or outs i t).slot
slot_has [] h i t lt = absurd (omega (arith, lt))
slot_has (x ∷ xs) h zero t lt = h 0 x.slot (omega arith)
slot_has (x ∷ xs) h (suc i) t lt = slot_has xs (λ n a l. h (suc (suc n)) a (omega (arith, l))) i t (omega (arith, lt))

module _ (bits j : ℕ) (owns : List (OwnSite (Name Part))) (outs : List (Target (Name Part))) (slot : Operand (Name Part)) (has : HasTargets bits owns outs) (at : IsTargetAt owns outs j slot) where
  within : at.at < length outs
  within = omega (arith, at.there, has.count)

  pub target_operand : IsOperand slot
  target_operand = let t = some_of outs at.at within in subst IsOperand (at.target t) (slot_has outs has.operands at.at t within)

  pub target_narrow : IsNarrow bits slot
  target_narrow = let t = some_of outs at.at within in subst (IsNarrow bits) (at.target t) (narrow_bits bits (get_or outs at.at t).slot (has.slot_bits at.at t within))

-- ---- what stands for an operation
module _ (d : PipelinePlan) (own : ℕ → List (OwnSite (Name Part))) (rs : List (TargetPart Part)) (have : HaveTargets d own rs) where
  pub has_at : (m : ℕ) (f : MapForm) → m < length d.forms.items → HasTargets (get_or d.forms.items m f).bits (own m) (targets_at rs m)
  has_at m f lt =
      let there : m < length rs = omega (arith, lt, have.count) in
      let r = some_of rs m there in
      subst (HasTargets (get_or d.forms.items m f).bits (own m)) (sym (targets_are rs m r there)) (have.each m f r lt)

  pub record_is :
      IsPipelinePlan d → (k : ℕ) (b : StageSources) → AreStageSources d k b → (x : RecordNets (Name Part)) → x.number < length (program_in d).sites → x.act ≡ (site_at (program_in d).sites x.number).act
      → x.decl.now ≡ decl_of (decls_in d) (site_at (program_in d).sites x.number).map → x.nets.now ≡ get_or b.sites.items x.number x.nets.now
      → IsTargetAt (own (site_at (program_in d).sites x.number).map) (targets_at rs (site_at (program_in d).sites x.number).map) x.number x.target → IsRecordAt d b own (targets_at rs) x
  record_is is k b behind x lt act decl nets target =
      let m = (site_at (program_in d).sites x.number).map in
      let there : m < length d.forms.items = maps_there d m (is.ready.fits x.number lt).map in
      record {
        of = record {
          known = lt;
          act = sym act;
          decl = sym decl;
          operands =
              All-cons IsOperand x.target (site_read x) (target_operand (get_or d.forms.items m no_form).bits x.number (own m) (targets_at rs m) x.target (has_at m no_form there) target) (operands d is k b behind x.number lt x.nets.now nets);
          narrow = λ f. target_narrow (get_or d.forms.items m f).bits x.number (own m) (targets_at rs m) x.target (has_at m f there) target;
        };
        nets = nets_at d is k b behind x.number lt x.nets.now nets;
        target = target;
      }

pub records_of : (d : PipelinePlan) (b : StageSources) (own : ℕ → List (OwnSite (Name Part))) (outs : ℕ → List (Target (Name Part))) (rs : List (RecordNets (Name Part))) → AreRecordsAt d b own outs rs → AreRecordsOf d rs
records_of d b own outs rs are = record { sites = are.sites; each = λ i x lt. (are.each i x lt).of }
