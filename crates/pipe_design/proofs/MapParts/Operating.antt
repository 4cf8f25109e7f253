-- What stands for the operations on a map are operands, and fits its values.
use Rattle.std.specs.Prelude.{◌==◌, slice_index}
use Rattle.std.proofs.Common.{◌≡◌, ◌∙◌, ℕ, zero, suc, ◌<◌, Bool, All, List, [], ◌∷◌, ◌++◌, length, get_or, sym, ap, subst, arith}
use Rattle.std.proofs.lemmas.Bool.{eqb-true}
use Rattle.std.proofs.lemmas.List.{length-map}
use Rattle.std.proofs.lemmas.List.Elements.{All-cons, All-filter, filter_passes}
use Rattle.hazard_core.specs.xdp_maps.declared.decl.MapDecl.{MapDecl}
use Rattle.block_core.specs.declared.name.Name.{Name}
use Rattle.hazard_core.specs.cell_core.declared.site.Act.{Act}
use Rattle.hazard_core.specs.cell_core.Formed.{HasWords, IsInside, FitsMap}
use Rattle.hazard_core.specs.cell_core.Sites.{ProgramView, site_at}
use Rattle.overlay_net.specs.cell_nets.declared.operand.Operand.{Operand}
use Rattle.overlay_net.specs.cell_nets.declared.operand.Operand.TheVariants.{Known}
use Rattle.overlay_net.specs.cell_nets.Operands.{IsOperand}
use Rattle.hazard_core.specs.Tables.{decl_of}
use Rattle.overlay_net.specs.ValueNet.Words.{IsAligned}
use Rattle.overlay_net.specs.declared.site_operands.SiteNets.{SiteNets}
use Rattle.overlay_net.specs.SiteOperands.Sites.{SiteOperands, operands_of, all_of}
use Rattle.stage_net.specs.SiteTable.Sites.{operand_at}
use Rattle.commit_net.specs.declared.choosing.CommitNets.{CommitNets}
use Rattle.commit_net.specs.Choosing.{HasOperands}
use Rattle.commit_net.specs.Words.{IsFitting}
use Rattle.commit_net.specs.declared.map_block.form.MapForm.{MapForm}
use Rattle.turn_net.specs.Actions.{record_sites}
use Rattle.turn_net.specs.declared.target_net.targets.Target.{Target}
use Rattle.turn_net.specs.TargetNet.Targets as targets
use Rattle.pipe_net.specs.declared.parts.Part.{Part}
use Rattle.pipe_net.specs.PipeTurns.Maps.{records_on}
use Rattle.pipe_parts.specs.declared.pipe_draft.pipeline_plan.PipelinePlan.{PipelinePlan}
use Rattle.pipe_parts.specs.declared.pipe_draft.places.StageSources.{StageSources}
use Rattle.pipe_parts.specs.PipeDraft.PipelinePlan.{program_in, plan_in, decls_in, IsPipelinePlan}
use Rattle.pipe_parts.specs.PipeDraft.Places.{AreStageSources}
use Rattle.pipe_parts.proofs.TurnParts.SiteLaws.{record_known}
use Rattle.pipe_design.specs.MapParts.Operations.{AreChosen, AreTargetsOn, IsOperation, AreOperations}
use Rattle.pipe_design.proofs.MapParts.Forming.{decl_is}

-- ---- record sites
abbrev pub is_on : ProgramView → ℕ → ℕ → Bool
is_on p m j = (site_at p.sites j).map == m

module _ (p : ProgramView) (m n : ℕ) (there : n < length (records_on p m)) where
  abbrev pub site_on : ℕ
  site_on = slice_index (records_on p m) n

  pub on_below : site_on < length p.sites
  on_below = All-filter (is_on p m) (λ j. j < length p.sites) (record_sites p) (record_known p) n 0 there

  pub on_map : (site_at p.sites site_on).map ≡ m
  on_map = eqb-true (site_at p.sites site_on).map m (filter_passes (is_on p m) (record_sites p) n 0 there)

-- ---- what an operation writes
pub record IsTarget (t : Target (Name Part)) : Type 0 where
  pub slot : IsOperand t.slot
  pub makes : IsOperand t.makes

pub target_at : (ts : List (Target (Name Part))) → All IsOperand (targets.all_of ts) → All IsTarget ts
target_at [] all n d lt = absurd (omega (arith, lt))
target_at (t ∷ ts) all zero d lt = record { slot = all 0 t.slot (omega arith); makes = all 1 t.slot (omega arith) }
target_at (t ∷ ts) all (suc n) d lt = target_at ts (λ k e l. all (suc (suc k)) e (omega (arith, l))) n d (omega (arith, lt))

no_target : Target (Name Part)
no_target = record { slot = Known 0; makes = Known 0 }

module _ (d : PipelinePlan) (is : IsPipelinePlan d) (at : StageSources) (b : AreStageSources d (plan_in d).commit at) where
  abbrev p : ProgramView
  p = program_in d

  -- the operands of a site
  nets_at : (j : ℕ) → j < length p.sites → (s : SiteNets (Name Part)) → All IsOperand (all_of (operands_of (get_or at.sites.items j s)))
  nets_at j lt s = (b.sites.each j s lt).operands d.bits b.tables.behind.table.table b.tables.behind.pointers.pointers

  words_at : (j : ℕ) → j < length p.sites → (s : SiteNets (Name Part)) → length (get_or at.sites.items j s).operands.items ≡ length (site_at p.sites j).operands
  words_at j lt s = ap (λ (o : SiteOperands (Name Part)). length o.operands) (b.sites.each j s lt).are ∙ length-map (site_at p.sites j).operands (operand_at at.tables.table.items)

  module _ (chosen : List (Operand (Name Part))) (outs : List (Target (Name Part))) (m n : ℕ) (c : CommitNets (Name Part)) (x : IsOperation p at.sites.items chosen outs m n c) (there : n < length (records_on p m)) where
    known : site_on p m n there < length p.sites
    known = on_below p m n there

    asked : All IsOperand (c.nets.now.key.items ++ c.nets.now.operands.items)
    asked k o lt =
        let s = c.nets.now in
        let all = subst (λ (q : SiteNets (Name Part)). All IsOperand (all_of (operands_of q))) (sym (x.nets s)) (nets_at (site_on p m n there) known s) in
        all (suc (suc (suc (suc k)))) o (omega (arith, lt))

    pub has_operands : AreChosen p chosen → AreTargetsOn p m outs → HasOperands c
    has_operands ch ts =
        let t = target_at outs ts.operands n no_target (omega (arith, there, ts.count)) in
        let o : IsOperand c.chosen = subst IsOperand (sym (x.chosen_is (Known 0))) (ch.operands x.place (Known 0) (omega (arith, x.there, ch.count))) in
        let s : IsOperand c.target = subst IsOperand (sym (x.target no_target)) t.slot in
        let k : IsOperand c.makes = subst IsOperand (sym (x.makes no_target)) t.makes in
        let words = c.nets.now.key.items ++ c.nets.now.operands.items in
        All-cons IsOperand c.chosen (c.target ∷ c.makes ∷ words) o (All-cons IsOperand c.target (c.makes ∷ words) s (All-cons IsOperand c.makes words k asked))

    fits_map : (f : MapForm) → decl_of (decls_in d) m ≡ f.decl → IsFitting f.decl c
    fits_map f e =
        let j = site_on p m n there in
        let s = c.nets.now in
        let fit : FitsMap (decls_in d) (site_at p.sites j) = is.ready.fits j known in
        let same : decl_of (decls_in d) (site_at p.sites j).map ≡ f.decl = ap (decl_of (decls_in d)) (on_map p m n there) ∙ e in
        let long : length c.nets.now.operands.items ≡ length (site_at p.sites j).operands = ap (λ (q : SiteNets (Name Part)). length q.operands.items) (x.nets s) ∙ words_at j known s in
        let act : (site_at p.sites j).act ≡ c.act = sym x.act in
        record {
          aligned = subst IsAligned act (is.ready.aligned j known);
          words = subst (λ k. HasWords f.decl.value c.act k) (sym long) (subst (λ (a : Act). HasWords f.decl.value a (length (site_at p.sites j).operands)) act (subst (λ (q : MapDecl). HasWords q.value (site_at p.sites j).act (length (site_at p.sites j).operands)) same fit.value));
          inside = subst (λ (a : Act). IsInside f.decl.value a) act (subst (λ (q : MapDecl). IsInside q.value (site_at p.sites j).act) same fit.inside);
        }

  module _ (chosen : List (Operand (Name Part))) (outs : List (Target (Name Part))) (m : ℕ) (all : List (CommitNets (Name Part))) (are : AreOperations p at.sites.items chosen outs m all) where
    pub have_operands : AreChosen p chosen → AreTargetsOn p m outs → All HasOperands all
    have_operands ch ts n c lt = has_operands chosen outs m n (get_or all n c) (are.each n c lt) (omega (arith, lt, are.count)) ch ts

    pub fit_map : (known : m < length d.forms.items) (f : MapForm) → All (IsFitting (get_or d.forms.items m f).decl) all
    fit_map known f n c lt = fits_map chosen outs m n (get_or all n c) (are.each n c lt) (omega (arith, lt, are.count)) (get_or d.forms.items m f) (decl_is d is m known f)
