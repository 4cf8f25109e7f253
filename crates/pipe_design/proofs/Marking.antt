-- What marks are made for, of a pipeline plan.
use Rattle.std.specs.Prelude.{◌^◌}
use Rattle.std.proofs.Common.{◌≡◌, ◌∙◌, ℕ, ◌+◌, ◌<◌, ◌≤◌, All, List, length, get_or, sym, ap, subst, arith}
use Rattle.std.proofs.lemmas.List.{length-map, get_or_default}
use Rattle.hazard_core.specs.xdp_maps.declared.decl.MapDecl.{MapDecl}
use Rattle.block_core.specs.declared.name.Name.{Name}
use Rattle.hazard_core.specs.cell_core.Formed.{AllFit}
use Rattle.hazard_core.specs.cell_core.Sites.{ProgramView, site_at}
use Rattle.hazard_core.specs.cell_core.View.{program_of, site_of}
use Rattle.overlay_net.specs.declared.site_operands.SiteNets.{SiteNets}
use Rattle.overlay_net.specs.SiteOperands.Sites.{SiteOperands}
use Rattle.stage_net.specs.SiteTable.Sites.{operand_at}
use Rattle.pipe_net.specs.declared.parts.Part.{Part}
use Rattle.pipe_net.specs.declared.parts.Sizes.{Sizes}
use Rattle.pipe_net.specs.Parts.{IsSmall}
use Rattle.pipe_parts.specs.declared.pipe_draft.pipeline_plan.PipelinePlan.{PipelinePlan}
use Rattle.pipe_parts.specs.declared.pipe_draft.places.StageSources.{StageSources}
use Rattle.pipe_parts.specs.PipeDraft.PipelinePlan.{program_in, plan_in, IsPipelinePlan}
use Rattle.pipe_parts.specs.PipeDraft.Places.{ArePlaces}
use Rattle.place_parts.specs.declared.mark_parts.layout.MarkLayout.{MarkLayout}
use Rattle.place_parts.specs.MarkParts.Places as marks
use Rattle.place_parts.specs.MarkParts.Places.{IsMarkLayout, HaveOperands}
use Rattle.pipe_design.specs.Marks.{IsMarkLayoutOf}

module _ (d : PipelinePlan) (is : IsPipelinePlan d) (f : MarkLayout) (of : IsMarkLayoutOf d f) where
  program : marks.program_in f ≡ program_in d
  program = ap program_of of.program

  pub mark_layout : IsMarkLayout f
  mark_layout = record {
    small = subst IsSmall (sym of.sizes) is.small;
    few = omega (arith, ap (λ q. length q.sites.items) of.program, is.few_sites, length-map d.program.now.sites.items site_of);
    fits = subst (λ (q : ProgramView). AllFit f.decls.now q.sites) (sym program) (subst (λ ds. AllFit ds (program_in d).sites) (sym of.decls) is.ready.fits);
  }

  -- a place up to the commit place
  pub up : (k : ℕ) → k < d.sizes.commit + 1 → k ≤ (plan_in d).last
  up k lt = omega (arith, lt, ap (λ (z : Sizes). z.commit) is.sizes, is.ready.commit)

  module _ (places : List StageSources) (stand : ArePlaces d places) (k : ℕ) (b : StageSources) (le : k ≤ (plan_in d).last) where
    abbrev here : StageSources
    here = get_or places k b

    has : (j : ℕ) (s : SiteNets (Name Part)) → j < length here.sites.items → j < length (program_in d).sites
    has j s lt = omega (arith, lt, (stand.each k b le).sites.count)

    pub have_operands : HaveOperands f here.sites.items
    have_operands =
        let h = stand.each k b le in
        let tables = h.tables.behind in
        record {
          count = h.sites.count ∙ ap (λ (q : ProgramView). length q.sites) (sym program);
          operands = λ j s lt. (h.sites.each j s (has j s lt)).operands d.bits tables.table.table tables.pointers.pointers;
          keys = λ j s lt.
              ap (λ (x : SiteOperands (Name Part)). length x.key) (h.sites.each j s (has j s lt)).are ∙ length-map (site_at (program_in d).sites j).key (operand_at here.tables.table.items)
              ∙ ap (λ (q : ProgramView). length (site_at q.sites j).key) (sym program);
        }

-- ---- the operands that are read are those of the place
pub sites_at : (places : List StageSources) (k : ℕ) (x b : StageSources) (sites : List (SiteNets (Name Part))) → k < length places → sites ≡ (get_or places k x).sites.items → sites ≡ (get_or places k b).sites.items
sites_at places k x b sites lt h = h ∙ ap (λ (y : StageSources). y.sites.items) (get_or_default places k x b lt)
