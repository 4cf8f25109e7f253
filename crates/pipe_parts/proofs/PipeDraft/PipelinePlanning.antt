-- What is worked out is a pipeline plan.
use Rattle.std.proofs.Common.{◌≡◌, ℕ, ◌≤◌, List, length, refl, arith}
use Rattle.hazard_core.specs.xdp_maps.declared.decl.MapDecl.{MapDecl}
use Rattle.hazard_core.specs.cell_core.Sites.{ProgramView, site_at}
use Rattle.overlay_net.specs.ValueNet.Words.{answers_number}
use Rattle.row_plan.specs.Plan.{Plan}
use Rattle.pipe_net.specs.Parts.{IsSmall}
use Rattle.pipe_parts.specs.PipeDraft.Program.{IsForPipe}
use Rattle.pipe_net.specs.PipePlaces.Layout.{load_sites}
use Rattle.pipe_parts.specs.PipeDraft.PipelinePlan.{most_sites, sizes_of}
use Rattle.pipe_parts.proofs.PipeDraft.Listing.{kept_few}

pub few_loads : (p : ProgramView) (loads : List ℕ) → loads ≡ load_sites p → length loads ≤ length p.sites
few_loads p loads are = kept_few (λ j. answers_number (site_at p.sites j).act) (length p.sites) loads are

pub are_small : (p : ProgramView) (plan : Plan) (decls : List MapDecl) → IsForPipe p plan decls → length p.sites ≤ most_sites → IsSmall (sizes_of p plan decls)
are_small p plan decls ready few = record {
  commit = ready.commit;
  last = omega (arith, ready.planned.few);
  maps = ready.maps;
  loads = omega (arith, few, few_loads p (load_sites p) refl);
}
