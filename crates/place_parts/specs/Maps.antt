-- What stands for the maps of a pipeline plan.
use Rattle.std.specs.Prelude.{◌≡◌, ℕ, ◌<◌, List, [], length}
use Rattle.std.proofs.Common.{get_or}
use Rattle.hazard_core.specs.xdp_maps.declared.decl.MapKind.TheVariants.{Array}
use Rattle.block_core.specs.declared.name.Name.{Name}
use Rattle.overlay_net.specs.cell_nets.declared.operand.Operand.TheVariants.{Known}
use Rattle.commit_net.specs.declared.map_block.form.MapForm.{MapForm}
use Rattle.read_net.specs.declared.sites.MapNets.{MapNets}
use Rattle.read_net.specs.Sites.{IsMap}
use Rattle.pipe_net.specs.declared.parts.Part.{Part}
use Rattle.pipe_parts.specs.declared.pipe_draft.pipeline_plan.PipelinePlan.{PipelinePlan}

-- a map of this form, where the numbers of pointers have so many bits; of an array nothing is shown or counted
pub record IsMapFor (pointer_bits : ℕ) (f : MapForm) (n : MapNets (Name Part)) : Type 0 where
  pub is : IsMap n
  pub bits : n.bits ≡ pointer_bits
  pub decl : n.decl.now ≡ f.decl
  pub none : f.decl.kind ≡ Array → n.slots.now ≡ []
  pub uncounted : f.decl.kind ≡ Array → n.used ≡ Known 0

-- so of all maps
pub record AreMapsFor (d : PipelinePlan) (maps : List (MapNets (Name Part))) : Type 0 where
  pub count : length maps ≡ length d.forms.items
  pub each : (m : ℕ) (n : MapNets (Name Part)) (f : MapForm) → m < length d.forms.items → IsMapFor d.bits (get_or d.forms.items m f) (get_or maps m n)
