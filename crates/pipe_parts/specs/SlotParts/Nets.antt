-- What stands for the maps of a pipeline plan.
use Rattle.std.specs.Prelude.{◌≡◌, ℕ, ◌+◌, ◌<◌, List, [], length}
use Rattle.std.proofs.Common.{get_or}
use Rattle.block_core.specs.declared.name.Name.{Name}
use Rattle.hazard_core.specs.xdp_maps.declared.decl.MapKind.TheVariants.{Hash, Array}
use Rattle.overlay_net.specs.cell_nets.declared.operand.Operand.TheVariants.{Known, Net}
use Rattle.hash_net.specs.Hash.{count_name}
use Rattle.hash_net.specs.SlotNet.Slots.{slots_of}
use Rattle.hash_net.specs.SlotNet.Shown.{shown_slots}
use Rattle.read_net.specs.declared.sites.MapNets.{MapNets}
use Rattle.read_net.specs.Sites.{IsMap}
use Rattle.commit_net.specs.declared.map_block.form.MapForm.{MapForm}
use Rattle.pipe_net.specs.declared.parts.Part.{Part}
use Rattle.pipe_net.specs.declared.parts.Sizes.{Sizes}
use Rattle.pipe_net.specs.Parts as part
use Rattle.pipe_parts.specs.declared.pipe_draft.pipeline_plan.PipelinePlan.{PipelinePlan}

-- Map m of this form, where the numbers of pointers have so many bits: of a hash the wires that show its slots, and the register that counts those that are used. Of an array
-- nothing is shown or counted.
pub record IsMapOfForm (z : Sizes) (pointer_bits m : ℕ) (f : MapForm) (nets : MapNets (Name Part)) : Type 0 where
  pub is : IsMap nets
  pub decl : nets.decl.now ≡ f.decl
  pub bits : nets.bits ≡ pointer_bits
  pub slots : f.decl.kind ≡ Hash → slots_of nets.slots.now ≡ shown_slots (part.slots z m) f.decl
  pub used : f.decl.kind ≡ Hash → nets.used ≡ Net (count_name (part.own z m)) (f.bits + 1)
  pub none : f.decl.kind ≡ Array → nets.slots.now ≡ []
  pub uncounted : f.decl.kind ≡ Array → nets.used ≡ Known 0

-- map m of a pipeline plan
abbrev pub IsMapIn : PipelinePlan → ℕ → MapNets (Name Part) → Type 0
IsMapIn d m nets = (f : MapForm) → IsMapOfForm d.sizes d.bits m (get_or d.forms.items m f) nets

-- all its maps
pub record AreMapNets (d : PipelinePlan) (nets : List (MapNets (Name Part))) : Type 0 where
  pub count : length nets ≡ length d.forms.items
  pub each : (m : ℕ) (n : MapNets (Name Part)) → m < length d.forms.items → IsMapIn d m (get_or nets m n)
