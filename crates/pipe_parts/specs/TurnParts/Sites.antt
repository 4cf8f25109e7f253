-- The sites at which the operations on a map may write, and the slots that updates of hashes took.
use Rattle.std.specs.Prelude.{◌≡◌, ℕ, suc, ◌+◌, ◌*◌, ◌^◌, ◌<◌, ◌≤◌, Bool, All, List, [], ◌∷◌, length, filter, map as map_list}
use Rattle.std.specs.declared.alloc.Global.{Global}
use Rattle.std.specs.declared.vec.Vec.{Vec}
use Rattle.std.proofs.Common.{get_or}
use Rattle.block_core.specs.declared.name.Name.{Name}
use Rattle.block_core.specs.declared.name.Name.TheVariants as name
use Rattle.hazard_core.specs.xdp_maps.declared.decl.MapDecl.{MapDecl}
use Rattle.hazard_core.specs.cell_core.Sites.{ProgramView, site_at}
use Rattle.hazard_core.specs.Tables.{decl_of}
use Rattle.overlay_net.specs.cell_nets.declared.operand.Operand.TheVariants.{Net}
use Rattle.overlay_net.specs.cell_nets.Operands.{IsWide, IsOperand, IsNarrow}
use Rattle.overlay_net.specs.declared.site_operands.SiteNets.{SiteNets}
use Rattle.commit_net.specs.declared.target.TakenSlot.{TakenSlot}
use Rattle.read_net.specs.declared.sites.OwnSite.{OwnSite}
use Rattle.read_net.specs.Sites.{cells_of, sites_of, IsOwn}
use Rattle.turn_net.specs.declared.nets.ActionShape.{ActionShape}
use Rattle.turn_net.specs.Actions.{record_sites}
use Rattle.turn_net.specs.Nets.{keeps_slot}
use Rattle.pipe_net.specs.declared.parts.Part.{Part}
use Rattle.pipe_net.specs.declared.parts.Sizes.{Sizes}
use Rattle.pipe_net.specs.Parts as part
use Rattle.pipe_net.specs.PipeTurns.Maps.{records_on}
use Rattle.pipe_parts.specs.declared.pipe_draft.pipeline_plan.PipelinePlan.{PipelinePlan}
use Rattle.pipe_parts.specs.declared.pipe_draft.places.StageSources.{StageSources}
use Rattle.pipe_parts.specs.PipeDraft.PipelinePlan.{program_in, decls_in}

-- ---- the operands of sites after a place
-- these are those of site j
abbrev pub IsNetsAt : StageSources → ℕ → SiteNets (Name Part) → Type 0
IsNetsAt b j n = (s : SiteNets (Name Part)) → n ≡ get_or b.sites.items j s

-- those of a site of map m: words enough for a key of the map, and pointers of no more bits than those of the pipeline plan
pub record IsWholeOf (d : PipelinePlan) (m : ℕ) (s : OwnSite (Name Part)) : Type 0 where
  pub operands : All IsOperand (cells_of s)
  pub key : (decl_of (decls_in d) m).key ≤ 8 * length s.nets.now.key.items
  pub number : 4 * s.site + 2 < 2 ^ d.bits
  pub found : IsNarrow d.bits s.nets.now.found
  pub pointer : IsNarrow d.bits s.nets.now.pointer

-- ---- the record sites of map m, in order
pub record IsOwnOf (d : PipelinePlan) (b : StageSources) (m : ℕ) (s : OwnSite (Name Part)) : Type 0 where
  pub known : s.site < length (program_in d).sites
  pub own : IsOwn (program_in d) m s
  pub nets : IsNetsAt b s.site s.nets.now
  pub whole : IsWholeOf d m s

pub record AreOwnOf (d : PipelinePlan) (b : StageSources) (m : ℕ) (owns : List (OwnSite (Name Part))) : Type 0 where
  pub sites : sites_of owns ≡ records_on (program_in d) m
  pub each : All (IsOwnOf d b m) owns

-- those of all maps
pub record AreOwnLists (d : PipelinePlan) (b : StageSources) (lists : List (Vec (OwnSite (Name Part)) Global)) : Type 0 where
  pub count : length lists ≡ length d.forms.items
  pub each : (m : ℕ) (r : Vec (OwnSite (Name Part)) Global) → m < length d.forms.items → AreOwnOf d b m (get_or lists m r).items

abbrev pub list_at : List (Vec (OwnSite (Name Part)) Global) → ℕ → List (OwnSite (Name Part))
list_at lists m = get_or (map_list (λ r. r.items) lists) m []

-- ---- the bits of what says which operation commits
-- They are enough for the number after each site, and for each slot of a map, and no more than that.
pub record IsActionShape (d : PipelinePlan) (s : ActionShape) : Type 0 where
  pub bits : IsWide s.bits
  pub slot_bits : IsWide s.slot_bits
  pub numbers : length (program_in d).sites < 2 ^ s.bits
  pub slots : All (λ f. f.bits ≤ s.slot_bits) d.forms.items
  pub least : (w : ℕ) → 0 < w → length (program_in d).sites < 2 ^ w → s.bits ≤ w
  pub least_slots : (w : ℕ) → 0 < w → All (λ f. f.bits ≤ w) d.forms.items → s.slot_bits ≤ w

-- ---- the slots that updates of hashes took stand in registers, one after another
abbrev pub keeps_at : ProgramView → List MapDecl → ℕ → Bool
keeps_at p decls j = keeps_slot (site_at p.sites j).act (decl_of decls (site_at p.sites j).map).kind

abbrev pub taken_at : Sizes → ℕ → ℕ → List ℕ → List (TakenSlot (Name Part))
taken_at z bits at [] = []
taken_at z bits at (j ∷ js) = record { site = j; slot = Net (name.Register (part.action z) at) bits } ∷ taken_at z bits (suc at) js

-- after the first one
abbrev pub taken_in : PipelinePlan → ActionShape → List (TakenSlot (Name Part))
taken_in d s = taken_at d.sizes s.slot_bits 1 (filter (keeps_at (program_in d) (decls_in d)) (record_sites (program_in d)))
