-- The parts that show words under pointers, and what stands for the words of sites.
use Rattle.std.specs.Prelude.{◌≡◌, ℕ, zero, suc, ◌/◌, ◌<◌, ◌⊎◌, All, List, [], length, slice_index}
use Rattle.std.proofs.Common.{get_or}
use Rattle.block_core.specs.declared.name.Name.{Name}
use Rattle.block_core.specs.View.{block_of}
use Rattle.hazard_core.specs.cell_core.Sites.{SiteView, site_at}
use Rattle.overlay_net.specs.cell_nets.declared.operand.Operand.{Operand}
use Rattle.overlay_net.specs.cell_nets.declared.operand.Operand.TheVariants.{Known, Net}
use Rattle.hazard_core.specs.StageValues.{answer_cell}
use Rattle.commit_net.specs.declared.map_block.form.MapForm.{MapForm}
use Rattle.commit_net.specs.MapBlock.Stored.{first_value}
use Rattle.overlay_net.specs.ValueNet.Words.{access_start}
use Rattle.overlay_net.specs.declared.site_operands.SiteNets.{SiteNets}
use Rattle.commit_net.specs.declared.change_net.pointed.PointedWords.{PointedWords}
use Rattle.commit_net.specs.ChangeNet.Pointed.{IsOver, IsPointedWords}
use Rattle.pipe_net.specs.declared.parts.Part.{Part}
use Rattle.pipe_net.specs.Parts as part
use Rattle.pipe_parts.specs.declared.pipe_draft.pipeline_plan.PipelinePlan.{PipelinePlan}
use Rattle.pipe_parts.specs.declared.pipe_draft.places.StageSources.{StageSources}
use Rattle.pipe_parts.specs.PipeDraft.PipelinePlan.{program_in, plan_in}

-- ---- the part of a word
-- the row of the cell that reads a site, 0 where none does
abbrev pub word_row : PipelinePlan → ℕ → ℕ
word_row d j = slice_index (plan_in d).rows (answer_cell (program_in d).cells j)

-- what stands for the pointer of site j before the place of a row: before the first one no cell has a pointer
abbrev pub IsPointerBefore : List StageSources → ℕ → ℕ → Operand (Name Part) → Type 0
IsPointerBefore places zero j pointer = pointer ≡ Known 0
IsPointerBefore places (suc k) j pointer = (b : StageSources) (s : SiteNets (Name Part)) → pointer ≡ (get_or (get_or places k b).sites.items j s).pointer

-- the i-th of the sites that read a word
abbrev pub load_at : PipelinePlan → ℕ → ℕ
load_at d i = slice_index d.loads.items i

abbrev pub load_site : PipelinePlan → ℕ → SiteView
load_site d i = site_at (program_in d).sites (load_at d i)

-- The part for the i-th of the sites that read a word: after no other wires it shows the one that the access begins in, in the slot of its map that the pointer before
-- its row is to, whatever comes from outside.
pub record IsWordPart (d : PipelinePlan) (places : List StageSources) (i : ℕ) (x : PointedWords (Name Part)) : Type 0 where
  pub pointer : Operand (Name Part)
  pub before : IsPointerBefore places (word_row d (load_at d i)) (load_at d i) pointer
  pub form : MapForm
  pub form_is : (f : MapForm) → get_or d.forms.items (load_site d i).map f ≡ form
  pub count : length x.words.items ≡ 1
  pub block :
      (outside : List (Operand (Name Part))) → IsOver (part.word d.sizes i) outside [] pointer
      → IsPointedWords (part.word d.sizes i) (part.own d.sizes (load_site d i).map) outside [] pointer 2 form.bits (first_value form.decl) form.decl.value (access_start (load_site d i).act / 8) 1 x.slot x.words.items (block_of x.block)

-- so of all of them
pub record AreWordParts (d : PipelinePlan) (places : List StageSources) (words : List (PointedWords (Name Part))) : Type 0 where
  pub count : length words ≡ length d.loads.items
  pub each : (i : ℕ) (x : PointedWords (Name Part)) → i < length d.loads.items → IsWordPart d places i (get_or words i x)

-- ---- what stands for the words of sites
-- each part has one word
pub record HaveWords (d : PipelinePlan) (words : List (PointedWords (Name Part))) : Type 0 where
  pub count : length words ≡ length d.loads.items
  pub each : (i : ℕ) (x : PointedWords (Name Part)) → i < length d.loads.items → length (get_or words i x).words.items ≡ 1

-- the net of a part's word
abbrev pub word_net : PointedWords (Name Part) → Operand (Name Part)
word_net x = Net (get_or x.words.items 0 x.slot) 64

-- a word of one of these parts, or 0
abbrev pub IsWordNet : List (PointedWords (Name Part)) → Operand (Name Part) → Type 0
IsWordNet words a = (a ≡ Known 0) ⊎ ((i : ℕ) × (i < length words) × ((x : PointedWords (Name Part)) → a ≡ word_net (get_or words i x)))

-- For each site an operand: of one that reads a word that of its part.
pub record AreWordNets (d : PipelinePlan) (words : List (PointedWords (Name Part))) (nets : List (Operand (Name Part))) : Type 0 where
  pub count : length nets ≡ length (program_in d).sites
  pub read : (i : ℕ) (x : PointedWords (Name Part)) (a : Operand (Name Part)) → i < length d.loads.items → get_or nets (load_at d i) a ≡ word_net (get_or words i x)
  pub only : All (IsWordNet words) nets
