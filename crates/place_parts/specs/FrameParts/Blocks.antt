-- The blocks of the parts of frames.
use Rattle.std.specs.Prelude.{◌≡◌, ℕ, suc, ◌≤◌, ◌/◌, All, Contains, length}
use Rattle.std.specs.List.{AllByRecursion}
use Rattle.block_core.specs.declared.name.Name.{Name}
use Rattle.block_core.specs.Blocks.{Whole}
use Rattle.block_core.specs.View.{block_of}
use Rattle.control_net.specs.declared.names.ControlNets.{ControlNets}
use Rattle.overlay_net.specs.cell_nets.Operands.{IsOperand}
use Rattle.frame_net.specs.Gather.{IsKept}
use Rattle.frame_net.specs.ScatterNet.Scatter.{last_name}
use Rattle.row_net.specs.PlaceNet.Exit.{byte_numbers, output_operands}
use Rattle.pipe_net.specs.declared.parts.Part.{Part}
use Rattle.pipe_net.specs.declared.parts.Sizes.{Sizes}
use Rattle.pipe_net.specs.Parts as part
use Rattle.pipe_net.specs.Parts.{IsSmall}
use Rattle.pipe_net.specs.Layout.{Layout}
use Rattle.pipe_net.specs.PipeFrames.Parts.{has_begun}
use Rattle.place_parts.specs.declared.frame_parts.layout.FrameLayout.{FrameLayout}
use Rattle.place_parts.specs.declared.frame_parts.parts.FrameParts.{FrameParts}

-- ---- what they are made for
-- There are not too many of anything, all that stands for answers are operands, and a byte that may change lies in a word that may. Each place up to the commit place has a net
-- that says whether its packet must reload.
pub record IsFrameLayout (f : FrameLayout) : Type 0 where
  pub small : IsSmall f.sizes
  pub narrow : f.shape.now.slot_bits ≤ 9
  pub kept : length f.kept.now ≤ 255
  pub beats : AllByRecursion IsKept f.kept.now
  pub few : length f.words.now ≤ 255
  pub operands : All IsOperand (output_operands f.answer.now)
  pub covered : (b : ℕ) → Contains (byte_numbers f.answer.now) b → Contains f.words.now (b / 8)
  pub reload : length f.reload.now ≡ suc f.shape.now.commit

-- a pipeline that is laid out so
pub record IsFor (l : Layout) (f : FrameLayout) : Type 0 where
  pub sizes : l.sizes ≡ f.sizes
  pub shape : l.shape ≡ f.shape.now
  pub kept : l.kept ≡ f.kept.now
  pub words : l.words ≡ f.words.now
  pub answer : l.answer ≡ f.answer.now
  pub reload : l.reload ≡ f.reload.now
  pub stays : l.stays ≡ f.stays

-- what control reads of other parts
abbrev pub nets_of_control : Sizes → Name Part → ControlNets Part
nets_of_control z stays = record { partial = has_begun z; last = last_name part.scatter; stalls = stays }

-- ---- the parts
pub record ArePlaced (z : Sizes) (r : FrameParts) : Type 0 where
  pub scatter : r.scatter.part ≡ part.scatter
  pub returns : r.returns.part ≡ part.returns z
  pub sources : r.sources.part ≡ part.sources z
  pub control : r.control.part ≡ part.control z
  pub gather : r.gather.part ≡ part.gather z
  pub exit : r.exit.part ≡ part.exit z

-- these are their blocks
pub record HasBlocks (d : Whole Part) (z : Sizes) (r : FrameParts) : Type 0 where
  pub scatter : d.block part.scatter ≡ block_of r.scatter.block
  pub returns : d.block (part.returns z) ≡ block_of r.returns.block
  pub sources : d.block (part.sources z) ≡ block_of r.sources.block
  pub control : d.block (part.control z) ≡ block_of r.control.block
  pub gather : d.block (part.gather z) ≡ block_of r.gather.block
  pub exit : d.block (part.exit z) ≡ block_of r.exit.block
