-- The parts of frames.
use Rattle.block_core.specs.declared.name.Name.{Name}
use Rattle.block_core.specs.declared.name.Name.TheVariants as name
use Rattle.block_core.specs.Blocks.{Whole}
use Rattle.control_net.specs.declared.ring_net.names.Counter.{Counter}
use Rattle.control_net.specs.declared.ring_net.names.Counter.TheVariants.{Given, Answered, Injected, Gathered}
use Rattle.control_net.specs.declared.ring_net.names.Register.TheVariants.{Slot}
use Rattle.control_net.specs.RingNet.Names.{register_name}
use Rattle.control_net.specs.declared.names.Wire.{Wire}
use Rattle.control_net.specs.declared.names.Wire.TheVariants as wire
use Rattle.control_net.specs.declared.names.ControlNets.{ControlNets}
use Rattle.control_net.specs.Names.{wire_name}
use Rattle.control_net.specs.Block.{IsControl}
use Rattle.control_net.specs.Returns.{IsReturns}
use Rattle.commit_net.specs.frame_net.Gather.{IsGather}
use Rattle.commit_net.specs.frame_net.Sources.{IsSources}
use Rattle.commit_net.specs.frame_net.ScatterNet.Scatter.{IsScatter, last_name}
use Rattle.stage_net.specs.row_net.PlaceNet.Exit.{IsExit, byte_numbers}
use Rattle.pipe_net.specs.declared.parts.Part.{Part}
use Rattle.pipe_net.specs.declared.parts.Sizes.{Sizes}
use Rattle.pipe_net.specs.Parts as part
use Rattle.pipe_net.specs.Layout.{Layout}

-- ---- nets of control
abbrev pub told_by : Sizes → Wire → Name Part
told_by z w = wire_name (part.control z) w

-- the slot of the next frame that is to be counted
abbrev pub next_slot : Sizes → Counter → Name Part
next_slot z c = register_name (part.control z) (Slot c)

-- ---- a net of the gatherer: a frame has begun and has not ended
abbrev pub has_begun : Sizes → Name Part
has_begun z = name.Register (part.gather z) 0

-- what control reads of others
abbrev pub read_by_control : Layout → ControlNets Part
read_by_control l = record { partial = has_begun l.sizes; last = last_name part.scatter; stalls = l.stays }

pub record AreFrameParts (l : Layout) (d : Whole Part) : Type 0 where
  pub returns : IsReturns l.shape (part.returns l.sizes) (part.control l.sizes) l.reload (d.block (part.returns l.sizes))
  pub control : IsControl l.shape (part.control l.sizes) (part.returns l.sizes) (read_by_control l) (d.block (part.control l.sizes))
  pub gather : IsGather (part.gather l.sizes) l.shape.slot_bits l.kept (told_by l.sizes wire.Over) (next_slot l.sizes Gathered) (d.block (part.gather l.sizes))
  pub sources : IsSources (part.sources l.sizes) (part.gather l.sizes) l.shape.slot_bits l.kept (next_slot l.sizes Injected) (d.block (part.sources l.sizes))
  pub scatter : IsScatter part.scatter (part.gather l.sizes) (part.exit l.sizes) l.shape.slot_bits l.kept l.words (byte_numbers l.answer) (told_by l.sizes wire.Taken) (next_slot l.sizes Given) (d.block part.scatter)
  pub exit : IsExit l.shape.slot_bits l.words (told_by l.sizes wire.Exits) (next_slot l.sizes Answered) l.answer (d.block (part.exit l.sizes))
