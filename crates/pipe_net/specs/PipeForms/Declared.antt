-- What parts read of others is there, and declared.
use Rattle.std.specs.Prelude.{ℕ, ◌<◌, ◌≤◌, List, length}
use Rattle.block_core.specs.net_core.Ports.{port_list}
use Rattle.block_core.specs.declared.name.Name.{Name}
use Rattle.block_core.specs.Blocks.{Whole}
use Rattle.block_core.specs.Formed.{names_scope, IsThere}
use Rattle.turn_net.specs.cell_nets.declared.operand.Operand.{Operand}
use Rattle.turn_net.specs.cell_nets.Operands.{AreDeclared, IsNetOf}
use Rattle.read_net.specs.TouchNet.Marking.{mark_operands}
use Rattle.read_net.specs.MarkNet.Sites.{outside as mark_outside}
use Rattle.turn_net.specs.Nets.{outside as action_outside}
use Rattle.turn_net.specs.TargetNet.Targets.{outside_of}
use Rattle.commit_net.specs.Choosing.{all_read}
use Rattle.commit_net.specs.ChangeNet.Written.{written_outside}
use Rattle.commit_net.specs.ChangeNet.Changes.{change_outside}
use Rattle.stage_net.specs.row_net.PlaceNet.Sources.{source_operands}
use Rattle.stage_net.specs.row_net.PlaceNet.Exit.{output_operands}
use Rattle.pipe_net.specs.declared.parts.Part.{Part}
use Rattle.pipe_net.specs.Parts as part
use Rattle.pipe_net.specs.Layout.{Layout, program_of, last_of, commit_of}
use Rattle.pipe_net.specs.Standing.{held_registers}
use Rattle.pipe_net.specs.PipeMarks.Parts.{advances}
use Rattle.pipe_net.specs.PipeTurns.Maps.{taken_slots}
use Rattle.pipe_net.specs.PipeTurns.Parts.{action_nets, writes_net}
use Rattle.pipe_net.specs.PipePlaces.Layout.{load_sites}
use Rattle.pipe_net.specs.PipeMaps.Parts.{commits_net}
use Rattle.pipe_net.specs.PipeForms.Parts.{AreParts}

-- nets of the design, declared with these widths
pub record Declares (d : Whole Part) (ins : List (Operand (Name Part))) : Type 0 where
  pub widths : AreDeclared (names_scope d port_list) ins
  pub there : (n : Name Part) → IsNetOf ins n → IsThere d n

-- the registers of places, and what is shown of a frame
pub record AreHeldDeclared (l : Layout) (d : Whole Part) : Type 0 where
  pub registers : (k : ℕ) → k ≤ last_of l → Declares d (held_registers l k)
  pub sources : Declares d (source_operands (part.sources l.sizes) l.kept)
  pub answer : Declares d (output_operands l.answer)

-- what the parts of a map read
pub record IsMapDeclared (l : Layout) (d : Whole Part) (parts : AreParts l d) (m : ℕ) (there : m < length l.decls) : Type 0 where
  pub targets : Declares d (outside_of (parts.actions.maps m) (parts.actions.own m) (taken_slots l))
  pub operations : Declares d (all_read (parts.maps.maps m there).operations)
  pub written : Declares d (written_outside (l.slot_bits m) (commits_net l d parts.actions m) (parts.maps.maps m there).trees.slot)
  pub change : Declares d (change_outside (l.slot_bits m) (commits_net l d parts.actions m) (writes_net l) (parts.maps.maps m there).slot (parts.maps.maps m there).keys (parts.maps.maps m there).operations)

-- what the parts of marks read at a place
pub record IsMarkDeclared (l : Layout) (d : Whole Part) (parts : AreParts l d) (k : ℕ) (there : k ≤ commit_of l) : Type 0 where
  pub marks : Declares d (mark_outside (advances l) (parts.marks k there).sites)
  pub reloads : Declares d (mark_operands (parts.marks k there).reloads)

-- All of it: what places and words read, what says which operation commits, and what the parts of maps and of marks read.
pub record AreAllDeclared (l : Layout) (d : Whole Part) (parts : AreParts l d) : Type 0 where
  pub held : AreHeldDeclared l d
  pub words : (i : ℕ) (there : i < length (load_sites (program_of l))) → Declares d (parts.stages.words i there).outside
  pub places : (k : ℕ) (there : k ≤ last_of l) → Declares d (parts.stages.places k there).outside
  pub action : Declares d (action_outside (action_nets l) l.records)
  pub chosen : Declares d parts.actions.chosen
  pub maps : (m : ℕ) (there : m < length l.decls) → IsMapDeclared l d parts m there
  pub marks : (k : ℕ) (there : k ≤ commit_of l) → IsMarkDeclared l d parts k there

abbrev pub AllAreDeclared : Type 0
AllAreDeclared = (l : Layout) (d : Whole Part) (parts : AreParts l d) → AreAllDeclared l d parts
