-- The parts of maps.
use Rattle.std.specs.Prelude.{◌≡◌, ℕ, ◌<◌, List, length, slice_index}
use Rattle.std.proofs.Common.{get_or}
use Rattle.block_core.specs.declared.name.Name.{Name}
use Rattle.block_core.specs.declared.name.Name.TheVariants as name
use Rattle.block_core.specs.Blocks.{Whole}
use Rattle.hazard_core.specs.cell_core.Sites.{site_at}
use Rattle.turn_net.specs.cell_nets.declared.operand.Operand.{Operand}
use Rattle.read_net.specs.overlay_net.SiteOperands.Sites.{operands_of}
use Rattle.read_net.specs.declared.touch_net.change.ChangeNets.{ChangeNets}
use Rattle.commit_net.specs.declared.choosing.CommitNets.{CommitNets}
use Rattle.commit_net.specs.ChangeNet.Written.{IsWritten}
use Rattle.commit_net.specs.ChangeNet.Changes.{StandsFor, IsChange}
use Rattle.commit_net.specs.declared.map_block.parts.MapParts.{MapParts}
use Rattle.commit_net.specs.declared.map_block.parts.ControlNets.{ControlNets}
use Rattle.commit_net.specs.MapBlock.Forms.{FormFits}
use Rattle.commit_net.specs.MapBlock.Parts.{MapTrees, Each}
use Rattle.commit_net.specs.MapBlock.Stored.{host_word}
use Rattle.commit_net.specs.MapBlock.Block.{IsMapBlock}
use Rattle.turn_net.specs.HostNet.Values.{word_name, IsValue}
use Rattle.turn_net.specs.declared.nets.RecordNets.{RecordNets}
use Rattle.turn_net.specs.declared.target_net.targets.Target.{Target}
use Rattle.pipe_net.specs.declared.parts.Part.{Part}
use Rattle.pipe_net.specs.Parts as part
use Rattle.pipe_net.specs.Layout.{Layout, program_of, commit_of}
use Rattle.pipe_net.specs.Standing.{IsAtPlace}
use Rattle.pipe_net.specs.PipeTurns.Maps.{decl_at, records_on}
use Rattle.pipe_net.specs.PipeTurns.Parts.{idle_net, ready_net, writes_net, form_at, AreActionParts}

-- ---- nets of other parts: whether an operation on map m commits, and what else control says of the map
abbrev pub commits_net : (l : Layout) (d : Whole Part) → AreActionParts l d → ℕ → Name Part
commits_net l d action m = get_or action.commits m (name.Port 0)

abbrev pub control_at : (l : Layout) (d : Whole Part) → AreActionParts l d → ℕ → ControlNets (Name Part)
control_at l d action m = record { commits = commits_net l d action m; writes = writes_net l; idle = idle_net l }

abbrev pub parts_at : Layout → ℕ → MapParts Part
parts_at l m = record { finder = part.finder l.sizes m; fetcher = part.fetcher l.sizes m; asker = part.asker l.sizes m; own = part.own l.sizes m }

-- What stands for the operation at the n-th record site of map m: what the site is and asks, by the registers of the commit place; what it writes, as the part of
-- targets says it; and whether it commits, by its place among the records of all maps.
pub record IsOperation (l : Layout) (d : Whole Part) (action : AreActionParts l d) (m n : ℕ) (c : CommitNets (Name Part)) : Type 0 where
  pub act : c.act ≡ (site_at (program_of l).sites (slice_index (records_on (program_of l) m) n)).act
  pub nets : IsAtPlace l (commit_of l) (slice_index (records_on (program_of l) m) n) (operands_of c.nets.now)
  pub target : (t : Target (Name Part)) → c.target ≡ (get_or (action.targets m) n t).slot
  pub makes : (t : Target (Name Part)) → c.makes ≡ (get_or (action.targets m) n t).makes
  pub place : ℕ
  pub there : place < length l.records
  pub site : (r : RecordNets (Name Part)) → (get_or l.records place r).number ≡ slice_index (records_on (program_of l) m) n
  pub chosen : (o : Operand (Name Part)) → c.chosen ≡ get_or action.chosen place o

-- The parts of map m: those of its table, over its operations; one that gives the slot that a clock writes and the key there; and one that gives what that changes.
pub record ArePartsOfMap (l : Layout) (d : Whole Part) (action : AreActionParts l d) (m : ℕ) : Type 0 where
  pub form_fits : FormFits (form_at l m)
  pub operations : List (CommitNets (Name Part))
  pub count : length operations ≡ length (records_on (program_of l) m)
  pub each : (n : ℕ) (c : CommitNets (Name Part)) → n < length operations → IsOperation l d action m n (get_or operations n c)
  pub trees : MapTrees (Name Part)
  pub blocks : Each (λ p b. d.block p ≡ b) (parts_at l m) trees
  pub map : IsMapBlock (form_at l m) (parts_at l m) (control_at l d action m) operations trees
  pub slot : Name Part
  pub keys : List (Name Part)
  pub written : IsWritten (part.written l.sizes m) (part.own l.sizes m) (decl_at l m) (l.slot_bits m) (commits_net l d action m) trees.slot slot keys (d.block (part.written l.sizes m))
  pub change :
      IsChange (part.change l.sizes m) m (decl_at l m) (l.slot_bits m) operations (commits_net l d action m) (writes_net l) slot keys (l.changes m).slot (l.changes m).key (l.changes m).presence (l.changes m).any (l.changes m).by_host
      (d.block (part.change l.sizes m))
  pub change_nets : ChangeNets (Name Part)
  pub stands : StandsFor (l.changes m).slot (l.changes m).key (l.changes m).presence change_nets

-- The part with the word that the host reads, over the words that all maps show.
pub record IsValuePart (l : Layout) (d : Whole Part) : Type 0 where
  pub words : List (Name Part)
  pub count : length words ≡ length l.decls
  pub each : (m : ℕ) → m < length l.decls → word_name words m ≡ host_word (form_at l m) (part.own l.sizes m)
  pub block : IsValue (part.value l.sizes) (ready_net l) words (d.block (part.value l.sizes))

-- ---- all of them
pub record AreMapParts (l : Layout) (d : Whole Part) (action : AreActionParts l d) : Type 0 where
  pub maps : (m : ℕ) → m < length l.decls → ArePartsOfMap l d action m
  pub value : IsValuePart l d
