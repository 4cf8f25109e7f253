-- The parts that say what the host may do and which operation commits.
use Rattle.std.specs.Prelude.{◌≡◌, ℕ, ◌<◌, All, List, length}
use Rattle.std.proofs.Common.{get_or}
use Rattle.block_core.specs.net_core.Nets.{Tree}
use Rattle.block_core.specs.declared.name.Name.{Name}
use Rattle.block_core.specs.declared.name.Name.TheVariants as name
use Rattle.block_core.specs.Blocks.{Whole}
use Rattle.hazard_core.specs.cell_core.Sites.{site_at}
use Rattle.turn_net.specs.cell_nets.declared.operand.Operand.{Operand}
use Rattle.read_net.specs.overlay_net.SiteOperands.Sites.{operands_of}
use Rattle.control_net.specs.declared.ring_net.names.Register.TheVariants.{Holds}
use Rattle.control_net.specs.RingNet.Names.{register_name}
use Rattle.control_net.specs.Names.{back_name}
use Rattle.read_net.specs.declared.sites.OwnSite.{OwnSite}
use Rattle.read_net.specs.declared.sites.MapNets.{MapNets}
use Rattle.read_net.specs.Sites.{sites_of as own_sites, IsOwn}
use Rattle.commit_net.specs.declared.map_block.form.MapForm.{MapForm}
use Rattle.commit_net.specs.MapBlock.Stored.{host_may}
use Rattle.turn_net.specs.declared.host_net.names.HostNets.{HostNets}
use Rattle.turn_net.specs.declared.host_net.names.Wire.TheVariants.{Idle, Ready, Writes}
use Rattle.turn_net.specs.HostNet.Names.{wire_name}
use Rattle.turn_net.specs.HostNet.Host.{may_tree, IsHost}
use Rattle.turn_net.specs.declared.nets.RecordNets.{RecordNets}
use Rattle.turn_net.specs.declared.nets.ActionNets.{ActionNets}
use Rattle.turn_net.specs.Actions.{record_sites}
use Rattle.turn_net.specs.Nets.{sites_of, AreRecords}
use Rattle.turn_net.specs.Action.{IsAction}
use Rattle.turn_net.specs.declared.target_net.targets.Target.{Target}
use Rattle.turn_net.specs.TargetNet.Targets.{IsTargets}
use Rattle.turn_net.specs.TargetNet.Commits.{AreMaps, IsCommits}
use Rattle.pipe_net.specs.declared.parts.Part.{Part}
use Rattle.pipe_net.specs.Parts as part
use Rattle.pipe_net.specs.Layout.{Layout, program_of, commit_of}
use Rattle.pipe_net.specs.Standing.{IsAtPlace}
use Rattle.pipe_net.specs.PipeTurns.Maps.{decl_at, IsMapAt, IsSlotsPart, records_on, taken_slots}

-- ---- nets of the part that says what the host may do: no frame is inside, the host is heard, it writes
abbrev pub idle_net : Layout → Name Part
idle_net l = wire_name (part.host l.sizes) Idle

abbrev pub ready_net : Layout → Name Part
ready_net l = wire_name (part.host l.sizes) Ready

abbrev pub writes_net : Layout → Name Part
writes_net l = wire_name (part.host l.sizes) Writes

-- ---- what the two parts read of others
-- whether the commit place holds a packet, and how far this is through its operations
abbrev pub present_net : Layout → Name Part
present_net l = register_name (part.control l.sizes) (Holds (commit_of l))

abbrev pub done_net : Layout → Name Part
done_net l = name.Register (part.action l.sizes) 0

abbrev pub host_nets : Layout → HostNets Part
host_nets l = record { partial = name.Register (part.gather l.sizes) 0; present = present_net l; done = done_net l; control = part.control l.sizes }

abbrev pub action_nets : Layout → ActionNets Part
action_nets l = record { present = present_net l; back = back_name l.shape (part.returns l.sizes) (commit_of l); host = writes_net l }

-- map m as its block sees it
abbrev pub form_at : Layout → ℕ → MapForm
form_at l m = record { number = m; bits = l.slot_bits m; decl = decl_at l m }

-- ---- what the operations on a map write
-- The part for the record sites of map m, in order: their cells are those of the packet at the commit place.
pub record AreTargetsOf (l : Layout) (d : Whole Part) (m : ℕ) (nets : MapNets (Name Part)) (owns : List (OwnSite (Name Part))) (outs : List (Target (Name Part))) : Type 0 where
  pub map : IsMapAt l m nets
  pub slots : IsSlotsPart l d m
  pub sites : own_sites owns ≡ records_on (program_of l) m
  pub own : All (IsOwn (program_of l) m) owns
  pub cells : All (λ s. IsAtPlace l (commit_of l) s.site (operands_of s.nets.now)) owns
  pub block : IsTargets (program_of l) m (part.targets l.sizes m) nets (l.slot_bits m) owns (taken_slots l) outs (d.block (part.targets l.sizes m))

-- the slot that the operation at a record site writes is what the part of its map says
pub record IsTargetOf (l : Layout) (owns : ℕ → List (OwnSite (Name Part))) (outs : ℕ → List (Target (Name Part))) (r : RecordNets (Name Part)) : Type 0 where
  pub at : ℕ
  pub there : at < length (owns (site_at (program_of l).sites r.number).map)
  pub site : (s : OwnSite (Name Part)) → (get_or (owns (site_at (program_of l).sites r.number).map) at s).site ≡ r.number
  pub target : (t : Target (Name Part)) → (get_or (outs (site_at (program_of l).sites r.number).map) at t).slot ≡ r.target

-- ---- all of them
pub record AreActionParts (l : Layout) (d : Whole Part) : Type 0 where
  -- of each map what stands for it, its record sites, and what these write
  pub maps : ℕ → MapNets (Name Part)
  pub own : ℕ → List (OwnSite (Name Part))
  pub targets : ℕ → List (Target (Name Part))
  pub writes : (m : ℕ) → m < length l.decls → AreTargetsOf l d m (maps m) (own m) (targets m)
  -- the host: of each map whether it lets the host write
  pub may : List (Tree (Name Part))
  pub many : length may ≡ length l.decls
  pub lets : (m : ℕ) → m < length l.decls → may_tree may m ≡ host_may (form_at l m) (part.own l.sizes m) (idle_net l)
  pub host : IsHost (part.host l.sizes) (host_nets l) may (d.block (part.host l.sizes))
  -- the record sites, of which each is chosen or not, or one of them
  pub records : AreRecords (program_of l) l.decls l.records
  pub sites : sites_of l.records ≡ record_sites (program_of l)
  pub cells : All (λ r. IsAtPlace l (commit_of l) r.number (operands_of r.nets.now)) l.records
  pub written : All (IsTargetOf l own targets) l.records
  pub chosen : List (Operand (Name Part))
  pub one : Name Part
  pub action : IsAction (program_of l) l.decls (part.action l.sizes) l.action_shape (action_nets l) l.records (d.block (part.action l.sizes)) chosen one l.stays
  -- the maps of the record sites, and of each map whether an operation on it commits
  pub numbers : List ℕ
  pub are_maps : AreMaps (program_of l) numbers l.records
  pub commits : List (Name Part)
  pub says : IsCommits (part.commits l.sizes) (length l.decls) numbers chosen commits (d.block (part.commits l.sizes))
