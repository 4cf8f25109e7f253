-- Which operation commits in a clock.
use Rattle.std.specs.Prelude.{◌≡◌, ℕ, ◌<◌, not, Option, Some, None, is_some, length}
use Rattle.std.proofs.Common.{get_or}
use Rattle.block_core.specs.net_core.declared.ports.Inputs.{Inputs}
use Rattle.block_core.specs.net_core.Ports.{words_of}
use Rattle.block_core.specs.net_core.Value.{bit as bit_word, Env}
use Rattle.block_core.specs.net_core.Clock.{Stored}
use Rattle.block_core.specs.declared.name.Name.{Name}
use Rattle.block_core.specs.Blocks.{Whole}
use Rattle.block_core.specs.Parts.{Sees}
use Rattle.hazard_core.specs.cell_core.Cells.{bit}
use Rattle.turn_net.specs.cell_nets.Operands.{number_in, AreFit}
use Rattle.hazard_core.specs.Tabled.{AreTables}
use Rattle.hazard_core.specs.Changes.{IsRightCommit}
use Rattle.hazard_core.specs.Commits.{written_slot, makes_entry}
use Rattle.read_net.specs.declared.sites.OwnSite.{OwnSite}
use Rattle.turn_net.specs.Nets.{all_read}
use Rattle.turn_net.specs.Steps.{ShowsChosen}
use Rattle.turn_net.specs.declared.target_net.targets.Target.{Target}
use Rattle.turn_net.specs.TargetNet.Targets.{outside_of}
use Rattle.turn_net.specs.TargetNet.Commits.{commits_on}
use Rattle.pipe_core.specs.Machine.{Packet, State, Action, Commits, Writes, Moves}
use Rattle.pipe_net.specs.declared.parts.Part.{Part}
use Rattle.pipe_net.specs.Parts.{parts_of}
use Rattle.pipe_net.specs.Machine.{input_of}
use Rattle.pipe_net.specs.Layout.{Layout, IsSized, program_of}
use Rattle.pipe_net.specs.Relation.{HoldMaps}
use Rattle.pipe_net.specs.Saying.{ShowReturns, action_in, moves_in}
use Rattle.pipe_net.specs.Standing.{ShowPackets}
use Rattle.pipe_net.specs.PipeTurns.Maps.{taken_slots}
use Rattle.pipe_net.specs.PipeTurns.Parts.{AreActionParts}
use Rattle.pipe_net.specs.PipeTurns.Hosting.{ShowsHost}

-- the site whose operation commits
abbrev pub site_of : Action → Option ℕ
site_of (Commits j x) = Some j
site_of (Writes a n) = None
site_of Moves = None

abbrev pub site_in : Layout → Inputs → State → Option ℕ
site_in l i s = site_of (action_in l.build (input_of i) s)

-- ---- what these parts say
-- whether packets stay where they are, whether an operation commits, which one, and on which map
pub record ShowsAction (l : Layout) (d : Whole Part) (parts : AreActionParts l d) (i : Inputs) (s : State) (v : Env (Name Part)) : Type 0 where
  pub stays : v.net l.stays ≡ bit_word (not (moves_in l.build (input_of i) s))
  pub one : v.net parts.one ≡ bit_word (is_some (site_in l i s))
  pub chosen : ShowsChosen v (site_in l i s) l.records parts.chosen
  pub commits : (m : ℕ) (n : Name Part) → m < length l.decls → v.net (get_or parts.commits m n) ≡ bit_word (commits_on (program_of l) (site_in l i s) m)

-- what the operation at a site writes, as the part of its map says it
pub record ShowsWritten (l : Layout) (s : State) (v : Env (Name Part)) (j : ℕ) (x : Packet) (t : Target (Name Part)) : Type 0 where
  pub slot : number_in v t.slot ≡ written_slot (program_of l) s.tables s.taken x.held j
  pub makes : number_in v t.makes ≡ bit (makes_entry (program_of l) s.tables x.held j)

abbrev pub ShowsTargets : (l : Layout) (d : Whole Part) → AreActionParts l d → Inputs → State → Env (Name Part) → Type 0
ShowsTargets l d parts i s v =
    (j : ℕ) (x : Packet) (m n : ℕ) (o : OwnSite (Name Part)) (t : Target (Name Part)) → action_in l.build (input_of i) s ≡ Commits j x → m < length l.decls → n < length (parts.own m) → (get_or (parts.own m) n o).site ≡ j
    → ShowsWritten l s v j x (get_or (parts.targets m) n t)

-- ---- what is asked for it
-- the nets that they read have the values of their widths
pub record ActionsAreFit (l : Layout) (d : Whole Part) (parts : AreActionParts l d) (v : Env (Name Part)) : Type 0 where
  pub records : AreFit v (all_read l.records)
  pub chosen : AreFit v parts.chosen
  pub targets : (m : ℕ) → m < length l.decls → AreFit v (outside_of (parts.maps m) (parts.own m) (taken_slots l))

-- an operation that commits writes a slot of its map, and the tables are tables of their declarations
pub record IsRightAction (l : Layout) (i : Inputs) (s : State) : Type 0 where
  pub tables : (j : ℕ) (x : Packet) → action_in l.build (input_of i) s ≡ Commits j x → AreTables s.tables
  pub commits : (j : ℕ) (x : Packet) → action_in l.build (input_of i) s ≡ Commits j x → IsRightCommit (program_of l) s.tables s.taken x.held j

-- ---- the laws
abbrev pub ActionIsShown : Type 0
ActionIsShown =
    (l : Layout) (d : Whole Part) → IsSized l → (parts : AreActionParts l d) → d.parts ≡ parts_of l.sizes
    → (i : Inputs) (s : State) (ss : Part → Stored) (v : Env (Name Part)) → HoldMaps l s ss → Sees d (words_of i) ss v → ActionsAreFit l d parts v → ShowReturns l s v → ShowsHost l i s v → ShowPackets l s v
    → ShowsAction l d parts i s v

abbrev pub TargetsAreShown : Type 0
TargetsAreShown =
    (l : Layout) (d : Whole Part) → IsSized l → (parts : AreActionParts l d) → d.parts ≡ parts_of l.sizes
    → (i : Inputs) (s : State) (ss : Part → Stored) (v : Env (Name Part)) → HoldMaps l s ss → Sees d (words_of i) ss v → ActionsAreFit l d parts v → ShowPackets l s v → IsRightAction l i s → ShowsTargets l d parts i s v
