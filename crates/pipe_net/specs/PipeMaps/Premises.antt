-- What is asked of a clock, so that the parts of maps follow it.
use Rattle.std.specs.Prelude.{◌≡◌, ℕ, ◌<◌, ◌≤◌, length}
use Rattle.block_core.specs.net_core.declared.ports.Inputs.{Inputs}
use Rattle.block_core.specs.net_core.Ports.{words_of}
use Rattle.block_core.specs.net_core.Value.{Env}
use Rattle.block_core.specs.net_core.Clock.{Stored}
use Rattle.block_core.specs.declared.name.Name.{Name}
use Rattle.block_core.specs.Blocks.{Whole}
use Rattle.block_core.specs.Parts.{Sees}
use Rattle.hazard_core.specs.cell_core.Formed.{AllFit}
use Rattle.hazard_core.specs.Tables.{TableState, decl_of, table_at}
use Rattle.hazard_core.specs.Tabled.{IsFilledTable}
use Rattle.turn_net.specs.cell_nets.Operands.{AreFit}
use Rattle.commit_net.specs.Choosing.{all_read}
use Rattle.commit_net.specs.ChangeNet.Written.{written_outside}
use Rattle.commit_net.specs.ChangeNet.Changes.{change_outside}
use Rattle.hazard_core.specs.TableLaws.Bytes.{HoldBytes}
use Rattle.pipe_core.specs.Machine.{State}
use Rattle.pipe_net.specs.declared.parts.Part.{Part}
use Rattle.pipe_net.specs.Parts.{parts_of}
use Rattle.pipe_net.specs.Layout.{Layout, IsSized, program_of, commit_of, last_of}
use Rattle.pipe_net.specs.Relation.{HoldMaps}
use Rattle.pipe_net.specs.Standing.{ShowPackets}
use Rattle.pipe_net.specs.PipeTurns.Parts.{writes_net, AreActionParts}
use Rattle.pipe_net.specs.PipeTurns.Hosting.{ShowsHost}
use Rattle.pipe_net.specs.PipeTurns.Acting.{ShowsAction, ShowsTargets, IsRightAction}
use Rattle.pipe_net.specs.PipeMaps.Parts.{commits_net, AreMapParts}

-- the nets that these parts read have the values of their widths
pub record IsMapFit (l : Layout) (d : Whole Part) (action : AreActionParts l d) (parts : AreMapParts l d action) (v : Env (Name Part)) (m : ℕ) (there : m < length l.decls) : Type 0 where
  pub operations : AreFit v (all_read (parts.maps m there).operations)
  pub written : AreFit v (written_outside (l.slot_bits m) (commits_net l d action m) (parts.maps m there).trees.slot)
  pub change : AreFit v (change_outside (l.slot_bits m) (commits_net l d action m) (writes_net l) (parts.maps m there).slot (parts.maps m there).keys (parts.maps m there).operations)

abbrev pub MapsAreFit : (l : Layout) (d : Whole Part) (action : AreActionParts l d) → AreMapParts l d action → Env (Name Part) → Type 0
MapsAreFit l d action parts v = (m : ℕ) (there : m < length l.decls) → IsMapFit l d action parts v m there

-- What holds of all tables, while the host loads them too: slots have bytes of the declared lengths, and those of arrays their indexes as keys.
pub record HoldKeys (t : TableState) : Type 0 where
  pub bytes : HoldBytes t
  pub filled : (m : ℕ) → m < length t.decls → IsFilledTable (decl_of t.decls m).kind (table_at t m)

-- A clock in which the other parts say what the machine does, and do so rightly.
pub record IsMapClock (l : Layout) (d : Whole Part) (action : AreActionParts l d) (parts : AreMapParts l d action) (i : Inputs) (s : State) (ss : Part → Stored) (v : Env (Name Part)) : Type 0 where
  pub held : HoldMaps l s ss
  pub sees : Sees d (words_of i) ss v
  pub fit : MapsAreFit l d action parts v
  pub packets : ShowPackets l s v
  pub host : ShowsHost l i s v
  pub actions : ShowsAction l d action i s v
  pub targets : ShowsTargets l d action i s v
  pub right : IsRightAction l i s
  pub keys : HoldKeys s.tables

-- a design whose parts are these, for a program whose packets commit at one of the places and whose sites fit its maps
pub record HasMaps (l : Layout) (d : Whole Part) (action : AreActionParts l d) : Type 0 where
  pub sized : IsSized l
  pub parts : AreMapParts l d action
  pub places : d.parts ≡ parts_of l.sizes
  pub within : commit_of l ≤ last_of l
  pub fits : AllFit l.decls (program_of l).sites
