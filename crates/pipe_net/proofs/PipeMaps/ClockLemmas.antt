-- What the other parts say of a map in a clock.
use Rattle.std.proofs.Common.{◌≡◌, ℕ, ◌<◌, length, sym, ◌∙◌, ap, subst}
use Rattle.block_core.specs.net_core.declared.ports.Inputs.{Inputs}
use Rattle.block_core.specs.net_core.Value.{bit, Env}
use Rattle.block_core.specs.net_core.Clock.{Stored}
use Rattle.block_core.specs.declared.name.Name.{Name}
use Rattle.block_core.specs.declared.name.Name.TheVariants as name
use Rattle.block_core.specs.Blocks.{Whole}
use Rattle.hazard_core.specs.cell_core.Formed.{FitsMap}
use Rattle.hazard_core.specs.cell_core.Sites.{site_at}
use Rattle.turn_net.specs.Actions.{RecordsAlone}
use Rattle.turn_net.specs.TargetNet.Commits.{commits_on}
use Rattle.pipe_core.specs.Machine as machine
use Rattle.pipe_core.specs.Machine.{Packet, State, Action}
use Rattle.pipe_net.specs.declared.parts.Part.{Part}
use Rattle.pipe_net.specs.Machine.{input_of}
use Rattle.pipe_net.specs.Layout.{Layout, program_of}
use Rattle.pipe_net.specs.Saying.{action_in, is_host}
use Rattle.pipe_net.specs.PipeTurns.Parts.{writes_net, AreActionParts}
use Rattle.pipe_net.specs.PipeTurns.Acting.{site_of}
use Rattle.pipe_net.specs.PipeMaps.Parts.{commits_net}
use Rattle.pipe_net.specs.PipeMaps.Premises.{HasMaps, IsMapClock}
use Rattle.pipe_net.proofs.PipeMaps.OperationLemmas.{is_site}

module _ (l : Layout) (d : Whole Part) (action : AreActionParts l d) (is : HasMaps l d action) (i : Inputs) (s : State) (ss : Part → Stored) (v : Env (Name Part)) (k : IsMapClock l d action is.parts i s ss v) (m : ℕ) (there : m < length l.decls) where
  -- whether an operation on it commits
  pub says : (t : Action) → action_in l.build (input_of i) s ≡ t → v.net (commits_net l d action m) ≡ bit (commits_on (program_of l) (site_of t) m)
  says t e = k.actions.commits m (name.Port 0) there ∙ ap (λ t. bit (commits_on (program_of l) (site_of t) m)) e

  -- whether the host writes
  pub host_says : (t : Action) → action_in l.build (input_of i) s ≡ t → v.net (writes_net l) ≡ bit (is_host t)
  host_says t e = k.host.writes ∙ ap (λ t. bit (is_host t)) e

-- the operation that commits fits its map
pub fits :
    (alone : RecordsAlone) (l : Layout) (d : Whole Part) (action : AreActionParts l d) (is : HasMaps l d action) (i : Inputs) (s : State) (ss : Part → Stored) (v : Env (Name Part)) → IsMapClock l d action is.parts i s ss v → (j : ℕ) (x : Packet) → action_in l.build (input_of i) s ≡ machine.Commits j x
    → FitsMap s.tables.decls (site_at (program_of l).sites j)
fits alone l d action is i s ss v k j x e = subst (λ ds. FitsMap ds (site_at (program_of l).sites j)) (sym k.held.decls) (is.fits j (is_site alone l d action is i s ss v k j x e))
