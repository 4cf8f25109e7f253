-- What the host does in a clock.
use Rattle.std.specs.Prelude.{◌≡◌, ℕ, ◌<◌, Bool, List, length}
use Rattle.block_core.specs.net_core.declared.ports.Inputs.{Inputs}
use Rattle.block_core.specs.net_core.declared.tree.Word.{Word}
use Rattle.block_core.specs.net_core.Ports.{words_of}
use Rattle.block_core.specs.net_core.Value.{bit, Env, value}
use Rattle.block_core.specs.net_core.Clock.{Stored}
use Rattle.block_core.specs.declared.name.Name.{Name}
use Rattle.block_core.specs.Blocks.{Whole}
use Rattle.block_core.specs.Parts.{Sees}
use Rattle.hazard_core.specs.declared.access.Access.{Access}
use Rattle.hazard_core.specs.Tables.{TableState, table_at}
use Rattle.read_net.specs.array_net.Hosts.{SeesHost}
use Rattle.commit_net.specs.MapBlock.Stored.{StoresMap, host_may, IsMapOf, may_here}
use Rattle.pipe_core.specs.Machine.{State, is_idle, host_ready}
use Rattle.pipe_net.specs.declared.parts.Part.{Part}
use Rattle.pipe_net.specs.Parts as part
use Rattle.pipe_net.specs.Parts.{parts_of}
use Rattle.pipe_net.specs.Machine.{input_of}
use Rattle.pipe_net.specs.Layout.{Layout, IsSized}
use Rattle.pipe_net.specs.Relation.{HoldFrames, HoldMaps}
use Rattle.pipe_net.specs.Saying.{ShowReturns, action_in, is_host}
use Rattle.pipe_net.specs.PipeTurns.Maps.{decl_at}
use Rattle.pipe_net.specs.PipeTurns.Parts.{idle_net, ready_net, writes_net, form_at, AreActionParts}

-- What is asked of the blocks of maps: of each one the tree says whether the host may write the word that it names.
abbrev pub MapsAllow : Layout → Whole Part → Type 0
MapsAllow l d =
    (m : ℕ) (ins : List Word) (ss : Part → Stored) (v : Env (Name Part)) (t : TableState) (a : Access) (number : ℕ) (idle : Bool) → m < length l.decls → Sees d ins ss v → IsMapOf t (form_at l m)
    → StoresMap (decl_at l m) (l.slot_bits m) (table_at t m) (ss (part.own l.sizes m)) → SeesHost v a number → v.net (idle_net l) ≡ bit idle → value v (host_may (form_at l m) (part.own l.sizes m) (idle_net l)) ≡ bit (may_here (form_at l m) idle t a)

-- whether no frame is inside, whether the host is heard, and whether it writes
pub record ShowsHost (l : Layout) (i : Inputs) (s : State) (v : Env (Name Part)) : Type 0 where
  pub idle : v.net (idle_net l) ≡ bit (is_idle s)
  pub ready : v.net (ready_net l) ≡ bit (host_ready l.build s)
  pub writes : v.net (writes_net l) ≡ bit (is_host (action_in l.build (input_of i) s))

abbrev pub HostIsShown : Type 0
HostIsShown =
    (l : Layout) (d : Whole Part) → IsSized l → AreActionParts l d → d.parts ≡ parts_of l.sizes → MapsAllow l d
    → (i : Inputs) (s : State) (ss : Part → Stored) (v : Env (Name Part)) (given : ℕ) (ns : List ℕ) → HoldFrames l given ns s ss → HoldMaps l s ss → Sees d (words_of i) ss v → ShowReturns l s v → ShowsHost l i s v
