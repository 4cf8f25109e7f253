-- What parts of a pipeline say to one another in a clock, by the state of the machine.
use Rattle.std.specs.Prelude.{◌≡◌, ℕ, ◌^◌, ◌<◌, ◌≤◌, ◌==◌, ◌&&◌, Bool, true, false, not, Option, Some, None, is_some, List, length, drop, map as map_list, Contains}
use Rattle.block_core.specs.net_core.declared.ports.Inputs.{Inputs}
use Rattle.block_core.specs.net_core.Value.{bit, Env}
use Rattle.block_core.specs.declared.name.Name.{Name}
use Rattle.hazard_core.specs.cell_core.declared.program.FrameByte.{FrameByte}
use Rattle.hazard_core.specs.cell_core.Cells.{bit as number_of_bit}
use Rattle.hazard_core.specs.cell_core.Sites.{bytes_of}
use Rattle.turn_net.specs.cell_nets.Operands.{number_in, AreFit}
use Rattle.hazard_core.specs.declared.change.Change.{Change}
use Rattle.hazard_core.specs.Tables.{decl_of}
use Rattle.hazard_core.specs.StageValues.{stage_value}
use Rattle.hazard_core.specs.Commits.{change_by, host_change}
use Rattle.pipe_core.specs.Machine.{Packet, State, Input, Build, Action, Commits, Writes, Moves, action_of, flushed, place_at, must_reload, some_send}
use Rattle.control_net.specs.declared.ring_net.names.Register.TheVariants.{Holds}
use Rattle.control_net.specs.RingNet.Names.{register_name}
use Rattle.control_net.specs.Names.{back_name}
use Rattle.control_net.specs.Returns.{reload_name}
use Rattle.stage_net.specs.row_net.declared.place_net.outputs.AnswerByte.{AnswerByte}
use Rattle.stage_net.specs.row_net.PlaceNet.Exit.{output_operands}
use Rattle.pipe_net.specs.declared.parts.Part.{Part}
use Rattle.pipe_net.specs.Parts as part
use Rattle.pipe_net.specs.Machine.{input_of}
use Rattle.pipe_net.specs.Layout.{Layout, program_of, last_of, commit_of}

-- ---- who is sent back

-- a place's net says whether its packet must reload; of no packet it may say what it likes
pub record ShowsReload (l : Layout) (s : State) (v : Env (Name Part)) (k : ℕ) : Type 0 where
  pub says : Bool
  pub net : v.net (reload_name l.reload k) ≡ bit says
  pub is : (x : Packet) → place_at s.places k ≡ Some x → says ≡ must_reload l.build k x

abbrev pub ShowReloads : Layout → State → Env (Name Part) → Type 0
ShowReloads l s v = (k : ℕ) → k ≤ commit_of l → ShowsReload l s v k

-- a place up to the commit place, or an older one, sends back; and control says which places hold packets
pub record ShowReturns (l : Layout) (s : State) (v : Env (Name Part)) : Type 0 where
  pub back : (k : ℕ) → k ≤ commit_of l → v.net (back_name l.shape (part.returns l.sizes) k) ≡ bit (some_send l.build k (drop k s.places))
  pub holds : (k : ℕ) → k ≤ last_of l → v.net (register_name (part.control l.sizes) (Holds k)) ≡ bit (is_some (place_at s.places k))

-- ---- what the clock does
abbrev pub moves : Action → Bool
moves Moves = true
moves action = false

abbrev pub action_in : Build → Input → State → Action
action_in b i s = action_of b i s (flushed b 0 s.places)

-- whether packets move on
abbrev pub moves_in : Build → Input → State → Bool
moves_in b i s = moves (action_in b i s)

-- ---- what it changes

-- the change of a map, and whether the host makes it
abbrev pub change_of : Build → State → Action → Option Change
change_of b s (Commits j x) = Some (change_by b.program s.tables s.taken x.held j)
change_of b s (Writes a n) = Some (host_change s.tables a)
change_of b s Moves = None

abbrev pub is_host : Action → Bool
is_host (Writes a n) = true
is_host action = false

abbrev pub is_on : ℕ → Option Change → Bool
is_on m None = false
is_on m (Some e) = e.map == m

-- of map m
pub record ShowsChangeOf (l : Layout) (i : Input) (s : State) (v : Env (Name Part)) (m : ℕ) : Type 0 where
  pub any : v.net (l.changes m).any ≡ bit (is_on m (change_of l.build s (action_in l.build i s)))
  pub by_host : v.net (l.changes m).by_host ≡ bit (is_host (action_in l.build i s) && is_on m (change_of l.build s (action_in l.build i s)))
  pub slot : (e : Change) → change_of l.build s (action_in l.build i s) ≡ Some e → e.map ≡ m → number_in v (l.changes m).slot ≡ e.slot
  pub key : (e : Change) → change_of l.build s (action_in l.build i s) ≡ Some e → e.map ≡ m → bytes_of (decl_of l.decls m).key (map_list (number_in v) (l.changes m).key) ≡ e.key
  pub presence : (e : Change) → change_of l.build s (action_in l.build i s) ≡ Some e → e.map ≡ m → number_in v (l.changes m).presence ≡ number_of_bit e.presence

abbrev pub ShowChanges : Layout → Input → State → Env (Name Part) → Type 0
ShowChanges l i s v = (m : ℕ) → m < length l.decls → ShowsChangeOf l i s v m

-- ---- the answer of the packet in the last place

-- A byte for which an operand stands is the value of its cell.
pub record ShowsByte (l : Layout) (v : Env (Name Part)) (x : Packet) (a : AnswerByte (Name Part)) : Type 0 where
  pub byte : FrameByte
  pub changed : Contains (program_of l).frame byte
  pub at : byte.at ≡ a.at
  pub value : number_in v a.operand ≡ stage_value x.held byte.cell
  pub small : stage_value x.held byte.cell < 256

pub record ShowsAnswer (l : Layout) (v : Env (Name Part)) (x : Packet) : Type 0 where
  pub verdict : number_in v l.answer.verdict ≡ stage_value x.held (program_of l).verdict
  pub verdict_small : stage_value x.held (program_of l).verdict < 2 ^ 32
  pub target : number_in v l.answer.target ≡ stage_value x.held (program_of l).target
  pub target_small : stage_value x.held (program_of l).target < 2 ^ 32
  pub bytes : (a : AnswerByte (Name Part)) → Contains l.answer.bytes.items a → ShowsByte l v x a

pub record ShowAnswers (l : Layout) (s : State) (v : Env (Name Part)) : Type 0 where
  pub fit : AreFit v (output_operands l.answer)
  pub is : (x : Packet) → place_at s.places (last_of l) ≡ Some x → ShowsAnswer l v x
