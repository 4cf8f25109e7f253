-- What the parts say of the host is what the machine of the pipeline says.
use Rattle.std.specs.Prelude.{◌≡◌, ℕ, ◌+◌, ◌<◌, Bool, Some, is_some, List, length}
use Rattle.net_core.specs.Nets.{Tree}
use Rattle.net_core.specs.Value.{word, bit, Env, value}
use Rattle.block_core.specs.declared.name.Name.{Name}
use Rattle.block_core.specs.Blocks.{BlockTree}
use Rattle.block_core.specs.Parts.{Solve}
use Rattle.hazard_core.specs.declared.access.Access.{Access}
use Rattle.hazard_core.specs.Tables.{TableState}
use Rattle.commit_net.specs.declared.map_block.form.MapForm.{MapForm}
use Rattle.commit_net.specs.MapBlock.Stored.{may_here, shown_here}
use Rattle.read_net.specs.pipe_core.Machine.{Build, State, place_at, is_idle, host_ready, host_writes, host_value}
use Rattle.turn_net.specs.declared.host_net.names.HostNets.{HostNets}
use Rattle.turn_net.specs.declared.host_net.names.Wire.TheVariants.{Idle, Ready, Writes}
use Rattle.turn_net.specs.HostNet.Names.{wire_name, value_name}
use Rattle.turn_net.specs.HostNet.Host.{Signals, Sees, may_tree, IsHost}
use Rattle.turn_net.specs.HostNet.Values.{word_name, IsValue}

-- what the part sees of a state of the machine and an access of the host: as many frames are inside as have no answer or one that is not given wholly
pub record Shows (b : Build) (s : State) (a : Access) (i : Signals) : Type 0 where
  pub partial : i.partial ≡ is_some s.part
  pub inside : i.given + (length s.answers + length s.frames) ≡ i.gathered
  pub present : i.present ≡ is_some (place_at s.places b.plan.commit)
  pub done : i.done ≡ s.done
  pub write : i.write ≡ is_some a.write

-- the maps of the program, by their numbers
abbrev pub AreNumbered : ℕ → (ℕ → MapForm) → Type 0
AreNumbered maps forms = (k : ℕ) → k < maps → (forms k).number ≡ k

-- the trees of the maps say of each whether the host names a word of it that it may write
abbrev pub LetWrite : {P : Type 0} → Env (Name P) → List (Tree (Name P)) → (ℕ → MapForm) → State → Access → Type 0
LetWrite v may forms s a = (k : ℕ) → k < length may → value v (may_tree may k) ≡ bit (may_here (forms k) (is_idle s) s.tables a)

-- The wires of the part that says what the host may do: the last one is 1 exactly where the host writes.
pub record Follows {P : Type 0} (part : P) (may : List (Tree (Name P))) (v : Env (Name P)) (b : Build) (s : State) (a : Access) : Type 0 where
  pub idle : v.net (wire_name part Idle) ≡ bit (is_idle s)
  pub ready : v.net (wire_name part Ready) ≡ bit (host_ready b s)
  pub writes : (forms : ℕ → MapForm) → AreNumbered (length may) forms → length may ≡ length s.tables.decls → LetWrite v may forms s a → v.net (wire_name part Writes) ≡ bit (is_some (host_writes (host_ready b s) (is_idle s) s.tables (Some a)))

abbrev pub HostFollows : (P : Type 0) → Type 0
HostFollows P =
    (part : P) (nets : HostNets P) (may : List (Tree (Name P))) (block : BlockTree (Name P)) (v : Env (Name P)) (slots slot_bits done_bits : ℕ) (i : Signals) (b : Build) (s : State) (a : Access) → IsHost part nets may block → Solve v part 0 block.wires
    → Sees slots slot_bits done_bits nets i v → Shows b s a i → Follows part may v b s a

-- What the host writes is what its access says.
abbrev pub WritesItsNumber : Type 0
WritesItsNumber = (r idle : Bool) (t : TableState) (a : Access) (w : Access × ℕ) → host_writes r idle t (Some a) ≡ Some w → (w.0 ≡ a) × (a.write ≡ Some w.1)

-- The word that the host reads, from those that the maps show.
abbrev pub ValueFollows : (P : Type 0) → Type 0
ValueFollows P =
    (part : P) (ready : Name P) (words : List (Name P)) (block : BlockTree (Name P)) (v : Env (Name P)) (r : Bool) (t : TableState) (a : Access) (forms : ℕ → MapForm) → IsValue part ready words block → Solve v part 0 block.wires → v.net ready ≡ bit r
    → AreNumbered (length words) forms → length words ≡ length t.decls → ((k : ℕ) → k < length words → v.net (word_name words k) ≡ word 64 (shown_here (forms k) t a)) → v.net (value_name part) ≡ word 64 (host_value r t (Some a))
