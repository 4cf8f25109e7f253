-- What each clock of the pipe keeps of all clocks so far.
use Rattle.std.specs.Prelude.{◌≡◌, false, None, List}
use Rattle.hazard_core.specs.xdp_maps.declared.decl.MapDecl.{MapDecl}
use Rattle.hazard_core.specs.xdp_maps.State.{MapState}
use Rattle.pipe_core.specs.Machine.{State, Input, Build, some_send, clock}
use Rattle.pipe_core.specs.History.{IsInOrder}
use Rattle.pipe_core.specs.Computed.{IsPlanned, IsComputed}
use Rattle.pipe_core.specs.SeenChanges.{SeenChanges, observed}
use Rattle.pipe_core.specs.Marked.{AreMarked}
use Rattle.pipe_core.specs.Pipeable.{IsPipelinable}
use Rattle.pipe_core.specs.Right.{IsRight}
use Rattle.pipe_core.specs.SequentialOrder.{IsSequential}
use Rattle.pipe_core.specs.Prefix.{AreAhead}
use Rattle.pipe_core.specs.ChangeCauses.{HaveChangeCauses}
use Rattle.pipe_core.specs.Found.{AreFound}

-- where clocks that end in this state have a point, they have it with one clock more
abbrev pub Keeps : Build → Input → State → (SeenChanges → Type 0) → Type 0
Keeps b i s Point = (w : SeenChanges) → w.trace.state ≡ s → IsInOrder b w.trace → Point w → Point (observed b i w)

-- and where they have it and packets run one after another
abbrev pub KeepsInTurn : Build → MapState → Input → State → (SeenChanges → Type 0) → Type 0
KeepsInTurn b maps i s Point = (w : SeenChanges) → w.trace.state ≡ s → IsInOrder b w.trace → IsSequential b maps w → Point w → Point (observed b i w)

-- A clock takes the pipe from one state to another, and keeps the points: frames and answers are in order; each packet's cells are computed from its
-- own; a mark stands exactly where a change touched what a packet has read. While the host is silent: packets hold what they would read now but for
-- what is marked, and what is committed is right; and the packets that left are runs one after another. Then what packets hold is a run's up to the
-- first marked read; what updates found stays right; and where nothing is sent back each change that a packet has seen was made shortly before it.
pub record KeepsPoints (b : Build) (i : Input) (old new : State) : Type 0 where
  pub state : (w : SeenChanges) → w.trace.state ≡ old → (observed b i w).trace.state ≡ new
  pub order : (w : SeenChanges) → w.trace.state ≡ old → IsInOrder b w.trace → IsInOrder b (observed b i w).trace
  pub computed : IsPlanned b → Keeps b i old (λ w. IsComputed b w.trace)
  pub marked : Keeps b i old (AreMarked b)
  pub right : (decls : List MapDecl) → IsPipelinable decls b → i.host ≡ None → Keeps b i old (IsRight b decls)
  pub sequential : (maps : MapState) → IsPipelinable maps.decls b → i.host ≡ None → Keeps b i old (IsSequential b maps)
  pub ahead : (maps : MapState) → IsPipelinable maps.decls b → i.host ≡ None → (w : SeenChanges) → w.trace.state ≡ old → IsInOrder b w.trace → IsSequential b maps w → AreAhead b (observed b i w)
  pub change_causes : (maps : MapState) → IsPipelinable maps.decls b → i.host ≡ None → some_send b 0 old.places ≡ false → KeepsInTurn b maps i old (HaveChangeCauses b maps)
  pub found : (maps : MapState) → IsPipelinable maps.decls b → i.host ≡ None → KeepsInTurn b maps i old (AreFound b)

abbrev pub ClocksKeepPoints : Type 0
ClocksKeepPoints = (b : Build) (i : Input) (s : State) → KeepsPoints b i s (clock b i s)
