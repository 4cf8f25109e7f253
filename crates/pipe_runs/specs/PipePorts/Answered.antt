-- What is wanted of the answers of a pipeline: each packet is answered by its cell run, on the maps that the one before it left.
use Rattle.std.specs.Prelude.{◌≡◌, ℕ, List, [], ◌∷◌}
use Rattle.cell_core.specs.xdp_maps.State.{MapState}
use Rattle.cell_core.specs.xdp_machine.Runs.{Leaves}
use Rattle.cell_core.specs.Sites.{ProgramView, IsCellRun, leaves}
use Rattle.cell_core.specs.beat_core.declared.answer.Answer.{Answer}
use Rattle.cell_core.specs.beat_core.Ports.{Arrival}
use Rattle.pipe_core.specs.Machine.{packet_of}

-- an answer as it goes over the ports
abbrev pub answer_of : Leaves → Answer
answer_of e = record { verdict = e.verdict; target = e.target; frame = e.frame }

-- A packet is answered by what its cell run on these maps leaves.
pub record IsAnswered (p : ProgramView) (maps : MapState) (packet : Arrival) (answer : Answer) : Type 0 where
  pub values : ℕ → ℕ
  pub run : IsCellRun (packet_of packet) maps p values
  pub is : answer ≡ answer_of (leaves values (packet_of packet) maps p)

-- and packets one after another, of which the last leaves these maps
abbrev pub AreAnswered : ProgramView → MapState → List Arrival → List Answer → MapState → Type 0
AreAnswered p maps [] [] last = last ≡ maps
AreAnswered p maps [] (r ∷ rs) last = ⊥
AreAnswered p maps (c ∷ cs) [] last = ⊥
AreAnswered p maps (c ∷ cs) (r ∷ rs) last =
    (first : IsAnswered p maps c r) × AreAnswered p (leaves first.values (packet_of c) maps p).maps cs rs last
