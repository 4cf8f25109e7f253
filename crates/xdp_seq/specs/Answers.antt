-- What the run of a packet answers.
use Rattle.std.specs.Prelude.{ℕ, ◌≡◌, List, Result, Ok, Err}
use Rattle.xdp_state.specs.xdp_maps.State.{MapState}
use Rattle.xdp_state.specs.xdp_machine.State.{Machine}
use Rattle.xdp_state.specs.xdp_machine.Runs.{Progress, Ended as AtEnd, Stuck as AtStuck, Going}
use Rattle.xdp_seq.specs.declared.run.Ended.{Ended}
use Rattle.xdp_seq.specs.declared.run.SeqError.{SeqError}
use Rattle.xdp_seq.specs.declared.run.SeqError.TheVariants.{Stuck, Spent}

-- the machine stands at this place, with this frame and these maps
pub record Stands (at : ℕ) (frame : List ℕ) (maps : MapState) (m : Machine) : Type 0 where
  pub place_is : m.place ≡ at
  pub frame_is : m.frame ≡ frame
  pub maps_are : m.maps ≡ maps

-- Of how far a run came: it ended, with this frame and these maps; or the machine stands at a place, with this frame and these
-- maps, and its next step has no case, or it might go on.
abbrev pub Answers : Result Ended SeqError → Progress → List ℕ → MapState → Type 0
Answers (Ok e) r frame maps = r ≡ AtEnd (record { verdict = e.verdict; target = e.target; frame = frame; maps = maps })
Answers (Err (Stuck at)) r frame maps = (m : Machine) × (r ≡ AtStuck m) × Stands at frame maps m
Answers (Err (Spent at)) r frame maps = (m : Machine) × (r ≡ Going m) × Stands at frame maps m
