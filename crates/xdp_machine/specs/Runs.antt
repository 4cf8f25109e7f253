-- The run of a packet, and of packets one after another.
use Rattle.std.specs.Prelude.{ℕ, zero, suc, ◌≡◌, List, [], ◌∷◌}
use Rattle.xdp_maps.specs.State.{MapState}
use Rattle.xdp_machine.specs.State.{Code, Machine, PacketIn, start}
use Rattle.xdp_machine.specs.Step.{Outcome, Goes, Ends, NoCase, step}

-- what a packet leaves with: its verdict, the interface of a redirect, its frame and the maps
pub record Leaves : Type 0 where
  pub verdict : ℕ
  pub target : ℕ
  pub frame : List ℕ
  pub maps : MapState

abbrev pub leaves : ℕ → Machine → Leaves
leaves verdict m = record { verdict = verdict; target = m.target; frame = m.frame; maps = m.maps }

-- how far a run has come: to its end, to a machine whose next step has no case, or to one that may go on
pub data Progress : Type 0 where
  Ended : Leaves → Progress
  Stuck : Machine → Progress
  Going : Machine → Progress

-- a step, and what follows where it leads on
abbrev pub then_on : (Machine → Progress) → Machine → Outcome → Progress
then_on more m (Goes next) = more next
then_on more m (Ends verdict) = Ended (leaves verdict m)
then_on more m NoCase = Stuck m

-- so many steps, or fewer where the run ends or is stuck before
unfoldable pub run : Code → ℕ → Machine → Progress
run code zero m = Going m
run code (suc n) m = then_on (run code n) m (step code m)

-- The packet run: from its start the machine comes to this end.
abbrev pub IsRun : Code → PacketIn → MapState → Leaves → Type 0
IsRun code packet maps e = (n : ℕ) × (run code n (start packet maps) ≡ Ended e)

-- The capture run: each packet's run begins with the maps that the one before left, and these are the last.
abbrev pub AreRuns : Code → MapState → List PacketIn → List Leaves → MapState → Type 0
AreRuns code maps [] [] last = last ≡ maps
AreRuns code maps [] (e ∷ es) last = ⊥
AreRuns code maps (packet ∷ packets) [] last = ⊥
AreRuns code maps (packet ∷ packets) (e ∷ es) last = IsRun code packet maps e × AreRuns code e.maps packets es last
