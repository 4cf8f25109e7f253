-- Why there is no edge.
use Rattle.std.specs.Prelude.{◌≡◌, ℕ, ◌<◌, true, false, Some, None, List}
use Rattle.net_core.specs.Clock.{stopping}
use Rattle.event_sim.specs.declared.refusal.EdgeError.{EdgeError}
use Rattle.event_sim.specs.declared.refusal.EdgeError.TheVariants.{Busy, Order, XValue}
use Rattle.event_sim.specs.Events.{State, net_count, block_count, is_active, IsQuiet}
use Rattle.event_sim.specs.Orders.{IsOrder}

-- the net is active, and none before it
pub record IsFirstActive (s : State) (n : ℕ) : Type 0 where
  pub there : n < net_count s.netlist
  pub active : is_active s n ≡ true
  pub before : (m : ℕ) → m < n → is_active s m ≡ false

-- nothing stands against it
pub record MayEdge (s : State) (blocks : List ℕ) : Type 0 where
  pub quiet : IsQuiet s
  pub order : IsOrder (block_count s.netlist) blocks
  pub runs : stopping s.netlist s.ins s.stored ≡ None

-- A net is active, the first. Or else the blocks are not each always block once. Or else a divisor is zero, and the wire is
-- that at which the clock stops.
abbrev pub IsRefused : State → List ℕ → EdgeError → Type 0
IsRefused s blocks (Busy n) = IsFirstActive s n
IsRefused s blocks Order = IsQuiet s × (¬ IsOrder (block_count s.netlist) blocks)
IsRefused s blocks (XValue n) = IsQuiet s × IsOrder (block_count s.netlist) blocks × (stopping s.netlist s.ins s.stored ≡ Some n)
