-- Packets that are given to a driver, as it needs them.
use Rattle.std.specs.Prelude.{◌≡◌, ℕ, ◌+◌, ◌-◌, ◌<◌, ◌≤◌, List, length, take, true, if◌then◌else◌}
use Rattle.beat_core.specs.declared.frame.Timed.{Timed}
use Rattle.net_core.specs.Nets.{Netlist}
use Rattle.net_core.specs.Clock.{Stored}
use Rattle.net_core.specs.Trace.{Cycle}
use Rattle.port_drive.specs.Driving.{Driving, Fits}

-- how many packets of so many are still to be given, and that no more come is still to be said
abbrev pub to_come : ℕ → Driving → ℕ
to_come many v = many - v.given + (if v.ended then 0 else 1)

-- One more of the packets was given, or it was said that no more come.
pub record GivesOn (packets : List Timed) (old new : Driving) : Type 0 where
  pub fits : (d : Netlist) (first s : Stored) (ms : List Cycle) → Fits old d first s (take old.given packets) ms → Fits new d first s (take new.given packets) ms
  pub given : new.given ≤ length packets
  pub all : new.ended ≡ true → new.given ≡ length packets
  pub answers : new.answers ≡ old.answers
  pub ifindex : new.ifindex ≡ old.ifindex
  pub limit : new.limit ≡ old.limit
  pub less : to_come (length packets) new < to_come (length packets) old
