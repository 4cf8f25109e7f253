use Rattle.std.proofs.Common.{◌≡◌, ◌-◌, length}
use Rattle.cover_core.specs.Settling.{settled, settled_within}
use Rattle.cover_core.proofs.settling.settle.Given as goal

-- what is left of the way settles where the whole does
abbrev pub invariant-loop-step : goal.invariant-loop-step
invariant-loop-step l = settled_within l.program.insns l.kinds (length l.units - l._step) l.place ≡ settled l.program.insns l.kinds l.from
