use Rattle.std.proofs.Common.{◌≡◌, ◌≤◌, drop, map, max}
use Rattle.beat_core.specs.declared.frame.TheConstants.{BEAT_LIMIT}
use Rattle.port_drive.specs.realization.Bounds.{most_beats}
use Rattle.ehdl_top.proofs.drive.clock_limit.Given as goal

abbrev pub invariant-loop-packet : goal.invariant-loop-packet
invariant-loop-packet l = record {
  most : max l.most (most_beats (map (λ p. p.frame) (drop l.packet-index l.packets))) ≡ most_beats (map (λ p. p.frame) l.packets);
  bound : l.most ≤ BEAT_LIMIT;
}
