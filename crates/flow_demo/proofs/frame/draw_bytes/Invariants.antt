use Rattle.std.proofs.Common.{◌≡◌, ℕ, ◌<◌, get_or}
use Rattle.flow_demo.specs.Draws.{draw, state_after}
use Rattle.flow_demo.specs.Packets.{byte_at}
use Rattle.flow_demo.proofs.frame.draw_bytes.Given as goal

abbrev pub invariant-loop-place : goal.invariant-loop-place
invariant-loop-place l = record {
  state : l.draws ≡ state_after l.initial.draws l.place;
  bytes : (k : ℕ) → k < l.place → get_or l.frame k 0 ≡ byte_at k (draw l.initial.draws k);
}
