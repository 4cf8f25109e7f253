use Rattle.std.proofs.Common.{ℕ, ◌<◌, ◌≤◌, All, take}
use Rattle.pipe_parts.proofs.turn_parts.action.slot_bits.Given as goal

abbrev pub invariant-loop-form : goal.invariant-loop-form
invariant-loop-form l = record {
  some : 0 < l.most;
  most : l.most ≤ 16;
  least : (w : ℕ) → 0 < w → All (λ f. f.bits ≤ w) l.forms → l.most ≤ w;
  each : All (λ f. f.bits ≤ l.most) (take l.form-index l.forms);
}
