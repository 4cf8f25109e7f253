use Rattle.std.proofs.Common.{◌≡◌, ◌-◌, ◌*◌, ◌<◌, ◌≤◌, length}
use Rattle.btf_view.specs.Types.{end_of}
use Rattle.btf_view.proofs.types.Types.place_of.Given as goal

-- types 1 to `last` end at the place, and are others
abbrev pub invariant-loop-at : goal.invariant-loop-at
invariant-loop-at l = record {
  place : l.at ≡ end_of l.self-inside.bytes.now l.last;
  inside : l.at ≤ length l.self-inside.bytes.now;
  few : 12 * l.last ≤ l.at;
  others : 0 < l.id → l.last < l.id;
}

abbrev pub decreases-loop-at : goal.decreases-loop-at
decreases-loop-at l = length l.self-inside.bytes.now - l.at
