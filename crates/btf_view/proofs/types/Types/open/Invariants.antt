use Rattle.std.proofs.Common.{◌≡◌, ◌-◌, ◌*◌, ◌≤◌, length}
use Rattle.btf_view.specs.Rules.{type_fault, types_fault}
use Rattle.btf_view.specs.Types.{end_of}
use Rattle.btf_view.proofs.Walks.{left}
use Rattle.btf_view.proofs.types.Types.open.Given as goal

-- types 1 to `id` end at the place, and have no fault
abbrev pub invariant-loop-at : goal.invariant-loop-at
invariant-loop-at l = record {
  place : l.at ≡ end_of l.bytes l.id;
  inside : l.at ≤ length l.bytes;
  few : 12 * l.id ≤ l.at;
  rest : types_fault l.bytes ≡ left l.bytes (type_fault l.bytes) l.id;
}

abbrev pub decreases-loop-at : goal.decreases-loop-at
decreases-loop-at l = length l.bytes - l.at
