use Rattle.std.proofs.Common.{◌≡◌, ◌-◌, ◌*◌, ◌≤◌, Ok, None, length, unwrap_or}
use Rattle.btf_view.specs.Types.{end_of}
use Rattle.btf_view.specs.Vars.{first_var, is_var, var_answer}
use Rattle.btf_view.proofs.Walks.{left}
use Rattle.btf_view.proofs.vars.first_var.Given as goal

-- types 1 to `id` end at the place, and are others
abbrev pub invariant-loop-at : goal.invariant-loop-at
invariant-loop-at l = record {
  place : l.at ≡ end_of l.types l.id;
  inside : l.at ≤ length l.types;
  few : 12 * l.id ≤ l.at;
  rest : first_var l.types l.strings l.name
      ≡ unwrap_or (left l.types (λ id at. var_answer id (is_var l.types l.strings l.name at)) l.id) (Ok None);
}

abbrev pub decreases-loop-at : goal.decreases-loop-at
decreases-loop-at l = length l.bytes - l.at
