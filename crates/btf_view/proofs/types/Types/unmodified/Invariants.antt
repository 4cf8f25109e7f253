use Rattle.std.proofs.Common.{◌≡◌, ◌-◌}
use Rattle.btf_view.specs.Sizes.{most_types, unmodified}
use Rattle.btf_view.proofs.types.Types.unmodified.Given as goal

-- the types that are left give what all give
abbrev pub invariant-loop : goal.invariant-loop
invariant-loop l = unmodified l.self most_types l.fn.id ≡ unmodified l.self (most_types - l.counter) l.id
