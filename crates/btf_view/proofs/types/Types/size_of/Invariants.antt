use Rattle.std.proofs.Common.{◌≡◌, ◌-◌}
use Rattle.btf_view.specs.Sizes.{capped, map_ok, most_types, size_of}
use Rattle.btf_view.proofs.Chains.{scaled}
use Rattle.btf_view.proofs.types.Types.size_of.Given as goal

-- so many times the size of the type that is left is the whole size
abbrev pub invariant-loop : goal.invariant-loop
invariant-loop l =
    map_ok capped (size_of l.self l.member most_types l.fn.id) ≡ scaled l.times (size_of l.self l.member (most_types - l.counter) l.id)
