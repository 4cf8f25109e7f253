use Rattle.std.proofs.Common.{◌≡◌, ◌-◌}
use Rattle.btf_view.specs.Members.{member_before, named}
use Rattle.btf_view.proofs.members.Members.member_before.Given as goal
use Rattle.list_laws.specs.Firsts.{first_from}

-- the members so far have other names
abbrev pub invariant-loop-k : goal.invariant-loop-k
invariant-loop-k l =
    member_before l.self l.i l.name ≡ first_from (named l.self l.name) l.k (l.i - l.k)
