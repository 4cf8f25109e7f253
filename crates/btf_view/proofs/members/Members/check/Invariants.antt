use Rattle.std.proofs.Common.{◌≡◌, ◌-◌}
use Rattle.btf_view.specs.Members.{member_fault, members_fault}
use Rattle.btf_view.proofs.members.Members.check.Given as goal
use Rattle.list_laws.specs.Firsts.{first_from}

-- the members so far have no fault
abbrev pub invariant-loop-i : goal.invariant-loop-i
invariant-loop-i l =
    members_fault l.self ≡ first_from (member_fault l.self) l.i (l.self.count - l.i)
