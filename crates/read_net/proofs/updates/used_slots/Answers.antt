use Rattle.std.proofs.Common.{sym, arith}
use Rattle.xdp_maps.proofs.LimitLaws.{cap_few}
use Rattle.read_net.proofs.UsedLemmas.{array_used}
use Rattle.read_net.proofs.updates.used_slots.Goals as goal

pub returns-in-Hash : goal.returns-in-Hash
returns-in-Hash g c = record { operand = c.requires.used; narrow = c.requires.used_narrow; there = λ ins h. h 0 c.args.map.now.used (omega arith); number = λ v slots is e. e c.in-Hash.is }

pub returns-in-Array : goal.returns-in-Array
returns-in-Array g c =
    let d = c.args.map.now.decl.now in
    let few = cap_few d c.requires.limits in
    record { operand = omega (arith, few); narrow = omega (arith, few); there = λ ins h. tt; number = λ v slots is e. sym (array_used d slots c.in-Array.is is) }
