use Rattle.std.proofs.Common.{map, string_bytes}
use Rattle.design_rules.proofs.FormedNames.{Noted}
use Rattle.design_rules.proofs.formed.names.new_names.Given as goal

abbrev pub invariant-loop-name : goal.invariant-loop-name
invariant-loop-name l = Noted (map string_bytes l.names) l.name-index l.seen.keys l.flags.items
