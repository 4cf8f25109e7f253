-- One name more.
use Rattle.std.proofs.Common.{arith, rules, map, string_bytes, ◌∙◌}
use Rattle.std.proofs.lemmas.List.{length-map}
use Rattle.design_rules.proofs.FormedNames.{noted_more, all_noted, name_at}
use Rattle.design_rules.proofs.formed.names.new_names.Goals as goal

pub loop-name-preserved : goal.loop-name-preserved
loop-name-preserved c =
    let names = c.args.names.now in
    let i = c.loop-name.name-index in
    rw c.in_ok-push.ensures.items
    (noted_more (map string_bytes names) i c.loop-name.seen.keys c.insert.new.self.keys c.loop-name.flags.items c.as_bytes.result c.in_ok-added.added (omega (arith, length-map names string_bytes))
    (c.as_bytes.ensures.value ∙ name_at names i c.name-item.result (omega arith) (search rules)) c.in_ok-added.ensures.added c.in_ok-added.ensures.updates.0 c.loop-name.invariant)

pub returns : goal.returns
returns c = all_noted c.args.names.now _ _ _ (omega arith) c.loop-name.invariant
