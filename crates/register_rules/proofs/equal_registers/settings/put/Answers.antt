use Rattle.std.proofs.Common.{◌∙◌, ap, arith, map}
use Rattle.std.proofs.Math.ListN.{length-set}
use Rattle.std.proofs.lemmas.List.{map-append}
use Rattle.register_rules.specs.EqualRegisters.Settings.{setting_of}
use Rattle.register_rules.proofs.EqualRegisters.ListLaws.{put_at, put_nowhere}
use Rattle.register_rules.proofs.equal_registers.settings.put.Goals as goal

pub returns-then-k-len-clause-each : goal.returns-then-k-len-clause-each
returns-then-k-len-clause-each c k below = put_nowhere c.args.lists.now.items c.args.setting k (omega arith) below

pub returns-clause-count : goal.returns-clause-count
returns-clause-count c = length-set c.args.lists.now.items c.args.setting.register c.push.new.self

pub returns-clause-each : goal.returns-clause-each
returns-clause-each c k below =
    put_at c.args.lists.now.items c.args.setting c.index_mut.result.now c.push.new.self k (omega arith) c.index_mut.ensures.value
    (ap (map setting_of) c.in_ok-push.ensures.items ∙ map-append setting_of c.index_mut.result.now.items _)
