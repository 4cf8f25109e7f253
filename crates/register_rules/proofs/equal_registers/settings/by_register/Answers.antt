use Rattle.std.proofs.Common.{ap, subst, map, arith}
use Rattle.std.proofs.lemmas.List.{take_all}
use Rattle.register_rules.specs.EqualRegisters.Settings.{setting_of, AreListed}
use Rattle.register_rules.proofs.EqualRegisters.ListLaws.{listed_more}
use Rattle.register_rules.proofs.equal_registers.settings.by_register.Goals as goal

pub loop-setting-preserved : goal.loop-setting-preserved
loop-setting-preserved c =
    let l = c.loop-setting in
    listed_more c.args.count l.lists.items _ c.args.all.now l.setting-index c.setting-item.result (omega arith) c.setting-item.is c.in_ok-put.ensures.count c.in_ok-put.ensures.each l.invariant

pub returns : goal.returns
returns c =
    let l = c.loop-setting in
    subst (AreListed c.args.count l.lists.items) (ap (map setting_of) (take_all l.setting-index c.args.all.now (omega arith))) l.invariant
