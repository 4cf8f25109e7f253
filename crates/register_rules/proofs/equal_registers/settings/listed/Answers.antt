use Rattle.std.proofs.Common.{◌∙◌, ap, subst, map}
use Rattle.register_rules.specs.EqualRegisters.Settings.{setting_of, AreListed}
use Rattle.register_rules.proofs.equal_registers.settings.listed.Goals as goal

pub returns : goal.returns
returns c = subst (AreListed c.args.count c.in_ok-lists.lists.items) (ap (map setting_of) c.deref.ensures.value ∙ c.in_ok-all.ensures) c.in_ok-lists.ensures
