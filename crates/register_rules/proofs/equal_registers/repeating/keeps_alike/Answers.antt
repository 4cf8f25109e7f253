use Rattle.std.proofs.Common.{subst, map, arith}
use Rattle.register_rules.specs.EqualRegisters.Settings.{setting_of, IsSetAlike, list_at}
use Rattle.register_rules.specs.NarrowRegisters.Narrow.{Each}
use Rattle.register_rules.proofs.EqualRegisters.ListLaws.{at_list}
use Rattle.register_rules.proofs.equal_registers.repeating.keeps_alike.Goals as goal

pub returns : goal.returns
returns c e v nets =
    let lists = c.args.lists.now in
    let a = c.index-lists-one.result in
    let b = c.index-lists-other.result in
    subst (λ xs. Each (IsSetAlike v) xs (list_at lists c.args.k)) (at_list lists c.args.j a c.deref.result.now (omega arith) c.index-lists-one.is c.deref.ensures.value)
    (subst (λ ys. Each (IsSetAlike v) (map setting_of c.deref.result.now) ys) (at_list lists c.args.k b c.deref-2.result.now (omega arith) c.index-lists-other.is c.deref-2.ensures.value)
    (c.are_set_alike.ensures e v nets))
