use Rattle.std.proofs.Common.{◌∙◌, sym, subst}
use Rattle.register_rules.specs.EqualRegisters.Settings.{IsSetAlike, list_at, of_register, block_settings}
use Rattle.register_rules.specs.NarrowRegisters.Narrow.{Each}
use Rattle.register_rules.proofs.EqualRegisters.SettingLaws.{set_repeats, own_repeats}
use Rattle.register_rules.proofs.equal_registers.repeating.repeats.Goals as goal

pub returns-then-j-k : goal.returns-then-j-k
returns-then-j-k c e always are = own_repeats c.args.words.now c.args.registers.now c.args.wires.now always c.args.k (sym c.first-j.ensures ∙ c.if-j-k.true)

pub returns : goal.returns
returns c e always are =
    let j = c.first-j.result in
    let k = c.args.k in
    let begin = c.begin_alike.ensures c.if-not-begin_alike.false in
    let all = block_settings 0 always in
    set_repeats c.args.words.now c.args.registers.now c.args.wires.now always k j c.first-j.ensures begin.0 begin.1 begin.2
    (λ v nets. subst (λ xs. Each (IsSetAlike v) xs (of_register j all)) (are.each k begin.0) (subst (λ ys. Each (IsSetAlike v) (list_at c.args.lists.now k) ys) (are.each j begin.1) (c.keeps_alike.ensures e v nets)))
