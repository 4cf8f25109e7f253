use Rattle.std.proofs.Common.{◌≡◌, [], ◌∙◌, ap, sym, subst, arith, vec_len, length, map}
use Rattle.std.proofs.lemmas.Bool.{eqb-true}
use Rattle.std.proofs.lemmas.List.{nil_from_length}
use Rattle.net_core.specs.View.{netlist_of, statement_of}
use Rattle.net_core.specs.Clock.{first_words}
use Rattle.register_rules.specs.EqualRegisters.Equal.{StayEqual}
use Rattle.register_rules.specs.EqualRegisters.Settings.{block_settings, AreListed}
use Rattle.register_rules.proofs.EqualRegisters.CountLaws.{own_stay}
use Rattle.register_rules.proofs.EqualRegisters.StayLemmas.{stay_equal}
use Rattle.register_rules.proofs.equal_registers.finding.equal_registers.Goals as goal

pub returns-then-len : goal.returns-then-len
returns-then-len c = subst (StayEqual (netlist_of c.args.design.now)) (sym c.new.ensures.items) (own_stay (netlist_of c.args.design.now))

pub returns-then-is_empty : goal.returns-then-is_empty
returns-then-is_empty c =
    let none : vec_len c.in_ok-others.others ≡ 0 = eqb-true (vec_len c.in_ok-others.others) 0 (sym c.is_empty.ensures ∙ c.if-is_empty.true) in
    let empty : c.in_ok-others.others.items ≡ [] = nil_from_length c.in_ok-others.others.items (omega (arith, none)) in
    let told = rw (c.deref-in-loop.ensures.value, c.deref-in-loop-2.ensures.value) at c.in_ok-wires.ensures in
    let repeats = rw (c.deref-in-loop-4.ensures.value, c.deref-in-loop-5.ensures.value, c.deref-in-loop-6.ensures.value, c.deref-in-loop-7.ensures.value) at c.in_ok-others.ensures in
    let always = map statement_of c.args.design.now.always.items in
    let count : c.len-count.result ≡ length c.in_ok-words.words.items = omega (arith, c.len-count.ensures) in
    let listed = subst (λ n. AreListed n c.in_ok-lists.lists.items (block_settings 0 always)) count (rw c.deref-2.ensures.value at c.in_ok-lists.ensures) in
    stay_equal (netlist_of c.args.design.now) c.loop.guess.registers.items c.in_ok-wires.wires.items c.in_ok-words.words.items (c.in_ok-words.ensures ∙ ap first_words c.deref.ensures.value) (repeats empty always listed) told

pub returns : goal.returns
returns c = subst (StayEqual (netlist_of c.args.design.now)) (sym c.new-2.ensures.items) (own_stay (netlist_of c.args.design.now))
