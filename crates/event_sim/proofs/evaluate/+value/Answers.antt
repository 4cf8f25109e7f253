use Rattle.std.proofs.Common.{ap, sym, ◌∙◌}
use Rattle.net_core.specs.declared.tree.Word.{Word}
use Rattle.net_core.specs.Value.{value}
use Rattle.net_core.specs.Clock.{memory_word_value}
use Rattle.net_core.specs.View.{tree_of}
use Rattle.event_sim.specs.Views.{env_in}
use Rattle.event_sim.proofs.Choices.{first_is, second_is}
use Rattle.event_sim.proofs.Reading.{fits, of_unary, operands, joined}
use Rattle.event_sim.proofs.evaluate.+value.Goals as goal

pub value_of-apply_unary-requires : goal.value_of-apply_unary-requires
value_of-apply_unary-requires t c =
    let r = rw c.in-Unary.is at c.requires in
    rw (c.value_of-argument.ensures, c.deref-in-Unary.ensures) (fits (env_in c.args.values.now) _ (of_unary (env_in c.args.values.now) _ _ r))

pub value_of-apply-requires : goal.value_of-apply-requires
value_of-apply-requires t c =
    let r = rw c.in-Binary.is at c.requires in
    rw (c.value_of-left.ensures, c.deref-in-Binary.ensures, c.value_of-right.ensures, c.deref-in-Binary-2.ensures) (operands (env_in c.args.values.now) _ _ _ r)

pub value_of-returns-in-MemoryWord : goal.value_of-returns-in-MemoryWord
value_of-returns-in-MemoryWord t c =
    rw c.in-MemoryWord.is
    (c.memory_word.ensures
    ∙ ap (λ (x : Word). memory_word_value c.args.values.now.held c.in-MemoryWord.memory x.value) (c.value_of-at.ensures ∙ ap (λ e. value (env_in c.args.values.now) (tree_of e)) c.deref.ensures))

pub value_of-returns-in-Unary : goal.value_of-returns-in-Unary
value_of-returns-in-Unary t c = rw c.in-Unary.is cc

pub value_of-returns-in-Binary : goal.value_of-returns-in-Binary
value_of-returns-in-Binary t c = rw c.in-Binary.is cc

pub value_of-returns-then-test-eq0 : goal.value_of-returns-then-test-eq0
value_of-returns-then-test-eq0 t c =
    let test = c.value_of-test.ensures ∙ ap (λ e. value (env_in c.args.values.now) (tree_of e)) c.deref-in-Conditional.ensures in
    rw c.in-Conditional.is
    (c.value_of.ensures ∙ ap (λ e. value (env_in c.args.values.now) (tree_of e)) c.deref-then-test-eq0.ensures
    ∙ second_is (value (env_in c.args.values.now) (tree_of c.in-Conditional.c.value)) (value (env_in c.args.values.now) (tree_of c.in-Conditional.a.value)) (value (env_in c.args.values.now) (tree_of c.in-Conditional.b.value)) (ap (λ (x : Word). x.value) (sym test) ∙ c.if-test-eq0.true))

pub value_of-returns-else-test-eq0 : goal.value_of-returns-else-test-eq0
value_of-returns-else-test-eq0 t c =
    let test = c.value_of-test.ensures ∙ ap (λ e. value (env_in c.args.values.now) (tree_of e)) c.deref-in-Conditional.ensures in
    rw c.in-Conditional.is
    (c.value_of-else-test-eq0.ensures ∙ ap (λ e. value (env_in c.args.values.now) (tree_of e)) c.deref-else-test-eq0.ensures
    ∙ first_is (value (env_in c.args.values.now) (tree_of c.in-Conditional.c.value)) (value (env_in c.args.values.now) (tree_of c.in-Conditional.a.value)) (value (env_in c.args.values.now) (tree_of c.in-Conditional.b.value)) (λ z. c.if-test-eq0.false (ap (λ (x : Word). x.value) test ∙ z)))

pub value_of_parts-concatenated-requires : goal.value_of_parts-concatenated-requires
value_of_parts-concatenated-requires t c =
    let r = rw c.in-More.is at c.requires in
    rw (c.value_of-first.ensures, c.value_of_parts-rest.ensures, c.deref.ensures) (joined (env_in c.args.values.now) _ _ r)

pub value_of_parts-returns-in-More : goal.value_of_parts-returns-in-More
value_of_parts-returns-in-More t c = rw c.in-More.is cc
