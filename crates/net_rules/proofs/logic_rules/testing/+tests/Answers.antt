use Rattle.std.specs.Prelude.{◌≡◌, ◌==◌, if◌then◌else◌, Bool, true, false}
use Rattle.std.proofs.Common.{refl, sym, ap, ◌∙◌}
use Rattle.net_core.specs.declared.tree.Word.{Word}
use Rattle.net_core.specs.declared.tree.Op.{Op}
use Rattle.net_core.specs.View.{tree_of}
use Rattle.net_core.specs.Value.{value, apply, conditional}
use Rattle.net_rules.proofs.OkLaws.{ok_by, ok_ap}
use Rattle.net_rules.proofs.logic_rules.testing.+tests.Goals as goal

one_of : (t : Bool) (op : Op) (a b w : Word) → (if t then apply op b w else apply op a w) ≡ apply op (if t then b else a) w
one_of true op a b w = refl
one_of false op a b w = refl

-- what is chosen of two comparisons compares what is chosen of the two words
of_choice : (op : Op) (x a b w : Word) → conditional x (apply op a w) (apply op b w) ≡ apply op (conditional x a b) w
of_choice op x a b w = one_of (x.value == 0) op a b w

pub returns-in-Conditional : goal.returns-in-Conditional
returns-in-Conditional t c v fit =
    let op = c.args.op in
    let w = c.args.word in
    let x = value v (tree_of c.in-Conditional.c.value) in
    let a = value v (tree_of c.in-Conditional.a.value) in
    let b = value v (tree_of c.in-Conditional.b.value) in
    ok_by c.chosen.result (λ r. value v (tree_of r)) _ _
    (c.chosen.ensures v x (apply op a w) (apply op b w) fit
    (ok_by c.copied.result (λ r. value v (tree_of r)) _ _ (ok_ap c.copied.result tree_of (value v) _ c.copied.ensures) (ap (λ e. value v (tree_of e)) c.deref-in-Conditional-2.ensures))
    (ok_by c.tested-a.result (λ r. value v (tree_of r)) _ _ (c.tested-a.ensures v fit) (ap (λ e. apply op (value v (tree_of e)) w) c.deref.ensures))
    (ok_by c.tested-b.result (λ r. value v (tree_of r)) _ _ (c.tested-b.ensures v fit) (ap (λ e. apply op (value v (tree_of e)) w) c.deref-in-Conditional.ensures)))
    (of_choice op x a b w ∙ sym (ap (λ e. apply op (value v (tree_of e)) w) c.in-Conditional.is))
