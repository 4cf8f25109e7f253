use Rattle.std.proofs.Common.{◌≡◌, ◌∙◌, sym, ap, subst, rules}
use Rattle.net_core.specs.declared.tree.UnaryOp.TheVariants as prefix
use Rattle.net_core.specs.View.{tree_of}
use Rattle.net_core.specs.Value.{value, apply_unary}
use Rattle.net_optimize.specs.Flags.{IsFlag}
use Rattle.net_optimize.proofs.NegationLemmas.{flag_twice}
use Rattle.net_optimize.proofs.negation.turned_twice.Goals as goal

pub returns-then-is_flag : goal.returns-then-is_flag
returns-then-is_flag c v =
    let x = value v (tree_of c.in-Unary.inner.value) in
    let is_not : c.in-Unary.op ≡ prefix.Not = search rules in
    let flag : IsFlag x = subst (λ e. IsFlag (value v (tree_of e))) c.deref.ensures (c.is_flag.ensures c.if-is_flag.true v) in
    ap (λ e. value v (tree_of e)) c.into_inner.ensures ∙ flag_twice x flag
    ∙ sym (ap (λ e. apply_unary prefix.Not (value v (tree_of e))) c.in-Unary.is ∙ ap (λ o. apply_unary prefix.Not (apply_unary o x)) is_not)
