use Rattle.std.proofs.Common.{sym, subst}
use Rattle.net_core.specs.View.{tree_of}
use Rattle.net_core.specs.Value.{value, apply_unary}
use Rattle.net_optimize.specs.Flags.{IsFlag}
use Rattle.net_optimize.proofs.FlagLemmas.{flag_bit, flag_not, flag_choice, flag_reduced}
use Rattle.net_optimize.proofs.flags.+flags.Goals as goal

pub returns-in-Bit : goal.returns-in-Bit
returns-in-Bit t c h v = subst (λ e. IsFlag (value v (tree_of e))) (sym c.in-Bit.is) (flag_bit (v.net c.in-Bit.field-0) c.in-Bit.field-1)

pub returns-in-ReduceOr : goal.returns-in-ReduceOr
returns-in-ReduceOr t c h v =
    let a = value v (tree_of c.in-Unary.a.value) in
    subst (λ e. IsFlag (value v (tree_of e))) (sym c.in-Unary.is) (subst (λ o. IsFlag (apply_unary o a)) (sym c.in-ReduceOr.is) (flag_reduced a))

pub returns-in-Not : goal.returns-in-Not
returns-in-Not t c h v =
    let a = value v (tree_of c.in-Unary.a.value) in
    subst (λ e. IsFlag (value v (tree_of e))) (sym c.in-Unary.is)
    (subst (λ o. IsFlag (apply_unary o a)) (sym c.in-Not.is) (flag_not a (subst (λ e. IsFlag (value v (tree_of e))) c.deref.ensures (c.is_flag.ensures h v))))

pub returns-then-compares : goal.returns-then-compares
returns-then-compares t c h v =
    subst (λ e. IsFlag (value v (tree_of e))) (sym c.in-Binary.is) (c.compares.ensures c.if-compares.true (value v (tree_of c.in-Binary.a.value)) (value v (tree_of c.in-Binary.b.value)))

pub returns-then-is_flag : goal.returns-then-is_flag
returns-then-is_flag t c h v =
    subst (λ e. IsFlag (value v (tree_of e))) (sym c.in-Binary.is) (c.joins_bits.ensures c.if-not-joins_bits.false (value v (tree_of c.in-Binary.a.value)) (value v (tree_of c.in-Binary.b.value))
    (subst (λ e. IsFlag (value v (tree_of e))) c.deref-in-Binary.ensures (c.is_flag-in-Binary.ensures c.if-is_flag.true v))
    (subst (λ e. IsFlag (value v (tree_of e))) c.deref-then-is_flag.ensures (c.is_flag-then-is_flag.ensures h v)))

pub returns-then-is_flag-2 : goal.returns-then-is_flag-2
returns-then-is_flag-2 t c h v =
    subst (λ e. IsFlag (value v (tree_of e))) (sym c.in-Conditional.is) (flag_choice (value v (tree_of c.in-Conditional.field-0.value)) (value v (tree_of c.in-Conditional.a.value)) (value v (tree_of c.in-Conditional.b.value))
    (subst (λ e. IsFlag (value v (tree_of e))) c.deref-in-Conditional.ensures (c.is_flag-in-Conditional.ensures c.if-is_flag-2.true v))
    (subst (λ e. IsFlag (value v (tree_of e))) c.deref-then-is_flag-2.ensures (c.is_flag-then-is_flag-2.ensures h v)))
