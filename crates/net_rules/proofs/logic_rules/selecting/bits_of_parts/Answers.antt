use Rattle.std.specs.Prelude.{Option, Some, None, IfSome}
use Rattle.std.proofs.Common.{◌≡◌, ◌<◌, ◌-◌, ◌∙◌, sym, ap, subst, arith}
use Rattle.net_core.specs.declared.tree.Net.{Net}
use Rattle.net_core.specs.declared.tree.Expr.{Expr}
use Rattle.net_core.specs.View.{tree_of, trees_of}
use Rattle.net_core.specs.Value.{Env, value, concatenated_parts, part_select}
use Rattle.net_rules.specs.NetSizes.Fitting.{AreFitting, Fits, sizes_of}
use Rattle.net_rules.proofs.LogicRules.SelectLemmas.{in_first, in_second}
use Rattle.net_rules.proofs.logic_rules.selecting.bits_of_parts.Goals as goal

if_some : {A : Type 0} (o : Option A) (P Q : A → Type 0) → ((x : A) → P x → Q x) → IfSome o P → IfSome o Q
if_some None P Q f h = h
if_some (Some x) P Q f h = f x h

pub returns-then-high-size : goal.returns-then-high-size
returns-then-high-size c =
    let size = c.parts_size-size.result in
    let some : 0 < size = omega arith in
    let P : Expr Net → Type 0 = λ r. (u : Env Net) → AreFitting (sizes_of c.args.sizes.now) u → value u (tree_of r) ≡ part_select (value u (tree_of c.in-More.a)) (c.args.high - size) (c.args.low - size) in
    let Q : Expr Net → Type 0 = λ r. (u : Env Net) → AreFitting (sizes_of c.args.sizes.now) u → value u (tree_of r) ≡ part_select (concatenated_parts u (trees_of c.args.parts.now)) c.args.high c.args.low in
    if_some c.bits_of.result P Q (λ r h u fit.
    h u fit
    ∙ in_first (value u (tree_of c.in-More.a)) (concatenated_parts u (trees_of c.in-More.more.value)) size c.args.high c.args.low some
    (subst (λ l. Fits size (concatenated_parts u (trees_of l))) c.deref.ensures (c.parts_size-size.ensures u fit)) c.if-low-size.false c.if-high-size.true
    ∙ sym (ap (λ l. part_select (concatenated_parts u (trees_of l)) c.args.high c.args.low) c.in-More.is) ∙ c.loop-left.invariant u fit) c.bits_of.ensures

pub loop-left-preserved : goal.loop-left-preserved
loop-left-preserved c v fit =
    let size = c.parts_size-size.result in
    let some : 0 < size = omega arith in
    let fits = subst (λ l. Fits size (concatenated_parts v (trees_of l))) c.deref.ensures (c.parts_size-size.ensures v fit) in
    ap (λ l. part_select (concatenated_parts v (trees_of l)) c.args.high c.args.low) c.deref-left.ensures
    ∙ in_second (value v (tree_of c.in-More.a)) (concatenated_parts v (trees_of c.in-More.more.value)) size c.args.high c.args.low some fits c.if-high-size.false c.if-low-high.false
    ∙ sym (ap (λ l. part_select (concatenated_parts v (trees_of l)) c.args.high c.args.low) c.in-More.is) ∙ c.loop-left.invariant v fit
