use Rattle.std.proofs.Common.{◌≡◌, ◌∙◌, sym, ap, map, length, List, [], ◌∷◌, ◌++◌, arith, length-append}
use Rattle.net_core.specs.View.{tree_of, statement_of}
use Rattle.net_core.specs.Clock.{done}
use Rattle.net_optimize.specs.Lists.{guarded}
use Rattle.net_optimize.proofs.joining.under.Goals as goal

only_one : {A : Type 0} (xs rest : List A) (x : A) → xs ≡ rest ++ x ∷ [] → length xs ≡ 1 → xs ≡ x ∷ []
only_one xs [] x e l = e
only_one xs (y ∷ rest) x e l = absurd (omega (arith, ap length e, length-append rest (x ∷ [])))

pub returns : goal.returns
returns c v s =
    let one : length c.args.body.items ≡ 1 = omega arith in
    ap (λ t. done v t s) c.in_ok-short.ensures
    ∙ sym (ap (λ xs. guarded v (tree_of c.args.condition) (map statement_of xs) s) (only_one _ _ c.in-Some.only c.in-Some.ensures.items one))
