use Rattle.std.proofs.Common.{◌∙◌, ap, subst, map}
use Rattle.net_core.specs.View.{assign_of, statement_of}
use Rattle.net_core.specs.Clock.{edge}
use Rattle.net_optimize.specs.SharedExpressions.Standing.{AreShown}
use Rattle.net_optimize.proofs.SharedExpressions.SharedLemmas.{shared_show_the_same}
use Rattle.net_optimize.proofs.shared_expressions.sharing.made.Goals as goal

pub returns : goal.returns
returns c formed formed_too =
    shared_show_the_same _ _ formed formed_too (record {
      numbers = c.args.table.numbers.items;
      declared = c.in_ok-from_slice-2.ensures.items ∙ c.deref-4.ensures.value;
      placed = c.requires.placed;
      goes = c.requires.goes;
      shows = λ v u st. subst (λ xs. AreShown v u (map assign_of xs) (map assign_of c.in_ok-assigns.assigns.items)) c.deref.ensures.value (c.in_ok-assigns.ensures v u st);
      stores = λ v u s st. c.in_ok-always.ensures v u s st ∙ ap (λ xs. edge u (map statement_of xs) s) c.deref-2.ensures.value;
    })
