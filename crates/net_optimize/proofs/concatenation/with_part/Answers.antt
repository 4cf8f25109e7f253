use Rattle.std.proofs.Common.{◌∙◌, sym, ap, ◌++◌, ◌∷◌, []}
use Rattle.std.proofs.lemmas.List.{append-nil}
use Rattle.net_optimize.proofs.PartLemmas.{one_for_two, part_behind}
use Rattle.net_optimize.proofs.concatenation.with_part.Goals as goal

pub returns-in-None : goal.returns-in-None
returns-in-None c v = part_behind v _ _ c.args.part (c.in_ok-push-in-None.ensures.items ∙ ap (λ xs. xs ++ c.args.part ∷ []) (sym (c.in-None.ensures.items ∙ append-nil _)))

pub returns-in-Some-one_part : goal.returns-in-Some-one_part
returns-in-Some-one_part c v =
    one_for_two v _ _ _ c.in-Some.last c.args.part c.in-Some-one_part.one c.in-Some.ensures.items c.in_ok-push.ensures.items (c.in-Some-one_part.ensures v)

pub returns : goal.returns
returns c v = part_behind v _ _ c.args.part (c.in_ok-push-3.ensures.items ∙ ap (λ xs. xs ++ c.args.part ∷ []) (c.in_ok-push-2.ensures.items ∙ sym c.in-Some.ensures.items))
