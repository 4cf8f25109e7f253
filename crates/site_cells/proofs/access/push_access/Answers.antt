use Rattle.std.proofs.Common.{◌∙◌, ◌++◌, ◌∷◌, [], ℕ, List, ap}
use Rattle.site_cells.proofs.Adding.{site_same, site_pushed}
use Rattle.site_cells.proofs.access.push_access.Goals as goal

pub returns : goal.returns
returns c = site_pushed _ _ _ _ c.in_ok-push-2.ensures.items
    (site_same _ _ _ _ _ _ _ _ (c.in_ok-from_slice.ensures.ok ∙ c.deref.ensures) (c.in_ok-push.ensures.ok ∙ ap (λ (xs : List ℕ). xs ++ c.args.pointer.now.found ∷ []) c.in_ok-all.ensures.ok))
