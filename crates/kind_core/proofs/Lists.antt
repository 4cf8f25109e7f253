-- Lists of kinds, kind by kind.
use Rattle.std.proofs.Common.{◌≡◌, ℕ, ◌+◌, ◌<◌, List, ◌++◌, length, map, take, drop, set, get_or, ap, ◌∙◌}
use Rattle.std.proofs.lemmas.List.{get_or_default}
use Rattle.std.proofs.lemmas.List.Edits.{map_over_more}
use Rattle.kind_core.specs.declared.kind.Kind.{Kind}
use Rattle.kind_core.specs.declared.kind.Kind.TheVariants.{Unset}
use Rattle.kind_core.specs.declared.refinements.Refinement.{Refinement}
use Rattle.kind_core.specs.Edges.{refined}

-- one more kind is refined in place
pub refine_more : (r : Refinement) (xs ys : List Kind) (i : ℕ) (x : Kind) → i < length xs → i < length ys → ys ≡ map (refined r) (take i xs) ++ drop i xs → x ≡ refined r (get_or ys i Unset)
    → set ys i x ≡ map (refined r) (take (i + 1) xs) ++ drop (i + 1) xs
refine_more r xs ys i x p q h e =
    ap (set ys i) e ∙ map_over_more (refined r) xs ys i (get_or ys i Unset) p h (get_or_default ys i Unset (get_or ys i Unset) q)
