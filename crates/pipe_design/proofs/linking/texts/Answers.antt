use Rattle.std.specs.Prelude.{◌≡◌, ℕ, ◌+◌, ◌<◌, List, [], ◌∷◌, ◌++◌, length, map, take}
use Rattle.std.proofs.Common.{get_or, sym, ap, ◌∙◌, arith, string_bytes}
use Rattle.std.proofs.lemmas.List.{map-append, map_more}
use Rattle.pipe_design.proofs.linking.texts.Goals as goal

-- lists that grow side by side
map_both : {X Y Z : Type 0} (f : X → Z) (g : Y → Z) (xs : List X) (x : X) (ys : List Y) (i : ℕ) (d : Y) → i < length ys → map f xs ≡ map g (take i ys) → f x ≡ g (get_or ys i d) → map f (xs ++ x ∷ []) ≡ map g (take (i + 1) ys)
map_both f g xs x ys i d h same one =
    map-append f xs (x ∷ []) ∙ ap (λ t. t ++ f x ∷ []) same ∙ ap (λ t. map g (take i ys) ++ t ∷ []) one ∙ sym (map_more g ys i d h)

pub loop-text-preserved : goal.loop-text-preserved
loop-text-preserved c = ap (map string_bytes) c.in_ok-push.ensures.items ∙ map_both string_bytes (λ s. s.now) _ _ _ _ _ (omega arith) c.loop-text.invariant c.in_ok-from_str.ensures.ok
