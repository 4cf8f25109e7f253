-- Edges meet in any order.
use Rattle.std.proofs.Common.{◌≡◌, ℕ, min, List, [], ◌∷◌, refl, ap, ◌∙◌, arith}
use Rattle.kind_core.specs.declared.kind.Kind.{Kind}
use Rattle.kind_core.specs.declared.kind.Offsets.{Offsets}
use Rattle.kind_core.specs.declared.kind.Offsets.TheVariants.{Fixed, Varying}
use Rattle.kind_core.specs.Joins.{join_kind, join_list, join_offsets, JoinIsAssociative}
use Rattle.kind_core.proofs.JoinLaws.{kinds}
use Rattle.kind_core.proofs.Order.{join_kind-assoc}

join_list-assoc : (as' bs cs : List Kind) → join_list (join_list as' bs) cs ≡ join_list as' (join_list bs cs)
join_list-assoc [] bs cs = refl
join_list-assoc (a ∷ as') [] cs = refl
join_list-assoc (a ∷ as') (b ∷ bs) [] = refl
join_list-assoc (a ∷ as') (b ∷ bs) (c ∷ cs) =
    ap (λ x. x ∷ join_list (join_list as' bs) cs) (join_kind-assoc a b c)
    ∙ ap (λ xs. join_kind a (join_kind b c) ∷ xs) (join_list-assoc as' bs cs)

min-assoc : (a b c : ℕ) → min (min a b) c ≡ min a (min b c)
min-assoc a b c = omega arith

join_offsets-assoc : (a b c : Offsets) → join_offsets (join_offsets a b) c ≡ join_offsets a (join_offsets b c)
join_offsets-assoc Varying Varying Varying = refl
join_offsets-assoc Varying Varying Fixed = refl
join_offsets-assoc Varying Fixed c = refl
join_offsets-assoc Fixed b c = refl

pub join_is_associative : JoinIsAssociative
join_is_associative k j i =
    let offsets = join_offsets (join_offsets k.offsets j.offsets) i.offsets in
    let checked = min (min k.checked j.checked) i.checked in
    let registers = join_list k.registers (join_list j.registers i.registers) in
    let slots = join_list k.slots (join_list j.slots i.slots) in
    ap (λ x. kinds x (join_list (join_list k.slots j.slots) i.slots) checked offsets) (join_list-assoc k.registers j.registers i.registers)
    ∙ ap (λ x. kinds registers x checked offsets) (join_list-assoc k.slots j.slots i.slots)
    ∙ ap (λ x. kinds registers slots x offsets) (min-assoc k.checked j.checked i.checked)
    ∙ ap (λ x. kinds registers slots (min k.checked (min j.checked i.checked)) x) (join_offsets-assoc k.offsets j.offsets i.offsets)
