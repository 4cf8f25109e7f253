-- The pointer to the slot of an index as an expression.
use Rattle.std.specs.Prelude.{nat_lt}
use Rattle.std.proofs.Common.{◌≡◌, ℕ, ◌+◌, ◌-◌, ◌*◌, ◌^◌, ◌<◌, ◌≤◌, List, refl, subst, arith}
use Rattle.std.proofs.lemmas.Nat.{pow_pos}
use Rattle.net_core.specs.declared.tree.Op.TheVariants.{Less}
use Rattle.net_core.specs.Nets.{Tree, TConst, TBinary, TConditional, TConcatenation, TMore, TLast}
use Rattle.net_core.specs.Value.{Env, word}
use Rattle.overlay_net.specs.cell_core.Cells.{bit, bits_from}
use Rattle.cell_nets.specs.declared.operand.Operand.{Operand}
use Rattle.cell_nets.specs.Operands.{number_in}
use Rattle.cell_nets.specs.Parts.{IsPart, IsSlice}
use Rattle.cell_nets.proofs.ExpressionPartLaws.{part_same, part_of, const_slice, binary_part, beside_slice, conditional_part, test_is}
use Rattle.hash_net.specs.SlotNet.Choosing.{indexed_pointer}
use Rattle.hash_net.proofs.SlotNet.ChainLemmas.{picked}

pub pointer_part :
    {N : Type 0} (ins : List (Operand N)) (cap bits : ℕ) (index : Operand N) (x y inside there c one none e : Tree N) → cap < 2 ^ 32 → 3 ≤ bits → bits ≤ 34 → c ≡ TConst (word 32 cap) → one ≡ TConst (word 2 1) → none ≡ TConst (word bits 0) → inside ≡ TBinary Less x c
    → there ≡ TConcatenation (TMore y (TLast one)) → e ≡ TConditional inside there none → IsSlice ins 2 32 (λ v. bits_from (number_in v index) 0 32) x → IsSlice ins 2 (bits - 2) (λ v. bits_from (number_in v index) 0 (bits - 2)) y
    → IsPart ins 5 bits (λ v. indexed_pointer cap bits (number_in v index)) e
pointer_part {N} ins cap bits index x y inside there c one none e small some most c_is one_is none_is inside_is there_is e_is p q =
    part_of ins 4 5 bits _ (TConditional inside there none) e (omega arith) e_is
    (part_same ins 4 bits _ _ (TConditional inside there none) (λ v f. picked (nat_lt (low v) cap) (high v * 4 + 1) 0) (conditional_part ins 3 3 1 bits (λ v. bit (nat_lt (low v) cap)) (λ v. high v * 4 + 1) (λ v. 0) inside there none test pointer zero_part))
  where
    low : Env N → ℕ
    low v = bits_from (number_in v index) 0 32

    high : Env N → ℕ
    high v = bits_from (number_in v index) 0 (bits - 2)

    test : IsPart ins 3 1 (λ v. bit (nat_lt (bits_from (number_in v index) 0 32) cap)) inside
    test = part_of ins 3 3 1 _ (TBinary Less x c) inside (omega arith) inside_is
        (binary_part ins 2 1 32 32 1 _ (λ v. cap) (λ a b. bit (nat_lt a b)) Less x c (test_is 32 (omega arith)) (λ a b. refl) refl p.part (part_of ins 1 1 32 _ (TConst (word 32 cap)) c (omega arith) c_is (const_slice ins 32 cap (omega arith) small).part))

    wide : IsPart ins 3 (bits - 2 + 2) (λ v. bits_from (number_in v index) 0 (bits - 2) * 4 + 1) there
    wide = part_of ins 3 3 (bits - 2 + 2) _ (TConcatenation (TMore y (TLast one))) there (omega arith) there_is
        (beside_slice ins 2 1 (bits - 2) 2 _ (λ v. 1) y one (omega arith) (omega arith) (omega arith) q.part (part_of ins 1 1 2 _ (TConst (word 2 1)) one (omega arith) one_is (const_slice ins 2 1 (omega arith) (omega arith)).part)).part

    pointer : IsPart ins 3 bits (λ v. bits_from (number_in v index) 0 (bits - 2) * 4 + 1) there
    pointer = let s : bits - 2 + 2 ≡ bits = omega arith in subst (λ w. IsPart ins 3 w (λ v. bits_from (number_in v index) 0 (bits - 2) * 4 + 1) there) s wide

    zero_part : IsPart ins 1 bits (λ v. 0) none
    zero_part = part_of ins 1 1 bits _ (TConst (word bits 0)) none (omega arith) none_is (const_slice ins bits 0 (omega arith) (pow_pos bits)).part
