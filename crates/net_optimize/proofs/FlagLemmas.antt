-- Single bits.
use Rattle.std.specs.Prelude.{◌≡◌, ℕ, ◌+◌, ◌-◌, ◌/◌, ◌%◌, ◌^◌, ◌<◌, ◌==◌, nat_lt, nat_le, if◌then◌else◌, Bool, true, false}
use Rattle.std.proofs.Common.{refl, sym, arith, subst, inl, inr, ◌⊎◌}
use Rattle.net_core.specs.declared.tree.Word.{Word}
use Rattle.net_core.specs.declared.tree.Op.{Op}
use Rattle.net_core.specs.declared.tree.Op.TheVariants.{Equal, NotEqual, Less, LessEqual, Greater, GreaterEqual}
use Rattle.net_core.specs.declared.tree.UnaryOp.TheVariants.{Not, ReduceOr}
use Rattle.net_core.specs.Value.{word, bit, apply, apply_unary, conditional, part_select}
use Rattle.net_core.proofs.WordLaws.{flag_small}
use Rattle.net_optimize.specs.Flags.{IsFlag}

pub flag_bit : (w : Word) (i : ℕ) → IsFlag (part_select w i i)
flag_bit w i =
    let one : i + 1 - i ≡ 1 = omega arith in
    let small : w.value / 2 ^ i % 2 ^ (i + 1 - i) < 2 = subst (λ n. w.value / 2 ^ i % 2 ^ n < 2) (sym one) (omega arith) in
    flag_small (part_select w i i) one small

not_bit : (b : Bool) → IsFlag (apply_unary Not (bit b))
not_bit true = (false, refl)
not_bit false = (true, refl)

pub flag_not : (a : Word) → IsFlag a → IsFlag (apply_unary Not a)
flag_not a h = subst (λ w. IsFlag (apply_unary Not w)) (sym h.1) (not_bit h.0)

pub flag_choice : (c a b : Word) → IsFlag a → IsFlag b → IsFlag (conditional c a b)
flag_choice c a b h k = by_test (c.value == 0)
  where
    by_test : (t : Bool) → IsFlag (if t then b else a)
    by_test true = k
    by_test false = h

pub flag_reduced : (a : Word) → IsFlag (apply_unary ReduceOr a)
flag_reduced a = (if a.value == 0 then false else true, refl)

chosen_bit : (b : Bool) → bit b ≡ conditional (bit b) (word 1 1) (word 1 0)
chosen_bit true = refl
chosen_bit false = refl

pub flag_chosen : (c : Word) → IsFlag c → c ≡ conditional c (word 1 1) (word 1 0)
flag_chosen c h = subst (λ w. w ≡ conditional w (word 1 1) (word 1 0)) (sym h.1) (chosen_bit h.0)

pub flag_compared : (o : Op) → (o ≡ Equal) ⊎ ((o ≡ NotEqual) ⊎ ((o ≡ Less) ⊎ ((o ≡ LessEqual) ⊎ ((o ≡ Greater) ⊎ (o ≡ GreaterEqual))))) → (a b : Word) → IsFlag (apply o a b)
flag_compared o (inl e) a b = subst (λ o. IsFlag (apply o a b)) (sym e) (a.value == b.value, refl)
flag_compared o (inr (inl e)) a b = subst (λ o. IsFlag (apply o a b)) (sym e) (if a.value == b.value then false else true, refl)
flag_compared o (inr (inr (inl e))) a b = subst (λ o. IsFlag (apply o a b)) (sym e) (nat_lt a.value b.value, refl)
flag_compared o (inr (inr (inr (inl e)))) a b = subst (λ o. IsFlag (apply o a b)) (sym e) (nat_le a.value b.value, refl)
flag_compared o (inr (inr (inr (inr (inl e))))) a b = subst (λ o. IsFlag (apply o a b)) (sym e) (nat_lt b.value a.value, refl)
flag_compared o (inr (inr (inr (inr (inr e))))) a b = subst (λ o. IsFlag (apply o a b)) (sym e) (nat_le b.value a.value, refl)
