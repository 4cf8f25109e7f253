-- Of several operands some.
use Rattle.std.proofs.Common.{◌≡◌, ℕ, zero, suc, ◌<◌, All, List, [], ◌∷◌, ◌++◌, length, get_or, sym, subst, arith}
use Rattle.std.proofs.lemmas.List.Elements.{All-append}
use Rattle.overlay_net.specs.cell_nets.declared.operand.Operand.{Operand}
use Rattle.read_net.specs.declared.touch_net.change.OwnKey.{OwnKey}
use Rattle.read_net.specs.TouchNet.Touching.{own_operands}

module _ {X : Type 0} (Q : X → Type 0) where
  pub left_of : (xs ys : List X) → All Q (xs ++ ys) → All Q xs
  left_of [] ys h k d lt = absurd (omega arith)
  left_of (x ∷ xs) ys h zero d lt = h 0 d (omega arith)
  left_of (x ∷ xs) ys h (suc k) d lt = left_of xs ys (λ n e l. h (suc n) e (omega arith)) k d (omega arith)

  pub right_of : (xs ys : List X) → All Q (xs ++ ys) → All Q ys
  right_of [] ys h = h
  right_of (x ∷ xs) ys h = right_of xs ys (λ n e l. h (suc n) e (omega arith))

  pub first_of : (x : X) (xs : List X) → Q x → All Q xs → All Q (x ∷ xs)
  first_of x xs h k zero d lt = h
  first_of x xs h k (suc n) d lt = k n d (omega arith)

  pub behind : (x : X) (xs : List X) → All Q (x ∷ xs) → All Q xs
  behind x xs h n d lt = h (suc n) d (omega arith)

  -- all but the last of three lists
  pub but_last : (xs ys zs : List X) → All Q (xs ++ (ys ++ zs)) → All Q (xs ++ ys)
  but_last xs ys zs h = All-append Q xs ys (left_of xs (ys ++ zs) h) (left_of ys zs (right_of xs (ys ++ zs) h))

pub own_at : {N : Type 0} (Q : Operand N → Type 0) (owns : List (OwnKey N)) (k : ℕ) (o : OwnKey N) → k < length owns → o ≡ get_or owns k o → All Q (own_operands owns) → All Q o.key.now
own_at Q [] k o lt is h = absurd (omega arith)
own_at Q (x ∷ owns) zero o lt is h = subst (λ (y : OwnKey _). All Q y.key.now) (sym is) (left_of Q x.key.now (own_operands owns) h)
own_at Q (x ∷ owns) (suc k) o lt is h = own_at Q owns k o (omega arith) is (right_of Q x.key.now (own_operands owns) h)
