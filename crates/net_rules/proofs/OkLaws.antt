-- What holds of the value of a result, if it has one.
use Rattle.std.specs.Prelude.{◌≡◌, IfOk, Result}
use Rattle.std.proofs.Common.{ap, subst}
use Rattle.std.proofs.lemmas.Result.{IfOk-weaker}

-- it is shown as the first, and so as the second
pub ok_by : {T E X : Type 0} (r : Result T E) (f : T → X) (x y : X) → IfOk r (λ a. f a ≡ x) → x ≡ y → IfOk r (λ a. f a ≡ y)
ok_by r f x y h e = subst (λ z. IfOk r (λ a. f a ≡ z)) e h

-- what is made of it is made of the same
pub ok_ap : {T E X Y : Type 0} (r : Result T E) (f : T → X) (g : X → Y) (x : X) → IfOk r (λ a. f a ≡ x) → IfOk r (λ a. g (f a) ≡ g x)
ok_ap r f g x h = IfOk-weaker r (λ a. f a ≡ x) (λ a. g (f a) ≡ g x) (λ a p. ap g p) h
