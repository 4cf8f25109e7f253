-- Tests one after another.
use Rattle.std.proofs.Common.{◌≡◌, ℕ, ◌+◌, ℤ, pos, negsuc, nat_le, true, false, cond, refl, ap, subst, Result, Ok, Err, IfOk}
use Rattle.xdp_state.specs.declared.refusal.Why.TheVariants as why
use Rattle.xdp_state.specs.declared.refusal.Why.{Why}
use Rattle.kind_core.specs.Tests.{◌>>=◌, within}

pub bind_passed : {A B : Type 0} (r : Result A Why) (f : A → Result B Why) (b : B) → (r >>= f) ≡ Ok b → (a : A) × (r ≡ Ok a) × (f a ≡ Ok b)
bind_passed (Ok a) f b h = (a, refl, h)
bind_passed (Err e) f b h = cc

pub bind_ok : {A B : Type 0} (r : Result A Why) (f : A → Result B Why) (P : B → Type 0) → ((a : A) → r ≡ Ok a → IfOk (f a) P) → IfOk (r >>= f) P
bind_ok (Ok a) f P h = h a refl
bind_ok (Err e) f P h = tt

pub bind_all : {A B : Type 0} (r : Result A Why) (f : A → Result B Why) (P : B → Type 0) → ((a : A) → IfOk (f a) P) → IfOk (r >>= f) P
bind_all r f P h = bind_ok r f P (λ a _. h a)

-- where an access lies that is inside
pub within_is : (z : ℤ) (n len a : ℕ) → within z n len ≡ Ok a → (z ≡ pos a) × (nat_le (a + n) len ≡ true)
within_is (negsuc b) n len a e = cc
within_is (pos b) n len a e =
    (elim (nat_le (b + n) len) as (λ t. cond t (Ok b) (Err why.Offset) ≡ Ok a → (nat_le (b + n) len ≡ t) → (pos b ≡ pos a) × (nat_le (a + n) len ≡ true)) [
      | true ↦ λ f g. let same : b ≡ a = cc in (ap pos same, subst (λ c. nat_le (c + n) len ≡ true) same g)
      | false ↦ λ f g. cc
    ]) e refl
