-- Sections without a fault, from the rules of their items.
use Rattle.std.specs.Prelude.{◌≡◌, ℕ, suc, ◌+◌, ◌<◌, Bool, true, Option, None, List, [], ◌∷◌, length}
use Rattle.std.proofs.Common.{get_or, refl, ap, ◌∙◌, arith}
use Rattle.design_rules.specs.declared.formed.NetError.{NetError}
use Rattle.design_rules.specs.declared.formed.Why.{Why}
use Rattle.design_rules.specs.declared.formed.Why.TheVariants.{Syntax, Unknown, Twice, Width, Ports}
use Rattle.design_rules.specs.Formed.{Rule, first_broken, fault_at, or_else, section_fault}

pub four_kept : (a b c e : Bool) → a ≡ true → b ≡ true → c ≡ true → e ≡ true → first_broken ((a, Syntax) ∷ (b, Unknown) ∷ (c, Twice) ∷ (e, Width) ∷ []) ≡ None
four_kept a b c e p q r s = λ i. first_broken ((p i, Syntax) ∷ (q i, Unknown) ∷ (r i, Twice) ∷ (s i, Width) ∷ [])

pub three_kept : (a b c : Bool) → a ≡ true → b ≡ true → c ≡ true → first_broken ((a, Syntax) ∷ (b, Ports) ∷ (c, Ports) ∷ []) ≡ None
three_kept a b c p q r = λ i. first_broken ((p i, Syntax) ∷ (q i, Ports) ∷ (r i, Ports) ∷ [])

no_fault : (item : ℕ) (w : Option Why) → w ≡ None → fault_at item w ≡ None
no_fault item w h = ap (fault_at item) h

neither : (a b : Option NetError) → a ≡ None → b ≡ None → or_else a b ≡ None
neither a b p q = λ i. or_else (p i) (q i)

pub section_none : {A : Type 0} (rules : ℕ → A → List Rule) (start k : ℕ) (xs : List A) → ((i : ℕ) (x : A) → i < length xs → x ≡ get_or xs i x → first_broken (rules (k + i) x) ≡ None) → section_fault rules start k xs ≡ None
section_none rules start k [] h = refl
section_none rules start k (y ∷ ys) h =
    neither _ _
    (no_fault (start + k) (first_broken (rules k y)) (ap (λ n. first_broken (rules n y)) (omega arith) ∙ h 0 y (omega arith) refl))
    (section_none rules start (suc k) ys (λ i x l e. ap (λ n. first_broken (rules n x)) (omega arith) ∙ h (suc i) x (omega arith) e))

pub no_faults : (a b c e : Option NetError) (item : ℕ) (f : Option Why) → a ≡ None → b ≡ None → c ≡ None → e ≡ None → f ≡ None → or_else a (or_else b (or_else c (or_else e (fault_at item f)))) ≡ None
no_faults a b c e item f p q r s t = λ i. or_else (p i) (or_else (q i) (or_else (r i) (or_else (s i) (fault_at item (t i)))))
