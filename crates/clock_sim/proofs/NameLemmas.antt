-- The place of a register or memory, as a walk finds it.
use Rattle.std.specs.Prelude.{if◌then◌else◌}
use Rattle.std.proofs.Common.{◌≡◌, ℕ, zero, suc, ◌+◌, ◌-◌, ◌<◌, Bool, true, false, List, ◌∷◌, length, get_or, drop, refl, sym, ap, ◌∙◌, arith}
use Rattle.std.proofs.lemmas.List.{drop_more}
use Rattle.std.proofs.lemmas.Bool.{cond-true, cond-false}
use Rattle.net_core.specs.declared.design.Declared.{Declared}
use Rattle.net_core.specs.declared.design.Declared.TheVariants.{Integer}
use Rattle.net_core.specs.Names.{is_register, is_memory, place_of}

pub counted : (memory : Bool) (d : Declared) → (if memory then is_memory else is_register) d ≡ (if memory then is_memory d else is_register d)
counted true d = refl
counted false d = refl

here : (p : Declared → Bool) (d : Declared) (ds : List Declared) → p d ≡ true → place_of p (d ∷ ds) 0 ≡ 0
here p d ds e = cond-true (p d) 0 (suc (place_of p ds zero)) e

past : (p : Declared → Bool) (d : Declared) (ds : List Declared) (k : ℕ) → p d ≡ true → place_of p (d ∷ ds) (suc k) ≡ suc (place_of p ds k)
past p d ds k e = ap (λ n. suc (place_of p ds n)) (cond-true (p d) k (suc k) e)

other : (p : Declared → Bool) (d : Declared) (ds : List Declared) (k : ℕ) → p d ≡ false → place_of p (d ∷ ds) k ≡ suc (place_of p ds k)
other p d ds zero e = cond-false (p d) 0 (suc (place_of p ds zero)) e
other p d ds (suc k) e = ap (λ n. suc (place_of p ds n)) (cond-false (p d) k (suc k) e)

module _ (p : Declared → Bool) (ds : List Declared) (i left total : ℕ) (lt : i < length ds) (left_over : i + place_of p (drop i ds) left ≡ total) where
  at : i + place_of p (get_or ds i Integer ∷ drop (i + 1) ds) left ≡ total
  at = ap (λ rest. i + place_of p rest left) (sym (drop_more ds i Integer lt)) ∙ left_over

  pub found : p (get_or ds i Integer) ≡ true → left ≡ 0 → i ≡ total
  found e z =
      let h : place_of p (get_or ds i Integer ∷ drop (i + 1) ds) left ≡ 0 = ap (λ k. place_of p (get_or ds i Integer ∷ drop (i + 1) ds) k) z ∙ here p (get_or ds i Integer) (drop (i + 1) ds) e in
      omega (arith, h, at)

  pub passed : p (get_or ds i Integer) ≡ true → (left ≡ 0 → ⊥) → i + 1 + place_of p (drop (i + 1) ds) (left - 1) ≡ total
  passed e nz =
      let k : left ≡ suc (left - 1) = omega arith in
      let h : place_of p (get_or ds i Integer ∷ drop (i + 1) ds) left ≡ suc (place_of p (drop (i + 1) ds) (left - 1)) = ap (λ n. place_of p (get_or ds i Integer ∷ drop (i + 1) ds) n) k ∙ past p (get_or ds i Integer) (drop (i + 1) ds) (left - 1) e in
      omega (arith, h, at)

  pub skipped : p (get_or ds i Integer) ≡ false → i + 1 + place_of p (drop (i + 1) ds) left ≡ total
  skipped e =
      let h = other p (get_or ds i Integer) (drop (i + 1) ds) left e in
      omega (arith, h, at)
