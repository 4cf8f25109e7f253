-- One step through a section, whose items are seen by a view.
use Rattle.std.specs.Prelude.{◌≡◌, ℕ, suc, ◌+◌, ◌<◌, Some, None, List, length, map, drop}
use Rattle.std.proofs.Common.{get_or, sym, ap, ◌∙◌, add-one, arith}
use Rattle.std.proofs.lemmas.List.{drop_more, get_or-map, length-map}
use Rattle.design_rules.specs.declared.formed.Why.{Why}
use Rattle.design_rules.specs.Formed.{Rule, first_broken, fault_at, or_else, section_fault}

pub section_step : {A B : Type 0} (view : A → B) (rules : ℕ → B → List Rule) (start : ℕ) (xs : List A) (k : ℕ) (x : A) → k < length xs → x ≡ get_or xs k x
    → section_fault rules start k (drop k (map view xs)) ≡ or_else (fault_at (start + k) (first_broken (rules k (view x)))) (section_fault rules start (k + 1) (drop (k + 1) (map view xs)))
section_step view rules start xs k x h e =
    let l : k < length (map view xs) = omega (arith, h, length-map xs view) in
    ap (section_fault rules start k) (drop_more (map view xs) k (view x) l)
    ∙ ap (λ y. or_else (fault_at (start + k) (first_broken (rules k y))) (section_fault rules start (suc k) (drop (k + 1) (map view xs)))) (get_or-map view xs k x (view x) h ∙ ap view (sym e))
    ∙ ap (λ n. or_else (fault_at (start + k) (first_broken (rules k (view x)))) (section_fault rules start n (drop (k + 1) (map view xs)))) (sym (add-one k))

-- the item keeps its rules
pub section_more : {A B : Type 0} (view : A → B) (rules : ℕ → B → List Rule) (start : ℕ) (xs : List A) (k : ℕ) (x : A) → k < length xs → x ≡ get_or xs k x
    → first_broken (rules k (view x)) ≡ None → section_fault rules start (k + 1) (drop (k + 1) (map view xs)) ≡ section_fault rules start k (drop k (map view xs))
section_more view rules start xs k x h e n =
    sym (section_step view rules start xs k x h e ∙ ap (λ w. or_else (fault_at (start + k) w) (section_fault rules start (k + 1) (drop (k + 1) (map view xs)))) n)

-- the item breaks one
pub section_here : {A B : Type 0} (view : A → B) (rules : ℕ → B → List Rule) (start : ℕ) (xs : List A) (k : ℕ) (x : A) (w : Why) (item : ℕ) → k < length xs → x ≡ get_or xs k x
    → first_broken (rules k (view x)) ≡ Some w → item ≡ start + k → section_fault rules start k (drop k (map view xs)) ≡ Some (record { item = item; why = w })
section_here view rules start xs k x w item h e s i =
    section_step view rules start xs k x h e
    ∙ ap (λ v. or_else (fault_at (start + k) v) (section_fault rules start (k + 1) (drop (k + 1) (map view xs)))) s
    ∙ ap (λ n. Some (record { item = n; why = w })) (sym i)
