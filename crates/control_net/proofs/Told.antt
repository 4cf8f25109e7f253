-- Control and places that hold packets of any kind.
use Rattle.std.specs.Prelude.{◌≡◌, ℕ, suc, ◌+◌, nat_le, Bool, true, false, ◌&&◌, ◌||◌, cond, Option, Some, None, is_some, List, [], ◌∷◌, map}
use Rattle.std.proofs.Common.{get_or, not, refl, sym, ap, subst, ◌∙◌, arith}
use Rattle.std.proofs.lemmas.Bool.{and_right}
use Rattle.control_net.specs.declared.ring_net.shape.ControlShape.{ControlShape}
use Rattle.control_net.specs.Control.{returns, some_returns, flushed}
use Rattle.control_net.specs.Places.{sends, IsFlush, FlushesPlaces, MovesPlaces, KeepsPlaces}
use Rattle.control_net.proofs.Flushing.{all_kept}

emptied : {X : Type 0} (x : Option X) (b : Bool) → (is_some x && not b) ≡ is_some (cond b None x)
emptied None true = refl
emptied None false = refl
emptied (Some x) true = refl
emptied (Some x) false = refl

module _ {X : Type 0} (c : ControlShape) (reload : ℕ → Bool) (must_reload : ℕ → X → Bool) (some_send : ℕ → List (Option X) → Bool) (flush : ℕ → List (Option X) → List (Option X)) (s : IsFlush c must_reload some_send flush) where
  one_is : (k : ℕ) (x : Option X) → ((y : X) → x ≡ Some y → reload k ≡ must_reload k y) → returns c reload k (is_some x) ≡ sends c must_reload k x
  one_is k None h = and_right (nat_le k c.commit) (false && reload k) refl
  one_is k (Some y) h = ap (λ b. nat_le k c.commit && b) (h y refl)

  both_are : (places : List (Option X)) (k : ℕ) → ((j : ℕ) (x : X) → get_or places j None ≡ Some x → reload (k + j) ≡ must_reload (k + j) x)
      → (some_returns c reload k (map is_some places) ≡ some_send k places) × (flushed c reload k (map is_some places) ≡ map is_some (flush k places))
  both_are [] k h = (sym (s.none_sends k), ap (map is_some) (sym (s.none_flushed k)))
  both_are (x ∷ xs) k h =
      let z : k + 0 ≡ k = omega arith in
      let rest = both_are xs (suc k) (λ j y e. let n : k + suc j ≡ suc k + j = omega arith in subst (λ n. reload n ≡ must_reload n y) n (h (suc j) y e)) in
      let one = one_is k x (λ y e. subst (λ n. reload n ≡ must_reload n y) z (h 0 y e)) in
      let some : some_returns c reload k (map is_some (x ∷ xs)) ≡ some_send k (x ∷ xs) = (λ i. one i || rest.0 i) ∙ sym (s.one_sends k x xs) in
      (some, (λ i. (is_some x && not (some i)) ∷ rest.1 i) ∙ ap (λ b. b ∷ map is_some (flush (suc k) xs)) (emptied x (some_send k (x ∷ xs))) ∙ ap (map is_some) (sym (s.one_flushed k x xs)))

pub flushes_places : (X : Type 0) → FlushesPlaces X
flushes_places X c reload must_reload some_send flush places s h =
    both_are c reload must_reload some_send flush s places 0 (λ j x e. let n : j ≡ 0 + j = omega arith in subst (λ n. reload n ≡ must_reload n x) n (h j x e))

pub moves_places : (X : Type 0) → MovesPlaces X
moves_places X move k x [] m = ap (map is_some) (sym (m.none_moves k x))
moves_places X move k x (y ∷ ys) m = ap (λ bs. is_some x ∷ bs) (moves_places X move (suc k) y ys m) ∙ sym (m.one_moves k x y ys)

pub keeps_places : KeepsPlaces
keeps_places c reload holds e = all_kept c reload holds 0 e
