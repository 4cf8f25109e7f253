-- Control sends back where the machine does, and knows of each place whether it still holds a packet.
use Rattle.std.specs.Prelude.{◌≡◌, ℕ, suc, ◌+◌, nat_le, Bool, true, false, ◌&&◌, ◌||◌, if◌then◌else◌, Option, Some, None, is_some, List, [], ◌∷◌, map}
use Rattle.std.proofs.Common.{not, refl, ap, subst, ◌∙◌, arith}
use Rattle.std.proofs.lemmas.Bool.{and_right}
use Rattle.pipe_core.specs.Machine.{Packet, Build, place_at, must_reload, sends, some_send, flushed}
use Rattle.control_net.specs.declared.ring_net.shape.ControlShape.{ControlShape}
use Rattle.control_net.specs.Control as control
use Rattle.control_net.specs.Control.{returns, some_returns}

emptied : (x : Option Packet) (b : Bool) → (is_some x && not b) ≡ is_some (if b then None else x)
emptied None true = refl
emptied None false = refl
emptied (Some x) true = refl
emptied (Some x) false = refl

module _ (b : Build) (c : ControlShape) (commits : c.commit ≡ b.plan.commit) (reload : ℕ → Bool) where
  -- from place k on each packet must reload where the signal of its place says so
  abbrev pub TellFrom : ℕ → List (Option Packet) → Type 0
  TellFrom k places = (j : ℕ) (x : Packet) → place_at places j ≡ Some x → reload (k + j) ≡ must_reload b (k + j) x

  tell_more : (k : ℕ) (x : Option Packet) (xs : List (Option Packet)) → TellFrom k (x ∷ xs) → TellFrom (suc k) xs
  tell_more k x xs h j y e = let n : k + suc j ≡ suc k + j = omega arith in subst (λ n. reload n ≡ must_reload b n y) n (h (suc j) y e)

  one_is : (k : ℕ) (x : Option Packet) → ((y : Packet) → x ≡ Some y → reload k ≡ must_reload b k y) → returns c reload k (is_some x) ≡ sends b k x
  one_is k None h = and_right (nat_le k c.commit) (false && reload k) refl
  one_is k (Some y) h = ap (λ q. nat_le k c.commit && q) (h y refl) ∙ ap (λ n. nat_le k n && must_reload b k y) commits

  pub sends_is : (places : List (Option Packet)) (k : ℕ) → TellFrom k places → some_returns c reload k (map is_some places) ≡ some_send b k places
  sends_is [] k h = refl
  sends_is (x ∷ xs) k h =
      let z : k + 0 ≡ k = omega arith in
      let one = one_is k x (λ y e. subst (λ n. reload n ≡ must_reload b n y) z (h 0 y e)) in
      let rest = sends_is xs (suc k) (tell_more k x xs h) in
      λ i. one i || rest i

  pub flushed_is : (places : List (Option Packet)) (k : ℕ) → TellFrom k places → control.flushed c reload k (map is_some places) ≡ map is_some (flushed b k places)
  flushed_is [] k h = refl
  flushed_is (x ∷ xs) k h =
      let some = sends_is (x ∷ xs) k h in
      let rest = flushed_is xs (suc k) (tell_more k x xs h) in
      (λ i. (is_some x && not (some i)) ∷ rest i) ∙ ap (λ q. q ∷ map is_some (flushed b (suc k) xs)) (emptied x (some_send b k (x ∷ xs)))
