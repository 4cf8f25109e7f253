-- Who is sent back in a clock.
use Rattle.std.proofs.Common.{◌≡◌, ℕ, zero, suc, ◌+◌, ◌<◌, ◌≤◌, Bool, true, false, List, [], ◌∷◌, Option, Some, None, length, refl, ap, subst, arith, not}
use Rattle.std.specs.Prelude.{if◌then◌else◌, nat_lt, ◌&&◌, ◌||◌}
use Rattle.pipe_core.specs.Machine.{Packet, Build, place_at, inside, sends, some_send, flushed, injected}
use Rattle.pipe_core.specs.Sending.{SentBack, AlwaysSendsBack}

-- places of which the first is number j
record Sender (b : Build) (j : ℕ) (xs : List (Option Packet)) (k : ℕ) : Type 0 where
  at : ℕ
  further : k ≤ at
  within : at < length xs
  sends_back : sends b (j + at) (place_at xs at) ≡ true

some_at : (b : Build) (j : ℕ) (xs : List (Option Packet)) → Sender b j xs 0 → some_send b j xs ≡ true
some_at b j [] s = let l = s.within in absurd (omega arith)
some_at b j (x ∷ xs) s = by s.at refl (some_at b (suc j) xs)
  where
    or_right : (c d : Bool) → d ≡ true → c || d ≡ true
    or_right true d e = refl
    or_right false d e = e

    by : (n : ℕ) → s.at ≡ n → (Sender b (suc j) xs 0 → some_send b (suc j) xs ≡ true) → sends b j x || some_send b (suc j) xs ≡ true
    by zero e more =
        let q : sends b (j + 0) (place_at (x ∷ xs) 0) ≡ true = subst (λ n. sends b (j + n) (place_at (x ∷ xs) n) ≡ true) e s.sends_back in
        let r : sends b j x ≡ true = subst (λ n. sends b n x ≡ true) (omega arith) q in
        ap (λ c. c || some_send b (suc j) xs) r
    by (suc n) e more =
        let q : sends b (j + suc n) (place_at (x ∷ xs) (suc n)) ≡ true = subst (λ n. sends b (j + n) (place_at (x ∷ xs) n) ≡ true) e s.sends_back in
        let l = s.within in
        or_right (sends b j x) (some_send b (suc j) xs) (more (record { at = n; further = omega arith; within = omega (arith, l, e); sends_back = subst (λ m. sends b m (place_at xs n) ≡ true) (omega arith) q }))

some_has : (b : Build) (j : ℕ) (xs : List (Option Packet)) → some_send b j xs ≡ true → Sender b j xs 0
some_has b j [] e = cc
some_has b j (x ∷ xs) e = by (sends b j x) refl e (some_has b (suc j) xs)
  where
    by : (c : Bool) → sends b j x ≡ c → c || some_send b (suc j) xs ≡ true → (some_send b (suc j) xs ≡ true → Sender b (suc j) xs 0) → Sender b j (x ∷ xs) 0
    by true q e more = record { at = 0; further = omega arith; within = omega arith; sends_back = subst (λ n. sends b n x ≡ true) (omega arith) q }
    by false q e more =
        let s = more e in
        record { at = suc s.at; further = omega arith; within = omega (arith, s.within); sends_back = subst (λ n. sends b n (place_at xs s.at) ≡ true) (omega arith) s.sends_back }

later : (b : Build) (j : ℕ) (x : Option Packet) (xs : List (Option Packet)) (k : ℕ) → Sender b (suc j) xs k → Sender b j (x ∷ xs) (suc k)
later b j x xs k s = record { at = suc s.at; further = omega (arith, s.further); within = omega (arith, s.within); sends_back = subst (λ n. sends b n (place_at xs s.at) ≡ true) (omega arith) s.sends_back }

sooner : (b : Build) (j : ℕ) (x : Option Packet) (xs : List (Option Packet)) (k : ℕ) → Sender b j (x ∷ xs) (suc k) → Sender b (suc j) xs k
sooner b j x xs k s = by s.at refl
  where
    by : (n : ℕ) → s.at ≡ n → Sender b (suc j) xs k
    by zero e = let f = s.further in absurd (omega (arith, f, e))
    by (suc n) e =
        let q : sends b (j + suc n) (place_at (x ∷ xs) (suc n)) ≡ true = subst (λ n. sends b (j + n) (place_at (x ∷ xs) n) ≡ true) e s.sends_back in
        record { at = n; further = omega (arith, s.further, e); within = omega (arith, s.within, e); sends_back = subst (λ m. sends b m (place_at xs n) ≡ true) (omega arith) q }

sent_from : (b : Build) (j : ℕ) (xs : List (Option Packet)) (k : ℕ) → k < length xs → Sender b j xs k → place_at (flushed b j xs) k ≡ None
sent_from b j [] k l s = absurd (omega arith)
sent_from b j (x ∷ xs) zero l s = ap (λ (c : Bool). if c then None else x) (some_at b j (x ∷ xs) s)
sent_from b j (x ∷ xs) (suc k) l s = sent_from b (suc j) xs k (omega arith) (sooner b j x xs k s)

kept_from : (b : Build) (j : ℕ) (xs : List (Option Packet)) (k : ℕ) → k < length xs → (Sender b j xs k → ⊥) → place_at (flushed b j xs) k ≡ place_at xs k
kept_from b j [] k l s = absurd (omega arith)
kept_from b j (x ∷ xs) zero l s = by (some_send b j (x ∷ xs)) refl
  where
    by : (c : Bool) → some_send b j (x ∷ xs) ≡ c → (if c then None else x) ≡ x
    by true e = absurd (s (some_has b j (x ∷ xs) e))
    by false e = refl
kept_from b j (x ∷ xs) (suc k) l s = kept_from b (suc j) xs k (omega arith) (λ t. s (later b j x xs k t))

sender : (b : Build) (places : List (Option Packet)) (k : ℕ) → SentBack b places k → Sender b 0 places k
sender b places k s = record { at = s.at; further = s.further; within = s.inside; sends_back = subst (λ n. sends b n (place_at places s.at) ≡ true) (omega arith) s.sends_back }

sent_back : (b : Build) (places : List (Option Packet)) (k : ℕ) → Sender b 0 places k → SentBack b places k
sent_back b places k s = record { at = s.at; further = s.further; inside = s.within; sends_back = subst (λ n. sends b n (place_at places s.at) ≡ true) (omega arith) s.sends_back }

pub always_sends_back : AlwaysSendsBack
always_sends_back b places = record {
  sent = λ k l s. sent_from b 0 places k l (sender b places k s);
  kept = λ k l s. kept_from b 0 places k l (λ t. s (sent_back b places k t));
  none_injected = λ s frames rest. ap (λ (c : Bool). if not c && nat_lt (inside rest) (length frames) then Some (injected b.program) else None) (some_at b 0 places (sender b places 0 s));
}
