-- What control counts stays in order.
use Rattle.std.specs.Prelude.{◌≡◌, ℕ, zero, suc, ◌+◌, ◌<◌, ◌≤◌, nat_lt, Bool, true, false, ◌&&◌, cond, List, [], ◌∷◌, length, replicate, drop}
use Rattle.std.proofs.Common.{get_or, not, refl, sym, ap, ◌∙◌, arith, inl, inr}
use Rattle.std.proofs.lemmas.Bool.{false≢true, ltb-true, and_parts, and_left, and_right, or_cases, not-true, not_from_true}
use Rattle.std.proofs.lemmas.List.{length-replicate}
use Rattle.block_core.proofs.list_laws_laws.PlaceLaws.{no_mark}
use Rattle.block_core.proofs.list_laws_laws.BoolLaws.{by_test}
use Rattle.net_core.specs.Value.{number_of}
use Rattle.control_net.specs.declared.ring_net.shape.ControlShape.{ControlShape}
use Rattle.control_net.specs.RingNet.Control.{packets, counted}
use Rattle.control_net.specs.Control.{State, Signals, oldest, back, rest, ready, over, ends, advances, injects, exits, shown, taken, gone, shifted, injected_after, step, partial_after, IsSound, StartsSound, StaysSound}
use Rattle.control_net.proofs.Flushing.{flushed_length, all_kept, held_before, older_kept, fewer_kept, oldest_is}

none_inside : (n : ℕ) → packets (replicate n false) ≡ 0
none_inside zero = refl
none_inside (suc n) = let i = none_inside n in omega arith

pub starts_sound : StartsSound
starts_sound c = record {
  given = omega arith;
  answered = omega arith;
  injected = omega arith;
  gathered = omega arith;
  room = λ e. cc;
  places = length-replicate (suc c.stages) false;
  numbered = length-replicate (suc c.commit) 0;
  inside = omega (arith, none_inside (suc c.stages));
  numbers = λ k l e. absurd (false≢true (sym (no_mark (suc c.stages) k) ∙ e));
  passed = omega arith;
}

-- ---- what moves on
pub shifted_length : {X : Type 0} (x : X) (xs : List X) → length (shifted x xs) ≡ length xs
shifted_length x [] = refl
shifted_length x (y ∷ ys) = ap suc (shifted_length y ys)

pub shifted_first : {X : Type 0} (x d : X) (xs : List X) → 0 < length xs → get_or (shifted x xs) 0 d ≡ x
shifted_first x d [] l = absurd (omega arith)
shifted_first x d (y ∷ ys) l = refl

pub shifted_at : {X : Type 0} (x d : X) (xs : List X) (k : ℕ) → suc k < length xs → get_or (shifted x xs) (suc k) d ≡ get_or xs k d
shifted_at x d [] k l = absurd (omega arith)
shifted_at x d (y ∷ ys) zero l = shifted_first y d ys (omega arith)
shifted_at x d (y ∷ ys) (suc k) l = shifted_at y d ys k (omega arith)

-- what enters is inside, and what leaves is not
moved_inside : (x : Bool) (hs : List Bool) (k : ℕ) → length hs ≡ suc k → packets (shifted x hs) + number_of (get_or hs k false) ≡ number_of x + packets hs
moved_inside x [] k e = absurd (omega arith)
moved_inside x (h ∷ []) zero e = omega arith
moved_inside x (h ∷ []) (suc k) e = absurd (omega arith)
moved_inside x (h ∷ g ∷ hs) zero e = absurd (omega arith)
moved_inside x (h ∷ g ∷ hs) (suc k) e = let i = moved_inside h (g ∷ hs) k (omega arith) in omega arith

-- after the place that a packet moves to are those that were after it, but for the one that leaves
moved_behind : (x : Bool) (hs : List Bool) (s k : ℕ) → length hs ≡ suc s → k ≤ s → packets (drop (suc k) (shifted x hs)) + number_of (get_or hs s false) ≡ packets (drop k hs)
moved_behind x [] s k e l = absurd (omega arith)
moved_behind x (h ∷ hs) s zero e l = let i = moved_inside x (h ∷ hs) s e in omega (arith, i)
moved_behind x (h ∷ hs) zero (suc k) e l = absurd (omega arith)
moved_behind x (h ∷ hs) (suc s) (suc k) e l = moved_behind h hs s k (omega (arith, e)) (omega (arith, l))

counted_is : (b : Bool) (k : ℕ) → counted b k ≡ k + number_of b
counted_is true k = omega arith
counted_is false k = omega arith

-- where a test says that one number is below another, one may be added to it
step_up : (b : Bool) (m n : ℕ) → (b ≡ true → m < n) → m ≤ n → m + number_of b ≤ n
step_up true m n h l = let k = h refl in omega arith
step_up false m n h l = omega arith

-- ---- those that are not sent back, in a clock in which they move on or stay
module _ (c : ControlShape) (a next : ℕ) (rs : List Bool) (ns : List ℕ) (none waits : Bool) (places : length rs ≡ suc c.stages) (numbered : length ns ≡ suc c.commit) where
  abbrev enters : Bool → Bool
  enters st = (not st && none) && waits

  abbrev leaves : Bool → Bool
  leaves st = not st && get_or rs c.stages false

  abbrev then : Bool → List Bool
  then st = cond st rs (shifted (enters st) rs)

  abbrev numbers_after : Bool → List ℕ
  numbers_after st = cond st ns (shifted next ns)

  places_then : (st : Bool) → length (then st) ≡ suc c.stages
  places_then true = places
  places_then false = shifted_length (enters false) rs ∙ places

  numbered_then : (st : Bool) → length (numbers_after st) ≡ suc c.commit
  numbered_then true = numbered
  numbered_then false = shifted_length next ns ∙ numbered

  inside_then : (st : Bool) → packets (then st) + number_of (leaves st) ≡ number_of (enters st) + packets rs
  inside_then true = omega arith
  inside_then false = moved_inside (enters false) rs c.stages places

  numbers_then : ((k : ℕ) → k ≤ c.commit → get_or rs k false ≡ true → get_or ns k 0 ≡ a + packets (drop (suc k) rs)) → (none ≡ true → next ≡ a + packets rs) → (st : Bool) (k : ℕ) → k ≤ c.commit → get_or (then st) k false ≡ true
      → get_or (numbers_after st) k 0 ≡ counted (leaves st) a + packets (drop (suc k) (then st))
  numbers_then own new true k l e = own k l e
  numbers_then own new false zero l e =
      let x : enters false ≡ true = sym (shifted_first (enters false) false rs (omega (arith, places))) ∙ e in
      let n = new (and_parts none waits x).0 in
      let f = shifted_first next 0 ns (omega (arith, numbered)) in
      let m = moved_behind (enters false) rs c.stages 0 places (omega arith) in
      let k = counted_is (leaves false) a in
      omega (arith, n, f, m, k)
  numbers_then own new false (suc j) l e =
      let few : suc j ≤ c.stages = omega (arith, l, c.within) in
      let n = own j (omega (arith, l)) (sym (shifted_at (enters false) false rs j (omega (arith, few, places))) ∙ e) in
      let f = shifted_at next 0 ns j (omega (arith, l, numbered)) in
      let m = moved_behind (enters false) rs c.stages (suc j) places few in
      let k = counted_is (leaves false) a in
      omega (arith, n, f, m, k)

module _ (c : ControlShape) (i : Signals) (s : State) (h : IsSound c i.partial s) where
  gone_some : gone i s ≡ true → s.given < s.answered
  gone_some e = ltb-true s.given s.answered (and_parts (shown s) i.out_ready (and_parts (taken i s) i.last e).0).0

  injects_some : injects c i s ≡ true → s.injected < s.gathered
  injects_some e = ltb-true s.injected s.gathered (and_parts (advances i && not (back c i s 0)) (nat_lt s.injected s.gathered) e).1

  ready_room : ready c i s ≡ true → s.gathered < s.given + c.slots
  ready_room e = elim (or_cases i.partial (nat_lt s.gathered (s.given + c.slots)) e) [
    | inl p ↦ h.room p
    | inr r ↦ ltb-true s.gathered (s.given + c.slots) r
  ]

  over_room : over c i s ≡ true → s.gathered < s.given + c.slots
  over_room e = ready_room (and_parts i.in_valid (ready c i s) e).1

  ends_room : ends c i s ≡ true → s.gathered < s.given + c.slots
  ends_room e = over_room (and_parts (over c i s) i.in_last e).0

  room_after : partial_after c i s ≡ true → s.gathered + number_of (ends c i s) < s.given + number_of (gone i s) + c.slots
  room_after = by_test (λ b. cond b (not i.in_last) i.partial ≡ true → s.gathered + number_of (ends c i s) < s.given + number_of (gone i s) + c.slots) (over c i s)
      (λ o l.
      let r = over_room o in
      let z : number_of (ends c i s) ≡ 0 = ap number_of (and_right (over c i s) i.in_last (not-true i.in_last l)) in
      omega arith)
      (λ o p.
      let r = h.room p in
      let z : number_of (ends c i s) ≡ 0 = ap number_of (and_left (over c i s) i.in_last o) in
      omega arith)

  -- ---- those that are not sent back
  rest_length : length (rest c i s) ≡ suc c.stages
  rest_length = flushed_length c i.reload s.holds 0 ∙ h.places

  rest_numbers : (k : ℕ) → k ≤ c.commit → get_or (rest c i s) k false ≡ true → get_or s.numbers k 0 ≡ s.answered + packets (drop (suc k) (rest c i s))
  rest_numbers k l e = h.numbers k l (held_before c i.reload s.holds 0 k e) ∙ ap (λ hs. s.answered + packets hs) (sym (older_kept c i.reload s.holds 0 k e))

  all_rest : back c i s 0 ≡ false → s.injected ≡ s.answered + packets (rest c i s)
  all_rest e = sym h.inside ∙ ap (λ hs. s.answered + packets hs) (sym (all_kept c i.reload s.holds 0 e))

  injected_is : injected_after c i s ≡ s.answered + packets (rest c i s) + number_of (injects c i s)
  injected_is = by_test (λ b. cond b (oldest c i.reload 0 s.holds s.numbers) (counted (injects c i s) s.injected) ≡ s.answered + packets (rest c i s) + number_of (injects c i s)) (back c i s 0)
      (λ e.
      let o = oldest_is c i.reload s.answered s.holds s.numbers 0 (omega (arith, h.numbered)) (λ j l. h.numbers j (omega (arith, l))) e in
      let z : number_of (injects c i s) ≡ 0 = ap number_of (and_left (advances i && not (back c i s 0)) (nat_lt s.injected s.gathered) (and_right (advances i) (not (back c i s 0)) (not_from_true (back c i s 0) e))) in
      omega (arith, o, z))
      (λ e. let k = counted_is (injects c i s) s.injected in let a = all_rest e in omega (arith, k, a))

  waiting : s.answered + packets (rest c i s) + number_of (injects c i s) ≤ s.gathered
  waiting =
      let f = fewer_kept c i.reload s.holds 0 in
      let u = step_up (injects c i s) s.injected s.gathered injects_some h.injected in
      omega (arith, f, u, h.inside)

  stays : IsSound c (partial_after c i s) (step c i s)
  stays =
      let g = counted_is (gone i s) s.given in
      let e = counted_is (exits c i s) s.answered in
      let d = counted_is (ends c i s) s.gathered in
      let g' = step_up (gone i s) s.given s.answered gone_some h.given in
      let d' = step_up (ends c i s) s.gathered (s.given + c.slots) ends_room h.gathered in
      let j = injected_is in
      let none = not (back c i s 0) in
      let waits = nat_lt s.injected s.gathered in
      let m = inside_then c s.answered s.injected (rest c i s) s.numbers none waits rest_length h.numbered i.stalls in
      record {
        given = omega (arith, g, e, g');
        answered = omega (arith, e, j, m);
        injected = omega (arith, j, d, waiting);
        gathered = omega (arith, d, g, d');
        room = λ p. let r = room_after p in omega (arith, r, d, g);
        places = places_then c s.answered s.injected (rest c i s) s.numbers none waits rest_length h.numbered i.stalls;
        numbered = numbered_then c s.answered s.injected (rest c i s) s.numbers none waits rest_length h.numbered i.stalls;
        inside = omega (arith, m, e, j);
        numbers = numbers_then c s.answered s.injected (rest c i s) s.numbers none waits rest_length h.numbered rest_numbers (λ n. all_rest (not-true (back c i s 0) n)) i.stalls;
        passed = omega arith;
      }

pub stays_sound : StaysSound
stays_sound c i s h = stays c i s h
