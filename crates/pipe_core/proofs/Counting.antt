-- How long packets wait: of clocks that are counted, how many there can have been when a packet is in a place, or is still to be injected.
use Rattle.std.proofs.Common.{◌≡◌, ℕ, zero, suc, ◌+◌, ◌*◌, ◌<◌, ◌≤◌, inl, inr, Bool, true, false, List, [], ◌∷◌, Option, Some, None, length, get_or, drop, refl, sym, ap, ◌∙◌, subst, arith, not}
use Rattle.std.specs.Prelude.{if◌then◌else◌, nat_lt, nat_le, ◌&&◌, ◌||◌, is_some, replicate}
use Rattle.std.specs.Option.{option_map}
use Rattle.std.proofs.lemmas.Bool.{and_parts, cases_lt}
use Rattle.std.proofs.lemmas.Bool.Decides.{nat_tests}
use Rattle.std.proofs.Math.Nat.{mul-le-mul_left}
use Rattle.realization.proofs.list_laws_laws.PlaceLaws.{no_mark}
use Rattle.hazard_core.specs.cell_core.Cells.{bit}
use Rattle.hazard_core.specs.cell_core.Sites.{site_at}
use Rattle.hazard_core.specs.Tables.{TableState}
use Rattle.hazard_core.specs.StageValues.{StageValues}
use Rattle.hazard_core.specs.declared.change.Change.{Change}
use Rattle.hazard_core.specs.Marks.{known_off}
use Rattle.hazard_core.specs.Rows.{with_row}
use Rattle.realization.specs.beat_core.Ports.{Arrival}
use Rattle.hazard_core.proofs.cell_core_laws.NumberLaws.{marked_of}
use Rattle.pipe_core.specs.Machine.{Packet, Build, packet_of, no_frame, place_at, inside, marked_at, entered, marked_by, marked_below, must_reload, sends, some_send, flushed, enters, moved, injected, newcomer}
use Rattle.pipe_core.proofs.Order.{last_or, moved_inside, place_last, marked_by_inside}
use Rattle.pipe_core.proofs.Passing.{drop_moved, drop_marked_by, drop_flushed}
use Rattle.pipe_core.proofs.Sequencing.{last_dropped}
use Rattle.pipe_core.proofs.Righting.{unmarked_must_not_reload}
use Rattle.pipe_core.proofs.FlushLaws.{flushed_length, flushed_none}

-- whether a packet has committed, as a number
abbrev pub begun : ℕ → ℕ
begun zero = 0
begun (suc d) = 1

-- the packets past the commit place
abbrev pub past : Build → List (Option Packet) → ℕ
past b places = inside (drop (suc b.plan.commit) places)

-- m clocks were counted so far; c packets have passed the commit place, by the count that begins with z, and ca is one more while one commits. Of a packet with
-- this number at place k: when it was injected `since` had passed, and each counted clock since then moved it on. If it is marked one has committed since then.
pub record Age (b : Build) (z m c ca number k : ℕ) (x : Packet) : Type 0 where
  pub since : ℕ
  pub count : m ≤ since * (b.plan.last + 2) + number + 1 + k
  pub gone : since ≤ c
  pub older : since ≤ z + number
  pub later : (j : ℕ) → j < length b.program.sites → marked_at x j ≡ true → since + 1 ≤ ca

abbrev pub AgeOf : Build → ℕ → ℕ → ℕ → ℕ → ℕ → ℕ → Option Packet → Type 0
AgeOf b z m c ca number k None = Unit {0}
AgeOf b z m c ca number k (Some x) = Age b z m c ca number k x

-- e packets have left
abbrev pub Aged : Build → ℕ → ℕ → ℕ → ℕ → ℕ → ℕ → List (Option Packet) → Type 0
Aged b z m c ca e k [] = Unit {0}
Aged b z m c ca e k (x ∷ xs) = AgeOf b z m c ca (e + inside xs) k x × Aged b z m c ca e (suc k) xs

pub cons_inside : (x : Option Packet) (xs : List (Option Packet)) → inside (x ∷ xs) ≡ bit (is_some x) + inside xs
cons_inside None xs = omega arith
cons_inside (Some x) xs = omega arith

-- ---- sending back

no : false ≡ true → ⊥
no e = cc

reload_later : (b : Build) (z m c ca number k : ℕ) (x : Packet) → (a : Age b z m c ca number k x) → must_reload b k x ≡ true → a.since + 1 ≤ ca
reload_later b z m c ca number k x a reload = elim (cases_lt a.since ca) [
  | inl l ↦ omega (arith, l)
  | inr l ↦ absurd (no (sym (unmarked_must_not_reload b k x (λ j in_range. off j in_range l (marked_at x j) refl)) ∙ reload))
]
  where
    off : (j : ℕ) → j < length b.program.sites → ca ≤ a.since → (mark : Bool) → marked_at x j ≡ mark → mark ≡ false
    off j in_range l true e = absurd (omega (arith, l, a.later j in_range e))
    off j in_range l false e = refl

-- who is sent back pays for the clock
pays_one : (b : Build) → b.plan.commit ≤ b.plan.last → (z m c ca number k : ℕ) (x : Option Packet) → AgeOf b z m c ca number k x → sends b k x ≡ true → m + 1 ≤ ca * (b.plan.last + 2) + number
pays_one b far z m c ca number k None a e = cc
pays_one b far z m c ca number k (Some x) a e =
    let q = and_parts (nat_le k b.plan.commit) (must_reload b k x) e in
    let l : (b.plan.last + 2) * (a.since + 1) ≤ (b.plan.last + 2) * ca = mul-le-mul_left (b.plan.last + 2) (reload_later b z m c ca number k x a q.1) in
    omega (arith, l, a.count, at_most (nat_le k b.plan.commit) refl q.0, far)
  where
    at_most : (c : Bool) → nat_le k b.plan.commit ≡ c → c ≡ true → k ≤ b.plan.commit
    at_most true e f = grind (arith, nat_tests)
    at_most false e f = cc

module _ (b : Build) (z m c ca e : ℕ) where
  aged_flushed : (k : ℕ) (xs : List (Option Packet)) → Aged b z m c ca e k xs → Aged b z m c ca e k (flushed b k xs)
  aged_flushed k [] h = tt
  aged_flushed k (x ∷ xs) h = by (sends b k x) (some_send b (suc k) xs) refl (aged_flushed (suc k) xs h.1)
    where
      by : (s d : Bool) → some_send b (suc k) xs ≡ d → Aged b z m c ca e (suc k) (flushed b (suc k) xs) → Aged b z m c ca e k ((if s || d then None else x) ∷ flushed b (suc k) xs)
      by true d p more = (tt, more)
      by false true p more = (tt, more)
      by false false p more = (subst (λ l. AgeOf b z m c ca (e + inside l) k x) (sym (flushed_none b (suc k) xs p)) h.0, more)

  pays : b.plan.commit ≤ b.plan.last → (k : ℕ) (xs : List (Option Packet)) → Aged b z m c ca e k xs → some_send b k xs ≡ true → m + 1 ≤ ca * (b.plan.last + 2) + (e + inside (flushed b k xs))
  pays far k [] h s = cc
  pays far k (x ∷ xs) h s = by (sends b k x) (some_send b (suc k) xs) refl refl s (pays far (suc k) xs h.1)
    where
      by : (s d : Bool) → sends b k x ≡ s → some_send b (suc k) xs ≡ d → s || d ≡ true → (some_send b (suc k) xs ≡ true → m + 1 ≤ ca * (b.plan.last + 2) + (e + inside (flushed b (suc k) xs))) → m + 1 ≤ ca * (b.plan.last + 2) + (e + inside ((if s || d then None else x) ∷ flushed b (suc k) xs))
      by true true p q t more = more q
      by false true p q t more = more q
      by true false p q t more = subst (λ l. m + 1 ≤ ca * (b.plan.last + 2) + (e + inside l)) (sym (flushed_none b (suc k) xs q)) (pays_one b far z m c ca (e + inside xs) k x h.0 p)
      by false false p q t more = cc

-- ---- a commit: whatever it marks was injected before

aged_marked_by : (b : Build) (z m c ca ca' e to : ℕ) (t : TableState) (change : Change) (k : ℕ) (xs : List (Option Packet)) → c + 1 ≤ ca' → Aged b z m c ca e k xs → Aged b z m c ca' e k (marked_below to b t change k xs)
aged_marked_by b z m c ca ca' e to t change k [] more h = tt
aged_marked_by b z m c ca ca' e to t change k (x ∷ xs) more h =
    (subst (λ n. AgeOf b z m c ca' (e + n) k (if nat_lt k to then option_map (marked_by b t k change) x else x)) (sym (marked_by_inside to b t change (suc k) xs)) (by (nat_lt k to) x h.0), aged_marked_by b z m c ca ca' e to t change (suc k) xs more h.1)
  where
    one : (x y : Packet) → Age b z m c ca (e + inside xs) k x → Age b z m c ca' (e + inside xs) k y
    one x y a = record { since = a.since; count = a.count; gone = a.gone; older = a.older; later = λ j l marked. omega (arith, a.gone, more) }

    by : (below : Bool) (x : Option Packet) → AgeOf b z m c ca (e + inside xs) k x → AgeOf b z m c ca' (e + inside xs) k (if below then option_map (marked_by b t k change) x else x)
    by true None a = tt
    by true (Some x) a = one x (marked_by b t k change x) a
    by false None a = tt
    by false (Some x) a = one x x a

-- ---- all move on, in a clock that is counted or not

and_left : (c d : Bool) → c && d ≡ true → c ≡ true
and_left true d e = refl
and_left false d e = cc

entering : (b : Build) (z m c ca number : ℕ) (t : TableState) (k : ℕ) (came : Arrival) (x : Option Packet) → AgeOf b z m c ca number k x → AgeOf b z m c ca number k (enters b t k came x)
unfolding entered
entering b z m c ca number t k came None a = tt
entering b z m c ca number t k came (Some x) a = record {
  since = a.since;
  count = a.count;
  gone = a.gone;
  older = a.older;
  later = λ j l marked. a.later j l (and_left (marked_at x j) (not (known_off b.plan.row k h (site_at b.program.sites j)))
      (sym (marked_of (λ j. marked_at x j && not (known_off b.plan.row k h (site_at b.program.sites j))) (length b.program.sites) j l) ∙ marked));
}
  where
    h : StageValues
    h = with_row b.program b.plan.row k t (packet_of came) x.held

module _ (b : Build) (z m m' c c' ca ca' e : ℕ) (t : TableState) (fs : List Arrival) (one : m' ≤ m + 1) (up : c ≤ c') (up' : ca ≤ ca') where
  goes_on : (number k : ℕ) (x : Option Packet) → AgeOf b z m c ca number k x → AgeOf b z m' c' ca' number (suc k) x
  goes_on number k None a = tt
  goes_on number k (Some x) a = record { since = a.since; count = omega (arith, a.count, one); gone = omega (arith, a.gone, up); older = a.older; later = λ j l marked. omega (arith, a.later j l marked, up') }

  aged_moved : (k : ℕ) (x : Option Packet) (ys : List (Option Packet)) → AgeOf b z m' c' ca' (e + inside ys) k x → Aged b z m c ca e k ys →
      Aged b z m' c' ca' (e + bit (is_some (last_or x ys))) k (moved b t fs k x ys)
  aged_moved k x [] a h = tt
  aged_moved k x (y ∷ ys) a h =
      let count : e + bit (is_some (last_or y ys)) + inside (moved b t fs (suc k) y ys) ≡ e + inside (y ∷ ys) = omega (arith, moved_inside b t fs (suc k) y ys) in (
        subst (λ n. AgeOf b z m' c' ca' n k (enters b t k (came ys) x)) (sym count) (entering b z m' c' ca' (e + inside (y ∷ ys)) t k (came ys) x a),
        aged_moved (suc k) y ys (goes_on (e + inside ys) k y h.0) h.1,
      )
    where
      came : List (Option Packet) → Arrival
      came ys = get_or fs (inside (y ∷ ys)) no_frame

-- ---- the places after an action

-- what is counted of places, before the clock
pub record Bounds (b : Build) (z n m e done : ℕ) (places : List (Option Packet)) : Type 0 where
  pub aged : Aged b z m (z + e + past b places) (z + e + past b places + begun done) e 0 places
  pub inject : e + inside places < n → m ≤ (z + e + past b places + begun done) * (b.plan.last + 2) + (e + inside places)

pub past_flushed : (b : Build) (places : List (Option Packet)) → past b (flushed b 0 places) ≡ past b places
past_flushed b places = ap inside (drop_flushed b 0 (suc b.plan.commit) places (omega arith))

pub past_marked_by : (b : Build) (t : TableState) (change : Change) (places : List (Option Packet)) → past b (marked_below b.plan.commit b t change 0 (flushed b 0 places)) ≡ past b places
past_marked_by b t change places = ap inside (drop_marked_by b.plan.commit b t change 0 (suc b.plan.commit) (flushed b 0 places) (omega arith)) ∙ past_flushed b places

pub commits_bounds : (b : Build) → b.plan.commit ≤ b.plan.last → (z n m e done : ℕ) (t : TableState) (change : Change) (j : ℕ) (places : List (Option Packet)) → Bounds b z n m e done places →
    Bounds b z n m e (suc j) (marked_below b.plan.commit b t change 0 (flushed b 0 places))
commits_bounds b far z n m e done t change j places h = record {
  aged = subst (λ p. Aged b z m (z + e + p) (z + e + p + 1) e 0 after) (sym same) (aged_marked_by b z m c ca (c + 1) e b.plan.commit t change 0 rest (omega arith) (aged_flushed b z m c ca e 0 places h.aged));
  inject = λ l. by (some_send b 0 places) refl l;
}
  where
    rest : List (Option Packet)
    rest = flushed b 0 places

    after : List (Option Packet)
    after = marked_below b.plan.commit b t change 0 rest

    c : ℕ
    c = z + e + past b places

    ca : ℕ
    ca = c + begun done

    at_most : (d : ℕ) → begun d ≤ 1
    at_most zero = omega arith
    at_most (suc d) = omega arith

    same : past b after ≡ past b places
    same = past_marked_by b t change places

    weight : (b.plan.last + 2) * ca ≤ (b.plan.last + 2) * (z + e + past b after + 1)
    weight = mul-le-mul_left (b.plan.last + 2) (omega (arith, same, at_most done))

    count : inside after ≡ inside rest
    count = marked_by_inside b.plan.commit b t change 0 rest

    by : (back : Bool) → some_send b 0 places ≡ back → e + inside after < n → m ≤ (z + e + past b after + 1) * (b.plan.last + 2) + (e + inside after)
    by true q l = omega (arith, pays b z m c ca e far 0 places h.aged q, weight, count)
    by false q l = let i : inside rest ≡ inside places = ap inside (flushed_none b 0 places q) in omega (arith, h.inject (omega (arith, l, count, i)), weight, count, i)

pub past_moved : (b : Build) → b.plan.commit ≤ b.plan.last → (t : TableState) (fs : List Arrival) (new : Option Packet) (rest : List (Option Packet)) → length rest ≡ suc b.plan.last →
    past b (moved b t fs 0 new rest) + bit (is_some (place_at rest b.plan.last)) ≡ bit (is_some (place_at rest b.plan.commit)) + past b rest
past_moved b far t fs new rest long =
    let l : b.plan.commit < length rest = omega (arith, long, far) in
    let at = place_at rest b.plan.commit in
    let older = drop (suc b.plan.commit) rest in
    let d : past b (moved b t fs 0 new rest) ≡ inside (moved b t fs (suc (0 + b.plan.commit)) at older) = ap inside (drop_moved b t fs 0 b.plan.commit new rest l) in
    let last : bit (is_some (place_at rest b.plan.last)) ≡ bit (is_some (last_or at older)) = ap (λ o. bit (is_some o)) (last_dropped rest b.plan.commit b.plan.last l (sym long)) in
    omega (arith, d, moved_inside b t fs (suc (0 + b.plan.commit)) at older, last, cons_inside at older)

pub among : (xs : List (Option Packet)) (k : ℕ) → bit (is_some (place_at xs k)) + inside (drop (suc k) xs) ≤ inside xs
among [] k = omega arith
among (x ∷ xs) zero = omega (arith, cons_inside x xs)
among (x ∷ xs) (suc k) = omega (arith, cons_inside x xs, among xs k)

nothing_later : (b : Build) (z m c ca number : ℕ) → m ≤ number + 1 + c * (b.plan.last + 2) → c ≤ z + number → Age b z m c ca number 0 (injected b.program)
nothing_later b z m c ca number count older = record {
  since = c;
  count = omega (arith, count);
  gone = omega arith;
  older = older;
  later = λ j l marked. absurd (no (sym (no_mark (length b.program.sites) j) ∙ marked));
}

-- All move on: a clock is counted only where something is sent back, or a frame waits, or none is left.
pub moves_bounds : (b : Build) → b.plan.commit ≤ b.plan.last → (z n m m' e done : ℕ) (t : TableState) (fs : List Arrival) (places : List (Option Packet)) → length places ≡ suc b.plan.last →
    e + length fs ≤ n → (0 < done → bit (is_some (place_at (flushed b 0 places) b.plan.commit)) ≡ 1) →
    m' ≤ m + 1 → (some_send b 0 places ≡ false → length fs ≤ inside places → e + inside places < n → m' ≤ m) → Bounds b z n m e done places →
    Bounds b z n m' (e + bit (is_some (place_at (flushed b 0 places) b.plan.last))) 0 (moved b t fs 0 (newcomer b (some_send b 0 places) fs (flushed b 0 places)) (flushed b 0 places))
moves_bounds b far z n m m' e done t fs places long all amid one quiet h = by (some_send b 0 places) refl (nat_lt (inside rest) (length fs)) refl
  where
    rest : List (Option Packet)
    rest = flushed b 0 places

    c : ℕ
    c = z + e + past b places

    ca : ℕ
    ca = c + begun done

    out : ℕ
    out = bit (is_some (place_at rest b.plan.last))

    at : ℕ
    at = bit (is_some (place_at rest b.plan.commit))

    rest_long : length rest ≡ suc b.plan.last
    rest_long = flushed_length b 0 places ∙ long

    c' : ℕ
    c' = c + at

    up : ca ≤ c'
    up = passing done amid
      where
        passing : (d : ℕ) → (0 < d → at ≡ 1) → c + begun d ≤ c'
        passing zero amid = omega arith
        passing (suc d) amid = omega (arith, amid (omega arith))

    weight : (b.plan.last + 2) * ca ≤ (b.plan.last + 2) * c'
    weight = mul-le-mul_left (b.plan.last + 2) up

    in_rest : c' ≤ z + (e + inside rest)
    in_rest = omega (arith, among rest b.plan.commit, past_flushed b places)

    last_is : (xs : List (Option Packet)) → length xs ≡ suc b.plan.last → (new : Option Packet) → last_or new xs ≡ place_at xs b.plan.last
    last_is [] l new = absurd (omega (arith, l))
    last_is (y ∷ ys) l new = let q : b.plan.last ≡ length ys = omega (arith, l) in sym (ap (place_at (y ∷ ys)) q ∙ place_last y ys)

    with_new : (new : Option Packet) → AgeOf b z m' c' c' (e + inside rest) 0 new → (e + (bit (is_some new) + inside rest) < n → m' ≤ c' * (b.plan.last + 2) + (e + (bit (is_some new) + inside rest))) →
        Bounds b z n m' (e + out) 0 (moved b t fs 0 new rest)
    with_new new a i =
        let after = moved b t fs 0 new rest in
        let p : z + (e + out) + past b after ≡ c' = omega (arith, past_moved b far t fs new rest rest_long, past_flushed b places) in
        let last : bit (is_some (last_or new rest)) ≡ out = ap (λ o. bit (is_some o)) (last_is rest rest_long new) in
        let count : e + out + inside after ≡ e + (bit (is_some new) + inside rest) = omega (arith, moved_inside b t fs 0 new rest, last, cons_inside new rest) in
        let p0 : z + (e + out) + past b after + 0 ≡ c' = omega (arith, p) in
        record {
          aged = subst (λ q. Aged b z m' q (z + (e + out) + past b after + 0) (e + out) 0 after) (sym p) (subst (λ q. Aged b z m' c' q (e + out) 0 after) (sym p0) (subst (λ o. Aged b z m' c' c' (e + o) 0 after) last
              (aged_moved b z m m' c c' ca c' e t fs one (omega arith) up 0 new rest a (aged_flushed b z m c ca e 0 places h.aged))));
          inject = λ l. subst (λ q. m' ≤ q * (b.plan.last + 2) + (e + out + inside after)) (sym p0) (subst (λ q. m' ≤ c' * (b.plan.last + 2) + q) (sym count) (i (omega (arith, l, count))));
        }

    by : (back : Bool) → some_send b 0 places ≡ back → (waits : Bool) → nat_lt (inside rest) (length fs) ≡ waits →
        Bounds b z n m' (e + out) 0 (moved b t fs 0 (if not back && waits then Some (injected b.program) else None) rest)
    by true q waits w = with_new None tt (λ l. omega (arith, pays b z m c ca e far 0 places h.aged q, weight, one))
    by false q true w =
        let same : inside rest ≡ inside places = ap inside (flushed_none b 0 places q) in
        let l : inside rest < length fs = grind (arith, nat_tests) in
        let before = h.inject (omega (arith, same, l, all)) in
        with_new (Some (injected b.program)) (nothing_later b z m' c' c' (e + inside rest) (omega (arith, before, weight, one, same)) in_rest) (λ u. omega (arith, before, weight, one, same))
    by false q false w =
        let same : inside rest ≡ inside places = ap inside (flushed_none b 0 places q) in
        let l : length fs ≤ inside rest = grind (arith, nat_tests) in
        with_new None tt (λ u. let v : e + inside places < n = omega (arith, u, same) in omega (arith, h.inject v, weight, same, quiet q (omega (arith, l, same)) v))

-- ---- what this says

-- a packet in a place bounds what is counted
pub within : (b : Build) (z n m c ca e k : ℕ) (xs : List (Option Packet)) → k + length xs ≤ suc b.plan.last → e + inside xs ≤ n → 1 ≤ inside xs → Aged b z m c ca e k xs → m + 2 ≤ (z + n) * (b.plan.last + 2) + n
within b z n m c ca e k [] long all some h = absurd (omega (arith, some))
within b z n m c ca e k (None ∷ xs) long all some h = within b z n m c ca e (suc k) xs (omega (arith, long)) all some h.1
within b z n m c ca e k (Some x ∷ xs) long all some h =
    let a : Age b z m c ca (e + inside xs) k x = h.0 in
    let w : (b.plan.last + 2) * (a.since + 1) ≤ (b.plan.last + 2) * (z + n) = mul-le-mul_left (b.plan.last + 2) (omega (arith, a.older, all)) in
    omega (arith, a.count, w, long, all)

pub left_within : (b : Build) (z n m e done : ℕ) (places : List (Option Packet)) → (0 < done → bit (is_some (place_at places b.plan.commit)) ≡ 1) → Bounds b z n m e done places → e + inside places < n → m + 2 ≤ (z + n) * (b.plan.last + 2) + n
left_within b z n m e done places amid h l =
    let w : (b.plan.last + 2) * (z + e + past b places + begun done + 1) ≤ (b.plan.last + 2) * (z + n) = mul-le-mul_left (b.plan.last + 2) (omega (arith, among places b.plan.commit, passing done amid, l)) in
    omega (arith, h.inject l, w, l)
  where
    passing : (d : ℕ) → (0 < d → bit (is_some (place_at places b.plan.commit)) ≡ 1) → begun d ≤ bit (is_some (place_at places b.plan.commit))
    passing zero amid = omega arith
    passing (suc d) amid = omega (arith, amid (omega arith))

-- ---- at the start

pub none_aged : (b : Build) (z m c ca e k n : ℕ) → Aged b z m c ca e k (replicate n None)
none_aged b z m c ca e k zero = tt
none_aged b z m c ca e k (suc n) = (tt, none_aged b z m c ca e (suc k) n)

-- whoever is there when the count begins
pub begins_aged : (b : Build) (z c ca e k : ℕ) (xs : List (Option Packet)) → 1 ≤ ca → Aged b z 0 c ca e k xs
begins_aged b z c ca e k [] some = tt
begins_aged b z c ca e k (None ∷ xs) some = (tt, begins_aged b z c ca e (suc k) xs some)
begins_aged b z c ca e k (Some x ∷ xs) some = (record { since = 0; count = omega arith; gone = omega arith; older = omega arith; later = λ j l marked. omega (arith, some) }, begins_aged b z c ca e (suc k) xs some)
