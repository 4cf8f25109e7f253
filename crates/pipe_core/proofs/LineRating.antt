-- A drive at line rate: clocks without a commit are bounded by the beats, at each point of the pipe.
use Rattle.std.proofs.Common.{◌≡◌, ℕ, zero, suc, ◌+◌, ◌-◌, ◌*◌, ◌/◌, ◌<◌, ◌≤◌, ◌⊎◌, inl, inr, Bool, true, false, List, [], ◌∷◌, ◌++◌, Option, Some, None, length, get_or, drop, refl, sym, ap, ◌∙◌, subst, arith, not, length-append}
use Rattle.std.specs.Prelude.{if◌then◌else◌, nat_lt, nat_le, ◌&&◌, ◌||◌, is_some, replicate}
use Rattle.std.specs.List.{flat_map, AllByRecursion}
use Rattle.std.specs.Option.{option_map}
use Rattle.std.proofs.lemmas.Bool.{and_parts, cases_lt}
use Rattle.std.proofs.lemmas.Bool.Decides.{nat_tests}
use Rattle.std.proofs.Math.Nat.{add-div_right, div-mul-le_self, le-div_iff_mul-le, mul-le-mul_left}
use Rattle.realization.specs.beat_core.declared.beat.Beat.{Beat}
use Rattle.realization.specs.beat_core.declared.answer.Answer.{Answer}
use Rattle.realization.specs.beat_core.Beats.{beats_of}
use Rattle.realization.specs.beat_core.Laws.{IsFrame}
use Rattle.realization.specs.beat_core.Ports.{Arrival}
use Rattle.realization.specs.Bounds.{most_beats, beats_before, FollowWithin, line_clocks, wait_clocks, all_writing}
use Rattle.hazard_core.specs.xdp_maps.State.{MapState}
use Rattle.hazard_core.specs.xdp_machine.Touched.{Touched}
use Rattle.hazard_core.specs.cell_core.Cells.{bit}
use Rattle.hazard_core.specs.Tables.{TableState}
use Rattle.hazard_core.specs.declared.change.Change.{Change}
use Rattle.hazard_core.specs.Commits.{change_by}
use Rattle.pipe_core.specs.Machine.{Packet, State, Input, Build, Action, Commits, Writes, Moves, no_frame, place_at, inside, injected, marked_by, marked_below, must_reload, sends, some_send, flushed, enters, moved, newcomer, worked, work, is_ready, beat_over, taken_beat, clock, new_state}
use Rattle.pipe_core.specs.History.{Trace, left_as, left_in, came_in, gave_in, next, run, begin}
use Rattle.pipe_core.specs.Drive.{Driven, driving, drive_clock, Beside, drive, drive_start, ahead, beats_in}
use Rattle.pipe_core.specs.Forward.{GoesForward, commit_count, commits_in}
use Rattle.pipe_core.specs.Apart.{AllRun, CommitsAreWrites, LateCommitsAreWrites}
use Rattle.pipe_core.specs.Unconflicting.{StaysForward}
use Rattle.pipe_core.specs.SeenChanges.{rest_of, action_in}
use Rattle.pipe_core.specs.LineRate.{reloads_in, DrivesAtLineRate, GivesFirst, FullDriveAtLineRate, LateDriveAtLineRate, LateFirstAtLineRate}
use Rattle.pipe_core.proofs.Order.{last_or, place_last, moved_inside, marked_by_inside, beats_keep}
use Rattle.pipe_core.proofs.FlushLaws.{flushed_length, flushed_inside, flushed_none}
use Rattle.pipe_core.proofs.HistoryLaws.{ahead_append}
use Rattle.pipe_core.proofs.Acting.{ActionIs, action_is}
use Rattle.pipe_core.proofs.Draining.{part_beats, lasts, no_lasts, to_give, Driving, begins_driving}
use Rattle.pipe_core.proofs.Offering.{Offered, offered_on}
use Rattle.pipe_core.proofs.Timing.{ahead_is, left_after, reaches}
use Rattle.pipe_core.proofs.LineSums.{upto, total, AreSome, upto_next, upto_more, frame_counts, all_counts, coming_frames, upto_frames, frame_counts_length, counts_stay, Counted, counted}

-- ---- of each packet in a place, by its number and its place, where e have left

abbrev OneIs : (ℕ → ℕ → Type 0) → ℕ → ℕ → Option Packet → Type 0
OneIs P number k None = Unit {0}
OneIs P number k (Some x) = P number k

abbrev Placed : (ℕ → ℕ → Type 0) → ℕ → ℕ → List (Option Packet) → Type 0
Placed P e k [] = Unit {0}
Placed P e k (x ∷ xs) = OneIs P (e + inside xs) k x × Placed P e (suc k) xs

one_map : (P Q : ℕ → ℕ → Type 0) → ((y k : ℕ) → P y k → Q y k) → (y k : ℕ) (x : Option Packet) → OneIs P y k x → OneIs Q y k x
one_map P Q f y k None h = tt
one_map P Q f y k (Some x) h = f y k h

placed_map : (P Q : ℕ → ℕ → Type 0) → ((y k : ℕ) → P y k → Q y k) → (e k : ℕ) (xs : List (Option Packet)) → Placed P e k xs → Placed Q e k xs
placed_map P Q f e k [] h = tt
placed_map P Q f e k (x ∷ xs) h = (one_map P Q f (e + inside xs) k x h.0, placed_map P Q f e (suc k) xs h.1)

module _ (b : Build) (P : ℕ → ℕ → Type 0) (e : ℕ) where
  placed_flushed : (k : ℕ) (xs : List (Option Packet)) → Placed P e k xs → Placed P e k (flushed b k xs)
  placed_flushed k [] h = tt
  placed_flushed k (x ∷ xs) h = by (sends b k x) (some_send b (suc k) xs) refl (placed_flushed (suc k) xs h.1)
    where
      by : (s d : Bool) → some_send b (suc k) xs ≡ d → Placed P e (suc k) (flushed b (suc k) xs) → Placed P e k ((if s || d then None else x) ∷ flushed b (suc k) xs)
      by true d p more = (tt, more)
      by false true p more = (tt, more)
      by false false p more = (subst (λ l. OneIs P (e + inside l) k x) (sym (flushed_none b (suc k) xs p)) h.0, more)

  -- the oldest packet that is sent back stood at a place up to the commit place
  abbrev Sent : ℕ → Type 0
  Sent number = (at : ℕ) × (at ≤ b.plan.commit) × P number at

  sent_one : (number k : ℕ) (x : Option Packet) → OneIs P number k x → sends b k x ≡ true → Sent number
  sent_one number k None h s = cc
  sent_one number k (Some x) h s = (k, at_most (nat_le k b.plan.commit) refl (and_parts (nat_le k b.plan.commit) (must_reload b k x) s).0, h)
    where
      at_most : (c : Bool) → nat_le k b.plan.commit ≡ c → c ≡ true → k ≤ b.plan.commit
      at_most true q f = grind (arith, nat_tests)
      at_most false q f = cc

  sent : (k : ℕ) (xs : List (Option Packet)) → Placed P e k xs → some_send b k xs ≡ true → Sent (e + inside (flushed b k xs))
  sent k [] h s = cc
  sent k (x ∷ xs) h s = by (sends b k x) (some_send b (suc k) xs) refl refl s (sent (suc k) xs h.1)
    where
      by : (c d : Bool) → sends b k x ≡ c → some_send b (suc k) xs ≡ d → c || d ≡ true → (some_send b (suc k) xs ≡ true → Sent (e + inside (flushed b (suc k) xs))) → Sent (e + inside ((if c || d then None else x) ∷ flushed b (suc k) xs))
      by true true p q t more = more q
      by false true p q t more = more q
      by true false p q t more = subst (λ l. Sent (e + inside l)) (sym (flushed_none b (suc k) xs q)) (sent_one (e + inside xs) k x h.0 p)
      by false false p q t more = cc

  placed_marked_by : (to : ℕ) (t : TableState) (change : Change) (k : ℕ) (xs : List (Option Packet)) → Placed P e k xs → Placed P e k (marked_below to b t change k xs)
  placed_marked_by to t change k [] h = tt
  placed_marked_by to t change k (x ∷ xs) h =
      (subst (λ n. OneIs P (e + n) k (if nat_lt k to then option_map (marked_by b t k change) x else x)) (sym (marked_by_inside to b t change (suc k) xs)) (by (nat_lt k to) x h.0), placed_marked_by to t change (suc k) xs h.1)
    where
      by : (below : Bool) (x : Option Packet) → OneIs P (e + inside xs) k x → OneIs P (e + inside xs) k (if below then option_map (marked_by b t k change) x else x)
      by true None h = tt
      by true (Some x) h = h
      by false None h = tt
      by false (Some x) h = h

  -- the oldest packet of all
  oldest : (k : ℕ) (xs : List (Option Packet)) → Placed P e k xs → 1 ≤ inside xs → (at : ℕ) × (at < k + length xs) × P e at
  oldest k [] h l = absurd (omega (arith, l))
  oldest k (None ∷ xs) h l = let o = oldest (suc k) xs h.1 l in (o.0, omega (arith, o.1), o.2)
  oldest k (Some x ∷ xs) h l = elim (cases_lt 0 (inside xs)) [
    | inl some ↦ let o = oldest (suc k) xs h.1 (omega (arith, some)) in (o.0, omega (arith, o.1), o.2)
    | inr none ↦ let z : e + inside xs ≡ e = omega (arith, none) in (k, omega arith, subst (λ n. P n k) z h.0)
  ]

module _ (b : Build) (P Q : ℕ → ℕ → Type 0) (on : (y k : ℕ) → P y k → Q y (suc k)) (e : ℕ) (t : TableState) (fs : List Arrival) where
  one_on : (y k : ℕ) (x : Option Packet) → OneIs P y k x → OneIs Q y (suc k) x
  one_on y k None h = tt
  one_on y k (Some x) h = on y k h

  one_enters : (y k : ℕ) (c : Arrival) (x : Option Packet) → OneIs Q y k x → OneIs Q y k (enters b t k c x)
  one_enters y k c None h = tt
  one_enters y k c (Some x) h = h

  placed_moved : (k : ℕ) (x : Option Packet) (ys : List (Option Packet)) → OneIs Q (e + inside ys) k x → Placed P e k ys → Placed Q (e + bit (is_some (last_or x ys))) k (moved b t fs k x ys)
  placed_moved k x [] a h = tt
  placed_moved k x (y ∷ ys) a h =
      let count : e + bit (is_some (last_or y ys)) + inside (moved b t fs (suc k) y ys) ≡ e + inside (y ∷ ys) = omega (arith, moved_inside b t fs (suc k) y ys) in
      (subst (λ n. OneIs Q n k (enters b t k (came y ys) x)) (sym count) (one_enters (e + inside (y ∷ ys)) k (came y ys) x a), placed_moved (suc k) y ys (one_on (e + inside ys) k y h.0) h.1)
    where
      came : Option Packet → List (Option Packet) → Arrival
      came y ys = get_or fs (inside (y ∷ ys)) no_frame

last_is : (last : ℕ) (xs : List (Option Packet)) → length xs ≡ suc last → (new : Option Packet) → last_or new xs ≡ place_at xs last
last_is last [] l new = absurd (omega (arith, l))
last_is last (y ∷ ys) l new = let q : last ≡ length ys = omega (arith, l) in sym (ap (place_at (y ∷ ys)) q ∙ place_last y ys)

-- ---- the bounds

-- The packet of this number, at this place: u clocks have gone without a commit, and rho are allowed for.
abbrev InTime : List ℕ → (ℕ → ℕ) → ℕ → ℕ → ℕ → ℕ → Type 0
InTime ms extra u rho y k = u ≤ upto (suc y) ms + extra y + 1 + k + rho

-- of those in places, and of the next one that is to be injected
record Placing (ms : List ℕ) (extra : ℕ → ℕ) (u rho e : ℕ) (places : List (Option Packet)) : Type 0 where
  injects : e + inside places < length ms → u ≤ upto (suc (e + inside places)) ms + extra (e + inside places) + rho
  moves : Placed (InTime ms extra u rho) e 0 places

-- what is paid where packets are sent back
abbrev paid : Build → Bool → ℕ
paid b back = bit back * (b.plan.commit + 2)

module _ (b : Build) (ms : List ℕ) (some : AreSome ms) (extra : ℕ → ℕ) (rises : (i j : ℕ) → i ≤ j → extra i ≤ extra j) (u rho e : ℕ) (places : List (Option Packet)) (h : Placing ms extra u rho e places) where
  abbrev P : ℕ → ℕ → Type 0
  P = InTime ms extra u rho

  abbrev back : Bool
  back = some_send b 0 places

  abbrev rest : List (Option Packet)
  rest = flushed b 0 places

  -- who is sent back pays for the way that it goes again
  pays : back ≡ true → u + 1 ≤ upto (suc (e + inside rest)) ms + extra (e + inside rest) + rho + (b.plan.commit + 2)
  pays q = let s = sent b P e 0 places h.moves q in omega (arith, s.1, s.2)

  same_inside : back ≡ false → inside rest ≡ inside places
  same_inside q = ap inside (flushed_none b 0 places q)

  kept : Placed P e 0 rest
  kept = placed_flushed b P e 0 places h.moves

  commits_placing : (t : TableState) (change : Change) → Placing ms extra u (rho + paid b back) e (marked_below b.plan.commit b t change 0 rest)
  commits_placing t change = record {
    injects = λ l. by back refl l;
    moves = placed_marked_by b (InTime ms extra u (rho + paid b back)) e b.plan.commit t change 0 rest (placed_map P (InTime ms extra u (rho + paid b back)) (λ y k g. omega (arith, g)) e 0 rest kept);
  }
    where
      after : List (Option Packet)
      after = marked_below b.plan.commit b t change 0 rest

      count : inside after ≡ inside rest
      count = marked_by_inside b.plan.commit b t change 0 rest

      by : (c : Bool) → back ≡ c → e + inside after < length ms → u ≤ upto (suc (e + inside after)) ms + extra (e + inside after) + (rho + paid b c)
      by true q l = subst (λ n. u ≤ upto (suc (e + n)) ms + extra (e + n) + (rho + paid b true)) (sym count) (omega (arith, pays q))
      by false q l =
          let same : inside after ≡ inside places = count ∙ same_inside q in
          subst (λ n. u ≤ upto (suc (e + n)) ms + extra (e + n) + (rho + paid b false)) (sym same) (omega (arith, h.injects (omega (arith, l, same))))

  module _ (fs : List Arrival) (long : length places ≡ suc b.plan.last) (all : e + length fs ≤ length ms) (packets : inside places ≤ length fs)
      (quiet : length fs ≤ inside places → e + inside places < length ms → u + 1 ≤ upto (suc (e + inside places)) ms + extra (e + inside places) + rho) (t : TableState) where
    abbrev out : ℕ
    out = bit (is_some (place_at rest b.plan.last))

    with_new : (c : Bool) (new : Option Packet) → OneIs (InTime ms extra (u + 1) (rho + paid b c)) (e + inside rest) 0 new
        → (e + inside (new ∷ rest) < length ms → u + 1 ≤ upto (suc (e + inside (new ∷ rest))) ms + extra (e + inside (new ∷ rest)) + (rho + paid b c))
        → Placing ms extra (u + 1) (rho + paid b c) (e + out) (moved b t fs 0 new rest)
    with_new c new one next =
        let last : bit (is_some (last_or new rest)) ≡ out = ap (λ o. bit (is_some o)) (last_is b.plan.last rest (flushed_length b 0 places ∙ long) new) in
        let count : e + out + inside (moved b t fs 0 new rest) ≡ e + inside (new ∷ rest) = omega (arith, moved_inside b t fs 0 new rest, last) in
        record {
          injects = subst (λ n. n < length ms → u + 1 ≤ upto (suc n) ms + extra n + (rho + paid b c)) (sym count) next;
          moves = subst (λ o. Placed (InTime ms extra (u + 1) (rho + paid b c)) (e + o) 0 (moved b t fs 0 new rest)) last
              (placed_moved b P (InTime ms extra (u + 1) (rho + paid b c)) (λ y k g. omega (arith, g)) e t fs 0 new rest one kept);
        }

    moves_placing : Placing ms extra (u + 1) (rho + paid b back) (e + out) (moved b t fs 0 (newcomer b back fs rest) rest)
    moves_placing = by back refl (nat_lt (inside rest) (length fs)) refl
      where
        by : (c : Bool) → back ≡ c → (waits : Bool) → nat_lt (inside rest) (length fs) ≡ waits →
            Placing ms extra (u + 1) (rho + paid b c) (e + out) (moved b t fs 0 (if not c && waits then Some (injected b.program) else None) rest)
        by true q waits w = with_new true None tt (λ l. omega (arith, pays q))
        by false q true w =
            let same = same_inside q in
            let l : inside rest < length fs = grind (arith, nat_tests) in
            let before : u ≤ upto (suc (e + inside rest)) ms + extra (e + inside rest) + rho = subst (λ n. u ≤ upto (suc (e + n)) ms + extra (e + n) + rho) (sym same) (h.injects (omega (arith, same, l, all))) in
            let y : e + suc (inside rest) ≡ suc (e + inside rest) = omega arith in
            with_new false (Some (injected b.program)) (omega (arith, before)) (λ m.
            let more = upto_next ms (suc (e + inside rest)) some (omega (arith, m)) in
            let rise = rises (e + inside rest) (suc (e + inside rest)) (omega arith) in
            subst (λ n. u + 1 ≤ upto (suc n) ms + extra n + (rho + paid b false)) (sym y) (omega (arith, before, more, rise)))
        by false q false w =
            let same = same_inside q in
            let l : length fs ≤ inside rest = grind (arith, nat_tests) in
            with_new false None tt (λ m. subst (λ n. u + 1 ≤ upto (suc (e + n)) ms + extra (e + n) + (rho + paid b false)) (sym same) (omega (arith, quiet (omega (arith, l, same)) (omega (arith, m, same)))))

-- ---- a clock of the drive

record Rated (b : Build) (ms : List ℕ) (most : ℕ) (extra : ℕ → ℕ) (u rho : ℕ) (d : Driven) : Type 0 where
  driving : Driving (length ms) b d
  counts : all_counts d ≡ ms
  gathers : length d.trace.came < length ms → u + length d.left ≤ total ms + extra (length d.trace.came) + rho
  placing : Placing ms extra u rho (length d.trace.left) d.trace.state.places
  gives : length d.trace.gave < length ms → u + to_give d ≤ total ms + extra (length d.trace.gave) + most + b.plan.last + 2 + rho

-- a clock without a commit counts
record Worked (b : Build) (ms : List ℕ) (extra : ℕ → ℕ) (u rho e : ℕ) (a : Action) (places : List (Option Packet)) : Type 0 where
  now : ℕ
  sum : now + commit_count a ≡ u + 1
  placing : Placing ms extra now rho e places

left_count : (o : Option Packet) → length (left_as Moves o) ≡ bit (is_some o)
left_count None = refl
left_count (Some x) = refl

-- a beat goes over inwards, or there is no room, or none is left
beat_in : (ready : Bool) (left : List Beat) → (length (if ready then drop 1 left else left) + 1 ≤ length left) ⊎ ((ready ≡ false) ⊎ (length left ≡ 0))
beat_in false left = inr (inl refl)
beat_in true [] = inr (inr refl)
beat_in true (x ∷ left) = inl (omega arith)

-- there is room for a frame that has begun, and for one more where fewer are inside than there are slots
record Full (b : Build) (s : State) : Type 0 where
  part : part_beats s.part ≡ 0
  held : b.slots ≤ length s.answers + length s.frames

full : (b : Build) (s : State) → is_ready b s ≡ false → Full b s
full b s e = by s.part refl (nat_lt (length s.answers + length s.frames) b.slots) refl e
  where
    by : (p : Option Arrival) → s.part ≡ p → (c : Bool) → nat_lt (length s.answers + length s.frames) b.slots ≡ c → is_some p || c ≡ false → Full b s
    by None p false q e = record { part = ap part_beats p; held = grind (arith, nat_tests) }
    by None p true q e = cc
    by (Some x) p c q e = cc

module _ (b : Build) (ms : List ℕ) (most late : ℕ) (extra : ℕ → ℕ) (rises : (i j : ℕ) → i ≤ j → extra i ≤ extra j) (jumps : (i : ℕ) → extra (i + b.slots) ≡ extra i + late) (positive : 1 ≤ b.slots)
    (short : (i : ℕ) → i < length ms → upto (suc i) ms ≤ upto i ms + most) (close : (i : ℕ) → i + b.slots < length ms → upto (suc i) ms + most + b.plan.last + 2 ≤ upto (i + b.slots) ms + late) where
  module _ (ifindex time u rho : ℕ) (d : Driven) (r : Rated b ms most extra u rho d) where
    abbrev s : State
    s = d.trace.state

    abbrev i : Input
    i = driving ifindex time d.left

    abbrev left : List Beat
    left = left_after b s d.left

    abbrev d' : Driven
    d' = record { left = left; trace = next b i d.trace }

    same : d.left ≡ ahead (beat_over b s i) left
    same = ahead_is (is_ready b s) d.left

    before : Driving (length ms) b (record { left = ahead (beat_over b s i) left; trace = d.trace })
    before = subst (λ l. Driving (length ms) b (record { left = l; trace = d.trace })) same r.driving

    o : Offered (length ms) b i d.trace left
    o = offered_on (length ms) b i d.trace left before

    c : Counted ms d
    c = subst (λ l. Counted l d) r.counts (counted (length ms) b d r.driving)

    counts : all_counts d' ≡ ms
    counts = counts_stay (length ms) b i d.trace left before ∙ ap (λ l. all_counts (record { left = l; trace = d.trace })) (sym same) ∙ r.counts

    abbrev got : ℕ
    got = length d.trace.came

    abbrev g : ℕ
    g = length d.trace.gave

    abbrev e : ℕ
    e = length d.trace.left

    more_came : got ≤ length d'.trace.came
    unfolding next
    more_came = omega (arith, length-append d.trace.came (came_in s i (beat_over b s i)))

    more_gave : g ≤ length d'.trace.gave
    unfolding next
    more_gave = omega (arith, length-append d.trace.gave (gave_in s.answers (taken_beat s i)))

    all_came : got ≤ length ms
    all_came = omega (arith, c.count)

    fewer : length left ≤ length d.left
    fewer = by (is_ready b s) d.left
      where
        by : (ready : Bool) (xs : List Beat) → length (if ready then drop 1 xs else xs) ≤ length xs
        by false xs = omega arith
        by true [] = omega arith
        by true (x ∷ xs) = omega arith

    no_more : to_give d' ≤ to_give d
    no_more = subst (λ l. to_give d' ≤ to_give (record { left = l; trace = d.trace })) (sym same) o.no_more

    goes : 1 ≤ length s.answers → to_give d' + 1 ≤ to_give d
    goes l = subst (λ k. to_give d' + 1 ≤ to_give (record { left = k; trace = d.trace })) (sym same) (o.goes refl l)

    -- where all frames that came are injected, the bound of what is gathered is that of the next one
    quiet : length s.frames ≤ inside s.places → e + inside s.places < length ms → u + 1 ≤ upto (suc (e + inside s.places)) ms + extra (e + inside s.places) + rho
    quiet l m =
        let at : e + inside s.places ≡ got = omega (arith, c.frames, l, r.driving.order.packets) in
        let k : got < length ms = omega (arith, m, at) in
        subst (λ n. u + 1 ≤ upto (suc n) ms + extra n + rho) (sym at) (omega (arith, r.gathers k, c.part, c.fresh k))

    gathers : length d'.trace.came < length ms → u + 1 + length left ≤ total ms + extra (length d'.trace.came) + rho
    gathers l = elim (beat_in (is_ready b s) d.left) [
      | inl goes ↦ omega (arith, r.gathers (omega (arith, l, more_came)), goes, rises got (length d'.trace.came) more_came)
      | inr why ↦ elim why [
        | inl no_room ↦
            let f = full b s no_room in
            let at : got ≡ g + b.slots = omega (arith, f.held, r.driving.order.room, c.frames, c.answers) in
            let k : g + b.slots < length ms = omega (arith, l, more_came, at) in
            let h : g < length ms = omega (arith, k) in
            let part : length d.left + upto (g + b.slots) ms ≡ total ms = subst (λ n. length d.left + upto n ms ≡ total ms) at (omega (arith, c.part, f.part)) in
            let rise : extra g + late ≤ extra (length d'.trace.came) = omega (arith, jumps g, rises (g + b.slots) (length d'.trace.came) (omega (arith, at, more_came))) in
            omega (arith, r.gives h, c.give, c.first h, part, close g k, rise, fewer)
        | inr none ↦ absurd (omega (arith, l, more_came, c.count, no_lasts d.left none))
      ]
    ]

    gives : length d'.trace.gave < length ms → u + 1 + to_give d' ≤ total ms + extra (length d'.trace.gave) + most + b.plan.last + 2 + rho
    gives l =
        let h : g < length ms = omega (arith, l, more_gave) in
        let rise = rises g (length d'.trace.gave) more_gave in
        elim (cases_lt 0 (length s.answers)) [
          | inl answers ↦ omega (arith, goes (omega (arith, answers)), r.gives h, rise)
          | inr none ↦
              let at : e ≡ g = omega (arith, c.answers, none) in
              omega (arith, no_more, c.give, short g h, rise, bound at h (cases_lt 0 (inside s.places)))
        ]
      where
        bound : e ≡ g → g < length ms → (0 < inside s.places) ⊎ (inside s.places ≤ 0) → u ≤ upto (suc g) ms + extra g + 1 + b.plan.last + rho
        bound at h (inl some) =
            let old = oldest b (InTime ms extra u rho) e 0 s.places r.placing.moves (omega (arith, some)) in
            subst (λ n. u ≤ upto (suc n) ms + extra n + 1 + b.plan.last + rho) at (omega (arith, old.1, old.2, r.driving.order.places))
        bound at h (inr none) =
            let n : e + inside s.places ≡ g = omega (arith, at, none) in
            let p = subst (λ n. n < length ms → u ≤ upto (suc n) ms + extra n + rho) n r.placing.injects h in
            omega (arith, p)

    -- what an action does to the places
    acts : (a : Action) → ActionIs b s (rest_of b s) a →
        Worked b ms extra u (rho + paid b (some_send b 0 s.places)) (e + length (left_as a (place_at (rest_of b s) b.plan.last))) a (worked b s (some_send b 0 s.places) (rest_of b s) a).places
    acts (Commits j x) is =
        let n : e ≡ e + length (left_as (Commits j x) (place_at (rest_of b s) b.plan.last)) = omega (arith, stays (place_at (rest_of b s) b.plan.last)) in
        record {
          now = u;
          sum = refl;
          placing = subst (λ m. Placing ms extra u (rho + paid b (some_send b 0 s.places)) m (marked_below b.plan.commit b s.tables (change_by b.program s.tables s.taken x.held j) 0 (rest_of b s))) n
              (commits_placing b ms c.some extra rises u rho e s.places r.placing s.tables (change_by b.program s.tables s.taken x.held j));
        }
      where
        stays : (o : Option Packet) → length (left_as (Commits j x) o) ≡ 0
        stays None = refl
        stays (Some y) = refl
    acts (Writes a n) is = absurd is
    acts Moves is =
        let n : e + bit (is_some (place_at (rest_of b s) b.plan.last)) ≡ e + length (left_as Moves (place_at (rest_of b s) b.plan.last)) = omega (arith, left_count (place_at (rest_of b s) b.plan.last)) in
        record {
          now = u + 1;
          sum = omega arith;
          placing = subst (λ m. Placing ms extra (u + 1) (rho + paid b (some_send b 0 s.places)) m (moved b s.tables s.frames 0 (newcomer b (some_send b 0 s.places) s.frames (rest_of b s)) (rest_of b s))) n
              (moves_placing b ms c.some extra rises u rho e s.places r.placing s.frames r.driving.order.places (omega (arith, c.frames, all_came)) r.driving.order.packets quiet s.tables);
        }

  record Steps (u rho : ℕ) (a : Action) (d : Driven) : Type 0 where
    now : ℕ
    sum : now + commit_count a ≡ u + 1
    rated : Rated b ms most extra now rho d

  steps : (ifindex time u rho : ℕ) (d : Driven) → Rated b ms most extra u rho d → Steps u (rho + paid b (some_send b 0 d.trace.state.places)) (action_in b (driving ifindex time d.left) d.trace.state) (drive_clock b ifindex time d)
  unfolding drive_clock next work
  steps ifindex time u rho d r =
      let s = d.trace.state in
      let i = driving ifindex time d.left in
      let a = action_in b i s in
      let w = acts ifindex time u rho d r a (action_is b i refl s (rest_of b s)) in
      let o = offered_on (length ms) b i d.trace (left_after b s d.left) (before ifindex time u rho d r) in
      let l = gathers ifindex time u rho d r in
      let p = gives ifindex time u rho d r in
      let count : length (d.trace.left ++ left_in b i s) ≡ length d.trace.left + length (left_in b i s) = length-append d.trace.left (left_in b i s) in
      let places : (clock b i s).places ≡ (work b i s).places = (beats_keep b i d.trace r.driving.order).places in
      record {
        now = w.now;
        sum = w.sum;
        rated = record {
          driving = o.driving;
          counts = counts ifindex time u rho d r;
          gathers = λ m. omega (arith, l m, w.sum);
          placing = subst (λ n. Placing ms extra w.now (rho + paid b (some_send b 0 s.places)) n (clock b i s).places) (sym count)
              (subst (λ q. Placing ms extra w.now (rho + paid b (some_send b 0 s.places)) (length d.trace.left + length (left_in b i s)) q) (sym places) w.placing);
          gives = λ m. omega (arith, p m, w.sum);
        };
      }

  -- so many answers are given once the clocks are those of the beats of so many frames
  goes_on : (k bound : ℕ) → k ≤ length ms → ((g : ℕ) → g < k → extra g ≤ bound) → (clocks : List Beside) (u rho : ℕ) (d : Driven) → Rated b ms most extra u rho d
      → upto k ms + most + b.plan.last + 2 + bound + rho + commits_in b clocks d + reloads_in b clocks d * (b.plan.commit + 2) ≤ u + length clocks → k ≤ length (drive b clocks d).trace.gave
  goes_on k bound few within [] u rho d r long = elim (cases_lt (length d.trace.gave) k) [
    | inl l ↦
        let c = subst (λ m. Counted m d) r.counts (counted (length ms) b d r.driving) in
        let all : length d.trace.gave < length ms = omega (arith, l, few) in
        absurd (omega (arith, r.gives all, c.give, c.first all, upto_more ms (suc (length d.trace.gave)) k (omega (arith, l)), within (length d.trace.gave) l, long))
    | inr l ↦ l
  ]
  goes_on k bound few within (x ∷ xs) u rho d r long =
      let n = steps x.ifindex x.time u rho d r in
      goes_on k bound few within xs n.now (rho + paid b (some_send b 0 d.trace.state.places)) (drive_clock b x.ifindex x.time d) n.rated (omega (arith, n.sum, long))

  -- no more than all
  gave_few : (clocks : List Beside) (u rho : ℕ) (d : Driven) → Rated b ms most extra u rho d → length (drive b clocks d).trace.gave ≤ length ms
  gave_few [] u rho d r = let c = subst (λ m. Counted m d) r.counts (counted (length ms) b d r.driving) in omega (arith, c.answers, c.frames, c.count)
  gave_few (x ∷ xs) u rho d r = let n = steps x.ifindex x.time u rho d r in gave_few xs n.now (rho + paid b (some_send b 0 d.trace.state.places)) (drive_clock b x.ifindex x.time d) n.rated

-- ---- from any reached state on

-- by how much frames may come late: once for each time that all the room is used anew
abbrev lateness : Build → ℕ → ℕ → ℕ
lateness b late i = late * (i / b.slots)

lateness_rises : (b : Build) (late : ℕ) → 1 ≤ b.slots → (i j : ℕ) → i ≤ j → lateness b late i ≤ lateness b late j
lateness_rises b late positive i j l = mul-le-mul_left late ((le-div_iff_mul-le positive).1 (omega (arith, div-mul-le_self i b.slots, l)))

lateness_jumps : (b : Build) (late : ℕ) → 1 ≤ b.slots → (i : ℕ) → lateness b late (i + b.slots) ≡ lateness b late i + late
lateness_jumps b late positive i = let q = add-div_right i positive in ap (λ n. late * n) q ∙ omega arith

at_most : (most : ℕ) (frames : List (List ℕ)) → most_beats frames ≤ most → (i : ℕ) → i < length frames → upto (suc i) (frame_counts frames) ≤ upto i (frame_counts frames) + most
at_most most [] h i l = absurd (omega (arith, l))
at_most most (f ∷ frames) h zero l = omega (arith, h)
at_most most (f ∷ frames) h (suc i) l = omega (arith, at_most most frames (omega (arith, h)) i (omega (arith, l)))

counts_reach : (n : ℕ) (b : Build) (is : List Input) (t : Trace) (left : List Beat) → Driving n b (record { left = beats_in b is t.state ++ left; trace = t }) →
    all_counts (record { left = left; trace = run b is t }) ≡ all_counts (record { left = beats_in b is t.state ++ left; trace = t })
unfolding next
counts_reach n b [] t over v = refl
counts_reach n b (i ∷ is) t over v =
    let rest = beats_in b is (clock b i t.state) ++ over in
    let same = ahead_append (beat_over b t.state i) (beats_in b is (clock b i t.state)) over in
    let here = subst (λ l. Driving n b (record { left = l; trace = t })) same v in
    counts_reach n b is (next b i t) over (offered_on n b i t rest here).driving ∙ counts_stay n b i t rest here ∙ ap (λ l. all_counts (record { left = l; trace = t })) (sym same)

from_start : (ms : List ℕ) (extra : ℕ → ℕ) (u n : ℕ) → u ≤ upto n ms → (e k : ℕ) (xs : List (Option Packet)) → n ≤ e → Placed (InTime ms extra u 0) e k xs
from_start ms extra u n few e k [] l = tt
from_start ms extra u n few e k (None ∷ xs) l = (tt, from_start ms extra u n few e (suc k) xs l)
from_start ms extra u n few e k (Some x ∷ xs) l = (omega (arith, few, upto_more ms n (suc (e + inside xs)) (omega (arith, l))), from_start ms extra u n few e (suc k) xs l)

module _ (b : Build) (maps : MapState) (slots : b.slots ≡ b.plan.last + 4) (frames : List (List ℕ)) (whole : AllByRecursion IsFrame frames) (late : ℕ) (close : FollowWithin b.plan.last frames late)
    (is : List Input) (left : List Beat) (over : beats_in b is (new_state b maps) ++ left ≡ flat_map beats_of frames) where
  abbrev ms : List ℕ
  ms = frame_counts frames

  abbrev reaching : Driven
  reaching = record { left = left; trace = run b is (begin b maps) }

  -- the beats whose answers are given count as clocks that have gone
  abbrev gone : ℕ
  gone = upto (length reaching.trace.gave) ms

  count : length (frame_counts frames) ≡ length frames
  count = frame_counts_length frames

  positive : 1 ≤ b.slots
  positive = omega (arith, slots)

  begun : Driving (length frames) b (record { left = beats_in b is (new_state b maps) ++ left; trace = begin b maps })
  begun = subst (λ l. Driving (length frames) b (record { left = l; trace = begin b maps })) (sym over) (begins_driving b maps frames whole)

  reached : Driving (length frames) b reaching
  reached = (reaches (length frames) b is (begin b maps) left begun).0

  counts_are : all_counts reaching ≡ ms
  counts_are = counts_reach (length frames) b is (begin b maps) left begun ∙ ap (λ l. all_counts (record { left = l; trace = begin b maps })) over ∙ coming_frames frames whole

  counted_there : Counted ms reaching
  counted_there = subst (λ l. Counted l reaching) counts_are (counted (length frames) b reaching reached)

  rated : Rated b ms (most_beats frames) (lateness b late) gone 0 reaching
  rated =
      let c = counted_there in
      let e = length reaching.trace.left in
      let g = length reaching.trace.gave in
      let y = e + inside reaching.trace.state.places in
      record {
        driving = subst (λ n. Driving n b reaching) (sym count) reached;
        counts = counts_are;
        gathers = λ l. omega (arith, c.part, upto_more ms g (length reaching.trace.came) (omega (arith, c.answers, c.frames)));
        placing = record {
          injects = λ l. omega (arith, upto_more ms g (suc y) (omega (arith, c.answers)));
          moves = from_start ms (lateness b late) gone g (omega arith) e 0 reaching.trace.state.places (omega (arith, c.answers));
        };
        gives = λ l. omega (arith, c.give);
      }

  -- the first k answers are given
  first_given : (clocks : List Beside) (k : ℕ) → k ≤ length frames → wait_clocks b.plan.last frames late k + commits_in b clocks reaching + reloads_in b clocks reaching * (b.plan.commit + 2) ≤ length clocks + beats_before (length reaching.trace.gave) frames
      → k ≤ length (drive b clocks reaching).trace.gave
  first_given clocks k few long =
      let room : (i : ℕ) → i + b.slots ≡ i + b.plan.last + 4 = λ i. omega (arith, slots) in
      let turns : late * ((k - 1) / b.slots) ≡ late * ((k - 1) / (b.plan.last + 4)) = ap (λ n. late * ((k - 1) / n)) slots in
      goes_on b ms (most_beats frames) late (lateness b late) (lateness_rises b late positive) (lateness_jumps b late positive) positive
      (λ i l. at_most (most_beats frames) frames (omega arith) i (omega (arith, l, count)))
      (λ i l. omega (arith, close i (omega (arith, l, count, slots)), upto_frames (suc i) frames, upto_frames (i + b.slots) frames, ap (λ n. beats_before n frames) (room i)))
      k (late * ((k - 1) / b.slots)) (omega (arith, few, count)) (λ g l. lateness_rises b late positive g (k - 1) (omega (arith, l)))
      clocks gone 0 reaching rated (omega (arith, turns, upto_frames k frames, upto_frames (length reaching.trace.gave) frames, long))

  gave_at_most : (clocks : List Beside) → length (drive b clocks reaching).trace.gave ≤ length frames
  gave_at_most clocks =
      let room : (i : ℕ) → i + b.slots ≡ i + b.plan.last + 4 = λ i. omega (arith, slots) in
      let few = gave_few b ms (most_beats frames) late (lateness b late) (lateness_rises b late positive) (lateness_jumps b late positive) positive
      (λ i l. at_most (most_beats frames) frames (omega arith) i (omega (arith, l, count)))
      (λ i l. omega (arith, close i (omega (arith, l, count, slots)), upto_frames (suc i) frames, upto_frames (i + b.slots) frames, ap (λ n. beats_before n frames) (room i)))
      clocks gone 0 reaching rated in
      omega (arith, few, count)

pub gives_first : GivesFirst
gives_first b maps slots frames whole late close is left over clocks d is_it k few long =
    subst (λ (e : Driven). k ≤ length (drive b clocks e).trace.gave) (sym is_it)
    (first_given b maps slots frames whole late close is left over clocks k few
    (subst (λ (e : Driven). wait_clocks b.plan.last frames late k + commits_in b clocks e + reloads_in b clocks e * (b.plan.commit + 2) ≤ length clocks + beats_before (length e.trace.gave) frames) is_it long))

pub drives_at_line_rate : DrivesAtLineRate
drives_at_line_rate b maps slots frames whole late close is left over clocks d is_it long =
    let here = subst (λ (e : Driven). line_clocks b.plan.last frames late + commits_in b clocks e + reloads_in b clocks e * (b.plan.commit + 2) ≤ length clocks) is_it long in
    let first = first_given b maps slots frames whole late close is left over clocks (length frames) (omega arith) (omega (arith, here)) in
    let few = gave_at_most b maps slots frames whole late close is left over clocks in
    subst (λ (e : Driven). length (drive b clocks e).trace.gave ≡ length frames) (sym is_it) (omega (arith, first, few))

-- ---- where nothing is sent back

no_reloads : (b : Build) (clocks : List Beside) (d : Driven) → GoesForward b clocks d → reloads_in b clocks d ≡ 0
no_reloads b [] d h = refl
no_reloads b (x ∷ xs) d h = omega (arith, ap bit h.0, no_reloads b xs (drive_clock b x.ifindex x.time d) h.1)

pub full_drive_at_line_rate : DrivesAtLineRate → StaysForward → CommitsAreWrites → FullDriveAtLineRate
full_drive_at_line_rate drives stays commits b maps fit sound slots frames whole clocks more long apart q bound late close enough =
    let d = drive_start b maps frames in
    let none = ap (λ n. n * (b.plan.commit + 2)) (no_reloads b clocks d (stays b maps fit sound frames clocks more apart)) in
    let writes = commits b maps fit sound slots frames whole clocks more long q bound in
    drives b maps slots frames whole late close [] (flat_map beats_of frames) refl clocks d refl (omega (arith, none, writes, enough))

-- ---- whatever is sent back

pub late_drive_at_line_rate : DrivesAtLineRate → LateCommitsAreWrites → LateDriveAtLineRate
late_drive_at_line_rate drives commits b maps fit sound slots is silent frames whole left over clocks more long d is_it q bound late close enough =
    let writes = commits b maps fit sound slots is silent frames whole left over clocks more long q
    (subst (λ (e : Driven). (ts : List Touched) → AllRun b.program maps (drive b (clocks ++ more) e).trace.came ts → all_writing ts ≤ q) is_it bound) in
    let here : commits_in b clocks d ≤ q = subst (λ (e : Driven). commits_in b clocks e ≤ q) (sym is_it) writes in
    drives b maps slots frames whole late close is left over clocks d is_it (omega (arith, here, enough))

pub late_first_at_line_rate : GivesFirst → LateCommitsAreWrites → LateFirstAtLineRate
late_first_at_line_rate first commits b maps fit sound slots is silent frames whole left over clocks more long d is_it q bound late close k few enough =
    let writes = commits b maps fit sound slots is silent frames whole left over clocks more long q
    (subst (λ (e : Driven). (ts : List Touched) → AllRun b.program maps (drive b (clocks ++ more) e).trace.came ts → all_writing ts ≤ q) is_it bound) in
    let here : commits_in b clocks d ≤ q = subst (λ (e : Driven). commits_in b clocks e ≤ q) (sym is_it) writes in
    first b maps slots frames whole late close is left over clocks d is_it k few (omega (arith, here, enough))
