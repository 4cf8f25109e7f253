-- The full drive ends in time: each clock takes a beat in or out, or commits an operation, or is counted, and of these there are not too many.
use Rattle.std.proofs.Common.{◌≡◌, ℕ, zero, suc, ◌+◌, ◌*◌, ◌<◌, ◌≤◌, ◌⊎◌, inl, inr, Bool, true, false, List, [], ◌∷◌, ◌++◌, Option, Some, None, length, drop, refl, sym, ap, ◌∙◌, subst, arith, cond, length-append, length-drop}
use Rattle.std.specs.Prelude.{if◌then◌else◌, is_some, map}
use Rattle.std.specs.List.{flat_map, AllByRecursion}
use Rattle.std.proofs.lemmas.Bool.{and_parts, cases_lt}
use Rattle.std.proofs.lemmas.List.Sums.{sum_by-cons}
use Rattle.std.proofs.Math.Nat.{mul-le-mul_left}
use Rattle.realization.specs.beat_core.declared.beat.Beat.{Beat}
use Rattle.realization.specs.beat_core.Beats.{beats_of}
use Rattle.realization.specs.beat_core.Laws.{IsFrame}
use Rattle.hazard_core.specs.xdp_maps.declared.decl.MapDecl.{MapDecl}
use Rattle.hazard_core.specs.cell_core.Cells.{bit}
use Rattle.hazard_core.specs.cell_core.Sites.{SiteView, site_at, records}
use Rattle.hazard_core.specs.cell_core.Rows.{record_count}
use Rattle.hazard_core.specs.Tables.{decl_of}
use Rattle.hazard_core.specs.Tabled.{LoadsTables}
use Rattle.hazard_core.specs.StageValues.{stage_value, guard_on, answer_cell, writes_as}
use Rattle.hazard_core.specs.Commits.{change_by}
use Rattle.hazard_core.proofs.ActsLaws.{recorded}
use Rattle.pipe_core.specs.Machine.{Packet, State, Input, Build, Action, Commits, Writes, Moves, new_state, place_at, inside, some_send, flushed, marked_below, moved, newcomer, worked, work, is_ready, beat_over, clock}
use Rattle.pipe_core.specs.History.{Trace, left_as, left_in, next, run, begin}
use Rattle.pipe_core.specs.Drive.{Driven, first_of, driving, drive_clock, Beside, drive, drive_start, EndsInTime, ahead, beats_in, EndsLate}
use Rattle.pipe_core.specs.Pipeable.{IsPipelinable}
use Rattle.pipe_core.specs.SeenChanges.{SeenChanges, rest_of, action_in, observed, watch, watch_start}
use Rattle.pipe_core.specs.Right.{IsRight, KeepsRight}
use Rattle.pipe_core.proofs.Order.{beats_keep}
use Rattle.pipe_core.proofs.Acting.{ActionIs, action_is}
use Rattle.pipe_core.proofs.Righting.{keeps_place, always_right}
use Rattle.pipe_core.proofs.Overlapping.{watch_runs}
use Rattle.pipe_core.proofs.Draining.{lasts, no_lasts, no_part, no_frames, no_answers, goes_in, to_give, Driving, all_given, begins_driving}
use Rattle.pipe_core.proofs.Counting.{begun, past, Bounds, past_flushed, past_marked_by, past_moved, among, commits_bounds, moves_bounds, within, left_within, none_aged, begins_aged}
use Rattle.pipe_core.proofs.Offering.{Offered, offered_on}
use Rattle.pipe_core.proofs.FlushLaws.{flushed_length}
use Rattle.pipe_core.proofs.HistoryLaws.{ahead_append}
use Rattle.pipe_core.proofs.ClockLaws.{clock_aside}

-- ---- how many operations are committed

-- the sites that may write, among the first
abbrev below : ℕ → List SiteView → ℕ
below zero xs = 0
below (suc d) [] = 0
below (suc d) (x ∷ xs) = cond (records x.act) 1 0 + below d xs

below_all : (d : ℕ) (xs : List SiteView) → below d xs ≤ record_count xs
below_all zero xs = omega arith
below_all (suc d) [] = omega arith
below_all (suc d) (x ∷ xs) = omega (arith, sum_by-cons (λ s. cond (records s.act) 1 0) x xs, below_all d xs)

below_more : (d j : ℕ) (xs : List SiteView) → d ≤ j → j < length xs → records (site_at xs j).act ≡ true → below d xs + 1 ≤ below (suc j) xs
below_more d j [] l m e = absurd (omega (arith, m))
below_more zero zero (x ∷ xs) l m e = let q : cond (records x.act) 1 0 ≡ 1 = ap {B = ℕ} (λ c. cond c 1 0) e in omega (arith, q)
below_more zero (suc j) (x ∷ xs) l m e = omega (arith, below_more zero j xs (omega arith) (omega (arith, m)) e)
below_more (suc d) zero (x ∷ xs) l m e = absurd (omega (arith, l))
below_more (suc d) (suc j) (x ∷ xs) l m e = omega (arith, below_more d j xs (omega (arith, l)) (omega (arith, m)) e)

-- the sites of packets that passed, and those of the one that commits
passes : (q passed done at : ℕ) (sites : List SiteView) → record_count sites ≡ q → (0 < done → at ≡ 1) → passed * q + below done sites ≤ (passed + at) * q
passes q passed zero at sites e amid = let m : q * passed ≤ q * (passed + at) = mul-le-mul_left q (omega arith) in omega (arith, m)
passes q passed (suc d) at sites e amid =
    let one = amid (omega arith) in
    let m : q * (passed + 1) ≤ q * (passed + at) = mul-le-mul_left q (omega (arith, one)) in
    omega (arith, m, below_all (suc d) sites, e)

-- ---- what an action takes

record Spent (b : Build) (z n counted commits extra e done : ℕ) (places : List (Option Packet)) : Type 0 where
  counts : ℕ
  commits_so_far : ℕ
  sum : counted + commits + extra ≤ counts + commits_so_far
  of_sites : commits_so_far ≤ (e + past b places) * record_count b.program.sites + below done b.program.sites
  bounds : Bounds b z n counts e done places
  bounded : counts + 1 ≤ (z + n) * (b.plan.last + 2) + n

left_count : (o : Option Packet) → length (left_as Moves o) ≡ bit (is_some o)
left_count None = refl
left_count (Some x) = refl

stays_inside : (j : ℕ) (x : Packet) (o : Option Packet) → length (left_as (Commits j x) o) ≡ 0
stays_inside j x None = refl
stays_inside j x (Some y) = refl

module _ (b : Build) (far : b.plan.commit ≤ b.plan.last) (z n counted commits extra e : ℕ) (s : State) (long : length s.places ≡ suc b.plan.last) (all : e + length s.frames ≤ n)
    (amid : 0 < s.done → bit (is_some (place_at (flushed b 0 s.places) b.plan.commit)) ≡ 1)
    (one : extra ≤ 1) (quiet : length s.frames ≤ inside s.places → e + inside s.places < n → extra ≡ 0) (room : counted + extra + 1 ≤ (z + n) * (b.plan.last + 2) + n)
    (sites : commits ≤ (e + past b s.places) * record_count b.program.sites + below s.done b.program.sites) (h : Bounds b z n counted e s.done s.places) where
  spends : (u : Action) → ActionIs b s (flushed b 0 s.places) u →
      (let v = worked b s (some_send b 0 s.places) (flushed b 0 s.places) u in Spent b z n counted commits extra (e + length (left_as u (place_at (flushed b 0 s.places) b.plan.last))) v.done v.places)
  spends (Commits j x) is =
      let change = change_by b.program s.tables s.taken x.held j in
      let site = site_at b.program.sites j in
      let w = and_parts (guard_on x.held site) (writes_as site.act (decl_of s.tables.decls site.map).kind (stage_value x.held (answer_cell b.program.cells j))) is.writes_there in
      let more = below_more s.done j b.program.sites is.from_on is.in_range (recorded site.act (decl_of s.tables.decls site.map).kind (stage_value x.held (answer_cell b.program.cells j)) w.1) in
      let same = past_marked_by b s.tables change s.places in
      subst (λ l. Spent b z n counted commits extra l (suc j) (marked_below b.plan.commit b s.tables change 0 (flushed b 0 s.places))) (sym (ap (λ l. e + l) (stays_inside j x (place_at (flushed b 0 s.places) b.plan.last)) ∙ no_more e)) (record {
        counts = counted;
        commits_so_far = commits + 1;
        sum = omega (arith, one);
        of_sites = subst (λ p. commits + 1 ≤ (e + p) * record_count b.program.sites + below (suc j) b.program.sites) (sym same) (omega (arith, sites, more));
        bounds = commits_bounds b far z n counted e s.done s.tables change j s.places h;
        bounded = omega (arith, room);
      })
    where
      no_more : (e : ℕ) → e + 0 ≡ e
      no_more e = omega arith
  spends (Writes a m) is = absurd is
  spends Moves is =
      let rest = flushed b 0 s.places in
      let new = newcomer b (some_send b 0 s.places) s.frames rest in
      let after = moved b s.tables s.frames 0 new rest in
      let out = bit (is_some (place_at rest b.plan.last)) in
      let at = bit (is_some (place_at rest b.plan.commit)) in
      let q = record_count b.program.sites in
      let gone : e + out + past b after ≡ e + past b s.places + at = omega (arith, past_moved b far s.tables s.frames new rest (flushed_length b 0 s.places ∙ long), past_flushed b s.places) in
      subst (λ l. Spent b z n counted commits extra l 0 after) (sym (ap (λ l. e + l) (left_count (place_at rest b.plan.last)))) (record {
        counts = counted + extra;
        commits_so_far = commits;
        sum = omega arith;
        of_sites = subst (λ p. commits ≤ p * q + 0) (sym gone) (omega (arith, sites, passes q (e + past b s.places) s.done at b.program.sites refl amid));
        bounds = moves_bounds b far z n counted (counted + extra) e s.done s.tables s.frames s.places long all amid (omega (arith, one)) (λ unsent l m. omega (arith, quiet l m)) h;
        bounded = room;
      })

-- ---- a clock of the drive

-- Of so many clocks each took a beat in or out, or committed, or was counted.
record Account (b : Build) (z n start elapsed : ℕ) (left : List Beat) (w : SeenChanges) : Type 0 where
  counts : ℕ
  commits : ℕ
  clocks : elapsed + length left + to_give (record { left = left; trace = w.trace }) ≤ start + commits + counts
  of_sites : commits ≤ (length w.trace.left + past b w.trace.state.places) * record_count b.program.sites + below w.trace.state.done b.program.sites
  bounds : Bounds b z n counts (length w.trace.left) w.trace.state.done w.trace.state.places
  bounded : counts + 1 ≤ (z + n) * (b.plan.last + 2) + n

record Lasts (b : Build) (decls : List MapDecl) (z n start elapsed : ℕ) (left : List Beat) (w : SeenChanges) : Type 0 where
  driving : Driving n b (record { left = left; trace = w.trace })
  right : IsRight b decls w
  account : Account b z n start elapsed left w ⊎ (to_give (record { left = left; trace = w.trace }) ≡ 0)

pub ahead_is : (r : Bool) (left : List Beat) → left ≡ ahead (if r then first_of left else None) (if r then drop 1 left else left)
ahead_is false left = refl
ahead_is true [] = refl
ahead_is true (x ∷ left) = refl

ahead_more : (o : Option Beat) (left : List Beat) → length left ≤ length (ahead o left)
ahead_more None left = omega arith
ahead_more (Some x) left = omega arith

frames_in : (n : ℕ) (b : Build) (d : Driven) → Driving n b d → length d.trace.left + length d.trace.state.frames + lasts d.left ≡ n
frames_in n b d v = omega (arith, v.count, ap length v.order.frames, length-drop (length d.trace.left) d.trace.came, v.order.begun)

commit_kept : (b : Build) (decls : List MapDecl) → IsPipelinable decls b → (w : SeenChanges) → length w.trace.state.places ≡ suc b.plan.last → IsRight b decls w → 0 < w.trace.state.done →
    (bit (is_some (place_at (rest_of b w.trace.state) b.plan.commit)) ≡ 1) × (bit (is_some (place_at w.trace.state.places b.plan.commit)) ≡ 1)
commit_kept b decls fit w long h l =
    let u = h.at.amid l in
    let far = fit.rows.commit in
    let some = ap (λ o. bit (is_some o)) u.here in
    (ap (λ o. bit (is_some o)) (keeps_place b w.trace.state.places (omega (arith, long, far)) u) ∙ some, some)

-- a clock that takes no beat is counted at most where that has bounds
has_room : (b : Build) (z n counted : ℕ) (d : Driven) → Driving n b d → 1 ≤ to_give d → (0 < d.trace.state.done → bit (is_some (place_at d.trace.state.places b.plan.commit)) ≡ 1) → length d.trace.state.answers ≡ 0 →
    (length d.left ≡ 0) ⊎ (inside d.trace.state.places < length d.trace.state.frames) → Bounds b z n counted (length d.trace.left) d.trace.state.done d.trace.state.places → counted + 2 ≤ (z + n) * (b.plan.last + 2) + n
has_room b z n counted d v more amid none why h = elim (cases_lt (e + inside s.places) n) [
  | inl l ↦ left_within b z n counted e s.done s.places amid h l
  | inr l ↦ elim why [
    | inl empty ↦ elim (cases_lt 0 (inside s.places)) [
      | inl some ↦ within b z n counted (z + e + past b s.places) (z + e + past b s.places + begun s.done) e 0 s.places (omega (arith, v.order.places)) (omega (arith, v.order.packets, frames)) (omega (arith, some)) h.aged
      | inr nobody ↦ absurd (omega (arith, more, no_answers s.answers none, no_frames s.frames (omega (arith, frames, l, nobody)), no_part s.part d.left empty v.ends, empty))
    ]
    | inr waits ↦ absurd (omega (arith, waits, l, frames))
  ]
]
  where
    s : State
    s = d.trace.state

    e : ℕ
    e = length d.trace.left

    frames : e + length s.frames + lasts d.left ≡ n
    frames = frames_in n b d v

-- the beats that are left after a clock
abbrev pub left_after : Build → State → List Beat → List Beat
left_after b s left = if is_ready b s then drop 1 left else left

module _ (keeps : KeepsRight) (b : Build) (decls : List MapDecl) (fit : IsPipelinable decls b) (slots : b.slots ≡ b.plan.last + 4) (z n start : ℕ) where
  accounts : (elapsed ifindex time : ℕ) (left : List Beat) (w : SeenChanges) → Lasts b decls z n start elapsed left w → Offered n b (driving ifindex time left) w.trace (left_after b w.trace.state left) → 1 ≤ to_give (record { left = left; trace = w.trace }) →
      Account b z n start elapsed left w → Account b z n start (elapsed + 1) (left_after b w.trace.state left) (observed b (driving ifindex time left) w)
  unfolding observed next work
  accounts elapsed ifindex time left w v o more a = elim (cases_lt 0 (length s.answers)) [
    | inl some ↦ spend 0 (omega arith) (λ l m. refl) (omega (arith, a.bounded)) (omega (arith, goes (omega (arith, some)), fewer))
    | inr none ↦ elim (goes_in b s left slots v.driving.order.places (omega (arith, none))) [
      | inl beat ↦ spend 0 (omega arith) (λ l m. refl) (omega (arith, a.bounded)) (omega (arith, beat, no_more))
      | inr why ↦ spend 1 (omega arith) (λ l m. absurd (quiet why l m)) (omega (arith, has_room b z n a.counts d v.driving more (λ l. (kept l).1) (omega (arith, none)) why a.bounds)) (omega (arith, fewer, no_more))
    ]
  ]
    where
      s : State
      s = w.trace.state

      i : Input
      i = driving ifindex time left

      after : List Beat
      after = if is_ready b s then drop 1 left else left

      d : Driven
      d = record { left = left; trace = w.trace }

      d' : Driven
      d' = record { left = after; trace = next b i w.trace }

      same : left ≡ ahead (beat_over b s i) after
      same = ahead_is (is_ready b s) left

      fewer : length after ≤ length left
      fewer = subst (λ l. length after ≤ length l) (sym same) (ahead_more (beat_over b s i) after)

      no_more : to_give d' ≤ to_give d
      no_more = subst (λ l. to_give d' ≤ to_give (record { left = l; trace = w.trace })) (sym same) o.no_more

      goes : 1 ≤ length s.answers → to_give d' + 1 ≤ to_give d
      goes l = subst (λ k. to_give d' + 1 ≤ to_give (record { left = k; trace = w.trace })) (sym same) (o.goes refl l)

      frames : length w.trace.left + length s.frames + lasts left ≡ n
      frames = frames_in n b d v.driving

      kept : 0 < s.done → (bit (is_some (place_at (rest_of b s) b.plan.commit)) ≡ 1) × (bit (is_some (place_at s.places b.plan.commit)) ≡ 1)
      kept = commit_kept b decls fit w v.driving.order.places v.right

      quiet : (length left ≡ 0) ⊎ (inside s.places < length s.frames) → length s.frames ≤ inside s.places → length w.trace.left + inside s.places < n → ⊥
      quiet (inl empty) l m = absurd (omega (arith, no_lasts left empty, frames, l, m))
      quiet (inr waits) l m = absurd (omega (arith, waits, l))

      spend : (extra : ℕ) → extra ≤ 1 → (length s.frames ≤ inside s.places → length w.trace.left + inside s.places < n → extra ≡ 0) → a.counts + extra + 1 ≤ (z + n) * (b.plan.last + 2) + n →
          length after + to_give d' + 1 ≤ length left + to_give d + extra → Account b z n start (elapsed + 1) after (observed b i w)
      spend extra one still room less =
          let u = spends b fit.rows.commit z n a.counts a.commits extra (length w.trace.left) s v.driving.order.places (omega (arith, frames)) (λ l. (kept l).0) one still room a.of_sites a.bounds (action_in b i s) (action_is b i refl s (rest_of b s)) in
          let count : length (w.trace.left ++ left_in b i s) ≡ length w.trace.left + length (left_in b i s) = length-append w.trace.left (left_in b i s) in
          let done : (clock b i s).done ≡ (work b i s).done = (clock_aside b i s).done in
          let places : (clock b i s).places ≡ (work b i s).places = (beats_keep b i w.trace v.driving.order).places in
          record {
            counts = u.counts;
            commits = u.commits_so_far;
            clocks = omega (arith, a.clocks, u.sum, less);
            of_sites = subst (λ k. u.commits_so_far ≤ (k + past b (clock b i s).places) * record_count b.program.sites + below (clock b i s).done b.program.sites) (sym count)
                (subst (λ p. u.commits_so_far ≤ (length w.trace.left + length (left_in b i s) + past b p) * record_count b.program.sites + below (clock b i s).done b.program.sites) (sym places)
                (subst (λ k. u.commits_so_far ≤ (length w.trace.left + length (left_in b i s) + past b (work b i s).places) * record_count b.program.sites + below k b.program.sites) (sym done) u.of_sites));
            bounds = subst (λ k. Bounds b z n u.counts k (clock b i s).done (clock b i s).places) (sym count)
                (subst (λ p. Bounds b z n u.counts (length w.trace.left + length (left_in b i s)) (clock b i s).done p) (sym places)
                (subst (λ k. Bounds b z n u.counts (length w.trace.left + length (left_in b i s)) k (work b i s).places) (sym done) u.bounds));
            bounded = u.bounded;
          }

  lasts_on : (elapsed ifindex time : ℕ) (left : List Beat) (w : SeenChanges) → Lasts b decls z n start elapsed left w → Lasts b decls z n start (elapsed + 1) (left_after b w.trace.state left) (observed b (driving ifindex time left) w)
  unfolding observed
  lasts_on elapsed ifindex time left w v = record {
    driving = o.driving;
    right = keeps b decls fit i refl w v.driving.order v.right;
    account = by (cases_lt 0 (to_give d)) v.account;
  }
    where
      s : State
      s = w.trace.state

      i : Input
      i = driving ifindex time left

      after : List Beat
      after = if is_ready b s then drop 1 left else left

      d : Driven
      d = record { left = left; trace = w.trace }

      same : left ≡ ahead (beat_over b s i) after
      same = ahead_is (is_ready b s) left

      o : Offered n b i w.trace after
      o = offered_on n b i w.trace after (subst (λ l. Driving n b (record { left = l; trace = w.trace })) same v.driving)

      no_more : to_give (record { left = after; trace = next b i w.trace }) ≤ to_give d
      no_more = subst (λ l. to_give (record { left = after; trace = next b i w.trace }) ≤ to_give (record { left = l; trace = w.trace })) (sym same) o.no_more

      by : (0 < to_give d) ⊎ (to_give d ≤ 0) → Account b z n start elapsed left w ⊎ (to_give d ≡ 0) →
          Account b z n start (elapsed + 1) after (observed b i w) ⊎ (to_give (record { left = after; trace = next b i w.trace }) ≡ 0)
      by (inl l) (inl a) = inl (accounts elapsed ifindex time left w v o (omega (arith, l)) a)
      by (inl l) (inr a) = absurd (omega (arith, l, a))
      by (inr l) a = inr (omega (arith, no_more, l))

  -- in the end nothing is left to be given
  ends : (elapsed : ℕ) (left : List Beat) (w : SeenChanges) → Lasts b decls z n start elapsed left w → start + n * record_count b.program.sites + (z + n) * (b.plan.last + 2) + n ≤ elapsed + 1 → length w.trace.gave ≡ n
  ends elapsed left w v long = all_given n b (record { left = left; trace = w.trace }) v.driving (by v.account)
    where
      s : State
      s = w.trace.state

      passed : (length w.trace.left + past b s.places) * record_count b.program.sites + below s.done b.program.sites ≤ n * record_count b.program.sites
      passed =
          let q = record_count b.program.sites in
          let at = bit (is_some (place_at s.places b.plan.commit)) in
          let frames = frames_in n b (record { left = left; trace = w.trace }) v.driving in
          let m : q * (length w.trace.left + past b s.places + at) ≤ q * n = mul-le-mul_left q (omega (arith, frames, v.driving.order.packets, among s.places b.plan.commit)) in
          omega (arith, m, passes q (length w.trace.left + past b s.places) s.done at b.program.sites refl (λ l. (commit_kept b decls fit w v.driving.order.places v.right l).1))

      by : Account b z n start elapsed left w ⊎ (to_give (record { left = left; trace = w.trace }) ≡ 0) → to_give (record { left = left; trace = w.trace }) ≡ 0
      by (inl a) = omega (arith, a.clocks, a.bounded, a.of_sites, passed, long)
      by (inr a) = a

  drives_on : (clocks : List Beside) (elapsed : ℕ) (left : List Beat) (w : SeenChanges) → Lasts b decls z n start elapsed left w → start + n * record_count b.program.sites + (z + n) * (b.plan.last + 2) + n ≤ elapsed + length clocks + 1 →
      length (drive b clocks (record { left = left; trace = w.trace })).trace.gave ≡ n
  unfolding drive_clock observed
  drives_on [] elapsed left w v long = ends elapsed left w v (omega (arith, long))
  drives_on (x ∷ xs) elapsed left w v long = drives_on xs (elapsed + 1) (left_after b w.trace.state left) (observed b (driving x.ifindex x.time left) w) (lasts_on elapsed x.ifindex x.time left w v) (omega (arith, long))

-- ---- from the first clock on

pub ends_in_time : KeepsRight → LoadsTables → EndsInTime
ends_in_time keeps loads b maps fit sound slots frames whole clocks long =
    drives_on keeps b maps.decls fit slots 0 (length frames) (2 * length beats) clocks 0 beats (watch_start b maps) (record {
      driving = begins_driving b maps frames whole;
      right = always_right keeps loads b maps fit sound [] tt;
      account = by frames whole refl;
    }) (omega (arith, long))
  where
    beats : List Beat
    beats = flat_map beats_of frames

    w : SeenChanges
    w = watch_start b maps

    by : (fs : List (List ℕ)) → AllByRecursion IsFrame fs → fs ≡ frames → Account b 0 (length frames) (2 * length beats) 0 beats (watch_start b maps) ⊎ (to_give (drive_start b maps frames) ≡ 0)
    by [] all e = inr (omega (arith, ap (λ f. to_give (drive_start b maps f)) (sym e)))
    by (f ∷ fs) all e = inl (record {
      counts = 0;
      commits = 0;
      clocks = omega arith;
      of_sites = omega arith;
      bounds = record {
        aged = none_aged b 0 0 (0 + length w.trace.left + past b w.trace.state.places) (0 + length w.trace.left + past b w.trace.state.places + begun w.trace.state.done) (length w.trace.left) 0 (suc b.plan.last);
        inject = λ l. omega arith;
      };
      bounded = let m : 1 ≤ length frames = omega (arith, ap length e) in omega (arith, m);
    })

-- ---- from a reached state on

pub reaches : (n : ℕ) (b : Build) (is : List Input) (t : Trace) (left : List Beat) → Driving n b (record { left = beats_in b is t.state ++ left; trace = t }) →
    Driving n b (record { left = left; trace = run b is t }) × (to_give (record { left = left; trace = run b is t }) ≤ to_give (record { left = beats_in b is t.state ++ left; trace = t }))
unfolding next
reaches n b [] t left v = (v, omega arith)
reaches n b (i ∷ is) t left v =
    let rest = beats_in b is (clock b i t.state) ++ left in
    let same = ahead_append (beat_over b t.state i) (beats_in b is (clock b i t.state)) left in
    let o = offered_on n b i t rest (subst (λ l. Driving n b (record { left = l; trace = t })) same v) in
    let r = reaches n b is (next b i t) left o.driving in
    let whole : to_give (record { left = ahead (beat_over b t.state i) rest; trace = t }) ≡ to_give (record { left = beats_in b (i ∷ is) t.state ++ left; trace = t }) = ap (λ l. to_give (record { left = l; trace = t })) (sym same) in
    (r.0, omega (arith, r.1, o.no_more, whole))

pub ends_late : KeepsRight → LoadsTables → EndsLate
ends_late keeps loads b maps fit sound slots is silent frames whole left over clocks long =
    let beats = flat_map beats_of frames in
    let n = length frames in
    let w = watch b is (watch_start b maps) in
    let runs : run b is (begin b maps) ≡ w.trace = sym (watch_runs b is (watch_start b maps)) in
    let r = reaches n b is (begin b maps) left (subst (λ l. Driving n b (record { left = l; trace = begin b maps })) (sym over) (begins_driving b maps frames whole)) in
    let give : to_give (record { left = beats_in b is (new_state b maps) ++ left; trace = begin b maps }) ≡ length beats = omega (arith, ap length over) in
    let fewer : length left ≤ length beats = omega (arith, ap length over, length-append (beats_in b is (new_state b maps)) left) in
    let now : to_give (record { left = left; trace = w.trace }) ≤ length beats = subst (λ (t : Trace). to_give (record { left = left; trace = t }) ≤ length beats) runs (omega (arith, r.1, give)) in
    subst (λ (t : Trace). length (drive b clocks (record { left = left; trace = t })).trace.gave ≡ n) (sym runs)
    (drives_on keeps b maps.decls fit slots 1 n (2 * length beats) clocks 0 left w (record {
      driving = subst (λ (t : Trace). Driving n b (record { left = left; trace = t })) runs r.0;
      right = always_right keeps loads b maps fit sound is silent;
      account = inl (record {
        counts = 0;
        commits = 0;
        clocks = omega (arith, fewer, now);
        of_sites = omega arith;
        bounds = record {
          aged = begins_aged b 1 (1 + length w.trace.left + past b w.trace.state.places) (1 + length w.trace.left + past b w.trace.state.places + begun w.trace.state.done) (length w.trace.left) 0 w.trace.state.places (omega arith);
          inject = λ l. omega arith;
        };
        bounded = omega arith;
      });
    }) (omega (arith, long)))
