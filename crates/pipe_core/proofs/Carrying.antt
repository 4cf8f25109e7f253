-- What packets hold as they move.
use Rattle.std.proofs.Common.{◌≡◌, ℕ, zero, suc, ◌+◌, ◌<◌, ◌≤◌, Bool, true, false, List, [], ◌∷◌, ◌++◌, Option, Some, None, length, get_or, drop, refl, sym, ap, ◌∙◌, subst, arith, not}
use Rattle.std.specs.Prelude.{if◌then◌else◌, nat_lt, ◌&&◌, ◌||◌, is_some, replicate}
use Rattle.std.specs.Option.{option_map}
use Rattle.std.proofs.lemmas.List.{get_or-drop}
use Rattle.std.proofs.lemmas.Grind.{common_steps}
use Rattle.hazard_core.specs.xdp_maps.State.{MapState}
use Rattle.hazard_core.specs.cell_core.Cells.{bit}
use Rattle.hazard_core.specs.cell_core.Rows.{RowsRise}
use Rattle.hazard_core.specs.StageValues.{StageValues}
use Rattle.hazard_core.specs.Tables.{TableState}
use Rattle.hazard_core.specs.declared.change.Change.{Change}
use Rattle.hazard_core.specs.Commits.{change_by, host_change}
use Rattle.realization.specs.beat_core.Ports.{Arrival}
use Rattle.pipe_core.specs.Machine.{Packet, State, Input, Build, Action, Commits, Writes, Moves, no_frame, packet_of, place_at, inside, sends, flushed, some_send, entered, marked_by, marked_below, enters, moved, newcomer, injected, worked, work, action_of, gathered, scattered, beat_over, taken_beat, clock}
use Rattle.pipe_core.specs.History.{Trace, came_in, left_as, left_in, next, run, begin, IsInOrder}
use Rattle.pipe_core.specs.Computed.{Computes, PlacesCompute, LeftCompute, IsComputed, IsPlanned, KeepsComputed, IsAlwaysComputed}
use Rattle.pipe_core.proofs.Order.{last_or, moved_inside, place_last, some_last, marked_by_inside, work_keeps, beats_keep, keeps_order, begins}
use Rattle.pipe_core.proofs.Computing.{takes_row, nothing_computes}
use Rattle.pipe_core.proofs.FlushLaws.{flushed_inside, flushed_length, flushed_none}

-- ---- sending back

pub flushed_computes : (b : Build) (fs : List Arrival) (k : ℕ) (xs : List (Option Packet)) → PlacesCompute b fs k xs → PlacesCompute b fs k (flushed b k xs)
flushed_computes b fs k [] h = tt
flushed_computes b fs k (None ∷ xs) h = by (some_send b k (None ∷ xs)) (flushed_computes b fs (suc k) xs h)
  where
    by : (c : Bool) → PlacesCompute b fs (suc k) (flushed b (suc k) xs) → PlacesCompute b fs k ((if c then None else None) ∷ flushed b (suc k) xs)
    by true more = more
    by false more = more
flushed_computes b fs k (Some x ∷ xs) h = by (sends b k (Some x)) (some_send b (suc k) xs) refl (flushed_computes b fs (suc k) xs h.1)
  where
    by : (c d : Bool) → some_send b (suc k) xs ≡ d → PlacesCompute b fs (suc k) (flushed b (suc k) xs) → PlacesCompute b fs k ((if c || d then None else Some x) ∷ flushed b (suc k) xs)
    by true d p more = more
    by false true p more = more
    by false false p more = subst (λ l. PlacesCompute b fs k (Some x ∷ l)) (sym (flushed_none b (suc k) xs p)) h

-- ---- marks

marked_by_computes_one : (b : Build) (t : TableState) (k : ℕ) (e : Change) (c : Arrival) (r : ℕ) (x : Packet) → Computes b (packet_of c) r x.held → Computes b (packet_of c) r (marked_by b t k e x).held
unfolding marked_by
marked_by_computes_one b t k e c r x h = h

pub marked_by_computes : (to : ℕ) (b : Build) (t : TableState) (e : Change) (fs : List Arrival) (k : ℕ) (xs : List (Option Packet)) → PlacesCompute b fs k xs → PlacesCompute b fs k (marked_below to b t e k xs)
marked_by_computes to b t e fs k [] h = tt
marked_by_computes to b t e fs k (None ∷ xs) h = by (nat_lt k to) (marked_by_computes to b t e fs (suc k) xs h)
  where
    by : (c : Bool) → PlacesCompute b fs (suc k) (marked_below to b t e (suc k) xs) → PlacesCompute b fs k ((if c then option_map (marked_by b t k e) None else None) ∷ marked_below to b t e (suc k) xs)
    by true more = more
    by false more = more
marked_by_computes to b t e fs k (Some x ∷ xs) h = by (nat_lt k to) (subst (λ n. Computes b (packet_of (get_or fs n no_frame)) (suc k) x.held) (sym (marked_by_inside to b t e (suc k) xs)) h.0) (marked_by_computes to b t e fs (suc k) xs h.1)
  where
    by : (c : Bool) → Computes b (packet_of (get_or fs (inside (marked_below to b t e (suc k) xs)) no_frame)) (suc k) x.held → PlacesCompute b fs (suc k) (marked_below to b t e (suc k) xs) →
        PlacesCompute b fs k ((if c then option_map (marked_by b t k e) (Some x) else Some x) ∷ marked_below to b t e (suc k) xs)
    by true own more = (marked_by_computes_one b t k e (get_or fs (inside (marked_below to b t e (suc k) xs)) no_frame) (suc k) x own, more)
    by false own more = (own, more)

-- ---- moving on

-- of a packet that is to enter place k
abbrev Ready : Build → Arrival → ℕ → Option Packet → Type 0
Ready b c k None = Unit {0}
Ready b c k (Some x) = Computes b (packet_of c) k x.held

entered_computes : (b : Build) → RowsRise → IsPlanned b → (t : TableState) (k : ℕ) (c : Arrival) (x : Packet) → Computes b (packet_of c) k x.held → Computes b (packet_of c) (suc k) (entered b t k c x).held
unfolding entered
entered_computes b rise plan t k c x h = takes_row b rise plan (packet_of c) k t x.held h

-- the frames after those of the packets that leave
pub behind : (out : ℕ) (fs : List Arrival) (n m : ℕ) → n + out ≡ m → get_or (drop out fs) n no_frame ≡ get_or fs m no_frame
behind out fs n m e = get_or-drop out fs n no_frame ∙ ap (λ j. get_or fs j no_frame) (omega (arith, e))

pub moved_computes : (b : Build) → RowsRise → IsPlanned b → (t : TableState) (fs : List Arrival) (k : ℕ) (x : Option Packet) (ys : List (Option Packet)) →
    Ready b (get_or fs (inside ys) no_frame) k x → PlacesCompute b fs k ys → PlacesCompute b (drop (bit (is_some (last_or x ys))) fs) k (moved b t fs k x ys)
moved_computes b rise plan t fs k x [] r h = tt
moved_computes b rise plan t fs k x (y ∷ ys) r h = by x y r h (moved_computes b rise plan t fs (suc k) y ys (next y h) (rest y h))
  where
    out : ℕ
    out = bit (is_some (last_or y ys))

    next : (y : Option Packet) → PlacesCompute b fs k (y ∷ ys) → Ready b (get_or fs (inside ys) no_frame) (suc k) y
    next None h = tt
    next (Some y) h = h.0

    rest : (y : Option Packet) → PlacesCompute b fs k (y ∷ ys) → PlacesCompute b fs (suc k) ys
    rest None h = h
    rest (Some y) h = h.1

    by : (x y : Option Packet) → Ready b (get_or fs (inside (y ∷ ys)) no_frame) k x → PlacesCompute b fs k (y ∷ ys) → PlacesCompute b (drop (bit (is_some (last_or y ys))) fs) (suc k) (moved b t fs (suc k) y ys) →
        PlacesCompute b (drop (bit (is_some (last_or y ys))) fs) k (enters b t k (get_or fs (inside (y ∷ ys)) no_frame) x ∷ moved b t fs (suc k) y ys)
    by None y r h more = more
    by (Some x) y r h more = (
      subst (λ c. Computes b (packet_of c) (suc k) (entered b t k (get_or fs (inside (y ∷ ys)) no_frame) x).held)
          (sym (behind (bit (is_some (last_or y ys))) fs (inside (moved b t fs (suc k) y ys)) (inside (y ∷ ys)) (moved_inside b t fs (suc k) y ys)))
          (entered_computes b rise plan t k (get_or fs (inside (y ∷ ys)) no_frame) x r),
      more,
    )

-- the packet at the last place has the oldest frame
last_computes : (b : Build) (fs : List Arrival) (k n : ℕ) (x : Option Packet) (ys : List (Option Packet)) (z : Packet) → last_or x ys ≡ Some z → PlacesCompute b fs k (x ∷ ys) → k + length ys ≡ n →
    Computes b (packet_of (get_or fs 0 no_frame)) (suc n) z.held
last_computes b fs k n None [] z e h m = cc
last_computes b fs k n (Some x) [] z e h m =
    let q : x ≡ z = cc in
    let i : k ≡ n = omega (arith, m) in
    subst (λ (y : Packet). Computes b (packet_of (get_or fs 0 no_frame)) (suc n) y.held) q (subst (λ j. Computes b (packet_of (get_or fs 0 no_frame)) (suc j) x.held) i h.0)
last_computes b fs k n None (y ∷ ys) z e h m = last_computes b fs (suc k) n y ys z e h (omega (arith, m))
last_computes b fs k n (Some x) (y ∷ ys) z e h m = last_computes b fs (suc k) n y ys z e h.1 (omega (arith, m))

newcomer_ready : (b : Build) (back : Bool) (fs : List Arrival) (rest : List (Option Packet)) (c : Arrival) → Ready b c 0 (newcomer b back fs rest)
newcomer_ready b back fs rest c = by (not back && nat_lt (inside rest) (length fs))
  where
    by : (d : Bool) → Ready b c 0 (if d then Some (injected b.program) else None)
    by true = nothing_computes b (packet_of c)
    by false = tt

-- ---- the work of a clock

pub record Carries (b : Build) (s w : State) (gone : List StageValues) : Type 0 where
  pub places : PlacesCompute b w.frames 0 w.places
  pub left : LeftCompute b gone s.frames

left_one : (b : Build) (fs : List Arrival) (h : StageValues) → 1 ≤ length fs → Computes b (packet_of (get_or fs 0 no_frame)) (suc b.plan.last) h → LeftCompute b (h ∷ []) fs
left_one b [] h l k = absurd (omega arith)
left_one b (f ∷ fs) h l k = (k, tt)

moves_carry : (b : Build) → RowsRise → IsPlanned b → (s : State) (back : Bool) (rest : List (Option Packet)) → length rest ≡ suc b.plan.last → inside rest ≤ length s.frames → PlacesCompute b s.frames 0 rest →
    Carries b s (worked b s back rest Moves) (left_as Moves (place_at rest b.plan.last))
moves_carry b rise plan s back [] h l k = absurd (omega (arith, h))
moves_carry b rise plan s back (x ∷ xs) h l k = record {
  places = subst (λ (y : Option Packet). PlacesCompute b (drop (bit (is_some y)) s.frames) 0 (moved b s.tables s.frames 0 new (x ∷ xs))) (sym here)
      (moved_computes b rise plan s.tables s.frames 0 new (x ∷ xs) (newcomer_ready b back s.frames (x ∷ xs) (get_or s.frames (inside (x ∷ xs)) no_frame)) k);
  left = by (place_at (x ∷ xs) b.plan.last) here;
}
  where
    new : Option Packet
    new = newcomer b back s.frames (x ∷ xs)

    here : place_at (x ∷ xs) b.plan.last ≡ last_or x xs
    here = subst (λ n. place_at (x ∷ xs) n ≡ last_or x xs) (omega (arith, h)) (place_last x xs)

    by : (y : Option Packet) → y ≡ last_or x xs → LeftCompute b (left_as Moves y) s.frames
    by None e = tt
    by (Some y) e =
        let m : bit (is_some (last_or x xs)) ≡ 1 = sym (ap (λ z. bit (is_some z)) e) in
        left_one b s.frames y.held (omega (arith, some_last x xs, l, m)) (last_computes b s.frames 0 b.plan.last x xs y (sym e) k (omega (arith, h)))

acted_carries : (b : Build) → RowsRise → IsPlanned b → (s : State) (back : Bool) (rest : List (Option Packet)) (u : Action) → length rest ≡ suc b.plan.last → inside rest ≤ length s.frames → PlacesCompute b s.frames 0 rest →
    Carries b s (worked b s back rest u) (left_as u (place_at rest b.plan.last))
acted_carries b rise plan s back rest (Commits j x) h l k = record {
  places = marked_by_computes b.plan.commit b s.tables (change_by b.program s.tables s.taken x.held j) s.frames 0 rest k;
  left = nothing (place_at rest b.plan.last);
}
  where
    nothing : (y : Option Packet) → LeftCompute b (left_as (Commits j x) y) s.frames
    nothing None = tt
    nothing (Some y) = tt
acted_carries b rise plan s back rest (Writes a n) h l k = record {
  places = marked_by_computes (suc b.plan.commit) b s.tables (host_change s.tables a) s.frames 0 rest k;
  left = nothing (place_at rest b.plan.last);
}
  where
    nothing : (y : Option Packet) → LeftCompute b (left_as (Writes a n) y) s.frames
    nothing None = tt
    nothing (Some y) = tt
acted_carries b rise plan s back rest Moves h l k = moves_carry b rise plan s back rest h l k

pub work_carries : (b : Build) → RowsRise → IsPlanned b → (i : Input) (s : State) → length s.places ≡ suc b.plan.last → inside s.places ≤ length s.frames → PlacesCompute b s.frames 0 s.places → Carries b s (work b i s) (left_in b i s)
unfolding work
work_carries b rise plan i s h l k =
    let rest = flushed b 0 s.places in
    acted_carries b rise plan s (some_send b 0 s.places) rest (action_of b i s rest) (flushed_length b 0 s.places ∙ h) (omega (arith, flushed_inside b 0 s.places, l)) (flushed_computes b s.frames 0 s.places k)

-- ---- frames that come

pub get_or_front : {X : Type 0} (xs ys : List X) (i : ℕ) (d : X) → i < length xs → get_or (xs ++ ys) i d ≡ get_or xs i d
get_or_front xs ys i d h = grind (arith, common_steps)

pub places_more : (b : Build) (fs more : List Arrival) (k : ℕ) (xs : List (Option Packet)) → inside xs ≤ length fs → PlacesCompute b fs k xs → PlacesCompute b (fs ++ more) k xs
places_more b fs more k [] l h = tt
places_more b fs more k (None ∷ xs) l h = places_more b fs more (suc k) xs l h
places_more b fs more k (Some x ∷ xs) l h =
    (subst (λ c. Computes b (packet_of c) (suc k) x.held) (sym (get_or_front fs more (inside xs) no_frame (omega arith))) h.0, places_more b fs more (suc k) xs (omega arith) h.1)

pub left_more : (b : Build) (hs : List StageValues) (cs ds : List Arrival) → LeftCompute b hs cs → LeftCompute b hs (cs ++ ds)
left_more b [] cs ds h = tt
left_more b (x ∷ hs) [] ds h = absurd h
left_more b (x ∷ hs) (c ∷ cs) ds h = (h.0, left_more b hs cs ds h.1)

pub left_append : (b : Build) (hs gs : List StageValues) (cs : List Arrival) → LeftCompute b hs cs → LeftCompute b gs (drop (length hs) cs) → LeftCompute b (hs ++ gs) cs
left_append b [] gs cs h k = k
left_append b (x ∷ hs) gs [] h k = absurd h
left_append b (x ∷ hs) gs (c ∷ cs) h k = (h.0, left_append b hs gs cs h.1 k)

-- ---- the whole clock

pub keeps_computed : RowsRise → KeepsComputed
unfolding next clock
keeps_computed rise b plan i t o k =
    let s = t.state in
    let w = work b i s in
    let kept = work_keeps b i s o.places o.packets in
    let carried = work_carries b rise plan i s o.places o.packets k.places in
    let left = left_in b i s in
    let g = gathered w i (beat_over b s i) in
    let c = scattered g (taken_beat s i) in
    let beats = beats_keep b i t o in
    record {
      places = subst (λ fs. PlacesCompute b fs 0 c.places) (sym beats.frames) (subst (λ xs. PlacesCompute b (w.frames ++ came_in s i (beat_over b s i)) 0 xs) (sym beats.places) (places_more b w.frames (came_in s i (beat_over b s i)) 0 w.places kept.packets carried.places));
      left = left_more b (t.left ++ left) t.came (came_in s i (beat_over b s i)) (left_append b t.left left t.came k.left (subst (LeftCompute b left) o.frames carried.left));
    }

begins_computed : (b : Build) (maps : MapState) → IsComputed b (begin b maps)
begins_computed b maps = record { places = nobody 0 (suc b.plan.last); left = tt }
  where
    nobody : (k n : ℕ) → PlacesCompute b [] k (replicate n None)
    nobody k zero = tt
    nobody k (suc n) = nobody (suc k) n

pub always_computed : RowsRise → (b : Build) → IsPlanned b → (is : List Input) (t : Trace) → IsInOrder b t → IsComputed b t → IsComputed b (run b is t)
always_computed rise b plan [] t o k = k
always_computed rise b plan (i ∷ is) t o k = always_computed rise b plan is (next b i t) (keeps_order b i t o) (keeps_computed rise b plan i t o k)

pub computed : RowsRise → IsAlwaysComputed
computed rise b plan maps is = always_computed rise b plan is (begin b maps) (begins b maps) (begins_computed b maps)
