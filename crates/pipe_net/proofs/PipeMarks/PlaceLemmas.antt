-- Which packets stand in the places after a clock.
use Rattle.std.specs.Prelude.{nat_lt, if◌then◌else◌, Option, Some, None}
use Rattle.std.specs.Option.{option_map}
use Rattle.std.proofs.Common.{◌≡◌, ◌∙◌, ℕ, zero, suc, ◌+◌, Bool, true, false, not, ◌&&◌, List, [], ◌∷◌, ◌++◌, length, drop, get_or, refl, ap, arith}
use Rattle.beat_core.specs.declared.beat.Beat.{Beat}
use Rattle.beat_core.specs.Ports.{Arrival}
use Rattle.hazard_core.specs.Tables.{TableState}
use Rattle.hazard_core.specs.declared.change.Change.{Change}
use Rattle.pipe_core.specs.Machine.{Packet, State, Input, Build, place_at, inside, no_frame, injected, entered, marked_by, some_send, flushed, moved, newcomer, marked_below, action_of, worked, work, beat_over, came_with, taken_beat, gathered, scattered, clock}

same_packet : (q x : Packet) → Some q ≡ Some x → x ≡ q
same_packet q x e = cc

-- ---- what is flushed, moves on or is marked stood in a place before

pub moved_at : (b : Build) (t : TableState) (fs : List Arrival) (k n m : ℕ) (x : Option Packet) (ys : List (Option Packet)) (x' : Packet) → k + n ≡ m → place_at (moved b t fs k x ys) n ≡ Some x'
    → (z : Packet) × (c : Arrival) × (place_at (x ∷ ys) n ≡ Some z) × (x' ≡ entered b t m c z)
moved_at b t fs k n m x [] x' e at = cc
moved_at b t fs k zero m None (y ∷ ys) x' e at = cc
moved_at b t fs k zero m (Some z) (y ∷ ys) x' e at =
    let c = get_or fs (inside (y ∷ ys)) no_frame in
    let is : k ≡ m = omega (arith, e) in
    (z, c, refl, same_packet (entered b t k c z) x' at ∙ ap (λ n. entered b t n c z) is)
moved_at b t fs k (suc n) m x (y ∷ ys) x' e at = moved_at b t fs (suc k) n m y ys x' (omega (arith, e)) at

pub newcomer_is : (b : Build) (back : Bool) (fs : List Arrival) (rest : List (Option Packet)) (z : Packet) → newcomer b back fs rest ≡ Some z → z ≡ injected b.program
newcomer_is b back fs rest z at = by (not back && nat_lt (inside rest) (length fs)) at
  where
    by : (c : Bool) → (if c then Some (injected b.program) else None) ≡ Some z → z ≡ injected b.program
    by true at = same_packet (injected b.program) z at
    by false at = cc

-- a packet after a change, if there is one
abbrev pub marked_by_any : Build → TableState → ℕ → Option Change → Packet → Packet
marked_by_any b t k None x = x
marked_by_any b t k (Some e) x = marked_by b t k e x

-- what changes for the packets of a place: those from a limit on see nothing of it
abbrev pub seen_below : ℕ → ℕ → Change → Option Change
seen_below to k e = if nat_lt k to then Some e else None

pub marked_by_at : (to : ℕ) (b : Build) (t : TableState) (e : Change) (k n m : ℕ) (xs : List (Option Packet)) (x' : Packet) → k + n ≡ m → place_at (marked_below to b t e k xs) n ≡ Some x'
    → (x : Packet) × (place_at xs n ≡ Some x) × (x' ≡ marked_by_any b t m (seen_below to m e) x)
marked_by_at to b t e k n m [] x' is at = cc
marked_by_at to b t e k zero m (x ∷ xs) x' is at = by (nat_lt k to) x at same
  where
    same : nat_lt k to ≡ nat_lt m to
    same = let is : k ≡ m = omega (arith, is) in ap (λ n. nat_lt n to) is

    by : (c : Bool) (x : Option Packet) → (if c then option_map (marked_by b t k e) x else x) ≡ Some x' → c ≡ nat_lt m to → (y : Packet) × (x ≡ Some y) × (x' ≡ marked_by_any b t m (seen_below to m e) y)
    by true None at same = cc
    by true (Some y) at same =
        let is : k ≡ m = omega (arith, is) in
        (y, refl, same_packet (marked_by b t k e y) x' at ∙ ap (λ n. marked_by b t n e y) is ∙ ap (λ (c : Bool). marked_by_any b t m (if c then Some e else None) y) same)
    by false None at same = cc
    by false (Some y) at same = (y, refl, same_packet y x' at ∙ ap (λ (c : Bool). marked_by_any b t m (if c then Some e else None) y) same)
marked_by_at to b t e k (suc n) m (x ∷ xs) x' is at = marked_by_at to b t e (suc k) n m xs x' (omega (arith, is)) at

-- ---- beats move no packet

gathered_places : (s : State) (i : Input) (o : Option Beat) → (gathered s i o).places ≡ s.places
gathered_places s i None = refl
gathered_places s i (Some b) = by b.last
  where
    by : (c : Bool) → (if c then record s { frames = s.frames ++ came_with s.part i b ∷ []; part = None } else record s { part = Some (came_with s.part i b) }).places ≡ s.places
    by true = refl
    by false = refl

scattered_places : (s : State) (o : Option Beat) → (scattered s o).places ≡ s.places
scattered_places s None = refl
scattered_places s (Some b) = by b.last
  where
    by : (c : Bool) → (if c then record s { answers = drop 1 s.answers; pos = 0 } else record s { pos = suc s.pos }).places ≡ s.places
    by true = refl
    by false = refl

pub clock_places : (b : Build) (i : Input) (s : State) → (clock b i s).places ≡ (worked b s (some_send b 0 s.places) (flushed b 0 s.places) (action_of b i s (flushed b 0 s.places))).places
unfolding clock work
clock_places b i s = scattered_places (gathered (work b i s) i (beat_over b s i)) (taken_beat s i) ∙ gathered_places (work b i s) i (beat_over b s i)
