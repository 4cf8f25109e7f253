-- Places of the machine: which packets stand where, before a clock and after it.
use Rattle.std.specs.Prelude.{◌≡◌, ℕ, zero, suc, ◌+◌, ◌<◌, nat_lt, if◌then◌else◌, Bool, true, false, Option, Some, None, List, [], ◌∷◌, length, drop, replicate}
use Rattle.std.specs.Option.{option_map}
use Rattle.std.proofs.Common.{get_or, refl, sym, ap, ◌∙◌, subst, arith}
use Rattle.beat_core.specs.declared.beat.Beat.{Beat}
use Rattle.beat_core.specs.Ports.{Arrival}
use Rattle.hazard_core.specs.Tables.{TableState}
use Rattle.hazard_core.specs.declared.change.Change.{Change}
use Rattle.pipe_core.specs.Machine.{Packet, State, Input, Build, place_at, inside, no_frame, packet_of, some_send, flushed, marked_by, marked_below, enters, entered, moved, worked, work, gathered, scattered, beat_over, taken_beat, clock}
use Rattle.pipe_core.specs.Computed.{Computes, PlacesCompute}
use Rattle.pipe_net.specs.Saying.{action_in}

pub same_some : {X : Type 0} (x y : X) → Some x ≡ Some y → x ≡ y
same_some x y e = cc

pub none_some : {X Y : Type 0} (x : X) → None ≡ Some x → Y
none_some x e = cc

pub by_bool : (P : Bool → Type 0) (b : Bool) → P true → P false → P b
by_bool P true h k = h
by_bool P false h k = k

pub none_at : (n k : ℕ) → place_at (replicate n None) k ≡ None
none_at zero k = refl
none_at (suc n) zero = refl
none_at (suc n) (suc k) = none_at n k

-- what is computed of a packet in a place
pub computes_at : (b : Build) (fs : List Arrival) (k : ℕ) (xs : List (Option Packet)) → PlacesCompute b fs k xs → (j : ℕ) (x : Packet) → place_at xs j ≡ Some x
    → Computes b (packet_of (get_or fs (inside (drop (suc j) xs)) no_frame)) (suc (k + j)) x.held
computes_at b fs k [] h j x e = none_some x e
computes_at b fs k (None ∷ xs) h zero x e = none_some x e
computes_at b fs k (None ∷ xs) h (suc j) x e =
    let n : suc k + j ≡ k + suc j = omega arith in
    subst (λ m. Computes b (packet_of (get_or fs (inside (drop (suc j) xs)) no_frame)) (suc m) x.held) n (computes_at b fs (suc k) xs h j x e)
computes_at b fs k (Some y ∷ xs) h zero x e =
    let n : k ≡ k + 0 = omega arith in
    let same : y ≡ x = same_some y x e in
    subst (λ m. Computes b (packet_of (get_or fs (inside xs) no_frame)) (suc m) x.held) n (subst (λ (z : Packet). Computes b (packet_of (get_or fs (inside xs) no_frame)) (suc k) z.held) same h.0)
computes_at b fs k (Some y ∷ xs) h (suc j) x e =
    let n : suc k + j ≡ k + suc j = omega arith in
    subst (λ m. Computes b (packet_of (get_or fs (inside (drop (suc j) xs)) no_frame)) (suc m) x.held) n (computes_at b fs (suc k) xs h.1 j x e)

-- ---- marks change nothing of what is held
pub record WasHeld (xs : List (Option Packet)) (j : ℕ) (y : Packet) : Type 0 where
  pub packet : Packet
  pub was : place_at xs j ≡ Some packet
  pub held : y.held ≡ packet.held

marked_by_held : (b : Build) (t : TableState) (k : ℕ) (e : Change) (x : Packet) → (marked_by b t k e x).held ≡ x.held
unfolding marked_by
marked_by_held b t k e x = refl

first_marked_by : (b : Build) (t : TableState) (k : ℕ) (e : Change) (q : Bool) (x : Option Packet) (ys : List (Option Packet)) (y : Packet) → (if q then option_map (marked_by b t k e) x else x) ≡ Some y → WasHeld (x ∷ ys) 0 y
first_marked_by b t k e true None ys y s = none_some y s
first_marked_by b t k e true (Some x) ys y s = record { packet = x; was = refl; held = sym (ap (λ (z : Packet). z.held) (same_some (marked_by b t k e x) y s)) ∙ marked_by_held b t k e x }
first_marked_by b t k e false None ys y s = none_some y s
first_marked_by b t k e false (Some x) ys y s = record { packet = y; was = s; held = refl }

pub marked_by_was : (to : ℕ) (b : Build) (t : TableState) (e : Change) (k : ℕ) (xs : List (Option Packet)) (j : ℕ) (y : Packet) → place_at (marked_below to b t e k xs) j ≡ Some y → WasHeld xs j y
marked_by_was to b t e k [] j y s = none_some y s
marked_by_was to b t e k (x ∷ xs) zero y s = first_marked_by b t k e (nat_lt k to) x xs y s
marked_by_was to b t e k (x ∷ xs) (suc j) y s = let h = marked_by_was to b t e (suc k) xs j y s in record { packet = h.packet; was = h.was; held = h.held }

-- ---- moving on
moved_at : (b : Build) (t : TableState) (fs : List Arrival) (k : ℕ) (x : Option Packet) (ys : List (Option Packet)) (j : ℕ) → j < length ys
    → place_at (moved b t fs k x ys) j ≡ enters b t (k + j) (get_or fs (inside (drop j ys)) no_frame) (place_at (x ∷ ys) j)
moved_at b t fs k x [] j lt = absurd (omega arith)
moved_at b t fs k x (y ∷ ys) zero lt = let n : k ≡ k + 0 = omega arith in ap (λ m. enters b t m (get_or fs (inside (y ∷ ys)) no_frame) x) n
moved_at b t fs k x (y ∷ ys) (suc j) lt =
    let n : suc k + j ≡ k + suc j = omega arith in
    moved_at b t fs (suc k) y ys j (omega arith) ∙ ap (λ m. enters b t m (get_or fs (inside (drop j ys)) no_frame) (place_at (y ∷ ys) j)) n

-- a packet that has entered a place
pub record HasEntered (b : Build) (t : TableState) (k : ℕ) (a : Arrival) (o : Option Packet) (y : Packet) : Type 0 where
  pub packet : Packet
  pub was : o ≡ Some packet
  pub is : y ≡ entered b t k a packet

enters_as : (b : Build) (t : TableState) (k : ℕ) (a : Arrival) (o : Option Packet) (y : Packet) → enters b t k a o ≡ Some y → HasEntered b t k a o y
enters_as b t k a None y e = none_some y e
enters_as b t k a (Some x) y e = record { packet = x; was = refl; is = sym (same_some (entered b t k a x) y e) }

pub entered_at : (b : Build) (t : TableState) (fs : List Arrival) (x : Option Packet) (ys : List (Option Packet)) (k : ℕ) (y : Packet) → k < length ys → place_at (moved b t fs 0 x ys) k ≡ Some y
    → HasEntered b t k (get_or fs (inside (drop k ys)) no_frame) (place_at (x ∷ ys) k) y
entered_at b t fs x ys k y lt e =
    let z : 0 + k ≡ k = omega arith in
    let a = get_or fs (inside (drop k ys)) no_frame in
    enters_as b t k a (place_at (x ∷ ys) k) y (subst (λ n. enters b t n a (place_at (x ∷ ys) k) ≡ Some y) z (sym (moved_at b t fs 0 x ys k lt) ∙ e))

-- ---- beats change no place
gathered_places : (w : State) (i : Input) (over : Option Beat) → (gathered w i over).places ≡ w.places
gathered_places w i None = refl
gathered_places w i (Some x) = by_bool (λ (q : Bool). (gathered w i (Some (record x { last = q }))).places ≡ w.places) x.last refl refl

scattered_places : (g : State) (taken : Option Beat) → (scattered g taken).places ≡ g.places
scattered_places g None = refl
scattered_places g (Some x) = by_bool (λ (q : Bool). (scattered g (Some (record x { last = q }))).places ≡ g.places) x.last refl refl

-- the places after a clock
pub clocked_places : (b : Build) (i : Input) (s : State) → (clock b i s).places ≡ (worked b s (some_send b 0 s.places) (flushed b 0 s.places) (action_in b i s)).places
unfolding clock work
clocked_places b i s =
    let w = worked b s (some_send b 0 s.places) (flushed b 0 s.places) (action_in b i s) in
    scattered_places (gathered w i (beat_over b s i)) (taken_beat s i) ∙ gathered_places w i (beat_over b s i)

-- and its tables
gathered_tables : (w : State) (i : Input) (over : Option Beat) → (gathered w i over).tables ≡ w.tables
gathered_tables w i None = refl
gathered_tables w i (Some x) = by_bool (λ (q : Bool). (gathered w i (Some (record x { last = q }))).tables ≡ w.tables) x.last refl refl

scattered_tables : (g : State) (taken : Option Beat) → (scattered g taken).tables ≡ g.tables
scattered_tables g None = refl
scattered_tables g (Some x) = by_bool (λ (q : Bool). (scattered g (Some (record x { last = q }))).tables ≡ g.tables) x.last refl refl

pub clocked_tables : (b : Build) (i : Input) (s : State) → (clock b i s).tables ≡ (worked b s (some_send b 0 s.places) (flushed b 0 s.places) (action_in b i s)).tables
unfolding clock work
clocked_tables b i s =
    let w = worked b s (some_send b 0 s.places) (flushed b 0 s.places) (action_in b i s) in
    scattered_tables (gathered w i (beat_over b s i)) (taken_beat s i) ∙ gathered_tables w i (beat_over b s i)
