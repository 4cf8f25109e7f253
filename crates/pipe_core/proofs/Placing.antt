-- What holds of the packets in their places, through a clock.
use Rattle.std.proofs.Common.{◌≡◌, ℕ, zero, suc, ◌+◌, ◌≤◌, Bool, true, false, List, [], ◌∷◌, ◌++◌, Option, Some, None, length, get_or, drop, refl, sym, ap, ◌∙◌, subst, arith, not}
use Rattle.std.specs.Prelude.{if◌then◌else◌, nat_lt, ◌&&◌, ◌||◌, is_some}
use Rattle.std.specs.Option.{option_map}
use Rattle.hazard_core.specs.cell_core.Cells.{bit}
use Rattle.hazard_core.specs.Tables.{TableState}
use Rattle.hazard_core.specs.declared.change.Change.{Change}
use Rattle.hazard_core.specs.Commits.{change_by, host_change}
use Rattle.realization.specs.beat_core.Ports.{Arrival}
use Rattle.pipe_core.specs.Machine.{Packet, State, Input, Build, Action, Commits, Writes, Moves, no_frame, place_at, inside, sends, flushed, some_send, entered, marked_by, marked_below, enters, moved, newcomer, injected, worked, work, gathered, scattered, beat_over, taken_beat, clock}
use Rattle.pipe_core.specs.History.{Trace, came_in, next, IsInOrder}
use Rattle.pipe_core.specs.Placed.{Placed}
use Rattle.pipe_core.specs.SeenChanges.{rest_of, action_in}
use Rattle.pipe_core.proofs.Order.{last_or, moved_inside, place_last, marked_by_inside, work_keeps, beats_keep}
use Rattle.pipe_core.proofs.Carrying.{behind, get_or_front}
use Rattle.pipe_core.proofs.FlushLaws.{flushed_length, flushed_none}

-- a packet that is not sent back, among those that stay
pub record Settled (b : Build) (rest : List (Option Packet)) (P : ℕ → Arrival → Packet → Type 0) (k : ℕ) (c : Arrival) (x : Packet) : Type 0 where
  pub holds : P k c x
  pub unsent : sends b k (Some x) ≡ false
  pub here : place_at rest k ≡ Some x

abbrev Unsent : Build → (ℕ → Arrival → Packet → Type 0) → ℕ → Arrival → Packet → Type 0
Unsent b P k c x = P k c x × (sends b k (Some x) ≡ false)

flushed_placed : (b : Build) (P : ℕ → Arrival → Packet → Type 0) (fs : List Arrival) (k : ℕ) (xs : List (Option Packet)) → Placed P fs k xs → Placed (Unsent b P) fs k (flushed b k xs)
flushed_placed b P fs k [] h = tt
flushed_placed b P fs k (None ∷ xs) h = by (some_send b k (None ∷ xs)) (flushed_placed b P fs (suc k) xs h)
  where
    by : (c : Bool) → Placed (Unsent b P) fs (suc k) (flushed b (suc k) xs) → Placed (Unsent b P) fs k ((if c then None else None) ∷ flushed b (suc k) xs)
    by true more = more
    by false more = more
flushed_placed b P fs k (Some x ∷ xs) h = by (sends b k (Some x)) (some_send b (suc k) xs) refl refl (flushed_placed b P fs (suc k) xs h.1)
  where
    by : (c d : Bool) → sends b k (Some x) ≡ c → some_send b (suc k) xs ≡ d → Placed (Unsent b P) fs (suc k) (flushed b (suc k) xs) → Placed (Unsent b P) fs k ((if c || d then None else Some x) ∷ flushed b (suc k) xs)
    by true d e p more = more
    by false true e p more = more
    by false false e p more = subst (λ l. Placed (Unsent b P) fs k (Some x ∷ l)) (sym (flushed_none b (suc k) xs p)) ((h.0, e), subst (λ l. Placed (Unsent b P) fs (suc k) l) (flushed_none b (suc k) xs p) more)

settle : (b : Build) (rest : List (Option Packet)) (P : ℕ → Arrival → Packet → Type 0) (fs : List Arrival) (k : ℕ) (xs : List (Option Packet)) → ((n : ℕ) → place_at rest (k + n) ≡ place_at xs n) →
    Placed (Unsent b P) fs k xs → Placed (Settled b rest P) fs k xs
settle b rest P fs k [] at h = tt
settle b rest P fs k (None ∷ xs) at h = settle b rest P fs (suc k) xs (λ n. ap (place_at rest) (omega arith) ∙ at (suc n)) h
settle b rest P fs k (Some x ∷ xs) at h =
    (record { holds = h.0.0; unsent = h.0.1; here = ap (place_at rest) (omega arith) ∙ at 0 }, settle b rest P fs (suc k) xs (λ n. ap (place_at rest) (omega arith) ∙ at (suc n)) h.1)

pub settled : (b : Build) (s : State) (P : ℕ → Arrival → Packet → Type 0) → Placed P s.frames 0 s.places → Placed (Settled b (rest_of b s) P) s.frames 0 (rest_of b s)
settled b s P h = settle b (rest_of b s) P s.frames 0 (rest_of b s) (λ n. ap (place_at (rest_of b s)) (omega arith)) (flushed_placed b P s.frames 0 s.places h)

-- of the packet in one place
pub placed_at : (P : ℕ → Arrival → Packet → Type 0) (fs : List Arrival) (k n : ℕ) (xs : List (Option Packet)) (x : Packet) → Placed P fs k xs → place_at xs n ≡ Some x → (c : Arrival) × P (k + n) c x
placed_at P fs k n [] x h e = cc
placed_at P fs k zero (None ∷ xs) x h e = cc
placed_at P fs k zero (Some y ∷ xs) x h e =
    let same : y ≡ x = cc in
    (get_or fs (inside xs) no_frame, subst (λ z. P (k + 0) (get_or fs (inside xs) no_frame) z) same (subst (λ n. P n (get_or fs (inside xs) no_frame) y) (omega arith) h.0))
placed_at P fs k (suc n) (None ∷ xs) x h e = let q = placed_at P fs (suc k) n xs x h e in (q.0, subst (λ m. P m q.0 x) (omega arith) q.1)
placed_at P fs k (suc n) (Some y ∷ xs) x h e = let q = placed_at P fs (suc k) n xs x h.1 e in (q.0, subst (λ m. P m q.0 x) (omega arith) q.1)

-- ---- a change

pub record MarkedBySteps (b : Build) (t : TableState) (e : Change) (to : ℕ) (P Q : ℕ → Arrival → Packet → Type 0) : Type 0 where
  pub hit : (k : ℕ) (c : Arrival) (x : Packet) → nat_lt k to ≡ true → P k c x → Q k c (marked_by b t k e x)
  pub missed : (k : ℕ) (c : Arrival) (x : Packet) → nat_lt k to ≡ false → P k c x → Q k c x

marked_by_placed : (b : Build) (t : TableState) (e : Change) (to : ℕ) (P Q : ℕ → Arrival → Packet → Type 0) → MarkedBySteps b t e to P Q → (fs : List Arrival) (k : ℕ) (xs : List (Option Packet)) → Placed P fs k xs →
    Placed Q fs k (marked_below to b t e k xs)
marked_by_placed b t e to P Q steps fs k [] h = tt
marked_by_placed b t e to P Q steps fs k (None ∷ xs) h = by (nat_lt k to) (marked_by_placed b t e to P Q steps fs (suc k) xs h)
  where
    by : (c : Bool) → Placed Q fs (suc k) (marked_below to b t e (suc k) xs) → Placed Q fs k ((if c then option_map (marked_by b t k e) None else None) ∷ marked_below to b t e (suc k) xs)
    by true more = more
    by false more = more
marked_by_placed b t e to P Q steps fs k (Some x ∷ xs) h =
    by (nat_lt k to) refl (subst (λ n. P k (get_or fs n no_frame) x) (sym (marked_by_inside to b t e (suc k) xs)) h.0) (marked_by_placed b t e to P Q steps fs (suc k) xs h.1)
  where
    by : (c : Bool) → nat_lt k to ≡ c → P k (get_or fs (inside (marked_below to b t e (suc k) xs)) no_frame) x → Placed Q fs (suc k) (marked_below to b t e (suc k) xs) →
        Placed Q fs k ((if c then option_map (marked_by b t k e) (Some x) else Some x) ∷ marked_below to b t e (suc k) xs)
    by true l own more = (steps.hit k (get_or fs (inside (marked_below to b t e (suc k) xs)) no_frame) x l own, more)
    by false l own more = (steps.missed k (get_or fs (inside (marked_below to b t e (suc k) xs)) no_frame) x l own, more)

-- ---- moving on

pub record MovedSteps (b : Build) (t : TableState) (P Q : ℕ → Arrival → Packet → Type 0) : Type 0 where
  pub first : (c : Arrival) → Q 0 c (entered b t 0 c (injected b.program))
  pub further : (k : ℕ) (c : Arrival) (x : Packet) → P k c x → Q (suc k) c (entered b t (suc k) c x)

-- a packet that is to enter place k will do so rightly
abbrev Ready : Build → TableState → (ℕ → Arrival → Packet → Type 0) → Arrival → ℕ → Option Packet → Type 0
Ready b t Q c k None = Unit {0}
Ready b t Q c k (Some x) = Q k c (entered b t k c x)

moved_placed : (b : Build) (t : TableState) (P Q : ℕ → Arrival → Packet → Type 0) → MovedSteps b t P Q → (fs : List Arrival) (k : ℕ) (x : Option Packet) (ys : List (Option Packet)) →
    Ready b t Q (get_or fs (inside ys) no_frame) k x → Placed P fs k ys → Placed Q (drop (bit (is_some (last_or x ys))) fs) k (moved b t fs k x ys)
moved_placed b t P Q steps fs k x [] r h = tt
moved_placed b t P Q steps fs k x (y ∷ ys) r h = by x y r h (moved_placed b t P Q steps fs (suc k) y ys (next y h) (rest y h))
  where
    next : (y : Option Packet) → Placed P fs k (y ∷ ys) → Ready b t Q (get_or fs (inside ys) no_frame) (suc k) y
    next None h = tt
    next (Some y) h = steps.further k (get_or fs (inside ys) no_frame) y h.0

    rest : (y : Option Packet) → Placed P fs k (y ∷ ys) → Placed P fs (suc k) ys
    rest None h = h
    rest (Some y) h = h.1

    by : (x y : Option Packet) → Ready b t Q (get_or fs (inside (y ∷ ys)) no_frame) k x → Placed P fs k (y ∷ ys) → Placed Q (drop (bit (is_some (last_or y ys))) fs) (suc k) (moved b t fs (suc k) y ys) →
        Placed Q (drop (bit (is_some (last_or y ys))) fs) k (enters b t k (get_or fs (inside (y ∷ ys)) no_frame) x ∷ moved b t fs (suc k) y ys)
    by None y r h more = more
    by (Some x) y r h more = (
      subst (λ c. Q k c (entered b t k (get_or fs (inside (y ∷ ys)) no_frame) x))
          (sym (behind (bit (is_some (last_or y ys))) fs (inside (moved b t fs (suc k) y ys)) (inside (y ∷ ys)) (moved_inside b t fs (suc k) y ys))) r,
      more,
    )

newcomer_ready : (b : Build) (t : TableState) (Q : ℕ → Arrival → Packet → Type 0) → ((c : Arrival) → Q 0 c (entered b t 0 c (injected b.program))) → (back : Bool) (fs : List Arrival) (rest : List (Option Packet)) (c : Arrival) →
    Ready b t Q c 0 (newcomer b back fs rest)
newcomer_ready b t Q first back fs rest c = by (not back && nat_lt (inside rest) (length fs))
  where
    by : (d : Bool) → Ready b t Q c 0 (if d then Some (injected b.program) else None)
    by true = first c
    by false = tt

-- ---- the work of a clock

-- what an action does to the packets
abbrev pub ActionSteps : Build → State → (ℕ → Arrival → Packet → Type 0) → (ℕ → Arrival → Packet → Type 0) → Action → Type 0
ActionSteps b s P Q (Commits j x) = MarkedBySteps b s.tables (change_by b.program s.tables s.taken x.held j) b.plan.commit P Q
ActionSteps b s P Q (Writes a n) = MarkedBySteps b s.tables (host_change s.tables a) (suc b.plan.commit) P Q
ActionSteps b s P Q Moves = MovedSteps b s.tables P Q

moves_placed : (b : Build) (s : State) (P Q : ℕ → Arrival → Packet → Type 0) (back : Bool) (rest : List (Option Packet)) → length rest ≡ suc b.plan.last → MovedSteps b s.tables P Q → Placed P s.frames 0 rest →
    Placed Q (worked b s back rest Moves).frames 0 (worked b s back rest Moves).places
moves_placed b s P Q back [] n steps h = absurd (omega (arith, n))
moves_placed b s P Q back (x ∷ xs) n steps h =
    subst (λ (y : Option Packet). Placed Q (drop (bit (is_some y)) s.frames) 0 (moved b s.tables s.frames 0 new (x ∷ xs))) (sym here)
    (moved_placed b s.tables P Q steps s.frames 0 new (x ∷ xs) (newcomer_ready b s.tables Q steps.first back s.frames (x ∷ xs) (get_or s.frames (inside (x ∷ xs)) no_frame)) h)
  where
    new : Option Packet
    new = newcomer b back s.frames (x ∷ xs)

    here : place_at (x ∷ xs) b.plan.last ≡ last_or x xs
    here = subst (λ n. place_at (x ∷ xs) n ≡ last_or x xs) (omega (arith, n)) (place_last x xs)

acted_placed : (b : Build) (s : State) (P Q : ℕ → Arrival → Packet → Type 0) (back : Bool) (rest : List (Option Packet)) (u : Action) → length rest ≡ suc b.plan.last → ActionSteps b s P Q u → Placed P s.frames 0 rest →
    Placed Q (worked b s back rest u).frames 0 (worked b s back rest u).places
acted_placed b s P Q back rest (Commits j x) n steps h = marked_by_placed b s.tables (change_by b.program s.tables s.taken x.held j) b.plan.commit P Q steps s.frames 0 rest h
acted_placed b s P Q back rest (Writes a m) n steps h = marked_by_placed b s.tables (host_change s.tables a) (suc b.plan.commit) P Q steps s.frames 0 rest h
acted_placed b s P Q back rest Moves n steps h = moves_placed b s P Q back rest n steps h

more_placed : (P : ℕ → Arrival → Packet → Type 0) (fs more : List Arrival) (k : ℕ) (xs : List (Option Packet)) → inside xs ≤ length fs → Placed P fs k xs → Placed P (fs ++ more) k xs
more_placed P fs more k [] l h = tt
more_placed P fs more k (None ∷ xs) l h = more_placed P fs more (suc k) xs l h
more_placed P fs more k (Some x ∷ xs) l h = (subst (λ c. P k c x) (sym (get_or_front fs more (inside xs) no_frame (omega arith))) h.0, more_placed P fs more (suc k) xs (omega arith) h.1)

-- ---- the whole clock

pub next_placed : (b : Build) (i : Input) (t : Trace) (P Q : ℕ → Arrival → Packet → Type 0) → IsInOrder b t → Placed P t.state.frames 0 t.state.places → ActionSteps b t.state (Settled b (rest_of b t.state) P) Q (action_in b i t.state) →
    Placed Q (next b i t).state.frames 0 (next b i t).state.places
unfolding next clock work
next_placed b i t P Q o h steps =
    let s = t.state in
    let rest = rest_of b s in
    let kept = work_keeps b i s o.places o.packets in
    let w = work b i s in
    let came = came_in s i (beat_over b s i) in
    let c = scattered (gathered w i (beat_over b s i)) (taken_beat s i) in
    let beats = beats_keep b i t o in
    let q = acted_placed b s (Settled b rest P) Q (some_send b 0 s.places) rest (action_in b i s) (flushed_length b 0 s.places ∙ o.places) steps (settled b s P h) in
    subst (λ fs. Placed Q fs 0 c.places) (sym beats.frames) (subst (λ xs. Placed Q (w.frames ++ came) 0 xs) (sym beats.places) (more_placed Q w.frames came 0 w.places kept.packets q))
