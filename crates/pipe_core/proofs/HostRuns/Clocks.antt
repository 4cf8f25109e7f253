-- Clocks of the host while nothing is inside.
use Rattle.std.proofs.Common.{◌≡◌, ℕ, zero, suc, ◌+◌, ◌%◌, ◌^◌, Bool, true, false, List, [], ◌∷◌, ◌++◌, Option, Some, None, drop, refl, sym, ap, ◌∙◌, arith}
use Rattle.std.specs.Prelude.{if◌then◌else◌, nat_lt, ◌&&◌, is_some, replicate, slice_set}
use Rattle.std.proofs.lemmas.Bool.Decides.{nat_tests}
use Rattle.std.proofs.lemmas.List.{set-get_or}
use Rattle.realization.specs.beat_core.declared.beat.Beat.{Beat}
use Rattle.realization.specs.beat_core.Ports.{Arrival}
use Rattle.hazard_core.specs.cell_core.Cells.{bit}
use Rattle.hazard_core.specs.declared.access.Access.{Access}
use Rattle.hazard_core.specs.declared.access.Word.{Word}
use Rattle.hazard_core.specs.declared.access.Word.TheVariants.{Used, Key, Value, Nothing}
use Rattle.hazard_core.specs.declared.change.Change.{Change}
use Rattle.hazard_core.specs.StageValues.{StageValues}
use Rattle.hazard_core.specs.declared.slot.Slot.{Slot}
use Rattle.hazard_core.specs.Tables.{TableState, table_at, slot_at, no_slot}
use Rattle.hazard_core.specs.Commits.{word_in, may_write, written_word, host_written, host_change, shown_to_host}
use Rattle.pipe_core.specs.Machine.{Packet, State, Input, Build, Action, Commits, Writes, Moves, place_at, inside, some_send, flushed, moved, newcomer, injected, answers_by, marked_below, is_ready, host_writes, written_if, action_of, action_as, commits_or_moves, worked, work, beat_over, gathered, scattered, clock, output}
use Rattle.pipe_core.specs.History.{Trace, came_in, left_as, left_in, next}

-- ---- places without packets

abbrev nobody : ℕ → List (Option Packet)
nobody n = replicate n None

none_at : (n k : ℕ) → place_at (nobody n) k ≡ None
none_at zero k = refl
none_at (suc n) zero = refl
none_at (suc n) (suc k) = none_at n k

none_sends : (b : Build) (k n : ℕ) → some_send b k (nobody n) ≡ false
none_sends b k zero = refl
none_sends b k (suc n) = none_sends b (suc k) n

always_none : {A : Type 0} (c : Bool) → ◌≡◌ {A = Option A} (if c then None else None) None
always_none true = refl
always_none false = refl

none_flushed : (b : Build) (k n : ℕ) → flushed b k (nobody n) ≡ nobody n
none_flushed b k zero = refl
none_flushed b k (suc n) =
    ap (λ (x : Option Packet). x ∷ flushed b (suc k) (nobody n)) (always_none (some_send b k (nobody (suc n))))
    ∙ ap (λ (xs : List (Option Packet)). None ∷ xs) (none_flushed b (suc k) n)

none_moved : (b : Build) (t : TableState) (fs : List Arrival) (k n : ℕ) → moved b t fs k None (nobody n) ≡ nobody n
none_moved b t fs k zero = refl
none_moved b t fs k (suc n) = ap (λ (xs : List (Option Packet)). None ∷ xs) (none_moved b t fs (suc k) n)

none_marked_by : (to : ℕ) (b : Build) (t : TableState) (e : Change) (k n : ℕ) → marked_below to b t e k (nobody n) ≡ nobody n
none_marked_by to b t e k zero = refl
none_marked_by to b t e k (suc n) =
    ap (λ (x : Option Packet). x ∷ marked_below to b t e (suc k) (nobody n)) (always_none (nat_lt k to))
    ∙ ap (λ (xs : List (Option Packet)). None ∷ xs) (none_marked_by to b t e (suc k) n)

none_comes : (b : Build) (n : ℕ) → newcomer b false [] (nobody n) ≡ None
none_comes b n =
    let test : nat_lt (inside (nobody n)) 0 ≡ false = grind (arith, nat_tests) in
    ap (λ (c : Bool). if c then Some (injected b.program) else None) test

-- ---- a machine with nothing inside

abbrev pub resting : TableState → ℕ → ℕ → ℕ → List ℕ → ℕ → State
resting t pos n done taken passed = record {
  tables = t;
  answers = [];
  pos = pos;
  frames = [];
  part = None;
  places = nobody n;
  done = done;
  taken = taken;
  passed = passed;
}

-- the clock of a host: no beat is offered or taken
abbrev pub hosting : Access → Input
hosting a = record { beat = None; ifindex = 0; time = 0; take = false; host = Some a }

-- the work after what is flushed, by its action
work_by : (b : Build) (a : Access) (t : TableState) (pos n done : ℕ) (taken : List ℕ) (passed : ℕ) (action : Action) → action_of b (hosting a) (resting t pos n done taken passed) (nobody n) ≡ action
    → work b (hosting a) (resting t pos n done taken passed) ≡ worked b (resting t pos n done taken passed) false (nobody n) action
unfolding work
work_by b a t pos n done taken passed action e =
    ap (λ (xs : List (Option Packet)). worked b (resting t pos n done taken passed) (some_send b 0 (nobody n)) xs (action_of b (hosting a) (resting t pos n done taken passed) xs)) (none_flushed b 0 n)
    ∙ ap (λ (c : Bool). worked b (resting t pos n done taken passed) c (nobody n) (action_of b (hosting a) (resting t pos n done taken passed) (nobody n))) (none_sends b 0 n)
    ∙ ap (worked b (resting t pos n done taken passed) false (nobody n)) e

moves : (b : Build) (t : TableState) (pos n done : ℕ) (taken : List ℕ) (passed : ℕ) → worked b (resting t pos n done taken passed) false (nobody n) Moves ≡ resting t pos n 0 taken (passed % 2 ^ 32)
moves b t pos n done taken passed =
    ap (λ (x : Option Packet). left_by x (newcomer b false [] (nobody n)) (place_at (nobody n) b.plan.commit)) (none_at n b.plan.last)
    ∙ ap (λ (x : Option Packet). left_by None x (place_at (nobody n) b.plan.commit)) (none_comes b n)
    ∙ ap (λ (x : Option Packet). left_by None None x) (none_at n b.plan.commit)
    ∙ ap (λ (xs : List (Option Packet)). record (resting t pos n 0 taken ((passed + 0) % 2 ^ 32)) { places = xs }) (none_moved b t [] 0 n)
    ∙ ap (λ (p : ℕ). resting t pos n 0 taken (p % 2 ^ 32)) still
  where
    left_by : Option Packet → Option Packet → Option Packet → State
    left_by last first commits = record (resting t pos n done taken passed) {
      answers = [] ++ answers_by b.program [] last;
      frames = drop (bit (is_some last)) [];
      places = moved b t [] 0 first (nobody n);
      done = 0;
      passed = (passed + bit (is_some commits)) % 2 ^ 32;
    }

    still : passed + 0 ≡ passed
    still = omega arith

writes : (b : Build) (a : Access) (d : ℕ) (t : TableState) (pos n done : ℕ) (taken : List ℕ) (passed : ℕ) → worked b (resting t pos n done taken passed) false (nobody n) (Writes a d) ≡ resting (host_written t a d) pos n done taken passed
writes b a d t pos n done taken passed =
    ap (λ (xs : List (Option Packet)). record (resting (host_written t a d) pos n done taken passed) { places = xs }) (none_marked_by (suc b.plan.commit) b t (host_change t a) 0 n)

-- the action of a host that writes nothing, and of one that does
actions : (b : Build) (a : Access) (t : TableState) (pos n done : ℕ) (taken : List ℕ) (passed : ℕ) (o : Option (Access × ℕ)) → host_writes true true t (Some a) ≡ o → action_of b (hosting a) (resting t pos n done taken passed) (nobody n) ≡ action_as b (resting t pos n done taken passed) (nobody n) o
actions b a t pos n done taken passed o e = ap (action_as b (resting t pos n done taken passed) (nobody n)) e

no_write : (b : Build) (a : Access) (t : TableState) (pos n done : ℕ) (taken : List ℕ) (passed : ℕ) → host_writes true true t (Some a) ≡ None → action_of b (hosting a) (resting t pos n done taken passed) (nobody n) ≡ Moves
no_write b a t pos n done taken passed e =
    actions b a t pos n done taken passed None e ∙ ap (commits_or_moves b (resting t pos n done taken passed)) (none_at n b.plan.commit)

-- ---- the beats

beats_rest : (b : Build) (a : Access) (s t : State) → work b (hosting a) s ≡ t → beat_over b s (hosting a) ≡ None → clock b (hosting a) s ≡ t
unfolding clock
beats_rest b a s t e none = ap (λ (x : Option Beat). scattered (gathered (work b (hosting a) s) (hosting a) x) None) none ∙ e

nothing_over : (b : Build) (a : Access) (s : State) → beat_over b s (hosting a) ≡ None
nothing_over b a s = always_none (is_ready b s)

-- ---- a clock in which the host reads, and one in which it writes

abbrev pub reading : ℕ → ℕ → ℕ → Access
reading m i w = record { map = m; index = i; word = w; write = None }

abbrev pub writing : ℕ → ℕ → ℕ → ℕ → Access
writing m i w d = record { map = m; index = i; word = w; write = Some d }

pub clock_reads : (b : Build) (m i w : ℕ) (t : TableState) (pos n done : ℕ) (taken : List ℕ) (passed : ℕ) → clock b (hosting (reading m i w)) (resting t pos n done taken passed) ≡ resting t pos n 0 taken (passed % 2 ^ 32)
clock_reads b m i w t pos n done taken passed =
    beats_rest b (reading m i w) (resting t pos n done taken passed) (resting t pos n 0 taken (passed % 2 ^ 32))
    (work_by b (reading m i w) t pos n done taken passed Moves (no_write b (reading m i w) t pos n done taken passed (never (may_write true (slot_at (table_at t m) i) (word_in t (reading m i w))))) ∙ moves b t pos n done taken passed)
    (nothing_over b (reading m i w) (resting t pos n done taken passed))
  where
    never : (c : Bool) → written_if (true && c) (reading m i w) None ≡ None
    never true = refl
    never false = refl

-- the word that is named may be one that there is not: then nothing is written
written_nothing : (t : TableState) (a : Access) (d : ℕ) → word_in t a ≡ Nothing → host_written t a d ≡ t
unfolding host_written
written_nothing t a d e =
    ap (λ (w : Word). record t { tables = slice_set t.tables a.map (slice_set (table_at t a.map) a.index (written_word (slot_at (table_at t a.map) a.index) w d)) }) e
    ∙ ap (λ (slots : List Slot). record t { tables = slice_set t.tables a.map slots }) (set-get_or (table_at t a.map) a.index no_slot)
    ∙ ap (λ (tables : List (List Slot)). record t { tables = tables }) (set-get_or t.tables a.map [])

-- what a clock does in which the host writes, with nothing inside: the tables are written, and nothing leaves
record WritesIn (b : Build) (a : Access) (d : ℕ) (t : TableState) (pos n : ℕ) (taken : List ℕ) : Type 0 where
  work : work b (hosting a) (resting t pos n 0 taken 0) ≡ resting (host_written t a d) pos n 0 taken 0
  left : left_in b (hosting a) (resting t pos n 0 taken 0) ≡ []

left_by : (b : Build) (a : Access) (t : TableState) (pos n : ℕ) (taken : List ℕ) (action : Action) → action_of b (hosting a) (resting t pos n 0 taken 0) (nobody n) ≡ action → left_in b (hosting a) (resting t pos n 0 taken 0) ≡ []
left_by b a t pos n taken action e =
    ap (λ (xs : List (Option Packet)). left_as (action_of b (hosting a) (resting t pos n 0 taken 0) xs) (place_at xs b.plan.last)) (none_flushed b 0 n)
    ∙ ap (λ (u : Action). left_as u (place_at (nobody n) b.plan.last)) e
    ∙ ap (left_as action) (none_at n b.plan.last)
    ∙ none action
  where
    none : (u : Action) → left_as u None ≡ []
    none (Commits j x) = refl
    none (Writes w d) = refl
    none Moves = refl

writes_in : (b : Build) (m i w d : ℕ) (t : TableState) (pos n : ℕ) (taken : List ℕ) (x : Word) → word_in t (writing m i w d) ≡ x → WritesIn b (writing m i w d) d t pos n taken
writes_in b m i w d t pos n taken x e = by x e
  where
    a : Access
    a = writing m i w d

    action : (x : Word) (o : Option (Access × ℕ)) → word_in t (writing m i w d) ≡ x → written_if (true && may_write true (slot_at (table_at t m) i) x) (writing m i w d) (Some d) ≡ o → action_of b (hosting (writing m i w d)) (resting t pos n 0 taken 0) (nobody n) ≡ action_as b (resting t pos n 0 taken 0) (nobody n) o
    action x o e f =
        ap (λ (x : Word). action_as b (resting t pos n 0 taken 0) (nobody n) (written_if (true && may_write true (slot_at (table_at t m) i) x) (writing m i w d) (Some d))) e
        ∙ ap (action_as b (resting t pos n 0 taken 0) (nobody n)) f

    some : (x : Word) → word_in t (writing m i w d) ≡ x → written_if (true && may_write true (slot_at (table_at t m) i) x) (writing m i w d) (Some d) ≡ Some (writing m i w d, d) → WritesIn b (writing m i w d) d t pos n taken
    some x e f = record {
      work = work_by b (writing m i w d) t pos n 0 taken 0 (Writes (writing m i w d) d) (action x (Some (writing m i w d, d)) e f) ∙ writes b (writing m i w d) d t pos n 0 taken 0;
      left = left_by b (writing m i w d) t pos n taken (Writes (writing m i w d) d) (action x (Some (writing m i w d, d)) e f);
    }

    by : (x : Word) → word_in t (writing m i w d) ≡ x → WritesIn b (writing m i w d) d t pos n taken
    by Used e = some Used e refl
    by (Key k) e = some (Key k) e refl
    by (Value k) e = some (Value k) e refl
    by Nothing e =
        let moving = action Nothing None e refl ∙ ap (commits_or_moves b (resting t pos n 0 taken 0)) (none_at n b.plan.commit) in
        record {
          work = work_by b (writing m i w d) t pos n 0 taken 0 Moves moving ∙ moves b t pos n 0 taken 0 ∙ ap (λ (t : TableState). resting t pos n 0 taken 0) (sym (written_nothing t (writing m i w d) d e));
          left = left_by b (writing m i w d) t pos n taken Moves moving;
        }

-- a trace in which nothing has come so far
abbrev pub quiet : State → Trace
quiet s = record { state = s; came = []; left = []; gave = [] }

pub next_writes : (b : Build) (m i w d : ℕ) (t : TableState) (pos n : ℕ) (taken : List ℕ) → next b (hosting (writing m i w d)) (quiet (resting t pos n 0 taken 0)) ≡ quiet (resting (host_written t (writing m i w d) d) pos n 0 taken 0)
unfolding next
next_writes b m i w d t pos n taken =
    let h = writes_in b m i w d t pos n taken (word_in t (writing m i w d)) refl in
    let s = resting t pos n 0 taken 0 in
    let over = nothing_over b (writing m i w d) s in
    ap (λ (x : State). record { state = x; came = [] ++ came_in s (hosting (writing m i w d)) (beat_over b s (hosting (writing m i w d))); left = [] ++ left_in b (hosting (writing m i w d)) s; gave = [] })
    (beats_rest b (writing m i w d) s (resting (host_written t (writing m i w d) d) pos n 0 taken 0) h.work over)
    ∙ ap (λ (x : Option Beat). record { state = resting (host_written t (writing m i w d) d) pos n 0 taken 0; came = [] ++ came_in s (hosting (writing m i w d)) x; left = [] ++ left_in b (hosting (writing m i w d)) s; gave = [] }) over
    ∙ ap (λ (x : List StageValues). record { state = resting (host_written t (writing m i w d) d) pos n 0 taken 0; came = []; left = [] ++ x; gave = [] }) h.left

-- what the host is shown
pub output_reads : (b : Build) (m i w : ℕ) (t : TableState) (pos n done : ℕ) (taken : List ℕ) (passed : ℕ) → (output b (hosting (reading m i w)) (resting t pos n done taken passed)).host_value ≡ shown_to_host t (reading m i w)
unfolding output
output_reads b m i w t pos n done taken passed = refl
