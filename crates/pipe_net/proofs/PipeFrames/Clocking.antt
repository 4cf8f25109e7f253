-- What a clock of the machine makes of frames and answers, and of which places hold packets.
use Rattle.std.specs.Prelude.{◌≡◌, ℕ, suc, ◌+◌, ◌%◌, ◌^◌, if◌then◌else◌, Bool, true, false, Option, Some, None, is_some, List, [], ◌∷◌, ◌++◌, drop, map}
use Rattle.std.proofs.Common.{refl, sym, ap, ◌∙◌}
use Rattle.std.proofs.lemmas.List.{append-nil}
use Rattle.beat_core.specs.declared.beat.Beat.{Beat}
use Rattle.beat_core.specs.Ports.{Arrival}
use Rattle.hazard_core.specs.cell_core.Cells.{bit}
use Rattle.hazard_core.specs.Commits.{change_by, host_change}
use Rattle.pipe_core.specs.Machine.{Packet, State, Input, Build, Action, Commits, Writes, Moves, place_at, some_send, flushed, newcomer, answers_by, worked, work, came_with, beat_over, gathered, taken_beat, scattered, clock}
use Rattle.pipe_core.specs.History.{came_in}
use Rattle.control_net.specs.Control.{shifted}
use Rattle.pipe_core.proofs.ClockLaws.{part_after}
use Rattle.pipe_core.proofs.FlushLaws.{flushed_at}
use Rattle.pipe_net.specs.Saying.{moves, action_in, moves_in}
use Rattle.pipe_net.proofs.PipeFrames.Cases.{none_some, by_bool}
use Rattle.pipe_net.proofs.PipeFrames.Flushing.{marked_by_holds, moved_holds}

-- the packet that leaves the last place, where packets move on
abbrev pub leaver : Bool → Build → List (Option Packet) → Option Packet
leaver goes b rest = if goes then place_at rest b.plan.last else None

pub leaver_was : (goes : Bool) (b : Build) (places : List (Option Packet)) (x : Packet) → leaver goes b (flushed b 0 places) ≡ Some x → place_at places b.plan.last ≡ Some x
leaver_was true b places x e = flushed_at b 0 places b.plan.last x e
leaver_was false b places x e = none_some x e

-- the places that hold packets then
abbrev pub holds_after : Bool → Bool → List (Option Packet) → List Bool
holds_after goes new rest = if goes then shifted new (map is_some rest) else map is_some rest

abbrev pub passed_after : Bool → Build → List (Option Packet) → ℕ → ℕ
passed_after goes b rest passed = if goes then (passed + bit (is_some (place_at rest b.plan.commit))) % 2 ^ 32 else passed

-- ---- what an operation, the host or a move makes of a state
record Works (b : Build) (s : State) (back : Bool) (rest : List (Option Packet)) (goes : Bool) (w : State) : Type 0 where
  answers : w.answers ≡ s.answers ++ answers_by b.program s.frames (leaver goes b rest)
  pos : w.pos ≡ s.pos
  frames : w.frames ≡ drop (bit (is_some (leaver goes b rest))) s.frames
  part : w.part ≡ s.part
  holds : map is_some w.places ≡ holds_after goes (is_some (newcomer b back s.frames rest)) rest
  passed : w.passed ≡ passed_after goes b rest s.passed

works : (b : Build) (s : State) (back : Bool) (rest : List (Option Packet)) (action : Action) → Works b s back rest (moves action) (worked b s back rest action)
works b s back rest (Commits j x) = record {
  answers = sym (append-nil s.answers);
  pos = refl;
  frames = refl;
  part = refl;
  holds = marked_by_holds b.plan.commit b s.tables (change_by b.program s.tables s.taken x.held j) 0 rest;
  passed = refl;
}
works b s back rest (Writes a n) = record {
  answers = sym (append-nil s.answers);
  pos = refl;
  frames = refl;
  part = refl;
  holds = marked_by_holds (suc b.plan.commit) b s.tables (host_change s.tables a) 0 rest;
  passed = refl;
}
works b s back rest Moves = record { answers = refl; pos = refl; frames = refl; part = refl; holds = moved_holds b s.tables s.frames 0 (newcomer b back s.frames rest) rest; passed = refl }

-- ---- beats
-- the beat is a last one
abbrev pub ends_with : Option Beat → Bool
ends_with None = false
ends_with (Some x) = x.last

abbrev pub pos_after : Option Beat → ℕ → ℕ
pos_after None pos = pos
pos_after (Some x) pos = if x.last then 0 else suc pos

-- what beats that go over make of a state
record Passes (w : State) (i : Input) (over taken : Option Beat) (t : State) : Type 0 where
  answers : t.answers ≡ drop (bit (ends_with taken)) w.answers
  pos : t.pos ≡ pos_after taken w.pos
  frames : t.frames ≡ w.frames ++ came_in w i over
  part : t.part ≡ part_after w.part i over
  places : t.places ≡ w.places
  passed : t.passed ≡ w.passed

scatters : (w : State) (i : Input) (g : State) (over taken : Option Beat) → Passes w i over None g → Passes w i over taken (scattered g taken)
scatters w i g over None h = h
scatters w i g over (Some x) h =
    by_bool (λ l. Passes w i over (Some (record x { last = l })) (if l then record g { answers = drop 1 g.answers; pos = 0 } else record g { pos = suc g.pos })) x.last
    (record { answers = ap (drop 1) h.answers; pos = refl; frames = h.frames; part = h.part; places = h.places; passed = h.passed })
    (record { answers = h.answers; pos = ap suc h.pos; frames = h.frames; part = h.part; places = h.places; passed = h.passed })

-- by whether the beat is a last one
gathers_if : (w : State) (i : Input) (x : Beat) (l : Bool) → x.last ≡ l → Passes w i (Some x) None (gathered w i (Some x))
gathers_if w i x true e = rw e (record { answers = refl; pos = refl; frames = refl; part = refl; places = refl; passed = refl })
gathers_if w i x false e = rw e (record { answers = refl; pos = refl; frames = sym (append-nil w.frames); part = refl; places = refl; passed = refl })

gathers : (w : State) (i : Input) (over : Option Beat) → Passes w i over None (gathered w i over)
gathers w i None = record { answers = refl; pos = refl; frames = sym (append-nil w.frames); part = refl; places = refl; passed = refl }
gathers w i (Some x) = gathers_if w i x x.last refl

came_same : (s w : State) (i : Input) (over : Option Beat) → w.part ≡ s.part → came_in w i over ≡ came_in s i over
came_same s w i None e = refl
came_same s w i (Some x) e = ap (λ p. if x.last then came_with p i x ∷ [] else []) e

-- ---- the whole clock
pub record Clocked (b : Build) (i : Input) (s t : State) : Type 0 where
  pub answers : t.answers ≡ drop (bit (ends_with (taken_beat s i))) (s.answers ++ answers_by b.program s.frames (leaver (moves_in b i s) b (flushed b 0 s.places)))
  pub pos : t.pos ≡ pos_after (taken_beat s i) s.pos
  pub frames : t.frames ≡ drop (bit (is_some (leaver (moves_in b i s) b (flushed b 0 s.places)))) s.frames ++ came_in s i (beat_over b s i)
  pub part : t.part ≡ part_after s.part i (beat_over b s i)
  pub holds : map is_some t.places ≡ holds_after (moves_in b i s) (is_some (newcomer b (some_send b 0 s.places) s.frames (flushed b 0 s.places))) (flushed b 0 s.places)
  pub passed : t.passed ≡ passed_after (moves_in b i s) b (flushed b 0 s.places) s.passed

pub clocked : (b : Build) (i : Input) (s : State) → Clocked b i s (clock b i s)
unfolding clock work
clocked b i s =
    let rest = flushed b 0 s.places in
    let action = action_in b i s in
    let w = worked b s (some_send b 0 s.places) rest action in
    let over = beat_over b s i in
    let taken = taken_beat s i in
    let k = works b s (some_send b 0 s.places) rest action in
    let p = scatters w i (gathered w i over) over taken (gathers w i over) in
    record {
      answers = p.answers ∙ ap (drop (bit (ends_with taken))) k.answers;
      pos = p.pos ∙ ap (pos_after taken) k.pos;
      frames = p.frames ∙ (λ j. k.frames j ++ came_same s w i over k.part j);
      part = p.part ∙ ap (λ x. part_after x i over) k.part;
      holds = ap (map is_some) p.places ∙ k.holds;
      passed = p.passed ∙ k.passed;
    }
