-- What a clock does to the beats that are still to come and to be given, whatever its action is.
use Rattle.std.proofs.Common.{◌≡◌, ℕ, ◌+◌, ◌*◌, ◌≤◌, inl, inr, Bool, true, false, List, [], ◌∷◌, ◌++◌, Option, Some, None, length, drop, refl, sym, ap, ◌∙◌, subst, arith, length-append}
use Rattle.std.specs.Prelude.{if◌then◌else◌, is_some}
use Rattle.std.proofs.lemmas.Bool.{cases_lt}
use Rattle.realization.specs.beat_core.declared.beat.Beat.{Beat}
use Rattle.realization.specs.beat_core.declared.answer.Answer.{Answer}
use Rattle.realization.specs.beat_core.Clocks.{AreOffers}
use Rattle.realization.specs.beat_core.Ports.{Arrival}
use Rattle.hazard_core.specs.cell_core.Sites.{ProgramView}
use Rattle.hazard_core.proofs.cell_core_laws.FrameLaws.{with_bytes_length}
use Rattle.hazard_core.specs.StageValues.{StageValues, stage_value}
use Rattle.pipe_core.specs.Machine.{Packet, State, Input, Build, Action, Commits, Writes, Moves, some_send, flushed, action_of, worked, work, gathered, beat_over, beat_at, taken_beat, scattered, clock}
use Rattle.pipe_core.specs.History.{Trace, came_in, left_in, next, answers_of, IsInOrder}
use Rattle.pipe_core.specs.Drive.{ahead}
use Rattle.pipe_core.proofs.Order.{Worked, work_keeps, beats_keep, keeps_order}
use Rattle.pipe_core.proofs.Draining.{beats, answer_beats, frame_beats, part_beats, part_length, EndsWhole, IsAt, to_give, answer_append, at_append, at_within, gave, Took, took_none, took_one, Driving}

-- answers have the beats of their frames
pub answers_beats : (p : ProgramView) (hs : List StageValues) (cs : List Arrival) → length hs ≤ length cs → answer_beats (answers_of p hs cs) + frame_beats (drop (length hs) cs) ≡ frame_beats cs
answers_beats p [] cs l = omega arith
answers_beats p (h ∷ hs) [] l = absurd (omega (arith, l))
answers_beats p (h ∷ hs) (c ∷ cs) l =
    let e = ap beats (with_bytes_length (stage_value h) c.frame p.frame) in omega (arith, e, answers_beats p hs cs (omega (arith, l)))

action_pos : (b : Build) (s : State) (back : Bool) (rest : List (Option Packet)) (u : Action) → (worked b s back rest u).pos ≡ s.pos
action_pos b s back rest (Commits j x) = refl
action_pos b s back rest (Writes a n) = refl
action_pos b s back rest Moves = refl

work_pos : (b : Build) (i : Input) (s : State) → (work b i s).pos ≡ s.pos
unfolding work
work_pos b i s = action_pos b s (some_send b 0 s.places) (flushed b 0 s.places) (action_of b i s (flushed b 0 s.places))

took_ahead : (w : State) (i : Input) (o : Option Beat) (left : List Beat) → 8 * part_beats w.part ≡ part_length w.part → AreOffers (part_beats w.part) (ahead o left) → EndsWhole (is_some w.part) (ahead o left) →
    Took w (gathered w i o) (ahead o left) left
took_ahead w i None left f o n = took_none w left f o n
took_ahead w i (Some x) left f o n = took_one w i x left f o n

record Given (take : Bool) (g c : State) (old : List Answer) : Type 0 where
  frames : c.frames ≡ g.frames
  part : c.part ≡ g.part
  at : IsAt c.pos c.answers
  no_more : answer_beats c.answers + g.pos ≤ answer_beats g.answers + c.pos
  goes : take ≡ true → 1 ≤ length old → answer_beats c.answers + g.pos + 1 ≤ answer_beats g.answers + c.pos

given : (take : Bool) (g : State) (old new : List Answer) → g.answers ≡ old ++ new → IsAt g.pos g.answers → Given take g (scattered g (if take then beat_at g.pos old else None)) old
given false g old new e h = record { frames = refl; part = refl; at = h; no_more = omega arith; goes = λ t l. cc }
given true g old new e h =
    let q = gave g old new e h in
    record {
      frames = q.frames;
      part = q.part;
      at = q.at;
      no_more = elim (cases_lt 0 (length old)) [
        | inl l ↦ omega (arith, q.goes (omega (arith, l)))
        | inr l ↦ omega (arith, q.idle (omega (arith, l)))
      ];
      goes = λ t l. q.goes l;
    }

pub record Offered (n : ℕ) (b : Build) (i : Input) (t : Trace) (left : List Beat) : Type 0 where
  pub driving : Driving n b (record { left = left; trace = next b i t })
  pub no_more : to_give (record { left = left; trace = next b i t }) ≤ to_give (record { left = ahead (beat_over b t.state i) left; trace = t })
  pub goes : i.take ≡ true → 1 ≤ length t.state.answers → to_give (record { left = left; trace = next b i t }) + 1 ≤ to_give (record { left = ahead (beat_over b t.state i) left; trace = t })

pub offered_on : (n : ℕ) (b : Build) (i : Input) (t : Trace) (left : List Beat) → Driving n b (record { left = ahead (beat_over b t.state i) left; trace = t }) → Offered n b i t left
unfolding next clock
offered_on n b i t left v = record {
  driving = record {
    order = order;
    count = omega (arith, v.count, length-append t.came (came_in s i over), ap length (beats_keep b i t v.order).frames, length-append w.frames (came_in s i over), ap length gv.frames, tk.frames_stay);
    full = ap (λ x. 8 * part_beats x) gv.part ∙ tk.full ∙ sym (ap part_length gv.part);
    offers = subst (λ x. AreOffers (part_beats x) left) (sym gv.part) tk.offers;
    ends = subst (λ x. EndsWhole (is_some x) left) (sym gv.part) tk.ends;
    at = gv.at;
  };
  no_more = omega (arith, gv.no_more, stay, ap frame_beats gv.frames, ap part_beats gv.part, pos, at_within s.pos s.answers v.at, at_within c.pos c.answers gv.at);
  goes = λ take l. omega (arith, gv.goes take l, stay, ap frame_beats gv.frames, ap part_beats gv.part, pos, at_within s.pos s.answers v.at, at_within c.pos c.answers gv.at);
}
  where
    s : State
    s = t.state

    over : Option Beat
    over = beat_over b s i

    w : State
    w = work b i s

    wk : Worked b s w (left_in b i s)
    wk = work_keeps b i s v.order.places v.order.packets

    more : List Answer
    more = answers_of b.program (left_in b i s) s.frames

    g : State
    g = gathered w i over

    tk : Took w g (ahead over left) left
    tk = took_ahead w i over left (ap (λ x. 8 * part_beats x) wk.part ∙ v.full ∙ sym (ap part_length wk.part)) (subst (λ x. AreOffers (part_beats x) (ahead over left)) (sym wk.part) v.offers) (subst (λ x. EndsWhole (is_some x) (ahead over left)) (sym wk.part) v.ends)

    pos : g.pos ≡ s.pos
    pos = tk.pos_stays ∙ work_pos b i s

    c : State
    c = scattered g (taken_beat s i)

    gv : Given i.take g c s.answers
    gv = subst (λ p. Given i.take g (scattered g (if i.take then beat_at p s.answers else None)) s.answers) pos
        (given i.take g s.answers more (tk.answers ∙ wk.answers) (subst (IsAt g.pos) (sym (tk.answers ∙ wk.answers)) (subst (λ p. IsAt p (s.answers ++ more)) (sym pos) (at_append s.pos s.answers more v.at))))

    order : IsInOrder b (next b i t)
    order = keeps_order b i t v.order

    stay : answer_beats g.answers + frame_beats g.frames + part_beats g.part + length left ≡ answer_beats s.answers + frame_beats s.frames + part_beats s.part + length (ahead over left)
    stay = omega (arith, ap answer_beats tk.answers, tk.beats_stay, ap answer_beats wk.answers, answer_append s.answers more, ap frame_beats wk.frames, answers_beats b.program (left_in b i s) s.frames wk.one, ap part_beats wk.part)
