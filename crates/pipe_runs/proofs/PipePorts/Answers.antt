-- The answers that are given, and those that are to come, are those of cell runs one after another.
use Rattle.std.specs.Prelude.{ℕ, List, [], ◌∷◌, ◌++◌, take, drop}
use Rattle.std.proofs.Common.{refl, sym, ap, ◌∙◌, subst, arith, append_assoc}
use Rattle.std.proofs.lemmas.List.{take-append-drop}
use Rattle.std.proofs.lemmas.Nat.{pow_pos}
use Rattle.cell_core.specs.beat_core.declared.answer.Answer.{Answer}
use Rattle.cell_core.specs.beat_core.Beats.{beats_of}
use Rattle.cell_core.specs.beat_core.Ports.{Arrival}
use Rattle.cell_core.specs.xdp_maps.State.{MapState}
use Rattle.cell_core.specs.xdp_machine.State.{PacketIn}
use Rattle.pipe_core.specs.net_core.Trace.{trace}
use Rattle.pipe_core.specs.realization.History.{answers_given}
use Rattle.pipe_core.specs.realization.Realizes.{BeginNext}
use Rattle.cell_core.specs.Sites.{ProgramView, IsCellRun, leaves, after}
use Rattle.pipe_core.specs.hazard_core.StageValues.{StageValues, stage_value}
use Rattle.pipe_core.specs.Machine.{Build, packet_of, first_answer}
use Rattle.pipe_core.specs.History.{answers_of}
use Rattle.pipe_core.specs.Sequential.{AreCellRuns}
use Rattle.pipe_core.specs.SequentialOrder.{left_maps}
use Rattle.pipe_core.specs.Apart.{RunsComplete}
use Rattle.pipe_core.specs.Pipeable.{IsPipelinable}
use Rattle.pipe_net.specs.Relation.{IsAt}
use Rattle.pipe_runs.specs.PipeAnswers.Runs.{ReadsRunInTurn}
use Rattle.pipe_runs.specs.PipePorts.Answered.{answer_of, AreAnswered}
use Rattle.pipe_runs.specs.PipePorts.Followed.{ran}
use Rattle.pipe_runs.specs.PipePorts.Patterns.{PatternsMayCome}
use Rattle.pipe_runs.specs.PipePorts.Answering.{RunsAreAnswers, PatternsAnswerInTurn}

pub runs_are_answers : RunsAreAnswers
runs_are_answers p maps [] [] last runs e = runs
runs_are_answers p maps [] (c ∷ cs) last runs e = absurd (omega (arith, e))
runs_are_answers p maps (h ∷ hs) [] last runs e = absurd runs
runs_are_answers p maps (h ∷ hs) (c ∷ cs) last runs e =
    (record { values = stage_value h; run = runs.0; is = refl }, runs_are_answers p (after (stage_value h) maps p.sites) hs cs last runs.1 (omega (arith, e)))

-- the beats of the first answer that are given begin the next answer
begins_next : (pos : ℕ) (answers rest : List Answer) → IsAt pos answers → BeginNext (take pos (beats_of (first_answer answers).frame)) (answers ++ rest)
begins_next pos (a ∷ more) rest at = (drop pos (beats_of a.frame), take-append-drop pos (beats_of a.frame))
begins_next pos [] [] at = ap (λ n. take n (beats_of [])) at
begins_next pos [] (r ∷ rest) at = (beats_of r.frame, ap (λ n. take n (beats_of []) ++ beats_of r.frame) at)

module _ (complete : RunsComplete) (b : Build) (maps : MapState) (pipelinable : IsPipelinable maps.decls b) where
  abbrev p : ProgramView
  p = b.program

  -- a packet has a cell run, whatever the maps hold
  has_run : (packet : PacketIn) (on : MapState) → (v : ℕ → ℕ) × IsCellRun packet on p v
  has_run packet on =
      let r = complete maps.decls p pipelinable.rows.reads.planned.formed pipelinable.sited packet on (λ k. 0) (λ k lt e. pow_pos _) in
      (r.0, r.1.run)

  all_answered : (on : MapState) (cs : List Arrival) → (rs : List Answer) × (last : MapState) × AreAnswered p on cs rs last
  all_answered on [] = ([], on, refl)
  all_answered on (c ∷ cs) =
      let r = has_run (packet_of c) on in
      let more = all_answered (after r.0 on p.sites) cs in
      (answer_of (leaves r.0 (packet_of c) on p) ∷ more.0, more.1, (record { values = r.0; run = r.1; is = refl }, more.2))

  -- those of packets that left, and of the others
  answered_on : (on : MapState) (hs : List StageValues) (cs : List Arrival) (left : MapState) → AreCellRuns p on hs cs left → (rs : List Answer) × (last : MapState) × AreAnswered p on cs (answers_of p hs cs ++ rs) last
  answered_on on [] cs left runs = all_answered on cs
  answered_on on (h ∷ hs) [] left runs = absurd runs
  answered_on on (h ∷ hs) (c ∷ cs) left runs =
      let more = answered_on (after (stage_value h) on p.sites) hs cs left runs.1 in
      (more.0, more.1, (record { values = stage_value h; run = runs.0; is = refl }, more.2))

pub patterns_answer : RunsComplete → ReadsRunInTurn → PatternsMayCome → PatternsAnswerInTurn
patterns_answer complete action patterns b maps n st h is w =
    let q = patterns b maps n st h is w in
    let t = ran b maps is in
    let f = action b maps h.pipelinable h.sound is q.silent in
    let k = answered_on complete b maps h.pipelinable maps t.left t.came (left_maps b.program maps t.left) f.runs in
    let later = t.state.answers ++ k.0 in
    let all : AreAnswered b.program maps t.came (t.gave ++ later) k.1 =
    subst (λ rs. AreAnswered b.program maps t.came rs k.1) (ap (λ rs. rs ++ k.0) (sym f.order.answers) ∙ append_assoc t.gave t.state.answers k.0) k.2 in
    record {
      never = q.never;
      later = later;
      maps = k.1;
      prefix = subst (λ cs. AreAnswered b.program maps cs (answers_given [] (trace n st is) ++ later) k.1) q.history.came (subst (λ rs. AreAnswered b.program maps t.came (rs ++ later) k.1) q.history.gave all);
      next = subst (λ bs. BeginNext bs later) (sym q.history.opens) (begins_next t.state.pos t.state.answers k.0 q.history.position);
    }
