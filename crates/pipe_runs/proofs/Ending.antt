-- After the last answer no frame is inside.
use Rattle.std.specs.Prelude.{◌≡◌, ◌+◌, ◌≤◌, nat_lt, not, ◌&&◌, is_some, true, false, List, [], ◌∷◌, ◌++◌, length}
use Rattle.std.proofs.Common.{refl, sym, ap, ap₂, ◌∙◌, arith, length-append, length-drop, append-nil}
use Rattle.pipe_core.specs.Machine.{Build, is_idle, inside}
use Rattle.pipe_core.specs.History.{Trace, answers_of, IsInOrder}
use Rattle.pipe_core.proofs.HistoryLaws.{answers_length}

nothing : {A : Type 0} (xs : List A) → length xs ≡ 0 → xs ≡ []
nothing [] z = refl
nothing (x ∷ xs) z = absurd (omega (arith, z))

-- the answers that are given and those that are to be given are those of the packets that left
answered : (b : Build) (t : Trace) → IsInOrder b t → length t.gave + length t.state.answers ≡ length t.left
answered b t h = sym (length-append t.gave t.state.answers) ∙ ap length h.answers ∙ answers_length b.program t.left t.came h.begun

-- no more answers are given than packets came
pub given_few : (b : Build) (t : Trace) → IsInOrder b t → length t.gave ≤ length t.came
given_few b t h = omega (arith, answered b t h, h.begun)

pub record IsEnded (b : Build) (t : Trace) : Type 0 where
  pub left : length t.left ≡ length t.came
  pub gave : t.gave ≡ answers_of b.program t.left t.came
  pub none : inside t.state.places ≡ 0
  pub idle : is_idle t.state ≡ true

pub ended : (b : Build) (t : Trace) → IsInOrder b t → length t.gave ≡ length t.came → is_some t.state.part ≡ false → IsEnded b t
ended b t h all closed =
    let count = answered b t h in
    let answers : t.state.answers ≡ [] = nothing t.state.answers (omega (arith, count, all, h.begun)) in
    let frames : length t.state.frames ≡ 0 = ap length h.frames ∙ length-drop (length t.left) t.came ∙ omega (arith, count, all, h.begun) in
    record {
      left = omega (arith, count, all, h.begun);
      gave = sym (append-nil t.gave) ∙ ap (λ rs. t.gave ++ rs) (sym answers) ∙ h.answers;
      none = omega (arith, h.packets, frames);
      idle = ap₂ (λ part n. not part && nat_lt n 1) closed (ap₂ (λ m n. m + n) (ap length answers) frames);
    }
