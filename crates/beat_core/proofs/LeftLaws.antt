-- The beats that are left of a frame in a buffer, from a place on.
use Rattle.std.proofs.Common.{◌≡◌, ◌≢◌, ℕ, ◌+◌, ◌-◌, ◌<◌, ◌≤◌, min, List, [], ◌∷◌, length, take, drop, sym, ap, ◌∙◌, arith}
use Rattle.std.proofs.lemmas.List.{length-take, length-drop, drop_all, drop-drop, drop_min}
use Rattle.std.proofs.lemmas.Slice.{between_is}
use Rattle.beat_core.specs.declared.beat.Beat.{Beat}
use Rattle.beat_core.specs.Beats.{first_beat, beats_of}
use Rattle.beat_core.proofs.BeatLaws.{beats_of-nil, beats_of-step}

pub left_none : (at len : ℕ) (buffer : List ℕ) → at ≡ len → beats_of (drop at (take len buffer)) ≡ []
left_none at len buffer e = ap beats_of (drop_all at (take len buffer) (omega (arith, length-take len buffer))) ∙ beats_of-nil

pub left_some : (at len : ℕ) (buffer : List ℕ) → at ≤ len → at ≢ len → len ≤ length buffer
    → beats_of (drop at (take len buffer)) ≡ first_beat (take (len - at) (drop at buffer)) ∷ beats_of (drop 8 (drop at (take len buffer)))
left_some at len buffer le ne room =
    let rest = drop at (take len buffer) in
    let some : 0 < length rest = omega (arith, length-drop at (take len buffer), length-take len buffer) in
    beats_of-step rest some ∙ ap (λ (r : List ℕ). first_beat r ∷ beats_of (drop 8 rest)) (sym (between_is buffer at len))

-- after the first of them
pub left_after : (at len k : ℕ) (buffer : List ℕ) → at ≤ len → at ≢ len → len ≤ length buffer → k ≡ min (length (take (len - at) (drop at buffer))) 8
    → beats_of (drop (at + k) (take len buffer)) ≡ drop 1 (beats_of (drop at (take len buffer)))
left_after at len k buffer le ne room e =
    let rest = drop at (take len buffer) in
    let eight : k ≡ min 8 (length rest) = omega (arith, length-take (len - at) (drop at buffer), length-drop at buffer, length-drop at (take len buffer), length-take len buffer) in
    let on : drop (at + k) (take len buffer) ≡ drop 8 rest = sym (drop-drop k at (take len buffer)) ∙ ap (λ (n : ℕ). drop n rest) eight ∙ drop_min 8 rest in
    ap beats_of on ∙ sym (ap (λ (bs : List Beat). drop 1 bs) (left_some at len buffer le ne room))
