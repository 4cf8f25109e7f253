-- The beats of an answer, one after another.
use Rattle.std.specs.Prelude.{◌≡◌, ℕ, zero, suc, ◌*◌, ◌<◌, ◌≤◌, nat_le, Bool, true, false, List, [], ◌∷◌, ◌++◌, length, take, drop}
use Rattle.std.proofs.Common.{refl, sym, ap, ◌∙◌, arith, append_assoc, append-nil, length-drop, drop-drop}
use Rattle.std.proofs.lemmas.List.{take_all}
use Rattle.std.proofs.lemmas.Bool.Decides.{nat_tests}
use Rattle.cell_core.specs.list_laws.Bytes.{IsBytes}
use Rattle.cell_core.specs.beat_core.declared.beat.Beat.{Beat}
use Rattle.cell_core.specs.beat_core.Beats.{bytes_of_beat, frame_of, first_beat, beat_count, beats_of}
use Rattle.cell_core.proofs.beat_core_laws.BeatLaws.{beats_of-step, length-beats_of, frame_of-beats_of}

pub frame_append : (xs : List Beat) (x : Beat) → frame_of (xs ++ x ∷ []) ≡ frame_of xs ++ bytes_of_beat x
frame_append [] x = append-nil (bytes_of_beat x)
frame_append (y ∷ xs) x = ap (λ t. bytes_of_beat y ++ t) (frame_append xs x) ∙ sym (append_assoc (bytes_of_beat y) (frame_of xs) (bytes_of_beat x))

-- the beat after the first so many
pub take_beat : (pos : ℕ) (f : List ℕ) → pos < beat_count (length f) → take (suc pos) (beats_of f) ≡ take pos (beats_of f) ++ first_beat (drop (8 * pos) f) ∷ []
take_beat zero f l = ap (take 1) (beats_of-step f (omega (arith, l)))
take_beat (suc pos) f l =
    let step = beats_of-step f (omega (arith, l)) in
    let at : drop (8 * pos) (drop 8 f) ≡ drop (8 * suc pos) f = drop-drop (8 * pos) 8 f ∙ ap (λ n. drop n f) (omega arith) in
    ap (take (suc (suc pos))) step
    ∙ ap (λ bs. first_beat f ∷ bs) (take_beat pos (drop 8 f) (omega (arith, l, length-drop 8 f)) ∙ ap (λ xs. take pos (beats_of (drop 8 f)) ++ first_beat xs ∷ []) at)
    ∙ ap (λ bs. take (suc pos) bs ++ first_beat (drop (8 * suc pos) f) ∷ []) (sym step)

at_most : (m n : ℕ) → nat_le m n ≡ true → m ≤ n
at_most m n e = by (nat_le m n) refl e
  where
    by : (c : Bool) → nat_le m n ≡ c → c ≡ true → m ≤ n
    by true q h = grind (arith, nat_tests)
    by false q h = cc

pub not_at_most : (m n : ℕ) → nat_le m n ≡ false → n < m
not_at_most m n e = by (nat_le m n) refl e
  where
    by : (c : Bool) → nat_le m n ≡ c → c ≡ false → n < m
    by true q h = cc
    by false q h = grind (arith, nat_tests)

-- with its last beat a frame is whole
pub whole_beat : (pos : ℕ) (f : List ℕ) → IsBytes f → pos < beat_count (length f) → (first_beat (drop (8 * pos) f)).last ≡ true → frame_of (take pos (beats_of f)) ++ bytes_of_beat (first_beat (drop (8 * pos) f)) ≡ f
whole_beat pos f bytes l last =
    let few : length (drop (8 * pos) f) ≤ 8 = at_most (length (drop (8 * pos) f)) 8 last in
    sym (frame_append (take pos (beats_of f)) (first_beat (drop (8 * pos) f)))
    ∙ ap frame_of (sym (take_beat pos f l) ∙ take_all (suc pos) (beats_of f) (omega (arith, length-beats_of f, few, length-drop (8 * pos) f, l)))
    ∙ frame_of-beats_of f bytes
