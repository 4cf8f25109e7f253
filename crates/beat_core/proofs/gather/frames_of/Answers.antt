use Rattle.std.proofs.Common.{◌≡◌, ◌++◌, List, ℕ, [], ◌∷◌, None, get_or, refl, sym, ap, ◌∙◌}
use Rattle.std.proofs.lemmas.List.{append-nil}
use Rattle.beat_core.specs.Clocks.{Gathered, frames_among, after_clock, went_over}
use Rattle.beat_core.proofs.OrderLaws.{completed, room_at, left_at, told_more, completed_last, completed_none}
use Rattle.beat_core.proofs.gather.frames_of.Goals as goal
use Rattle.beat_core.proofs.gather.frames_of.Goals.{then-clock+in_ok-of+in_ok-push, else-clock}

-- the frames after a push of the one that is complete
with_pushed : (items pushed before done : List (List ℕ)) (frame : List ℕ) → items ≡ pushed → pushed ≡ before ++ frame ∷ [] → done ≡ frame ∷ [] → items ≡ before ++ done
with_pushed items pushed before done frame same push complete = same ∙ push ∙ ap (λ (r : List (List ℕ)). before ++ r) (sym complete)

pub clock-requires : goal.clock-requires
clock-requires c =
    room_at c.loop-beat.gather c.args.clocks.now c.loop-beat.beat-index c.loop-beat-test.true c.loop-beat.invariant.1

pub loop-beat-preserved : goal.loop-beat-preserved
loop-beat-preserved c =
    let g = c.loop-beat.gather in
    let i = c.loop-beat.beat-index in
    let beat = get_or c.args.clocks.now i None in
    let told = told_more c.loop-beat.frames.items (frames_among [] (went_over c.args.clocks.now)) g c.args.clocks.now i beat c.loop-beat-test.true refl c.loop-beat.invariant.0 in
    let offers = left_at g c.args.clocks.now i c.loop-beat-test.true c.loop-beat.invariant.1 in
    let items : c.if-clock.frames.items ≡ c.loop-beat.frames.items ++ completed g beat =
    elim c.if-clock.branch [
      | then-clock+in_ok-of+in_ok-push w ↦
          let bytes : w.in_ok-of.field-0 ≡ (after_clock g beat).bytes = w.in_ok-of.ensures ∙ w.bytes.ensures.bytes ∙ ap (λ (r : Gathered). r.bytes) c.clock.ensures.after in
          let done : completed g beat ≡ w.in_ok-of.field-0 ∷ [] = completed_last g beat (sym c.clock.ensures.last ∙ w.if-clock.true) ∙ ap (λ (r : List ℕ). r ∷ []) (sym bytes) in
          with_pushed _ _ _ _ _ (ap (λ frames. frames.items) w.frames-is) w.in_ok-push.ensures.items done
      | else-clock w ↦
          ap (λ frames. frames.items) w.frames-is ∙ sym (append-nil c.loop-beat.frames.items) ∙ ap (λ (r : List (List ℕ)). c.loop-beat.frames.items ++ r) (sym (completed_none g beat (sym c.clock.ensures.last ∙ w.if-clock.false)))
    ] in
    rw (c.clock.ensures.after, items) (told, offers)
