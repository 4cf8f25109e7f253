-- Beats, as they are offered and go over.
use Rattle.std.specs.Prelude.{slice_get}
use Rattle.std.proofs.Common.{◌≡◌, true, false, List, [], ◌∷◌, drop, refl, ap}
use Rattle.beat_core.specs.Ports.{Offered}
use Rattle.net_core.specs.Trace.{Cycle}
use Rattle.realization.specs.History.{drive_inputs, left_after, inputs_with}

pub inputs_are : (left : List Offered) → inputs_with (slice_get left 0) ≡ drive_inputs left
inputs_are [] = refl
inputs_are (o ∷ os) = refl

-- what is shown is taken
pub takes_out : (left : List Offered) → (drive_inputs left).out_ready ≡ true
takes_out [] = refl
takes_out (o ∷ os) = refl

pub left_gone : (m : Cycle) (left : List Offered) → m.given ≡ drive_inputs left → m.shown.in_ready ≡ true → left_after m left ≡ drop 1 left
left_gone m [] g r = refl
left_gone m (o ∷ os) g r =
    let v : m.given.in_valid ≡ true = ap (λ i. i.in_valid) g in
    rw (r, v) refl

pub left_stays : (m : Cycle) (left : List Offered) → m.shown.in_ready ≡ false → left_after m left ≡ left
left_stays m [] r = refl
left_stays m (o ∷ os) r = rw r refl
