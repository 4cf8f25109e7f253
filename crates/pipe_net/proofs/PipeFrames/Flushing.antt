-- Packets in places: how many there are, once some are sent back and once all have moved on.
use Rattle.std.specs.Prelude.{◌≡◌, ℕ, zero, suc, ◌+◌, ◌≤◌, nat_lt, if◌then◌else◌, Option, Some, None, is_some, List, [], ◌∷◌, map}
use Rattle.std.specs.Option.{option_map}
use Rattle.std.proofs.Common.{get_or, refl, arith}
use Rattle.beat_core.specs.Ports.{Arrival}
use Rattle.hazard_core.specs.cell_core.Cells.{bit}
use Rattle.hazard_core.specs.Tables.{TableState}
use Rattle.hazard_core.specs.declared.change.Change.{Change}
use Rattle.pipe_core.specs.Machine.{Packet, Build, place_at, inside, no_frame, marked_by, marked_below, enters, moved}
use Rattle.control_net.specs.RingNet.Control.{packets}
use Rattle.control_net.specs.Control.{shifted}
use Rattle.pipe_net.proofs.PipeFrames.Cases.{by_bool}

pub first_inside : (x : Option Packet) (ys : List (Option Packet)) → inside (x ∷ ys) ≡ bit (is_some x) + inside ys
first_inside None ys = omega arith
first_inside (Some x) ys = omega arith

pub packets_inside : (xs : List (Option Packet)) → packets (map is_some xs) ≡ inside xs
packets_inside [] = refl
packets_inside (x ∷ xs) = let h = packets_inside xs in let f = first_inside x xs in omega (arith, h, f)

pub leaves_inside : (xs : List (Option Packet)) (k : ℕ) → bit (is_some (place_at xs k)) ≤ inside xs
leaves_inside [] k = omega arith
leaves_inside (None ∷ xs) zero = omega arith
leaves_inside (Some x ∷ xs) zero = omega arith
leaves_inside (None ∷ xs) (suc k) = leaves_inside xs k
leaves_inside (Some x ∷ xs) (suc k) = let h = leaves_inside xs k in omega (arith, h)

-- ---- marks change nothing of this, and moving on shifts it
marked_by_some : (b : Build) (t : TableState) (k : ℕ) (e : Change) (x : Option Packet) → is_some (option_map (marked_by b t k e) x) ≡ is_some x
marked_by_some b t k e None = refl
marked_by_some b t k e (Some x) = refl

pub marked_by_holds : (to : ℕ) (b : Build) (t : TableState) (e : Change) (k : ℕ) (xs : List (Option Packet)) → map is_some (marked_below to b t e k xs) ≡ map is_some xs
marked_by_holds to b t e k [] = refl
marked_by_holds to b t e k (x ∷ xs) =
    let one = by_bool (λ q. is_some (if q then option_map (marked_by b t k e) x else x) ≡ is_some x) (nat_lt k to) (marked_by_some b t k e x) refl in
    let rest = marked_by_holds to b t e (suc k) xs in
    λ i. one i ∷ rest i

enters_some : (b : Build) (t : TableState) (k : ℕ) (c : Arrival) (x : Option Packet) → is_some (enters b t k c x) ≡ is_some x
enters_some b t k c None = refl
enters_some b t k c (Some x) = refl

pub moved_holds : (b : Build) (t : TableState) (fs : List Arrival) (k : ℕ) (x : Option Packet) (ys : List (Option Packet)) → map is_some (moved b t fs k x ys) ≡ shifted (is_some x) (map is_some ys)
moved_holds b t fs k x [] = refl
moved_holds b t fs k x (y ∷ ys) =
    let one = enters_some b t k (get_or fs (inside (y ∷ ys)) no_frame) x in
    let rest = moved_holds b t fs (suc k) y ys in
    λ i. one i ∷ rest i
