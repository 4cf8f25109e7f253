-- A design driven by packets of which those that were not given may be others.
use Rattle.std.proofs.Common.{◌≡◌, ℕ, zero, suc, ◌+◌, ◌-◌, ◌<◌, ◌≤◌, true, false, Option, Some, Ok, Err, List, [], ◌∷◌, ◌++◌, length, take, replicate, refl, sym, ◌∙◌, subst, arith}
use Rattle.std.specs.Prelude.{IfSome, set}
use Rattle.std.specs.List.{AllByRecursion}
use Rattle.std.proofs.lemmas.List.{length-replicate, take-set, get_or-set_same, length-set}
use Rattle.list_laws.specs.Bytes.{IsBytes}
use Rattle.beat_core.specs.declared.frame.Timed.{Timed}
use Rattle.beat_core.specs.declared.frame.TheConstants.{FRAME_LIMIT}
use Rattle.beat_core.specs.declared.answer.Answer.{Answer}
use Rattle.net_core.specs.Nets.{Netlist}
use Rattle.net_core.specs.Clock.{Stored}
use Rattle.net_core.specs.Trace.{Cycle}
use Rattle.realization.specs.History.{answers_given}
use Rattle.port_drive.specs.declared.report.DriveError.{DriveError}
use Rattle.port_drive.specs.declared.report.DriveError.TheVariants as drive_error
use Rattle.port_drive.specs.declared.turn.Turn.TheVariants.{Need, Done, Over}
use Rattle.port_drive.specs.Reports.{full_drive}
use Rattle.port_drive.specs.Driving.{Driving, undriven, with_packet, AreOwed, Fits, IsDue, TurnOf, Turns}
use Rattle.port_drive.specs.Giving.{to_come}
use Rattle.port_drive.proofs.DriveLaws.{Driven, driven_from, driven_done, driven_prefix}
use Rattle.port_drive.proofs.DriveTurnLaws.{on_need, on_given, never_over, on_done, on_late, on_stop, fewer_done, fewer_given}
use Rattle.port_drive.proofs.GivingLaws.{FitsWith, given_on, ended_on}
use Rattle.port_drive.proofs.OutgrownLaws.{HasOutgrown, outgrown_one, outgrown}
use Rattle.capture_run.specs.Runs.{IsLegal, EndsAs, DrivesSome}
use Rattle.capture_run.specs.Driving.{GivesSome, IsOfShelf, run_error}
use Rattle.capture_run.specs.declared.records.CaptureError.{CaptureError}
use Rattle.capture_run.specs.declared.error.RunError.{RunError}
use Rattle.capture_run.specs.declared.error.RunError.TheVariants.{Capture, Unwritten, X, Late, NoMemory}

-- ---- packets that may be others
-- a drive so far knows nothing of packets that were not given
pub driven_as : (d : Netlist) (first s : Stored) (packets others : List Timed) (before answers : List Answer) (ifindex limit : ℕ) (v : Driving) → Driven d first s packets before answers ifindex limit v → length others ≡ length packets → take v.given others ≡ take v.given packets → Driven d first s others before answers ifindex limit v
driven_as d first s packets others before answers ifindex limit v h count same = record {
  clocks = h.clocks;
  fits = subst (λ l. Fits v d first s l h.clocks) (sym same) h.fits;
  owed = subst (λ n. AreOwed n h.clocks) (sym count) h.owed;
  given = omega (arith, h.given);
  all = λ e. h.all e ∙ sym count;
  few = omega (arith, h.few);
  told = h.told;
  ifindex_is = h.ifindex_is;
  limit_is = h.limit_is;
}

all_set : (packets : List Timed) (i : ℕ) (p : Timed) → AllByRecursion IsLegal packets → IsLegal p → AllByRecursion IsLegal (set packets i p)
all_set [] i p all legal = tt
all_set (q ∷ packets) zero p all legal = (legal, all.1)
all_set (q ∷ packets) (suc i) p all legal = (all.0, all_set packets i p all.1 legal)

-- the packet that was given takes the place of the next one
pub gives_some : (packets : List Timed) (old new : Driving) (p : Timed) → new ≡ with_packet old p → IsLegal p → old.given < length packets → old.ended ≡ false → FitsWith old new (p ∷ []) → AllByRecursion IsLegal packets → GivesSome packets old new
gives_some packets old new p is legal less goes fits all =
    let count : length (set packets old.given p) ≡ length packets = length-set packets old.given p in
    record {
      others = set packets old.given p;
      legal = all_set packets old.given p all legal;
      count = count;
      same = take-set packets old.given p;
      gives = given_on (set packets old.given p) old new p is (sym (get_or-set_same packets old.given p p less)) (omega (arith, count)) goes fits;
    }

-- none comes
pub ends_some : (packets : List Timed) (old new : Driving) → new ≡ record old { ended = true } → old.given ≡ length packets → old.ended ≡ false → ((d : Netlist) (first s : Stored) (packets : List Timed) (ms : List Cycle) → Fits old d first s packets ms → Fits new d first s packets ms) → AllByRecursion IsLegal packets → GivesSome packets old new
ends_some packets old new is all goes fits legal = record {
  others = packets;
  legal = legal;
  count = refl;
  same = refl;
  gives = ended_on packets old new is all goes fits;
}

-- ---- an error of a turn
-- it ends the full drive of the packets
pub turn_ends : (d : Netlist) (first s s' : Stored) (packets : List Timed) (answers : List Answer) (ifindex limit count : ℕ) (v w : Driving) → Driven d first s packets [] answers ifindex limit v → length packets ≡ count → v.answers < count
    → (w.ifindex ≡ v.ifindex) × (w.limit ≡ v.limit) × (w.given ≡ v.given) × (w.ended ≡ v.ended) → (e : DriveError) → Turns v w d s s' (Err e) → EndsAs (Err (run_error e count)) (full_drive d ifindex first packets limit) count
turn_ends d first s s' packets answers ifindex limit count v w h all less same (drive_error.X x) t =
    (on_stop d first s s' packets [] answers ifindex limit v w h (omega arith) same x t).reports
turn_ends d first s s' packets answers ifindex limit count v w h all less same (drive_error.Late some given clocks) t =
    let f = on_late d first s s' packets [] answers ifindex limit v w h (omega arith) same some given clocks t in
    (f.reports.0, f.reports.1, refl)
turn_ends d first s s' packets answers ifindex limit count v w h all less same drive_error.NoMemory t = λ answered.
    let g = outgrown d first s packets answers ifindex limit v h (omega arith) s' t answered in
    (g.answer, g.one, g.longer)

-- ---- what holds between two turns
pub record DrivenBySome (d : Netlist) (first s : Stored) (ifindex limit count : ℕ) (v : Driving) : Type 0 where
  pub packets : List Timed
  pub legal : AllByRecursion IsLegal packets
  pub many : length packets ≡ count
  pub answers : List Answer
  pub driven : Driven d first s packets [] answers ifindex limit v

-- before the first packet any will do
abbrev any_packet : Timed
any_packet = record { frame = 0 ∷ []; time = 0 }

any_legal : IsLegal any_packet
any_legal = (record { bytes = all_bytes; some = omega arith; room = omega arith }, omega arith)
  where
    all_bytes : IsBytes (0 ∷ [])
    all_bytes zero = omega arith
    all_bytes (suc i) = omega arith

all_any : (n : ℕ) → AllByRecursion IsLegal (replicate n any_packet)
all_any zero = tt
all_any (suc n) = (any_legal, all_any n)

pub driven_at_first : (d : Netlist) (s : Stored) (ifindex limit count : ℕ) (v : Driving) → v ≡ undriven ifindex limit → DrivenBySome d s s ifindex limit count v
driven_at_first d s ifindex limit count v e = record {
  packets = replicate count any_packet;
  legal = all_any count;
  many = length-replicate count any_packet;
  answers = [];
  driven = driven_from d s (replicate count any_packet) [] ifindex limit v e;
}

pub longer_at : (last : Option Answer) (answer : Answer) → last ≡ Some answer → IfSome last (λ a. FRAME_LIMIT < length a.frame) → FRAME_LIMIT < length answer.frame
longer_at last answer is longer = let P : Option Answer → Type 0 = λ o. IfSome o (λ a. FRAME_LIMIT < length a.frame) in subst P is longer

capture_memory : (fault : CaptureError) → Capture fault ≡ NoMemory → ⊥
capture_memory fault e = cc

-- what is left to do
abbrev pub to_do : ℕ → Driving → ℕ
to_do count v = to_come count v + (count - v.answers)

module _ (d : Netlist) (first s : Stored) (ifindex limit count : ℕ) (v : Driving) (h : DrivenBySome d first s ifindex limit count v) where
  -- ---- the end
  pub some_done : v.clocks ≤ v.limit → v.answers ≡ count → (u : Unit {0}) → DrivesSome d ifindex limit count first s (Ok u)
  some_done within all u =
      let f = driven_done d first s h.packets [] h.answers ifindex limit v h.driven (omega (arith, h.driven.limit_is)) (all ∙ sym h.many) in
      record { packets = h.packets; legal = h.legal; many = h.many; ends = f.ended; leaves = f.stored }

  -- an error of the shelf's
  pub some_failed : (e : RunError) (last : Stored) → IsOfShelf e → (e ≡ NoMemory → HasOutgrown (answers_given [] (full_drive d ifindex first h.packets limit).trace)) → DrivesSome d ifindex limit count first last (Err e)
  some_failed e last of grown = record { packets = h.packets; legal = h.legal; many = h.many; ends = by_error e of grown; leaves = tt }
    where
      by_error : (e : RunError) → IsOfShelf e → (e ≡ NoMemory → HasOutgrown (answers_given [] (full_drive d ifindex first h.packets limit).trace)) → EndsAs (Err e) (full_drive d ifindex first h.packets limit) count
      by_error (Capture fault) of grown = tt
      by_error Unwritten of grown = tt
      by_error NoMemory of grown = λ answered. let g = grown refl in (g.answer, g.one, g.longer)
      by_error (X x) of grown = absurd of
      by_error (Late answers frames) of grown = absurd of

  pub some_not_given : (e : RunError) (last : Stored) → (fault : CaptureError) × (e ≡ Capture fault) → DrivesSome d ifindex limit count first last (Err e)
  some_not_given e last is = subst (λ x. DrivesSome d ifindex limit count first last (Err x)) (sym is.1) (some_failed (Capture is.0) last tt (λ no. absurd (capture_memory is.0 no)))

  module _ (s' : Stored) (w : Driving) (less : v.answers < count) (same : (w.ifindex ≡ v.ifindex) × (w.limit ≡ v.limit) × (w.given ≡ v.given) × (w.ended ≡ v.ended)) where
    fewer : v.answers < length h.packets
    fewer = omega (arith, h.many)

    -- ---- a turn
    pub some_over : TurnOf v w d s s' (Ok Over) → ⊥
    some_over t = never_over d first s s' h.packets [] h.answers ifindex limit v w h.driven fewer same t

    pub some_needs : TurnOf v w d s s' (Ok Need) → IsDue (Some Need) w × (w.given ≤ count) × (w.answers < count)
    some_needs t =
        let k = on_need d first s s' h.packets [] h.answers ifindex limit v w h.driven fewer same t in
        (t.ends.1, omega (arith, k.0.given, h.many), omega (arith, k.1))

    module _ (t : TurnOf v w d s s' (Ok Need)) (u : Driving) (g : GivesSome h.packets w u) where
      others_driven : Driven d first s g.others [] h.answers ifindex limit v
      others_driven = driven_as d first s h.packets g.others [] h.answers ifindex limit v h.driven g.count (subst (λ n. take n g.others ≡ take n h.packets) same.2 g.same)

      others_fewer : v.answers < length g.others
      others_fewer = omega (arith, h.many, g.count)

      pub some_given : DrivenBySome d first s' ifindex limit count u
      some_given =
          let k = on_need d first s s' g.others [] h.answers ifindex limit v w others_driven others_fewer same t in
          record {
            packets = g.others;
            legal = g.legal;
            many = g.count ∙ h.many;
            answers = h.answers;
            driven = on_given d first s s' g.others [] h.answers ifindex limit v w others_driven others_fewer same u k.0 g.gives;
          }

      pub less_given : to_do count u < to_do count v
      less_given =
          let k = on_need d first s s' g.others [] h.answers ifindex limit v w others_driven others_fewer same t in
          subst (λ n. to_come n u + (n - u.answers) < to_come n v + (n - v.answers)) (g.count ∙ h.many) (fewer_given d first s s' g.others [] h.answers ifindex limit v w others_driven others_fewer same u g.gives k.1)

    module _ (t : TurnOf v w d s s' (Ok Done)) where
      answered : Driven d first s' h.packets [] (h.answers ++ t.ends.0 ∷ []) ifindex limit w × (w.answers ≡ v.answers + 1)
      answered = on_done d first s s' h.packets [] h.answers ifindex limit v w h.driven fewer same (h.answers ++ t.ends.0 ∷ []) (Some t.ends.0) (sym t.ends.1) refl t

      pub some_answered : DrivenBySome d first s' ifindex limit count w × (w.answers ≡ v.answers + 1)
      some_answered = (record { packets = h.packets; legal = h.legal; many = h.many; answers = h.answers ++ t.ends.0 ∷ []; driven = answered.0 }, answered.1)

      pub less_answered : to_do count w < to_do count v
      less_answered = subst (λ n. to_come n w + (n - w.answers) < to_come n v + (n - v.answers)) h.many (fewer_done d first s s' h.packets [] h.answers ifindex limit v w h.driven fewer same answered.1)

      -- the answer has outgrown a frame
      pub some_longer : w.clocks ≤ w.limit → FRAME_LIMIT < length t.ends.0.frame → HasOutgrown (answers_given [] (full_drive d ifindex first h.packets limit).trace)
      some_longer within longer = outgrown_one h.answers (answers_given [] (full_drive d ifindex first h.packets limit).trace) t.ends.0 (driven_prefix d first s' h.packets [] (h.answers ++ t.ends.0 ∷ []) ifindex limit w answered.0 (omega (arith, answered.0.limit_is))) longer

      pub some_unwritten : (e : RunError) (last : Stored) → IsOfShelf e → w.clocks ≤ w.limit → (e ≡ NoMemory → IfSome w.last (λ answer. FRAME_LIMIT < length answer.frame)) → DrivesSome d ifindex limit count first last (Err e)
      some_unwritten e last of within longer = some_failed e last of (λ is. some_longer within (longer_at w.last t.ends.0 t.ends.1 (longer is)))

    -- an error of the drive
    pub some_stopped : (e : DriveError) → Turns v w d s s' (Err e) → DrivesSome d ifindex limit count first s' (Err (run_error e count))
    some_stopped e t = record { packets = h.packets; legal = h.legal; many = h.many; ends = turn_ends d first s s' h.packets h.answers ifindex limit count v w h.driven h.many less same e t; leaves = tt }
