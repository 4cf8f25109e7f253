-- What a turn makes of a drive of packets.
use Rattle.std.specs.Prelude.{if◌then◌else◌, IfSome}
use Rattle.std.proofs.Common.{◌≡◌, ℕ, ◌+◌, ◌-◌, ◌<◌, Option, Result, Ok, Err, List, [], ◌∷◌, ◌++◌, length, take, refl, sym, ap, ◌∙◌, subst, arith}
use Rattle.std.proofs.lemmas.List.{length-append}
use Rattle.beat_core.specs.declared.frame.Timed.{Timed}
use Rattle.beat_core.specs.declared.answer.Answer.{Answer}
use Rattle.net_core.specs.Nets.{Netlist}
use Rattle.net_core.specs.Clock.{Stored}
use Rattle.net_core.specs.Trace.{Cycle, stored_after}
use Rattle.clock_sim.specs.declared.sim.XValue.{XValue}
use Rattle.realization.specs.History.{answers_given}
use Rattle.port_drive.specs.declared.report.DriveError.{DriveError}
use Rattle.port_drive.specs.declared.report.DriveError.TheVariants.{X, Late}
use Rattle.port_drive.specs.declared.turn.Turn.{Turn}
use Rattle.port_drive.specs.declared.turn.Turn.TheVariants.{Need, Done, Over}
use Rattle.port_drive.specs.Reports.{full_drive, given_in, Reports}
use Rattle.port_drive.specs.Driving.{Driving, Fits, TurnOf, Turns}
use Rattle.port_drive.specs.Giving.{to_come, GivesOn}
use Rattle.port_drive.proofs.DriveLaws.{Driven, driven_more, driven_on, driven_answer, driven_late, driven_stopped}

-- what a drive that ended with an error answers
pub record Fails (d : Netlist) (first s : Stored) (packets : List Timed) (before answers : List Answer) (ifindex limit : ℕ) (e : DriveError) : Type 0 where
  pub reports : Reports (full_drive d ifindex first packets limit) (length packets) (Err e)
  pub told : answers ≡ before ++ answers_given [] (full_drive d ifindex first packets limit).trace
  pub stored : s ≡ stored_after d first (given_in (full_drive d ifindex first packets limit).trace)

pub turns_as : (v w : Driving) (d0 d : Netlist) (s s' : Stored) (r r' : Result Turn DriveError) → d0 ≡ d → r ≡ r' → Turns v w d0 s s' r → Turns v w d s s' r'
turns_as v w d0 d s s' r r' e f t = subst (λ q. Turns v w d s s' q) f (subst (λ n. Turns v w n s s' r) e t)

module _ (d : Netlist) (first s s' : Stored) (packets : List Timed) (before answers : List Answer) (ifindex limit : ℕ) (v w : Driving) (h : Driven d first s packets before answers ifindex limit v) (less : v.answers < length packets)
    (same : (w.ifindex ≡ v.ifindex) × (w.limit ≡ v.limit) × (w.given ≡ v.given) × (w.ended ≡ v.ended)) where
  -- a turn that gave no answer
  pub on_none : (ms : List Cycle) → ((packets : List Timed) (before : List Cycle) → Fits v d first s packets before → Fits w d first s' packets (before ++ ms)) → answers_given v.begun ms ≡ [] → Driven d first s' packets before answers ifindex limit w
  on_none ms fits none = driven_on d first s packets before answers ifindex limit v h w s' ms (fits (take v.given packets) h.clocks h.fits) none same.0 same.1 same.2 same.3 less

  same_count : Driven d first s' packets before answers ifindex limit w → w.answers ≡ v.answers
  same_count k = omega (arith, h.fits.answers, k.fits.answers, ap length h.told, ap length k.told, length-append before (answers_given [] h.clocks), length-append before (answers_given [] k.clocks))

  pub on_need : TurnOf v w d s s' (Ok Need) → Driven d first s' packets before answers ifindex limit w × (w.answers ≡ v.answers)
  on_need t =
      let k = on_none t.clocks (t.fits first) t.ends.0 in
      (k, same_count k)

  pub never_over : TurnOf v w d s s' (Ok Over) → ⊥
  never_over t =
      let k = on_none t.clocks (t.fits first) t.ends.0 in
      let all : w.given ≡ length packets = k.all t.ends.1.0 in
      omega (arith, t.ends.1.1, all, same_count k, less)

  pub on_done : (added : List Answer) (last : Option Answer) → last ≡ w.last → IfSome last (λ answer. added ≡ answers ++ answer ∷ []) → TurnOf v w d s s' (Ok Done) → Driven d first s' packets before added ifindex limit w × (w.answers ≡ v.answers + 1)
  on_done added last is more t =
      let answer = t.ends.0 in
      let all : added ≡ answers ++ answer ∷ [] = subst (λ o. IfSome o (λ a. added ≡ answers ++ a ∷ [])) (is ∙ t.ends.1) more in
      let k : Driven d first s' packets before added ifindex limit w =
      subst (λ l. Driven d first s' packets before l ifindex limit w) (sym all) (driven_answer d first s packets before answers ifindex limit v h w s' t.clocks answer (t.fits first (take v.given packets) h.clocks h.fits) t.ends.2 t.ends.1 same.0 same.1 same.2 same.3 less) in (
        k,
        omega (arith, h.fits.answers, k.fits.answers, ap length h.told, ap length k.told, ap length all, length-append answers (answer ∷ []), length-append before (answers_given [] h.clocks), length-append before (answers_given [] k.clocks)),
      )

  pub on_late : (some given clocks : ℕ) → TurnOf v w d s s' (Err (Late some given clocks)) → Fails d first s' packets before answers ifindex limit (Late some (length packets) clocks)
  on_late some given clocks t =
      let k = on_none t.clocks (t.fits first) t.ends.0 in
      let f = driven_late d first s' packets before answers ifindex limit w k (t.ends.2 ∙ k.limit_is) (omega (arith, same_count k, less)) in
      record { reports = (f.ended, t.ends.3 ∙ f.number, refl, t.ends.5 ∙ sym t.ends.2 ∙ f.count); told = f.given; stored = f.stored }

  pub on_stop : (x : XValue) → TurnOf v w d s s' (Err (X x)) → Fails d first s' packets before answers ifindex limit (X x)
  on_stop x t =
      let k = on_none t.clocks (t.fits first) t.ends.0 in
      let f = driven_stopped d first s' packets before answers ifindex limit w k (omega (arith, t.ends.2, k.limit_is)) (omega (arith, same_count k, less)) t.ends.1 x.net t.ends.3 in
      record { reports = (f.wire, f.ends.ended, f.is); told = f.ends.given; stored = f.ends.stored }

  -- and what is left to do
  same_to_come : to_come (length packets) w ≡ to_come (length packets) v
  same_to_come = ap (λ n. length packets - n + (if w.ended then 0 else 1)) same.2 ∙ ap (λ b. length packets - v.given + (if b then 0 else 1)) same.3

  pub fewer_done : w.answers ≡ v.answers + 1 → to_come (length packets) w + (length packets - w.answers) < to_come (length packets) v + (length packets - v.answers)
  fewer_done count = sums (to_come (length packets) w) (to_come (length packets) v) (length packets) v.answers w.answers same_to_come count less
    where
      sums : (m n all a b : ℕ) → m ≡ n → b ≡ a + 1 → a < all → m + (all - b) < n + (all - a)
      sums m n all a b e f lt = omega arith

  pub fewer_given : (u : Driving) → GivesOn packets w u → w.answers ≡ v.answers → to_come (length packets) u + (length packets - u.answers) < to_come (length packets) v + (length packets - v.answers)
  fewer_given u g count = sums (to_come (length packets) u) (to_come (length packets) w) (to_come (length packets) v) (length packets) v.answers u.answers g.less same_to_come (g.answers ∙ count)
    where
      sums : (k m n all a b : ℕ) → k < m → m ≡ n → b ≡ a → k + (all - b) < n + (all - a)
      sums k m n all a b lt e f = omega arith

  pub on_given : (u : Driving) → Driven d first s' packets before answers ifindex limit w → GivesOn packets w u → Driven d first s' packets before answers ifindex limit u
  on_given u k g = driven_more d first s' packets before answers ifindex limit w k u (g.fits d first s' k.clocks k.fits) g.given g.all g.answers g.ifindex g.limit
