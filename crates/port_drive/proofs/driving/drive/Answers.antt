use Rattle.std.proofs.Common.{◌≡◌, ◌<◌, ◌≤◌, ◌+◌, ◌++◌, ◌∷◌, [], length, Ok, Err, refl, sym, ap, ◌∙◌, subst, arith, rules}
use Rattle.std.specs.Prelude.{IfSome}
use Rattle.realization.specs.History.{answers_given}
use Rattle.port_drive.specs.declared.report.DriveError.TheVariants.{X, Late}
use Rattle.port_drive.specs.declared.turn.Turn.TheVariants.{Need, Done, Over}
use Rattle.port_drive.specs.Reports.{full_drive, GivesFirst}
use Rattle.port_drive.specs.Driving.{TurnOf}
use Rattle.port_drive.proofs.DriveLaws.{driven_from, driven_done, driven_prefix}
use Rattle.port_drive.proofs.DriveTurnLaws.{turns_as, on_need, on_given, never_over, on_done, on_late, on_stop, fewer_done, fewer_given}
use Rattle.port_drive.proofs.driving.drive.Goals as goal

pub loop-answers-init : goal.loop-answers-init
loop-answers-init g c = record {
  netlist = refl;
  driven = driven_from (g.C.Clocked.netlist c.args.sim.now) (g.C.Clocked.stored c.args.sim.now) c.args.frames.now c.args.answers.now c.args.ifindex c.args.limit c.in-Ok.driver c.in-Ok.ensures.view;
}

pub returns-then-answers-frames-clause-reports : goal.returns-then-answers-frames-clause-reports
returns-then-answers-frames-clause-reports g c =
    let d = g.C.Clocked.netlist c.args.sim.now in
    let first = g.C.Clocked.stored c.args.sim.now in
    let s = g.C.Clocked.stored c.loop-answers.sim in
    let packets = c.args.frames.now in
    let before = c.args.answers.now in
    let v = c.loop-answers.driver in
    let h = c.loop-answers.invariant.driven in
    let within : v.clocks ≤ c.args.limit = omega (arith, c.report-report.ensures.within, h.limit_is) in
    let all : v.answers ≡ length packets = sym c.answers.ensures ∙ c.if-answers-frames.true in
    let f = driven_done d first s packets before c.loop-answers.answers c.args.ifindex c.args.limit v h within all in
    (f.ended, c.report-report.ensures.clocks ∙ f.count, c.report-report.ensures.reloads ∙ f.back)

pub returns-then-answers-frames-clause-answers : goal.returns-then-answers-frames-clause-answers
returns-then-answers-frames-clause-answers g c =
    let d = g.C.Clocked.netlist c.args.sim.now in
    let first = g.C.Clocked.stored c.args.sim.now in
    let s = g.C.Clocked.stored c.loop-answers.sim in
    let packets = c.args.frames.now in
    let before = c.args.answers.now in
    let v = c.loop-answers.driver in
    let h = c.loop-answers.invariant.driven in
    let within : v.clocks ≤ c.args.limit = omega (arith, c.report-report.ensures.within, h.limit_is) in
    let all : v.answers ≡ length packets = sym c.answers.ensures ∙ c.if-answers-frames.true in
    let f = driven_done d first s packets before c.loop-answers.answers c.args.ifindex c.args.limit v h within all in
    f.given

pub returns-then-answers-frames-clause-stored : goal.returns-then-answers-frames-clause-stored
returns-then-answers-frames-clause-stored g c =
    let d = g.C.Clocked.netlist c.args.sim.now in
    let first = g.C.Clocked.stored c.args.sim.now in
    let s = g.C.Clocked.stored c.loop-answers.sim in
    let packets = c.args.frames.now in
    let before = c.args.answers.now in
    let v = c.loop-answers.driver in
    let h = c.loop-answers.invariant.driven in
    let within : v.clocks ≤ c.args.limit = omega (arith, c.report-report.ensures.within, h.limit_is) in
    let all : v.answers ≡ length packets = sym c.answers.ensures ∙ c.if-answers-frames.true in
    let f = driven_done d first s packets before c.loop-answers.answers c.args.ifindex c.args.limit v h within all in
    f.stored

pub give_next-requires-clause-few : goal.give_next-requires-clause-few
give_next-requires-clause-few g c =
    let d = g.C.Clocked.netlist c.args.sim.now in
    let first = g.C.Clocked.stored c.args.sim.now in
    let s = g.C.Clocked.stored c.loop-answers.sim in
    let packets = c.args.frames.now in
    let before = c.args.answers.now in
    let v = c.loop-answers.driver in
    let h = c.loop-answers.invariant.driven in
    let s' = g.C.Clocked.stored c.turn.new.sim in
    let w = c.turn.new.self in
    let less : v.answers < length packets = omega (arith, h.few, c.answers.ensures, c.if-answers-frames.false) in
    let turn : TurnOf v w d s s' (Ok Need) = turns_as v w _ d s s' c.turn.result (Ok Need) c.loop-answers.invariant.netlist (c.in-Ok-Need.is ∙ ap (λ t. Ok t) c.in-Ok-Need.field-0-is) c.turn.ensures.turn in
    let k = on_need d first s s' packets before c.loop-answers.answers c.args.ifindex c.args.limit v w h less c.in-Ok-Need.ensures.same turn in
    omega (arith, k.1, less)

pub loop-answers-smaller-in-Ok-Need : goal.loop-answers-smaller-in-Ok-Need
loop-answers-smaller-in-Ok-Need g c =
    let d = g.C.Clocked.netlist c.args.sim.now in
    let first = g.C.Clocked.stored c.args.sim.now in
    let s = g.C.Clocked.stored c.loop-answers.sim in
    let packets = c.args.frames.now in
    let before = c.args.answers.now in
    let v = c.loop-answers.driver in
    let h = c.loop-answers.invariant.driven in
    let s' = g.C.Clocked.stored c.turn.new.sim in
    let w = c.turn.new.self in
    let less : v.answers < length packets = omega (arith, h.few, c.answers.ensures, c.if-answers-frames.false) in
    let turn : TurnOf v w d s s' (Ok Need) = turns_as v w _ d s s' c.turn.result (Ok Need) c.loop-answers.invariant.netlist (c.in-Ok-Need.is ∙ ap (λ t. Ok t) c.in-Ok-Need.field-0-is) c.turn.ensures.turn in
    let k = on_need d first s s' packets before c.loop-answers.answers c.args.ifindex c.args.limit v w h less c.in-Ok-Need.ensures.same turn in
    fewer_given d first s s' packets before c.loop-answers.answers c.args.ifindex c.args.limit v w h less c.in-Ok-Need.ensures.same c.give_next.new.driver c.give_next.ensures k.1

pub loop-answers-preserved-in-Ok-Need : goal.loop-answers-preserved-in-Ok-Need
loop-answers-preserved-in-Ok-Need g c =
    let d = g.C.Clocked.netlist c.args.sim.now in
    let first = g.C.Clocked.stored c.args.sim.now in
    let s = g.C.Clocked.stored c.loop-answers.sim in
    let packets = c.args.frames.now in
    let before = c.args.answers.now in
    let v = c.loop-answers.driver in
    let h = c.loop-answers.invariant.driven in
    let s' = g.C.Clocked.stored c.turn.new.sim in
    let w = c.turn.new.self in
    let less : v.answers < length packets = omega (arith, h.few, c.answers.ensures, c.if-answers-frames.false) in
    let turn : TurnOf v w d s s' (Ok Need) = turns_as v w _ d s s' c.turn.result (Ok Need) c.loop-answers.invariant.netlist (c.in-Ok-Need.is ∙ ap (λ t. Ok t) c.in-Ok-Need.field-0-is) c.turn.ensures.turn in
    let k = on_need d first s s' packets before c.loop-answers.answers c.args.ifindex c.args.limit v w h less c.in-Ok-Need.ensures.same turn in
    record {
      netlist = c.in-Ok-Need.ensures.netlist ∙ c.loop-answers.invariant.netlist;
      driven = on_given d first s s' packets before c.loop-answers.answers c.args.ifindex c.args.limit v w h less c.in-Ok-Need.ensures.same c.give_next.new.driver k.0 c.give_next.ensures;
    }

pub returns-then-is_err-clause-answers : goal.returns-then-is_err-clause-answers
returns-then-is_err-clause-answers g c =
    let d = g.C.Clocked.netlist c.args.sim.now in
    let first = g.C.Clocked.stored c.args.sim.now in
    let s = g.C.Clocked.stored c.loop-answers.sim in
    let packets = c.args.frames.now in
    let before = c.args.answers.now in
    let v = c.loop-answers.driver in
    let h = c.loop-answers.invariant.driven in
    let within : v.clocks ≤ c.args.limit = omega (arith, c.report-report.ensures.within, h.limit_is) in
    let kept : c.push_copy.new.answers ≡ c.loop-answers.answers = search rules in
    subst (λ l. GivesFirst before l (answers_given [] (full_drive d c.args.ifindex first packets c.args.limit).trace)) (sym kept) (driven_prefix d first s packets before c.loop-answers.answers c.args.ifindex c.args.limit v h within)

pub loop-answers-smaller : goal.loop-answers-smaller
loop-answers-smaller g c =
    let d = g.C.Clocked.netlist c.args.sim.now in
    let first = g.C.Clocked.stored c.args.sim.now in
    let s = g.C.Clocked.stored c.loop-answers.sim in
    let packets = c.args.frames.now in
    let before = c.args.answers.now in
    let v = c.loop-answers.driver in
    let h = c.loop-answers.invariant.driven in
    let s' = g.C.Clocked.stored c.turn.new.sim in
    let w = c.turn.new.self in
    let less : v.answers < length packets = omega (arith, h.few, c.answers.ensures, c.if-answers-frames.false) in
    let turn : TurnOf v w d s s' (Ok Done) = turns_as v w _ d s s' c.turn.result (Ok Done) c.loop-answers.invariant.netlist (c.in-Ok-Done.is ∙ ap (λ t. Ok t) c.in-Ok-Done.field-0-is) c.turn.ensures.turn in
    let more : IfSome c.answer.result.now.last (λ answer. c.push_copy.new.answers ≡ c.loop-answers.answers ++ answer ∷ []) = search rules in
    let k = on_done d first s s' packets before c.loop-answers.answers c.args.ifindex c.args.limit v w h less c.in-Ok-Done.ensures.same c.push_copy.new.answers c.answer.result.now.last c.answer.ensures.last more turn in
    fewer_done d first s s' packets before c.loop-answers.answers c.args.ifindex c.args.limit v w h less c.in-Ok-Done.ensures.same k.1

pub loop-answers-preserved : goal.loop-answers-preserved
loop-answers-preserved g c =
    let d = g.C.Clocked.netlist c.args.sim.now in
    let first = g.C.Clocked.stored c.args.sim.now in
    let s = g.C.Clocked.stored c.loop-answers.sim in
    let packets = c.args.frames.now in
    let before = c.args.answers.now in
    let v = c.loop-answers.driver in
    let h = c.loop-answers.invariant.driven in
    let s' = g.C.Clocked.stored c.turn.new.sim in
    let w = c.turn.new.self in
    let less : v.answers < length packets = omega (arith, h.few, c.answers.ensures, c.if-answers-frames.false) in
    let turn : TurnOf v w d s s' (Ok Done) = turns_as v w _ d s s' c.turn.result (Ok Done) c.loop-answers.invariant.netlist (c.in-Ok-Done.is ∙ ap (λ t. Ok t) c.in-Ok-Done.field-0-is) c.turn.ensures.turn in
    let more : IfSome c.answer.result.now.last (λ answer. c.push_copy.new.answers ≡ c.loop-answers.answers ++ answer ∷ []) = search rules in
    let k = on_done d first s s' packets before c.loop-answers.answers c.args.ifindex c.args.limit v w h less c.in-Ok-Done.ensures.same c.push_copy.new.answers c.answer.result.now.last c.answer.ensures.last more turn in
    record { netlist = c.in-Ok-Done.ensures.netlist ∙ c.loop-answers.invariant.netlist; driven = k.0 }

pub unreachable-requires : goal.unreachable-requires
unreachable-requires g c =
    let d = g.C.Clocked.netlist c.args.sim.now in
    let first = g.C.Clocked.stored c.args.sim.now in
    let s = g.C.Clocked.stored c.loop-answers.sim in
    let packets = c.args.frames.now in
    let before = c.args.answers.now in
    let v = c.loop-answers.driver in
    let h = c.loop-answers.invariant.driven in
    let s' = g.C.Clocked.stored c.turn.new.sim in
    let w = c.turn.new.self in
    let less : v.answers < length packets = omega (arith, h.few, c.answers.ensures, c.if-answers-frames.false) in
    let turn : TurnOf v w d s s' (Ok Over) = turns_as v w _ d s s' c.turn.result (Ok Over) c.loop-answers.invariant.netlist (c.in-Ok-Over.is ∙ ap (λ t. Ok t) c.in-Ok-Over.field-0-is) c.turn.ensures.turn in
    never_over d first s s' packets before c.loop-answers.answers c.args.ifindex c.args.limit v w h less c.in-Ok-Over.ensures.same turn

pub returns-in-Err-Late-clause-reports : goal.returns-in-Err-Late-clause-reports
returns-in-Err-Late-clause-reports g c =
    let d = g.C.Clocked.netlist c.args.sim.now in
    let first = g.C.Clocked.stored c.args.sim.now in
    let s = g.C.Clocked.stored c.loop-answers.sim in
    let packets = c.args.frames.now in
    let before = c.args.answers.now in
    let v = c.loop-answers.driver in
    let h = c.loop-answers.invariant.driven in
    let s' = g.C.Clocked.stored c.turn.new.sim in
    let w = c.turn.new.self in
    let less : v.answers < length packets = omega (arith, h.few, c.answers.ensures, c.if-answers-frames.false) in
    let f = on_late d first s s' packets before c.loop-answers.answers c.args.ifindex c.args.limit v w h less c.in-Err-Late.ensures.same c.in-Err-Late.answers c.in-Err-Late.field-0-1 c.in-Err-Late.clocks (turns_as v w _ d s s' c.turn.result (Err (Late c.in-Err-Late.answers c.in-Err-Late.field-0-1 c.in-Err-Late.clocks)) c.loop-answers.invariant.netlist (c.in-Err-Late.is ∙ ap (λ e. Err e) c.in-Err-Late.field-0-is) c.turn.ensures.turn) in
    rw c.in-Err-Late.field-0-is f.reports

pub returns-in-Err-Late-clause-answers : goal.returns-in-Err-Late-clause-answers
returns-in-Err-Late-clause-answers g c =
    let d = g.C.Clocked.netlist c.args.sim.now in
    let first = g.C.Clocked.stored c.args.sim.now in
    let s = g.C.Clocked.stored c.loop-answers.sim in
    let packets = c.args.frames.now in
    let before = c.args.answers.now in
    let v = c.loop-answers.driver in
    let h = c.loop-answers.invariant.driven in
    let s' = g.C.Clocked.stored c.turn.new.sim in
    let w = c.turn.new.self in
    let less : v.answers < length packets = omega (arith, h.few, c.answers.ensures, c.if-answers-frames.false) in
    let f = on_late d first s s' packets before c.loop-answers.answers c.args.ifindex c.args.limit v w h less c.in-Err-Late.ensures.same c.in-Err-Late.answers c.in-Err-Late.field-0-1 c.in-Err-Late.clocks (turns_as v w _ d s s' c.turn.result (Err (Late c.in-Err-Late.answers c.in-Err-Late.field-0-1 c.in-Err-Late.clocks)) c.loop-answers.invariant.netlist (c.in-Err-Late.is ∙ ap (λ e. Err e) c.in-Err-Late.field-0-is) c.turn.ensures.turn) in
    f.told

pub returns-in-Err-Late-clause-stored : goal.returns-in-Err-Late-clause-stored
returns-in-Err-Late-clause-stored g c =
    let d = g.C.Clocked.netlist c.args.sim.now in
    let first = g.C.Clocked.stored c.args.sim.now in
    let s = g.C.Clocked.stored c.loop-answers.sim in
    let packets = c.args.frames.now in
    let before = c.args.answers.now in
    let v = c.loop-answers.driver in
    let h = c.loop-answers.invariant.driven in
    let s' = g.C.Clocked.stored c.turn.new.sim in
    let w = c.turn.new.self in
    let less : v.answers < length packets = omega (arith, h.few, c.answers.ensures, c.if-answers-frames.false) in
    let f = on_late d first s s' packets before c.loop-answers.answers c.args.ifindex c.args.limit v w h less c.in-Err-Late.ensures.same c.in-Err-Late.answers c.in-Err-Late.field-0-1 c.in-Err-Late.clocks (turns_as v w _ d s s' c.turn.result (Err (Late c.in-Err-Late.answers c.in-Err-Late.field-0-1 c.in-Err-Late.clocks)) c.loop-answers.invariant.netlist (c.in-Err-Late.is ∙ ap (λ e. Err e) c.in-Err-Late.field-0-is) c.turn.ensures.turn) in
    f.stored

pub returns-in-Err-X-clause-reports : goal.returns-in-Err-X-clause-reports
returns-in-Err-X-clause-reports g c =
    let d = g.C.Clocked.netlist c.args.sim.now in
    let first = g.C.Clocked.stored c.args.sim.now in
    let s = g.C.Clocked.stored c.loop-answers.sim in
    let packets = c.args.frames.now in
    let before = c.args.answers.now in
    let v = c.loop-answers.driver in
    let h = c.loop-answers.invariant.driven in
    let s' = g.C.Clocked.stored c.turn.new.sim in
    let w = c.turn.new.self in
    let less : v.answers < length packets = omega (arith, h.few, c.answers.ensures, c.if-answers-frames.false) in
    let f = on_stop d first s s' packets before c.loop-answers.answers c.args.ifindex c.args.limit v w h less c.in-Err-X.ensures.same c.in-Err-X.x (turns_as v w _ d s s' c.turn.result (Err (X c.in-Err-X.x)) c.loop-answers.invariant.netlist (c.in-Err-X.is ∙ ap (λ e. Err e) c.in-Err-X.field-0-is) c.turn.ensures.turn) in
    rw c.in-Err-X.field-0-is f.reports

pub returns-in-Err-X-clause-answers : goal.returns-in-Err-X-clause-answers
returns-in-Err-X-clause-answers g c =
    let d = g.C.Clocked.netlist c.args.sim.now in
    let first = g.C.Clocked.stored c.args.sim.now in
    let s = g.C.Clocked.stored c.loop-answers.sim in
    let packets = c.args.frames.now in
    let before = c.args.answers.now in
    let v = c.loop-answers.driver in
    let h = c.loop-answers.invariant.driven in
    let s' = g.C.Clocked.stored c.turn.new.sim in
    let w = c.turn.new.self in
    let less : v.answers < length packets = omega (arith, h.few, c.answers.ensures, c.if-answers-frames.false) in
    let f = on_stop d first s s' packets before c.loop-answers.answers c.args.ifindex c.args.limit v w h less c.in-Err-X.ensures.same c.in-Err-X.x (turns_as v w _ d s s' c.turn.result (Err (X c.in-Err-X.x)) c.loop-answers.invariant.netlist (c.in-Err-X.is ∙ ap (λ e. Err e) c.in-Err-X.field-0-is) c.turn.ensures.turn) in
    f.told

pub returns-in-Err-X-clause-stored : goal.returns-in-Err-X-clause-stored
returns-in-Err-X-clause-stored g c =
    let d = g.C.Clocked.netlist c.args.sim.now in
    let first = g.C.Clocked.stored c.args.sim.now in
    let s = g.C.Clocked.stored c.loop-answers.sim in
    let packets = c.args.frames.now in
    let before = c.args.answers.now in
    let v = c.loop-answers.driver in
    let h = c.loop-answers.invariant.driven in
    let s' = g.C.Clocked.stored c.turn.new.sim in
    let w = c.turn.new.self in
    let less : v.answers < length packets = omega (arith, h.few, c.answers.ensures, c.if-answers-frames.false) in
    let f = on_stop d first s s' packets before c.loop-answers.answers c.args.ifindex c.args.limit v w h less c.in-Err-X.ensures.same c.in-Err-X.x (turns_as v w _ d s s' c.turn.result (Err (X c.in-Err-X.x)) c.loop-answers.invariant.netlist (c.in-Err-X.is ∙ ap (λ e. Err e) c.in-Err-X.field-0-is) c.turn.ensures.turn) in
    f.stored

pub returns-in-Err-NoMemory-clause-answers : goal.returns-in-Err-NoMemory-clause-answers
returns-in-Err-NoMemory-clause-answers g c =
    let d = g.C.Clocked.netlist c.args.sim.now in
    let first = g.C.Clocked.stored c.args.sim.now in
    let s = g.C.Clocked.stored c.loop-answers.sim in
    let packets = c.args.frames.now in
    let before = c.args.answers.now in
    let v = c.loop-answers.driver in
    let h = c.loop-answers.invariant.driven in
    let within : v.clocks ≤ c.args.limit = omega (arith, c.report-report.ensures.within, h.limit_is) in
    driven_prefix d first s packets before c.loop-answers.answers c.args.ifindex c.args.limit v h within
