use Rattle.std.proofs.Common.{◌≡◌, ◌<◌, ◌+◌, ◌-◌, Ok, Err, length, drop, get_or, refl, sym, ap, ◌∙◌, subst, arith}
use Rattle.command_line.specs.Request.{names_of}
use Rattle.port_drive.specs.declared.turn.Turn.TheVariants.{Need, Done, Over}
use Rattle.port_drive.specs.Driving.{Driving, TurnOf, Turns}
use Rattle.port_drive.proofs.DriveTurnLaws.{turns_as}
use Rattle.capture_run.specs.States.{state_of}
use Rattle.capture_run.specs.Results.{no_packet}
use Rattle.capture_run.specs.Runs.{IsRunOver, DrivesSome, DrivesOut, result_names}
use Rattle.capture_run.specs.Driving.{run_error}
use Rattle.capture_run.proofs.StateLaws.{changes_none, changes_then, changes_within, tells_later}
use Rattle.capture_run.proofs.RunOverLaws.{over_stopped, err_as}
use Rattle.capture_run.proofs.DrivenLaws.{longer_at, driven_at_first, some_done, some_unwritten, some_over, some_needs, some_given, less_given, some_answered, less_answered, some_stopped}
use Rattle.capture_run.proofs.ToldLaws.{told_at_first, told_done, told_given, told_not_given, told_stands, told_answered, told_unwritten, told_stopped, held_same, next_given, next_written}
use Rattle.capture_run.proofs.driven.drive_capture.Goals as goal

pub loop-count-init : goal.loop-count-init
loop-count-init g c =
    let d = g.C.Clocked.netlist c.args.sim.now in
    let s = g.C.Clocked.stored c.args.sim.now in
    let v = c.args.driver.now in
    let now = state_of g.S.Shelf c.args.shelf.now in
    record {
      netlist = refl;
      within = let none : v.clocks ≡ 0 = ap (λ (x : Driving). x.clocks) c.requires.undriven in omega (arith, none);
      kept = changes_within (result_names (names_of c.args.files.now)) now now (changes_none now);
      some = driven_at_first d s v.ifindex v.limit c.args.survey.now.count v c.requires.undriven;
      told = λ told packets many ahead behind. told_at_first (names_of c.args.files.now) d s v.ifindex v.limit c.args.survey.now.stream (g.S.Shelf.held c.args.shelf.now c.args.files.now.capture.now) packets c.args.ahead.now c.args.behind.now v now c.requires.undriven ahead behind;
    }

pub returns-then-answers-count-clause-some : goal.returns-then-answers-count-clause-some
returns-then-answers-count-clause-some g c =
    let d = g.C.Clocked.netlist c.args.sim.now in
    let first = g.C.Clocked.stored c.args.sim.now in
    let s = g.C.Clocked.stored c.loop-count.sim in
    let ifindex = c.args.driver.now.ifindex in
    let limit = c.args.driver.now.limit in
    let count = c.args.survey.now.count in
    let v = c.loop-count.driver in
    let h = c.loop-count.invariant.some in
    let all : v.answers ≡ count = omega (arith, c.answers.ensures, c.if-answers-count.true, c.from-count.ensures) in
    some_done d first s ifindex limit count v h c.loop-count.invariant.within all tt

pub returns-then-answers-count-clause-told : goal.returns-then-answers-count-clause-told
returns-then-answers-count-clause-told g c = λ told packets holds many ahead behind.
    let d = g.C.Clocked.netlist c.args.sim.now in
    let first = g.C.Clocked.stored c.args.sim.now in
    let s = g.C.Clocked.stored c.loop-count.sim in
    let ifindex = c.args.driver.now.ifindex in
    let limit = c.args.driver.now.limit in
    let count = c.args.survey.now.count in
    let v = c.loop-count.driver in
    let h = c.loop-count.invariant.some in
    let names = names_of c.args.files.now in
    let opened = c.args.survey.now.stream in
    let held = g.S.Shelf.held c.args.shelf.now c.args.files.now.capture.now in
    let old = state_of g.S.Shelf c.args.shelf.now in
    let now = state_of g.S.Shelf c.loop-count.shelf in
    let t = c.loop-count.invariant.told told packets many ahead behind in
    let all : v.answers ≡ count = omega (arith, c.answers.ensures, c.if-answers-count.true, c.from-count.ensures) in
    told_done names d first s ifindex limit opened held packets c.loop-count.ahead c.loop-count.behind v old now t c.loop-count.invariant.within (all ∙ many) tt

pub give_next-requires-clause-needs : goal.give_next-requires-clause-needs
give_next-requires-clause-needs g c =
    let d = g.C.Clocked.netlist c.args.sim.now in
    let first = g.C.Clocked.stored c.args.sim.now in
    let s = g.C.Clocked.stored c.loop-count.sim in
    let ifindex = c.args.driver.now.ifindex in
    let limit = c.args.driver.now.limit in
    let count = c.args.survey.now.count in
    let v = c.loop-count.driver in
    let h = c.loop-count.invariant.some in
    let s' = g.C.Clocked.stored c.turn.new.sim in
    let w = c.turn.new.self in
    let less : v.answers < count = omega (arith, h.driven.few, h.many, c.answers.ensures, c.from-count.ensures, c.if-answers-count.false) in
    let turn : TurnOf v w d s s' (Ok Need) = turns_as v w _ d s s' c.turn.result (Ok Need) c.loop-count.invariant.netlist (c.in-Ok-Need.is ∙ ap (λ t. Ok t) c.in-Ok-Need.field-0-is) c.turn.ensures.turn in
    let same = c.in-Ok-Need.ensures.same in
    let needs = some_needs d first s ifindex limit count v h s' w less same turn in
    needs.0

pub give_next-requires-clause-given : goal.give_next-requires-clause-given
give_next-requires-clause-given g c =
    let d = g.C.Clocked.netlist c.args.sim.now in
    let first = g.C.Clocked.stored c.args.sim.now in
    let s = g.C.Clocked.stored c.loop-count.sim in
    let ifindex = c.args.driver.now.ifindex in
    let limit = c.args.driver.now.limit in
    let count = c.args.survey.now.count in
    let v = c.loop-count.driver in
    let h = c.loop-count.invariant.some in
    let s' = g.C.Clocked.stored c.turn.new.sim in
    let w = c.turn.new.self in
    let less : v.answers < count = omega (arith, h.driven.few, h.many, c.answers.ensures, c.from-count.ensures, c.if-answers-count.false) in
    let turn : TurnOf v w d s s' (Ok Need) = turns_as v w _ d s s' c.turn.result (Ok Need) c.loop-count.invariant.netlist (c.in-Ok-Need.is ∙ ap (λ t. Ok t) c.in-Ok-Need.field-0-is) c.turn.ensures.turn in
    let same = c.in-Ok-Need.ensures.same in
    let needs = some_needs d first s ifindex limit count v h s' w less same turn in
    needs.1

pub give_next-requires-clause-few : goal.give_next-requires-clause-few
give_next-requires-clause-few g c =
    let d = g.C.Clocked.netlist c.args.sim.now in
    let first = g.C.Clocked.stored c.args.sim.now in
    let s = g.C.Clocked.stored c.loop-count.sim in
    let ifindex = c.args.driver.now.ifindex in
    let limit = c.args.driver.now.limit in
    let count = c.args.survey.now.count in
    let v = c.loop-count.driver in
    let h = c.loop-count.invariant.some in
    let s' = g.C.Clocked.stored c.turn.new.sim in
    let w = c.turn.new.self in
    let less : v.answers < count = omega (arith, h.driven.few, h.many, c.answers.ensures, c.from-count.ensures, c.if-answers-count.false) in
    let turn : TurnOf v w d s s' (Ok Need) = turns_as v w _ d s s' c.turn.result (Ok Need) c.loop-count.invariant.netlist (c.in-Ok-Need.is ∙ ap (λ t. Ok t) c.in-Ok-Need.field-0-is) c.turn.ensures.turn in
    let same = c.in-Ok-Need.ensures.same in
    let needs = some_needs d first s ifindex limit count v h s' w less same turn in
    needs.2

pub loop-count-smaller-in-Continue-1 : goal.loop-count-smaller-in-Continue-1
loop-count-smaller-in-Continue-1 g c =
    let d = g.C.Clocked.netlist c.args.sim.now in
    let first = g.C.Clocked.stored c.args.sim.now in
    let s = g.C.Clocked.stored c.loop-count.sim in
    let ifindex = c.args.driver.now.ifindex in
    let limit = c.args.driver.now.limit in
    let count = c.args.survey.now.count in
    let v = c.loop-count.driver in
    let h = c.loop-count.invariant.some in
    let s' = g.C.Clocked.stored c.turn.new.sim in
    let w = c.turn.new.self in
    let less : v.answers < count = omega (arith, h.driven.few, h.many, c.answers.ensures, c.from-count.ensures, c.if-answers-count.false) in
    let turn : TurnOf v w d s s' (Ok Need) = turns_as v w _ d s s' c.turn.result (Ok Need) c.loop-count.invariant.netlist (c.in-Ok-Need.is ∙ ap (λ t. Ok t) c.in-Ok-Need.field-0-is) c.turn.ensures.turn in
    let same = c.in-Ok-Need.ensures.same in
    let needs = some_needs d first s ifindex limit count v h s' w less same turn in
    let u = c.give_next.new.driver in
    let gives = c.in_ok-give_next-in-Ok-Need.ensures.some h.packets h.legal h.many in
    less_given d first s ifindex limit count v h s' w less same turn u gives

pub loop-count-preserved-in-Continue-1 : goal.loop-count-preserved-in-Continue-1
loop-count-preserved-in-Continue-1 g c =
    let d = g.C.Clocked.netlist c.args.sim.now in
    let first = g.C.Clocked.stored c.args.sim.now in
    let s = g.C.Clocked.stored c.loop-count.sim in
    let ifindex = c.args.driver.now.ifindex in
    let limit = c.args.driver.now.limit in
    let count = c.args.survey.now.count in
    let v = c.loop-count.driver in
    let h = c.loop-count.invariant.some in
    let s' = g.C.Clocked.stored c.turn.new.sim in
    let w = c.turn.new.self in
    let less : v.answers < count = omega (arith, h.driven.few, h.many, c.answers.ensures, c.from-count.ensures, c.if-answers-count.false) in
    let turn : TurnOf v w d s s' (Ok Need) = turns_as v w _ d s s' c.turn.result (Ok Need) c.loop-count.invariant.netlist (c.in-Ok-Need.is ∙ ap (λ t. Ok t) c.in-Ok-Need.field-0-is) c.turn.ensures.turn in
    let same = c.in-Ok-Need.ensures.same in
    let needs = some_needs d first s ifindex limit count v h s' w less same turn in
    let u = c.give_next.new.driver in
    let gives = c.in_ok-give_next-in-Ok-Need.ensures.some h.packets h.legal h.many in
    record {
      netlist = c.in-Ok-Need.ensures.netlist ∙ c.loop-count.invariant.netlist;
      within = omega (arith, c.give_next.ensures.clocks.0, c.give_next.ensures.clocks.1, c.in-Ok-Need.ensures.within);
      kept = changes_then (result_names (names_of c.args.files.now)) (state_of g.S.Shelf c.args.shelf.now) (state_of g.S.Shelf c.loop-count.shelf) (state_of g.S.Shelf c.give_next.new.shelf) c.loop-count.invariant.kept c.in_ok-give_next-in-Ok-Need.ensures.over.kept;
      some = some_given d first s ifindex limit count v h s' w less same turn u gives;
      told = λ told packets many ahead behind.
          let names = names_of c.args.files.now in
          let opened = c.args.survey.now.stream in
          let held = g.S.Shelf.held c.args.shelf.now c.args.files.now.capture.now in
          let old = state_of g.S.Shelf c.args.shelf.now in
          let now = state_of g.S.Shelf c.loop-count.shelf in
          let t = c.loop-count.invariant.told told packets many ahead behind in
          let later = state_of g.S.Shelf c.give_next.new.shelf in
          let here : now.held names.capture ≡ held = held_same names old now c.requires.apart c.loop-count.invariant.kept in
          let u = c.give_next.new.driver in
          let next = next_given (Ok tt) opened (now.held names.capture) held packets c.loop-count.ahead c.give_next.new.ahead v.given w u here same.2 t.ahead_stands (c.in_ok-give_next-in-Ok-Need.ensures.told (tells_later old now c.loop-count.invariant.kept.later told) packets many) in
          told_given names d first s ifindex limit opened held packets c.loop-count.ahead c.loop-count.behind v old now t s' w (omega (arith, less, many)) c.in-Ok-Need.ensures.within same turn c.give_next.new.ahead u later c.give_next.ensures.kept tt next;
    }

pub write_answer-requires-clause-ended : goal.write_answer-requires-clause-ended
write_answer-requires-clause-ended g c =
    let d = g.C.Clocked.netlist c.args.sim.now in
    let first = g.C.Clocked.stored c.args.sim.now in
    let s = g.C.Clocked.stored c.loop-count.sim in
    let ifindex = c.args.driver.now.ifindex in
    let limit = c.args.driver.now.limit in
    let count = c.args.survey.now.count in
    let v = c.loop-count.driver in
    let h = c.loop-count.invariant.some in
    let s' = g.C.Clocked.stored c.turn.new.sim in
    let w = c.turn.new.self in
    let less : v.answers < count = omega (arith, h.driven.few, h.many, c.answers.ensures, c.from-count.ensures, c.if-answers-count.false) in
    let turn : TurnOf v w d s s' (Ok Done) = turns_as v w _ d s s' c.turn.result (Ok Done) c.loop-count.invariant.netlist (c.in-Ok-Done.is ∙ ap (λ t. Ok t) c.in-Ok-Done.field-0-is) c.turn.ensures.turn in
    let same = c.in-Ok-Done.ensures.same in
    let answered = some_answered d first s ifindex limit count v h s' w less same turn in
    (turn.ends.0, turn.ends.1)

pub write_answer-requires-clause-some : goal.write_answer-requires-clause-some
write_answer-requires-clause-some g c =
    let d = g.C.Clocked.netlist c.args.sim.now in
    let first = g.C.Clocked.stored c.args.sim.now in
    let s = g.C.Clocked.stored c.loop-count.sim in
    let ifindex = c.args.driver.now.ifindex in
    let limit = c.args.driver.now.limit in
    let count = c.args.survey.now.count in
    let v = c.loop-count.driver in
    let h = c.loop-count.invariant.some in
    let s' = g.C.Clocked.stored c.turn.new.sim in
    let w = c.turn.new.self in
    let less : v.answers < count = omega (arith, h.driven.few, h.many, c.answers.ensures, c.from-count.ensures, c.if-answers-count.false) in
    let turn : TurnOf v w d s s' (Ok Done) = turns_as v w _ d s s' c.turn.result (Ok Done) c.loop-count.invariant.netlist (c.in-Ok-Done.is ∙ ap (λ t. Ok t) c.in-Ok-Done.field-0-is) c.turn.ensures.turn in
    let same = c.in-Ok-Done.ensures.same in
    let answered = some_answered d first s ifindex limit count v h s' w less same turn in
    omega (arith, answered.1)

pub loop-count-smaller : goal.loop-count-smaller
loop-count-smaller g c =
    let d = g.C.Clocked.netlist c.args.sim.now in
    let first = g.C.Clocked.stored c.args.sim.now in
    let s = g.C.Clocked.stored c.loop-count.sim in
    let ifindex = c.args.driver.now.ifindex in
    let limit = c.args.driver.now.limit in
    let count = c.args.survey.now.count in
    let v = c.loop-count.driver in
    let h = c.loop-count.invariant.some in
    let s' = g.C.Clocked.stored c.turn.new.sim in
    let w = c.turn.new.self in
    let less : v.answers < count = omega (arith, h.driven.few, h.many, c.answers.ensures, c.from-count.ensures, c.if-answers-count.false) in
    let turn : TurnOf v w d s s' (Ok Done) = turns_as v w _ d s s' c.turn.result (Ok Done) c.loop-count.invariant.netlist (c.in-Ok-Done.is ∙ ap (λ t. Ok t) c.in-Ok-Done.field-0-is) c.turn.ensures.turn in
    let same = c.in-Ok-Done.ensures.same in
    let answered = some_answered d first s ifindex limit count v h s' w less same turn in
    less_answered d first s ifindex limit count v h s' w less same turn

pub loop-count-preserved : goal.loop-count-preserved
loop-count-preserved g c =
    let d = g.C.Clocked.netlist c.args.sim.now in
    let first = g.C.Clocked.stored c.args.sim.now in
    let s = g.C.Clocked.stored c.loop-count.sim in
    let ifindex = c.args.driver.now.ifindex in
    let limit = c.args.driver.now.limit in
    let count = c.args.survey.now.count in
    let v = c.loop-count.driver in
    let h = c.loop-count.invariant.some in
    let s' = g.C.Clocked.stored c.turn.new.sim in
    let w = c.turn.new.self in
    let less : v.answers < count = omega (arith, h.driven.few, h.many, c.answers.ensures, c.from-count.ensures, c.if-answers-count.false) in
    let turn : TurnOf v w d s s' (Ok Done) = turns_as v w _ d s s' c.turn.result (Ok Done) c.loop-count.invariant.netlist (c.in-Ok-Done.is ∙ ap (λ t. Ok t) c.in-Ok-Done.field-0-is) c.turn.ensures.turn in
    let same = c.in-Ok-Done.ensures.same in
    let answered = some_answered d first s ifindex limit count v h s' w less same turn in
    record {
      netlist = c.in-Ok-Done.ensures.netlist ∙ c.loop-count.invariant.netlist;
      within = c.in-Ok-Done.ensures.within;
      kept = changes_then (result_names (names_of c.args.files.now)) (state_of g.S.Shelf c.args.shelf.now) (state_of g.S.Shelf c.loop-count.shelf) (state_of g.S.Shelf c.write_answer.new.shelf) c.loop-count.invariant.kept c.in_ok-write_answer-in-Ok-Done.ensures.over.kept;
      some = answered.0;
      told = λ told packets many ahead behind.
          let names = names_of c.args.files.now in
          let opened = c.args.survey.now.stream in
          let held = g.S.Shelf.held c.args.shelf.now c.args.files.now.capture.now in
          let old = state_of g.S.Shelf c.args.shelf.now in
          let now = state_of g.S.Shelf c.loop-count.shelf in
          let t = c.loop-count.invariant.told told packets many ahead behind in
          let later = state_of g.S.Shelf c.write_answer.new.shelf in
          let here : now.held names.capture ≡ held = held_same names old now c.requires.apart c.loop-count.invariant.kept in
          let few : v.answers < length packets = omega (arith, less, many) in
          let p = get_or packets v.answers no_packet in
          let rest = drop (v.answers + 1) packets in
          let stands = told_stands names d first s ifindex limit opened held packets c.loop-count.ahead c.loop-count.behind v old now t s' w few c.in-Ok-Done.ensures.within same turn c.write_answer.new.behind later in
          let next = next_written (Ok tt) names opened (now.held names.capture) held p rest c.loop-count.behind c.write_answer.new.behind (w.answers - 1) w.last turn.ends.0 now later here turn.ends.1 stands (c.in_ok-write_answer-in-Ok-Done.ensures.told (tells_later old now c.loop-count.invariant.kept.later told) p rest) in
          told_answered names d first s ifindex limit opened held packets c.loop-count.ahead c.loop-count.behind v old now t s' w few c.in-Ok-Done.ensures.within same turn c.write_answer.new.behind later tt next;
    }

pub unreachable-requires : goal.unreachable-requires
unreachable-requires g c =
    let d = g.C.Clocked.netlist c.args.sim.now in
    let first = g.C.Clocked.stored c.args.sim.now in
    let s = g.C.Clocked.stored c.loop-count.sim in
    let ifindex = c.args.driver.now.ifindex in
    let limit = c.args.driver.now.limit in
    let count = c.args.survey.now.count in
    let v = c.loop-count.driver in
    let h = c.loop-count.invariant.some in
    let s' = g.C.Clocked.stored c.turn.new.sim in
    let w = c.turn.new.self in
    let less : v.answers < count = omega (arith, h.driven.few, h.many, c.answers.ensures, c.from-count.ensures, c.if-answers-count.false) in
    let turn : TurnOf v w d s s' (Ok Over) = turns_as v w _ d s s' c.turn.result (Ok Over) c.loop-count.invariant.netlist (c.in-Ok-Over.is ∙ ap (λ t. Ok t) c.in-Ok-Over.field-0-is) c.turn.ensures.turn in
    let same = c.in-Ok-Over.ensures.same in
    some_over d first s ifindex limit count v h s' w less same turn

pub returns-in_err-give_next-in-Ok-Need-clause-told : goal.returns-in_err-give_next-in-Ok-Need-clause-told
returns-in_err-give_next-in-Ok-Need-clause-told g c = λ told packets holds many ahead behind.
    let d = g.C.Clocked.netlist c.args.sim.now in
    let first = g.C.Clocked.stored c.args.sim.now in
    let s = g.C.Clocked.stored c.loop-count.sim in
    let ifindex = c.args.driver.now.ifindex in
    let limit = c.args.driver.now.limit in
    let count = c.args.survey.now.count in
    let v = c.loop-count.driver in
    let h = c.loop-count.invariant.some in
    let s' = g.C.Clocked.stored c.turn.new.sim in
    let w = c.turn.new.self in
    let less : v.answers < count = omega (arith, h.driven.few, h.many, c.answers.ensures, c.from-count.ensures, c.if-answers-count.false) in
    let turn : TurnOf v w d s s' (Ok Need) = turns_as v w _ d s s' c.turn.result (Ok Need) c.loop-count.invariant.netlist (c.in-Ok-Need.is ∙ ap (λ t. Ok t) c.in-Ok-Need.field-0-is) c.turn.ensures.turn in
    let same = c.in-Ok-Need.ensures.same in
    let names = names_of c.args.files.now in
    let opened = c.args.survey.now.stream in
    let held = g.S.Shelf.held c.args.shelf.now c.args.files.now.capture.now in
    let old = state_of g.S.Shelf c.args.shelf.now in
    let now = state_of g.S.Shelf c.loop-count.shelf in
    let t = c.loop-count.invariant.told told packets many ahead behind in
    let later = state_of g.S.Shelf c.give_next.new.shelf in
    let here : now.held names.capture ≡ held = held_same names old now c.requires.apart c.loop-count.invariant.kept in
    let u = c.give_next.new.driver in
    let next = next_given (Err c.in_err-give_next-in-Ok-Need.field-0.0) opened (now.held names.capture) held packets c.loop-count.ahead c.give_next.new.ahead v.given w u here same.2 t.ahead_stands (c.in_err-give_next-in-Ok-Need.ensures.told (tells_later old now c.loop-count.invariant.kept.later told) packets many) in
    let e = c.in_err-give_next-in-Ok-Need.field-0.0 in
    subst (λ r. DrivesOut names d ifindex limit opened.magic packets first s' r old later) (err_as c.from_residual.result e c.from_residual.ensures.1) (told_not_given names d first s ifindex limit opened held packets c.loop-count.ahead c.loop-count.behind v old now t s' w (omega (arith, less, many)) c.in-Ok-Need.ensures.within same turn c.give_next.new.ahead u later c.give_next.ensures.kept e s' next)

pub returns-in_err-write_answer-in-Ok-Done-clause-some : goal.returns-in_err-write_answer-in-Ok-Done-clause-some
returns-in_err-write_answer-in-Ok-Done-clause-some g c =
    let d = g.C.Clocked.netlist c.args.sim.now in
    let first = g.C.Clocked.stored c.args.sim.now in
    let s = g.C.Clocked.stored c.loop-count.sim in
    let ifindex = c.args.driver.now.ifindex in
    let limit = c.args.driver.now.limit in
    let count = c.args.survey.now.count in
    let v = c.loop-count.driver in
    let h = c.loop-count.invariant.some in
    let s' = g.C.Clocked.stored c.turn.new.sim in
    let w = c.turn.new.self in
    let less : v.answers < count = omega (arith, h.driven.few, h.many, c.answers.ensures, c.from-count.ensures, c.if-answers-count.false) in
    let turn : TurnOf v w d s s' (Ok Done) = turns_as v w _ d s s' c.turn.result (Ok Done) c.loop-count.invariant.netlist (c.in-Ok-Done.is ∙ ap (λ t. Ok t) c.in-Ok-Done.field-0-is) c.turn.ensures.turn in
    let same = c.in-Ok-Done.ensures.same in
    let e = c.in_err-write_answer-in-Ok-Done.field-0.0 in
    subst (λ r. DrivesSome d ifindex limit count first s' r) (err_as c.from_residual-in_err-write_answer-in-Ok-Done.result e c.from_residual-in_err-write_answer-in-Ok-Done.ensures.1) (some_unwritten d first s ifindex limit count v h s' w less same turn e s' c.in_err-write_answer-in-Ok-Done.ensures.error c.in-Ok-Done.ensures.within (λ is. c.in_err-write_answer-in-Ok-Done.ensures.memory (ap (λ x. Err x) is)))

pub returns-in_err-write_answer-in-Ok-Done-clause-told : goal.returns-in_err-write_answer-in-Ok-Done-clause-told
returns-in_err-write_answer-in-Ok-Done-clause-told g c = λ told packets holds many ahead behind.
    let d = g.C.Clocked.netlist c.args.sim.now in
    let first = g.C.Clocked.stored c.args.sim.now in
    let s = g.C.Clocked.stored c.loop-count.sim in
    let ifindex = c.args.driver.now.ifindex in
    let limit = c.args.driver.now.limit in
    let count = c.args.survey.now.count in
    let v = c.loop-count.driver in
    let h = c.loop-count.invariant.some in
    let s' = g.C.Clocked.stored c.turn.new.sim in
    let w = c.turn.new.self in
    let less : v.answers < count = omega (arith, h.driven.few, h.many, c.answers.ensures, c.from-count.ensures, c.if-answers-count.false) in
    let turn : TurnOf v w d s s' (Ok Done) = turns_as v w _ d s s' c.turn.result (Ok Done) c.loop-count.invariant.netlist (c.in-Ok-Done.is ∙ ap (λ t. Ok t) c.in-Ok-Done.field-0-is) c.turn.ensures.turn in
    let same = c.in-Ok-Done.ensures.same in
    let names = names_of c.args.files.now in
    let opened = c.args.survey.now.stream in
    let held = g.S.Shelf.held c.args.shelf.now c.args.files.now.capture.now in
    let old = state_of g.S.Shelf c.args.shelf.now in
    let now = state_of g.S.Shelf c.loop-count.shelf in
    let t = c.loop-count.invariant.told told packets many ahead behind in
    let later = state_of g.S.Shelf c.write_answer.new.shelf in
    let here : now.held names.capture ≡ held = held_same names old now c.requires.apart c.loop-count.invariant.kept in
    let few : v.answers < length packets = omega (arith, less, many) in
    let p = get_or packets v.answers no_packet in
    let rest = drop (v.answers + 1) packets in
    let stands = told_stands names d first s ifindex limit opened held packets c.loop-count.ahead c.loop-count.behind v old now t s' w few c.in-Ok-Done.ensures.within same turn c.write_answer.new.behind later in
    let next = next_written (Err c.in_err-write_answer-in-Ok-Done.field-0.0) names opened (now.held names.capture) held p rest c.loop-count.behind c.write_answer.new.behind (w.answers - 1) w.last turn.ends.0 now later here turn.ends.1 stands (c.in_err-write_answer-in-Ok-Done.ensures.told (tells_later old now c.loop-count.invariant.kept.later told) p rest) in
    let e = c.in_err-write_answer-in-Ok-Done.field-0.0 in
    subst (λ r. DrivesOut names d ifindex limit opened.magic packets first s' r old later) (err_as c.from_residual-in_err-write_answer-in-Ok-Done.result e c.from_residual-in_err-write_answer-in-Ok-Done.ensures.1) (told_unwritten names d first s ifindex limit opened held packets c.loop-count.ahead c.loop-count.behind v old now t s' w few c.in-Ok-Done.ensures.within same turn c.write_answer.new.behind later e s' (λ is. longer_at w.last turn.ends.0 turn.ends.1 (c.in_err-write_answer-in-Ok-Done.ensures.memory (ap (λ x. Err x) is))) next)

pub returns-in-Err-clause-some : goal.returns-in-Err-clause-some
returns-in-Err-clause-some g c =
    let d = g.C.Clocked.netlist c.args.sim.now in
    let first = g.C.Clocked.stored c.args.sim.now in
    let s = g.C.Clocked.stored c.loop-count.sim in
    let ifindex = c.args.driver.now.ifindex in
    let limit = c.args.driver.now.limit in
    let count = c.args.survey.now.count in
    let v = c.loop-count.driver in
    let h = c.loop-count.invariant.some in
    let s' = g.C.Clocked.stored c.turn.new.sim in
    let w = c.turn.new.self in
    let less : v.answers < count = omega (arith, h.driven.few, h.many, c.answers.ensures, c.from-count.ensures, c.if-answers-count.false) in
    let e = c.in-Err.error in
    let same = c.in-Err.ensures.same in
    let turn : Turns v w d s s' (Err e) = turns_as v w _ d s s' (Err e) (Err e) c.loop-count.invariant.netlist refl c.in-Err.ensures.turn in
    let is : run_error e count ≡ c.run_error.result = sym (c.run_error.ensures ∙ ap (λ k. run_error e k) c.from-count.ensures) in
    subst (λ x. DrivesSome d ifindex limit count first s' (Err x)) is (some_stopped d first s ifindex limit count v h s' w less same e turn)

pub returns-in-Err-clause-told : goal.returns-in-Err-clause-told
returns-in-Err-clause-told g c = λ told packets holds many ahead behind.
    let d = g.C.Clocked.netlist c.args.sim.now in
    let first = g.C.Clocked.stored c.args.sim.now in
    let s = g.C.Clocked.stored c.loop-count.sim in
    let ifindex = c.args.driver.now.ifindex in
    let limit = c.args.driver.now.limit in
    let count = c.args.survey.now.count in
    let v = c.loop-count.driver in
    let h = c.loop-count.invariant.some in
    let s' = g.C.Clocked.stored c.turn.new.sim in
    let w = c.turn.new.self in
    let less : v.answers < count = omega (arith, h.driven.few, h.many, c.answers.ensures, c.from-count.ensures, c.if-answers-count.false) in
    let e = c.in-Err.error in
    let same = c.in-Err.ensures.same in
    let turn : Turns v w d s s' (Err e) = turns_as v w _ d s s' (Err e) (Err e) c.loop-count.invariant.netlist refl c.in-Err.ensures.turn in
    let names = names_of c.args.files.now in
    let opened = c.args.survey.now.stream in
    let held = g.S.Shelf.held c.args.shelf.now c.args.files.now.capture.now in
    let old = state_of g.S.Shelf c.args.shelf.now in
    let now = state_of g.S.Shelf c.loop-count.shelf in
    let t = c.loop-count.invariant.told told packets many ahead behind in
    let is : run_error e (length packets) ≡ c.run_error.result = sym (c.run_error.ensures ∙ ap (λ k. run_error e k) (c.from-count.ensures ∙ many)) in
    subst (λ x. DrivesOut names d ifindex limit opened.magic packets first s' (Err x) old now) is (told_stopped names d first s ifindex limit opened held packets c.loop-count.ahead c.loop-count.behind v old now t s' w (omega (arith, less, many)) c.loop-count.invariant.within same e turn)

pub returns-in-Err-clause-over : goal.returns-in-Err-clause-over
returns-in-Err-clause-over g c =
    let outputs = result_names (names_of c.args.files.now) in
    let capture = c.args.files.now.capture.now in
    let old = state_of g.S.Shelf c.args.shelf.now in
    let now = state_of g.S.Shelf c.loop-count.shelf in
    subst (λ x. IsRunOver capture outputs (Err x) old now) (sym c.run_error.ensures) (over_stopped capture outputs c.in-Err.error c.from-count.result old now c.loop-count.invariant.kept)
