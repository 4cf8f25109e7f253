use Rattle.std.proofs.Common.{◌≡◌, ◌+◌, ◌<◌, List, Some, length, ap, ◌∙◌, subst}
use Rattle.beat_core.specs.declared.frame.TheConstants.{FRAME_LIMIT}
use Rattle.beat_core.specs.Ports.{Offered}
use Rattle.net_core.specs.declared.ports.Outputs.{Outputs}
use Rattle.net_core.specs.Ports.{words_of}
use Rattle.net_core.specs.Trace.{Cycle}
use Rattle.realization.specs.History.{drive_inputs}
use Rattle.clock_sim.specs.Running.{stopped_net}
use Rattle.port_drive.specs.Driving.{Driving, clocked, next_cycle, ends_answer, ended_by, begun_next, held_bytes, RunsOn}
use Rattle.port_drive.proofs.BeatLemmas.{takes_out}
use Rattle.port_drive.proofs.TurnLaws.{number_is, clocked_is}
use Rattle.port_drive.proofs.driver.Driver.clock.Goals as goal

pub returns-in-Err-clause-clock : goal.returns-in-Err-clause-clock
returns-in-Err-clause-clock g c =
    let s = c.self.inside in
    let left : s.frame ≡ c.args.self.now.left = ap (λ (v : Driving). v.left) c.self.view_is in (
      ap (λ (l : List Offered). record { ifindex = s.ifindex; limit = s.limit; given = s.given; ended = s.ended; answers = s.answers; clocks = s.clocks; reloads = s.reloads; left = l; begun = s.answer.begun; last = s.answer.last }) c.in-Err.ensures.kept ∙ c.self.view_is,
      c.in-Err.ensures.unchanged,
      subst (λ (l : List Offered). stopped_net (g.C.Clocked.netlist c.args.sim.now) (words_of (drive_inputs l)) (g.C.Clocked.stored c.args.sim.now) ≡ Some c.in-Err.stopped.net) left c.in-Err.ensures.stops,
    )

pub returns-in-Ok-take-clause-clock : goal.returns-in-Ok-take-clause-clock
returns-in-Ok-take-clause-clock g c =
    let s = c.self.inside in
    let d = g.C.Clocked.netlist c.args.sim.now in
    let stored = g.C.Clocked.stored c.args.sim.now in
    let v : Driving = record { ifindex = s.ifindex; limit = s.limit; given = s.given; ended = s.ended; answers = s.answers; clocks = s.clocks; reloads = s.reloads; left = s.frame; begun = s.answer.begun; last = s.answer.last } in
    let new : Driving = record v { answers = s.answers + c.from-in-Ok-take.result; clocks = s.clocks + 1; reloads = s.reloads + c.from.result; left = c.advance.new.left; begun = c.take.new.self.begun; last = c.take.new.self.last } in
    let is = clocked_is v d stored c.in-Ok.shown c.advance.new.left c.take.new.self c.in-Ok-take.ended c.from-in-Ok-take.result c.from.result (number_is _ _ c.from-in-Ok-take.ensures) (number_is _ _ c.from.ensures)
    c.in-Ok.ensures.outputs c.in-Ok.ensures.left (c.in-Ok-take.ensures.ok (drive_inputs s.frame) (takes_out s.frame)) c.in-Ok-take.ensures.ended in
    let runs : RunsOn v d stored (g.C.Clocked.stored c.advance.new.sim) = record { runs = c.in-Ok.ensures.runs; stored = c.in-Ok.ensures.stored } in
    subst (λ (w : Driving). RunsOn w d stored (g.C.Clocked.stored c.advance.new.sim) × (new ≡ clocked w (next_cycle w d stored)) × (c.in-Ok-take.ended ≡ ends_answer (next_cycle w d stored))) c.self.view_is (runs, is.0, is.1)

pub returns-in-Err-take-clause-clock : goal.returns-in-Err-take-clause-clock
returns-in-Err-take-clause-clock g c =
    let s = c.self.inside in
    let d = g.C.Clocked.netlist c.args.sim.now in
    let stored = g.C.Clocked.stored c.args.sim.now in
    let v : Driving = record { ifindex = s.ifindex; limit = s.limit; given = s.given; ended = s.ended; answers = s.answers; clocks = s.clocks; reloads = s.reloads; left = s.frame; begun = s.answer.begun; last = s.answer.last } in
    let runs : RunsOn v d stored (g.C.Clocked.stored c.advance.new.sim) = record { runs = c.in-Ok.ensures.runs; stored = c.in-Ok.ensures.stored } in
    let longer = subst (λ (m : Cycle). FRAME_LIMIT < length (held_bytes (begun_next s.answer.begun m) (ended_by s.answer.begun m))) (ap (λ (o : Outputs). record { given = drive_inputs s.frame; shown = o }) c.in-Ok.ensures.outputs) (c.in-Err-take.ensures.full (drive_inputs s.frame) (takes_out s.frame)) in
    subst (λ (w : Driving). RunsOn w d stored (g.C.Clocked.stored c.advance.new.sim) × (FRAME_LIMIT < length (held_bytes (begun_next w.begun (next_cycle w d stored)) (ended_by w.begun (next_cycle w d stored))))) c.self.view_is (runs, longer)
