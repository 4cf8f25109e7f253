use Rattle.std.proofs.Common.{◌+◌, ◌++◌, ◌∷◌, [], List, sym, ap, ◌∙◌, subst}
use Rattle.beat_core.specs.declared.frame.Timed.{Timed}
use Rattle.beat_core.specs.Ports.{Offered}
use Rattle.port_drive.specs.Driving.{Driving, with_packet, Fits}
use Rattle.port_drive.proofs.DrivingLaws.{fits_given}
use Rattle.port_drive.proofs.driver.Driver.give.Goals as goal

pub returns-clause-view : goal.returns-clause-view
returns-clause-view c =
    let s = c.self.inside in
    let p : Timed = record { frame = c.args.frame.now; time = c.args.time } in
    ap (λ (l : List Offered). record { ifindex = s.ifindex; limit = s.limit; given = s.given + 1; ended = s.ended; answers = s.answers; clocks = s.clocks; reloads = s.reloads; left = l; begun = s.answer.begun; last = s.answer.last }) c.set.ensures ∙ ap (λ (v : Driving). with_packet v p) c.self.view_is

pub returns-clause-fits : goal.returns-clause-fits
returns-clause-fits c = λ d first stored packets clocks fit.
    let s = c.self.inside in
    let p : Timed = record { frame = c.args.frame.now; time = c.args.time } in
    let is = ap (λ (l : List Offered). record { ifindex = s.ifindex; limit = s.limit; given = s.given + 1; ended = s.ended; answers = s.answers; clocks = s.clocks; reloads = s.reloads; left = l; begun = s.answer.begun; last = s.answer.last }) c.set.ensures ∙ ap (λ (v : Driving). with_packet v p) c.self.view_is in
    subst (λ (v : Driving). Fits v d first stored (packets ++ p ∷ []) clocks) (sym is) (fits_given c.args.self.now p d first stored packets clocks c.requires.over c.requires.more fit)
