use Rattle.std.proofs.Common.{[], List, false, sym, ap, ◌∙◌, subst}
use Rattle.beat_core.specs.Ports.{Offered}
use Rattle.port_drive.specs.Driving.{Driving, Taking, Fits}
use Rattle.port_drive.proofs.DrivingLaws.{fits_none}
use Rattle.port_drive.proofs.driver.Driver.open.Goals as goal

pub returns-clause-fits : goal.returns-clause-fits
returns-clause-fits c = λ d s.
    let room = c.in_ok-answer.answer in
    let is = ap (λ (l : List Offered). record { ifindex = c.args.ifindex; limit = c.args.limit; given = 0; ended = false; answers = 0; clocks = 0; reloads = 0; left = l; begun = room.begun; last = room.last }) c.in_ok-frame.ensures
    ∙ ap (λ (t : Taking). record { ifindex = c.args.ifindex; limit = c.args.limit; given = 0; ended = false; answers = 0; clocks = 0; reloads = 0; left = []; begun = t.begun; last = t.last }) c.in_ok-answer.ensures in
    subst (λ (v : Driving). Fits v d s s [] []) (sym is) (fits_none c.args.ifindex c.args.limit d s)
