use Rattle.std.proofs.Common.{true, sym, subst}
use Rattle.port_drive.specs.Driving.{Driving, Fits}
use Rattle.port_drive.proofs.DrivingLaws.{fits_ended}
use Rattle.port_drive.proofs.driver.Driver.end.Goals as goal

pub returns-clause-fits : goal.returns-clause-fits
returns-clause-fits c = λ d first s packets clocks fit.
    subst (λ (v : Driving). Fits (record v { ended = true }) d first s packets clocks) (sym c.self.view_is) (fits_ended c.args.self.now d first s packets clocks c.requires.few c.requires.last fit)
