use Rattle.std.proofs.Common.{◌≡◌, length, arith}
use Rattle.port_drive.proofs.GivingLaws.{ended_on}
use Rattle.port_drive.proofs.driving.give_next.Goals as goal

pub returns-else-next-frames : goal.returns-else-next-frames
returns-else-next-frames c =
    let all : c.args.driver.now.given ≡ length c.args.frames.now = omega (arith, c.requires.given, c.if-next-frames.false, c.given-next.ensures) in
    ended_on c.args.frames.now c.args.driver.now c.end.new.self c.end.ensures.view all c.requires.needs.1 c.end.ensures.fits
