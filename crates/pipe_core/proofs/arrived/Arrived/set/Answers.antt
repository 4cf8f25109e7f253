use Rattle.std.proofs.Common.{sym, ap}
use Rattle.pipe_core.proofs.Arriving.{put_taken}
use Rattle.pipe_core.proofs.arrived.Arrived.set.Goals as goal

pub returns-then-at-self : goal.returns-then-at-self
returns-then-at-self c =
    rw (← c.self.view_is) (ap (λ bytes. record { ifindex = c.self.inside.ifindex; time = c.self.inside.time; frame = bytes }) (sym (put_taken c.self.inside.len c.self.inside.buffer.items c.args.at c.args.byte)))
