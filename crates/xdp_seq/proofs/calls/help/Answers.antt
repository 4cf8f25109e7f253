use Rattle.xdp_seq.proofs.calls.help.Goals as goal

pub returns-in-Time : goal.returns-in-Time
returns-in-Time c = rw c.in-Time.is (c.packet_time.ensures c.args.frame.now c.args.maps.now)
