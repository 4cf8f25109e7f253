-- A beat that is offered, and what stands beside it.
use Rattle.beat_core.specs.Ports.{Offered, offered}
use Rattle.port_drive.specs.declared.frame_room.Offer.{Offer}

abbrev pub offered_of : Offer → Offered
offered_of o = offered o.ifindex o.time o.beat
