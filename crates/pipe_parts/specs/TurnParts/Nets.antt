-- The nets of other parts that the host and what says which operation commits read, by how many parts of each sort there are.
use Rattle.block_core.specs.declared.name.Name.{Name}
use Rattle.block_core.specs.declared.name.Name.TheVariants as name
use Rattle.control_net.specs.declared.ring_net.shape.ControlShape.{ControlShape}
use Rattle.control_net.specs.declared.ring_net.names.Register.TheVariants.{Holds}
use Rattle.control_net.specs.RingNet.Names.{register_name}
use Rattle.control_net.specs.Names.{back_name}
use Rattle.turn_net.specs.declared.host_net.names.HostNets.{HostNets}
use Rattle.turn_net.specs.declared.host_net.names.Wire.TheVariants.{Idle, Writes}
use Rattle.turn_net.specs.HostNet.Names.{wire_name}
use Rattle.turn_net.specs.declared.nets.ActionNets.{ActionNets}
use Rattle.pipe_net.specs.declared.parts.Part.{Part}
use Rattle.pipe_net.specs.declared.parts.Sizes.{Sizes}
use Rattle.pipe_net.specs.Parts as part

abbrev pub idle_of : Sizes → Name Part
idle_of z = wire_name (part.host z) Idle

abbrev pub writes_of : Sizes → Name Part
writes_of z = wire_name (part.host z) Writes

abbrev pub present_of : Sizes → Name Part
present_of z = register_name (part.control z) (Holds z.commit)

abbrev pub host_nets_of : Sizes → HostNets Part
host_nets_of z = record { partial = name.Register (part.gather z) 0; present = present_of z; done = name.Register (part.action z) 0; control = part.control z }

abbrev pub action_nets_of : Sizes → ControlShape → ActionNets Part
action_nets_of z c = record { present = present_of z; back = back_name c (part.returns z) z.commit; host = writes_of z }
