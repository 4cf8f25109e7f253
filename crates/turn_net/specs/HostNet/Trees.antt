-- The trees of the two blocks.
use Rattle.std.specs.Prelude.{List, [], ◌∷◌, map}
use Rattle.net_core.specs.declared.tree.Op.TheVariants.{And, Or, NotEqual}
use Rattle.net_core.specs.declared.tree.UnaryOp.TheVariants.{Not, ReduceOr}
use Rattle.net_core.specs.declared.ports.TheConstants.{HOST_WRITE}
use Rattle.net_core.specs.Nets.{Tree, TConst, TRead, TUnary, TBinary, TConditional, RPlain}
use Rattle.net_core.specs.Value.{word}
use Rattle.block_core.specs.declared.name.Name.{Name}
use Rattle.block_core.specs.Blocks.{BlockWireTree}
use Rattle.control_net.specs.declared.ring_net.names.Counter.TheVariants.{Given, Gathered}
use Rattle.control_net.specs.RingNet.Trees.{port, bit_wire, compared}
use Rattle.turn_net.specs.declared.host_net.names.HostNets.{HostNets}
use Rattle.turn_net.specs.declared.host_net.names.Wire.{Wire}
use Rattle.turn_net.specs.declared.host_net.names.Wire.TheVariants.{Idle, Ready}
use Rattle.turn_net.specs.HostNet.Names.{wire_name}

-- what one of these has, or the last one
abbrev pub any_of : {N : Type 0} → List (Tree N) → Tree N → Tree N
any_of [] last = last
any_of (t ∷ ts) last = TBinary Or t (any_of ts last)

-- ---- what the host may do
abbrev pub wire : {P : Type 0} → P → Wire → Tree (Name P)
wire part w = TRead (wire_name part w)

abbrev pub idle : {P : Type 0} → HostNets P → Tree (Name P)
idle nets = TBinary And (TUnary Not (TRead nets.partial)) (TUnary Not (compared nets.control NotEqual Gathered Given))

abbrev pub ready : {P : Type 0} → P → HostNets P → Tree (Name P)
ready part nets = TBinary Or (wire part Idle) (TUnary Not (TBinary And (TRead nets.present) (TUnary ReduceOr (TRead nets.done))))

abbrev pub writes : {P : Type 0} → P → List (Tree (Name P)) → Tree (Name P)
writes part may = TBinary And (TBinary And (wire part Ready) (port HOST_WRITE)) (any_of may (TConst (word 1 0)))

abbrev pub host_wires : {P : Type 0} → P → HostNets P → List (Tree (Name P)) → List (BlockWireTree (Name P))
host_wires part nets may = bit_wire (idle nets) ∷ bit_wire (ready part nets) ∷ bit_wire (writes part may) ∷ []

-- ---- what it reads
abbrev pub shown : {N : Type 0} → N → List N → Tree N
shown ready words = TConditional (TRead ready) (any_of (map TRead words) (TConst (word 64 0))) (TConst (word 64 0))

abbrev pub value_wires : {N : Type 0} → N → List N → List (BlockWireTree N)
value_wires ready words = record { width = 64; right = RPlain (shown ready words) } ∷ []
