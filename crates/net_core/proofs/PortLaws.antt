-- What the outputs show is settled by the numbers at their places.
use Rattle.std.specs.Prelude.{nat_lt, if◌then◌else◌}
use Rattle.std.proofs.Common.{◌≡◌, ℕ, ◌<◌, Bool, true, false, refl, ap}
use Rattle.std.proofs.lemmas.Bool.{ltb-true}
use Rattle.net_core.specs.declared.ports.TheConstants.{PORT_COUNT}
use Rattle.net_core.specs.Ports.{outputs_at}

-- the numbers at the ports alone
abbrev at_ports : (ℕ → ℕ) → ℕ → ℕ
at_ports f port = if nat_lt port PORT_COUNT then f port else 0

pub outputs_same : (f g : ℕ → ℕ) → ((port : ℕ) → port < PORT_COUNT → f port ≡ g port) → outputs_at f ≡ outputs_at g
outputs_same f g h = ap outputs_at all
  where
    by_test : (port : ℕ) (t : Bool) → nat_lt port PORT_COUNT ≡ t → (if t then f port else 0) ≡ (if t then g port else 0)
    by_test port true e = h port (ltb-true port PORT_COUNT e)
    by_test port false e = refl

    each : (port : ℕ) → at_ports f port ≡ at_ports g port
    each port = by_test port (nat_lt port PORT_COUNT) refl

    all : at_ports f ≡ at_ports g
    all = λ i port. each port i
