-- What values in memory stand for.
use Rattle.std.specs.Prelude.{ℕ, List, take}
use Rattle.xdp_machine.specs.Values as seen
use Rattle.xdp_state.specs.declared.value.Key.{Key}
use Rattle.xdp_state.specs.declared.value.Value.{Value}
use Rattle.xdp_state.specs.declared.value.Value.TheVariants.{Unset, Number, Packet, Stack, Context, Map, Entry}

abbrev pub key_of : Key → List ℕ
key_of k = take k.len k.bytes

abbrev pub value_of : Value → seen.Value
value_of Unset = seen.Unset
value_of (Number n) = seen.Number n
value_of (Packet o) = seen.Packet o
value_of (Stack o) = seen.Stack o
value_of Context = seen.Context
value_of (Map q) = seen.Map q
value_of (Entry q o key) = seen.Entry q (key_of key) o
