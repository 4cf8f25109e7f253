-- The value that an operation leaves.
use Rattle.std.proofs.Common.{ℕ, List, length, drop, arith, length-drop}
use Rattle.xdp_maps.specs.declared.decl.MapDecl.{MapDecl}
use Rattle.xdp_maps.specs.Contents.{IsBytes}
use Rattle.xdp_maps.specs.Calls.{change_bytes}
use Rattle.xdp_maps.proofs.ByteLaws.{IsBytes-written}
use Rattle.cell_core.specs.xdp_machine.Memory.{bytes_in}
use Rattle.cell_core.specs.declared.site.Act.{Act}
use Rattle.cell_core.specs.declared.site.Act.TheVariants as act
use Rattle.cell_core.specs.Formed.{HasWords, IsInside}
use Rattle.cell_core.specs.Sites.{operation_with}
use Rattle.cell_core.proofs.SpelledLaws.{bytes_are}
use Rattle.hazard_core.specs.Overlay.{value_as}

pub value_bytes : (d : MapDecl) (a : Act) (key xs value : List ℕ) → IsBytes d.value value → HasWords d.value a (length xs) → IsInside d.value a → IsBytes d.value (value_as (operation_with d a key xs) value)
value_bytes d act.Update key xs value b words inside = bytes_are d.value (drop 1 xs) (omega (arith, words, length-drop 1 xs))
value_bytes d (act.Store at size) key xs value b words inside = IsBytes-written d.value at (bytes_in size) _ value b inside
value_bytes d (act.Atomic at a) key xs value b words inside = IsBytes-written d.value at (change_bytes a.wide) _ value b inside
value_bytes d act.Lookup key xs value b words inside = b
value_bytes d act.Delete key xs value b words inside = b
value_bytes d (act.Load at size) key xs value b words inside = b
