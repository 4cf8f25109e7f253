-- Keys and values have the lengths that their maps declare.
use Rattle.std.proofs.Common.{◌≡◌, ◌∙◌, ℕ, ◌+◌, ◌≤◌, Bool, true, false, List, ◌++◌, length, take, drop, refl, arith}
use Rattle.std.proofs.lemmas.List.{length-take-le, length-drop, length-append}
use Rattle.byteorder.specs.Endian.{little_bytes}
use Rattle.cell_core.specs.bpf_isa.declared.operation.Size.{Size}
use Rattle.cell_core.specs.bpf_isa.declared.operation.Size.TheVariants.{B, H, W, Dw}
use Rattle.xdp_maps.specs.declared.decl.MapDecl.{MapDecl}
use Rattle.xdp_maps.specs.Calls.{patched, change_bytes}
use Rattle.cell_core.specs.xdp_machine.Memory.{bytes_in}
use Rattle.cell_core.specs.declared.site.Act.{Act}
use Rattle.cell_core.specs.declared.site.Act.TheVariants as act
use Rattle.cell_core.specs.Sites.{bytes_of, operation_with}
use Rattle.cell_core.specs.Formed.{HasWords, IsInside}
use Rattle.cell_core.proofs.SpelledLaws.{bytes_length}
use Rattle.hazard_core.specs.Overlay.{value_as}

patched_length : (n at : ℕ) (old bytes : List ℕ) → length bytes ≡ n → at + n ≤ length old → length (patched old at bytes) ≡ length old
patched_length n at old bytes e h =
    omega (arith, length-append (take at old ++ bytes) (drop (at + length bytes) old), length-append (take at old) bytes, length-take-le at old (omega arith), length-drop (at + length bytes) old, e)

size_length : (size : Size) (x : ℕ) → length (little_bytes (bytes_in size) x) ≡ bytes_in size
size_length B x = refl
size_length H x = refl
size_length W x = refl
size_length Dw x = refl

change_length : (wide : Bool) (x : ℕ) → length (little_bytes (change_bytes wide) x) ≡ change_bytes wide
change_length true x = refl
change_length false x = refl

-- what an operation leaves of a value is as long
pub value_length : (d : MapDecl) (a : Act) (ks xs old : List ℕ) → HasWords d.value a (length xs) → IsInside d.value a → length old ≡ d.value → length (value_as (operation_with d a ks xs) old) ≡ d.value
value_length d act.Lookup ks xs old w i e = e
value_length d (act.Load at size) ks xs old w i e = e
value_length d act.Update ks xs old w i e = bytes_length d.value (drop 1 xs) (omega (arith, w, length-drop 1 xs))
value_length d act.Delete ks xs old w i e = e
value_length d (act.Store at size) ks xs old w i e = patched_length (bytes_in size) at old _ (size_length size _) (omega (arith, i, e)) ∙ e
value_length d (act.Atomic at a) ks xs old w i e = patched_length (change_bytes a.wide) at old _ (change_length a.wide _) (omega (arith, i, e)) ∙ e
