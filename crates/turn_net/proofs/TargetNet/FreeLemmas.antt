-- All slots of an array are used.
use Rattle.std.specs.Prelude.{not}
use Rattle.std.proofs.Common.{◌≡◌, length, List, subst, ap, arith}
use Rattle.std.proofs.lemmas.Bool.{and_parts}
use Rattle.std.proofs.lemmas.List.Sums.{position_or_len_is}
use Rattle.std.specs.Str.{bytes_eq}
use Rattle.hazard_core.specs.xdp_maps.Contents.{index_key}
use Rattle.hazard_core.specs.xdp_maps.declared.decl.MapDecl.{MapDecl}
use Rattle.hazard_core.specs.xdp_maps.declared.decl.MapKind.TheVariants.{Array}
use Rattle.hazard_core.specs.declared.slot.Slot.{Slot}
use Rattle.hazard_core.specs.Tables.{no_slot, slot_at, free_slot}
use Rattle.hazard_core.specs.Tabled.{IsTable, IsFilledTable}

pub array_full : (d : MapDecl) (slots : List Slot) → d.kind ≡ Array → IsTable d slots → free_slot slots ≡ length slots
array_full d slots e is =
    position_or_len_is (λ (s : Slot). not s.used) slots (length slots) no_slot (omega arith)
    (λ k l. ap not (and_parts (slot_at slots k).used (bytes_eq (slot_at slots k).key (index_key k)) (subst (λ a. IsFilledTable a slots) e is.filled k l)).0) (λ l. absurd (omega (arith, l)))
