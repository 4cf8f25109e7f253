use Rattle.std.proofs.Common.{◌≡◌, ◌-◌, ◌<◌, ℕ, length, get_or}
use Rattle.elf_view.specs.File.{e_shnum}
use Rattle.xdp_object.specs.declared.relocated.Relocated.TheVariants.{Untouched}
use Rattle.xdp_object.specs.Relocations.{both, said_by_section, together}
use Rattle.xdp_object.proofs.relocations.note_all.Given as goal

-- what all sections say of each place is what those so far say, and those that are left
abbrev pub invariant-loop-i : goal.invariant-loop-i
invariant-loop-i l = record {
  len : length l.places ≡ length l.initial.places;
  said : (p : ℕ) → p < length l.initial.places → together (said_by_section l.view l.function p) 0 (e_shnum l.view)
      ≡ both (get_or l.places p Untouched) (together (said_by_section l.view l.function p) l.i (e_shnum l.view - l.i));
}
