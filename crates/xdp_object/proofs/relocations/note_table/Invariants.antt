use Rattle.std.proofs.Common.{◌≡◌, ◌-◌, ◌<◌, ℕ, length, get_or}
use Rattle.elf_view.specs.File.{entry_count, rel_at, section_bytes}
use Rattle.xdp_object.specs.declared.relocated.Relocated.TheVariants.{Untouched}
use Rattle.xdp_object.specs.Relocations.{both, said_by_table, said_of, together}
use Rattle.xdp_object.proofs.relocations.note_table.Given as goal

-- what the table says of each place is what the entries so far say, and those that are left
abbrev pub invariant-loop-k : goal.invariant-loop-k
invariant-loop-k l = record {
  len : length l.places ≡ length l.initial.places;
  said : (p : ℕ) → p < length l.initial.places → both (get_or l.initial.places p Untouched) (said_by_table l.view l.function p l.i)
      ≡ both (get_or l.places p Untouched)
      (together (λ k. said_of l.view l.function p (rel_at (section_bytes l.view l.i) k)) l.k (entry_count 16 (section_bytes l.view l.i) - l.k));
}
