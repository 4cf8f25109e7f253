use Rattle.std.proofs.Common.{◌≡◌, ℕ, ◌-◌, ◌<◌}
use Rattle.elf_view.specs.File.{e_shnum, section_at}
use Rattle.elf_view.specs.Rules.{IsInside, section_outside}
use Rattle.elf_view.proofs.rules.check_spans.Given as goal
use Rattle.list_laws.specs.Firsts.{first_from}

-- the sections so far stand in the file
abbrev pub invariant-loop-i : goal.invariant-loop-i
invariant-loop-i l = record {
  rest : first_from (section_outside l.bytes) 0 (e_shnum l.bytes) ≡ first_from (section_outside l.bytes) l.i (e_shnum l.bytes - l.i);
  inside : (k : ℕ) → k < l.i → IsInside l.bytes (section_at l.bytes k);
}
