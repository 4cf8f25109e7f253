use Rattle.std.proofs.Common.{◌≡◌, ◌-◌}
use Rattle.elf_view.specs.File.{e_shnum, symtab_at}
use Rattle.elf_view.proofs.rules.first_symtab.Given as goal
use Rattle.list_laws.specs.Firsts.{first_from}

-- there was no symbol table so far
abbrev pub invariant-loop-i : goal.invariant-loop-i
invariant-loop-i l =
    first_from (symtab_at l.bytes) 0 (e_shnum l.bytes) ≡ first_from (symtab_at l.bytes) l.i (e_shnum l.bytes - l.i)
