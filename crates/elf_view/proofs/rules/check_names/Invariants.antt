use Rattle.std.proofs.Common.{◌≡◌, ◌-◌}
use Rattle.elf_view.specs.File.{e_shnum}
use Rattle.elf_view.specs.Rules.{name_open}
use Rattle.elf_view.proofs.rules.check_names.Given as goal
use Rattle.list_laws.specs.Firsts.{first_from}

-- the names so far end
abbrev pub invariant-loop-i : goal.invariant-loop-i
invariant-loop-i l =
    first_from (name_open l.bytes l.table) 0 (e_shnum l.bytes) ≡ first_from (name_open l.bytes l.table) l.i (e_shnum l.bytes - l.i)
