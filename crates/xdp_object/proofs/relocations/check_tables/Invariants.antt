use Rattle.std.proofs.Common.{◌≡◌, ◌-◌}
use Rattle.elf_view.specs.File.{e_shnum}
use Rattle.xdp_object.specs.Relocations.{cut_table}
use Rattle.xdp_object.proofs.relocations.check_tables.Given as goal
use Rattle.elf_view.specs.list_laws.Firsts.{first_from}

-- the tables so far are whole
abbrev pub invariant-loop-i : goal.invariant-loop-i
invariant-loop-i l =
    first_from (cut_table l.view l.target) 0 (e_shnum l.view) ≡ first_from (cut_table l.view l.target) l.i (e_shnum l.view - l.i)
