use Rattle.std.proofs.Common.{◌≡◌, ◌-◌}
use Rattle.elf_view.specs.File.{e_shnum}
use Rattle.xdp_object.specs.Relocations.{rela_table}
use Rattle.xdp_object.proofs.relocations.check_no_rela.Given as goal
use Rattle.elf_view.specs.list_laws.Firsts.{first_from}

-- there is none so far
abbrev pub invariant-loop-i : goal.invariant-loop-i
invariant-loop-i l =
    first_from (rela_table l.view l.target) 0 (e_shnum l.view) ≡ first_from (rela_table l.view l.target) l.i (e_shnum l.view - l.i)
