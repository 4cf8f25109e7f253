use Rattle.std.proofs.Common.{◌≡◌, ◌-◌}
use Rattle.elf_view.specs.File.{e_shnum}
use Rattle.xdp_object.specs.Maps.{btf_section}
use Rattle.xdp_object.proofs.maps.btf_bytes.Given as goal
use Rattle.elf_view.specs.list_laws.Firsts.{first_from}

-- there is none so far
abbrev pub invariant-loop-i : goal.invariant-loop-i
invariant-loop-i l = first_from (btf_section l.view) 0 (e_shnum l.view) ≡ first_from (btf_section l.view) l.i (e_shnum l.view - l.i)
