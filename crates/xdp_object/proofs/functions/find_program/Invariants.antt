use Rattle.std.proofs.Common.{◌<◌, ◌&&◌}
use Rattle.std.specs.List.{filter, range_with_len}
use Rattle.std.specs.Option.{option_copied}
use Rattle.elf_view.specs.File.{e_shnum}
use Rattle.xdp_object.specs.Functions.{is_asked_for, is_function, symbol_of}
use Rattle.xdp_object.proofs.Searches.{Found}
use Rattle.xdp_object.proofs.functions.find_program.Given as goal

-- the functions so far that are asked for, and the last of them, whose section is one of the file
abbrev pub invariant-loop-n : goal.invariant-loop-n
invariant-loop-n l =
    Found (filter (λ n. is_function l.view n && is_asked_for (option_copied l.choice) l.view n) (range_with_len 0 l.n)) l.n l.count l.last
    × (0 < l.count → (symbol_of l.view l.last).section < e_shnum l.view)
