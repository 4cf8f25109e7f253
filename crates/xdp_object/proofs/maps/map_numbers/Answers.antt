use Rattle.std.proofs.Common.{ap, arith}
use Rattle.elf_view.specs.declared.parts.Symbol.{Symbol}
use Rattle.xdp_object.proofs.MapLemmas.{map_symbol_entry, map_symbol_section}
use Rattle.xdp_object.proofs.maps.map_numbers.Goals as goal

pub symbol-symbol-requires : goal.symbol-symbol-requires
symbol-symbol-requires c = map_symbol_entry c.args.view.now c.args.n c.requires.map

pub has_name-requires-clause-section : goal.has_name-requires-clause-section
has_name-requires-clause-section c =
    omega (arith, c.from-section.ensures, ap (λ (s : Symbol). s.section) c.symbol-symbol.ensures, map_symbol_section c.args.view.now c.args.n c.requires.map)

pub bytes_of-requires : goal.bytes_of-requires
bytes_of-requires c =
    omega (arith, c.from-section.ensures, ap (λ (s : Symbol). s.section) c.symbol-symbol.ensures, map_symbol_section c.args.view.now c.args.n c.requires.map)
