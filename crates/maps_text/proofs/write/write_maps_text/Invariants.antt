-- what is written and what is to come are the text
use Rattle.std.proofs.Common.{◌≡◌, ◌-◌, ◌++◌, length}
use Rattle.maps_text.specs.Writing.{all_text, text_of}
use Rattle.maps_text.proofs.write.write_maps_text.Given as goal

abbrev pub invariant-loop-map : goal.invariant-loop-map
invariant-loop-map l = record {
  whole : l.map-end ≡ length l.maps.decls;
  written : l.text.items ++ all_text l.maps l.map (length l.maps.decls - l.map) ≡ text_of l.maps;
}
