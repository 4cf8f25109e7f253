-- One step of the loops over the maps: what is left of a list, by its first item.
use Rattle.std.proofs.Common.{◌≡◌, ℕ, ◌+◌, ◌<◌, List, ◌++◌, length, get_or, drop, ap, ◌∙◌, sym}
use Rattle.std.proofs.lemmas.List.{append_assoc, at_drop_more}
use Rattle.elf_view.specs.Pieces.{symbol_bytes}
use Rattle.elf_view.specs.Layout.{map_names, map_symbol, map_symbols}
use Rattle.elf_view.specs.declared.object.MapRecord.{MapRecord}
use Rattle.elf_view.proofs.LengthLaws.{length-map_names-cons, length-strings, length-strings_no_maps}

-- the names from map i on are the name of map i and those after it
pub length-map_names-drop : (maps : List MapRecord) (i : ℕ) (d : MapRecord) → i < length maps
    → length (get_or maps i d).name.now + 1 + length (map_names (drop (i + 1) maps)) ≡ length (map_names (drop i maps))
length-map_names-drop maps i d h = sym (at_drop_more (λ ms. length (map_names ms)) maps i d h
    ∙ length-map_names-cons (get_or maps i d) (drop (i + 1) maps))

-- the symbols from map i on are the symbol of map i and those after it
pub map_symbols-drop : (out : List ℕ) (name_at value : ℕ) (maps : List MapRecord) (i : ℕ) (d : MapRecord) → i < length maps
    → out ++ symbol_bytes (map_symbol name_at value) ++ map_symbols (name_at + (length (get_or maps i d).name.now + 1)) (value + 20) (drop (i + 1) maps)
    ≡ out ++ map_symbols name_at value (drop i maps)
map_symbols-drop out name_at value maps i d h =
    append_assoc out (symbol_bytes (map_symbol name_at value)) (map_symbols (name_at + (length (get_or maps i d).name.now + 1)) (value + 20) (drop (i + 1) maps)) ∙ ap (λ ys. out ++ ys) (sym (at_drop_more (map_symbols name_at value) maps i d h))

pub ruleset loop_steps = (length-map_names-drop, map_symbols-drop, length-strings, length-strings_no_maps)
