-- A small object has no error.
use Rattle.std.proofs.Common.{◌≡◌, ℕ, ◌+◌, ◌-◌, ◌*◌, ◌%◌, ◌^◌, ◌<◌, ◌≤◌, List, [], ◌∷◌, ◌++◌, length, take, drop, replicate, Some, None, refl, sym, ap, ◌∙◌, arith}
use Rattle.std.proofs.lemmas.List.{append_assoc, drop_at, length-append, length_push, take_at}
use Rattle.elf_view.specs.Pieces.{elf_header}
use Rattle.elf_view.specs.File.{e_machine, e_shentsize, e_shnum, e_shoff, e_shstrndx, e_type, first_symtab, section_at, section_bytes, span_of, symtab_at}
use Rattle.elf_view.specs.Layout.{base_headers, code_section, headers_at, map_headers, map_names, no_section, object_layout, object_size, padded, padded_size, records, records_at, records_section, rels, rels_at, rels_section, section_count, sizes_of, strings, strings_at, strings_section, symbols, symbols_section}
use Rattle.elf_view.specs.Rules.{first_error, name_open, names_open, section_outside, sections_outside}
use Rattle.elf_view.specs.declared.sizes.Sizes.{Sizes}
use Rattle.elf_view.specs.declared.object.MapRecord.{MapRecord}
use Rattle.elf_view.proofs.LengthLaws.{length-elf_header, length-map_headers, length-object_layout, length-padded, length-strings, length-strings_no_maps, length-symbols, small_object}
use Rattle.elf_view.proofs.NoErrorLaws.{all_kept, four_none, is_string_table-true, name_open-none, names_there, no_short_file, no_short_headers, no_wrong_header, no_wrong_machine, no_wrong_symbols, section_at-place, section_outside-none, six_none, strings-end, symtab_at-none, symtab_at-some, third_of_four, third_of_six}
use Rattle.elf_view.proofs.PartLaws.{regrouped}
use Rattle.elf_view.proofs.ReadBack.{ReadsFour, ReadsTwo, front, header-ident, header-machine, header-shentsize, header-shnum, header-shoff, header-shstrndx, header-type, length-front, reads_four, reads_two}
use Rattle.list_laws.specs.Firsts.{first_from}

-- what the file header of a small object says
pub record Head (bytes : List ℕ) (at n : ℕ) : Type 0 where
  pub shoff : e_shoff bytes ≡ at
  pub shnum : e_shnum bytes ≡ n
  pub names : e_shstrndx bytes ≡ 3
  pub kind : e_type bytes ≡ 1
  pub machine : e_machine bytes ≡ 247
  pub entry : e_shentsize bytes ≡ 64
  pub ident : take 6 bytes ≡ 127 ∷ 69 ∷ 76 ∷ 70 ∷ 2 ∷ 1 ∷ []

head_of : (bytes rest : List ℕ) (at n : ℕ) → bytes ≡ elf_header at n ++ rest → at < 2 ^ 64 → n < 2 ^ 16 → Head bytes at n
head_of bytes rest at n e h k = record {
  shoff = ap e_shoff e ∙ header-shoff at n rest h;
  shnum = ap e_shnum e ∙ header-shnum at n rest k;
  names = ap e_shstrndx e ∙ header-shstrndx at n rest;
  kind = ap e_type e ∙ header-type at n rest;
  machine = ap e_machine e ∙ header-machine at n rest;
  entry = ap e_shentsize e ∙ header-shentsize at n rest;
  ident = ap (take 6) e ∙ header-ident at n rest;
}

-- the sections that every object has
pub record Sections (bytes : List ℕ) (s : Sizes) : Type 0 where
  pub none : section_at bytes 0 ≡ no_section
  pub code : section_at bytes 1 ≡ code_section s
  pub symbols : section_at bytes 2 ≡ symbols_section s
  pub strings : section_at bytes 3 ≡ strings_section s

sections_of : (bytes : List ℕ) (s : Sizes) → e_shoff bytes ≡ headers_at s → ReadsFour bytes (headers_at s) s → Sections bytes s
sections_of bytes s e four = record {
  none = section_at-place bytes (headers_at s) 0 (headers_at s) no_section e (omega arith) four.first;
  code = section_at-place bytes (headers_at s) 1 (headers_at s + 64) (code_section s) e (omega arith) four.code;
  symbols = section_at-place bytes (headers_at s) 2 (headers_at s + 128) (symbols_section s) e (omega arith) four.symbols;
  strings = section_at-place bytes (headers_at s) 3 (headers_at s + 192) (strings_section s) e (omega arith) four.strings;
}

-- their bytes stand in the file
record Inside (bytes : List ℕ) : Type 0 where
  none : section_outside bytes 0 ≡ None
  code : section_outside bytes 1 ≡ None
  symbols : section_outside bytes 2 ≡ None
  strings : section_outside bytes 3 ≡ None

inside_of : (bytes : List ℕ) (s : Sizes) → Sections bytes s → headers_at s ≤ length bytes → Inside bytes
inside_of bytes s x h = record {
  none = section_outside-none bytes 0 no_section x.none (omega arith);
  code = section_outside-none bytes 1 (code_section s) x.code (omega arith);
  symbols = section_outside-none bytes 2 (symbols_section s) x.symbols (omega arith);
  strings = section_outside-none bytes 3 (strings_section s) x.strings (omega arith);
}

-- their names end
record Named (bytes table : List ℕ) : Type 0 where
  none : name_open bytes table 0 ≡ None
  code : name_open bytes table 1 ≡ None
  symbols : name_open bytes table 2 ≡ None
  strings : name_open bytes table 3 ≡ None

named_of : (bytes table ys : List ℕ) (s : Sizes) → Sections bytes s → table ≡ ys ++ 0 ∷ [] → 21 ≤ length ys → Named bytes table
named_of bytes table ys s x e h = record {
  none = name_open-none bytes table ys 0 no_section x.none e (omega arith);
  code = name_open-none bytes table ys 1 (code_section s) x.code e (omega arith);
  symbols = name_open-none bytes table ys 2 (symbols_section s) x.symbols e (omega arith);
  strings = name_open-none bytes table ys 3 (strings_section s) x.strings e (omega arith);
}

-- the string table is a span of the object
strings_span : (name code : List ℕ) (maps : List MapRecord) (refs : List (ℕ × ℕ))
    → take (length (strings name maps)) (drop (strings_at (sizes_of name code maps refs)) (object_layout name code maps refs))
    ≡ strings name maps
unfolding object_layout
strings_span name code maps refs =
    let s = sizes_of name code maps refs in
    cut (elf_header (headers_at s) (section_count maps)) code (symbols (length name) (length code) maps) (rels refs)
    (padded (records maps)) (strings name maps) (replicate ((8 - length (strings name maps) % 8) % 8) 0) (base_headers s)
    (map_headers (length name) s maps) (padded_size (length (records maps)))
    (length-elf_header (headers_at s) (section_count maps)) (length-padded (records maps))
  where
    cut : (h c y r m t z b x : List ℕ) (p : ℕ) → length h ≡ 64 → length m ≡ p
        → take (length t) (drop (64 + length c + length y + length r + p) (h ++ c ++ y ++ r ++ m ++ (t ++ z) ++ b ++ x)) ≡ t
    cut h c y r m t z b x p lh lm =
        let f = h ++ c ++ y ++ r ++ m in
        let size : length f ≡ 64 + length c + length y + length r + p = omega (arith, length-append {A = ℕ}) in
        let whole : f ++ (t ++ z) ++ b ++ x ≡ f ++ (t ++ (z ++ (b ++ x))) = simp append_assoc in
        ap (λ ys. take (length t) (drop (64 + length c + length y + length r + p) ys)) whole
        ∙ ap (take (length t)) (drop_at f (t ++ (z ++ (b ++ x))) _ size) ∙ take_at t (z ++ (b ++ x)) (length t) refl

-- ---- what is read of the object

pub read_head : (name code : List ℕ) (maps : List MapRecord) (refs : List (ℕ × ℕ))
    → headers_at (sizes_of name code maps refs) ≤ 1048576
    → Head (object_layout name code maps refs) (headers_at (sizes_of name code maps refs)) (section_count maps)
unfolding object_layout
read_head name code maps refs h =
    let s = sizes_of name code maps refs in
    head_of (object_layout name code maps refs) _ (headers_at s) (section_count maps)
    (regrouped (elf_header (headers_at s) (section_count maps)) code (symbols (length name) (length code) maps) (rels refs)
    (padded (records maps)) (padded (strings name maps)) (base_headers s) (map_headers (length name) s maps))
    (omega arith) (few maps)
  where
    few : (maps : List MapRecord) → section_count maps < 2 ^ 16
    few [] = omega arith
    few (m ∷ ms) = omega arith

pub read_sections : (name code : List ℕ) (maps : List MapRecord) (refs : List (ℕ × ℕ))
    → headers_at (sizes_of name code maps refs) ≤ 1048576
    → Sections (object_layout name code maps refs) (sizes_of name code maps refs)
unfolding object_layout
read_sections name code maps refs h =
    let s = sizes_of name code maps refs in
    let head = read_head name code maps refs h in
    sections_of (object_layout name code maps refs) s head.shoff
    (reads_four (front name code maps refs) (map_headers (length name) s maps) s (length-front name code maps refs) h)

pub read_two : (name code : List ℕ) (m : MapRecord) (ms : List MapRecord) (refs : List (ℕ × ℕ))
    → headers_at (sizes_of name code (m ∷ ms) refs) ≤ 1048576 → length name ≤ 1048576
    → ReadsTwo (object_layout name code (m ∷ ms) refs) (headers_at (sizes_of name code (m ∷ ms) refs)) (length name) (sizes_of name code (m ∷ ms) refs)
unfolding object_layout
read_two name code m ms refs h k =
    reads_two (front name code (m ∷ ms) refs) (length name) (sizes_of name code (m ∷ ms) refs)
    (length-front name code (m ∷ ms) refs) h k

-- the bytes of section 3
pub read_strings : (name code : List ℕ) (maps : List MapRecord) (refs : List (ℕ × ℕ)) (bytes : List ℕ)
    → bytes ≡ object_layout name code maps refs → Sections bytes (sizes_of name code maps refs)
    → section_bytes bytes 3 ≡ strings name maps
read_strings name code maps refs bytes e x =
    ap (span_of bytes) x.strings
    ∙ ap (λ ys. take (length (strings name maps)) (drop (strings_at (sizes_of name code maps refs)) ys)) e
    ∙ strings_span name code maps refs

-- ---- the rules together

kept : (bytes : List ℕ) (s : Sizes) (n : ℕ) → Head bytes (headers_at s) n → Sections bytes s
    → headers_at s + 64 * n ≤ length bytes → 4 ≤ n → sections_outside bytes ≡ None → names_open bytes ≡ None
    → first_symtab bytes ≡ Some 2 → s.symbols % 24 ≡ 0 → first_error bytes ≡ None
kept bytes s n head x fits count outside named first whole =
    let table = is_string_table-true bytes 3 n (strings_section s) head.shnum (omega arith) x.strings refl in
    all_kept bytes (no_short_file bytes (omega arith)) (no_wrong_header bytes head.ident head.kind head.entry)
    (no_wrong_machine bytes head.machine) (no_short_headers bytes (omega (arith, head.shoff, head.shnum))) outside
    (names_there bytes head.names table) named
    (no_wrong_symbols bytes (symbols_section s) first x.symbols whole table)

-- the names of an object
open_names : (bytes table : List ℕ) → e_shstrndx bytes ≡ 3 → section_bytes bytes 3 ≡ table → section_bytes bytes (e_shstrndx bytes) ≡ table
open_names bytes table e h = ap (section_bytes bytes) e ∙ h

four_names : (bytes table : List ℕ) → section_bytes bytes (e_shstrndx bytes) ≡ table → e_shnum bytes ≡ 4 → Named bytes table → names_open bytes ≡ None
unfolding names_open
four_names bytes table e n x =
    ap (λ t. first_from (name_open bytes t) 0 (e_shnum bytes)) e
    ∙ four_none (name_open bytes table) (e_shnum bytes) n x.none x.code x.symbols x.strings

six_names : (bytes table : List ℕ) → section_bytes bytes (e_shstrndx bytes) ≡ table → e_shnum bytes ≡ 6 → Named bytes table
    → name_open bytes table 4 ≡ None → name_open bytes table 5 ≡ None → names_open bytes ≡ None
unfolding names_open
six_names bytes table e n x a b =
    ap (λ t. first_from (name_open bytes t) 0 (e_shnum bytes)) e
    ∙ six_none (name_open bytes table) (e_shnum bytes) n x.none x.code x.symbols x.strings a b

four_inside : (bytes : List ℕ) → e_shnum bytes ≡ 4 → Inside bytes → sections_outside bytes ≡ None
unfolding sections_outside
four_inside bytes n x = four_none (section_outside bytes) (e_shnum bytes) n x.none x.code x.symbols x.strings

six_inside : (bytes : List ℕ) → e_shnum bytes ≡ 6 → Inside bytes → section_outside bytes 4 ≡ None → section_outside bytes 5 ≡ None
    → sections_outside bytes ≡ None
unfolding sections_outside
six_inside bytes n x a b = six_none (section_outside bytes) (e_shnum bytes) n x.none x.code x.symbols x.strings a b

four_symtab : (bytes : List ℕ) (s : Sizes) → e_shnum bytes ≡ 4 → Sections bytes s → first_symtab bytes ≡ Some 2
unfolding first_symtab
four_symtab bytes s n x =
    third_of_four (symtab_at bytes) (e_shnum bytes) 2 n (symtab_at-none bytes 0 no_section x.none refl)
    (symtab_at-none bytes 1 (code_section s) x.code refl) (symtab_at-some bytes 2 (symbols_section s) x.symbols refl)

six_symtab : (bytes : List ℕ) (s : Sizes) → e_shnum bytes ≡ 6 → Sections bytes s → first_symtab bytes ≡ Some 2
unfolding first_symtab
six_symtab bytes s n x =
    third_of_six (symtab_at bytes) (e_shnum bytes) 2 n (symtab_at-none bytes 0 no_section x.none refl)
    (symtab_at-none bytes 1 (code_section s) x.code refl) (symtab_at-some bytes 2 (symbols_section s) x.symbols refl)

whole_symbols : (name_len size : ℕ) (maps : List MapRecord) → length (symbols name_len size maps) % 24 ≡ 0
whole_symbols name_len size maps = omega (arith, length-symbols name_len size maps)

-- an object that is small enough is one that is read
pub opens : (name code : List ℕ) (maps : List MapRecord) (refs : List (ℕ × ℕ)) → object_size name code maps refs ≤ 1048576
    → first_error (object_layout name code maps refs) ≡ None
opens name code [] refs fits =
    let small = small_object name code [] refs fits in
    let bytes = object_layout name code [] refs in
    let s = sizes_of name code [] refs in
    let head = read_head name code [] refs small.headers in
    let x = read_sections name code [] refs small.headers in
    let size = length-object_layout name code [] refs in
    let table = read_strings name code [] refs bytes refl x in
    let ends = strings-end name [] in
    let long : 22 + length name ≡ length ends.0 + 1 =
    sym (length-strings_no_maps name [] refl) ∙ ap length ends.1 ∙ length_push ends.0 0 in
    let named = named_of bytes (strings name []) ends.0 s x ends.1 (omega arith) in
    kept bytes s 4 head x (reach (length bytes) (headers_at s) size) (omega arith)
    (four_inside bytes head.shnum (inside_of bytes s x (within (length bytes) (headers_at s) size)))
    (four_names bytes (strings name []) (open_names bytes (strings name []) head.names table) head.shnum named)
    (four_symtab bytes s head.shnum x) (whole_symbols (length name) (length code) [])
  where
    reach : (n h : ℕ) → n ≡ h + 256 + 0 → h + 64 * 4 ≤ n
    reach n h e = omega arith

    within : (n h : ℕ) → n ≡ h + 256 + 0 → h ≤ n
    within n h e = omega arith
opens name code (m ∷ ms) refs fits =
    let maps = m ∷ ms in
    let small = small_object name code maps refs fits in
    let bytes = object_layout name code maps refs in
    let s = sizes_of name code maps refs in
    let head = read_head name code maps refs small.headers in
    let x = read_sections name code maps refs small.headers in
    let two = read_two name code m ms refs small.headers (omega (arith, small.names_fit)) in
    let recs = section_at-place bytes (headers_at s) 4 (headers_at s + 256) (records_section (length name) s) head.shoff (omega arith) two.records in
    let refs' = section_at-place bytes (headers_at s) 5 (headers_at s + 320) (rels_section (length name) s) head.shoff (omega arith) two.rels in
    let size = length-object_layout name code maps refs in
    let tail = length-map_headers (length name) s maps in
    let table = read_strings name code maps refs bytes refl x in
    let ends = strings-end name maps in
    let long : 35 + length name + length (map_names maps) ≡ length ends.0 + 1 =
    sym (length-strings name maps (omega arith)) ∙ ap length ends.1 ∙ length_push ends.0 0 in
    let named = named_of bytes (strings name maps) ends.0 s x ends.1 (omega arith) in
    let a = name_open-none bytes (strings name maps) ends.0 4 (records_section (length name) s) recs ends.1 (omega arith) in
    let b = name_open-none bytes (strings name maps) ends.0 5 (rels_section (length name) s) refs' ends.1 (omega arith) in
    let most = reach (length bytes) (headers_at s) (length (map_headers (length name) s maps)) size tail in
    kept bytes s 6 head x most (omega arith)
    (six_inside bytes head.shnum (inside_of bytes s x (within (length bytes) (headers_at s) most))
    (section_outside-none bytes 4 (records_section (length name) s) recs (below_records s (length bytes) most))
    (section_outside-none bytes 5 (rels_section (length name) s) refs' (below_rels s (length bytes) most)))
    (six_names bytes (strings name maps) (open_names bytes (strings name maps) head.names table) head.shnum named a b)
    (six_symtab bytes s head.shnum x) (whole_symbols (length name) (length code) maps)
  where
    reach : (n h t : ℕ) → n ≡ h + 256 + t → t + 256 ≡ 64 * 6 → h + 64 * 6 ≤ n
    reach n h t e g = omega arith

    within : (n h : ℕ) → h + 64 * 6 ≤ n → h ≤ n
    within n h e = omega arith

    below_records : (s : Sizes) (n : ℕ) → headers_at s + 64 * 6 ≤ n → records_at s + s.records ≤ n
    below_records s n h = omega arith

    below_rels : (s : Sizes) (n : ℕ) → headers_at s + 64 * 6 ≤ n → rels_at s + s.rels ≤ n
    below_rels s n h = omega arith
