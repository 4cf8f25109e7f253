-- What is read of the least object of a function: its sections, its symbols and its code.
use Rattle.std.proofs.Common.{◌≡◌, ◌∙◌, ℕ, suc, zero, ◌+◌, ◌*◌, ◌/◌, ◌%◌, ◌<◌, ◌≤◌, ◌==◌, ◌&&◌, nat_eq, Bool, true, false, cond, ltb, Option, Some, None, List, [], ◌∷◌, ◌++◌, length, take, drop, filter, codes, refl, sym, ap, subst, arith}
use Rattle.std.proofs.lemmas.Bool.{lt-ltb, le-ltb}
use Rattle.std.proofs.lemmas.Bool.Decides.{nat_tests}
use Rattle.std.proofs.lemmas.Grind.{flat_map-append}
use Rattle.std.proofs.lemmas.List.{append_assoc, drop_at, take_at, length-append}
use Rattle.std.proofs.lemmas.Slice.Eq.{bytes_eq-Decides}
use Rattle.std.specs.List.{range_with_len, starts_with}
use Rattle.std.specs.Option.{is_some, option_map, option_map_or, option_or}
use Rattle.std.specs.Str.{bytes_eq}
use Rattle.elf_view.specs.declared.object.MapRecord.{MapRecord}
use Rattle.elf_view.specs.declared.parts.Section.{Section}
use Rattle.elf_view.specs.declared.parts.Symbol.{Symbol}
use Rattle.elf_view.specs.declared.sizes.Sizes.{Sizes}
use Rattle.elf_view.specs.Pieces.{elf_header, symbol_bytes}
use Rattle.elf_view.specs.File.{e_shnum, e_shstrndx, entry_count, first_symtab, section_at, section_bytes, span_of, string_at, symbol_at, symbol_table, symbols_of, symtab_at}
use Rattle.elf_view.specs.Layout.{base_headers, code_section, function_symbol, headers_at, map_headers, map_names, map_strings, map_symbol, map_symbols, no_section, no_symbol, object_layout, object_size, padded, records, rels, section_count, sizes_of, strings, symbols, symbols_section, text}
use Rattle.elf_view.specs.Rules.{first_error}
use Rattle.elf_view.specs.declared.error.ElfError.TheVariants.{At, Section as ElfSection}
use Rattle.elf_view.proofs.LengthLaws.{length-elf_header, length-map_names-cons, length-map_symbols, length-object, length-symbol_bytes, length-symbols, small_object}
use Rattle.elf_view.proofs.NoErrorLaws.{symtab_at-none, symtab_at-some, third_of_four, third_of_six}
use Rattle.elf_view.proofs.PartLaws.{regrouped}
use Rattle.elf_view.proofs.OpenLaws.{Sections, opens, read_head, read_sections, read_strings}
use Rattle.elf_view.proofs.WrittenLaws.{symbol_at-written}
use Rattle.xdp_object.specs.declared.error.ObjectError.TheVariants.{Elf, Long, Odd}
use Rattle.xdp_object.specs.Functions.{is_asked_for, is_code_section, is_function, programs, section_name, symbol_name, symbol_of, symbol_strings}
use Rattle.xdp_object.specs.Object.{first_fault, odd_units, open_name, outside, too_long, wrong_elf, wrong_function}
use Rattle.xdp_object.proofs.Strings.{Letters, string_there, xdp_letters}

-- ---- the parts of the object

-- a part is a span
pub part_span : (front part rest bytes : List ℕ) (at : ℕ) → bytes ≡ front ++ (part ++ rest) → length front ≡ at → take (length part) (drop at bytes) ≡ part
part_span front part rest bytes at e size =
    ap (λ ys. take (length part) (drop at ys)) e ∙ ap (take (length part)) (drop_at front (part ++ rest) at size) ∙ take_at part rest (length part) refl

code_span : (name code : List ℕ) (maps : List MapRecord) (refs : List (ℕ × ℕ)) → take (length code) (drop 64 (object_layout name code maps refs)) ≡ code
unfolding object_layout
code_span name code maps refs =
    let s = sizes_of name code maps refs in
    part_span (elf_header (headers_at s) (section_count maps)) code _ (object_layout name code maps refs) 64
    (regrouped (elf_header (headers_at s) (section_count maps)) code (symbols (length name) (length code) maps) (rels refs) (padded (records maps)) (padded (strings name maps)) (base_headers s) (map_headers (length name) s maps))
    (length-elf_header (headers_at s) (section_count maps))

symbols_span : (name code : List ℕ) (maps : List MapRecord) (refs : List (ℕ × ℕ))
    → take (length (symbols (length name) (length code) maps)) (drop (64 + length code) (object_layout name code maps refs)) ≡ symbols (length name) (length code) maps
unfolding object_layout
symbols_span name code maps refs =
    let s = sizes_of name code maps refs in
    let h = elf_header (headers_at s) (section_count maps) in
    part_span (h ++ code) (symbols (length name) (length code) maps) _ (object_layout name code maps refs) (64 + length code)
    (behind h code (symbols (length name) (length code) maps) (rels refs) (padded (records maps)) (padded (strings name maps)) (base_headers s) (map_headers (length name) s maps))
    (omega (arith, length-append h code, length-elf_header (headers_at s) (section_count maps)))
  where
    behind : (h c y r m t b x : List ℕ) → h ++ c ++ y ++ r ++ m ++ t ++ b ++ x ≡ (h ++ c) ++ (y ++ (r ++ (m ++ (t ++ (b ++ x)))))
    behind h c y r m t b x = simp append_assoc

-- what is seen of it
pub record Seen (bytes name code : List ℕ) (maps : List MapRecord) (refs : List (ℕ × ℕ)) : Type 0 where
  pub no_error : first_error bytes ≡ None
  pub size : length bytes ≤ 1048576
  pub small : length code ≤ 1048576
  pub few : length maps ≤ 52428
  pub short : length name + length (map_names maps) ≤ 1048576
  pub count : e_shnum bytes ≡ section_count maps
  pub names : e_shstrndx bytes ≡ 3
  pub sections : Sections bytes (sizes_of name code maps refs)
  pub code_bytes : section_bytes bytes 1 ≡ code
  pub symbol_bytes : section_bytes bytes 2 ≡ symbols (length name) (length code) maps
  pub strings_bytes : section_bytes bytes 3 ≡ strings name maps
  pub symtab : first_symtab bytes ≡ Some 2

symtab_is : (bytes : List ℕ) (s : Sizes) (maps : List MapRecord) → e_shnum bytes ≡ section_count maps → Sections bytes s → first_symtab bytes ≡ Some 2
unfolding first_symtab
symtab_is bytes s [] count x =
    third_of_four (symtab_at bytes) (e_shnum bytes) 2 count (symtab_at-none bytes 0 no_section x.none refl)
    (symtab_at-none bytes 1 (code_section s) x.code refl) (symtab_at-some bytes 2 (symbols_section s) x.symbols refl)
symtab_is bytes s (m ∷ ms) count x =
    third_of_six (symtab_at bytes) (e_shnum bytes) 2 count (symtab_at-none bytes 0 no_section x.none refl)
    (symtab_at-none bytes 1 (code_section s) x.code refl) (symtab_at-some bytes 2 (symbols_section s) x.symbols refl)

pub seen : (name code : List ℕ) (maps : List MapRecord) (refs : List (ℕ × ℕ)) → object_size name code maps refs ≤ 1048576
    → Seen (object_layout name code maps refs) name code maps refs
seen name code maps refs fits =
    let bytes = object_layout name code maps refs in
    let small = small_object name code maps refs fits in
    let head = read_head name code maps refs small.headers in
    let x = read_sections name code maps refs small.headers in
    record {
      no_error = opens name code maps refs fits;
      size = omega (arith, length-object name code maps refs, fits);
      small = omega (arith, small.headers);
      few = small.maps_fit;
      short = small.names_fit;
      count = head.shnum;
      names = head.names;
      sections = x;
      code_bytes = ap (span_of bytes) x.code ∙ code_span name code maps refs;
      symbol_bytes = ap (span_of bytes) x.symbols ∙ symbols_span name code maps refs;
      strings_bytes = read_strings name code maps refs bytes refl x;
      symtab = symtab_is bytes (sizes_of name code maps refs) maps head.shnum x;
    }

-- ---- its strings

xdp_there : (name : List ℕ) (maps : List MapRecord) → string_at (strings name maps) 1 ≡ Some (codes "xdp")
unfolding text
xdp_there name maps = string_there (strings name maps) (codes "xdp") (drop 5 (strings name maps)) 1 xdp_letters refl

name_there : (name : List ℕ) (maps : List MapRecord) → Letters name → string_at (strings name maps) 21 ≡ Some name
unfolding text
name_there name maps h = string_there (strings name maps) name (map_strings maps) 21 h (append_assoc name (0 ∷ []) (map_strings maps))

-- ---- its symbols

pub table_is : (bytes name code : List ℕ) (maps : List MapRecord) (refs : List (ℕ × ℕ)) → Seen bytes name code maps refs
    → symbol_table bytes ≡ symbols (length name) (length code) maps
table_is bytes name code maps refs h = ap (symbols_of bytes) h.symtab ∙ h.symbol_bytes

pub symbol_count : (bytes name code : List ℕ) (maps : List MapRecord) (refs : List (ℕ × ℕ)) → Seen bytes name code maps refs
    → entry_count 24 (symbol_table bytes) ≡ 2 + length maps
symbol_count bytes name code maps refs h =
    ap (entry_count 24) (table_is bytes name code maps refs h) ∙ counted (symbols (length name) (length code) maps) (length maps) (length-symbols (length name) (length code) maps) h.few
  where
    counted : (xs : List ℕ) (n : ℕ) → length xs ≡ 24 * (2 + n) → n ≤ 52428 → entry_count 24 xs ≡ 2 + n
    counted xs n e few = omega (arith, e)

first_symbol : (bytes name code : List ℕ) (maps : List MapRecord) (refs : List (ℕ × ℕ)) → Seen bytes name code maps refs → symbol_of bytes 0 ≡ no_symbol
first_symbol bytes name code maps refs h =
    ap (λ t. symbol_at t 0) (table_is bytes name code maps refs h ∙ append_assoc (symbol_bytes no_symbol) (symbol_bytes (function_symbol (length code))) (map_symbols (35 + length name) 0 maps))
    ∙ symbol_at-written [] no_symbol (symbol_bytes (function_symbol (length code)) ++ map_symbols (35 + length name) 0 maps) 0 refl
    (record { name = omega arith; section = omega arith; value = omega arith; size = omega arith })

pub second_symbol : (bytes name code : List ℕ) (maps : List MapRecord) (refs : List (ℕ × ℕ)) → Seen bytes name code maps refs
    → symbol_of bytes 1 ≡ function_symbol (length code)
second_symbol bytes name code maps refs h =
    ap (λ t. symbol_at t 1) (table_is bytes name code maps refs h ∙ append_assoc (symbol_bytes no_symbol) (symbol_bytes (function_symbol (length code))) (map_symbols (35 + length name) 0 maps))
    ∙ symbol_at-written (symbol_bytes no_symbol) (function_symbol (length code)) (map_symbols (35 + length name) 0 maps) 1 (length-symbol_bytes no_symbol)
    (record { name = omega arith; section = omega arith; value = omega arith; size = omega (arith, h.small) })

-- the symbols of some maps, and of others after them
map_symbols-append : (name_at value : ℕ) (before after : List MapRecord)
    → map_symbols name_at value (before ++ after) ≡ map_symbols name_at value before ++ map_symbols (name_at + length (map_names before)) (value + 20 * length before) after
map_symbols-append name_at value [] after =
    let a : name_at ≡ name_at + 0 = omega arith in
    let b : value ≡ value + 20 * 0 = omega arith in
    ap (λ n. map_symbols n value after) a ∙ ap (λ v. map_symbols (name_at + 0) v after) b
map_symbols-append name_at value (m ∷ before) after =
    let one = symbol_bytes (map_symbol name_at value) in
    let a : name_at + (length m.name.now + 1) + length (map_names before) ≡ name_at + length (map_names (m ∷ before)) = omega (arith, length-map_names-cons m before) in
    let b : value + 20 + 20 * length before ≡ value + 20 * length (m ∷ before) = omega arith in
    let front = map_symbols (name_at + (length m.name.now + 1)) (value + 20) before in
    ap (λ xs. one ++ xs) (map_symbols-append (name_at + (length m.name.now + 1)) (value + 20) before after)
    ∙ ap (λ n. one ++ (front ++ map_symbols n (value + 20 + 20 * length before) after)) a
    ∙ ap (λ v. one ++ (front ++ map_symbols (name_at + length (map_names (m ∷ before))) v after)) b
    ∙ sym (append_assoc one front (map_symbols (name_at + length (map_names (m ∷ before))) (value + 20 * length (m ∷ before)) after))

-- the symbol of a map
abbrev pub symbol_of_map : (name_len : ℕ) (before : List MapRecord) → Symbol
symbol_of_map name_len before = map_symbol (35 + name_len + length (map_names before)) (0 + 20 * length before)

names_longer : (before : List MapRecord) (m : MapRecord) (after : List MapRecord) → length (map_names before) ≤ length (map_names (before ++ m ∷ after))
names_longer before m after =
    omega (arith, ap length (flat_map-append (λ (m : MapRecord). text m.name.now) before (m ∷ after)), length-append (map_names before) (map_names (m ∷ after)))

pub map_symbol_there : (bytes name code : List ℕ) (before : List MapRecord) (m : MapRecord) (after : List MapRecord) (refs : List (ℕ × ℕ))
    → Seen bytes name code (before ++ m ∷ after) refs → symbol_of bytes (2 + length before) ≡ symbol_of_map (length name) before
map_symbol_there bytes name code before m after refs h =
    let two = symbol_bytes no_symbol ++ symbol_bytes (function_symbol (length code)) in
    let front = map_symbols (35 + length name) 0 before in
    let s = symbol_of_map (length name) before in
    let rest = map_symbols (35 + length name + length (map_names before) + (length m.name.now + 1)) (0 + 20 * length before + 20) after in
    let whole : symbol_table bytes ≡ (two ++ front) ++ (symbol_bytes s ++ rest) =
    table_is bytes name code (before ++ m ∷ after) refs h ∙ ap (λ xs. two ++ xs) (map_symbols-append (35 + length name) 0 before (m ∷ after))
    ∙ sym (append_assoc two front (symbol_bytes s ++ rest)) in
    let place : length (two ++ front) ≡ 24 * (2 + length before) =
    omega (arith, length-append two front, length-append (symbol_bytes no_symbol) (symbol_bytes (function_symbol (length code))), length-symbol_bytes no_symbol, length-symbol_bytes (function_symbol (length code)), length-map_symbols (35 + length name) 0 before) in
    let few : length before ≤ 52428 = omega (arith, h.few, length-append before (m ∷ after)) in
    ap (λ t. symbol_at t (2 + length before)) whole
    ∙ symbol_at-written (two ++ front) s rest (2 + length before) place
    (record { name = omega (arith, h.short, names_longer before m after); section = omega arith; value = omega (arith, few); size = omega arith })

-- a list at one of its places
pub record Split {X : Type 0} (xs : List X) (k : ℕ) : Type 0 where
  pub before : List X
  pub here : X
  pub after : List X
  pub whole : xs ≡ before ++ here ∷ after
  pub place : length before ≡ k

pub split : {X : Type 0} (xs : List X) (k : ℕ) → k < length xs → Split xs k
split [] k h = absurd (omega arith)
split (x ∷ xs) zero h = record { before = []; here = x; after = xs; whole = refl; place = refl }
split (x ∷ xs) (suc k) h =
    let s = split xs k (omega arith) in
    record { before = x ∷ s.before; here = s.here; after = s.after; whole = ap (λ ys. x ∷ ys) s.whole; place = ap suc s.place }

-- it is no function
no_function_of_map : (bytes name code : List ℕ) (maps : List MapRecord) (refs : List (ℕ × ℕ)) → Seen bytes name code maps refs → (k : ℕ) → k < length maps
    → is_function bytes (2 + k) ≡ false
no_function_of_map bytes name code maps refs h k below =
    let s = split maps k below in
    let there = map_symbol_there bytes name code s.before s.here s.after refs (subst (λ (ms : List MapRecord). Seen bytes name code ms refs) s.whole h) in
    ap (λ n. is_function bytes (2 + n)) (sym s.place)
    ∙ ap (λ (z : Symbol). (z.info % 16 == 2) && ltb 0 z.size && is_code_section bytes z.section) there

-- ---- its function

no_function : (bytes name code : List ℕ) (maps : List MapRecord) (refs : List (ℕ × ℕ)) → Seen bytes name code maps refs → is_function bytes 0 ≡ false
no_function bytes name code maps refs h =
    ap (λ (s : Symbol). (s.info % 16 == 2) && ltb 0 s.size && is_code_section bytes s.section) (first_symbol bytes name code maps refs h)

some_sections : (maps : List MapRecord) → ltb 1 (section_count maps) ≡ true
some_sections [] = refl
some_sections (m ∷ ms) = refl

code_there : (bytes name code : List ℕ) (maps : List MapRecord) (refs : List (ℕ × ℕ)) → Seen bytes name code maps refs → is_code_section bytes 1 ≡ true
code_there bytes name code maps refs h =
    ap (λ (s : Section). ltb 1 (e_shnum bytes) && (s.kind == 1) && (s.flags / 4 % 2 == 1)) h.sections.code
    ∙ ap (λ (n : ℕ). ltb 1 n && true && true) h.count ∙ ap (λ b. b && true && true) (some_sections maps)

a_function : (bytes name code : List ℕ) (maps : List MapRecord) (refs : List (ℕ × ℕ)) → Seen bytes name code maps refs → 0 < length code → is_function bytes 1 ≡ true
a_function bytes name code maps refs h some =
    ap (λ (s : Symbol). (s.info % 16 == 2) && ltb 0 s.size && is_code_section bytes s.section) (second_symbol bytes name code maps refs h)
    ∙ ap (λ b. true && b && is_code_section bytes 1) (lt-ltb 0 (length code) some)
    ∙ code_there bytes name code maps refs h

-- what stands in the string table is the name of a symbol, or of a section
pub symbol_named : (bytes name code : List ℕ) (maps : List MapRecord) (refs : List (ℕ × ℕ)) → Seen bytes name code maps refs → (n : ℕ) (s : Symbol) → symbol_of bytes n ≡ s
    → symbol_name bytes n ≡ string_at (strings name maps) s.name
symbol_named bytes name code maps refs h n s e =
    ap (λ (z : Symbol). string_at (symbol_strings bytes (first_symtab bytes)) z.name) e
    ∙ ap (λ o. string_at (symbol_strings bytes o) s.name) h.symtab
    ∙ ap (λ (z : Section). string_at (section_bytes bytes z.link) s.name) h.sections.symbols
    ∙ ap (λ t. string_at t s.name) h.strings_bytes

pub section_named : (bytes name code : List ℕ) (maps : List MapRecord) (refs : List (ℕ × ℕ)) → Seen bytes name code maps refs → (i : ℕ) (s : Section) → section_at bytes i ≡ s
    → section_name bytes i ≡ string_at (strings name maps) s.name
section_named bytes name code maps refs h i s e =
    ap (λ (z : Section). string_at (section_bytes bytes (e_shstrndx bytes)) z.name) e
    ∙ ap (λ n. string_at (section_bytes bytes n) s.name) h.names
    ∙ ap (λ t. string_at t s.name) h.strings_bytes

pub name_is : (bytes name code : List ℕ) (maps : List MapRecord) (refs : List (ℕ × ℕ)) → Seen bytes name code maps refs → Letters name → symbol_name bytes 1 ≡ Some name
name_is bytes name code maps refs h letters =
    symbol_named bytes name code maps refs h 1 (function_symbol (length code)) (second_symbol bytes name code maps refs h) ∙ name_there name maps letters

section_is : (bytes name code : List ℕ) (maps : List MapRecord) (refs : List (ℕ × ℕ)) → Seen bytes name code maps refs
    → section_name bytes (symbol_of bytes 1).section ≡ Some (codes "xdp")
section_is bytes name code maps refs h =
    ap (λ (s : Symbol). section_name bytes s.section) (second_symbol bytes name code maps refs h)
    ∙ section_named bytes name code maps refs h 1 (code_section (sizes_of name code maps refs)) h.sections.code ∙ xdp_there name maps

pub asked_by_section : (bytes name code : List ℕ) (maps : List MapRecord) (refs : List (ℕ × ℕ)) → Seen bytes name code maps refs → is_asked_for None bytes 1 ≡ true
asked_by_section bytes name code maps refs h =
    ap (λ o. option_map_or (λ s. starts_with nat_eq s (codes "xdp")) o false) (section_is bytes name code maps refs h)

pub asked_by_name : (bytes name code : List ℕ) (maps : List MapRecord) (refs : List (ℕ × ℕ)) → Seen bytes name code maps refs → Letters name
    → is_asked_for (Some name) bytes 1 ≡ true
asked_by_name bytes name code maps refs h letters =
    ap (λ o. option_map_or (λ s. bytes_eq s name) o false) (name_is bytes name code maps refs h letters) ∙ (bytes_eq-Decides name name).1 refl

none_pass : (p : ℕ → Bool) (a n : ℕ) → ((k : ℕ) → k < n → p (a + k) ≡ false) → filter p (range_with_len a n) ≡ []
none_pass p a zero h = refl
none_pass p a (suc n) h =
    let here : a ≡ a + 0 = omega arith in
    ap (λ b. cond b (a ∷ filter p (range_with_len (a + 1) n)) (filter p (range_with_len (a + 1) n))) (ap p here ∙ h 0 (omega arith))
    ∙ none_pass p (a + 1) n (λ k low. let next : a + 1 + k ≡ a + suc k = omega arith in ap p next ∙ h (suc k) (omega arith))

only_second : (p : ℕ → Bool) (n k : ℕ) → n ≡ 2 + k → p 0 ≡ false → p 1 ≡ true → ((j : ℕ) → j < k → p (2 + j) ≡ false) → filter p (range_with_len 0 n) ≡ 1 ∷ []
only_second p n k e a b c =
    ap (λ m. filter p (range_with_len 0 m)) (e ∙ two)
    ∙ ap (λ t. cond t (0 ∷ filter p (range_with_len 1 (suc k))) (filter p (range_with_len 1 (suc k)))) a
    ∙ ap (λ t. cond t (1 ∷ filter p (range_with_len 2 k)) (filter p (range_with_len 2 k))) b
    ∙ ap (λ xs. 1 ∷ xs) (none_pass p 2 k c)
  where
    two : 2 + k ≡ suc (suc k)
    two = omega arith

pub the_program : (choice : Option (List ℕ)) (bytes name code : List ℕ) (maps : List MapRecord) (refs : List (ℕ × ℕ)) → Seen bytes name code maps refs → 0 < length code
    → is_asked_for choice bytes 1 ≡ true → programs choice bytes ≡ 1 ∷ []
unfolding programs
the_program choice bytes name code maps refs h some asked =
    only_second (λ n. is_function bytes n && is_asked_for choice bytes n) (entry_count 24 (symbol_table bytes)) (length maps) (symbol_count bytes name code maps refs h)
    (ap (λ b. b && is_asked_for choice bytes 0) (no_function bytes name code maps refs h))
    (ap (λ b. b && is_asked_for choice bytes 1) (a_function bytes name code maps refs h some) ∙ asked)
    (λ k low. ap (λ b. b && is_asked_for choice bytes (2 + k)) (no_function_of_map bytes name code maps refs h k low))

-- ---- the rules

pub no_fault : (bytes name code : List ℕ) (maps : List MapRecord) (refs : List (ℕ × ℕ)) → Seen bytes name code maps refs → Letters name → length code % 8 ≡ 0
    → wrong_function bytes 1 ≡ None
unfolding wrong_function open_name outside odd_units
no_fault bytes name code maps refs h letters whole =
    let named : is_some (symbol_name bytes 1) ≡ true = ap is_some (name_is bytes name code maps refs h letters) in
    let inside : ltb (length (section_bytes bytes 1)) (0 + length code) ≡ false =
    le-ltb (length (section_bytes bytes 1)) (0 + length code) (omega (arith, ap length h.code_bytes)) in
    let units : (length code % 8 == 0) ≡ true = is_zero_test (length code % 8) whole in
    ap (λ b. option_or (cond b None (Some (Elf (At (symbol_of bytes 1).name)))) (first_fault (outside bytes (symbol_of bytes 1) ∷ odd_units (symbol_of bytes 1) ∷ []))) named
    ∙ ap (λ (s : Symbol). first_fault (outside bytes s ∷ odd_units s ∷ [])) (second_symbol bytes name code maps refs h)
    ∙ ap (λ b. option_or (cond b (Some (Elf (ElfSection 1))) None) (option_or (odd_units (function_symbol (length code))) None)) inside
    ∙ ap (λ b. option_or (cond (true && b) None (Some Odd)) None) units
  where
    is_zero_test : (n : ℕ) → n ≡ 0 → (n == 0) ≡ true
    is_zero_test n e = grind (arith, nat_tests)

pub opened : (bytes name code : List ℕ) (maps : List MapRecord) (refs : List (ℕ × ℕ)) → Seen bytes name code maps refs → option_or (too_long bytes) (wrong_elf bytes) ≡ None
unfolding too_long wrong_elf
opened bytes name code maps refs h =
    ap (λ b. option_or (cond b (Some Long) None) (option_map (λ e. Elf e) (first_error bytes))) (le-ltb 1048576 (length bytes) h.size)
    ∙ ap (λ o. option_map (λ e. Elf e) o) h.no_error
