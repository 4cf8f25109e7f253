-- What is read of the maps of the least object: their sections, their symbols and their records.
use Rattle.std.proofs.Common.{◌≡◌, ◌≢◌, ◌∙◌, ℕ, suc, ◌+◌, ◌-◌, ◌*◌, ◌%◌, ◌^◌, ◌<◌, ◌≤◌, ◌==◌, ◌&&◌, ◌||◌, Bool, true, false, nat_le, nat_lt, not, cond, ltb, Some, None, Result, Ok, Err, List, [], ◌∷◌, ◌++◌, length, get_or, take, drop, replicate, codes, refl, sym, ap, subst, arith}
use Rattle.std.proofs.lemmas.Bool.{lt-ltb, le-ltb}
use Rattle.std.proofs.lemmas.Bool.Decides.{nat_tests}
use Rattle.std.proofs.lemmas.Grind.{flat_map-append}
use Rattle.std.proofs.lemmas.List.{append_assoc, drop_at, get_or_append_left, length-append}
use Rattle.std.proofs.lemmas.List.Elements.{All-cons, All-nil}
use Rattle.std.proofs.lemmas.List.Folds.{list_any_none}
use Rattle.std.proofs.lemmas.List.Sums.{list_all-from_AllPass}
use Rattle.std.proofs.lemmas.Slice.Eq.{bytes_eq-Decides}
use Rattle.std.proofs.Math.Seq.{get_or-append_seam}
use Rattle.std.specs.List.{All, AllPairs, list_all}
use Rattle.std.specs.Str.{bytes_eq}
use Rattle.byteorder.specs.Numbers.{little_number-reads_back}
use Rattle.btf_view.specs.Numbers.{u32_at}
use Rattle.btf_view.specs.declared.fields.MapFields.{MapFields}
use Rattle.elf_view.specs.declared.object.MapRecord.{MapRecord}
use Rattle.elf_view.specs.declared.parts.Symbol.{Symbol}
use Rattle.elf_view.specs.declared.sizes.Sizes.{Sizes}
use Rattle.elf_view.specs.Pieces.{elf_header}
use Rattle.elf_view.specs.File.{e_shnum, entry_count, section_at, section_bytes, span_of, string_at, symbol_table}
use Rattle.elf_view.specs.Layout.{base_headers, headers_at, map_headers, map_names, map_strings, object_layout, object_size, padded, record_bytes, records, records_section, rels, rels_section, section_count, sizes_of, strings, symbols, text}
use Rattle.elf_view.proofs.LengthLaws.{length-elf_header, length-record_bytes, length-records, length-text, small_object}
use Rattle.elf_view.proofs.NoErrorLaws.{section_at-place}
use Rattle.elf_view.proofs.OpenLaws.{read_head, read_two}
use Rattle.xdp_object.specs.declared.map_records.fault.MapRule.TheVariants.{Entries, Key, Many, Name, Record, Value}
use Rattle.xdp_object.specs.MapRecords.Declarations.{capacity, declared, declared_unless}
use Rattle.xdp_object.specs.MapRecords.Variables.{variable_fields}
use Rattle.xdp_object.specs.MapRecords.Records.{record_fields, words_alone}
use Rattle.xdp_maps.specs.Contents.{IsWithinLimits}
use Rattle.xdp_maps.specs.declared.decl.MapDecl.{MapDecl}
use Rattle.xdp_maps.specs.declared.decl.MapKind.{MapKind}
use Rattle.xdp_maps.specs.declared.decl.MapKind.TheVariants.{Hash, Array}
use Rattle.xdp_machine.specs.Program.{IsDeclaration, IsMapName, is_name_byte}
use Rattle.xdp_object.specs.declared.error.ObjectError.{ObjectError}
use Rattle.xdp_object.specs.declared.error.ObjectError.TheVariants.{Map}
use Rattle.xdp_object.specs.Functions.{section_name, symbol_name, symbol_of}
use Rattle.xdp_object.specs.Laws.{AreRecords, numbers_of, type_of}
use Rattle.xdp_object.specs.Maps.{btf_bytes, by_fault, by_rule, declared_by, is_map_name, is_taken, map_numbers, named_map, next_map}
use Rattle.xdp_object.specs.Relocations.{has_name, is_map_symbol}
use Rattle.xdp_object.proofs.Layouts.{Seen, Split, map_symbol_there, part_span, section_named, split, symbol_count, symbol_named, symbol_of_map}
use Rattle.xdp_object.proofs.Referring.{AreNext}
use Rattle.xdp_object.proofs.Strings.{Letters, named, string_there}

-- ---- the sections of maps and of references

pub record SeenMaps (bytes name : List ℕ) (maps : List MapRecord) (refs : List (ℕ × ℕ)) (s : Sizes) : Type 0 where
  pub count : e_shnum bytes ≡ 6
  pub some : 0 < length maps
  pub records_section : section_at bytes 4 ≡ records_section (length name) s
  pub rels_section : section_at bytes 5 ≡ rels_section (length name) s
  pub record_bytes : section_bytes bytes 4 ≡ records maps
  pub rel_bytes : section_bytes bytes 5 ≡ rels refs

rels_span : (name code : List ℕ) (maps : List MapRecord) (refs : List (ℕ × ℕ))
    → take (length (rels refs)) (drop (64 + length code + length (symbols (length name) (length code) maps)) (object_layout name code maps refs)) ≡ rels refs
unfolding object_layout
rels_span name code maps refs =
    let s = sizes_of name code maps refs in
    let h = elf_header (headers_at s) (section_count maps) in
    let y = symbols (length name) (length code) maps in
    part_span (h ++ code ++ y) (rels refs) _ (object_layout name code maps refs) (64 + length code + length y)
    (behind h code y (rels refs) (padded (records maps)) (padded (strings name maps)) (base_headers s) (map_headers (length name) s maps))
    (omega (arith, length-append (h ++ code) y, length-append h code, length-elf_header (headers_at s) (section_count maps)))
  where
    behind : (h c y r m t b x : List ℕ) → h ++ c ++ y ++ r ++ m ++ t ++ b ++ x ≡ (h ++ c ++ y) ++ (r ++ (m ++ (t ++ (b ++ x))))
    behind h c y r m t b x = simp append_assoc

records_span : (name code : List ℕ) (maps : List MapRecord) (refs : List (ℕ × ℕ))
    → take (length (records maps)) (drop (64 + length code + length (symbols (length name) (length code) maps) + length (rels refs)) (object_layout name code maps refs)) ≡ records maps
unfolding object_layout
records_span name code maps refs =
    let s = sizes_of name code maps refs in
    let h = elf_header (headers_at s) (section_count maps) in
    let y = symbols (length name) (length code) maps in
    part_span (h ++ code ++ y ++ rels refs) (records maps) _ (object_layout name code maps refs) (64 + length code + length y + length (rels refs))
    (behind h code y (rels refs) (records maps) (replicate ((8 - length (records maps) % 8) % 8) 0) (padded (strings name maps)) (base_headers s) (map_headers (length name) s maps))
    (omega (arith, length-append (h ++ code ++ y) (rels refs), length-append (h ++ code) y, length-append h code, length-elf_header (headers_at s) (section_count maps)))
  where
    behind : (h c y r m z t b x : List ℕ) → h ++ c ++ y ++ r ++ (m ++ z) ++ t ++ b ++ x ≡ (h ++ c ++ y ++ r) ++ (m ++ (z ++ (t ++ (b ++ x))))
    behind h c y r m z t b x = simp append_assoc

pub seen_maps : (name code : List ℕ) (m : MapRecord) (ms : List MapRecord) (refs : List (ℕ × ℕ)) → object_size name code (m ∷ ms) refs ≤ 1048576
    → SeenMaps (object_layout name code (m ∷ ms) refs) name (m ∷ ms) refs (sizes_of name code (m ∷ ms) refs)
seen_maps name code m ms refs fits =
    let maps = m ∷ ms in
    let bytes = object_layout name code maps refs in
    let s = sizes_of name code maps refs in
    let small = small_object name code maps refs fits in
    let head = read_head name code maps refs small.headers in
    let two = read_two name code m ms refs small.headers (omega (arith, small.names_fit)) in
    let recs = section_at-place bytes (headers_at s) 4 (headers_at s + 256) (records_section (length name) s) head.shoff (omega arith) two.records in
    let rels' = section_at-place bytes (headers_at s) 5 (headers_at s + 320) (rels_section (length name) s) head.shoff (omega arith) two.rels in
    record {
      count = head.shnum;
      some = omega arith;
      records_section = recs;
      rels_section = rels';
      record_bytes = ap (span_of bytes) recs ∙ records_span name code maps refs;
      rel_bytes = ap (span_of bytes) rels' ∙ rels_span name code maps refs;
    }

-- ---- their names

-- the names before those that only an object with maps has
abbrev base_names : List ℕ → List ℕ
base_names name = text [] ++ text (codes "xdp") ++ text (codes ".symtab") ++ text (codes ".strtab") ++ text name

strings_of_maps : (maps : List MapRecord) → 0 < length maps → map_strings maps ≡ text (codes "maps") ++ text (codes ".relxdp") ++ map_names maps
strings_of_maps [] h = absurd (omega arith)
strings_of_maps (m ∷ ms) h = refl

length-base_names : (name : List ℕ) → length (base_names name) ≡ 22 + length name
length-base_names name = omega (arith, length-append {A = ℕ}, length-text)

maps_letters : Letters (codes "maps")
maps_letters =
    All-cons (λ b. b ≢ 0) 109 (97 ∷ 112 ∷ 115 ∷ []) (λ e. absurd (omega arith))
    (All-cons (λ b. b ≢ 0) 97 (112 ∷ 115 ∷ []) (λ e. absurd (omega arith))
    (All-cons (λ b. b ≢ 0) 112 (115 ∷ []) (λ e. absurd (omega arith))
    (All-cons (λ b. b ≢ 0) 115 [] (λ e. absurd (omega arith)) (All-nil (λ b. b ≢ 0)))))

maps_there : (name : List ℕ) (maps : List MapRecord) → 0 < length maps → string_at (strings name maps) (22 + length name) ≡ Some (codes "maps")
unfolding text
maps_there name maps h =
    let rest = text (codes ".relxdp") ++ map_names maps in
    string_there (strings name maps) (codes "maps") rest (22 + length name) maps_letters
    (ap (drop (22 + length name)) (ap (λ xs. base_names name ++ xs) (strings_of_maps maps h))
    ∙ drop_at (base_names name) (text (codes "maps") ++ text (codes ".relxdp") ++ map_names maps) (22 + length name) (length-base_names name))

map_name_there : (name : List ℕ) (before : List MapRecord) (m : MapRecord) (after : List MapRecord) → Letters m.name.now
    → string_at (strings name (before ++ m ∷ after)) (35 + length name + length (map_names before)) ≡ Some m.name.now
unfolding text
map_name_there name before m after letters =
    let maps = before ++ m ∷ after in
    let two = text (codes "maps") ++ text (codes ".relxdp") in
    let some : 0 < length maps = omega (arith, length-append before (m ∷ after)) in
    let whole : strings name maps ≡ (base_names name ++ two ++ map_names before) ++ (m.name.now ++ (0 ∷ map_names after)) =
    ap (λ xs. base_names name ++ xs) (strings_of_maps maps some)
    ∙ ap (λ xs. base_names name ++ (two ++ xs)) (flat_map-append (λ (r : MapRecord). text r.name.now) before (m ∷ after))
    ∙ grouped (base_names name) two (map_names before) m.name.now (map_names after) in
    let place : length (base_names name ++ two ++ map_names before) ≡ 35 + length name + length (map_names before) =
    omega (arith, length-append (base_names name ++ two) (map_names before), length-append (base_names name) two, length-base_names name) in
    string_there (strings name maps) m.name.now (map_names after) (35 + length name + length (map_names before)) letters
    (ap (drop (35 + length name + length (map_names before))) whole
    ∙ drop_at (base_names name ++ two ++ map_names before) (m.name.now ++ (0 ∷ map_names after)) (35 + length name + length (map_names before)) place)
  where
    grouped : (b t f n r : List ℕ) → b ++ (t ++ (f ++ ((n ++ 0 ∷ []) ++ r))) ≡ (b ++ t ++ f) ++ (n ++ (0 ∷ r))
    grouped b t f n r = simp append_assoc

-- the section of the records is that of maps
pub named_maps : (bytes name code : List ℕ) (maps : List MapRecord) (refs : List (ℕ × ℕ)) → Seen bytes name code maps refs
    → SeenMaps bytes name maps refs (sizes_of name code maps refs) → has_name bytes 4 (codes "maps") ≡ true
unfolding has_name
named_maps bytes name code maps refs h k =
    named (section_name bytes 4) (codes "maps")
    (section_named bytes name code maps refs h 4 (records_section (length name) (sizes_of name code maps refs)) k.records_section ∙ maps_there name maps k.some)

-- a symbol of a map is one
pub of_map : (bytes name code : List ℕ) (maps : List MapRecord) (refs : List (ℕ × ℕ)) → Seen bytes name code maps refs
    → SeenMaps bytes name maps refs (sizes_of name code maps refs) → (n : ℕ) → n < length maps → is_map_symbol bytes (2 + n) ≡ true
unfolding is_map_symbol
of_map bytes name code maps refs h k n below =
    let s = split maps n below in
    let there : symbol_of bytes (2 + n) ≡ symbol_of_map (length name) s.before =
    ap (λ i. symbol_of bytes (2 + i)) (sym s.place) ∙ map_symbol_there bytes name code s.before s.here s.after refs (subst (λ (ms : List MapRecord). Seen bytes name code ms refs) s.whole h) in
    let entry : ltb (2 + n) (entry_count 24 (symbol_table bytes)) ≡ true = lt-ltb (2 + n) (entry_count 24 (symbol_table bytes)) (omega (arith, symbol_count bytes name code maps refs h, below)) in
    let section : ltb 4 (e_shnum bytes) ≡ true = lt-ltb 4 (e_shnum bytes) (omega (arith, k.count)) in
    ap (λ (z : Symbol). ltb (2 + n) (entry_count 24 (symbol_table bytes)) && not (z.info % 16 == 3) && ltb z.section (e_shnum bytes) && (has_name bytes z.section (codes "maps") || has_name bytes z.section (codes ".maps"))) there
    ∙ ap (λ b. b && true && ltb 4 (e_shnum bytes) && (has_name bytes 4 (codes "maps") || has_name bytes 4 (codes ".maps"))) entry
    ∙ ap (λ b. b && (has_name bytes 4 (codes "maps") || has_name bytes 4 (codes ".maps"))) section
    ∙ ap (λ b. b || has_name bytes 4 (codes ".maps")) (named_maps bytes name code maps refs h k)

-- ---- their records

abbrev fields : (a b c d e : ℕ) → MapFields
fields a b c d e = record { kind = Some a; key = b; value = c; cap = d; flags = e }

same_fields : {a a' b b' c c' d d' e e' : ℕ} → a ≡ a' → b ≡ b' → c ≡ c' → d ≡ d' → e ≡ e' → fields a b c d e ≡ fields a' b' c' d' e'
same_fields p q r s t = cc

record FitWords (a b c d e : ℕ) : Type 0 where
  first : a < 2 ^ 32
  second : b < 2 ^ 32
  third : c < 2 ^ 32
  fourth : d < 2 ^ 32
  fifth : e < 2 ^ 32

words_read : (a b c d e : ℕ) → FitWords a b c d e → words_alone (record_bytes (a ∷ b ∷ c ∷ d ∷ e ∷ [])) ≡ Ok (fields a b c d e)
unfolding record_bytes u32_at
words_read a b c d e fit =
    ap Ok (same_fields (little_number-reads_back 4 a [] fit.first) (little_number-reads_back 4 b [] fit.second) (little_number-reads_back 4 c [] fit.third)
    (little_number-reads_back 4 d [] fit.fourth) (little_number-reads_back 4 e [] fit.fifth))

-- a record is read where it was written
record_read : (before : List MapRecord) (m : MapRecord) (after : List MapRecord) (fs : MapFields) → words_alone (record_bytes m.words) ≡ Ok fs
    → record_fields (records (before ++ m ∷ after)) (0 + 20 * length before) 20 ≡ Ok fs
unfolding record_fields
record_read before m after fs read =
    let all = records (before ++ m ∷ after) in
    let at = 0 + 20 * length before in
    let whole : all ≡ records before ++ (record_bytes m.words ++ records after) = flat_map-append (λ (r : MapRecord). record_bytes r.words) before (m ∷ after) in
    let place : length (records before) ≡ at = omega (arith, length-records before) in
    let inside : ltb (length all) (at + 20) ≡ false = le-ltb (length all) (at + 20) (omega (arith, length-records (before ++ m ∷ after), length-append before (m ∷ after))) in
    ap (λ b. cond (b || false) (Err Record) (words_alone (take 20 (drop at all)))) inside
    ∙ ap words_alone (ap (λ n. take n (drop at all)) (sym (length-record_bytes m.words)) ∙ part_span (records before) (record_bytes m.words) (records after) all at whole place)
    ∙ read

-- ---- their declarations

within : (a b : ℕ) → 0 < a → a ≤ b → (nat_lt 0 a && nat_le a b) ≡ true
within a b low high = grind (arith, nat_tests)

some : (a : ℕ) → 0 < a → nat_lt 0 a ≡ true
some a h = grind (arith, nat_tests)

least : (n hash_cap : ℕ) → 0 < n → n ≤ 1024 → n ≤ hash_cap → capacity hash_cap Hash n ≡ n
least n hash_cap low high cap = omega (arith)

abbrev decl : List ℕ → MapKind → ℕ → ℕ → ℕ → MapDecl
decl name kind key value cap = record { name = name; kind = kind; key = key; value = value; cap = cap }

-- numbers of a kind are declared as they are
of_kind : (hash_cap : ℕ) (name : List ℕ) (kind : MapKind) (key value cap : ℕ) → IsWithinLimits (decl name kind key value cap) → (kind ≡ Hash → cap ≤ hash_cap)
    → declared hash_cap name (fields (type_of kind) key value cap 0) ≡ Ok (decl name kind key value cap)
of_kind hash_cap name Hash key value cap h few =
    ap (λ b. declared_unless (cond (not b) (Some Key) (cond (not (nat_lt 0 value && nat_le value 64)) (Some Value) (cond (not (nat_lt 0 cap)) (Some Entries) None))) (decl name Hash key value (capacity hash_cap Hash cap))) (within key 40 h.key_some h.key_short)
    ∙ ap (λ b. declared_unless (cond (not b) (Some Value) (cond (not (nat_lt 0 cap)) (Some Entries) None)) (decl name Hash key value (capacity hash_cap Hash cap))) (within value 64 h.value_some h.value_short)
    ∙ ap (λ b. declared_unless (cond (not b) (Some Entries) None) (decl name Hash key value (capacity hash_cap Hash cap))) (some cap h.cap_some)
    ∙ ap (λ n. Ok (decl name Hash key value n)) (least cap hash_cap h.cap_some h.by_kind (few refl))
of_kind hash_cap name Array key value cap h few =
    ap (λ n. declared_unless (cond (not (n == 4)) (Some Key) (cond (not (nat_lt 0 value && nat_le value 64)) (Some Value) (cond (not (nat_lt 0 cap && nat_le cap 65536)) (Some Entries) None))) (decl name Array key value cap)) h.by_kind.0
    ∙ ap (λ b. declared_unless (cond (not b) (Some Value) (cond (not (nat_lt 0 cap && nat_le cap 65536)) (Some Entries) None)) (decl name Array key value cap)) (within value 64 h.value_some h.value_short)
    ∙ ap (λ b. declared_unless (cond (not b) (Some Entries) None) (decl name Array key value cap)) (within cap 65536 h.cap_some h.by_kind.1)

fit_words : (name : List ℕ) (kind : MapKind) (key value cap : ℕ) → IsWithinLimits (decl name kind key value cap) → FitWords (type_of kind) key value cap 0
fit_words name Hash key value cap h = record {
  first = omega arith;
  second = omega (arith, h.key_short);
  third = omega (arith, h.value_short);
  fourth = omega (arith, h.by_kind);
  fifth = omega arith;
}
fit_words name Array key value cap h = record {
  first = omega arith;
  second = omega (arith, h.key_short);
  third = omega (arith, h.value_short);
  fourth = omega (arith, h.by_kind.1);
  fifth = omega arith;
}

-- ---- a record and its declaration

first_same : {X : Type 0} {x y : X} {xs ys : List X} → x ∷ xs ≡ y ∷ ys → x ≡ y
first_same e = cc

rest_same : {X : Type 0} {x y : X} {xs ys : List X} → x ∷ xs ≡ y ∷ ys → xs ≡ ys
rest_same e = cc

record Alike (maps : List MapRecord) (k : ℕ) (d : MapDecl) : Type 0 where
  at : Split maps k
  name : at.here.name.now ≡ d.name
  words : at.here.words ≡ numbers_of d

alike : (before : List MapDecl) (d : MapDecl) (after : List MapDecl) (maps : List MapRecord) → AreRecords maps (before ++ d ∷ after) → Alike maps (length before) d
alike [] d after [] r = absurd (cc (r.names))
alike [] d after (m ∷ ms) r = record {
  at = record { before = []; here = m; after = ms; whole = refl; place = refl };
  name = first_same r.names;
  words = first_same r.numbers;
}
alike (b ∷ before) d after [] r = absurd (cc (r.names))
alike (b ∷ before) d after (m ∷ ms) r =
    let rest = alike before d after ms (record { names = rest_same r.names; numbers = rest_same r.numbers }) in
    record {
      at = record { before = m ∷ rest.at.before; here = rest.at.here; after = rest.at.after; whole = ap (λ ys. m ∷ ys) rest.at.whole; place = ap suc rest.at.place };
      name = rest.name;
      words = rest.words;
    }

-- ---- the next map

letters_of : (name : List ℕ) → IsMapName name → Letters name
letters_of name h k d below zero = absurd (cc (ap is_name_byte zero, h.letters k d below))

map_name : (name : List ℕ) → IsMapName name → is_map_name name ≡ true
map_name name h =
    ap (λ b. b && list_all is_name_byte name) (within (length name) 63 h.some h.short) ∙ list_all-from_AllPass is_name_byte name h.letters

not_taken : (before : List MapDecl) (d : MapDecl) (after : List MapDecl) → AllPairs (λ x y. x.name ≢ y.name) (before ++ d ∷ after) → is_taken before d.name ≡ false
not_taken before d after pairs = list_any_none (λ x. bytes_eq x.name d.name) before other
  where
    by_test : (a b : List ℕ) → a ≢ b → (t : Bool) → bytes_eq a b ≡ t → bytes_eq a b ≡ false
    by_test a b differ true e = absurd (differ ((bytes_eq-Decides a b).0 e))
    by_test a b differ false e = e

    other : All (λ (x : MapDecl). bytes_eq x.name d.name ≡ false) before
    other k x below =
        let left : get_or (before ++ d ∷ after) k x ≡ get_or before k x = get_or_append_left before (d ∷ after) x k below in
        let right : get_or (before ++ d ∷ after) (length before) x ≡ d = get_or-append_seam before d after x in
        by_test (get_or before k x).name d.name
        (λ same. pairs k (length before) x below (omega (arith, length-append before (d ∷ after))) (ap (λ (y : MapDecl). y.name) left ∙ same ∙ ap (λ (y : MapDecl). y.name) (sym right)))
        (bytes_eq (get_or before k x).name d.name) refl

-- what the object says of a map is its declaration
map_numbers_are : (bytes name code : List ℕ) (maps : List MapRecord) (refs : List (ℕ × ℕ)) → Seen bytes name code maps refs
    → SeenMaps bytes name maps refs (sizes_of name code maps refs) → (n : ℕ) (s : Split maps n) (map_name : List ℕ) (fs : MapFields)
    → symbol_of bytes (2 + n) ≡ symbol_of_map (length name) s.before → words_alone (record_bytes s.here.words) ≡ Ok fs → map_numbers bytes (2 + n) map_name ≡ Ok fs
unfolding map_numbers
map_numbers_are bytes name code maps refs h k n s map_name fs there read =
    ap (λ (z : Symbol). cond (has_name bytes z.section (codes "maps")) (by_rule (2 + n) (record_fields (section_bytes bytes z.section) z.value z.size)) (other z)) there
    ∙ ap (λ b. cond b (by_rule (2 + n) (record_fields (section_bytes bytes 4) (0 + 20 * length s.before) 20)) (other (symbol_of_map (length name) s.before))) (named_maps bytes name code maps refs h k)
    ∙ ap (by_rule (2 + n)) (ap (λ t. record_fields t (0 + 20 * length s.before) 20) (k.record_bytes ∙ ap records s.whole) ∙ record_read s.before s.here s.after fs read)
  where
    other : Symbol → Result MapFields ObjectError
    other z = by_fault (2 + n) (variable_fields (btf_bytes bytes) map_name)

pub next_is : (hash_cap : ℕ) (bytes name code : List ℕ) (maps : List MapRecord) (refs : List (ℕ × ℕ)) (decls : List MapDecl) → Seen bytes name code maps refs
    → SeenMaps bytes name maps refs (sizes_of name code maps refs) → AreRecords maps decls → length decls ≤ 16 → All IsDeclaration decls
    → AllPairs (λ d e. d.name ≢ e.name) decls → All (λ d. d.kind ≡ Hash → d.cap ≤ hash_cap) decls → AreNext hash_cap bytes decls
unfolding next_map
next_is hash_cap bytes name code maps refs decls h k records_are few each differ caps before d after whole =
    let a = alike before d after maps (subst (λ (ds : List MapDecl). AreRecords maps ds) whole records_are) in
    let n = length before in
    let below : n < length decls = omega (arith, ap length whole, length-append before (d ∷ after)) in
    let here : get_or decls n d ≡ d = ap (λ ds. get_or ds n d) whole ∙ get_or-append_seam before d after d in
    let decl : IsDeclaration d = subst (λ (x : MapDecl). IsDeclaration x) here (each n d below) in
    let cap : d.kind ≡ Hash → d.cap ≤ hash_cap = subst (λ (x : MapDecl). x.kind ≡ Hash → x.cap ≤ hash_cap) here (caps n d below) in
    let there : symbol_of bytes (2 + n) ≡ symbol_of_map (length name) a.at.before =
    ap (λ i. symbol_of bytes (2 + i)) (sym a.at.place)
    ∙ map_symbol_there bytes name code a.at.before a.at.here a.at.after refs (subst (λ (ms : List MapRecord). Seen bytes name code ms refs) a.at.whole h) in
    let letters : Letters a.at.here.name.now = subst (λ (xs : List ℕ). Letters xs) (sym a.name) (letters_of d.name decl.name) in
    let is_named : symbol_name bytes (2 + n) ≡ Some d.name =
    symbol_named bytes name code maps refs h (2 + n) (symbol_of_map (length name) a.at.before) there
    ∙ ap (λ ms. string_at (strings name ms) (35 + length name + length (map_names a.at.before))) a.at.whole
    ∙ map_name_there name a.at.before a.at.here a.at.after letters ∙ ap Some a.name in
    let read : words_alone (record_bytes a.at.here.words) ≡ Ok (fields (type_of d.kind) d.key d.value d.cap 0) =
    ap (λ ws. words_alone (record_bytes ws)) a.words
    ∙ words_read (type_of d.kind) d.key d.value d.cap 0 (fit_words d.name d.kind d.key d.value d.cap decl.limits) in
    let numbers = map_numbers_are bytes name code maps refs h k n a.at d.name (fields (type_of d.kind) d.key d.value d.cap 0) there read in
    let fresh : is_taken before d.name ≡ false = not_taken before d after (subst (λ (ds : List MapDecl). AllPairs (λ d e. d.name ≢ e.name) ds) whole differ) in
    let good : (is_map_name d.name && not (is_taken before d.name)) ≡ true = both_of (map_name d.name decl.name) fresh in
    ap (λ b. cond b (Err (Map (2 + n) Many)) (named_map hash_cap bytes before (2 + n) (symbol_name bytes (2 + n)))) (under n (omega (arith, below, few)))
    ∙ ap (named_map hash_cap bytes before (2 + n)) is_named
    ∙ ap (λ b. cond b (declared_by hash_cap (2 + n) d.name (map_numbers bytes (2 + n) d.name)) (Err (Map (2 + n) Name))) good
    ∙ ap (declared_by hash_cap (2 + n) d.name) numbers
    ∙ ap (by_rule (2 + n)) (of_kind hash_cap d.name d.kind d.key d.value d.cap decl.limits cap)
  where
    under : (n : ℕ) → n < 16 → nat_le 16 n ≡ false
    under n low = grind (arith, nat_tests)

    both_of : {a b : Bool} → a ≡ true → b ≡ false → (a && not b) ≡ true
    both_of e f = rw (e, f) refl
