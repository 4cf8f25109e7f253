-- How long the parts of a small object are.
use Rattle.std.proofs.Common.{◌++◌, ◌≡◌, ℕ, ◌+◌, ◌*◌, ◌-◌, ◌%◌, ◌<◌, ◌≤◌, List, [], ◌∷◌, length, refl, arith}
use Rattle.std.proofs.lemmas.List.{length-append, length-replicate, length_push}
use Rattle.elf_view.specs.Pieces.{elf_header, section_header, symbol_bytes, rel_bytes}
use Rattle.elf_view.specs.Layout.{base_headers, headers_at, map_headers, names_size, object_layout, object_size, strings_size, padded, padded_size, section_count, sizes_of, map_symbols, map_names, record_bytes, records, rels, strings, symbols, text}
use Rattle.elf_view.specs.declared.parts.Section.{Section}
use Rattle.elf_view.specs.declared.parts.Symbol.{Symbol}
use Rattle.elf_view.specs.declared.parts.Rel.{Rel}
use Rattle.elf_view.specs.declared.sizes.Sizes.{Sizes}
use Rattle.elf_view.specs.declared.object.MapRecord.{MapRecord}

pub length-elf_header : (headers_at sections : ℕ) → length (elf_header headers_at sections) ≡ 64
unfolding elf_header
length-elf_header headers_at sections = refl

pub length-section_header : (s : Section) (align entry : ℕ) → length (section_header s align entry) ≡ 64
unfolding section_header
length-section_header s align entry = refl

pub length-symbol_bytes : (s : Symbol) → length (symbol_bytes s) ≡ 24
unfolding symbol_bytes
length-symbol_bytes s = refl

pub length-rel_bytes : (r : Rel) → length (rel_bytes r) ≡ 16
unfolding rel_bytes
length-rel_bytes r = refl

pub length-text : (s : List ℕ) → length (text s) ≡ length s + 1
unfolding text
length-text s = length_push s 0

pub length-record_bytes : (words : List ℕ) → length (record_bytes words) ≡ 20
unfolding record_bytes
length-record_bytes words = refl

pub length-map_symbols : (name_at value : ℕ) (maps : List MapRecord)
    → length (map_symbols name_at value maps) ≡ 24 * length maps
length-map_symbols name_at value [] = refl
length-map_symbols name_at value (m ∷ ms) =
    let rest = length-map_symbols (name_at + (length m.name.now + 1)) (value + 20) ms in
    omega (arith, length-append {A = ℕ}, length-symbol_bytes, rest)

pub length-rels : (refs : List (ℕ × ℕ)) → length (rels refs) ≡ 16 * length refs
length-rels [] = refl
length-rels (r ∷ rs) = let rest = length-rels rs in omega (arith, length-append {A = ℕ}, length-rel_bytes, rest)

-- two symbols, and one for each map
pub length-symbols : (name_len size : ℕ) (maps : List MapRecord)
    → length (symbols name_len size maps) ≡ 24 * (2 + length maps)
length-symbols name_len size maps =
    omega (arith, length-append {A = ℕ}, length-symbol_bytes, length-map_symbols (35 + name_len) 0 maps)

pub length-records : (maps : List MapRecord) → length (records maps) ≡ 20 * length maps
length-records [] = refl
length-records (m ∷ ms) = let rest = length-records ms in omega (arith, length-append {A = ℕ}, length-record_bytes, rest)

-- one map more in the names
pub length-map_names-cons : (m : MapRecord) (ms : List MapRecord)
    → length (map_names (m ∷ ms)) ≡ length m.name.now + 1 + length (map_names ms)
length-map_names-cons m ms = omega (arith, length-append {A = ℕ}, length-text)

-- the string table of an object with maps
pub length-strings : (name : List ℕ) (maps : List MapRecord) → 0 < length maps
    → length (strings name maps) ≡ 35 + length name + length (map_names maps)
length-strings name [] h = absurd (omega arith)
length-strings name (m ∷ ms) h = omega (arith, length-append {A = ℕ}, length-text)

-- and of one with none
pub length-strings_no_maps : (name : List ℕ) (maps : List MapRecord) → length maps ≡ 0
    → length (strings name maps) ≡ 22 + length name
length-strings_no_maps name [] e = omega (arith, length-append {A = ℕ}, length-text)
length-strings_no_maps name (m ∷ ms) e = absurd (omega arith)

-- ---- the whole object

pub length-padded : (bytes : List ℕ) → length (padded bytes) ≡ padded_size (length bytes)
length-padded bytes =
    omega (arith, length-append {A = ℕ}, length-replicate {A = ℕ} ((8 - length bytes % 8) % 8) 0)

pub length-base_headers : (s : Sizes) → length (base_headers s) ≡ 256
length-base_headers s = omega (arith, length-append {A = ℕ}, length-section_header)

length-eight : (a b c d e f g h : List ℕ)
    → length (a ++ b ++ c ++ d ++ e ++ f ++ g ++ h)
    ≡ length a + length b + length c + length d + length e + length f + length g + length h
length-eight a b c d e f g h = omega (arith, length-append {A = ℕ})

-- the object's bytes are its parts and its section headers
pub length-object_layout : (name code : List ℕ) (maps : List MapRecord) (refs : List (ℕ × ℕ))
    → length (object_layout name code maps refs)
    ≡ headers_at (sizes_of name code maps refs) + 256
    + length (map_headers (length name) (sizes_of name code maps refs) maps)
unfolding object_layout
length-object_layout name code maps refs =
    let s = sizes_of name code maps refs in
    let whole = length-eight (elf_header (headers_at s) (section_count maps)) code (symbols (length name) (length code) maps)
    (rels refs) (padded (records maps)) (padded (strings name maps)) (base_headers s) (map_headers (length name) s maps) in
    sums (length (object_layout name code maps refs)) (length (elf_header (headers_at s) (section_count maps))) (length code)
    (length (symbols (length name) (length code) maps)) (length (rels refs)) (length (padded (records maps)))
    (length (padded (strings name maps))) (length (base_headers s)) (length (map_headers (length name) s maps))
    (padded_size (length (records maps))) (padded_size (length (strings name maps))) whole
    (length-elf_header (headers_at s) (section_count maps)) (length-padded (records maps))
    (length-padded (strings name maps)) (length-base_headers s)
  where
    sums : (whole header code symbols' rels' records' strings' base maps' pr ps : ℕ)
        → whole ≡ header + code + symbols' + rels' + records' + strings' + base + maps'
        → header ≡ 64 → records' ≡ pr → strings' ≡ ps → base ≡ 256
        → whole ≡ 64 + code + symbols' + rels' + pr + ps + 256 + maps'
    sums whole header code symbols' rels' records' strings' base maps' pr ps e h r t b = omega arith

length-map_names : (maps : List MapRecord) → length (map_names maps) ≡ names_size maps
length-map_names [] = refl
length-map_names (m ∷ ms) = let rest = length-map_names ms in omega (arith, length-map_names-cons m ms)

length-strings_size : (name : List ℕ) (maps : List MapRecord) → length (strings name maps) ≡ strings_size name maps
length-strings_size name [] = length-strings_no_maps name [] refl
length-strings_size name (m ∷ ms) =
    omega (arith, length-strings name (m ∷ ms) (omega arith), length-map_names (m ∷ ms))

pub length-map_headers : (name_len : ℕ) (s : Sizes) (maps : List MapRecord)
    → length (map_headers name_len s maps) + 256 ≡ 64 * section_count maps
length-map_headers name_len s [] = refl
length-map_headers name_len s (m ∷ ms) = omega (arith, length-append {A = ℕ}, length-section_header)

-- the object has as many bytes as its size says
pub length-object : (name code : List ℕ) (maps : List MapRecord) (refs : List (ℕ × ℕ))
    → length (object_layout name code maps refs) ≡ object_size name code maps refs
length-object name code maps refs =
    sums (length (object_layout name code maps refs)) (length code) (length (symbols (length name) (length code) maps))
    (length (rels refs)) (length (records maps)) (length (strings name maps))
    (length (map_headers (length name) (sizes_of name code maps refs) maps)) (length maps) (length refs)
    (strings_size name maps) (section_count maps) (length-object_layout name code maps refs)
    (length-symbols (length name) (length code) maps) (length-rels refs) (length-records maps)
    (length-strings_size name maps) (length-map_headers (length name) (sizes_of name code maps refs) maps)
  where
    sums : (whole c s r m t x n k u count : ℕ) → whole ≡ 64 + c + s + r + padded_size m + padded_size t + 256 + x
        → s ≡ 24 * (2 + n) → r ≡ 16 * k → m ≡ 20 * n → t ≡ u → x + 256 ≡ 64 * count
        → whole ≡ 64 + c + 24 * (2 + n) + 16 * k + padded_size (20 * n) + padded_size u + 64 * count
    sums whole c s r m t x n k u count e es er em et ex = rw (← em, ← et) (omega arith)

-- what the limit on an object says of its parts
pub record Small (headers_at strings_len names_len map_count : ℕ) : Type 0 where
  pub headers : headers_at ≤ 1048576
  pub strings_fit : strings_len ≤ 1048576
  pub names_fit : names_len ≤ 1048576
  pub maps_fit : map_count ≤ 52428

names_in_strings : (name : List ℕ) (maps : List MapRecord)
    → length name + length (map_names maps) ≤ length (strings name maps)
names_in_strings name [] = omega (arith, length-strings_no_maps name [] refl)
names_in_strings name (m ∷ ms) = omega (arith, length-strings name (m ∷ ms) (omega arith))

pub small_object : (name code : List ℕ) (maps : List MapRecord) (refs : List (ℕ × ℕ))
    → object_size name code maps refs ≤ 1048576
    → Small (headers_at (sizes_of name code maps refs)) (length (strings name maps)) (length name + length (map_names maps))
    (length maps)
small_object name code maps refs fits =
    let whole = length-object_layout name code maps refs in
    small (length (object_layout name code maps refs)) (length code) (length (symbols (length name) (length code) maps))
    (length (rels refs)) (length (records maps)) (length (strings name maps))
    (length (map_headers (length name) (sizes_of name code maps refs) maps)) (length maps)
    (length name + length (map_names maps)) whole (omega (arith, length-object name code maps refs, fits)) (names_in_strings name maps) (length-records maps)
  where
    small : (whole c s r m t x n a : ℕ) → whole ≡ 64 + c + s + r + padded_size m + padded_size t + 256 + x
        → whole ≤ 1048576 → a ≤ t → m ≡ 20 * n
        → Small (64 + c + s + r + padded_size m + padded_size t) t a n
    small whole c s r m t x n a e fits' k l =
        record { headers = omega arith; strings_fit = omega arith; names_fit = omega arith; maps_fit = omega arith }
