-- A small object is read back: its header, its section headers, and that no rule is broken.
use Rattle.std.proofs.Common.{◌≡◌, ℕ, ◌+◌, ◌^◌, ◌<◌, ◌≤◌, List, [], ◌∷◌, ◌++◌, length, take, refl, sym, ap, ◌∙◌, arith}
use Rattle.std.proofs.lemmas.List.{append_assoc, append-nil, length-append}
use Rattle.byteorder.specs.Numbers.{little_number-reads_back}
use Rattle.elf_view.specs.Numbers.{u16_at, u64_at}
use Rattle.elf_view.specs.Pieces.{elf_header, section_header}
use Rattle.elf_view.specs.File.{e_machine, e_shentsize, e_shnum, e_shoff, e_shstrndx, e_type, section_header_at}
use Rattle.elf_view.specs.Layout.{base_headers, code_section, headers_at, no_section, padded, records, records_section, rels, rels_section, section_count, sizes_of, strings, strings_section, symbols, symbols_section}
use Rattle.elf_view.specs.declared.parts.Section.{Section}
use Rattle.elf_view.specs.declared.sizes.Sizes.{Sizes}
use Rattle.elf_view.specs.declared.object.MapRecord.{MapRecord}
use Rattle.elf_view.proofs.LengthLaws.{length-base_headers, length-elf_header, length-padded, length-section_header}
use Rattle.elf_view.proofs.WrittenLaws.{FitsHeader, section_header_at-written}

-- ---- the file header

pub header-shoff : (at n : ℕ) (rest : List ℕ) → at < 2 ^ 64 → e_shoff (elf_header at n ++ rest) ≡ at
unfolding elf_header u64_at
header-shoff at n rest h = little_number-reads_back 8 at [] h

pub header-shnum : (at n : ℕ) (rest : List ℕ) → n < 2 ^ 16 → e_shnum (elf_header at n ++ rest) ≡ n
unfolding elf_header u16_at
header-shnum at n rest h = little_number-reads_back 2 n [] h

pub header-shstrndx : (at n : ℕ) (rest : List ℕ) → e_shstrndx (elf_header at n ++ rest) ≡ 3
unfolding elf_header u16_at
header-shstrndx at n rest = refl

pub header-type : (at n : ℕ) (rest : List ℕ) → e_type (elf_header at n ++ rest) ≡ 1
unfolding elf_header u16_at
header-type at n rest = refl

pub header-machine : (at n : ℕ) (rest : List ℕ) → e_machine (elf_header at n ++ rest) ≡ 247
unfolding elf_header u16_at
header-machine at n rest = refl

pub header-shentsize : (at n : ℕ) (rest : List ℕ) → e_shentsize (elf_header at n ++ rest) ≡ 64
unfolding elf_header u16_at
header-shentsize at n rest = refl

pub header-ident : (at n : ℕ) (rest : List ℕ) → take 6 (elf_header at n ++ rest) ≡ 127 ∷ 69 ∷ 76 ∷ 70 ∷ 2 ∷ 1 ∷ []
unfolding elf_header
header-ident at n rest = refl

-- ---- the section headers

-- what stands in front of them
abbrev pub front : (name code : List ℕ) (maps : List MapRecord) (refs : List (ℕ × ℕ)) → List ℕ
front name code maps refs =
    elf_header (headers_at (sizes_of name code maps refs)) (section_count maps) ++ code
    ++ symbols (length name) (length code) maps ++ rels refs ++ padded (records maps) ++ padded (strings name maps)

pub length-front : (name code : List ℕ) (maps : List MapRecord) (refs : List (ℕ × ℕ))
    → length (front name code maps refs) ≡ headers_at (sizes_of name code maps refs)
length-front name code maps refs =
    six (elf_header (headers_at (sizes_of name code maps refs)) (section_count maps)) code
    (symbols (length name) (length code) maps) (rels refs) (padded (records maps)) (padded (strings name maps)) _ _
    (length-elf_header (headers_at (sizes_of name code maps refs)) (section_count maps)) (length-padded (records maps))
    (length-padded (strings name maps))
  where
    six : (a b c d e f : List ℕ) (p q : ℕ) → length a ≡ 64 → length e ≡ p → length f ≡ q
        → length (a ++ b ++ c ++ d ++ e ++ f) ≡ 64 + length b + length c + length d + p + q
    six a b c d e f p q g h i = omega (arith, length-append {A = ℕ})

-- header number i among headers of 64 bytes each, by what stands in front of it
nth : (bytes f : List ℕ) (s : Section) (align entry : ℕ) (rest : List ℕ) (place : ℕ)
    → bytes ≡ f ++ (section_header s align entry ++ rest) → length f ≡ place → FitsHeader s
    → section_header_at bytes place ≡ s
nth bytes f s align entry rest place e l fits =
    ap (λ ys. section_header_at ys place) e ∙ section_header_at-written f s align entry rest place (sym l) fits

abbrev h0 : List ℕ
h0 = section_header no_section 0 0

abbrev h1 : Sizes → List ℕ
h1 s = section_header (code_section s) 8 0

abbrev h2 : Sizes → List ℕ
h2 s = section_header (symbols_section s) 8 24

abbrev h3 : Sizes → List ℕ
h3 s = section_header (strings_section s) 1 0

at0 : (f a b c d m : List ℕ) → f ++ (a ++ b ++ c ++ d) ++ m ≡ f ++ (a ++ (b ++ (c ++ (d ++ m))))
at0 f a b c d m = simp append_assoc

at1 : (f a b c d m : List ℕ) → f ++ (a ++ b ++ c ++ d) ++ m ≡ (f ++ a) ++ (b ++ (c ++ (d ++ m)))
at1 f a b c d m = simp append_assoc

at2 : (f a b c d m : List ℕ) → f ++ (a ++ b ++ c ++ d) ++ m ≡ (f ++ a ++ b) ++ (c ++ (d ++ m))
at2 f a b c d m = simp append_assoc

at3 : (f a b c d m : List ℕ) → f ++ (a ++ b ++ c ++ d) ++ m ≡ (f ++ a ++ b ++ c) ++ (d ++ m)
at3 f a b c d m = simp append_assoc

-- the four headers of every object
pub record ReadsFour (bytes : List ℕ) (at : ℕ) (s : Sizes) : Type 0 where
  pub first : section_header_at bytes at ≡ no_section
  pub code : section_header_at bytes (at + 64) ≡ code_section s
  pub symbols : section_header_at bytes (at + 128) ≡ symbols_section s
  pub strings : section_header_at bytes (at + 192) ≡ strings_section s

fits_none : FitsHeader no_section
fits_none = record { name = omega arith; kind = omega arith; flags = omega arith; offset = omega arith; size = omega arith; link = omega arith; info = omega arith }

fits_code : (s : Sizes) → headers_at s ≤ 1048576 → FitsHeader (code_section s)
fits_code s h = record { name = omega arith; kind = omega arith; flags = omega arith; offset = omega arith; size = omega arith; link = omega arith; info = omega arith }

fits_symbols : (s : Sizes) → headers_at s ≤ 1048576 → FitsHeader (symbols_section s)
fits_symbols s h = record { name = omega arith; kind = omega arith; flags = omega arith; offset = omega arith; size = omega arith; link = omega arith; info = omega arith }

fits_strings : (s : Sizes) → headers_at s ≤ 1048576 → FitsHeader (strings_section s)
fits_strings s h = record { name = omega arith; kind = omega arith; flags = omega arith; offset = omega arith; size = omega arith; link = omega arith; info = omega arith }

pub reads_four : (f m : List ℕ) (s : Sizes) → length f ≡ headers_at s → headers_at s ≤ 1048576
    → ReadsFour (f ++ base_headers s ++ m) (headers_at s) s
reads_four f m s l small =
    let bytes = f ++ base_headers s ++ m in
    let a = length-section_header no_section 0 0 in
    let b = length-section_header (code_section s) 8 0 in
    let c = length-section_header (symbols_section s) 8 24 in
    record {
      first = nth bytes f no_section 0 0 (h1 s ++ (h2 s ++ (h3 s ++ m))) (headers_at s) (at0 f h0 (h1 s) (h2 s) (h3 s) m) l fits_none;
      code = nth bytes (f ++ h0) (code_section s) 8 0 (h2 s ++ (h3 s ++ m)) (headers_at s + 64) (at1 f h0 (h1 s) (h2 s) (h3 s) m) (one f h0 (headers_at s) l a) (fits_code s small);
      symbols = nth bytes (f ++ h0 ++ h1 s) (symbols_section s) 8 24 (h3 s ++ m) (headers_at s + 128) (at2 f h0 (h1 s) (h2 s) (h3 s) m) (two f h0 (h1 s) (headers_at s) l a b) (fits_symbols s small);
      strings = nth bytes (f ++ h0 ++ h1 s ++ h2 s) (strings_section s) 1 0 m (headers_at s + 192) (at3 f h0 (h1 s) (h2 s) (h3 s) m) (three f h0 (h1 s) (h2 s) (headers_at s) l a b c) (fits_strings s small);
    }
  where
    one : (f a : List ℕ) (n : ℕ) → length f ≡ n → length a ≡ 64 → length (f ++ a) ≡ n + 64
    one f a n e g = omega (arith, length-append {A = ℕ})

    two : (f a b : List ℕ) (n : ℕ) → length f ≡ n → length a ≡ 64 → length b ≡ 64 → length (f ++ a ++ b) ≡ n + 128
    two f a b n e g h = omega (arith, length-append {A = ℕ})

    three : (f a b c : List ℕ) (n : ℕ) → length f ≡ n → length a ≡ 64 → length b ≡ 64 → length c ≡ 64 → length (f ++ a ++ b ++ c) ≡ n + 192
    three f a b c n e g h i = omega (arith, length-append {A = ℕ})

-- ---- the two headers of an object with maps

abbrev h4 : ℕ → Sizes → List ℕ
h4 name_len s = section_header (records_section name_len s) 4 0

abbrev h5 : ℕ → Sizes → List ℕ
h5 name_len s = section_header (rels_section name_len s) 8 16

pub record ReadsTwo (bytes : List ℕ) (at name_len : ℕ) (s : Sizes) : Type 0 where
  pub records : section_header_at bytes (at + 256) ≡ records_section name_len s
  pub rels : section_header_at bytes (at + 320) ≡ rels_section name_len s

fits_records : (name_len : ℕ) (s : Sizes) → headers_at s ≤ 1048576 → name_len ≤ 1048576 → FitsHeader (records_section name_len s)
fits_records name_len s h k = record { name = omega arith; kind = omega arith; flags = omega arith; offset = omega arith; size = omega arith; link = omega arith; info = omega arith }

fits_rels : (name_len : ℕ) (s : Sizes) → headers_at s ≤ 1048576 → name_len ≤ 1048576 → FitsHeader (rels_section name_len s)
fits_rels name_len s h k = record { name = omega arith; kind = omega arith; flags = omega arith; offset = omega arith; size = omega arith; link = omega arith; info = omega arith }

last : (f a b : List ℕ) → f ++ (a ++ b) ≡ (f ++ a) ++ (b ++ [])
last f a b = simp (append_assoc, append-nil)

pub reads_two : (f : List ℕ) (name_len : ℕ) (s : Sizes) → length f ≡ headers_at s → headers_at s ≤ 1048576 → name_len ≤ 1048576
    → ReadsTwo (f ++ base_headers s ++ (h4 name_len s ++ h5 name_len s)) (headers_at s) name_len s
reads_two f name_len s l small names =
    let g = f ++ base_headers s in
    let bytes = g ++ (h4 name_len s ++ h5 name_len s) in
    let a = length-section_header (records_section name_len s) 4 0 in
    let long = sum f (base_headers s) (headers_at s) 256 l (length-base_headers s) in
    record {
      records = nth bytes g (records_section name_len s) 4 0 (h5 name_len s) (headers_at s + 256) refl long (fits_records name_len s small names);
      rels = nth bytes (g ++ h4 name_len s) (rels_section name_len s) 8 16 [] (headers_at s + 320) (last g (h4 name_len s) (h5 name_len s)) (sum g (h4 name_len s) (headers_at s + 256) 64 long a ∙ omega arith) (fits_rels name_len s small names);
    }
  where
    sum : (f b : List ℕ) (n k : ℕ) → length f ≡ n → length b ≡ k → length (f ++ b) ≡ n + k
    sum f b n k e g = omega (arith, length-append {A = ℕ})
