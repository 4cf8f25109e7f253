-- What is read where something was written: the readings of `File` at the headers and entries of `Pieces`. A caller
-- reads back by them what `object_layout` puts at a place.
use Rattle.std.proofs.Common.{◌≡◌, ℕ, ◌+◌, ◌*◌, ◌/◌, ◌%◌, ◌^◌, ◌<◌, List, [], ◌++◌, length, drop, slice_index, refl, sym, ap, ◌∙◌, arith}
use Rattle.std.proofs.lemmas.List.{drop-drop, drop_at, get_or-append-add}
use Rattle.std.proofs.lemmas.Nat.{div-mul-add, mod-mul-add}
use Rattle.byteorder.specs.Endian.{little_number}
use Rattle.byteorder.specs.Numbers.{little_number-reads_back}
use Rattle.elf_view.specs.Numbers.{u16_at, u32_at, u64_at}
use Rattle.elf_view.specs.Pieces.{rel_bytes, section_header, symbol_bytes}
use Rattle.elf_view.specs.File.{rel_at, section_header_at, symbol_at}
use Rattle.elf_view.specs.declared.parts.Section.{Section}
use Rattle.elf_view.specs.declared.parts.Symbol.{Symbol}
use Rattle.elf_view.specs.declared.parts.Rel.{Rel}

number-behind : (n : ℕ) (front rest : List ℕ) (k place : ℕ) → place ≡ length front + k
    → little_number n (drop place (front ++ rest)) ≡ little_number n (drop k rest)
number-behind n front rest k place e =
    ap (λ p. little_number n (drop p (front ++ rest))) e
    ∙ ap (little_number n) (sym (drop-drop k (length front) (front ++ rest)) ∙ ap (drop k) (drop_at front rest (length front) refl))

-- a number after other bytes
pub u16_at-behind : (front rest : List ℕ) (k place : ℕ) → place ≡ length front + k
    → u16_at (front ++ rest) place ≡ u16_at rest k
unfolding u16_at
u16_at-behind front rest k place e = number-behind 2 front rest k place e

pub u32_at-behind : (front rest : List ℕ) (k place : ℕ) → place ≡ length front + k
    → u32_at (front ++ rest) place ≡ u32_at rest k
unfolding u32_at
u32_at-behind front rest k place e = number-behind 4 front rest k place e

pub u64_at-behind : (front rest : List ℕ) (k place : ℕ) → place ≡ length front + k
    → u64_at (front ++ rest) place ≡ u64_at rest k
unfolding u64_at
u64_at-behind front rest k place e = number-behind 8 front rest k place e

-- ---- section headers

-- the fields fit their widths
pub record FitsHeader (s : Section) : Type 0 where
  pub name : s.name < 2 ^ 32
  pub kind : s.kind < 2 ^ 32
  pub flags : s.flags < 2 ^ 64
  pub offset : s.offset < 2 ^ 64
  pub size : s.size < 2 ^ 64
  pub link : s.link < 2 ^ 32
  pub info : s.info < 2 ^ 32

abbrev header : ℕ → ℕ → ℕ → ℕ → ℕ → ℕ → ℕ → Section
header n k f o z l i = record { name = n; kind = k; flags = f; offset = o; size = z; link = l; info = i }

same_header : {n n' k k' f f' o o' z z' l l' i i' : ℕ} → n ≡ n' → k ≡ k' → f ≡ f' → o ≡ o' → z ≡ z' → l ≡ l' → i ≡ i'
    → header n k f o z l i ≡ header n' k' f' o' z' l' i'
same_header a b c d e g h = cc

header-first : (s : Section) (align entry : ℕ) (rest : List ℕ) → FitsHeader s
    → section_header_at (section_header s align entry ++ rest) 0 ≡ s
unfolding section_header_at section_header u32_at u64_at
header-first s align entry rest fits =
    same_header (little_number-reads_back 4 s.name [] fits.name) (little_number-reads_back 4 s.kind [] fits.kind)
    (little_number-reads_back 8 s.flags [] fits.flags) (little_number-reads_back 8 s.offset [] fits.offset)
    (little_number-reads_back 8 s.size [] fits.size) (little_number-reads_back 4 s.link [] fits.link)
    (little_number-reads_back 4 s.info [] fits.info)

header-behind : (front rest : List ℕ) (place : ℕ) → place ≡ length front
    → section_header_at (front ++ rest) place ≡ section_header_at rest 0
unfolding section_header_at
header-behind front rest place e =
    same_header (u32_at-behind front rest 0 place (omega arith)) (u32_at-behind front rest 4 (place + 4) (omega arith))
    (u64_at-behind front rest 8 (place + 8) (omega arith)) (u64_at-behind front rest 24 (place + 24) (omega arith))
    (u64_at-behind front rest 32 (place + 32) (omega arith)) (u32_at-behind front rest 40 (place + 40) (omega arith))
    (u32_at-behind front rest 44 (place + 44) (omega arith))

-- a section header that was written is read
pub section_header_at-written : (front : List ℕ) (s : Section) (align entry : ℕ) (rest : List ℕ) (place : ℕ)
    → place ≡ length front → FitsHeader s
    → section_header_at (front ++ (section_header s align entry ++ rest)) place ≡ s
section_header_at-written front s align entry rest place e fits =
    header-behind front (section_header s align entry ++ rest) place e ∙ header-first s align entry rest fits

-- ---- symbols

pub record FitsSymbol (s : Symbol) : Type 0 where
  pub name : s.name < 2 ^ 32
  pub section : s.section < 2 ^ 16
  pub value : s.value < 2 ^ 64
  pub size : s.size < 2 ^ 64

abbrev a_symbol : ℕ → ℕ → ℕ → ℕ → ℕ → Symbol
a_symbol n i s v z = record { name = n; info = i; section = s; value = v; size = z }

same_symbol : {n n' i i' s s' v v' z z' : ℕ} → n ≡ n' → i ≡ i' → s ≡ s' → v ≡ v' → z ≡ z'
    → a_symbol n i s v z ≡ a_symbol n' i' s' v' z'
same_symbol a b c d e = cc

symbol-first : (s : Symbol) (rest : List ℕ) → FitsSymbol s → symbol_at (symbol_bytes s ++ rest) 0 ≡ s
unfolding symbol_at symbol_bytes u16_at u32_at u64_at
symbol-first s rest fits =
    same_symbol (little_number-reads_back 4 s.name [] fits.name) refl (little_number-reads_back 2 s.section [] fits.section)
    (little_number-reads_back 8 s.value [] fits.value) (little_number-reads_back 8 s.size [] fits.size)

symbol-behind : (front rest : List ℕ) (i : ℕ) → length front ≡ 24 * i → symbol_at (front ++ rest) i ≡ symbol_at rest 0
unfolding symbol_at
symbol-behind front rest i e =
    let byte : 24 * i + 4 ≡ length front + 4 = omega arith in
    same_symbol (u32_at-behind front rest 0 (24 * i) (omega arith))
    (ap (λ p. slice_index (front ++ rest) p) byte ∙ get_or-append-add front rest 4 0)
    (u16_at-behind front rest 6 (24 * i + 6) (omega arith)) (u64_at-behind front rest 8 (24 * i + 8) (omega arith))
    (u64_at-behind front rest 16 (24 * i + 16) (omega arith))

-- a symbol that was written is read
pub symbol_at-written : (front : List ℕ) (s : Symbol) (rest : List ℕ) (i : ℕ) → length front ≡ 24 * i → FitsSymbol s
    → symbol_at (front ++ (symbol_bytes s ++ rest)) i ≡ s
symbol_at-written front s rest i e fits = symbol-behind front (symbol_bytes s ++ rest) i e ∙ symbol-first s rest fits

-- ---- relocations

pub record FitsRel (r : Rel) : Type 0 where
  pub offset : r.offset < 2 ^ 64
  pub symbol : r.symbol < 2 ^ 32
  pub kind : r.kind < 2 ^ 32

abbrev a_rel : ℕ → ℕ → ℕ → Rel
a_rel o s k = record { offset = o; symbol = s; kind = k }

same_rel : {o o' s s' k k' : ℕ} → o ≡ o' → s ≡ s' → k ≡ k' → a_rel o s k ≡ a_rel o' s' k'
same_rel a b c = cc

rel-first : (r : Rel) (rest : List ℕ) → FitsRel r → rel_at (rel_bytes r ++ rest) 0 ≡ r
unfolding rel_at rel_bytes u64_at
rel-first r rest fits =
    let info = little_number-reads_back 8 (r.symbol * 2 ^ 32 + r.kind) [] (below r.symbol r.kind fits.symbol fits.kind) in
    same_rel (little_number-reads_back 8 r.offset [] fits.offset)
    (ap (λ n. n / 2 ^ 32) info ∙ div-mul-add r.symbol (2 ^ 32) r.kind fits.kind)
    (ap (λ n. n % 2 ^ 32) info ∙ mod-mul-add r.symbol (2 ^ 32) r.kind fits.kind)
  where
    below : (s k : ℕ) → s < 2 ^ 32 → k < 2 ^ 32 → s * 2 ^ 32 + k < 256 ^ 8
    below s k hs hk = omega arith

rel-behind : (front rest : List ℕ) (i : ℕ) → length front ≡ 16 * i → rel_at (front ++ rest) i ≡ rel_at rest 0
unfolding rel_at
rel-behind front rest i e =
    let info = u64_at-behind front rest 8 (16 * i + 8) (omega arith) in
    same_rel (u64_at-behind front rest 0 (16 * i) (omega arith)) (ap (λ n. n / 2 ^ 32) info) (ap (λ n. n % 2 ^ 32) info)

-- a relocation that was written is read
pub rel_at-written : (front : List ℕ) (r : Rel) (rest : List ℕ) (i : ℕ) → length front ≡ 16 * i → FitsRel r
    → rel_at (front ++ (rel_bytes r ++ rest)) i ≡ r
rel_at-written front r rest i e fits = rel-behind front (rel_bytes r ++ rest) i e ∙ rel-first r rest fits
