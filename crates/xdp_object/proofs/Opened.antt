-- What the absence of an error says of an ELF file.
use Rattle.std.proofs.Common.{◌≡◌, ◌∙◌, ℕ, zero, suc, ◌+◌, ◌%◌, ◌<◌, ◌==◌, ◌&&◌, Bool, true, false, cond, ltb, Option, Some, None, List, refl, ap, arith}
use Rattle.std.proofs.lemmas.Bool.{ltb-true}
use Rattle.std.specs.Option.{IsSome, is_some, option_or}
use Rattle.elf_view.specs.File.{e_shnum, e_shstrndx, first_symtab, section_at, section_bytes, string_at, symtab_at}
use Rattle.elf_view.specs.Rules.{first_error, is_string_table, name_open, names_open, no_names, sections_outside, short_file, short_headers, wrong_header, wrong_machine, wrong_symbols, wrong_table}
use Rattle.elf_view.specs.list_laws.Firsts.{first_from}

-- where the first of two is none, there is neither
pub no_first : {X : Type 0} (a b : Option X) → option_or a b ≡ None → a ≡ None
no_first None b e = refl
no_first (Some x) b e = absurd (cc)

pub no_rest : {X : Type 0} (a b : Option X) → option_or a b ≡ None → b ≡ None
no_rest None b e = e
no_rest (Some x) b e = absurd (cc)

-- no rule is broken
pub record NoError (bytes : List ℕ) : Type 0 where
  pub file : short_file bytes ≡ None
  pub names : no_names bytes ≡ None
  pub named : names_open bytes ≡ None
  pub symbols : wrong_symbols bytes ≡ None

pub no_error : (bytes : List ℕ) → first_error bytes ≡ None → NoError bytes
unfolding first_error
no_error bytes e0 =
    let e1 = no_rest (short_file bytes) _ e0 in
    let e2 = no_rest (wrong_header bytes) _ e1 in
    let e3 = no_rest (wrong_machine bytes) _ e2 in
    let e4 = no_rest (short_headers bytes) _ e3 in
    let e5 = no_rest (sections_outside bytes) _ e4 in
    let e6 = no_rest (no_names bytes) _ e5 in
    let e7 = no_rest (names_open bytes) _ e6 in
    record { file = no_first (short_file bytes) _ e0; names = no_first (no_names bytes) _ e5; named = no_first (names_open bytes) _ e6; symbols = no_first (wrong_symbols bytes) _ e7 }

pub none_if_true : {X : Type 0} (b : Bool) (x : X) → cond b None (Some x) ≡ None → b ≡ true
none_if_true true x e = refl
none_if_true false x e = absurd (cc)

pub and_left : (a b : Bool) → a && b ≡ true → a ≡ true
and_left true b e = refl
and_left false b e = absurd (cc)

pub and_right : (a b : Bool) → a && b ≡ true → b ≡ true
and_right true b e = e
and_right false b e = absurd (cc)

is_below : (bytes : List ℕ) (i : ℕ) → is_string_table bytes i ≡ true → i < e_shnum bytes
is_below bytes i e = ltb-true i (e_shnum bytes) (and_left (ltb i (e_shnum bytes)) _ e)

-- the section of the section names is one of the file
pub names_below : (bytes : List ℕ) → first_error bytes ≡ None → e_shstrndx bytes < e_shnum bytes
unfolding no_names
names_below bytes e = is_below bytes (e_shstrndx bytes) (none_if_true (is_string_table bytes (e_shstrndx bytes)) _ (no_error bytes e).names)

-- so is the first symbol table
found_below : (bytes : List ℕ) (i n x : ℕ) → first_from (symtab_at bytes) i n ≡ Some x → x < i + n
found_below bytes i zero x e = absurd (cc)
found_below bytes i (suc n) x e = by_test ((section_at bytes i).kind == 2) e (found_below bytes (suc i) n x)
  where
    by_test : (b : Bool) → option_or (cond b (Some i) None) (first_from (symtab_at bytes) (suc i) n) ≡ Some x
        → (first_from (symtab_at bytes) (suc i) n ≡ Some x → x < suc i + n) → x < i + suc n
    by_test true f later = let same : i ≡ x = cc in omega arith
    by_test false f later = let h = later f in omega arith

pub symtab_below : (bytes : List ℕ) (i : ℕ) → first_symtab bytes ≡ Some i → i < e_shnum bytes
unfolding first_symtab
symtab_below bytes i e = let h = found_below bytes 0 (e_shnum bytes) i e in omega arith

-- and its string table
pub strings_below : (bytes : List ℕ) (i : ℕ) → first_error bytes ≡ None → first_symtab bytes ≡ Some i → (section_at bytes i).link < e_shnum bytes
unfolding wrong_symbols
strings_below bytes i e f = of_table (first_symtab bytes) f (no_error bytes e).symbols
  where
    of_table : (o : Option ℕ) → o ≡ Some i → wrong_table bytes o ≡ None → (section_at bytes i).link < e_shnum bytes
    of_table None g h = absurd (cc)
    of_table (Some j) g h =
        let same : j ≡ i = cc in
        let string = and_right ((section_at bytes j).size % 24 == 0) _ (none_if_true _ _ h) in
        rw (← same) (is_below bytes (section_at bytes j).link string)

-- each section's name ends in its table
all_none : {X : Type 0} (f : ℕ → Option X) (i n k : ℕ) → first_from f i n ≡ None → k < n → f (i + k) ≡ None
all_none f i zero k e h = absurd (omega arith)
all_none f i (suc n) zero e h = ap f (omega arith) ∙ no_first (f i) (first_from f (suc i) n) e
all_none f i (suc n) (suc k) e h = ap f (omega arith) ∙ all_none f (suc i) n k (no_rest (f i) (first_from f (suc i) n) e) (omega arith)

pub section_named : (bytes : List ℕ) (i : ℕ) → first_error bytes ≡ None → i < e_shnum bytes
    → IsSome (string_at (section_bytes bytes (e_shstrndx bytes)) (section_at bytes i).name)
unfolding names_open
section_named bytes i e h =
    let none = all_none (name_open bytes (section_bytes bytes (e_shstrndx bytes))) 0 (e_shnum bytes) i (no_error bytes e).named h in
    let here : name_open bytes (section_bytes bytes (e_shstrndx bytes)) i ≡ None = ap (λ k. name_open bytes (section_bytes bytes (e_shstrndx bytes)) k) (omega arith) ∙ none in
    none_if_true (is_some (string_at (section_bytes bytes (e_shstrndx bytes)) (section_at bytes i).name)) _ here
