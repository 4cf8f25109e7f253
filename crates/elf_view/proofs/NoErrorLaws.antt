-- No rule of `Rules` is broken by a small object.
use Rattle.std.proofs.Common.{◌≡◌, ℕ, ◌+◌, ◌-◌, ◌*◌, ◌%◌, ◌<◌, ◌≤◌, ◌==◌, ◌&&◌, Bool, true, false, not, cond, ltb, Option, List, [], ◌∷◌, ◌++◌, length, take, drop, get_or, codes, Some, None, refl, sym, ap, ◌∙◌, arith}
use Rattle.std.proofs.lemmas.Bool.Decides.{nat_tests}
use Rattle.std.proofs.lemmas.List.{append_assoc, append-nil, get_or_at, get_or-drop, length-drop, length_push}
use Rattle.std.specs.Option.{is_some}
use Rattle.elf_view.specs.File.{e_machine, e_shentsize, e_shnum, e_shoff, e_shstrndx, e_type, first_symtab, section_at, section_header_at, string_at, symtab_at}
use Rattle.elf_view.specs.Layout.{map_names, strings, text}
use Rattle.elf_view.specs.Rules.{first_error, is_string_table, name_open, names_open, no_names, section_outside, sections_outside, short_file, short_headers, wrong_header, wrong_machine, wrong_symbols, wrong_table}
use Rattle.elf_view.specs.declared.error.ElfError.TheVariants.{At, Section, Short}
use Rattle.elf_view.specs.declared.parts.Section.{Section as Section'}
use Rattle.elf_view.specs.declared.object.MapRecord.{MapRecord}
use Rattle.elf_view.proofs.SearchLaws.{found, is_some-position}
use Rattle.list_laws.specs.Firsts.{first_from}

-- ---- one section

-- section i stands 64 * i after the first
pub section_at-place : (bytes : List ℕ) (at i place : ℕ) (s : Section') → e_shoff bytes ≡ at → place ≡ at + 64 * i
    → section_header_at bytes place ≡ s → section_at bytes i ≡ s
section_at-place bytes at i place s e p h =
    ap (section_header_at bytes) (ap (λ n. n + 64 * i) e ∙ sym p) ∙ h

inside_test : (kind size end : ℕ) → end ≤ size → not (kind == 8) && ltb size end ≡ false
inside_test kind size end h = grind (arith, nat_tests)

-- it stands in the file
pub section_outside-none : (bytes : List ℕ) (i : ℕ) (s : Section') → section_at bytes i ≡ s
    → s.offset + s.size ≤ length bytes → section_outside bytes i ≡ None
section_outside-none bytes i s e h =
    ap (λ z. cond (not (z.kind == 8) && ltb (length bytes) (z.offset + z.size)) (Some (Section i)) None) e
    ∙ ap (λ b. cond b (Some (Section i)) None) (inside_test s.kind (length bytes) (s.offset + s.size) h)

-- a string that begins in a table whose last byte is zero ends there
pub string_at-some : (table ys : List ℕ) (at : ℕ) → table ≡ ys ++ 0 ∷ [] → at ≤ length ys
    → is_some (string_at table at) ≡ true
string_at-some table ys at e h =
    let size : length table ≡ length ys + 1 = ap length e ∙ length_push ys 0 in
    let rest = length-drop at table in
    let k : ℕ = length ys - at in
    let place : at + k ≡ length ys = omega arith in
    let last : get_or table (length ys) 0 ≡ 0 = ap (λ zs. get_or zs (length ys) 0) e ∙ get_or_at ys 0 [] 0 (length ys) refl in
    let zero = get_or-drop at table k 0 ∙ ap (λ i. get_or table i 0) place ∙ last in
    is_some-position table at ∙ below _ _ (found (drop at table) k (omega arith) zero)
  where
    below : (a b : ℕ) → a < b → ltb a b ≡ true
    below a b h = grind (arith, nat_tests)

-- its name ends
pub name_open-none : (bytes table ys : List ℕ) (i : ℕ) (s : Section') → section_at bytes i ≡ s → table ≡ ys ++ 0 ∷ []
    → s.name ≤ length ys → name_open bytes table i ≡ None
name_open-none bytes table ys i s e ends h =
    ap (λ z. cond (is_some (string_at table z.name)) None (Some (At z.name))) e
    ∙ ap (λ b. cond b None (Some (At s.name))) (string_at-some table ys s.name ends h)

-- it is no symbol table, or the one
pub symtab_at-none : (bytes : List ℕ) (i : ℕ) (s : Section') → section_at bytes i ≡ s → s.kind == 2 ≡ false
    → symtab_at bytes i ≡ None
symtab_at-none bytes i s e h =
    ap (λ z. cond (z.kind == 2) (Some i) None) e ∙ ap (λ b. cond b (Some i) None) h

pub symtab_at-some : (bytes : List ℕ) (i : ℕ) (s : Section') → section_at bytes i ≡ s → s.kind == 2 ≡ true
    → symtab_at bytes i ≡ Some i
symtab_at-some bytes i s e h =
    ap (λ z. cond (z.kind == 2) (Some i) None) e ∙ ap (λ b. cond b (Some i) None) h

-- it is a string table
pub is_string_table-true : (bytes : List ℕ) (i n : ℕ) (s : Section') → e_shnum bytes ≡ n → i < n → section_at bytes i ≡ s
    → s.kind == 3 ≡ true → is_string_table bytes i ≡ true
is_string_table-true bytes i n s en below e kind =
    ap (λ z. ltb i (e_shnum bytes) && (z.kind == 3)) e ∙ ap (λ b. ltb i (e_shnum bytes) && b) kind
    ∙ both i (e_shnum bytes) (omega (arith, en))
  where
    both : (i n : ℕ) → i < n → ltb i n && true ≡ true
    both i n h = grind (arith, nat_tests)

-- ---- four and six of them

pub four_none : {X : Type 0} (f : ℕ → Option X) (n : ℕ) → n ≡ 4 → f 0 ≡ None → f 1 ≡ None → f 2 ≡ None → f 3 ≡ None
    → first_from f 0 n ≡ None
four_none f n e a b c d = rw (e, a, b, c, d) refl

pub six_none : {X : Type 0} (f : ℕ → Option X) (n : ℕ) → n ≡ 6 → f 0 ≡ None → f 1 ≡ None → f 2 ≡ None → f 3 ≡ None
    → f 4 ≡ None → f 5 ≡ None → first_from f 0 n ≡ None
six_none f n e a b c d g h = rw (e, a, b, c, d, g, h) refl

pub third_of_four : {X : Type 0} (f : ℕ → Option X) (n : ℕ) (x : X) → n ≡ 4 → f 0 ≡ None → f 1 ≡ None → f 2 ≡ Some x
    → first_from f 0 n ≡ Some x
third_of_four f n x e a b c = rw (e, a, b, c) refl

pub third_of_six : {X : Type 0} (f : ℕ → Option X) (n : ℕ) (x : X) → n ≡ 6 → f 0 ≡ None → f 1 ≡ None → f 2 ≡ Some x
    → first_from f 0 n ≡ Some x
third_of_six f n x e a b c = rw (e, a, b, c) refl

-- ---- the string table

-- the names of maps end with a zero byte
pub map_names-end : (m : MapRecord) (ms : List MapRecord) → (ys : List ℕ) × (map_names (m ∷ ms) ≡ ys ++ 0 ∷ [])
unfolding text
map_names-end m [] = (m.name.now, append-nil (m.name.now ++ 0 ∷ []))
map_names-end m (k ∷ ms) =
    let rest = map_names-end k ms in
    (text m.name.now ++ rest.0, ap (λ zs. text m.name.now ++ zs) rest.1 ∙ sym (append_assoc (text m.name.now) rest.0 (0 ∷ [])))

-- so does the string table
pub strings-end : (name : List ℕ) (maps : List MapRecord) → (ys : List ℕ) × (strings name maps ≡ ys ++ 0 ∷ [])
unfolding text
strings-end name [] = (fixed ++ name, no_more fixed name)
  where
    fixed : List ℕ
    fixed = 0 ∷ codes "xdp" ++ 0 ∷ [] ++ codes ".symtab" ++ 0 ∷ [] ++ codes ".strtab" ++ 0 ∷ []

    no_more : (p n : List ℕ) → p ++ (n ++ 0 ∷ []) ++ [] ≡ (p ++ n) ++ 0 ∷ []
    no_more p n = simp (append_assoc, append-nil)
strings-end name (m ∷ ms) =
    let rest = map_names-end m ms in
    let more = text (codes "maps") ++ text (codes ".relxdp") in
    let all = text [] ++ text (codes "xdp") ++ text (codes ".symtab") ++ text (codes ".strtab") ++ text name in
    (all ++ (more ++ rest.0), ap (λ zs. all ++ (more ++ zs)) rest.1 ∙ pushed all more rest.0)
  where
    pushed : (q r w : List ℕ) → q ++ (r ++ (w ++ 0 ∷ [])) ≡ (q ++ (r ++ w)) ++ 0 ∷ []
    pushed q r w = simp append_assoc

-- ---- the rules, one by one

not_below : (a b : ℕ) → b ≤ a → ltb a b ≡ false
not_below a b h = grind (arith, nat_tests)

pub no_short_file : (bytes : List ℕ) → 64 ≤ length bytes → short_file bytes ≡ None
unfolding short_file
no_short_file bytes h = ap (λ b. cond b (Some (Short 64)) None) (not_below (length bytes) 64 h)

pub no_wrong_header : (bytes : List ℕ) → take 6 bytes ≡ 127 ∷ 69 ∷ 76 ∷ 70 ∷ 2 ∷ 1 ∷ [] → e_type bytes ≡ 1
    → e_shentsize bytes ≡ 64 → wrong_header bytes ≡ None
unfolding wrong_header
no_wrong_header bytes a b c = rw (a, b, c) refl

pub no_wrong_machine : (bytes : List ℕ) → e_machine bytes ≡ 247 → wrong_machine bytes ≡ None
unfolding wrong_machine
no_wrong_machine bytes e = rw e refl

pub no_short_headers : (bytes : List ℕ) → e_shoff bytes + 64 * e_shnum bytes ≤ length bytes → short_headers bytes ≡ None
unfolding short_headers
no_short_headers bytes h =
    ap (λ b. cond b (Some (Short (e_shoff bytes + 64 * e_shnum bytes))) None) (not_below (length bytes) (e_shoff bytes + 64 * e_shnum bytes) h)

pub names_there : (bytes : List ℕ) → e_shstrndx bytes ≡ 3 → is_string_table bytes 3 ≡ true → no_names bytes ≡ None
unfolding no_names
names_there bytes e h =
    ap (λ b. cond b None (Some (Section (e_shstrndx bytes)))) (ap (is_string_table bytes) e ∙ h)

pub no_wrong_symbols : (bytes : List ℕ) (s : Section') → first_symtab bytes ≡ Some 2 → section_at bytes 2 ≡ s
    → s.size % 24 ≡ 0 → is_string_table bytes s.link ≡ true → wrong_symbols bytes ≡ None
unfolding wrong_symbols
no_wrong_symbols bytes s first e size link =
    ap (wrong_table bytes) first
    ∙ ap (λ z. cond ((z.size % 24 == 0) && is_string_table bytes z.link) None (Some (Section 2))) e
    ∙ ap (λ b. cond b None (Some (Section 2))) (both (s.size % 24) (is_string_table bytes s.link) size link)
  where
    both : (n : ℕ) (b : Bool) → n ≡ 0 → b ≡ true → (n == 0) && b ≡ true
    both n b e h = rw (e, h) refl

pub all_kept : (bytes : List ℕ) → short_file bytes ≡ None → wrong_header bytes ≡ None → wrong_machine bytes ≡ None
    → short_headers bytes ≡ None → sections_outside bytes ≡ None → no_names bytes ≡ None → names_open bytes ≡ None
    → wrong_symbols bytes ≡ None → first_error bytes ≡ None
unfolding first_error
all_kept bytes a b c d e f g h = rw (a, b, c, d, e, f, g, h) refl
