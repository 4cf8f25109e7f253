-- The least object of a program is an object of just this program.
use Rattle.std.proofs.Common.{◌≡◌, ◌∙◌, ℕ, suc, ◌+◌, ◌-◌, ◌*◌, ◌/◌, ◌%◌, ◌^◌, ◌<◌, ◌≤◌, ◌==◌, ◌&&◌, min, nat_le, true, false, not, cond, ltb, Some, None, List, [], ◌∷◌, ◌++◌, length, take, map, refl, sym, ap, subst, arith, inl, inr}
use Rattle.std.proofs.lemmas.Bool.{cases_lt}
use Rattle.std.proofs.lemmas.Bool.Decides.{nat_tests}
use Rattle.std.proofs.lemmas.List.{append_assoc, get_or_past, length-append, length-map, take_all}
use Rattle.std.proofs.lemmas.List.Elements.{All-head, All-tail}
use Rattle.std.proofs.lemmas.List.FromFn.{get_or-map-range_with_len, length-map-range_with_len}
use Rattle.std.specs.List.{All, range_with_len}
use Rattle.std.specs.Option.{option_map_or, option_or}
use Rattle.bpf_isa.specs.declared.instruction.Insn.{Insn}
use Rattle.bpf_isa.specs.Text.{Spells, insn_at}
use Rattle.bpf_isa.proofs.TextLaws.{length-text_of}
use Rattle.elf_view.specs.declared.object.MapRecord.{MapRecord}
use Rattle.elf_view.specs.declared.parts.Rel.{Rel}
use Rattle.elf_view.specs.declared.parts.Section.{Section}
use Rattle.elf_view.specs.declared.parts.Symbol.{Symbol}
use Rattle.elf_view.specs.declared.error.ElfError.TheVariants.{Section as ElfSection}
use Rattle.elf_view.specs.Pieces.{rel_bytes}
use Rattle.elf_view.specs.File.{e_shnum, entry_count, rel_at, section_at}
use Rattle.elf_view.specs.Layout.{code_section, function_symbol, no_section, rels, rels_section, records_section, sizes_of, strings_section, symbols_section}
use Rattle.elf_view.proofs.LengthLaws.{length-rel_bytes, length-rels}
use Rattle.elf_view.proofs.NoErrorLaws.{four_none, six_none}
use Rattle.elf_view.proofs.WrittenLaws.{rel_at-written}
use Rattle.xdp_maps.specs.declared.decl.MapDecl.{MapDecl}
use Rattle.xdp_machine.specs.Program.{XdpProgram}
use Rattle.xdp_object.specs.declared.error.ObjectError.TheVariants.{Elf, Relocation}
use Rattle.xdp_object.specs.declared.relocated.Relocated.{Relocated}
use Rattle.xdp_object.specs.declared.relocated.Relocated.TheVariants.{Untouched, Refers, Unknown}
use Rattle.xdp_object.specs.Choice.{Chosen}
use Rattle.xdp_object.specs.Functions.{function_code, is_asked_for, symbol_of}
use Rattle.xdp_object.specs.Maps.{all_referred, no_maps, with_numbers}
use Rattle.xdp_object.specs.Object.{IsObject, relocation_fault}
use Rattle.xdp_object.specs.Relocations.{Reference, both, cut_table, cut_tables, first_unknown, is_map_relocation, is_map_symbol, place_in, places_of, rela_table, rela_tables, references_from, relocated_at, relocates, relocation_of, said_at, said_by_section, said_by_table, said_of, together, unknown_at, unknown_by}
use Rattle.xdp_object.proofs.Layouts.{Seen, name_is, no_fault, opened, second_symbol, the_program}
use Rattle.xdp_object.proofs.MapLayouts.{SeenMaps, of_map}
use Rattle.xdp_object.proofs.Places.{length-places_of}
use Rattle.xdp_object.proofs.ReadLaws.{Sole, has_code, is_object}
use Rattle.xdp_object.proofs.Referring.{AreNext, Ascend, Counts, IsSaid, places_again, refer, references_are, said_behind, said_by, said_is, says, table, table_is}
use Rattle.xdp_object.proofs.Strings.{Letters}
use Rattle.xdp_object.proofs.TableLaws.{LoadAt}
use Rattle.btf_view.proofs.list_laws_laws.FirstLaws.{first_from-none}

-- ---- sections that relocate nothing

other_section : (bytes : List ℕ) (kind target i : ℕ) (z : Section) → section_at bytes i ≡ z → (z.kind == kind) ≡ false
    → relocates bytes kind target i ≡ false
other_section bytes kind target i z e k =
    ap (λ (s : Section). (s.kind == kind) && (s.info == target)) e ∙ ap (λ b. b && (z.info == target)) k

no_cut : (bytes : List ℕ) (i : ℕ) → relocates bytes 9 1 i ≡ false → cut_table bytes 1 i ≡ None
no_cut bytes i e = ap (λ b. cond (b && not ((section_at bytes i).size % 16 == 0)) (Some (Elf (ElfSection i))) None) e

no_entry : (bytes : List ℕ) (i : ℕ) → relocates bytes 4 1 i ≡ false → rela_table bytes 1 i ≡ None
no_entry bytes i e = ap (λ b. cond b (Some (Relocation 0)) None) e

no_place : (bytes : List ℕ) (s : Symbol) (place i : ℕ) → relocates bytes 9 s.section i ≡ false → said_by_section bytes s place i ≡ Untouched
no_place bytes s place i e = ap (λ b. cond b (said_by_table bytes s place i) Untouched) e

-- what the relocations of an object say: none is at fault, and they refer to the maps of these places
pub record Says (bytes : List ℕ) (f : Symbol) (number : ℕ → ℕ) (qs : List ℕ) : Type 0 where
  pub cut : cut_tables bytes 1 ≡ None
  pub rela : rela_tables bytes 1 ≡ None
  pub said : (p : ℕ) → relocated_at bytes f p ≡ said_by number qs p

-- ---- without maps

four_places : (f : ℕ → Relocated) (n : ℕ) → n ≡ 4 → f 0 ≡ Untouched → f 1 ≡ Untouched → f 2 ≡ Untouched → f 3 ≡ Untouched → together f 0 n ≡ Untouched
four_places f n e a b c d = rw (e, a, b, c, d) refl

pub says_nothing : (bytes name code : List ℕ) (refs : List (ℕ × ℕ)) (number : ℕ → ℕ) → Seen bytes name code [] refs → Says bytes (function_symbol (length code)) number []
unfolding cut_tables rela_tables relocated_at
says_nothing bytes name code refs number h =
    let s = sizes_of name code [] refs in
    let x = h.sections in
    let rel : (i : ℕ) (z : Section) → section_at bytes i ≡ z → (z.kind == 9) ≡ false → relocates bytes 9 1 i ≡ false = λ i z e k. other_section bytes 9 1 i z e k in
    let rela : (i : ℕ) (z : Section) → section_at bytes i ≡ z → (z.kind == 4) ≡ false → rela_table bytes 1 i ≡ None = λ i z e k. no_entry bytes i (other_section bytes 4 1 i z e k) in
    let r0 = rel 0 no_section x.none refl in
    let r1 = rel 1 (code_section s) x.code refl in
    let r2 = rel 2 (symbols_section s) x.symbols refl in
    let r3 = rel 3 (strings_section s) x.strings refl in
    let f = function_symbol (length code) in
    record {
      cut = four_none (cut_table bytes 1) (e_shnum bytes) h.count (no_cut bytes 0 r0) (no_cut bytes 1 r1) (no_cut bytes 2 r2) (no_cut bytes 3 r3);
      rela = four_none (rela_table bytes 1) (e_shnum bytes) h.count (rela 0 no_section x.none refl) (rela 1 (code_section s) x.code refl)
          (rela 2 (symbols_section s) x.symbols refl) (rela 3 (strings_section s) x.strings refl);
      said = λ p. four_places (said_by_section bytes f p) (e_shnum bytes) h.count (no_place bytes f p 0 r0) (no_place bytes f p 1 r1) (no_place bytes f p 2 r2) (no_place bytes f p 3 r3);
    }

-- ---- with maps

abbrev pub pairs : (ℕ → ℕ) → List ℕ → List (ℕ × ℕ)
pairs number qs = map (λ q. (q, number q)) qs

abbrev rel_to : (ℕ → ℕ) → ℕ → Rel
rel_to number q = record { offset = 8 * q; symbol = 2 + number q; kind = 1 }

-- a place in a function, and a map
abbrev pub Good : (ℕ → ℕ) → (maps units : ℕ) → ℕ → Type 0
Good number maps units q = (number q < maps) × (q < units)

-- what one entry says
place_of : (size q : ℕ) → q < size / 8 → place_in (function_symbol size) (record { offset = 8 * q; symbol = 0; kind = 1 }) ≡ Some q
place_of size q h =
    ap (λ b. cond b (Some ((8 * q - 0) / 8)) None) (inside (8 * q) size (omega arith)) ∙ ap Some (omega arith)
  where
    inside : (n m : ℕ) → n < m → (nat_le 0 n && ltb n (0 + m)) ≡ true
    inside n m h = grind (arith, nat_tests)

said_of_one : (bytes : List ℕ) (size : ℕ) (number : ℕ → ℕ) (p q : ℕ) → q < size / 8 → is_map_symbol bytes (2 + number q) ≡ true
    → said_of bytes (function_symbol size) p (rel_to number q) ≡ says number p q
said_of_one bytes size number p q h of =
    ap (λ o. cond (option_map_or (λ at. at == p) o false) (relocation_of bytes (function_symbol size) (rel_to number q)) Untouched) (place_of size q h)
    ∙ ap (λ b. cond (q == p) (cond b (Refers (2 + number q)) Unknown) Untouched) known
  where
    whole : (q : ℕ) → ((8 * q - 0) % 8 == 0) ≡ true
    whole q = let e : (8 * q - 0) % 8 ≡ 0 = omega arith in ap (λ n. n == 0) e

    known : is_map_relocation bytes (function_symbol size) (rel_to number q) ≡ true
    known = ap (λ b. true && b && is_map_symbol bytes (2 + number q)) (whole q) ∙ of

-- what the entries say, from one on
entries_say : (bytes : List ℕ) (size maps : ℕ) (number : ℕ → ℕ) (p : ℕ) (front : List ℕ) (qs : List ℕ) (i : ℕ) → maps ≤ 52428 → size ≤ 1048576
    → ((n : ℕ) → n < maps → is_map_symbol bytes (2 + n) ≡ true) → length front ≡ 16 * i → All (Good number maps (size / 8)) qs
    → together (λ k. said_of bytes (function_symbol size) p (rel_at (front ++ rels (pairs number qs)) k)) i (length qs) ≡ said_by number qs p
entries_say bytes size maps number p front [] i few small of at each = refl
entries_say bytes size maps number p front (q ∷ qs) i few small of at each =
    let good = All-head (Good number maps (size / 8)) q qs each in
    let one = rel_bytes (rel_to number q) in
    let rest = rels (pairs number qs) in
    let read : rel_at (front ++ (one ++ rest)) i ≡ rel_to number q =
    rel_at-written front (rel_to number q) rest i at (record { offset = omega (arith, good.1, small); symbol = omega (arith, good.0, few); kind = omega arith }) in
    let next : length (front ++ one) ≡ 16 * suc i = omega (arith, length-append front one, length-rel_bytes (rel_to number q), at) in
    ap (λ r. both (said_of bytes (function_symbol size) p r) (together (λ k. said_of bytes (function_symbol size) p (rel_at (front ++ (one ++ rest)) k)) (suc i) (length qs))) read
    ∙ ap (λ r. both r (together (λ k. said_of bytes (function_symbol size) p (rel_at (front ++ (one ++ rest)) k)) (suc i) (length qs))) (said_of_one bytes size number p q good.1 (of (number q) good.0))
    ∙ ap (λ t. both (says number p q) (together (λ k. said_of bytes (function_symbol size) p (rel_at t k)) (suc i) (length qs))) (sym (append_assoc front one rest))
    ∙ ap (both (says number p q)) (entries_say bytes size maps number p (front ++ one) qs (suc i) few small of next (All-tail (Good number maps (size / 8)) q qs each))

six_places : (f : ℕ → Relocated) (n : ℕ) → n ≡ 6 → f 0 ≡ Untouched → f 1 ≡ Untouched → f 2 ≡ Untouched → f 3 ≡ Untouched → f 4 ≡ Untouched → together f 0 n ≡ f 5
six_places f n e a b c d g = rw (e, a, b, c, d, g) (alone (f 5))
  where
    alone : (r : Relocated) → both r Untouched ≡ r
    alone Untouched = refl
    alone (Refers s) = refl
    alone Unknown = refl

count_of : (number : ℕ → ℕ) (qs : List ℕ) → length (rels (pairs number qs)) ≤ 1048576 → entry_count 16 (rels (pairs number qs)) ≡ length qs
count_of number qs small = counted (length (rels (pairs number qs))) (length qs) (length-rels (pairs number qs) ∙ ap (λ n. 16 * n) (length-map qs (λ q. (q, number q)))) small
  where
    counted : (n k : ℕ) → n ≡ 16 * k → n ≤ 1048576 → min (n / 16) (2 ^ 32 - 1) ≡ k
    counted n k e small' = omega arith

pub says_maps : (bytes name code : List ℕ) (maps : List MapRecord) (number : ℕ → ℕ) (qs : List ℕ) → Seen bytes name code maps (pairs number qs)
    → SeenMaps bytes name maps (pairs number qs) (sizes_of name code maps (pairs number qs)) → length (rels (pairs number qs)) ≤ 1048576
    → All (Good number (length maps) (length code / 8)) qs → Says bytes (function_symbol (length code)) number qs
unfolding cut_tables rela_tables relocated_at
says_maps bytes name code maps number qs h k small each =
    let s = sizes_of name code maps (pairs number qs) in
    let x = h.sections in
    let rel : (i : ℕ) (z : Section) → section_at bytes i ≡ z → (z.kind == 9) ≡ false → relocates bytes 9 1 i ≡ false = λ i z e g. other_section bytes 9 1 i z e g in
    let rela : (i : ℕ) (z : Section) → section_at bytes i ≡ z → (z.kind == 4) ≡ false → rela_table bytes 1 i ≡ None = λ i z e g. no_entry bytes i (other_section bytes 4 1 i z e g) in
    let r0 = rel 0 no_section x.none refl in
    let r1 = rel 1 (code_section s) x.code refl in
    let r2 = rel 2 (symbols_section s) x.symbols refl in
    let r3 = rel 3 (strings_section s) x.strings refl in
    let r4 = rel 4 (records_section (length name) s) k.records_section refl in
    let f = function_symbol (length code) in
    let table_here : relocates bytes 9 1 5 ≡ true = ap (λ (z : Section). (z.kind == 9) && (z.info == 1)) k.rels_section in
    record {
      cut = six_none (cut_table bytes 1) (e_shnum bytes) k.count (no_cut bytes 0 r0) (no_cut bytes 1 r1) (no_cut bytes 2 r2) (no_cut bytes 3 r3) (no_cut bytes 4 r4)
          (ap (λ (z : Section). cond ((z.kind == 9) && (z.info == 1) && not (z.size % 16 == 0)) (Some (Elf (ElfSection 5))) None) k.rels_section
          ∙ ap (λ b. cond (true && true && not b) (Some (Elf (ElfSection 5))) None) (whole (length (rels (pairs number qs))) (length (pairs number qs)) (length-rels (pairs number qs))));
      rela = six_none (rela_table bytes 1) (e_shnum bytes) k.count (rela 0 no_section x.none refl) (rela 1 (code_section s) x.code refl)
          (rela 2 (symbols_section s) x.symbols refl) (rela 3 (strings_section s) x.strings refl) (rela 4 (records_section (length name) s) k.records_section refl)
          (rela 5 (rels_section (length name) s) k.rels_section refl);
      said = λ p.
          six_places (said_by_section bytes f p) (e_shnum bytes) k.count (no_place bytes f p 0 r0) (no_place bytes f p 1 r1) (no_place bytes f p 2 r2) (no_place bytes f p 3 r3) (no_place bytes f p 4 r4)
          ∙ ap (λ b. cond b (said_by_table bytes f p 5) Untouched) table_here
          ∙ ap (λ t. together (λ e. said_of bytes f p (rel_at t e)) 0 (entry_count 16 t)) k.rel_bytes
          ∙ ap (together (λ e. said_of bytes f p (rel_at (rels (pairs number qs)) e)) 0) (count_of number qs small)
          ∙ entries_say bytes (length code) (length maps) number p [] qs 0 h.few h.small (of_map bytes name code maps (pairs number qs) h k) refl each;
    }
  where
    whole : (n k : ℕ) → n ≡ 16 * k → (n % 16 == 0) ≡ true
    whole n k e = let z : n % 16 ≡ 0 = omega arith in ap (λ m. m == 0) z

-- ---- the places of the function

said_places : (bytes : List ℕ) (f : Symbol) (number : ℕ → ℕ) (qs : List ℕ) → Says bytes f number qs → Ascend 0 (f.size / 8) qs
    → (p : ℕ) → said_at (places_of bytes f) p ≡ said_by number qs p
unfolding places_of
said_places bytes f number qs h rising p = elim (cases_lt p (f.size / 8)) [
  | inl below ↦ get_or-map-range_with_len (relocated_at bytes f) 0 (f.size / 8) p p Untouched below (omega arith) ∙ h.said p
  | inr past ↦
      get_or_past (map (relocated_at bytes f) (range_with_len 0 (f.size / 8))) p Untouched (omega (arith, past, length-map-range_with_len (relocated_at bytes f) 0 (f.size / 8)))
      ∙ sym (said_behind number qs 0 (f.size / 8) p rising past)
]

-- a load begins at each of them
all_known : (places : List Relocated) (insns : List Insn) (number : ℕ → ℕ) (qs : List ℕ) (end : ℕ) → ((p : ℕ) → said_at places p ≡ said_by number qs p)
    → Ascend 0 end qs → All (LoadAt insns) qs → first_unknown places insns ≡ None
unfolding first_unknown
all_known places insns number qs end said rising loads =
    first_from-none (unknown_at places insns) 0 (length places)
    (λ k low. ap (λ r. unknown_by k r (insn_at insns k)) (said k) ∙ known k (said_by number qs k) (said_is number (LoadAt insns) qs 0 end k rising loads))
  where
    known : (k : ℕ) (r : Relocated) → IsSaid number (LoadAt insns) k r → unknown_by k r (insn_at insns k) ≡ None
    known k Untouched tt = refl
    known k (Refers s) (is, load) =
        ap (unknown_by k (Refers s)) load.begins ∙ ap (λ b. cond b None (Some (Relocation k))) load.load
    known k Unknown none = absurd none

-- ---- the object

pub record Written (choice : Chosen) (bytes name code : List ℕ) (insns : List Insn) (maps : List MapRecord) (number : ℕ → ℕ) (qs : List ℕ) (decls : List MapDecl) : Type 0 where
  pub seen : Seen bytes name code maps (pairs number qs)
  pub says : Says bytes (function_symbol (length code)) number qs
  pub letters : Letters name
  pub spells : Spells code insns
  pub some : 0 < length code
  pub asked : is_asked_for choice.program bytes 1 ≡ true
  pub rising : Ascend 0 (length code / 8) qs
  pub loads : All (LoadAt insns) qs
  pub next : AreNext choice.hash_cap bytes decls
  pub counts : Counts number (length decls) 0 qs

pub object_read : (choice : Chosen) (bytes name code : List ℕ) (insns : List Insn) (maps : List MapRecord) (number : ℕ → ℕ) (qs : List ℕ) (decls : List MapDecl)
    → Written choice bytes name code insns maps number qs decls → (p : XdpProgram) → p.name ≡ name
    → ((places : List Relocated) → ((at : ℕ) → said_at places at ≡ said_by number qs at) → with_numbers places (range_with_len 2 (length decls)) insns ≡ p.insns)
    → p.decls ≡ decls → p.refs ≡ qs → IsObject choice bytes p
unfolding relocation_fault
object_read choice bytes name code insns maps number qs decls w p name_is' insns_are decls_are refs_are =
    let refs = pairs number qs in
    let whole : length code % 8 ≡ 0 = omega (arith, ap length w.spells.bytes, length-text_of insns) in
    let s = function_symbol (length code) in
    let symbol = second_symbol bytes name code maps refs w.seen in
    let sole : Sole choice bytes 1 = record { opened = opened bytes name code maps refs w.seen; sole = the_program choice.program bytes name code maps refs w.seen w.some w.asked } in
    let bytes_are : function_code bytes (symbol_of bytes 1) ≡ code =
    ap (function_code bytes) symbol ∙ ap (take (length code)) w.seen.code_bytes ∙ take_all (length code) code (omega arith) in
    let has = has_code choice bytes 1 s code sole (no_fault bytes name code maps refs w.seen w.letters whole) (sym symbol) (sym bytes_are) in
    let places : List Relocated = places_of bytes s in
    let said = said_places bytes s number qs w.says w.rising in
    let size : length places ≡ length code / 8 = length-places_of bytes s in
    let fine : relocation_fault bytes s insns ≡ None =
    ap (λ o. option_or o (option_or (rela_tables bytes 1) (option_or (first_unknown places insns) None))) w.says.cut
    ∙ ap (λ o. option_or o (option_or (first_unknown places insns) None)) w.says.rela
    ∙ ap (λ o. option_or o None) (all_known places insns number qs (length code / 8) said w.rising w.loads) in
    let refs_there : (n : ℕ) → n ≡ length places → references_from places 0 n ≡ map (refer number) qs =
    λ n e. references_are number places qs 0 n (subst (λ (m : ℕ). Ascend 0 m qs) (omega (arith, e, size)) w.rising) (λ q low. said q) in
    is_object choice bytes 1 s code name insns places (table decls) p sole has (name_is bytes name code maps refs w.seen w.letters) w.spells fine refl
    (ap (all_referred choice.hash_cap bytes no_maps) (refs_there (length places - 0) (omega arith)) ∙ table_is choice.hash_cap bytes decls number [] decls qs w.next refl w.counts)
    name_is' (sym (insns_are places said)) decls_are
    (refs_are ∙ sym (places_again number qs) ∙ sym (ap (map (λ (r : Reference). r.place)) (refs_there (length places) refl)))
