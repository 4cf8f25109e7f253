-- What is written of whole programs, and of functions with no maps, is read back.
use Rattle.std.proofs.Common.{◌≡◌, ◌≢◌, ◌∙◌, ℕ, ◌+◌, ◌-◌, ◌*◌, ◌/◌, ◌%◌, ◌^◌, ◌<◌, ◌≤◌, ◌==◌, ◌||◌, Bool, true, false, cond, Option, Some, None, List, [], ◌∷◌, length, get_or, refl, sym, ap, subst, arith, inl, inr}
use Rattle.std.proofs.Math.Facts.{to_z-of_z}
use Rattle.std.proofs.lemmas.Bool.{cases_lt, eqb-true}
use Rattle.std.proofs.lemmas.List.{get_or_past, length-append, length-map, nil_from_length}
use Rattle.std.proofs.lemmas.List.Elements.{All-head, All-nil, All-tail}
use Rattle.std.specs.Int.{w64, cast_signed, cast_unsigned}
use Rattle.std.specs.Int.RustNames.{FitsSigned}
use Rattle.std.specs.List.{All, list_any, range_with_len}
use Rattle.bpf_isa.specs.declared.instruction.Insn.{Insn}
use Rattle.bpf_isa.specs.declared.operation.Op.TheVariants.{LoadImm}
use Rattle.bpf_isa.specs.Spelling.{units_of}
use Rattle.bpf_isa.specs.Text.{insn_at, unit_count}
use Rattle.bpf_isa.specs.Laid.{laid}
use Rattle.bpf_isa.proofs.LaidLaws.{insn_at-laid, length-laid}
use Rattle.bpf_isa.proofs.Laws.{units_of-positive}
use Rattle.bpf_isa.proofs.TextLaws.{insn_at-stands, length-text_of}
use Rattle.elf_view.specs.declared.object.MapRecord.{MapRecord}
use Rattle.elf_view.specs.Layout.{function_symbol, object_layout, object_size, rels}
use Rattle.elf_view.proofs.LengthLaws.{length-rels}
use Rattle.xdp_maps.specs.declared.decl.MapDecl.{MapDecl}
use Rattle.xdp_machine.specs.Program.{IsReference, XdpProgram}
use Rattle.xdp_object.specs.Choice.{Chosen, chosen}
use Rattle.xdp_object.specs.Functions.{is_asked_for}
use Rattle.xdp_object.specs.Laws.{AreRecords, IsWritable, LayoutLaw, NumbersLaw, ProgramLaw, map_at, map_by, number_in, refs_of, without_maps}
use Rattle.xdp_object.specs.Maps.{map_number, numbered, with_low}
use Rattle.xdp_object.specs.Object.{IsObject}
use Rattle.xdp_object.specs.Relocations.{is_load, said_at}
use Rattle.xdp_object.proofs.Layouts.{asked_by_name, asked_by_section, seen}
use Rattle.xdp_object.proofs.MapLayouts.{next_is, seen_maps}
use Rattle.xdp_object.proofs.NumberLaws.{and_first, load_fits, numbered_back, numbered_units}
use Rattle.xdp_object.proofs.Places.{insn_at-skip}
use Rattle.xdp_object.proofs.Referring.{AreNext, Ascend, ascend, counts, said_number}
use Rattle.xdp_object.proofs.TableLaws.{LoadAt}
use Rattle.xdp_object.proofs.WrittenBack.{Good, Says, object_read, says_maps, says_nothing}

-- ---- instructions keep the numbers that they have

pub numbers_stay : (number : ℕ → Option ℕ) (at : ℕ) (is : List Insn) → ((p : ℕ) (i : Insn) → insn_at is p ≡ Some i → with_low (number (at + p)) i ≡ i) → numbered number at is ≡ is
numbers_stay number at [] h = refl
numbers_stay number at (i ∷ is) h =
    let here : at ≡ at + 0 = omega arith in
    let first : with_low (number at) i ≡ i = ap (λ q. with_low (number q) i) here ∙ h 0 i refl in
    ap (λ j. j ∷ numbered number (at + units_of i.op) is) first
    ∙ ap (λ js. i ∷ js)
    (numbers_stay number (at + units_of i.op) is
    (λ p j e.
    let past : units_of i.op + p - units_of i.op ≡ p = omega arith in
    let there : at + units_of i.op + p ≡ at + (units_of i.op + p) = omega arith in
    ap (λ q. with_low (number q) j) there
    ∙ h (units_of i.op + p) j (insn_at-skip i is (units_of i.op + p) (omega arith) ∙ ap (insn_at is) past ∙ e)))

same_low : (i : Insn) → FitsSigned w64 i.imm → with_low (Some (map_by (Some i))) i ≡ i
same_low i fits =
    ap (λ n. record { op = i.op; dst = i.dst; src = i.src; offset = i.offset; imm = cast_signed w64 n }) (halves (cast_unsigned w64 i.imm))
    ∙ ap (λ z. record { op = i.op; dst = i.dst; src = i.src; offset = i.offset; imm = z }) (to_z-of_z fits)
  where
    halves : (n : ℕ) → n / 2 ^ 32 * 2 ^ 32 + n % 2 ^ 32 ≡ n
    halves n = omega arith

-- they are given the same numbers
numbered_alike : (f g : ℕ → Option ℕ) (at : ℕ) (is : List Insn) → ((p : ℕ) → f p ≡ g p) → numbered f at is ≡ numbered g at is
numbered_alike f g at [] h = refl
numbered_alike f g at (i ∷ is) h =
    ap (λ o. with_low o i ∷ numbered f (at + units_of i.op) is) (h at) ∙ ap (λ js. with_low (g at) i ∷ js) (numbered_alike f g (at + units_of i.op) is h)

below_units : (is : List Insn) (p : ℕ) (i : Insn) → insn_at is p ≡ Some i → p < unit_count is
below_units is p i e = elim (cases_lt p (unit_count is)) [
  | inl below ↦ below
  | inr past ↦ let none = insn_at-laid is p ∙ get_or_past (laid is) p None (omega (arith, past, length-laid is)) in absurd (cc (none, e))
]

not_empty : {X : Type 0} (xs : List X) → xs ≢ [] → 0 < length xs
not_empty [] h = absurd (h refl)
not_empty (x ∷ xs) h = omega arith

no_next : (hash_cap : ℕ) (bytes : List ℕ) (decls : List MapDecl) → decls ≡ [] → AreNext hash_cap bytes decls
no_next hash_cap bytes decls none before d after e = absurd (omega (arith, ap length none, ap length e, length-append before (d ∷ after)))

-- ---- functions with no maps

pub reads_layout : (name code : List ℕ) (insns : List Insn) → LayoutLaw name code insns
reads_layout name code insns letters some spells fits hash_cap =
    let bytes = object_layout name code [] [] in
    let number : ℕ → ℕ = λ q. 0 in
    let h = seen name code [] [] fits in
    let read : (choice : Chosen) → is_asked_for choice.program bytes 1 ≡ true → IsObject choice bytes (without_maps name insns) = λ choice asked.
    object_read choice bytes name code insns [] number [] []
    (record {
      seen = h;
      says = says_nothing bytes name code [] number h;
      letters = letters;
      spells = spells;
      some = not_empty code some;
      asked = asked;
      rising = tt;
      loads = All-nil (LoadAt insns);
      next = no_next choice.hash_cap bytes [] refl;
      counts = refl;
    })
    (without_maps name insns) refl
    (λ places said. numbers_stay (λ p. map_number [] (said_at places p)) 0 insns (λ p i e. ap (λ r. with_low (map_number [] r) i) (said (0 + p)))) refl refl in
    record {
      by_section = read (chosen None hash_cap) (asked_by_section bytes name code [] [] h);
      by_name = read (chosen (Some name) hash_cap) (asked_by_name bytes name code [] [] h letters);
    }

-- ---- whole programs

-- a place that refers to a map
abbrev IsRef : XdpProgram → ℕ → Type 0
IsRef p q = LoadAt p.insns q × (map_at p q < length p.decls)

ref_of : (p : XdpProgram) → All (IsReference p.insns (length p.decls)) p.refs → All (IsRef p) p.refs
ref_of p h k d below =
    let r = h k d below in
    (record { insn = r.insn; begins = r.begins; load = is_a_load r.insn r.load r.source }, subst (λ (o : Option Insn). map_by o < length p.decls) (sym r.begins) r.map)
  where
    is_a_load : (i : Insn) → i.op ≡ LoadImm → i.src ≡ 0 → is_load i ≡ true
    is_a_load i e f = rw (e, f) refl

found_in : (P : ℕ → Type 0) (qs : List ℕ) (q : ℕ) → All P qs → list_any (λ r. r == q) qs ≡ true → P q
found_in P [] q each e = absurd (cc)
found_in P (x ∷ qs) q each e = by_test (found_in P qs q (All-tail P x qs each)) (x == q) refl
  where
    by_test : (list_any (λ r. r == q) qs ≡ true → P q) → (b : Bool) → (x == q) ≡ b → P q
    by_test rest true t = subst (λ (y : ℕ). P y) (eqb-true x q t) (All-head P x qs each)
    by_test rest false t = rest (ap (λ b. b || list_any (λ r. r == q) qs) (sym t) ∙ e)

-- the numbers of its loads are those of their maps
pub keeps_numbers : (p : XdpProgram) → NumbersLaw p
keeps_numbers p h =
    numbers_stay (number_in p) 0 p.insns
    (λ q i e.
    let here : 0 + q ≡ q = omega arith in
    ap (λ k. with_low (number_in p k) i) here ∙ by_test q i e (list_any (λ r. r == q) p.refs) refl)
  where
    by_test : (q : ℕ) (i : Insn) → insn_at p.insns q ≡ Some i → (b : Bool) → list_any (λ r. r == q) p.refs ≡ b → with_low (cond b (Some (map_at p q)) None) i ≡ i
    by_test q i e false t = refl
    by_test q i e true t =
        let ref = found_in (IsRef p) p.refs q (ref_of p h.refs) t in
        let same : ref.0.insn ≡ i = cc (ref.0.begins, e) in
        let load : is_load i ≡ true = ap is_load (sym same) ∙ ref.0.load in
        ap (λ o. with_low (Some (map_by o)) i) e
        ∙ same_low i (load_fits i.op i.dst i.src i.offset i.imm (and_first _ _ load) (insn_at-stands p.insns q i h.legal e).legal)

-- the loads of code that has yet other numbers
loads_before : (p : XdpProgram) (insns : List Insn) → numbered (number_in p) 0 insns ≡ p.insns → All (IsRef p) p.refs → All (LoadAt insns) p.refs
loads_before p insns becomes refs k d below =
    let q = get_or p.refs k d in
    let r = (refs k d below).0 in
    let back = numbered_back (number_in p) 0 insns q r.insn (ap (λ is. insn_at is q) becomes ∙ r.begins) in
    record {
      insn = back.0;
      begins = back.1;
      load = kept (number_in p (0 + q)) back.0 ∙ ap is_load back.2 ∙ r.load;
    }
  where
    kept : (o : Option ℕ) (i : Insn) → is_load i ≡ is_load (with_low o i)
    kept None i = refl
    kept (Some n) i = refl

small_rels : (name code : List ℕ) (maps : List MapRecord) (refs : List (ℕ × ℕ)) → object_size name code maps refs ≤ 1048576 → length (rels refs) ≤ 1048576
small_rels name code maps refs fits = omega (arith, fits, length-rels refs)

as_many : (maps : List MapRecord) (decls : List MapDecl) → AreRecords maps decls → length maps ≡ length decls
as_many maps decls h = sym (length-map maps (λ (m : MapRecord). m.name.now)) ∙ ap length h.names ∙ length-map decls (λ (d : MapDecl). d.name)

no_refs : (p : XdpProgram) → All (IsRef p) p.refs → length p.decls ≡ 0 → p.refs ≡ []
no_refs p each e = by_refs p.refs each
  where
    by_refs : (qs : List ℕ) → All (IsRef p) qs → qs ≡ []
    by_refs [] h = refl
    by_refs (q ∷ qs) h = let r = h 0 0 (omega arith) in absurd (omega (arith, e, r.1))

-- what its relocations say, and what follows of its maps
record Maps (hash_cap : ℕ) (bytes code : List ℕ) (p : XdpProgram) : Type 0 where
  says : Says bytes (function_symbol (length code)) (map_at p) p.refs
  next : AreNext hash_cap bytes p.decls

maps_of_program : (hash_cap : ℕ) (p : XdpProgram) (code : List ℕ) (maps : List MapRecord) → IsWritable hash_cap p → AreRecords maps p.decls
    → object_size p.name code maps (refs_of p) ≤ 1048576 → All (IsRef p) p.refs → All (Good (map_at p) (length maps) (length code / 8)) p.refs
    → Maps hash_cap (object_layout p.name code maps (refs_of p)) code p
maps_of_program hash_cap p code [] w records_are fits refs good =
    let bytes = object_layout p.name code [] (refs_of p) in
    let none : length p.decls ≡ 0 = sym (as_many [] p.decls records_are) in
    record {
      says = subst (λ (qs : List ℕ). Says bytes (function_symbol (length code)) (map_at p) qs) (sym (no_refs p refs none))
          (says_nothing bytes p.name code (refs_of p) (map_at p) (seen p.name code [] (refs_of p) fits));
      next = no_next hash_cap bytes p.decls (nil_from_length p.decls none);
    }
maps_of_program hash_cap p code (m ∷ ms) w records_are fits refs good =
    let maps = m ∷ ms in
    let bytes = object_layout p.name code maps (refs_of p) in
    let h = seen p.name code maps (refs_of p) fits in
    let k = seen_maps p.name code m ms (refs_of p) fits in
    record {
      says = says_maps bytes p.name code maps (map_at p) p.refs h k (small_rels p.name code maps (refs_of p) fits) good;
      next = next_is hash_cap bytes p.name code maps (refs_of p) p.decls h k records_are w.program.maps w.program.decls w.program.names w.hashes;
    }

pub reads_program : (hash_cap : ℕ) (p : XdpProgram) (code : List ℕ) (insns : List Insn) (maps : List MapRecord) → ProgramLaw hash_cap p code insns maps
reads_program hash_cap p code insns maps w spells becomes records_are fits =
    let bytes = object_layout p.name code maps (refs_of p) in
    let h = seen p.name code maps (refs_of p) fits in
    let refs = ref_of p w.program.refs in
    let loads = loads_before p insns becomes refs in
    let small : All (λ q. map_at p q < length p.decls) p.refs = λ k d below. (refs k d below).1 in
    let units : length code ≡ 8 * unit_count insns = ap length spells.bytes ∙ length-text_of insns in
    let same_units : unit_count p.insns ≡ unit_count insns = ap unit_count (sym becomes) ∙ numbered_units (number_in p) 0 insns in
    let inside : All (λ q. q < length code / 8) p.refs = λ k d below. let r = loads k d below in omega (arith, units, below_units insns (get_or p.refs k d) r.insn r.begins) in
    let rising : Ascend 0 (length code / 8) p.refs = ascend 0 (length code / 8) p.refs w.program.ascending inside (λ some. omega arith) in
    let good : All (Good (map_at p) (length maps) (length code / 8)) p.refs = λ k d below. (omega (arith, small k d below, as_many maps p.decls records_are), inside k d below) in
    let m = maps_of_program hash_cap p code maps w records_are fits refs good in
    let read : (program : Option (List ℕ)) → is_asked_for program bytes 1 ≡ true → IsObject (chosen program hash_cap) bytes p = λ program asked.
    object_read (chosen program hash_cap) bytes p.name code insns maps (map_at p) p.refs p.decls
    (record {
      seen = h;
      says = m.says;
      letters = w.name;
      spells = spells;
      some = filled (not_empty p.insns w.some) units same_units;
      asked = asked;
      rising = rising;
      loads = loads;
      next = m.next;
      counts = counts (map_at p) (length p.decls) 0 p.refs (omega arith) small (λ n low below. w.numbered n below);
    })
    p refl
    (λ places said.
    numbered_alike (λ q. map_number (range_with_len 2 (length p.decls)) (said_at places q)) (number_in p) 0 insns
    (λ q. ap (map_number (range_with_len 2 (length p.decls))) (said q) ∙ said_number (map_at p) (length p.decls) p.refs 0 (length code / 8) q rising small)
    ∙ becomes) refl refl in
    record {
      by_section = read None (asked_by_section bytes p.name code maps (refs_of p) h);
      by_name = read (Some p.name) (asked_by_name bytes p.name code maps (refs_of p) h w.name);
    }
  where
    some_units : (is : List Insn) → 0 < length is → 0 < unit_count is
    some_units [] h = h
    some_units (i ∷ is) h = omega (arith, units_of-positive i.op)

    filled : 0 < length p.insns → length code ≡ 8 * unit_count insns → unit_count p.insns ≡ unit_count insns → 0 < length code
    filled some e f = omega (arith, e, f, some_units p.insns some)
