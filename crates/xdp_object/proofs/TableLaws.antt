-- The maps of a function, and the program that they make up with its instructions.
use Rattle.std.proofs.Common.{◌≡◌, ◌≢◌, ◌∙◌, ℕ, zero, suc, ◌+◌, ◌^◌, ◌<◌, ◌≤◌, ◌==◌, ◌||◌, ◌++◌, not, Bool, true, false, cond, Option, Some, None, Result, Ok, Err, List, [], ◌∷◌, length, map, refl, sym, ap, subst, arith, inl, inr}
use Rattle.std.proofs.lemmas.Bool.{cases_lt, lt-ltb}
use Rattle.std.proofs.lemmas.Bool.Decides.{nat_tests}
use Rattle.std.proofs.lemmas.List.{get_or_default, get_or_past, length_push}
use Rattle.std.proofs.lemmas.List.Elements.{All-push}
use Rattle.std.proofs.lemmas.List.Folds.{list_any-append}
use Rattle.std.proofs.lemmas.List.Quantifiers.{all_pairs_push, position-Some}
use Rattle.std.specs.List.{All, list_any, position, position_or_len}
use Rattle.bpf_isa.specs.declared.instruction.Insn.{Insn}
use Rattle.bpf_isa.specs.Spelling.{IsInsn}
use Rattle.bpf_isa.specs.Text.{insn_at, unit_count}
use Rattle.bpf_isa.proofs.TextLaws.{insn_at-stands}
use Rattle.xdp_maps.specs.declared.decl.MapDecl.{MapDecl}
use Rattle.xdp_machine.specs.Program.{IsDeclaration, IsProgram, IsReference}
use Rattle.xdp_object.specs.declared.error.ObjectError.{ObjectError}
use Rattle.xdp_object.specs.declared.relocated.Relocated.{Relocated}
use Rattle.xdp_object.specs.declared.relocated.Relocated.TheVariants.{Untouched, Refers, Unknown}
use Rattle.xdp_object.specs.Maps.{AreMaps, IsNameIn, MapTable, all_referred, carried, map_number, next_map, no_maps, referred, with_map, with_numbers}
use Rattle.xdp_object.specs.Relocations.{Reference, first_unknown, is_load, reference_by, references, references_from, said_at, unknown_at, unknown_by}
use Rattle.xdp_object.proofs.NumberLaws.{AllLoads, Loads, numbered_legal, numbered_refers, numbered_units, refs_all, refs_rising}
use Rattle.xdp_object.proofs.Opened.{none_if_true}
use Rattle.btf_view.proofs.list_laws_laws.FirstLaws.{none-first_from}

-- ---- one more map

pub more_maps : (t : MapTable) (n : ℕ) (d : MapDecl) → AreMaps t → length t.decls < 16 → IsDeclaration d → ¬ IsNameIn t.decls d.name
    → AreMaps (record { symbols = t.symbols ++ n ∷ []; decls = t.decls ++ d ∷ [] })
more_maps t n d h few decl free = record {
  beside = length_push t.symbols n ∙ ap (λ k. k + 1) h.beside ∙ sym (length_push t.decls d);
  few = omega (arith, length_push t.decls d, few);
  decls = All-push IsDeclaration t.decls d h.decls decl;
  names = all_pairs_push (λ x y. x.name ≢ y.name) t.decls d h.names
      (λ k e below same. free (k, below, λ x. ap (λ (y : MapDecl). y.name) (get_or_default t.decls k x e below) ∙ same));
}

-- no map
pub no_maps_are : (symbols : List ℕ) (decls : List MapDecl) → symbols ≡ [] → decls ≡ [] → AreMaps (record { symbols = symbols; decls = decls })
no_maps_are symbols decls e f = record {
  beside = ap length e ∙ sym (ap length f);
  few = omega (arith, ap length f);
  decls = λ k d below. absurd (omega (arith, below, ap length f));
  names = λ i j d up below. absurd (omega (arith, below, ap length f));
}

-- the same by other names
pub maps_are : (symbols new_symbols : List ℕ) (decls new_decls : List MapDecl) (n : ℕ) (d : MapDecl) → new_symbols ≡ symbols ++ n ∷ [] → new_decls ≡ decls ++ d ∷ []
    → AreMaps (record { symbols = symbols; decls = decls }) → length decls < 16 → IsDeclaration d → ¬ IsNameIn decls d.name
    → AreMaps (record { symbols = new_symbols; decls = new_decls })
maps_are symbols new_symbols decls new_decls n d e f h few decl free =
    subst (λ (xs : List ℕ). AreMaps (record { symbols = xs; decls = new_decls })) (sym e)
    (subst (λ (ds : List MapDecl). AreMaps (record { symbols = symbols ++ n ∷ []; decls = ds })) (sym f)
    (more_maps (record { symbols = symbols; decls = decls }) n d h few decl free))

-- ---- the symbols that are referred to

abbrev Has : MapTable → ℕ → Type 0
Has t s = list_any (λ m. m == s) t.symbols ≡ true

record Entered (t : MapTable) (n : ℕ) (u : MapTable) : Type 0 where
  keeps : (s : ℕ) → Has t s → Has u s
  enters : Has u n

or_left : (a b : Bool) → a ≡ true → a || b ≡ true
or_left true b e = refl
or_left false b e = absurd (cc)

or_right : (a b : Bool) → b ≡ true → a || b ≡ true
or_right true b e = refl
or_right false b e = e

itself : (n : ℕ) → (n == n) || false ≡ true
itself n = let same : (n == n) ≡ true = grind (arith, nat_tests) in ap (λ b. b || false) same

pushed : (xs : List ℕ) (n s : ℕ) → list_any (λ m. m == s) (xs ++ n ∷ []) ≡ (list_any (λ m. m == s) xs || list_any (λ m. m == s) (n ∷ []))
pushed xs n s = list_any-append (λ m. m == s) xs (n ∷ [])

entered : (hash_cap : ℕ) (bytes : List ℕ) (t : MapTable) (n : ℕ) (u : MapTable) → referred hash_cap bytes t n ≡ Ok u → Entered t n u
unfolding referred
entered hash_cap bytes t n u e = by_test (list_any (λ m. m == n) t.symbols) refl (next_map hash_cap bytes t.decls n) e
  where
    by_test : (b : Bool) → list_any (λ m. m == n) t.symbols ≡ b → (r : Result MapDecl ObjectError) → cond b (Ok t) (with_map t n r) ≡ Ok u → Entered t n u
    by_test true there r f = let same : t ≡ u = cc in subst (λ (v : MapTable). Entered t n v) same (record { keeps = λ s h. h; enters = there })
    by_test false none (Ok d) f =
        let more : MapTable = record { symbols = t.symbols ++ n ∷ []; decls = t.decls ++ d ∷ [] } in
        let same : more ≡ u = cc in
        subst (λ (v : MapTable). Entered t n v) same (record {
          keeps = λ s h. pushed t.symbols n s ∙ or_left _ _ h;
          enters = pushed t.symbols n n ∙ or_right _ _ (itself n);
        })
    by_test false none (Err error) f = absurd (cc)

record AllEntered (places : List Relocated) (i n : ℕ) (t u : MapTable) : Type 0 where
  keeps : (s : ℕ) → Has t s → Has u s
  enters : (p s : ℕ) → i ≤ p → p < i + n → said_at places p ≡ Refers s → Has u s

all_entered : (hash_cap : ℕ) (bytes : List ℕ) (places : List Relocated) (i n : ℕ) (t u : MapTable)
    → all_referred hash_cap bytes t (references_from places i n) ≡ Ok u → AllEntered places i n t u
all_entered hash_cap bytes places i zero t u e =
    let same : t ≡ u = cc in
    subst (λ (v : MapTable). AllEntered places i 0 t v) same (record { keeps = λ s h. h; enters = λ p s low high said. absurd (omega arith) })
all_entered hash_cap bytes places i (suc n) t u e = by_said (λ v f. all_entered hash_cap bytes places (suc i) n v u f) (said_at places i) refl e
  where
    -- the place says nothing of a map
    skipped : (r : Relocated) → said_at places i ≡ r → ((s : ℕ) → r ≢ Refers s) → AllEntered places (suc i) n t u → AllEntered places i (suc n) t u
    skipped r is never h = record {
      keeps = h.keeps;
      enters = λ p s low high said. elim (cases_lt i p) [
        | inl later ↦ h.enters p s (omega arith) (omega arith) said
        | inr here ↦ let same : p ≡ i = omega arith in absurd (never s (sym is ∙ ap (said_at places) (sym same) ∙ said))
      ];
    }

    -- or it refers to one
    taken : ((v : MapTable) → all_referred hash_cap bytes v (references_from places (suc i) n) ≡ Ok u → AllEntered places (suc i) n v u)
        → (s : ℕ) → said_at places i ≡ Refers s → (r : Result MapTable ObjectError) → referred hash_cap bytes t s ≡ r
        → carried r (λ v. all_referred hash_cap bytes v (references_from places (suc i) n)) ≡ Ok u → AllEntered places i (suc n) t u
    taken rest s is (Err error) f g = absurd (cc)
    taken rest s is (Ok v) f g =
        let first = entered hash_cap bytes t s v f in
        let h = rest v g in
        record {
          keeps = λ m there. h.keeps m (first.keeps m there);
          enters = λ p m low high said. elim (cases_lt i p) [
            | inl later ↦ h.enters p m (omega arith) (omega arith) said
            | inr here ↦
                let same : p ≡ i = omega arith in
                let one : Refers s ≡ Refers m = sym is ∙ ap (said_at places) (sym same) ∙ said in
                let symbol : s ≡ m = cc in
                subst (λ (k : ℕ). Has u k) symbol (h.keeps s first.enters)
          ];
        }

    by_said : ((v : MapTable) → all_referred hash_cap bytes v (references_from places (suc i) n) ≡ Ok u → AllEntered places (suc i) n v u)
        → (r : Relocated) → said_at places i ≡ r → all_referred hash_cap bytes t (reference_by i r ++ references_from places (suc i) n) ≡ Ok u
        → AllEntered places i (suc n) t u
    by_said rest Untouched is f = skipped Untouched is (λ s g. absurd (cc)) (rest t f)
    by_said rest (Refers s) is f = taken rest s is (referred hash_cap bytes t s) refl f
    by_said rest Unknown is f = skipped Unknown is (λ s g. absurd (cc)) (rest t f)

-- ---- the number of a symbol

below_len : (p : ℕ → Bool) (xs : List ℕ) → list_any p xs ≡ true → position_or_len p xs < length xs
below_len p [] e = absurd (cc)
below_len p (x ∷ xs) e = by_test (λ f. below_len p xs f) (p x) refl
  where
    by_test : (list_any p xs ≡ true → position_or_len p xs < length xs) → (b : Bool) → p x ≡ b → position_or_len p (x ∷ xs) < length (x ∷ xs)
    by_test rest true t = let first : position_or_len p (x ∷ xs) ≡ 0 = ap (λ b. cond (not b) (1 + position_or_len p xs) 0) t in omega arith
    by_test rest false t =
        let next : position_or_len p (x ∷ xs) ≡ 1 + position_or_len p xs = ap (λ b. cond (not b) (1 + position_or_len p xs) 0) t in
        let later = rest (ap (λ b. b || list_any p xs) (sym t) ∙ e) in
        omega (arith, next, later)

numbered_symbol : (xs : List ℕ) (s : ℕ) → list_any (λ m. m == s) xs ≡ true → (n : ℕ) × (position (λ m. m == s) xs ≡ Some n) × (n < length xs)
numbered_symbol xs s e =
    let below = below_len (λ m. m == s) xs e in (
      position_or_len (λ m. m == s) xs,
      ap (λ b. cond b (Some (position_or_len (λ m. m == s) xs)) None) (lt-ltb (position_or_len (λ m. m == s) xs) (length xs) below),
      below,
    )

-- ---- the loads that refer

pub record LoadAt (insns : List Insn) (p : ℕ) : Type 0 where
  pub insn : Insn
  pub begins : insn_at insns p ≡ Some insn
  pub load : is_load insn ≡ true

load_by : (insns : List Insn) (p s : ℕ) (o : Option Insn) → insn_at insns p ≡ o → unknown_by p (Refers s) o ≡ None → LoadAt insns p
load_by insns p s None is e = absurd (cc)
load_by insns p s (Some i) is e = record { insn = i; begins = is; load = none_if_true (is_load i) _ e }

-- at a place that refers to a map a load begins
pub load_at : (places : List Relocated) (insns : List Insn) (p s : ℕ) → first_unknown places insns ≡ None → p < length places → said_at places p ≡ Refers s → LoadAt insns p
unfolding first_unknown
load_at places insns p s e below said =
    let known : unknown_at places insns p ≡ None = none-first_from (unknown_at places insns) 0 (length places) p e (omega arith) (omega arith) in
    load_by insns p s (insn_at insns p) refl (ap (λ r. unknown_by p r (insn_at insns p)) (sym said) ∙ known)

in_range : (places : List Relocated) (p s : ℕ) → said_at places p ≡ Refers s → p < length places
in_range places p s said = elim (cases_lt p (length places)) [
  | inl below ↦ below
  | inr past ↦ let none : said_at places p ≡ Untouched = get_or_past places p Untouched past in absurd (cc (said, none))
]

number_loads : (symbols : List ℕ) (i : Insn) (p : ℕ) (r : Relocated) → length symbols ≤ 16 → ((s : ℕ) → r ≡ Refers s → is_load i ≡ true) → Loads (map_number symbols r) i
number_loads symbols i p Untouched few h = tt
number_loads symbols i p (Refers s) few h = by_place (position (λ m. m == s) symbols) refl
  where
    by_place : (o : Option ℕ) → position (λ m. m == s) symbols ≡ o → Loads o i
    by_place None e = tt
    by_place (Some n) e = let below = (position-Some (λ m. m == s) symbols n 0 e).0 in (omega arith, h s refl)
number_loads symbols i p Unknown few h = tt

all_loads : (places : List Relocated) (insns : List Insn) (symbols : List ℕ) → first_unknown places insns ≡ None → length symbols ≤ 16
    → AllLoads (λ p. map_number symbols (said_at places p)) 0 insns
all_loads places insns symbols known few p i begins =
    let here : 0 + p ≡ p = omega arith in
    subst (λ (q : ℕ). Loads (map_number symbols (said_at places q)) i) (sym here)
    (number_loads symbols i p (said_at places p) few
    (λ s said.
    let found = load_at places insns p s known (in_range places p s said) said in
    let same : found.insn ≡ i = cc (found.begins, begins) in
    ap is_load (sym same) ∙ found.load))

-- ---- the program

pub program_of : (hash_cap : ℕ) (bytes name : List ℕ) (places : List Relocated) (insns : List Insn) (t : MapTable) → All IsInsn insns → unit_count insns < 2 ^ 32
    → first_unknown places insns ≡ None → all_referred hash_cap bytes no_maps (references places) ≡ Ok t → AreMaps t
    → IsProgram (record { name = name; insns = with_numbers places t.symbols insns; decls = t.decls; refs = map (λ (r : Reference). r.place) (references places) })
program_of hash_cap bytes name places insns t legal few known table maps =
    let number : ℕ → Option ℕ = λ p. map_number t.symbols (said_at places p) in
    let all = all_entered hash_cap bytes places 0 (length places) no_maps t table in
    let loads : AllLoads number 0 insns = all_loads places insns t.symbols known (omega (arith, maps.beside, maps.few)) in
    record {
      legal = numbered_legal number 0 insns loads legal;
      few = omega (arith, numbered_units number 0 insns);
      maps = maps.few;
      decls = maps.decls;
      names = maps.names;
      refs = refs_all (IsReference (with_numbers places t.symbols insns) (length t.decls)) places 0 (length places)
          (λ p s low high said.
          let found = load_at places insns p s known (omega arith) said in
          let place = numbered_symbol t.symbols s (all.enters p s low high said) in
          numbered_refers number insns (length t.decls) p place.0 found.insn legal found.begins (insn_at-stands insns p found.insn legal found.begins).legal
          (ap (map_number t.symbols) said ∙ place.1) found.load (omega (arith, place.2, maps.beside)) (omega (arith, maps.few)));
      ascending = refs_rising places 0 (length places);
    }
