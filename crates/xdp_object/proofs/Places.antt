-- What the relocations of a function say of its places, one relocation after the other.
use Rattle.std.proofs.Common.{◌≡◌, ◌∙◌, ℕ, pos, zero, suc, ◌+◌, ◌-◌, ◌/◌, ◌<◌, ◌≤◌, ◌==◌, inl, inr, Bool, true, false, cond, ltb, Option, Some, None, List, ◌∷◌, ◌++◌, length, get_or, take, drop, refl, sym, ap, subst, arith}
use Rattle.std.proofs.lemmas.Bool.{le-ltb}
use Rattle.std.proofs.lemmas.List.{drop_all, take_at}
use Rattle.std.proofs.lemmas.List.FromFn.{fill_by_all, get_or-map-range_with_len, length-map-range_with_len}
use Rattle.std.proofs.Math.Seq.{drop-cons}
use Rattle.std.specs.Option.{option_map_or, option_or}
use Rattle.bpf_isa.specs.declared.operation.Op.TheVariants.{LoadImm}
use Rattle.bpf_isa.specs.declared.instruction.Insn.{Insn}
use Rattle.bpf_isa.specs.Spelling.{units_of}
use Rattle.bpf_isa.specs.Text.{insn_at, unit_count}
use Rattle.bpf_isa.proofs.Laws.{units_of-positive}
use Rattle.bpf_isa.proofs.LaidLaws.{one_or_two}
use Rattle.elf_view.specs.declared.parts.Rel.{Rel}
use Rattle.elf_view.specs.declared.parts.Symbol.{Symbol}
use Rattle.elf_view.specs.File.{e_shnum, entry_count, rel_at, section_bytes}
use Rattle.xdp_object.specs.declared.relocated.Relocated.{Relocated}
use Rattle.xdp_object.specs.declared.relocated.Relocated.TheVariants.{Untouched, Refers, Unknown}
use Rattle.xdp_object.specs.declared.error.ObjectError.{ObjectError}
use Rattle.xdp_object.specs.Relocations.{both, is_map_relocation, is_map_symbol, place_in, places_of, relocated_at, relocates, relocation_of, said_at, said_by_section, said_by_table, said_of, together, unknown_at, unknown_by, unknown_in}
use Rattle.xdp_object.proofs.Opened.{and_right}
use Rattle.xdp_object.proofs.FaultLaws.{first_there, option_or-assoc}
use Rattle.elf_view.specs.list_laws.Firsts.{first_from}
use Rattle.btf_view.proofs.list_laws_laws.FirstLaws.{first_from-next}

both-none : (a : Relocated) → both a Untouched ≡ a
both-none Untouched = refl
both-none (Refers s) = refl
both-none Unknown = refl

both-assoc : (a b c : Relocated) → both (both a b) c ≡ both a (both b c)
both-assoc Untouched b c = refl
both-assoc (Refers s) Untouched c = refl
both-assoc (Refers s) (Refers t) Untouched = refl
both-assoc (Refers s) (Refers t) (Refers u) = refl
both-assoc (Refers s) (Refers t) Unknown = refl
both-assoc (Refers s) Unknown Untouched = refl
both-assoc (Refers s) Unknown (Refers u) = refl
both-assoc (Refers s) Unknown Unknown = refl
both-assoc Unknown Untouched c = refl
both-assoc Unknown (Refers t) Untouched = refl
both-assoc Unknown (Refers t) (Refers u) = refl
both-assoc Unknown (Refers t) Unknown = refl
both-assoc Unknown Unknown Untouched = refl
both-assoc Unknown Unknown (Refers u) = refl
both-assoc Unknown Unknown Unknown = refl

-- one more, after those that say `so_far`
pub together-step : (f : ℕ → Relocated) (so_far one new : Relocated) (i n : ℕ) → i < n → one ≡ f i → new ≡ both so_far one
    → both so_far (together f i (n - i)) ≡ both new (together f (i + 1) (n - (i + 1)))
together-step f so_far one new i n h e m =
    let size : n - i ≡ suc (n - (i + 1)) = omega arith in
    let next : suc i ≡ i + 1 = omega arith in
    ap (λ k. both so_far (together f i k)) size
    ∙ ap (λ o. both so_far (both o (together f (suc i) (n - (i + 1))))) (sym e)
    ∙ sym (both-assoc so_far one (together f (suc i) (n - (i + 1))))
    ∙ ap (λ k. both (both so_far one) (together f k (n - (i + 1)))) next
    ∙ ap (λ o. both o (together f (i + 1) (n - (i + 1)))) (sym m)

-- and none after the last
pub together-end : (f : ℕ → Relocated) (so_far : Relocated) (i n : ℕ) → n ≡ i → both so_far (together f i (n - i)) ≡ so_far
together-end f so_far i n e = let none : n - i ≡ 0 = omega arith in ap (λ k. both so_far (together f i k)) none ∙ both-none so_far

-- ---- the list of what is said of each place

pub places_are : (bytes : List ℕ) (f : Symbol) (xs zs : List Relocated) (n : ℕ) → length xs ≡ n → n ≡ f.size / 8
    → ((p : ℕ) → p < n → get_or xs p Untouched ≡ relocated_at bytes f p) → take n (xs ++ zs) ≡ places_of bytes f
unfolding places_of
places_are bytes f xs zs n len size said =
    take_at xs zs n len
    ∙ fill_by_all (relocated_at bytes f) xs (f.size / 8) Untouched (len ∙ size) (λ k below. said k (omega (arith, size, below)))

pub length-places_of : (bytes : List ℕ) (f : Symbol) → length (places_of bytes f) ≡ f.size / 8
unfolding places_of
length-places_of bytes f = length-map-range_with_len (relocated_at bytes f) 0 (f.size / 8)

-- ---- a walk over instructions

-- what begins at a place is what begins there after the first k instructions, which end at `place`
pub record Walked (insns : List Insn) (k place : ℕ) : Type 0 where
  pub rest : (p : ℕ) → place ≤ p → insn_at insns p ≡ insn_at (drop k insns) (p - place)

pub insn_at-skip : (i : Insn) (is : List Insn) (n : ℕ) → units_of i.op ≤ n → insn_at (i ∷ is) n ≡ insn_at is (n - units_of i.op)
insn_at-skip i is zero h = absurd (omega (arith, units_of-positive i.op))
insn_at-skip i is (suc m) h = ap (λ b. cond b None (insn_at is (suc m - units_of i.op))) (le-ltb (suc m) (units_of i.op) h)

insn_at-inside : (i : Insn) (is : List Insn) → units_of i.op ≡ 2 → insn_at (i ∷ is) 1 ≡ None
insn_at-inside i is two = ap (λ u. cond (ltb 1 u) None (insn_at is (1 - u))) two

-- the instruction that comes next begins at `place`
pub walked_here : (insns : List Insn) (k place : ℕ) (d : Insn) → Walked insns k place → k < length insns → insn_at insns place ≡ Some (get_or insns k d)
walked_here insns k place d w lt =
    w.rest place (omega arith) ∙ ap (insn_at (drop k insns)) (omega arith) ∙ ap (λ is. insn_at is 0) (drop-cons insns k d lt)

pub walked_inside : (insns : List Insn) (k place : ℕ) (d : Insn) → Walked insns k place → k < length insns → units_of (get_or insns k d).op ≡ 2
    → insn_at insns (place + 1) ≡ None
walked_inside insns k place d w lt two =
    w.rest (place + 1) (omega arith) ∙ ap (insn_at (drop k insns)) (omega arith) ∙ ap (λ is. insn_at is 1) (drop-cons insns k d lt)
    ∙ insn_at-inside (get_or insns k d) (drop (suc k) insns) two

pub walked_more : (insns : List Insn) (k place : ℕ) (d : Insn) → Walked insns k place → k < length insns
    → Walked insns (k + 1) (place + units_of (get_or insns k d).op)
walked_more insns k place d w lt = record { rest = rest }
  where
    rest : (p : ℕ) → place + units_of (get_or insns k d).op ≤ p
        → insn_at insns p ≡ insn_at (drop (k + 1) insns) (p - (place + units_of (get_or insns k d).op))
    rest p past =
        let next : suc k ≡ k + 1 = omega arith in
        let left : p - place - units_of (get_or insns k d).op ≡ p - (place + units_of (get_or insns k d).op) = omega arith in
        w.rest p (omega (arith, past)) ∙ ap (λ is. insn_at is (p - place)) (drop-cons insns k d lt)
        ∙ insn_at-skip (get_or insns k d) (drop (suc k) insns) (p - place) (omega (arith, past))
        ∙ ap (insn_at (drop (suc k) insns)) left
        ∙ ap (λ j. insn_at (drop j insns) (p - (place + units_of (get_or insns k d).op))) next

or_none : {X : Type 0} (a : Option X) → option_or a None ≡ a
or_none None = refl
or_none (Some x) = refl

-- the places of an instruction, and those after it
pub unknown-step : (places : List Relocated) (insns : List Insn) (k place n : ℕ) (d : Insn) → Walked insns k place → k < length insns
    → place + units_of (get_or insns k d).op ≤ n
    → first_from (unknown_at places insns) place (n - place)
    ≡ option_or (unknown_in places place (get_or insns k d))
    (first_from (unknown_at places insns) (place + units_of (get_or insns k d).op) (n - (place + units_of (get_or insns k d).op)))
unknown-step places insns k place n d w lt inside = elim (one_or_two (get_or insns k d).op) [
  | inl one ↦
      let left : n - place - 1 ≡ n - (place + 1) = omega arith in
      first_from-next (unknown_at places insns) place (n - place) (omega (arith, one, inside))
      ∙ ap (λ o. option_or (unknown_by place (said_at places place) o) (first_from (unknown_at places insns) (place + 1) (n - place - 1))) (walked_here insns k place d w lt)
      ∙ ap (λ m. option_or (unknown_by place (said_at places place) (Some (get_or insns k d))) (first_from (unknown_at places insns) (place + 1) m)) left
      ∙ of_one (unknown_by place (said_at places place) (Some (get_or insns k d))) (units_of (get_or insns k d).op) one
  | inr two ↦
      let left : n - place - 1 - 1 ≡ n - (place + 2) = omega arith in
      let next : place + 1 + 1 ≡ place + 2 = omega arith in
      first_from-next (unknown_at places insns) place (n - place) (omega (arith, two, inside))
      ∙ ap (λ o. option_or (unknown_by place (said_at places place) o) (first_from (unknown_at places insns) (place + 1) (n - place - 1))) (walked_here insns k place d w lt)
      ∙ ap (option_or (unknown_by place (said_at places place) (Some (get_or insns k d)))) (first_from-next (unknown_at places insns) (place + 1) (n - place - 1) (omega (arith, two, inside)))
      ∙ ap (λ o. option_or (unknown_by place (said_at places place) (Some (get_or insns k d))) (option_or (unknown_by (place + 1) (said_at places (place + 1)) o) (first_from (unknown_at places insns) (place + 1 + 1) (n - place - 1 - 1)))) (walked_inside insns k place d w lt two)
      ∙ ap (λ m. option_or (unknown_by place (said_at places place) (Some (get_or insns k d))) (option_or (unknown_by (place + 1) (said_at places (place + 1)) None) (first_from (unknown_at places insns) (place + 1 + 1) m))) left
      ∙ ap (λ q. option_or (unknown_by place (said_at places place) (Some (get_or insns k d))) (option_or (unknown_by (place + 1) (said_at places (place + 1)) None) (first_from (unknown_at places insns) q (n - (place + 2))))) next
      ∙ of_two (unknown_by place (said_at places place) (Some (get_or insns k d))) (units_of (get_or insns k d).op) two
]
  where
    of_one : (a : Option ObjectError) (u : ℕ) → u ≡ 1
        → option_or a (first_from (unknown_at places insns) (place + 1) (n - (place + 1)))
        ≡ option_or (option_or a (cond (u == 2) (unknown_by (place + 1) (said_at places (place + 1)) None) None)) (first_from (unknown_at places insns) (place + u) (n - (place + u)))
    of_one a u e =
        sym (ap (λ v. option_or (option_or a (cond (v == 2) (unknown_by (place + 1) (said_at places (place + 1)) None) None)) (first_from (unknown_at places insns) (place + v) (n - (place + v)))) e
        ∙ ap (λ b. option_or b (first_from (unknown_at places insns) (place + 1) (n - (place + 1)))) (or_none a))

    of_two : (a : Option ObjectError) (u : ℕ) → u ≡ 2
        → option_or a (option_or (unknown_by (place + 1) (said_at places (place + 1)) None) (first_from (unknown_at places insns) (place + 2) (n - (place + 2))))
        ≡ option_or (option_or a (cond (u == 2) (unknown_by (place + 1) (said_at places (place + 1)) None) None)) (first_from (unknown_at places insns) (place + u) (n - (place + u)))
    of_two a u e =
        sym (ap (λ v. option_or (option_or a (cond (v == 2) (unknown_by (place + 1) (said_at places (place + 1)) None) None)) (first_from (unknown_at places insns) (place + v) (n - (place + v)))) e
        ∙ option_or-assoc a (unknown_by (place + 1) (said_at places (place + 1)) None) (first_from (unknown_at places insns) (place + 2) (n - (place + 2))))

-- the units of an instruction, and those after it
pub units_left : (insns : List Insn) (k : ℕ) (d : Insn) → k < length insns
    → unit_count (drop k insns) ≡ units_of (get_or insns k d).op + unit_count (drop (k + 1) insns)
units_left insns k d lt =
    let next : suc k ≡ k + 1 = omega arith in
    ap unit_count (drop-cons insns k d lt) ∙ ap (λ j. units_of (get_or insns k d).op + unit_count (drop j insns)) next

pub none_left : (insns : List Insn) (k : ℕ) → length insns ≤ k → unit_count (drop k insns) ≡ 0
none_left insns k h = ap unit_count (drop_all k insns h)

-- none of the places so far is relocated in an unknown way
pub record Unknowns (places : List Relocated) (insns : List Insn) (k place : ℕ) : Type 0 where
  pub walked : Walked insns k place
  pub left : length places ≡ place + unit_count (drop k insns)
  pub known : first_from (unknown_at places insns) 0 (length places) ≡ first_from (unknown_at places insns) place (length places - place)

pub fits : (places : List Relocated) (insns : List Insn) (k place : ℕ) (d : Insn) → Unknowns places insns k place → k < length insns
    → place + units_of (get_or insns k d).op ≤ length places
fits places insns k place d h lt = omega (arith, h.left, units_left insns k d lt)

pub unknowns_found : (places : List Relocated) (insns : List Insn) (k place : ℕ) (d : Insn) (e : ObjectError) → Unknowns places insns k place → k < length insns
    → unknown_in places place (get_or insns k d) ≡ Some e → first_from (unknown_at places insns) 0 (length places) ≡ Some e
unknowns_found places insns k place d e h lt found =
    h.known ∙ unknown-step places insns k place (length places) d h.walked lt (fits places insns k place d h lt) ∙ first_there _ _ e found

pub unknowns_more : (places : List Relocated) (insns : List Insn) (k place u : ℕ) (d : Insn) → Unknowns places insns k place → k < length insns
    → unknown_in places place (get_or insns k d) ≡ None → u ≡ units_of (get_or insns k d).op → Unknowns places insns (k + 1) (place + u)
unknowns_more places insns k place u d h lt none e =
    subst (λ (v : ℕ). Unknowns places insns (k + 1) (place + v)) (sym e)
    (record {
      walked = walked_more insns k place d h.walked lt;
      left = omega (arith, h.left, units_left insns k d lt);
      known = h.known ∙ unknown-step places insns k place (length places) d h.walked lt (fits places insns k place d h lt) ∙ ap (λ o. option_or o (first_from (unknown_at places insns) (place + units_of (get_or insns k d).op) (length places - (place + units_of (get_or insns k d).op)))) none;
    })

pub room_left : (insns : List Insn) (k place size : ℕ) → k < length insns → size ≡ place + unit_count (drop k insns) → place < size
room_left insns k place size lt e =
    omega (arith, units_left insns k no_insn lt, units_of-positive (get_or insns k no_insn).op)
  where
    no_insn : Insn
    no_insn = record { op = LoadImm; dst = 0; src = 0; offset = pos 0; imm = pos 0 }

-- ---- the symbols that places refer to stand for maps

abbrev IsOfMap : List ℕ → Relocated → Type 0
IsOfMap bytes r = (s : ℕ) → r ≡ Refers s → is_map_symbol bytes s ≡ true

both_of_map : (bytes : List ℕ) (a b : Relocated) → IsOfMap bytes a → IsOfMap bytes b → IsOfMap bytes (both a b)
both_of_map bytes Untouched b h k s e = k s e
both_of_map bytes (Refers t) Untouched h k s e = h s e
both_of_map bytes (Refers t) (Refers u) h k s e = absurd (cc)
both_of_map bytes (Refers t) Unknown h k s e = absurd (cc)
both_of_map bytes Unknown Untouched h k s e = h s e
both_of_map bytes Unknown (Refers u) h k s e = absurd (cc)
both_of_map bytes Unknown Unknown h k s e = absurd (cc)

together_of_map : (bytes : List ℕ) (f : ℕ → Relocated) (i n : ℕ) → ((k : ℕ) → IsOfMap bytes (f k)) → IsOfMap bytes (together f i n)
together_of_map bytes f i zero h = λ s e. absurd (cc)
together_of_map bytes f i (suc n) h = both_of_map bytes (f i) (together f (suc i) n) (h i) (together_of_map bytes f (suc i) n h)

if_of_map : (bytes : List ℕ) (b : Bool) (r : Relocated) → IsOfMap bytes r → IsOfMap bytes (cond b r Untouched)
if_of_map bytes true r h = h
if_of_map bytes false r h = λ s e. absurd (cc)

relocation_of_map : (bytes : List ℕ) (f : Symbol) (r : Rel) → IsOfMap bytes (relocation_of bytes f r)
relocation_of_map bytes f r = by_test (is_map_relocation bytes f r) refl
  where
    by_test : (b : Bool) → is_map_relocation bytes f r ≡ b → IsOfMap bytes (cond b (Refers r.symbol) Unknown)
    by_test true t s e = let same : r.symbol ≡ s = cc in ap (is_map_symbol bytes) (sym same) ∙ and_right _ _ t
    by_test false t s e = absurd (cc)

table_of_map : (bytes : List ℕ) (f : Symbol) (place i : ℕ) → IsOfMap bytes (said_by_table bytes f place i)
table_of_map bytes f place i =
    together_of_map bytes (λ k. said_of bytes f place (rel_at (section_bytes bytes i) k)) 0 (entry_count 16 (section_bytes bytes i))
    (λ k. if_of_map bytes (option_map_or (λ at. at == place) (place_in f (rel_at (section_bytes bytes i) k)) false) (relocation_of bytes f (rel_at (section_bytes bytes i) k))
    (relocation_of_map bytes f (rel_at (section_bytes bytes i) k)))

place_of_map : (bytes : List ℕ) (f : Symbol) (place : ℕ) → IsOfMap bytes (relocated_at bytes f place)
unfolding relocated_at
place_of_map bytes f place =
    together_of_map bytes (said_by_section bytes f place) 0 (e_shnum bytes)
    (λ i. if_of_map bytes (relocates bytes 9 f.section i) (said_by_table bytes f place i) (table_of_map bytes f place i))

pub places_of_maps : (bytes : List ℕ) (f : Symbol) (places : List Relocated) (p n : ℕ) → places ≡ places_of bytes f → p < length places → get_or places p Untouched ≡ Refers n
    → is_map_symbol bytes n ≡ true
unfolding places_of
places_of_maps bytes f places p n same below said =
    let few : p < f.size / 8 = omega (arith, below, ap length same, length-map-range_with_len (relocated_at bytes f) 0 (f.size / 8)) in
    place_of_map bytes f p n
    (sym (get_or-map-range_with_len (relocated_at bytes f) 0 (f.size / 8) p p Untouched few (omega arith)) ∙ ap (λ ps. get_or ps p Untouched) (sym same) ∙ said)
