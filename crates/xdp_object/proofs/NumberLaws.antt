-- Instructions with the numbers of their maps: they are legal, stand where they stood, and refer to these maps.
use Rattle.std.proofs.Common.{◌≡◌, ◌∙◌, ℕ, ℤ, zero, suc, ◌+◌, ◌-◌, ◌*◌, ◌/◌, ◌%◌, ◌^◌, ◌<◌, ◌≤◌, ◌&&◌, ◌++◌, Bool, true, false, cond, ltb, Option, Some, None, List, [], ◌∷◌, get_or, map, refl, sym, ap, subst, arith}
use Rattle.std.proofs.Math.Facts.{sfits_to_z, of_z-to_z, Fits-bits, Fits-lt-pow, Fits-of_z}
use Rattle.std.proofs.lemmas.Bool.{eqb-true, ltb-false}
use Rattle.std.proofs.lemmas.List.Elements.{All-cons, All-head, All-nil, All-tail}
use Rattle.std.specs.Int.{w64, cast_signed, cast_unsigned}
use Rattle.std.specs.Int.RustNames.{FitsSigned}
use Rattle.std.specs.List.{All}
use Rattle.std.specs.List.Sorted.{IsStrictlyIncreasing}
use Rattle.bpf_isa.specs.declared.operation.Op.{Op}
use Rattle.bpf_isa.specs.declared.operation.Op.TheVariants.{LoadImm}
use Rattle.bpf_isa.specs.declared.instruction.Insn.{Insn}
use Rattle.bpf_isa.specs.Spelling.{IsInsn, units_of}
use Rattle.bpf_isa.specs.Text.{insn_at, unit_count}
use Rattle.xdp_machine.specs.Program.{IsReference}
use Rattle.xdp_object.specs.declared.relocated.Relocated.{Relocated}
use Rattle.xdp_object.specs.declared.relocated.Relocated.TheVariants.{Untouched, Refers, Unknown}
use Rattle.xdp_object.specs.Maps.{numbered, with_low}
use Rattle.xdp_object.specs.Relocations.{Reference, is_load, is_load_op, reference_by, references_from, said_at}
use Rattle.xdp_object.proofs.Places.{insn_at-skip}

-- ---- one instruction

-- the bits of a number with another low half
abbrev with_low_bits : ℤ → ℕ → ℕ
with_low_bits imm n = cast_unsigned w64 imm / 2 ^ 32 * 2 ^ 32 + n

bits_fit : (imm : ℤ) (n : ℕ) → FitsSigned w64 imm → n < 2 ^ 32 → with_low_bits imm n < 2 ^ 64
bits_fit imm n fits small = let h : cast_unsigned w64 imm < 2 ^ 64 = Fits-lt-pow {w = w64} (Fits-of_z fits) in omega arith

legal_low : (op : Op) (dst src : ℕ) (offset imm new : ℤ) → is_load_op op ≡ true → (FitsSigned w64 imm → FitsSigned w64 new)
    → IsInsn (record { op = op; dst = dst; src = src; offset = offset; imm = imm }) → IsInsn (record { op = op; dst = dst; src = src; offset = offset; imm = new })
legal_low LoadImm dst src offset imm new e fits h = record {
  size = h.size;
  dst_register = h.dst_register;
  src_register = h.src_register;
  dst = h.dst;
  src = h.src;
  offset = h.offset;
  imm = tt;
  offset_range = h.offset_range;
  imm_range = fits h.imm_range;
}
legal_low op dst src offset imm new e fits h = absurd (cc)

-- a load keeps its range
pub load_fits : (op : Op) (dst src : ℕ) (offset imm : ℤ) → is_load_op op ≡ true → IsInsn (record { op = op; dst = dst; src = src; offset = offset; imm = imm }) → FitsSigned w64 imm
load_fits LoadImm dst src offset imm e h = h.imm_range
load_fits op dst src offset imm e h = absurd (cc)

pub and_first : (a b : Bool) → a && b ≡ true → a ≡ true
and_first true b e = refl
and_first false b e = absurd (cc)

and_second : (a b : Bool) → a && b ≡ true → b ≡ true
and_second true b e = e
and_second false b e = absurd (cc)

-- a number that an instruction is given is that of a load, and small
abbrev pub Loads : Option ℕ → Insn → Type 0
Loads None i = Unit {0}
Loads (Some n) i = (n < 2 ^ 32) × (is_load i ≡ true)

low_legal : (o : Option ℕ) (i : Insn) → Loads o i → IsInsn i → IsInsn (with_low o i)
low_legal None i loads h = h
low_legal (Some n) i (small, load) h =
    legal_low i.op i.dst i.src i.offset i.imm (cast_signed w64 (with_low_bits i.imm n)) (and_first _ _ load)
    (λ fits. sfits_to_z (Fits-bits {w = w64} 64 tt (bits_fit i.imm n fits small))) h

pub same_op : (o : Option ℕ) (i : Insn) → (with_low o i).op ≡ i.op
same_op None i = refl
same_op (Some n) i = refl

pub op_is_load : (op : Op) → is_load_op op ≡ true → op ≡ LoadImm
op_is_load LoadImm e = refl
op_is_load op e = absurd (cc)

-- ---- all instructions

-- each number is given to a load
abbrev pub AllLoads : (ℕ → Option ℕ) → ℕ → List Insn → Type 0
AllLoads number at is = (p : ℕ) (i : Insn) → insn_at is p ≡ Some i → Loads (number (at + p)) i

loads_later : (number : ℕ → Option ℕ) (at : ℕ) (i : Insn) (is : List Insn) → AllLoads number at (i ∷ is) → AllLoads number (at + units_of i.op) is
loads_later number at i is h p j e =
    let past : units_of i.op + p - units_of i.op ≡ p = omega arith in
    let here : at + (units_of i.op + p) ≡ at + units_of i.op + p = omega arith in
    subst (λ (q : ℕ). Loads (number q) j) here
    (h (units_of i.op + p) j (insn_at-skip i is (units_of i.op + p) (omega arith) ∙ ap (insn_at is) past ∙ e))

loads_first : (number : ℕ → Option ℕ) (at : ℕ) (i : Insn) (is : List Insn) → AllLoads number at (i ∷ is) → Loads (number at) i
loads_first number at i is h =
    let here : at + 0 ≡ at = omega arith in
    subst (λ (q : ℕ). Loads (number q) i) here (h 0 i refl)

pub numbered_legal : (number : ℕ → Option ℕ) (at : ℕ) (is : List Insn) → AllLoads number at is → All IsInsn is → All IsInsn (numbered number at is)
numbered_legal number at [] loads h = All-nil IsInsn
numbered_legal number at (i ∷ is) loads h =
    All-cons IsInsn (with_low (number at) i) (numbered number (at + units_of i.op) is)
    (low_legal (number at) i (loads_first number at i is loads) (All-head IsInsn i is h))
    (numbered_legal number (at + units_of i.op) is (loads_later number at i is loads) (All-tail IsInsn i is h))

pub numbered_units : (number : ℕ → Option ℕ) (at : ℕ) (is : List Insn) → unit_count (numbered number at is) ≡ unit_count is
numbered_units number at [] = refl
numbered_units number at (i ∷ is) =
    ap (λ op. units_of op + unit_count (numbered number (at + units_of i.op) is)) (same_op (number at) i)
    ∙ ap (λ n. units_of i.op + n) (numbered_units number (at + units_of i.op) is)

-- no instruction stands where none stood
nowhere : (number : ℕ → Option ℕ) (at : ℕ) (is : List Insn) (p : ℕ) → insn_at is p ≡ None → insn_at (numbered number at is) p ≡ None
nowhere number at [] p e = refl
nowhere number at (j ∷ is) zero e = absurd (cc)
nowhere number at (j ∷ is) (suc m) e =
    ap (λ op. cond (ltb (suc m) (units_of op)) None (insn_at (numbered number (at + units_of j.op) is) (suc m - units_of op))) (same_op (number at) j)
    ∙ by_test (nowhere number (at + units_of j.op) is (suc m - units_of j.op)) (ltb (suc m) (units_of j.op)) refl
  where
    by_test : (insn_at is (suc m - units_of j.op) ≡ None → insn_at (numbered number (at + units_of j.op) is) (suc m - units_of j.op) ≡ None)
        → (b : Bool) → ltb (suc m) (units_of j.op) ≡ b → cond b None (insn_at (numbered number (at + units_of j.op) is) (suc m - units_of j.op)) ≡ None
    by_test behind true t = refl
    by_test behind false t = behind (sym (insn_at-skip j is (suc m) (ltb-false (suc m) (units_of j.op) t)) ∙ e)

-- an instruction stands where it stood
pub numbered_at : (number : ℕ → Option ℕ) (at : ℕ) (is : List Insn) (p : ℕ) (i : Insn) → insn_at is p ≡ Some i
    → insn_at (numbered number at is) p ≡ Some (with_low (number (at + p)) i)
numbered_at number at [] p i e = absurd (cc)
numbered_at number at (j ∷ is) zero i e =
    let here : at ≡ at + 0 = omega arith in
    let same : j ≡ i = cc in
    ap (λ q. Some (with_low (number q) j)) here ∙ ap (λ k. Some (with_low (number (at + 0)) k)) same
numbered_at number at (j ∷ is) (suc m) i e = by_test (λ q f. numbered_at number (at + units_of j.op) is q i f) (ltb (suc m) (units_of j.op)) refl
  where
    by_test : ((q : ℕ) → insn_at is q ≡ Some i → insn_at (numbered number (at + units_of j.op) is) q ≡ Some (with_low (number (at + units_of j.op + q)) i))
        → (b : Bool) → ltb (suc m) (units_of j.op) ≡ b → insn_at (numbered number at (j ∷ is)) (suc m) ≡ Some (with_low (number (at + suc m)) i)
    by_test behind true t = absurd (cc (t, e))
    by_test behind false t =
        let past : units_of j.op ≤ suc m = ltb-false (suc m) (units_of j.op) t in
        let back : at + units_of j.op + (suc m - units_of j.op) ≡ at + suc m = omega arith in
        let later : insn_at is (suc m - units_of j.op) ≡ Some i = sym (insn_at-skip j is (suc m) past) ∙ e in
        let units = same_op (number at) j in
        insn_at-skip (with_low (number at) j) (numbered number (at + units_of j.op) is) (suc m) (subst (λ (op : Op). units_of op ≤ suc m) (sym units) past)
        ∙ ap (λ op. insn_at (numbered number (at + units_of j.op) is) (suc m - units_of op)) units
        ∙ behind (suc m - units_of j.op) later
        ∙ ap (λ q. Some (with_low (number q) i)) back

some_same : {x y : Insn} → Some x ≡ Some y → x ≡ y
some_same e = cc

-- and what stands there is one that stood there
pub numbered_back : (number : ℕ → Option ℕ) (at : ℕ) (is : List Insn) (p : ℕ) (j : Insn) → insn_at (numbered number at is) p ≡ Some j
    → (i : Insn) × (insn_at is p ≡ Some i) × (with_low (number (at + p)) i ≡ j)
numbered_back number at is p j e = by_place (insn_at is p) refl
  where
    by_place : (o : Option Insn) → insn_at is p ≡ o → (i : Insn) × (insn_at is p ≡ Some i) × (with_low (number (at + p)) i ≡ j)
    by_place (Some i) f = (i, f, some_same (sym (numbered_at number at is p i f) ∙ e))
    by_place None f = absurd (cc (nowhere number at is p f, e))

-- it refers to the map of its number
pub numbered_refers : (number : ℕ → Option ℕ) (is : List Insn) (maps p n : ℕ) (i : Insn) → All IsInsn is → insn_at is p ≡ Some i → IsInsn i → number p ≡ Some n
    → is_load i ≡ true → n < maps → maps ≤ 2 ^ 32 → IsReference (numbered number 0 is) maps p
numbered_refers number is maps p n i legal e h given load below few =
    let here : 0 + p ≡ p = omega arith in
    let fits : with_low_bits i.imm n < 2 ^ 64 = bits_fit i.imm n (load_fits i.op i.dst i.src i.offset i.imm (and_first _ _ load) h) (omega (arith, below, few)) in
    let low_half : cast_unsigned w64 (cast_signed w64 (with_low_bits i.imm n)) % 2 ^ 32 ≡ n =
    ap (λ b. b % 2 ^ 32) (of_z-to_z (Fits-bits {w = w64} 64 tt fits)) ∙ low_of (cast_unsigned w64 i.imm / 2 ^ 32) n (omega (arith, below, few)) in
    record {
      insn = with_low (Some n) i;
      begins = numbered_at number 0 is p i e ∙ ap (λ q. Some (with_low (number q) i)) here ∙ ap (λ o. Some (with_low o i)) given;
      load = op_is_load i.op (and_first _ _ load);
      source = eqb-true i.src 0 (and_second _ _ load);
      map = omega (arith, low_half, below);
    }
  where
    low_of : (high n : ℕ) → n < 2 ^ 32 → (high * 2 ^ 32 + n) % 2 ^ 32 ≡ n
    low_of high n small = omega arith

-- ---- the places of references

pub refs_all : (P : ℕ → Type 0) (places : List Relocated) (i n : ℕ) → ((p s : ℕ) → i ≤ p → p < i + n → said_at places p ≡ Refers s → P p)
    → All P (map (λ (r : Reference). r.place) (references_from places i n))
refs_all P places i zero h = All-nil P
refs_all P places i (suc n) h =
    by_said (refs_all P places (suc i) n (λ p s low high e. h p s (omega arith) (omega arith) e)) (said_at places i) refl
  where
    by_said : All P (map (λ (r : Reference). r.place) (references_from places (suc i) n))
        → (r : Relocated) → said_at places i ≡ r → All P (map (λ (r : Reference). r.place) (reference_by i r ++ references_from places (suc i) n))
    by_said later Untouched e = later
    by_said later (Refers s) e = All-cons P i (map (λ (r : Reference). r.place) (references_from places (suc i) n)) (h i s (omega arith) (omega arith) e) later
    by_said later Unknown e = later

increasing-cons : (x : ℕ) (xs : List ℕ) → All (λ p. suc x ≤ p) xs → IsStrictlyIncreasing xs → IsStrictlyIncreasing (x ∷ xs)
increasing-cons x xs above rising zero h = above 0 0 (omega arith)
increasing-cons x xs above rising (suc k) h =
    let next : suc k + 1 ≡ suc (k + 1) = omega arith in
    let step : get_or xs k 0 < get_or xs (k + 1) 0 = rising k (omega arith) in
    subst (λ (j : ℕ). get_or (x ∷ xs) (suc k) 0 < get_or (x ∷ xs) j 0) (sym next) step

pub refs_rising : (places : List Relocated) (i n : ℕ) → IsStrictlyIncreasing (map (λ (r : Reference). r.place) (references_from places i n))
refs_rising places i zero = λ k h. absurd (omega arith)
refs_rising places i (suc n) = by_said (refs_rising places (suc i) n) (said_at places i)
  where
    above : All (λ p. suc i ≤ p) (map (λ (r : Reference). r.place) (references_from places (suc i) n))
    above = refs_all (λ p. suc i ≤ p) places (suc i) n (λ p s low high e. low)

    by_said : IsStrictlyIncreasing (map (λ (r : Reference). r.place) (references_from places (suc i) n))
        → (r : Relocated) → IsStrictlyIncreasing (map (λ (r : Reference). r.place) (reference_by i r ++ references_from places (suc i) n))
    by_said later Untouched = later
    by_said later (Refers s) = increasing-cons i (map (λ (r : Reference). r.place) (references_from places (suc i) n)) above later
    by_said later Unknown = later
