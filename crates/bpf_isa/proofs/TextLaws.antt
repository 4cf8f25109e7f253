-- Laws of whole texts: a text has at most one list of instructions, each stands at its place, and a text has either its instructions
-- or a first bad unit.
use Rattle.std.proofs.Common.{◌≡◌, ◌∙◌, ℕ, zero, suc, Some, None, Bool, true, false, nat_lt, if◌then◌else◌, ◌+◌, ◌-◌, ◌*◌, ◌<◌, ◌≤◌, ◌++◌, List, [], ◌∷◌, length, take, drop, All, refl, sym, ap, subst, arith}
use Rattle.std.proofs.lemmas.List.{take-take, drop-append-le, append_assoc, append-nil, append_cancel_left, take-append-drop, length-append, length-take, length-drop, drop-drop}
use Rattle.std.proofs.lemmas.List.Elements.{All-nil, All-cons, All-head, All-tail, All-append}
use borrow.Author.Tests.{ltb-false}
use Rattle.std.proofs.Math.Seq.{drop-append-add}
use Rattle.bpf_isa.specs.declared.instruction.Insn.{Insn}
use Rattle.bpf_isa.specs.Spelling.{units_of, spelling, IsInsn, Begins, StandsAt}
use Rattle.bpf_isa.specs.Text.{text_of, unit_count, insn_at, Spells, FirstBad}
use Rattle.bpf_isa.proofs.Fronts.{rest_is}
use Rattle.bpf_isa.proofs.Laws.{length-spelling, begins_split, begins_of, begins_with, begins_length, begins_one}

pub text_of-append : (xs ys : List Insn) → text_of (xs ++ ys) ≡ text_of xs ++ text_of ys
text_of-append [] ys = refl
text_of-append (x ∷ xs) ys = ap (λ (t : List ℕ). spelling x ++ t) (text_of-append xs ys) ∙ sym (append_assoc (spelling x) (text_of xs) (text_of ys))

pub unit_count-append : (xs ys : List Insn) → unit_count (xs ++ ys) ≡ unit_count xs + unit_count ys
unit_count-append [] ys = omega arith
unit_count-append (x ∷ xs) ys = omega (arith, unit_count-append xs ys)

pub length-text_of : (is : List Insn) → length (text_of is) ≡ 8 * unit_count is
length-text_of [] = refl
length-text_of (i ∷ is) = omega (arith, length-append (spelling i) (text_of is), length-spelling i, length-text_of is)

-- ---- decoding, a unit after the other

-- the instructions before unit `at` of a text
pub record Decoded (code : List ℕ) (is : List Insn) (at : ℕ) : Type 0 where
  pub legal : All IsInsn is
  pub bytes : code ≡ text_of is ++ drop (8 * at) code
  pub place : at ≡ unit_count is
  pub inside : 8 * at ≤ length code

-- the same, with an instruction more
text_of-more : (is : List Insn) (i : Insn) → text_of (is ++ i ∷ []) ≡ text_of is ++ spelling i
text_of-more is i = text_of-append is (i ∷ []) ∙ ap (λ (t : List ℕ). text_of is ++ t) (append-nil (spelling i))

pub decoded_more : (code : List ℕ) (is : List Insn) (at : ℕ) (i : Insn) → Decoded code is at → StandsAt code at i → Decoded code (is ++ i ∷ []) (at + units_of i.op)
decoded_more code is at i d b =
    let u = units_of i.op in
    let next : drop (8 * u) (drop (8 * at) code) ≡ drop (8 * (at + u)) code = drop-drop (8 * u) (8 * at) code ∙ ap (λ (n : ℕ). drop n code) (omega arith) in
    record {
      legal = All-append IsInsn is (i ∷ []) d.legal (All-cons IsInsn i [] b.legal (All-nil IsInsn));
      bytes = d.bytes ∙ (ap (λ (t : List ℕ). text_of is ++ t) (begins_split (drop (8 * at) code) i b ∙ ap (λ (t : List ℕ). spelling i ++ t) next)
          ∙ (sym (append_assoc (text_of is) (spelling i) (drop (8 * (at + u)) code)) ∙ ap (λ (t : List ℕ). t ++ drop (8 * (at + u)) code) (sym (text_of-more is i))));
      place = omega (arith, d.place, unit_count-append is (i ∷ []));
      inside = omega (arith, d.inside, begins_length (drop (8 * at) code) i b, length-drop (8 * at) code);
    }

-- the same for what a loop reads and keeps
pub decoded_step : (code : List ℕ) (is js : List Insn) (at u : ℕ) (i : Insn) → Decoded code is at → Begins (take (length code - 8 * at) (drop (8 * at) code)) i
    → js ≡ is ++ i ∷ [] → u ≡ units_of i.op → Decoded code js (at + u)
decoded_step code is js at u i d b e f =
    let more = decoded_more code is at i d (subst (λ (t : List ℕ). Begins t i) (rest_is (8 * at) code) b) in
    let stepped = subst (λ (n : ℕ). Decoded code (is ++ i ∷ []) (at + n)) (sym f) more in
    subst (λ (xs : List Insn). Decoded code xs (at + u)) (sym e) stepped

-- ---- one list of instructions

-- of two lists that spell the same bytes and a rest, the one goes on where the other ends
pub continued : (is xs : List Insn) (rest : List ℕ) → All IsInsn is → All IsInsn xs → text_of is ≡ text_of xs ++ rest → (ys : List Insn) × (is ≡ xs ++ ys) × (rest ≡ text_of ys) × All IsInsn ys
continued is [] rest hi hx e = (is, refl, sym e, hi)
continued [] (x ∷ xs) rest hi hx e = absurd (cc)
continued (i ∷ is) (x ∷ xs) rest hi hx e =
    let cut : text_of (x ∷ xs) ++ rest ≡ spelling x ++ (text_of xs ++ rest) = append_assoc (spelling x) (text_of xs) rest in
    let bx : Begins (text_of (i ∷ is)) x = subst (λ (t : List ℕ). Begins t x) (sym (e ∙ cut)) (begins_of x (text_of xs ++ rest) (All-head IsInsn x xs hx)) in
    let same : i ≡ x = begins_one (text_of (i ∷ is)) i x (begins_of i (text_of is) (All-head IsInsn i is hi)) bx in
    let tails : text_of is ≡ text_of xs ++ rest = append_cancel_left (spelling i) (text_of is) (text_of xs ++ rest) (e ∙ (cut ∙ ap (λ (y : Insn). spelling y ++ (text_of xs ++ rest)) (sym same))) in
    let more = continued is xs rest (All-tail IsInsn i is hi) (All-tail IsInsn x xs hx) tails in
    (more.0, ap (λ (ys : List Insn). i ∷ ys) more.1 ∙ ap (λ (y : Insn). y ∷ (xs ++ more.0)) same, more.2, more.3)

-- a text is spelled by one list
pub spells_one : (code : List ℕ) (is js : List Insn) → Spells code is → Spells code js → is ≡ js
spells_one code is js h k =
    let more = continued is js [] h.legal k.legal (sym h.bytes ∙ (k.bytes ∙ sym (append-nil (text_of js)))) in
    empty more.0 more.1 more.2
  where
    empty : (ys : List Insn) → is ≡ js ++ ys → [] ≡ text_of ys → is ≡ js
    empty [] e f = e ∙ append-nil js
    empty (y ∷ ys) e f = absurd (cc)

-- the instructions before a unit, and the one that begins there
stands_next : (rest : List ℕ) (is xs : List Insn) → All IsInsn is → All IsInsn xs → text_of is ≡ text_of xs ++ rest → 0 < length rest
    → (i : Insn) × (tail : List ℕ) × IsInsn i × (rest ≡ spelling i ++ tail)
stands_next rest is xs hi hx e l =
    let more = continued is xs rest hi hx e in
    some more.0 more.2 more.3
  where
    some : (ys : List Insn) → rest ≡ text_of ys → All IsInsn ys → (i : Insn) × (tail : List ℕ) × IsInsn i × (rest ≡ spelling i ++ tail)
    some [] f h = absurd (omega (arith, ap length f))
    some (y ∷ ys) f h = (y, text_of ys, All-head IsInsn y ys h, f)

-- a text with a first bad unit is spelled by no list
pub bad_not_spelled : (code : List ℕ) (at : ℕ) (is : List Insn) → FirstBad code at → ¬ Spells code is
bad_not_spelled code at is f s =
    let rest = drop (8 * at) code in
    let e : text_of is ≡ text_of f.before.0 ++ rest = sym s.bytes ∙ (sym (take-append-drop (8 * at) code) ∙ ap (λ (t : List ℕ). t ++ rest) f.before.1.bytes) in
    let next = stands_next rest is f.before.0 s.legal f.before.1.legal e (omega (arith, f.inside, length-drop (8 * at) code)) in
    f.none next.0 (begins_with rest next.0 next.1 next.2 next.3)

-- a front of a text, cut again
parted : (a b : ℕ) (code x y : List ℕ) → a ≤ b → take b code ≡ x → take a code ≡ y → x ≡ y ++ drop a (take b code)
parted a b code x y l ex ey = sym ex ∙ (sym (take-append-drop a (take b code)) ∙ ap (λ (t : List ℕ). t ++ drop a (take b code)) (take-take a b code l ∙ ey))

-- what stands in a front stands in the text
in_front : (a b : ℕ) (code s tail : List ℕ) → a ≤ length (take b code) → drop a (take b code) ≡ s ++ tail → drop a code ≡ s ++ (tail ++ drop b code)
in_front a b code s tail l e =
    ap (drop a) (sym (take-append-drop b code)) ∙ (drop-append-le a (take b code) (drop b code) l ∙ (ap (λ (t : List ℕ). t ++ drop b code) e ∙ append_assoc s tail (drop b code)))

-- and no later unit is its first bad one
not_later : (code : List ℕ) (m n : ℕ) → FirstBad code m → FirstBad code n → ¬ (m < n)
not_later code m n f g l =
    let front = take (8 * n) code in
    let long : 8 * n ≡ length front = omega (arith, g.inside, length-take (8 * n) code) in
    let e = parted (8 * m) (8 * n) code (text_of g.before.0) (text_of f.before.0) (omega arith) g.before.1.bytes f.before.1.bytes in
    let next = stands_next (drop (8 * m) front) g.before.0 f.before.0 g.before.1.legal f.before.1.legal e (omega (arith, length-drop (8 * m) front)) in
    let whole = in_front (8 * m) (8 * n) code (spelling next.0) next.1 (omega arith) next.3 in
    f.none next.0 (begins_with (drop (8 * m) code) next.0 (next.1 ++ drop (8 * n) code) next.2 whole)

pub first_bad_one : (code : List ℕ) (m n : ℕ) → FirstBad code m → FirstBad code n → m ≡ n
first_bad_one code m n f g =
    let a = not_later code m n f g in
    let b = not_later code n m g f in
    omega (arith, a, b)

-- ---- places

after : (x : Insn) (is : List Insn) (n : ℕ) → units_of x.op ≤ suc n → drop (8 * suc n) (text_of (x ∷ is)) ≡ drop (8 * (suc n - units_of x.op)) (text_of is)
after x is n h =
    let k = 8 * (suc n - units_of x.op) in
    let e : 8 * suc n ≡ length (spelling x) + k = omega (arith, length-spelling x) in
    ap (λ (m : ℕ). drop m (spelling x ++ text_of is)) e ∙ drop-append-add (spelling x) (text_of is) k

-- what begins at a place stands there
pub insn_at-stands : (is : List Insn) (place : ℕ) (i : Insn) → All IsInsn is → insn_at is place ≡ Some i → StandsAt (text_of is) place i
insn_at-stands [] place i h e = absurd (cc)
insn_at-stands (x ∷ is) zero i h e =
    let same : x ≡ i = cc in
    subst (λ (y : Insn). Begins (text_of (x ∷ is)) y) same (begins_of x (text_of is) (All-head IsInsn x is h))
insn_at-stands (x ∷ is) (suc n) i h e =
    let later = insn_at-stands is (suc n - units_of x.op) i (All-tail IsInsn x is h) in
    by_test (nat_lt (suc n) (units_of x.op)) refl e later
  where
    by_test : (t : Bool) → nat_lt (suc n) (units_of x.op) ≡ t → (if t then None else insn_at is (suc n - units_of x.op)) ≡ Some i
        → (insn_at is (suc n - units_of x.op) ≡ Some i → StandsAt (text_of is) (suc n - units_of x.op) i) → StandsAt (text_of (x ∷ is)) (suc n) i
    by_test true l e later = absurd (cc)
    by_test false l e later = subst (λ (t : List ℕ). Begins t i) (sym (after x is n (ltb-false (suc n) (units_of x.op) l))) (later e)
