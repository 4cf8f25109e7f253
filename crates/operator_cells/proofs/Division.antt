-- Division.
use Rattle.std.proofs.Common.{◌≡◌, ℕ, zero, suc, ◌^◌, ◌<◌, ◌≤◌, Bool, true, false, not, if◌then◌else◌, List, [], ◌∷◌, length, max, All, refl, sym, ◌∙◌, ap, subst, arith}
use Rattle.std.specs.Prelude.{◌==◌, slice_index, Contains}
use Rattle.std.proofs.lemmas.Bool.{eqb-true}
use Rattle.std.proofs.lemmas.Nat.{pow_pos}
use Rattle.std.proofs.Math.Nat.{pow-le-pow_right, mod-le, div-le_self}
use Rattle.cell_core.specs.bpf_isa.declared.operation.Width.{Width}
use Rattle.cell_core.specs.bpf_isa.declared.operation.Width.TheVariants.{Bits32, Bits64}
use Rattle.cell_core.specs.xdp_machine.State.{PacketIn}
use Rattle.cell_core.specs.xdp_machine.Arithmetic.{bits_in, low, arithmetic}
use Rattle.kind_core.proofs.xdp_machine_laws.NumberLaws.{widened}
use Rattle.cell_core.specs.declared.operator.Operator.TheVariants.{Wire, NonZero}
use Rattle.cell_core.specs.Cells.{CellView, cell_at, bit, on, number, bits_from, is_read, is_heavy}
use Rattle.cell_core.specs.Formed.{IsSome, takes, AreInputs, IsInRange}
use Rattle.operator_cells.specs.Making.{Adds, IsAlone, Makes, operated}
use Rattle.operator_cells.specs.Dividing.{some, divided, divider, code_of}
use Rattle.operator_cells.proofs.Growing.{added_makes, makes_after, grown, old-cell, new-cell}
use Rattle.operator_cells.proofs.Numbers.{from_zero, low_same, low_below}

abbrev pub own_cell : ℕ → ℕ → CellView
own_cell b w = record { op = Wire; ins = b ∷ []; width = w; from = 0 }

abbrev pub divisor_cell : ℕ → ℕ → ℕ → CellView
divisor_cell own a w = record { op = NonZero; ins = own ∷ a ∷ []; width = w; from = 0 }

abbrev pub quotient_cell : Bool → ℕ → ℕ → ℕ → CellView
quotient_cell r a d w = record { op = divider r; ins = a ∷ d ∷ []; width = w; from = 0 }

one-in : (n a : ℕ) → a < n → All (λ i. i < n) (a ∷ [])
one-in n a h zero d l = h
one-in n a h (suc i) d l = absurd (omega arith)

two-in : (n a b : ℕ) → a < n → b < n → All (λ i. i < n) (a ∷ b ∷ [])
two-in n a b h g zero d l = h
two-in n a b h g (suc zero) d l = g
two-in n a b h g (suc (suc i)) d l = absurd (omega arith)

some_64 : (w n : ℕ) → 1 ≤ w → w ≤ 64 → n < 2 ^ w → low 64 (bits_from (some n) 0 w) ≡ some n
some_64 w n least most h = by (on n) (pow-le-pow_right {n = 2} (omega arith) {i = 1} {j = w} least) (pow-le-pow_right {n = 2} (omega arith) {i = w} {j = 64} most)
  where
    by : (t : Bool) → 2 ^ 1 ≤ 2 ^ w → 2 ^ w ≤ 2 ^ 64 → low 64 (bits_from (if t then n else 1) 0 w) ≡ (if t then n else 1)
    by true g k = ap (low 64) (from_zero n w ∙ low_same w n h) ∙ low_same 64 n (omega (arith, h, k))
    by false g k = ap (low 64) (from_zero 1 w ∙ low_same w 1 (omega (arith, g))) ∙ refl

divided_as : (packet : PacketIn) (r : Bool) (a d : ℕ) → number packet (divider r) (a ∷ d ∷ []) ≡ divided r (low 64 a) (low 64 d)
divided_as packet true a d = refl
divided_as packet false a d = refl

divider_two : (r : Bool) → takes (divider r) ≤ 2
divider_two true = omega arith
divider_two false = omega arith

divider_inputs : (r : Bool) (ins : List ℕ) → AreInputs (divider r) ins
divider_inputs true ins = tt
divider_inputs false ins = tt

divider_alone : (r : Bool) (ins : List ℕ) → IsAlone (divider r) ins
divider_alone true ins = tt
divider_alone false ins = tt

divider_range : (r : Bool) → IsInRange (divider r)
divider_range true = tt
divider_range false = tt

pub divider_light : (r : Bool) → bit (is_heavy (divider r)) ≡ 0
divider_light true = refl
divider_light false = refl

divider_plain : (r : Bool) → is_read (divider r) ≡ false
divider_plain true = refl
divider_plain false = refl

at_second : (x y : ℕ) → Contains (x ∷ y ∷ []) y
at_second x y = (1, omega arith, refl)

pub divides_some : (s0 s1 s2 s3 : List CellView) (r : Bool) (a b own d c w : ℕ) → a < length s0 → b < length s0 → 1 ≤ w → w ≤ 64
    → Adds s0 s1 own (own_cell b w) → Adds s1 s2 d (divisor_cell own a w) → Adds s2 s3 c (quotient_cell r a d w)
    → Makes s0 s3 c (λ packet v. low w (divided r (low 64 (v a)) (some (low w (v b)))))
divides_some s0 s1 s2 s3 r a b own d c w ha hb least most first second third =
    let m1 : Makes s0 s1 own (operated Wire (b ∷ []) 0 w) = added_makes s0 s1 own (own_cell b w) first
    (record { earlier = one-in (length s0) b hb; enough = omega arith; inputs = tt; alone = tt; in_range = tt; width = most; from = omega arith; divisor = λ f t. absurd (cc); later = λ t. absurd (cc) }) refl in
    let a1 : a < length s1 = omega (arith, ha, m1.grows.longer) in
    let m2 : Makes s1 s2 d (operated NonZero (own ∷ a ∷ []) 0 w) = added_makes s1 s2 d (divisor_cell own a w) second
    (record { earlier = two-in (length s1) own a m1.there a1; enough = omega arith; inputs = tt; alone = tt; in_range = tt; width = most; from = omega arith; divisor = λ f t. absurd (cc); later = λ t. absurd (cc) }) refl in
    let a2 : a < length s2 = omega (arith, a1, m2.grows.longer) in
    let is_divisor : cell_at s2 d ≡ divisor_cell own a w = ap (cell_at s2) second.at ∙ ap (λ (cs : List CellView). cell_at cs (length s1)) second.is ∙ new-cell s1 (divisor_cell own a w) in
    let is_own : cell_at s2 own ≡ own_cell b w = ap (λ (cs : List CellView). cell_at cs own) second.is ∙ old-cell s1 (divisor_cell own a w) own m1.there
    ∙ ap (cell_at s1) first.at ∙ ap (λ (cs : List CellView). cell_at cs (length s0)) first.is ∙ new-cell s0 (own_cell b w) in
    let is_some : IsSome s2 d = record {
      op = ap (λ (x : CellView). x.op) is_divisor;
      from = ap (λ (x : CellView). x.from) is_divisor;
      wide = subst (λ (x : CellView). 1 ≤ x.width) (sym is_divisor) least;
      fits = subst (λ (x : CellView). (cell_at s2 (slice_index x.ins 0)).width ≤ x.width) (sym is_divisor)
          (subst (λ (x : CellView). x.width ≤ w) (sym is_own) (omega arith));
    } in
    let m3 : Makes s2 s3 c (operated (divider r) (a ∷ d ∷ []) 0 w) = added_makes s2 s3 c (quotient_cell r a d w) third
    (record { earlier = two-in (length s2) a d a2 m2.there; enough = divider_two r; inputs = divider_inputs r (a ∷ d ∷ []); alone = divider_alone r (a ∷ d ∷ []); in_range = divider_range r; width = most; from = omega arith; divisor = λ f t. (m2.there, is_some); later = λ t. subst (λ (x : CellView). Contains x.ins a) (sym is_divisor) (at_second own a) }) (divider_plain r) in
    makes_after s0 s2 s3 c _ _ (grown s0 s1 s2 m1.grows m2.grows) m3
    (λ packet v run.
    let own_is : v own ≡ low w (v b) = m1.value packet v (m2.grows.run packet v run) ∙ from_zero (v b) w in
    let d_is : low 64 (v d) ≡ some (low w (v b)) = ap (low 64) (m2.value packet v run ∙ ap (λ (n : ℕ). bits_from (some n) 0 w) own_is) ∙ some_64 w (low w (v b)) least most (low_below w (v b)) in
    from_zero _ w ∙ ap (low w) (divided_as packet r (v a) (v d) ∙ ap (divided r (low 64 (v a))) d_is))

-- and in which row it stands
pub other_row : (row : ℕ → ℕ) (r : Bool) (a nil other : ℕ) → other ≡ (if r then a else nil) → row other ≤ max (row a) (row nil)
other_row row true a nil other e = omega (arith, ap row e)
other_row row false a nil other e = omega (arith, ap row e)

on_bit : (t : Bool) → on (bit t) ≡ t
on_bit true = refl
on_bit false = refl

-- what the choice of a division comes to
pub unless_is : (w a b n nil none other : ℕ) (r : Bool) (v : ℕ → ℕ) → v nil ≡ bits_from 0 0 1 → v none ≡ bit (low 64 (v b) == low 64 (v nil)) → other ≡ (if r then a else nil)
    → bits_from (if on (v none) then v other else v n) 0 w ≡ low w (if low 64 (v b) == 0 then (if r then v a else 0) else v n)
unless_is w a b n nil none other r v e f g =
    let nothing : v nil ≡ 0 = e ∙ from_zero 0 1 in
    let test : on (v none) ≡ (low 64 (v b) == 0) = ap on (f ∙ ap (λ (k : ℕ). bit (low 64 (v b) == low 64 k)) nothing) ∙ on_bit (low 64 (v b) == 0) in
    let other_is : v other ≡ (if r then v a else 0) = ap v g ∙ by r nothing in
    from_zero _ w
    ∙ ap (λ (t : Bool). low w (if t then v other else v n)) test
    ∙ ap (λ (k : ℕ). low w (if low 64 (v b) == 0 then k else v n)) other_is
  where
    by : (r : Bool) → v nil ≡ 0 → v (if r then a else nil) ≡ (if r then v a else 0)
    by true z = refl
    by false z = z

pub some_suc : (b : ℕ) → some (suc b) ≡ suc b
some_suc b = by (suc b == 0) refl
  where
    by : (t : Bool) → (suc b == 0) ≡ t → (if not t then suc b else 1) ≡ suc b
    by true e = absurd (omega (arith, eqb-true (suc b) 0 e))
    by false e = refl

pub unless_suc : (b k n : ℕ) → (if suc b == 0 then k else n) ≡ n
unless_suc b k n = by (suc b == 0) refl
  where
    by : (t : Bool) → (suc b == 0) ≡ t → (if t then k else n) ≡ n
    by true e = absurd (omega (arith, eqb-true (suc b) 0 e))
    by false e = refl

divided_below : (r : Bool) (a b k : ℕ) → a < k → divided r a (suc b) < k
divided_below true a b k h = omega (arith, h, mod-le a (suc b))
divided_below false a b k h = omega (arith, h, div-le_self a (suc b))

divided_code : (r : Bool) (w a b : ℕ) → divided r a b ≡ arithmetic (code_of r) false w a b
divided_code true w a b = refl
divided_code false w a b = refl

by_none : (r : Bool) (w a : ℕ) → a < 2 ^ w → low w (if r then a else 0) ≡ arithmetic (code_of r) false w a 0
by_none true w a h = low_same w a h
by_none false w a h = low_same w 0 (pow_pos w)

whole : (w a b : ℕ) → w ≤ 64 → a < 2 ^ w → b < 2 ^ w → (r : Bool) (n : ℕ) → n ≡ low w (divided r (low 64 a) (some b)) → low w (if b == 0 then (if r then a else 0) else n) ≡ arithmetic (code_of r) false w a b
whole w a zero most h g r n e = by_none r w a h
whole w a (suc b) most h g r n e =
    let cut : low 64 a ≡ a = low_same 64 a (omega (arith, h, pow-le-pow_right {n = 2} (omega arith) {i = w} {j = 64} most)) in
    let is : n ≡ divided r a (suc b) = e ∙ ap (λ (k : ℕ). low w (divided r k (some (suc b)))) cut ∙ ap (λ (k : ℕ). low w (divided r a k)) (some_suc b) ∙ low_same w _ (divided_below r a b (2 ^ w) h) in
    ap (low w) (unless_suc b (if r then a else 0) n ∙ is) ∙ low_same w _ (divided_below r a b (2 ^ w) h) ∙ divided_code r w a (suc b)

-- division of what is cut to w bits
pub divided_is : (w : Width) (r : Bool) (a b x y n : ℕ) → x ≡ low (bits_in w) a → y ≡ low (bits_in w) b → n ≡ low (bits_in w) (divided r (low 64 x) (some (low (bits_in w) y)))
    → low (bits_in w) (if low 64 y == 0 then (if r then x else 0) else n) ≡ arithmetic (code_of r) false (bits_in w) (low (bits_in w) a) (low (bits_in w) b)
divided_is w r a b x y n e f g =
    let below : y < 2 ^ bits_in w = subst (λ (k : ℕ). k < 2 ^ bits_in w) (sym f) (low_below (bits_in w) b) in
    let less : x < 2 ^ bits_in w = subst (λ (k : ℕ). k < 2 ^ bits_in w) (sym e) (low_below (bits_in w) a) in
    ap (λ (k : ℕ). low (bits_in w) (if k == 0 then (if r then x else 0) else n)) (low_same 64 y (widened w y below))
    ∙ whole (bits_in w) x y (most w) less below r n (g ∙ ap (λ (k : ℕ). low (bits_in w) (divided r (low 64 x) (some k))) (low_same (bits_in w) y below))
    ∙ ap (λ (k : ℕ). arithmetic (code_of r) false (bits_in w) k y) e
    ∙ ap (arithmetic (code_of r) false (bits_in w) (low (bits_in w) a)) f
  where
    most : (w : Width) → bits_in w ≤ 64
    most Bits32 = omega arith
    most Bits64 = omega arith
