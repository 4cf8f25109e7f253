-- The laws of the values of cells.
use Rattle.std.proofs.Common.{◌≡◌, ◌≢◌, ℕ, zero, suc, ◌%◌, ◌^◌, ◌<◌, ◌≤◌, Bool, true, false, List, [], ◌∷◌, length, refl, sym, ◌∙◌, ap, subst, arith}
use Rattle.std.specs.Prelude.{not, if◌then◌else◌, ◌==◌, slice_index, All, map as map_list}
use Rattle.std.proofs.lemmas.Bool.{eqb-true, eqb-false}
use Rattle.std.proofs.lemmas.Nat.{mod_below, pow_pos}
use Rattle.std.proofs.Math.Nat.{div-one, mod-eq_of_lt, pow-le-pow_right}
use Rattle.xdp_state.specs.xdp_machine.State.{PacketIn}
use Rattle.cell_core.specs.declared.operator.Operator.{Operator}
use Rattle.cell_core.specs.declared.operator.Operator.TheVariants.{NonZero, Quotient, Remainder}
use Rattle.cell_core.specs.Cells.{CellView, cell_at, is_read, on, number, bits_from, value, Solves_as, IsRun}
use Rattle.cell_core.specs.Formed.{AreFormed, IsSome, divides, takes}
use Rattle.cell_core.specs.CellLaws.{ValuesFit, SameReads, ReadsDecide, HaveValues, DivisorsAreSome}

-- ---- every value fits

solved-fits : (b : Bool) (packet : PacketIn) (v : ℕ → ℕ) (c : CellView) (x : ℕ) → Solves_as b packet v c x → x < 2 ^ c.width
solved-fits true packet v c x h = h
solved-fits false packet v c x h = subst (λ (n : ℕ). n < 2 ^ c.width) (sym h) (mod_below _ (2 ^ c.width) (pow_pos c.width))

pub values_fit : ValuesFit
values_fit packet cells v run k h = solved-fits (is_read (cell_at cells k).op) packet v (cell_at cells k) (v k) (run.each k h)

-- ---- the reads decide

-- values that are the same below n are the same of cells below n
pub map-same : (v w : ℕ → ℕ) (n : ℕ) (xs : List ℕ) → All (λ i. i < n) xs → ((i : ℕ) → i < n → v i ≡ w i) → map_list v xs ≡ map_list w xs
map-same v w n [] below same = refl
map-same v w n (x ∷ xs) below same =
    let head : v x ≡ w x = same x (below 0 0 (omega arith)) in
    let rest : map_list v xs ≡ map_list w xs = map-same v w n xs (λ k d h. below (suc k) d (omega arith)) same in
    cc

solved-same : (b : Bool) (packet : PacketIn) (v w : ℕ → ℕ) (c : CellView) (x y : ℕ) → Solves_as b packet v c x → Solves_as b packet w c y
    → (b ≡ true → x ≡ y) → map_list v c.ins ≡ map_list w c.ins → x ≡ y
solved-same true packet v w c x y hx hy reads same = reads refl
solved-same false packet v w c x y hx hy reads same =
    hx ∙ ap (λ (xs : List ℕ). bits_from (number packet c.op xs) c.from c.width) same ∙ sym hy

same_below : (packet : PacketIn) (cells : List CellView) (v w : ℕ → ℕ) → AreFormed cells → IsRun packet cells v → IsRun packet cells w → SameReads cells v w
    → (n k : ℕ) → k < n → k < length cells → v k ≡ w k
same_below packet cells v w formed rv rw reads zero k below h = absurd (omega arith)
same_below packet cells v w formed rv rw reads (suc n) k below h =
    solved-same (is_read (cell_at cells k).op) packet v w (cell_at cells k) (v k) (w k) (rv.each k h) (rw.each k h) (reads k h)
    (map-same v w k (cell_at cells k).ins (formed.each k h).earlier (λ i hi. same_below packet cells v w formed rv rw reads n i (omega arith) (omega arith)))

pub reads_decide : ReadsDecide
reads_decide packet cells v w formed rv rw reads k h = same_below packet cells v w formed rv rw reads (suc k) k (omega arith) h

-- ---- there are values

-- the value of a cell on earlier ones, and of a read the one that is given
abbrev settled : Bool → PacketIn → (ℕ → ℕ) → CellView → ℕ → ℕ
settled true packet v c x = x
settled false packet v c x = value packet v c

abbrev settled_at : PacketIn → List CellView → (ℕ → ℕ) → (ℕ → ℕ) → ℕ → ℕ
settled_at packet cells given v k = settled (is_read (cell_at cells k).op) packet v (cell_at cells k) (given k)

-- the values of the first n cells
abbrev built : PacketIn → List CellView → (ℕ → ℕ) → ℕ → ℕ → ℕ
built packet cells given zero k = 0
built packet cells given (suc n) k = if k == n then settled_at packet cells given (built packet cells given n) n else built packet cells given n k

built-stays : (packet : PacketIn) (cells : List CellView) (given : ℕ → ℕ) (n k : ℕ) → k < n
    → built packet cells given n k ≡ settled_at packet cells given (built packet cells given k) k
built-stays packet cells given zero k below = absurd (omega arith)
built-stays packet cells given (suc n) k below = by_test (k == n) refl (λ h. built-stays packet cells given n k h)
  where
    by_test : (b : Bool) → (k == n) ≡ b
        → (k < n → built packet cells given n k ≡ settled_at packet cells given (built packet cells given k) k)
        → (if b then settled_at packet cells given (built packet cells given n) n else built packet cells given n k) ≡ settled_at packet cells given (built packet cells given k) k
    by_test true t lower = ap (λ (i : ℕ). settled_at packet cells given (built packet cells given i) i) (sym (eqb-true k n t))
    by_test false t lower = lower (omega (arith, eqb-false k n t))

settled-solves : (b : Bool) (packet : PacketIn) (v u : ℕ → ℕ) (c : CellView) (x given : ℕ) → x ≡ settled b packet u c given
    → map_list v c.ins ≡ map_list u c.ins → (b ≡ true → given < 2 ^ c.width) → Solves_as b packet v c x
settled-solves true packet v u c x given e same fits = subst (λ (n : ℕ). n < 2 ^ c.width) (sym e) (fits refl)
settled-solves false packet v u c x given e same fits =
    e ∙ ap (λ (xs : List ℕ). bits_from (number packet c.op xs) c.from c.width) (sym same)

settled-read : (b : Bool) (packet : PacketIn) (u : ℕ → ℕ) (c : CellView) (x : ℕ) → b ≡ true → settled b packet u c x ≡ x
settled-read true packet u c x e = refl
settled-read false packet u c x e = absurd (cc)

pub have_values : HaveValues
have_values packet cells given formed fits = (v, record { each = solves }, reads)
  where
    v : ℕ → ℕ
    v k = built packet cells given (length cells) k

    same : (k : ℕ) → k < length cells → map_list v (cell_at cells k).ins ≡ map_list (built packet cells given k) (cell_at cells k).ins
    same k h = map-same v (built packet cells given k) k (cell_at cells k).ins (formed.each k h).earlier
        (λ i hi. built-stays packet cells given (length cells) i (omega arith) ∙ sym (built-stays packet cells given k i hi))

    solves : (k : ℕ) → k < length cells → Solves_as (is_read (cell_at cells k).op) packet v (cell_at cells k) (v k)
    solves k h = settled-solves (is_read (cell_at cells k).op) packet v (built packet cells given k) (cell_at cells k) (v k) (given k)
        (built-stays packet cells given (length cells) k h) (same k h) (fits k h)

    reads : SameReads cells v given
    reads k h r = built-stays packet cells given (length cells) k h
        ∙ settled-read (is_read (cell_at cells k).op) packet (built packet cells given k) (cell_at cells k) (given k) r

-- ---- no divisor is 0

some-stays : (a w : ℕ) → 1 ≤ w → a < 2 ^ w → bits_from (if on a then a else 1) 0 w ≢ 0
some-stays a w wide fits = by_test (a == 0) refl
  where
    two : 2 ≤ 2 ^ w
    two = pow-le-pow_right {n = 2} (omega arith) {i = 1} {j = w} wide

    by_test : (b : Bool) → (a == 0) ≡ b → bits_from (if not b then a else 1) 0 w ≢ 0
    by_test true t e = absurd (omega (arith, sym (div-one 1), mod-eq_of_lt {n = 1} {m = 2 ^ w} (omega (arith, two))))
    by_test false t e = eqb-false a 0 t (sym (mod-eq_of_lt {n = a} {m = 2 ^ w} fits) ∙ ap (λ (n : ℕ). n % 2 ^ w) (sym (div-one a)) ∙ e)

-- the first of some inputs
first-value : (v : ℕ → ℕ) (xs : List ℕ) → 1 ≤ length xs → slice_index (map_list v xs) 0 ≡ v (slice_index xs 0)
first-value v [] h = absurd (omega arith)
first-value v (x ∷ xs) h = refl

some-solved : (packet : PacketIn) (v : ℕ → ℕ) (op : Operator) (c : CellView) (x : ℕ) → c.op ≡ op → op ≡ NonZero
    → Solves_as (is_read c.op) packet v c x → x ≡ bits_from (number packet NonZero (map_list v c.ins)) c.from c.width
some-solved packet v op c x e is h = rw (e ∙ is) at h

nonzero-some : (packet : PacketIn) (cells : List CellView) (v : ℕ → ℕ) → AreFormed cells → IsRun packet cells v → (d : ℕ) → d < length cells → IsSome cells d → v d ≢ 0
nonzero-some packet cells v formed run d h some = subst (λ (n : ℕ). n ≢ 0) (sym is) (some-stays a c.width some.wide fits)
  where
    c : CellView
    c = cell_at cells d

    i : ℕ
    i = slice_index c.ins 0

    a : ℕ
    a = slice_index (map_list v c.ins) 0

    enough : 1 ≤ length c.ins
    enough = subst (λ (op : Operator). takes op ≤ length c.ins) some.op (formed.each d h).enough

    first : a ≡ v i
    first = first-value v c.ins enough

    earlier : i < d
    earlier = (formed.each d h).earlier 0 0 (omega (arith, enough))

    fits : a < 2 ^ c.width
    fits = omega (arith, first, values_fit packet cells v run i (omega (arith, earlier)), pow-le-pow_right {n = 2} (omega arith) {i = (cell_at cells i).width} {j = c.width} some.fits)

    is : v d ≡ bits_from (if on a then a else 1) 0 c.width
    is = some-solved packet v NonZero c (v d) some.op refl (run.each d h) ∙ ap (λ (from : ℕ). bits_from (if on a then a else 1) from c.width) some.from

takes_two : (op : Operator) → divides op ≡ true → 2 ≤ takes op
takes_two Quotient e = omega arith
takes_two Remainder e = omega arith
takes_two op e = absurd (cc)

pub divisors_are_some : DivisorsAreSome
divisors_are_some packet cells v formed run k h divides =
    nonzero-some packet cells v formed run d (omega (arith, earlier)) ((formed.each k h).divisor divides)
  where
    d : ℕ
    d = slice_index (cell_at cells k).ins 1

    earlier : d < k
    earlier = (formed.each k h).earlier 1 0 (omega (arith, takes_two (cell_at cells k).op divides, (formed.each k h).enough))
