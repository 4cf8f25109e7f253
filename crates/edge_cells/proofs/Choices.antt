-- Of what edges bring, that of the first that is on.
use Rattle.std.proofs.Common.{◌≡◌, ℕ, suc, ◌+◌, ◌<◌, ◌≤◌, ◌⊎◌, inl, inr, Bool, true, false, if◌then◌else◌, List, [], ◌∷◌, ◌++◌, length, get_or, length-append, All, sym, ◌∙◌, ap, subst, arith}
use Rattle.std.proofs.Math.ListN.{get_or-append}
use Rattle.std.proofs.Math.Seq.{get_or-append_seam}
use Rattle.std.proofs.lemmas.Bool.{cases_lt}
use Rattle.std.proofs.lemmas.List.{get_or_default}
use Rattle.xdp_machine.specs.State.{PacketIn}
use Rattle.cell_core.specs.Cells.{CellView, IsRun, on}
use Rattle.operator_cells.specs.declared.joining.Arm.{Arm}
use Rattle.operator_cells.specs.Making.{Grows, Makes}
use Rattle.operator_cells.specs.Joining.{chosen, AreThere}
use Rattle.operator_cells.specs.declared.held_cells.way.Way.{Way}
use Rattle.kind_core.specs.declared.number.Number.{Number}
use Rattle.kind_core.specs.declared.kind.Kinds.{Kinds}
use Rattle.operator_cells.specs.declared.held_cells.machine_cells.RegisterCells.{RegisterCells}
use Rattle.operator_cells.specs.HeldCells.RegisterCells.{number_of}
use Rattle.edge_cells.specs.declared.part.Part.{Part}
use Rattle.edge_cells.specs.Meeting.{Picks, first_on, kind_at, held_at, number_in}
use Rattle.operator_cells.proofs.MakingLaws.{grown, grown_none}

-- a cell has what an edge brings, after its bit
pub record IsArm (cells : List CellView) (a : Arm) (e : Way) (brings : (ℕ → ℕ) → Way → ℕ) : Type 0 where
  pub bit : a.bit ≡ e.bit
  pub there : a.cell < length cells
  pub value : (packet : PacketIn) (v : ℕ → ℕ) → IsRun packet cells v → v a.cell ≡ brings v e

-- the first n edges
pub record AreArms (old new : List CellView) (arms : List Arm) (here : List Way) (brings : (ℕ → ℕ) → Way → ℕ) (n : ℕ) : Type 0 where
  pub grows : Grows old new
  pub count : length arms ≡ n
  pub each : (i : ℕ) (a : Arm) (e : Way) → i < n → IsArm new (get_or arms i a) (get_or here i e) brings

pub no_arms : (old : List CellView) (arms : List Arm) (here : List Way) (brings : (ℕ → ℕ) → Way → ℕ) → arms ≡ [] → AreArms old old arms here brings 0
no_arms old arms here brings is = record { grows = grown_none; count = ap length is; each = λ i a e h. absurd (omega arith) }

arm_later : (b d : List CellView) (a : Arm) (e : Way) (brings : (ℕ → ℕ) → Way → ℕ) → Grows b d → IsArm b a e brings → IsArm d a e brings
arm_later b d a e brings g h = record { bit = h.bit; there = omega (arith, h.there, g.longer); value = λ packet v r. h.value packet v (g.run packet v r) }

-- one edge more
pub arms_more : (old mid new : List CellView) (arms more : List Arm) (here : List Way) (brings : (ℕ → ℕ) → Way → ℕ) (n : ℕ) (a : Arm) (e : Way)
    → AreArms old mid arms here brings n → Grows mid new → more ≡ arms ++ a ∷ [] → n < length here → IsArm new a (get_or here n e) brings → AreArms old new more here brings (n + 1)
arms_more old mid new arms more here brings n a e arms_are grows is range one = record {
  grows = grown arms_are.grows grows;
  count = omega (arith, ap length is, length-append arms (a ∷ []), arms_are.count);
  each = λ i b f h. subst (λ (xs : List Arm). IsArm new (get_or xs i b) (get_or here i f) brings) (sym is) (by i b f (cases_lt i n) h);
}
  where
    by : (i : ℕ) (b : Arm) (f : Way) → (i < n) ⊎ (n ≤ i) → i < n + 1 → IsArm new (get_or (arms ++ a ∷ []) i b) (get_or here i f) brings
    by i b f (inl l) h = subst (λ (x : Arm). IsArm new x (get_or here i f) brings) (sym (get_or-append arms (a ∷ []) b i (omega (arith, arms_are.count, l))))
        (arm_later mid new (get_or arms i b) (get_or here i f) brings grows (arms_are.each i b f l))
    by i b f (inr l) h =
        let same : n ≡ i = omega (arith, l, h) in
        let long : length arms ≡ i = omega (arith, arms_are.count, l, h) in
        subst (λ (x : Arm). IsArm new x (get_or here i f) brings) (sym (ap (λ (j : ℕ). get_or (arms ++ a ∷ []) j b) (sym long) ∙ get_or-append_seam arms a [] b))
        (subst (λ (x : Way). IsArm new a x brings) (get_or_default here n e f range ∙ ap (λ (j : ℕ). get_or here j f) same) one)

-- each of these has the bit of its edge, and what it brings
abbrev Fit : (ℕ → ℕ) → ((ℕ → ℕ) → Way → ℕ) → List Arm → List Way → Type 0
Fit v brings arms here = (i : ℕ) (a : Arm) (e : Way) → i < length here → ((get_or arms i a).bit ≡ (get_or here i e).bit) × (v (get_or arms i a).cell ≡ brings v (get_or here i e))

pub chosen_first : (v : ℕ → ℕ) (brings : (ℕ → ℕ) → Way → ℕ) (arms : List Arm) (here : List Way) (d : Way) → 1 ≤ length here → length arms ≡ length here → Fit v brings arms here
    → chosen v arms ≡ brings v (get_or here (first_on v here) d)
chosen_first v brings arms [] d some long fit = absurd (omega arith)
chosen_first v brings [] (e ∷ here) d some long fit = absurd (omega arith)
chosen_first v brings (a ∷ []) (e ∷ []) d some long fit = (fit 0 a e (omega arith)).1
chosen_first v brings (a ∷ []) (e ∷ f ∷ here) d some long fit = absurd (omega arith)
chosen_first v brings (a ∷ b ∷ arms) (e ∷ []) d some long fit = absurd (omega arith)
chosen_first v brings (a ∷ b ∷ arms) (e ∷ f ∷ here) d some long fit =
    ap (λ (n : ℕ). if on (v n) then v a.cell else chosen v (b ∷ arms)) (fit 0 a e (omega arith)).0
    ∙ by (on (v e.bit)) (chosen_first v brings (b ∷ arms) (f ∷ here) d (omega arith) (omega arith) (λ i x y h. fit (suc i) x y (omega (arith, h))))
  where
    by : (t : Bool) → chosen v (b ∷ arms) ≡ brings v (get_or (f ∷ here) (first_on v (f ∷ here)) d)
        → (if t then v a.cell else chosen v (b ∷ arms)) ≡ brings v (get_or (e ∷ f ∷ here) (if t then 0 else suc (first_on v (f ∷ here))) d)
    by true rest = (fit 0 a e (omega arith)).1
    by false rest = rest

pub one_of : (here : List Way) → 1 ≤ length here → Way
one_of [] h = absurd (omega arith)
one_of (e ∷ here) h = e

pub arms_there : (old new : List CellView) (arms : List Arm) (here : List Way) (brings : (ℕ → ℕ) → Way → ℕ) → AreArms old new arms here brings (length here)
    → 1 ≤ length here → All (λ e. e.bit < length old) here → AreThere new arms
arms_there old new arms here brings arms_are some bits = λ i a h.
    let d : Way = one_of here some in
    let l : i < length here = omega (arith, h, arms_are.count) in
    let one : IsArm new (get_or arms i a) (get_or here i d) brings = arms_are.each i a d l in
    (omega (arith, one.bit, bits i d l, arms_are.grows.longer), one.there)

pub picks_chosen : (old mid new : List CellView) (arms : List Arm) (here : List Way) (brings : (ℕ → ℕ) → Way → ℕ) (c : ℕ) → 1 ≤ length here
    → AreArms old mid arms here brings (length here) → Makes mid new c (λ packet v. chosen v arms) → Picks old new here brings c
picks_chosen old mid new arms here brings c some arms_are made = record {
  grows = grown arms_are.grows made.grows;
  there = made.there;
  value = λ packet v d r. made.value packet v r
      ∙ chosen_first v brings arms here d some arms_are.count
      (λ i a e h. let one = arms_are.each i a e h in (one.bit, one.value packet v (made.grows.run packet v r)));
}

pub arms_all : (old new : List CellView) (arms : List Arm) (here : List Way) (brings : (ℕ → ℕ) → Way → ℕ) (n : ℕ) → n ≤ length here → length here ≤ n → AreArms old new arms here brings n → AreArms old new arms here brings (length here)
arms_all old new arms here brings n l m a = let e : n ≡ length here = omega arith in subst (λ (k : ℕ). AreArms old new arms here brings k) e a

-- the number that an edge brings
pub number_same : (v : ℕ → ℕ) (part : Part) (k : Kinds) (h : RegisterCells) (a : Number) (c : ℕ) → a ≡ number_in (kind_at part k) → c ≡ held_at part h
    → number_of v a c ≡ number_of v (number_in (kind_at part k)) (held_at part h)
number_same v part k h a c e f = ap (λ (n : Number). number_of v n c) e ∙ ap (λ (n : ℕ). number_of v (number_in (kind_at part k)) n) f
