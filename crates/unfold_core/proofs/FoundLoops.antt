-- The loops of a program, and the first place that refuses it, by its tables.
use Rattle.std.proofs.Common.{◌≡◌, ℕ, ◌≤◌, ◌<◌, ◌⊎◌, inl, inr, ◌||◌, leb, ltb, Bool, true, false, List, length, take, get_or, Option, Some, None, min, refl, sym, ◌∙◌, ap, subst, arith}
use Rattle.std.specs.Prelude.{if◌then◌else◌}
use Rattle.std.specs.List.{AllPairs}
use Rattle.std.proofs.lemmas.List.{get_or_default, get_or-take, length-take-le}
use Rattle.std.proofs.lemmas.Bool.{cases_lt, cases_order, or_cases, or_parts, ltb-true, ltb-false, leb-true, leb-false}
use Rattle.xdp_machine.specs.bpf_isa.declared.instruction.Insn.{Insn}
use Rattle.xdp_machine.specs.bpf_isa.Text.{unit_count}
use Rattle.xdp_state.specs.declared.refusal.Refusal.{Refusal}
use Rattle.unfold_core.specs.declared.nesting.Loop.{Loop}
use Rattle.unfold_core.specs.Units.{AreUnits}
use Rattle.unfold_core.specs.Jumps.{target_of, target}
use Rattle.unfold_core.specs.Loops.{IsLoop, IsCrossing, too_long, IsFirstPlace, HasLoops}
use Rattle.unfold_core.specs.Tables.{target_in, IsLast, AreLoopsBelow, loop, Crosses, IsCrossed, IsCrossedAt, IsLeastCrossed, crossing, first_place}
use Rattle.unfold_core.proofs.Laid.{none_behind}
use Rattle.unfold_core.proofs.Found.{crossed_at}

-- the loops of a program with heads below 4,096, by the instructions at each place
pub record Tabled (insns : List Insn) (units : List (Option Insn)) (heads : ℕ) (ls : List Loop) : Type 0 where
  pub are : AreUnits insns units
  pub heads_are : heads ≡ min (length units) 4096
  pub loops : AreLoopsBelow (target_in units) (length units) heads ls

pub tabled : (insns given : List Insn) (units seen : List (Option Insn)) (heads size : ℕ) (ls : List Loop) → AreUnits given units → given ≡ insns → seen ≡ units → size ≡ length units → heads ≡ min size 4096
    → AreLoopsBelow (target_in seen) (length seen) heads ls → Tabled insns units heads ls
tabled insns given units seen heads size ls u e f g h k = record {
  are = subst (λ is. AreUnits is units) e u;
  heads_are = h ∙ ap (λ n. min n 4096) g;
  loops = subst (λ us. AreLoopsBelow (target_in us) (length us) heads ls) f k;
}

same_target : (insns : List Insn) (units : List (Option Insn)) → AreUnits insns units → (place : ℕ) → target_in units place ≡ target insns place
same_target insns units u place = ap (target_of place) (u.same place)

-- a place that jumps is one of the program
pub inside : (insns : List Insn) (place to : ℕ) → target insns place ≡ Some to → place < unit_count insns
inside insns place to e = elim (cases_lt place (unit_count insns)) [
  | inl lt ↦ lt
  | inr ge ↦ let bad : None ≡ Some to = sym (ap (target_of place) (none_behind insns place ge)) ∙ e in absurd (cc)
]

is_loop : (insns : List Insn) (units : List (Option Insn)) (l : Loop) → AreUnits insns units → IsLast (target_in units) (length units) l.head (Some l.last) → IsLoop insns l
is_loop insns units l u h = record {
  back = h.0;
  jump = sym (same_target insns units u l.last) ∙ h.2;
  greatest = λ place e. let within : place < unit_count insns = inside insns place l.head e in h.3 place (omega (arith, u.size)) (same_target insns units u place ∙ e);
}

is_last : (insns : List Insn) (units : List (Option Insn)) (l : Loop) → AreUnits insns units → IsLoop insns l → IsLast (target_in units) (length units) l.head (Some l.last)
is_last insns units l u h = (
  h.back,
  omega (arith, inside insns l.last l.head h.jump, u.size),
  same_target insns units u l.last ∙ h.jump,
  λ place below e. h.greatest place (sym (same_target insns units u place) ∙ e),
)

-- loops stand by their heads
in_order : (ls : List Loop) (l m : Loop) (i j : ℕ) → AllPairs (λ x y. x.head < y.head) ls → i < length ls → get_or ls i l ≡ l → j < length ls → get_or ls j m ≡ m → l.head < m.head → i < j
in_order ls l m i j up a e b f h = elim (cases_order i j) [
  | inl same ↦
      let one : l ≡ m = sym e ∙ get_or_default ls i l m a ∙ subst (λ k. get_or ls k m ≡ m) (sym same) f in
      absurd (omega (arith, ap (λ x. x.head) one))
  | inr (inl lt) ↦ lt
  | inr (inr gt) ↦
      let first : (get_or ls j l).head ≡ m.head = ap (λ x. x.head) (get_or_default ls j l m b ∙ f) in
      absurd (omega (arith, up j i l gt a, first, ap (λ x. x.head) e))
]

-- a crossing is in the tables
crossing_listed : (insns : List Insn) (units : List (Option Insn)) (heads : ℕ) (ls : List Loop) (r : Refusal) → Tabled insns units heads ls → IsCrossing insns r → r.at < 4096
    → (j : ℕ) × (j < length ls) × IsCrossedAt ls j × ((d : Loop) → (get_or ls j d).last ≡ r.at)
crossing_listed insns units heads ls r t c below =
    let within : c.inner.last < unit_count insns = inside insns c.inner.last c.inner.head c.is_inner.jump in
    let short : c.inner.head < heads = omega (arith, t.heads_are, t.are.size, c.at_is, c.is_inner.back, within, below) in
    let outer = t.loops.all c.outer (omega (arith, short, c.begins)) (is_last insns units c.outer t.are c.is_outer) in
    let inner = t.loops.all c.inner short (is_last insns units c.inner t.are c.is_inner) in
    let order : outer.0 < inner.0 = in_order ls c.outer c.inner outer.0 inner.0 t.loops.ascending outer.1 outer.2 inner.1 inner.2 c.begins in
    (inner.0, inner.1, crossed_at ls outer.0 inner.0 c.outer c.inner order inner.1 outer.2 inner.2 (c.inside, c.behind), λ d. ap (λ x. x.last) (get_or_default ls inner.0 d c.inner inner.1 ∙ inner.2) ∙ sym c.at_is)

-- and what is crossed in the tables is a crossing
listed_crossing : (insns : List Insn) (units : List (Option Insn)) (heads : ℕ) (ls : List Loop) (k e : ℕ) (d : Loop) → Tabled insns units heads ls → k < length ls → IsCrossed (take k ls) (get_or ls k d) → (get_or ls k d).last ≡ e
    → IsCrossing insns (crossing e)
listed_crossing insns units heads ls k e d t below (i, in_front, across) last =
    let up : i < k = omega (arith, in_front, length-take-le k ls (omega arith)) in
    let both : Crosses (get_or ls i d) (get_or ls k d) = subst (λ y. Crosses y (get_or ls k d)) (get_or-take k ls i d up) (across d) in
    record {
      outer = get_or ls i d;
      inner = get_or ls k d;
      is_outer = is_loop insns units (get_or ls i d) t.are (t.loops.each i d (omega arith)).1;
      is_inner = is_loop insns units (get_or ls k d) t.are (t.loops.each k d below).1;
      begins = t.loops.ascending i k d up below;
      inside = both.0;
      behind = both.1;
      at_is = sym last;
      why_is = refl;
    }

-- the least crossing, where it is not after the most units
first_crossing : (insns : List Insn) (units : List (Option Insn)) (heads : ℕ) (ls : List Loop) (e : ℕ) → Tabled insns units heads ls → IsLeastCrossed ls (length ls) (Some e) → (e < 4096) ⊎ (length units ≤ 4096)
    → IsFirstPlace insns (crossing e)
first_crossing insns units heads ls e t h short =
    let least = listed_crossing insns units heads ls h.0.0 e (loop 0 0) t h.0.1 (h.0.2 (loop 0 0)) (h.0.3 (loop 0 0)) in
    let within : e < unit_count insns = subst (λ x. x < unit_count insns) (sym least.at_is) (inside insns least.inner.last least.inner.head least.is_inner.jump) in
    let low : e < 4096 = elim short [ inl a ↦ a | inr a ↦ omega (arith, within, t.are.size) ] in
    record {
      refused = inr least;
      first = λ q r. elim r [
        | inl long ↦ inl (subst (λ x. e < x) (sym (ap (λ x. x.at) long.refusal)) low)
        | inr c ↦ elim (cases_lt e q.at) [
          | inl lt ↦ inl lt
          | inr ge ↦
              let x = crossing_listed insns units heads ls q t c (omega (arith, low, ge)) in
              let up : e ≤ q.at = subst (λ y. e ≤ y) (x.3 (loop 0 0)) (h.1 x.0 (loop 0 0) x.1 x.2) in
              inr (omega arith, inl (sym c.why_is))
        ]
      ];
    }

-- no crossing of the tables stands before a place
abbrev NoneBelow : List Loop → ℕ → Type 0
NoneBelow ls place = (j : ℕ) (d : Loop) → j < length ls → IsCrossedAt ls j → place ≤ (get_or ls j d).last

-- the size, where no crossing stands before it
first_size : (insns : List Insn) (units : List (Option Insn)) (heads : ℕ) (ls : List Loop) → Tabled insns units heads ls → 4096 < length units → NoneBelow ls 4096 → IsFirstPlace insns too_long
first_size insns units heads ls t long none = record {
  refused = inl (record { long = omega (arith, t.are.size); refusal = refl });
  first = λ q r. elim r [
    | inl same ↦ inr (sym (ap (λ x. x.at) same.refusal), inr refl)
    | inr c ↦ elim (cases_order 4096 q.at) [
      | inl e ↦ inr (e, inr refl)
      | inr (inl lt) ↦ inl lt
      | inr (inr gt) ↦
          let x = crossing_listed insns units heads ls q t c gt in
          absurd (omega (arith, none x.0 (loop 0 0) x.1 x.2, x.3 (loop 0 0), gt))
    ]
  ];
}

-- no refusal: the tables hold all loops, and they nest
no_place : (insns : List Insn) (units : List (Option Insn)) (heads : ℕ) (ls : List Loop) → Tabled insns units heads ls → length units ≤ 4096 → ((k : ℕ) → k < length ls → ¬ IsCrossedAt ls k) → HasLoops insns ls
no_place insns units heads ls t short none = record {
  loops = record {
    are = λ k d below. is_loop insns units (get_or ls k d) t.are (t.loops.each k d below).1;
    all = λ l is. let within : l.last < unit_count insns = inside insns l.last l.head is.jump in
        t.loops.all l (omega (arith, within, is.back, t.heads_are, t.are.size)) (is_last insns units l t.are is);
    nested = λ i j d up below. (t.loops.ascending i j d up below, nests i j d up below);
  };
  passed = λ r x. elim x [
    | inl long ↦ absurd (omega (arith, long.long, t.are.size))
    | inr c ↦
        let within : c.inner.last < unit_count insns = inside insns c.inner.last c.inner.head c.is_inner.jump in
        let y = crossing_listed insns units heads ls r t c (omega (arith, within, c.at_is, t.are.size)) in
        none y.0 y.1 y.2
  ];
}
  where
    nests : (i j : ℕ) (d : Loop) → i < j → j < length ls → ((get_or ls i d).last < (get_or ls j d).head) ⊎ ((get_or ls j d).last ≤ (get_or ls i d).last)
    nests i j d up below = elim (cases_lt (get_or ls i d).last (get_or ls j d).head) [
      | inl lt ↦ inl lt
      | inr ge ↦ elim (cases_lt (get_or ls i d).last (get_or ls j d).last) [
        | inl lt ↦ absurd (none j below (crossed_at ls i j (get_or ls i d) (get_or ls j d) up below
            (get_or_default ls i (get_or ls i d) d (omega arith)) (get_or_default ls j (get_or ls j d) d below) (ge, lt)))
        | inr le ↦ inr le
      ]
    ]

-- ---- what is answered

pub finds_refusal : (insns : List Insn) (units : List (Option Insn)) (heads : ℕ) (ls : List Loop) (least : Option ℕ) (r : Refusal) → Tabled insns units heads ls → IsLeastCrossed ls (length ls) least
    → first_place least (length units) ≡ Some r → IsFirstPlace insns r
finds_refusal insns units heads ls None r t h e = by_size (ltb 4096 (length units)) refl e
  where
    by_size : (b : Bool) → ltb 4096 (length units) ≡ b → (if b then Some too_long else None) ≡ Some r → IsFirstPlace insns r
    by_size true f g =
        let there : Some too_long ≡ Some r = g in
        let same : too_long ≡ r = cc in
        subst (IsFirstPlace insns) same (first_size insns units heads ls t (ltb-true 4096 (length units) f) (λ j d below c. absurd (h j below c)))
    by_size false f g = let bad : None ≡ Some r = g in absurd (cc)
finds_refusal insns units heads ls (Some p) r t h e = by_size (ltb p 4096 || leb (length units) 4096) refl e
  where
    by_size : (b : Bool) → (ltb p 4096 || leb (length units) 4096) ≡ b → (if b then Some (crossing p) else Some too_long) ≡ Some r → IsFirstPlace insns r
    by_size true f g =
        let there : Some (crossing p) ≡ Some r = g in
        let same : crossing p ≡ r = cc in
        subst (IsFirstPlace insns) same (first_crossing insns units heads ls p t h (elim (or_cases (ltb p 4096) (leb (length units) 4096) f) [
          | inl a ↦ inl (ltb-true p 4096 a)
          | inr a ↦ inr (leb-true (length units) 4096 a)
        ]))
    by_size false f g =
        let there : Some too_long ≡ Some r = g in
        let same : too_long ≡ r = cc in
        let parts = or_parts (ltb p 4096) (leb (length units) 4096) f in
        subst (IsFirstPlace insns) same (first_size insns units heads ls t (leb-false (length units) 4096 parts.1)
        (λ j d below c. omega (arith, h.1 j d below c, ltb-false p 4096 parts.0)))

pub finds_loops : (insns : List Insn) (units : List (Option Insn)) (heads : ℕ) (ls : List Loop) (least : Option ℕ) → Tabled insns units heads ls → IsLeastCrossed ls (length ls) least
    → first_place least (length units) ≡ None → HasLoops insns ls
finds_loops insns units heads ls None t h e = by_size (ltb 4096 (length units)) refl e
  where
    by_size : (b : Bool) → ltb 4096 (length units) ≡ b → (if b then Some too_long else None) ≡ None → HasLoops insns ls
    by_size true f g = let bad : Some too_long ≡ None = g in absurd (cc)
    by_size false f g = no_place insns units heads ls t (ltb-false 4096 (length units) f) h
finds_loops insns units heads ls (Some p) t h e = by_size (ltb p 4096 || leb (length units) 4096) e
  where
    by_size : (b : Bool) → (if b then Some (crossing p) else Some too_long) ≡ None → HasLoops insns ls
    by_size true g = let bad : Some (crossing p) ≡ None = g in absurd (cc)
    by_size false g = let bad : Some too_long ≡ None = g in absurd (cc)
