-- What the tables say of loops.
use Rattle.std.proofs.Common.{◌≡◌, ℕ, ◌+◌, ◌≤◌, ◌<◌, inl, inr, ◌&&◌, leb, ltb, Bool, true, false, List, ◌++◌, length, take, get_or, set, Option, Some, None, drop, min, refl, sym, ◌∙◌, ap, subst, arith}
use Rattle.std.specs.Prelude.{MatchOption, if◌then◌else◌, slice_set}
use Rattle.std.proofs.lemmas.List.{get_or_default, length-set, get_or-set_same, get_or-set_other, get_or-take, length-take-le, drop_all, take_all, append-nil}
use Rattle.std.proofs.lemmas.Bool.{cases_lt, cases_eq, and_parts, and_from, both_ways, leb-true, ltb-true, le-leb, lt-ltb}
use Rattle.xdp_machine.specs.bpf_isa.declared.instruction.Insn.{Insn}
use Rattle.unfold_core.specs.declared.nesting.Loop.{Loop}
use Rattle.unfold_core.specs.Jumps.{target_of}
use Rattle.unfold_core.specs.Tables.{target_in, IsLast, AreLast, recorded, AreListed, AreLoopsBelow, Crosses, IsCrossed, IsCrossedAt, IsLeastCrossed}

-- ---- the last jump to each head

-- one more place, which does not lead there
pub last_more : (leads : ℕ → Option ℕ) (n head : ℕ) (o : Option ℕ) → IsLast leads n head o → (head ≤ n → leads n ≡ Some head → ⊥) → IsLast leads (n + 1) head o
last_more leads n head None h never = λ place from below e. elim (cases_lt place n) [
  | inl lt ↦ h place from lt e
  | inr ge ↦ let same : place ≡ n = omega arith in never (omega arith) (subst (λ p. leads p ≡ Some head) same e)
]
last_more leads n head (Some last) h never = (
  h.0,
  omega (arith, h.1),
  h.2,
  λ place below e. elim (cases_lt place n) [
    | inl lt ↦ h.3 place lt e
    | inr ge ↦ let same : place ≡ n = omega arith in absurd (never (omega (arith, h.0, h.1)) (subst (λ p. leads p ≡ Some head) same e))
  ],
)

-- one more, which does
pub last_here : (leads : ℕ → Option ℕ) (n head : ℕ) → head ≤ n → leads n ≡ Some head → IsLast leads (n + 1) head (Some n)
last_here leads n head h e = (h, omega arith, e, λ place below q. omega arith)

pub recorded_length : (last : List (Option ℕ)) (place : ℕ) (to : Option ℕ) → length (recorded last place to) ≡ length last
recorded_length last place None = refl
recorded_length last place (Some to) = kept (leb to place && ltb to (length last))
  where
    kept : (b : Bool) → length (if b then slice_set last to (Some place) else last) ≡ length last
    kept true = length-set last to (Some place)
    kept false = refl

recorded_last : (leads : ℕ → Option ℕ) (n : ℕ) (last : List (Option ℕ)) (to : Option ℕ) → AreLast leads n last → leads n ≡ to → AreLast leads (n + 1) (recorded last n to)
recorded_last leads n last None h e = record { each = λ head below. last_more leads n head (get_or last head None) (h.each head below) (λ from q. let bad : None ≡ Some head = sym e ∙ q in cc) }
recorded_last leads n last (Some to) h e = by_test (leb to n && ltb to (length last)) refl
  where
    by_test : (b : Bool) → (leb to n && ltb to (length last)) ≡ b → AreLast leads (n + 1) (if b then slice_set last to (Some n) else last)
    by_test true t =
        let parts = and_parts (leb to n) (ltb to (length last)) t in
        let from : to ≤ n = leb-true to n parts.0 in
        let within : to < length last = ltb-true to (length last) parts.1 in
        record {
          each = λ head below. elim (cases_eq head to) [
            | inl same ↦
                let here : get_or (set last to (Some n)) head None ≡ Some n = ap (λ k. get_or (set last to (Some n)) k None) same ∙ get_or-set_same last to (Some n) None within in
                let leads_here : leads n ≡ Some head = e ∙ ap Some (sym same) in
                subst (λ o. IsLast leads (n + 1) head o) (sym here) (last_here leads n head (omega arith) leads_here)
            | inr other ↦
                let old : head < length last = omega (arith, below, length-set last to (Some n)) in
                subst (λ o. IsLast leads (n + 1) head o) (sym (get_or-set_other last to head (Some n) None other))
                (last_more leads n head (get_or last head None) (h.each head old) (λ up q. let both : Some to ≡ Some head = sym e ∙ q in let same : head ≡ to = cc in other same))
          ];
        }
    by_test false t = record {
      each = λ head below. last_more leads n head (get_or last head None) (h.each head below) (λ up q.
          let both : Some to ≡ Some head = sym e ∙ q in
          let same : to ≡ head = cc in
          both_ways (leb to n && ltb to (length last)) t (and_from (leb to n) (ltb to (length last)) (le-leb to n (omega arith)) (lt-ltb to (length last) (omega arith))));
    }

-- ---- the list of the loops

-- there is one last place
only_last : (leads : ℕ → Option ℕ) (bound head e : ℕ) (o : Option ℕ) → IsLast leads bound head (Some e) → IsLast leads bound head o → o ≡ Some e
only_last leads bound head e None h k = absurd (k e h.0 h.1 h.2)
only_last leads bound head e (Some f) h k =
    let up : f ≤ e = h.3 f k.1 k.2 in
    let down : e ≤ f = k.3 e h.1 h.2 in
    let same : f ≡ e = omega arith in
    ap Some same

pub loops_listed : (leads : ℕ → Option ℕ) (bound heads : ℕ) (last : List (Option ℕ)) (ls : List Loop) → length last ≡ heads → AreLast leads bound last → AreListed last (length last) ls
    → AreLoopsBelow leads bound heads ls
loops_listed leads bound heads last ls size h k = record {
  each = λ i d below. let x = k.each i d below in (omega (arith, x.0, size), subst (λ o. IsLast leads bound (get_or ls i d).head o) x.1 (h.each (get_or ls i d).head x.0));
  ascending = k.ascending;
  all = λ l below is. k.all l.head l.last (omega arith) (only_last leads bound l.head l.last (get_or last l.head None) is (h.each l.head (omega arith)));
}

-- ---- loops that are crossed

-- a loop before this one, which it crosses
pub crossed_at : (ls : List Loop) (i j : ℕ) (l m : Loop) → i < j → j < length ls → get_or ls i l ≡ l → get_or ls j m ≡ m → Crosses l m → IsCrossedAt ls j
crossed_at ls i j l m up below a b c = λ d. (
  i,
  omega (arith, length-take-le j ls (omega arith)),
  λ x.
      subst (λ y. Crosses (get_or (take j ls) i x) y) (sym (get_or_default ls j d m below ∙ b))
      (subst (λ y. Crosses y m) (sym (get_or-take j ls i x up ∙ get_or_default ls i x l (omega arith) ∙ a)) c),
)

at_crossed : (ls : List Loop) (k : ℕ) (x : Loop) → k < length ls → x ≡ get_or ls k x → IsCrossed (take k ls) x → IsCrossedAt ls k
at_crossed ls k x below e c = λ d. subst (λ y. IsCrossed (take k ls) y) (e ∙ get_or_default ls k x d below) c

crossed_none : (ls : List Loop) (k : ℕ) (o : Option ℕ) → (IsCrossedAt ls k → ⊥) → IsLeastCrossed ls k o → IsLeastCrossed ls (k + 1) o
crossed_none ls k None never h = λ j below c. elim (cases_lt j k) [
  | inl lt ↦ h j lt c
  | inr ge ↦ let same : j ≡ k = omega arith in never (subst (IsCrossedAt ls) same c)
]
crossed_none ls k (Some e) never h = (
  (h.0.0, omega (arith, h.0.1), h.0.2, h.0.3),
  λ j d below c. elim (cases_lt j k) [
    | inl lt ↦ h.1 j d lt c
    | inr ge ↦ let same : j ≡ k = omega arith in absurd (never (subst (IsCrossedAt ls) same c))
  ],
)

-- the loop at an index is crossed, and new is the lesser of the least and its last place
crossed_more : (ls : List Loop) (k : ℕ) (o : Option ℕ) (x : Loop) (new : ℕ) → k < length ls → x ≡ get_or ls k x → IsCrossedAt ls k → IsLeastCrossed ls k o
    → MatchOption o (new ≡ x.last) (λ e. new ≡ min e x.last) → IsLeastCrossed ls (k + 1) (Some new)
crossed_more ls k None x new below e c h least =
    let here : (d : Loop) → (get_or ls k d).last ≡ new = λ d. ap (λ y. y.last) (get_or_default ls k d x below ∙ sym e) ∙ sym least in (
      (k, omega arith, c, here),
      λ j d under q. elim (cases_lt j k) [
        | inl lt ↦ absurd (h j lt q)
        | inr ge ↦ let same : k ≡ j = omega arith in subst (λ i. new ≤ (get_or ls i d).last) same (omega (arith, here d))
      ],
    )
crossed_more ls k (Some f) x new below e c h least =
    let here : (d : Loop) → (get_or ls k d).last ≡ x.last = λ d. ap (λ y. y.last) (get_or_default ls k d x below ∙ sym e) in (
      elim (cases_lt f x.last) [
        | inl lt ↦ let same : f ≡ new = omega (arith, least, lt) in (h.0.0, omega (arith, h.0.1), h.0.2, λ d. h.0.3 d ∙ same)
        | inr ge ↦ let same : x.last ≡ new = omega (arith, least, ge) in (k, omega arith, c, λ d. here d ∙ same)
      ],
      λ j d under q. elim (cases_lt j k) [
        | inl lt ↦ omega (arith, h.1 j d lt q, least)
        | inr ge ↦ let same : k ≡ j = omega arith in subst (λ i. new ≤ (get_or ls i d).last) same (omega (arith, here d, least))
      ],
    )

pub loop_crossed : (ls : List Loop) (k : ℕ) (o : Option ℕ) (x : Loop) (new : ℕ) → k < length ls → IsCrossed (take k ls) (get_or ls k x)
    → MatchOption o (new ≡ (get_or ls k x).last) (λ e. new ≡ min e (get_or ls k x).last) → IsLeastCrossed ls k o → IsLeastCrossed ls (k + 1) (Some new)
loop_crossed ls k o x new below c least h =
    let same : get_or ls k x ≡ get_or ls k (get_or ls k x) = get_or_default ls k x (get_or ls k x) below in
    crossed_more ls k o (get_or ls k x) new below same (at_crossed ls k (get_or ls k x) below same c) h least

pub loop_uncrossed : (ls : List Loop) (k : ℕ) (o : Option ℕ) (x : Loop) → (IsCrossed (take k ls) (get_or ls k x) → ⊥) → IsLeastCrossed ls k o → IsLeastCrossed ls (k + 1) o
loop_uncrossed ls k o x never h = crossed_none ls k o (λ c. never (c x)) h

-- ---- what a loop writes, and what it answers

-- one more place
pub recorded_at : (units : List (Option Insn)) (place : ℕ) (x : Option Insn) (last old new : List (Option ℕ)) → place < length units → old ≡ last → AreLast (target_in units) place last
    → new ≡ recorded old place (target_of place (get_or units place x)) → AreLast (target_in units) (place + 1) new
recorded_at units place x last old new below same h e =
    subst (λ xs. AreLast (target_in units) (place + 1) xs) (sym (e ∙ ap (λ xs. recorded xs place (target_of place (get_or units place x))) same))
    (recorded_last (target_in units) place last (target_of place (get_or units place x)) h (ap (target_of place) (get_or_default units place None x below)))

-- a slice that stays as long is all that is written
pub written : {X : Type 0} (new old : List X) (len : ℕ) → length new ≡ length old → len ≡ length old → take len (new ++ drop (length new) old) ≡ new
written new old len e f =
    ap (λ xs. take len (new ++ xs)) (drop_all (length new) old (omega (arith, e))) ∙ ap (take len) (append-nil new) ∙ take_all len new (omega (arith, e, f))
