-- Where keys stand in a table.
use Rattle.std.proofs.Common.{◌≡◌, ◌≢◌, ℕ, suc, ◌+◌, ◌<◌, ◌≤◌, ◌⊎◌, inl, inr, Bool, true, false, List, [], ◌∷◌, length, refl, sym, ap, ◌∙◌, subst, arith, not, cond, length-set, get_or-set_other, get_or-set_same}
use Rattle.std.specs.Prelude.{if◌then◌else◌, nat_lt, slice_set}
use Rattle.std.specs.Str.{bytes_eq}
use Rattle.std.proofs.lemmas.Bool.{lt-ltb, and_parts, cases_lt}
use Rattle.std.proofs.lemmas.Bool.Decides.{nat_tests}
use Rattle.std.proofs.lemmas.Slice.Eq.{bytes_eq-Decides}
use Rattle.std.proofs.lemmas.List.Sums.{position_or_len_is, passes_at_first, fails_before_first}
use Rattle.std.proofs.lemmas.List.Recursion.{is_count_by}
use Rattle.xdp_maps.specs.declared.decl.MapDecl.{MapDecl}
use Rattle.xdp_maps.specs.declared.decl.MapKind.{MapKind}
use Rattle.xdp_maps.specs.declared.decl.MapKind.TheVariants.{Hash, Array}
use Rattle.xdp_maps.specs.Contents.{IsBytes, index_key}
use Rattle.hazard_core.specs.Tables.{Slot, no_slot, slot_at, has_key, slot_of, free_slot, used_count}
use Rattle.hazard_core.specs.StageValues.{Null, InSlot, Pending, slot_pointer}
use Rattle.hazard_core.proofs.Unmoved.{same_or}
use Rattle.hazard_core.specs.Tabled.{IsFilledTable, IsTable}

not_below : (n : ℕ) → nat_lt n n ≡ false
not_below n = by (nat_lt n n) refl
  where
    by : (c : Bool) → nat_lt n n ≡ c → c ≡ false
    by true e = let l : n < n = grind (arith, nat_tests) in absurd (omega (arith, l))
    by false e = refl

-- ---- the slot of a key

pub pointer_at : (slots : List Slot) (key : List ℕ) (n : ℕ) → n < length slots → has_key key (slot_at slots n) ≡ true → ((i : ℕ) → i < n → has_key key (slot_at slots i) ≡ false) → slot_pointer slots key ≡ InSlot n
pointer_at slots key n l e before =
    let q : slot_of slots key ≡ n = position_or_len_is (has_key key) slots n no_slot (omega arith) before (λ m. e) in
    ap (λ m. if nat_lt m (length slots) then InSlot m else Null) q ∙ ap (λ (c : Bool). if c then InSlot n else Null) (lt-ltb n (length slots) l)

pub pointer_none : (slots : List Slot) (key : List ℕ) → ((i : ℕ) → i < length slots → has_key key (slot_at slots i) ≡ false) → slot_pointer slots key ≡ Null
pointer_none slots key none =
    let q : slot_of slots key ≡ length slots = position_or_len_is (has_key key) slots (length slots) no_slot (omega arith) none (λ m. absurd (omega (arith, m))) in
    ap (λ m. if nat_lt m (length slots) then InSlot m else Null) q ∙ ap (λ (c : Bool). if c then InSlot (length slots) else Null) (not_below (length slots))

pub record Stands (slots : List Slot) (key : List ℕ) (n : ℕ) : Type 0 where
  pub in_range : n < length slots
  pub has : has_key key (slot_at slots n) ≡ true

pub pointer_is : (slots : List Slot) (key : List ℕ) (n : ℕ) → slot_pointer slots key ≡ InSlot n → Stands slots key n
pointer_is slots key n e = by (nat_lt (slot_of slots key) (length slots)) refl e
  where
    by : (c : Bool) → nat_lt (slot_of slots key) (length slots) ≡ c → (if c then InSlot (slot_of slots key) else Null) ≡ InSlot n → Stands slots key n
    by true l e =
        let same : slot_of slots key ≡ n = cc in
        let m : slot_of slots key < length slots = grind (arith, nat_tests) in
        record { in_range = omega (arith, m, same); has = ap (λ k. has_key key (slot_at slots k)) (sym same) ∙ passes_at_first (has_key key) slots no_slot m }
    by false l e = cc

pub pointer_null : (slots : List Slot) (key : List ℕ) → slot_pointer slots key ≡ Null → (i : ℕ) → i < length slots → has_key key (slot_at slots i) ≡ false
pointer_null slots key e i l = by (nat_lt (slot_of slots key) (length slots)) refl e
  where
    by : (c : Bool) → nat_lt (slot_of slots key) (length slots) ≡ c → (if c then InSlot (slot_of slots key) else Null) ≡ Null → has_key key (slot_at slots i) ≡ false
    by true m e = cc
    by false m e = let n : length slots ≤ slot_of slots key = grind (arith, nat_tests) in fails_before_first (has_key key) slots i no_slot (omega (arith, n, l))

pub pointer_no_pending : (slots : List Slot) (key : List ℕ) (i : ℕ) → slot_pointer slots key ≡ Pending i → ⊥
pointer_no_pending slots key i e = by (nat_lt (slot_of slots key) (length slots)) e
  where
    by : (c : Bool) → (if c then InSlot (slot_of slots key) else Null) ≡ Pending i → ⊥
    by true e = cc
    by false e = cc

-- a key in a slot of a table is in no other
pub alone : (d : MapDecl) (slots : List Slot) → IsTable d slots → (key : List ℕ) (n i : ℕ) → n < length slots → i < length slots → i ≢ n → has_key key (slot_at slots n) ≡ true → has_key key (slot_at slots i) ≡ false
alone d slots table key n i l m other e = by (has_key key (slot_at slots i)) refl
  where
    by : (c : Bool) → has_key key (slot_at slots i) ≡ c → c ≡ false
    by true q = absurd (other (table.single key i n m l q e))
    by false q = refl

pub pointer_only : (d : MapDecl) (slots : List Slot) → IsTable d slots → (key : List ℕ) (n : ℕ) → n < length slots → has_key key (slot_at slots n) ≡ true → slot_pointer slots key ≡ InSlot n
pointer_only d slots table key n l e = pointer_at slots key n l e (λ i m. alone d slots table key n i l (omega (arith, l, m)) (λ q. omega (arith, q, m)) e)

pub same_key : (key other : List ℕ) (s : Slot) → has_key key s ≡ true → has_key other s ≡ true → key ≡ other
same_key key other s e f = sym ((bytes_eq-Decides s.key key).0 (and_parts s.used (bytes_eq s.key key) e).1) ∙ (bytes_eq-Decides s.key other).0 (and_parts s.used (bytes_eq s.key other) f).1

-- ---- a slot that is not used

abbrev pub used_rec : List Slot → ℕ
used_rec [] = 0
used_rec (s ∷ slots) = cond s.used (1 + used_rec slots) (used_rec slots)

pub used_is : (slots : List Slot) → used_rec slots ≡ used_count slots
used_is slots = is_count_by used_rec (λ s. s.used) refl (λ s slots. refl) slots

all_used : (slots : List Slot) → ((i : ℕ) → i < length slots → (slot_at slots i).used ≡ true) → used_rec slots ≡ length slots
all_used [] all = refl
all_used (s ∷ slots) all = ap (λ (c : Bool). cond c (1 + used_rec slots) (used_rec slots)) (all 0 (omega arith)) ∙ ap (λ n. 1 + n) (all_used slots (λ i l. all (suc i) (omega (arith, l)))) ∙ omega arith

pub has_free : (slots : List Slot) → used_count slots < length slots → free_slot slots < length slots
has_free slots few = elim (cases_lt (free_slot slots) (length slots)) [
  | inl l ↦ l
  | inr g ↦ absurd (let e = all_used slots (λ i l. used (slot_at slots i).used (fails_before_first (λ s. not s.used) slots i no_slot (omega (arith, g, l)))) in omega (arith, e, used_is slots, few))
]
  where
    used : (c : Bool) → not c ≡ false → c ≡ true
    used true e = refl
    used false e = cc

pub free_is_unused : (slots : List Slot) → free_slot slots < length slots → (slot_at slots (free_slot slots)).used ≡ false
free_is_unused slots l = unused (slot_at slots (free_slot slots)).used (passes_at_first (λ s. not s.used) slots no_slot l)
  where
    unused : (c : Bool) → not c ≡ true → c ≡ false
    unused true e = cc
    unused false e = refl

-- ---- a slot is written

pub slot_here : (slots : List Slot) (n : ℕ) (s : Slot) → n < length slots → slot_at (slice_set slots n s) n ≡ s
slot_here slots n s l = get_or-set_same slots n s no_slot l

pub slot_other : (slots : List Slot) (n i : ℕ) (s : Slot) → i ≢ n → slot_at (slice_set slots n s) i ≡ slot_at slots i
slot_other slots n i s other = get_or-set_other slots n i s no_slot other

-- the key that comes into a slot, where it was in no other
pub comes : (slots : List Slot) (n : ℕ) (s : Slot) (key : List ℕ) → n < length slots → has_key key s ≡ true → ((i : ℕ) → i < length slots → i ≢ n → has_key key (slot_at slots i) ≡ false) → slot_pointer (slice_set slots n s) key ≡ InSlot n
comes slots n s key l e none =
    pointer_at (slice_set slots n s) key n (omega (arith, l, length-set slots n s)) (ap (has_key key) (slot_here slots n s l) ∙ e)
    (λ i m. let other : i ≢ n = λ q. omega (arith, q, m) in ap (has_key key) (slot_other slots n i s other) ∙ none i (omega (arith, l, m)) other)

-- the key that goes
pub goes : (slots : List Slot) (n : ℕ) (s : Slot) (key : List ℕ) → n < length slots → has_key key s ≡ false → ((i : ℕ) → i < length slots → i ≢ n → has_key key (slot_at slots i) ≡ false) → slot_pointer (slice_set slots n s) key ≡ Null
goes slots n s key l e none = pointer_none (slice_set slots n s) key (λ i m. elim (same_or i n) [
  | inl same ↦ ap (λ k. has_key key (slot_at (slice_set slots n s) k)) same ∙ ap (has_key key) (slot_here slots n s l) ∙ e
  | inr other ↦ ap (has_key key) (slot_other slots n i s other) ∙ none i (omega (arith, m, length-set slots n s)) other
])

-- what may stand in a slot of a table: each key that it has was there before, or is in no other slot
pub record FitsSlot (d : MapDecl) (slots : List Slot) (n : ℕ) (s : Slot) : Type 0 where
  pub in_range : n < length slots
  pub key : s.used ≡ true → IsBytes d.key s.key
  pub new : (key : List ℕ) → has_key key s ≡ true → (i : ℕ) → i < length slots → i ≢ n → has_key key (slot_at slots i) ≡ false
  pub kept : d.kind ≡ Array → (key : List ℕ) → has_key key s ≡ has_key key (slot_at slots n)

no_true : true ≡ false → ⊥
no_true e = cc

pub table_keeps : (d : MapDecl) (slots : List Slot) (n : ℕ) (s : Slot) → IsTable d slots → FitsSlot d slots n s → IsTable d (slice_set slots n s)
table_keeps d slots n s table fits = record {
  count = length-set slots n s ∙ table.count;
  keys = λ i m used. elim (same_or i n) [
    | inl same ↦ let e = at_n i same in subst (λ (x : Slot). IsBytes d.key x.key) (sym e) (fits.key (sym (ap (λ (x : Slot). x.used) e) ∙ used))
    | inr other ↦ let e = slot_other slots n i s other in subst (λ (x : Slot). IsBytes d.key x.key) (sym e) (table.keys i (below i m) (sym (ap (λ (x : Slot). x.used) e) ∙ used))
  ];
  single = λ key i j l m e f. both key i j (below i l) (below j m) (same_or i n) (same_or j n) e f;
  filled = fill d.kind refl table.filled;
}
  where
    at_n : (i : ℕ) → i ≡ n → slot_at (slice_set slots n s) i ≡ s
    at_n i same = ap (slot_at (slice_set slots n s)) same ∙ slot_here slots n s fits.in_range

    below : (i : ℕ) → i < length (slice_set slots n s) → i < length slots
    below i m = omega (arith, m, length-set slots n s)

    own : (key : List ℕ) (i : ℕ) → i ≡ n → has_key key (slot_at (slice_set slots n s) i) ≡ true → has_key key s ≡ true
    own key i same e = sym (ap (has_key key) (at_n i same)) ∙ e

    old : (key : List ℕ) (i : ℕ) → i ≢ n → has_key key (slot_at (slice_set slots n s) i) ≡ true → has_key key (slot_at slots i) ≡ true
    old key i other e = sym (ap (has_key key) (slot_other slots n i s other)) ∙ e

    both : (key : List ℕ) (i j : ℕ) → i < length slots → j < length slots → (i ≡ n) ⊎ (i ≢ n) → (j ≡ n) ⊎ (j ≢ n) → has_key key (slot_at (slice_set slots n s) i) ≡ true → has_key key (slot_at (slice_set slots n s) j) ≡ true → i ≡ j
    both key i j l m (inl p) (inl q) e f = p ∙ sym q
    both key i j l m (inl p) (inr q) e f = absurd (no_true (sym (old key j q f) ∙ fits.new key (own key i p e) j m q))
    both key i j l m (inr p) (inl q) e f = absurd (no_true (sym (old key i p e) ∙ fits.new key (own key j q f) i l p))
    both key i j l m (inr p) (inr q) e f = table.single key i j l m (old key i p e) (old key j q f)

    fill : (k : MapKind) → d.kind ≡ k → IsFilledTable k slots → IsFilledTable k (slice_set slots n s)
    fill Hash kind all = tt
    fill Array kind all = λ i m. elim (same_or i n) [
      | inl same ↦ ap (has_key (index_key i)) (at_n i same) ∙ fits.kept kind (index_key i) ∙ ap (λ k. has_key (index_key i) (slot_at slots k)) (sym same) ∙ all i (below i m)
      | inr other ↦ ap (has_key (index_key i)) (slot_other slots n i s other) ∙ all i (below i m)
    ]
