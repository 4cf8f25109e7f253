-- What lookups find in the contents of a table.
use Rattle.std.proofs.Common.{◌≡◌, ℕ, suc, ◌+◌, ◌<◌, ◌≤◌, Bool, true, false, cond, List, [], ◌∷◌, Option, Some, None, length, refl, sym, ap, ◌∙◌, arith, not}
use Rattle.std.specs.Prelude.{◌&&◌, if◌then◌else◌, nat_lt, is_some}
use Rattle.std.specs.Ordering.{nat_cmp}
use Rattle.std.specs.Cmp.Lexicographic.{slice_cmp, nat_list_cmp_total}
use Rattle.std.specs.FinMap as map
use Rattle.std.specs.FinMap.{get-insert, get-empty, len-insert, len-empty}
use Rattle.std.specs.Str.{bytes_eq}
use Rattle.std.proofs.lemmas.Bool.Decides.{nat_tests}
use Rattle.std.proofs.lemmas.Slice.Eq.{bytes_eq-Decides}
use Rattle.std.proofs.lemmas.Map.Text.{is_eq-slice_cmp}
use Rattle.list_laws.proofs.ByteLaws.{bytes_turn}
use Rattle.xdp_maps.specs.Contents.{Contents}
use Rattle.xdp_maps.specs.Calls.{lookup_of}
use Rattle.hazard_core.specs.Tables.{Slot, slot_at, has_key, slot_of, used_count, contents_of}
use Rattle.hazard_core.specs.StageValues.{Pointer, Null, InSlot, Pending, slot_pointer}
use Rattle.hazard_core.proofs.Slots.{pointer_at, pointer_none, used_rec, used_is}

-- the value under a pointer to a slot
abbrev pub value_of : List Slot → Pointer → Option (List ℕ)
value_of slots (InSlot n) = Some (slot_at slots n).value
value_of slots Null = None
value_of slots (Pending i) = None

abbrev shifted : Pointer → Pointer
shifted (InSlot n) = InSlot (suc n)
shifted Null = Null
shifted (Pending i) = Pending i

less_next : (n m : ℕ) → nat_lt (1 + n) (suc m) ≡ nat_lt n m
less_next n m = by (nat_lt (1 + n) (suc m)) (nat_lt n m) refl refl
  where
    by : (c d : Bool) → nat_lt (1 + n) (suc m) ≡ c → nat_lt n m ≡ d → c ≡ d
    by true true e f = refl
    by false false e f = refl
    by true false e f = let a : 1 + n < suc m = grind (arith, nat_tests) in let b : m ≤ n = grind (arith, nat_tests) in absurd (omega (arith, a, b))
    by false true e f = let a : suc m ≤ 1 + n = grind (arith, nat_tests) in let b : n < m = grind (arith, nat_tests) in absurd (omega (arith, a, b))

pointer_next : (s : Slot) (slots : List Slot) (key : List ℕ) → has_key key s ≡ false → slot_pointer (s ∷ slots) key ≡ shifted (slot_pointer slots key)
pointer_next s slots key e =
    let first : slot_of (s ∷ slots) key ≡ 1 + slot_of slots key = ap (λ (c : Bool). cond (not c) (1 + slot_of slots key) 0) e in
    ap (λ m. if nat_lt m (suc (length slots)) then InSlot m else Null) first ∙ ap (λ (c : Bool). if c then InSlot (1 + slot_of slots key) else Null) (less_next (slot_of slots key) (length slots))
    ∙ by (nat_lt (slot_of slots key) (length slots))
  where
    by : (c : Bool) → (if c then InSlot (1 + slot_of slots key) else Null) ≡ shifted (if c then InSlot (slot_of slots key) else Null)
    by true = ap InSlot (omega arith)
    by false = refl

value_next : (s : Slot) (slots : List Slot) (q : Pointer) → value_of (s ∷ slots) (shifted q) ≡ value_of slots q
value_next s slots Null = refl
value_next s slots (InSlot n) = refl
value_next s slots (Pending i) = refl

pub lookup_is : (slots : List Slot) (key : List ℕ) → lookup_of (contents_of slots) key ≡ value_of slots (slot_pointer slots key)
lookup_is [] key = get-empty (slice_cmp nat_cmp) key
lookup_is (s ∷ slots) key = by s.used refl (lookup_is slots key)
  where
    rest : Contents
    rest = contents_of slots

    here : lookup_of (map.insert rest s.key s.value) key ≡ cond (bytes_eq s.key key) (Some s.value) (lookup_of rest key)
    here = get-insert nat_list_cmp_total rest s.key s.value key ∙ ap (λ (c : Bool). cond c (Some s.value) (lookup_of rest key)) (is_eq-slice_cmp key s.key ∙ bytes_turn key s.key)

    past : has_key key s ≡ false → lookup_of rest key ≡ value_of slots (slot_pointer slots key) → lookup_of rest key ≡ value_of (s ∷ slots) (slot_pointer (s ∷ slots) key)
    past e more = more ∙ sym (value_next s slots (slot_pointer slots key)) ∙ ap (value_of (s ∷ slots)) (sym (pointer_next s slots key e))

    two : (c : Bool) → s.used ≡ true → bytes_eq s.key key ≡ c → lookup_of rest key ≡ value_of slots (slot_pointer slots key) →
        cond c (Some s.value) (lookup_of rest key) ≡ value_of (s ∷ slots) (slot_pointer (s ∷ slots) key)
    two true u e more = sym (ap (value_of (s ∷ slots)) (pointer_at (s ∷ slots) key 0 (omega arith) (ap (λ c. c && bytes_eq s.key key) u ∙ e) (λ i l. absurd (omega (arith, l)))))
    two false u e more = past (ap (λ c. c && bytes_eq s.key key) u ∙ e) more

    by : (u : Bool) → s.used ≡ u → lookup_of rest key ≡ value_of slots (slot_pointer slots key) → lookup_of (if u then map.insert rest s.key s.value else rest) key ≡ value_of (s ∷ slots) (slot_pointer (s ∷ slots) key)
    by true u more = here ∙ two (bytes_eq s.key key) u refl more
    by false u more = past (ap (λ c. c && bytes_eq s.key key) u) more

-- ---- how many keys there are

abbrev pub Single : List Slot → Type 0
Single slots = (key : List ℕ) (n m : ℕ) → n < length slots → m < length slots → has_key key (slot_at slots n) ≡ true → has_key key (slot_at slots m) ≡ true → n ≡ m

count_rec : (slots : List Slot) → Single slots → map.len (contents_of slots) ≡ used_rec slots
count_rec [] single = len-empty (slice_cmp nat_cmp) (List ℕ)
count_rec (s ∷ slots) single = by s.used refl (count_rec slots (λ key n m l k e f. let q = single key (suc n) (suc m) (omega (arith, l)) (omega (arith, k)) e f in omega (arith, q)))
  where
    rest : Contents
    rest = contents_of slots

    own : s.used ≡ true → has_key s.key s ≡ true
    own u = ap (λ c. c && bytes_eq s.key s.key) u ∙ (bytes_eq-Decides s.key s.key).1 refl

    absent : s.used ≡ true → (i : ℕ) → i < length slots → has_key s.key (slot_at slots i) ≡ false
    absent u i l = no (has_key s.key (slot_at slots i)) refl
      where
        no : (c : Bool) → has_key s.key (slot_at slots i) ≡ c → c ≡ false
        no true e = let q = single s.key 0 (suc i) (omega arith) (omega (arith, l)) (own u) e in absurd (omega (arith, q))
        no false e = refl

    new : s.used ≡ true → map.contains_key rest s.key ≡ false
    new u = ap is_some (lookup_is slots s.key ∙ ap (value_of slots) (pointer_none slots s.key (absent u)))

    by : (u : Bool) → s.used ≡ u → map.len rest ≡ used_rec slots → map.len (if u then map.insert rest s.key s.value else rest) ≡ cond u (1 + used_rec slots) (used_rec slots)
    by true u more = len-insert nat_list_cmp_total rest s.key s.value ∙ ap (λ (c : Bool). cond c (map.len rest) (map.len rest + 1)) (new u) ∙ omega (arith, more)
    by false u more = more

pub count_is : (slots : List Slot) → Single slots → map.len (contents_of slots) ≡ used_count slots
count_is slots single = count_rec slots single ∙ used_is slots
