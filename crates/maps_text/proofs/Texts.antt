-- A text is read as the maps of which it is a text, and no other is read.
use Rattle.std.proofs.Common.{◌≡◌, ℕ, suc, ◌+◌, ◌<◌, ◌≤◌, Bool, true, false, cond, List, [], ◌∷◌, length, get_or, Option, Some, None, Result, Ok, Err, IfOk, is_some, refl, sym, ap, subst, ◌∙◌, ◌⊎◌, inl, inr, arith, get_or-set_same, get_or-set_other, length-set}
use Rattle.std.specs.Prelude.{◌==◌, ◌||◌, nat_le, if◌then◌else◌}
use Rattle.std.proofs.lemmas.Bool.{cases_eq, eq-eqb, ne_eqb, leb-false, lt-leb}
use Rattle.std.proofs.lemmas.List.{ext_get_or, get_or-map, length-map}
use Rattle.std.proofs.lemmas.Cmp.{nat_list_cmp_total}
use Rattle.std.specs.Option.{option_map}
use Rattle.std.specs.Ordering.{nat_cmp}
use Rattle.std.specs.Cmp.Lexicographic.{slice_cmp}
use Rattle.std.specs.FinMap as map
use Rattle.std.specs.FinMap.{get-empty, len-insert, len-empty}
use Rattle.xdp_maps.specs.declared.decl.MapKind.{MapKind}
use Rattle.xdp_maps.specs.declared.decl.MapKind.TheVariants.{Hash, Array}
use Rattle.xdp_maps.specs.declared.decl.MapDecl.{MapDecl}
use Rattle.xdp_maps.specs.Contents.{Contents, opened, opened_as}
use Rattle.xdp_maps.specs.State.{MapState, no_decl, opened_state, decl_at, contents_at}
use Rattle.xdp_maps.specs.Laws.{SameByLookups}
use Rattle.maps_text.specs.declared.error.MapsError.{MapsError}
use Rattle.maps_text.specs.declared.error.MapsError.TheVariants.{Length, Twice, Full}
use Rattle.maps_text.specs.Lines.{Entry, lines_of, entry_in}
use Rattle.maps_text.specs.Reading.{Gives, same, map_named, fits, Listed, is_listed, is_full_as, listed_with, put_in, put_named, put_line, line_read, and_then, read_from, unlisted, outcome}
use Rattle.maps_text.specs.Text.{Item, Lists, ListAll, IsListed, AreOwn, count_of, AreGood, IsMapsText}
use Rattle.maps_text.proofs.Marking.{same_itself, differ_false, same_cases, listed_here, listed_other, contains-insert}
use Rattle.maps_text.proofs.Filled.{get_same, get_other}

abbrev pub with_item : Listed → Item → Listed
with_item before item = listed_with before item.map item.key item.value

abbrev pub with_items : Listed → List Item → Listed
with_items before [] = before
with_items before (item ∷ items) = with_items (with_item before item) items

-- each item is new, and there is room for it
abbrev pub Steps : Listed → List Item → Type 0
Steps before [] = Unit {0}
Steps before (item ∷ items) =
    (is_listed before.keys item.map item.key ≡ false) × (is_full_as (decl_at before.maps item.map).kind (decl_at before.maps item.map).cap (contents_at before.maps item.map) ≡ false) × Steps (with_item before item) items

-- ---- lines and items

-- what a line gives that is read
pub record IsItem (before : Listed) (line : List ℕ) (after : Listed) : Type 0 where
  pub item : Item
  pub lists : Lists before.maps.decls line item
  pub new : is_listed before.keys item.map item.key ≡ false
  pub room : is_full_as (decl_at before.maps item.map).kind (decl_at before.maps item.map).cap (contents_at before.maps item.map) ≡ false
  pub is : with_item before item ≡ after

pub value_or : {A : Type 0} → A → Result A MapsError → A
value_or d (Ok x) = x
value_or d (Err e) = d

done_is : (a b d : Listed) → ◌≡◌ {A = Result Listed MapsError} (Ok a) (Ok b) → a ≡ b
unfolding value_or
done_is a b d e = ap (value_or d) e

item_by : (n : ℕ) (before : Listed) (line : List ℕ) (after : Listed) (e : Entry) (m : ℕ) (fit new full : Bool) → entry_in line ≡ Some e → map_named e.name before.maps.decls ≡ Some m
    → fits (decl_at before.maps m) e ≡ fit → is_listed before.keys m e.key ≡ new → is_full_as (decl_at before.maps m).kind (decl_at before.maps m).cap (contents_at before.maps m) ≡ full
    → (if fit then (if new then Err (Twice n) else if full then Err (Full n) else Ok (listed_with before m e.key e.value)) else Err (Length n)) ≡ Ok after → IsItem before line after
item_by n before line after e m false new full is named f w l h = cc
item_by n before line after e m true true full is named f w l h = cc
item_by n before line after e m true false true is named f w l h = cc
item_by n before line after e m true false false is named f w l h = record {
  item = record { map = m; key = e.key; value = e.value };
  lists = record { name = e.name; is_entry = is; is_map = named; can = f };
  new = w;
  room = l;
  is = done_is (listed_with before m e.key e.value) after after h;
}

item_named : (n : ℕ) (before : Listed) (line : List ℕ) (after : Listed) (e : Entry) (o : Option ℕ) → entry_in line ≡ Some e → map_named e.name before.maps.decls ≡ o → put_named n before e o ≡ Ok after → IsItem before line after
item_named n before line after e None is named h = cc
item_named n before line after e (Some m) is named h = item_by n before line after e m _ _ _ is named refl refl refl h

item_in : (n : ℕ) (before : Listed) (line : List ℕ) (after : Listed) (o : Option Entry) → entry_in line ≡ o → put_line n before o ≡ Ok after → IsItem before line after
item_in n before line after None is h = cc
item_in n before line after (Some e) is h = item_named n before line after e (map_named e.name before.maps.decls) is refl h

pub item_of : (n : ℕ) (before : Listed) (line : List ℕ) (after : Listed) → line_read n before line ≡ Ok after → IsItem before line after
unfolding line_read
item_of n before line after h = item_in n before line after (entry_in line) refl h

pub line_of : (n : ℕ) (before : Listed) (line : List ℕ) (item : Item) → Lists before.maps.decls line item → is_listed before.keys item.map item.key ≡ false → is_full_as (decl_at before.maps item.map).kind (decl_at before.maps item.map).cap (contents_at before.maps item.map) ≡ false → line_read n before line ≡ Ok (with_item before item)
unfolding line_read
line_of n before line item lists new room =
    let e : Entry = record { name = lists.name; key = item.key; value = item.value } in
    let can : fits (decl_at before.maps item.map) e ≡ true = lists.can in
    let put : put_in n before item.map e ≡ Ok (with_item before item) = rw (can, new, room) refl in
    ap (put_line n before) lists.is_entry ∙ ap (put_named n before e) lists.is_map ∙ put

-- what lines give that are read
record AreItems (before : Listed) (lines : List (List ℕ)) (after : Listed) : Type 0 where
  items : List Item
  lists : ListAll before.maps.decls lines items
  steps : Steps before items
  is : with_items before items ≡ after

and_then_ok : (r : Result Listed MapsError) (f : Listed → Result Listed MapsError) (after : Listed) → and_then r f ≡ Ok after → (mid : Listed) × (r ≡ Ok mid) × (f mid ≡ Ok after)
and_then_ok (Ok mid) f after h = (mid, refl, h)
and_then_ok (Err e) f after h = cc

items_of : (n : ℕ) (before : Listed) (lines : List (List ℕ)) (after : Listed) → read_from n before lines ≡ Ok after → AreItems before lines after
unfolding read_from
items_of n before [] after h = record { items = []; lists = tt; steps = tt; is = done_is before after after h }
items_of n before (line ∷ lines) after h =
    let p = and_then_ok (line_read n before line) _ after h in
    let i = item_of n before line p.0 p.1 in
    let later = items_of (n + 1) p.0 lines after p.2 in
    let moved : AreItems (with_item before i.item) lines after = subst (λ b. AreItems b lines after) (sym i.is) later in
    record { items = i.item ∷ moved.items; lists = (i.lists, moved.lists); steps = (i.new, i.room, moved.steps); is = moved.is }

lines_are : (n : ℕ) (before : Listed) (lines : List (List ℕ)) (items : List Item) → ListAll before.maps.decls lines items → Steps before items → read_from n before lines ≡ Ok (with_items before items)
unfolding read_from
lines_are n before [] [] lists steps = refl
lines_are n before (line ∷ lines) (item ∷ items) lists steps =
    ap (λ (r : Result Listed MapsError). and_then r (λ after. read_from (n + 1) after lines)) (line_of n before line item lists.0 steps.0 steps.1)
    ∙ lines_are (n + 1) (with_item before item) lines items lists.1 steps.2
lines_are n before [] (item ∷ items) lists steps = absurd lists
lines_are n before (line ∷ lines) [] lists steps = absurd lists

-- ---- what the maps then hold

index_or : ℕ → Option ℕ → ℕ
index_or d None = d
index_or d (Some k) = k

within_by : (name : List ℕ) (ds : List MapDecl) → ((k : ℕ) → map_named name ds ≡ Some k → k < length ds) → (b : Bool) (o : Option ℕ) → map_named name ds ≡ o → (m : ℕ) → (if b then Some 0 else option_map suc o) ≡ Some m → m < suc (length ds)
unfolding index_or
within_by name ds rest true o is m h = let e : 0 ≡ m = ap (index_or m) h in omega (arith, e)
within_by name ds rest false None is m h = cc
within_by name ds rest false (Some k) is m h = let e : suc k ≡ m = ap (index_or m) h in omega (arith, e, rest k is)

pub named_within : (name : List ℕ) (ds : List MapDecl) (m : ℕ) → map_named name ds ≡ Some m → m < length ds
unfolding map_named
named_within name [] m h = cc
named_within name (d ∷ ds) m h = within_by name ds (λ k is. named_within name ds k is) (same name d.name) (map_named name ds) refl m h

-- each item is of a map
abbrev pub Within : ℕ → List Item → Type 0
Within n [] = Unit {0}
Within n (item ∷ items) = (item.map < n) × Within n items

within_all : (decls : List MapDecl) (lines : List (List ℕ)) (items : List Item) → ListAll decls lines items → Within (length decls) items
within_all decls [] [] lists = tt
within_all decls (line ∷ lines) (item ∷ items) lists = (named_within lists.0.name decls item.map lists.0.is_map, within_all decls lines items lists.1)
within_all decls [] (item ∷ items) lists = absurd lists
within_all decls (line ∷ lines) [] lists = absurd lists

pub decls_kept : (items : List Item) (before : Listed) → (with_items before items).maps.decls ≡ before.maps.decls
decls_kept [] before = refl
decls_kept (item ∷ items) before = decls_kept items (with_item before item)

len_kept : (items : List Item) (before : Listed) → length (with_items before items).maps.contents ≡ length before.maps.contents
len_kept [] before = refl
len_kept (item ∷ items) before = len_kept items (with_item before item) ∙ length-set before.maps.contents item.map _

module _ (before : Listed) (item : Item) (lt : item.map < length before.maps.contents) where
  at_item : contents_at (with_item before item).maps item.map ≡ map.insert (contents_at before.maps item.map) item.key item.value
  at_item = get_or-set_same before.maps.contents item.map _ map.empty lt

  at_other : (m : ℕ) → (m ≡ item.map → ⊥) → contents_at (with_item before item).maps m ≡ contents_at before.maps m
  at_other m differ = get_or-set_other before.maps.contents item.map m _ map.empty differ

  value_here : map.get (contents_at (with_item before item).maps item.map) item.key ≡ Some item.value
  value_here = ap (λ (c : Contents). map.get c item.key) at_item ∙ get_same (contents_at before.maps item.map) item.key item.value

  value_other : (m : ℕ) (key : List ℕ) → ((item.map ≡ m) × (item.key ≡ key) → ⊥) → map.get (contents_at (with_item before item).maps m) key ≡ map.get (contents_at before.maps m) key
  value_other m key differ = elim (cases_eq m item.map) [
    | inl is ↦
        let P : ℕ → Type 0 = λ j. map.get (contents_at (with_item before item).maps j) key ≡ map.get (contents_at before.maps j) key in
        subst P (sym is) (ap (λ (c : Contents). map.get c key) at_item ∙ get_other (contents_at before.maps item.map) item.key item.value key (λ e. differ (sym is, sym e)))
    | inr other ↦ ap (λ (c : Contents). map.get c key) (at_other m other)
  ]

not_listed : (items : List Item) (before : Listed) (m : ℕ) (key : List ℕ) → Within (length before.maps.contents) items → ((value : List ℕ) → ¬ IsListed items m key value) → map.get (contents_at (with_items before items).maps m) key ≡ map.get (contents_at before.maps m) key
not_listed [] before m key within never = refl
not_listed (item ∷ items) before m key within never =
    let kept : length before.maps.contents ≡ length (with_item before item).maps.contents = sym (length-set before.maps.contents item.map _) in
    not_listed items (with_item before item) m key (subst (λ n. Within n items) kept within.1) (λ value there. never value (inr there))
    ∙ value_other before item within.0 m key (λ e. never item.value (inl (e.0, e.1, refl)))

listed_value : (items : List Item) (before : Listed) (m : ℕ) (key value : List ℕ) → Within (length before.maps.contents) items → AreOwn items → IsListed items m key value → map.get (contents_at (with_items before items).maps m) key ≡ Some value
listed_value [] before m key value within own there = absurd there
listed_value (item ∷ items) before m key value within own there =
    let kept : length before.maps.contents ≡ length (with_item before item).maps.contents = sym (length-set before.maps.contents item.map _) in
    let later : Within (length (with_item before item).maps.contents) items = subst (λ n. Within n items) kept within.1 in
    elim there [
      | inl e ↦
          let P : ℕ → List ℕ → List ℕ → Type 0 = λ j k v. map.get (contents_at (with_items (with_item before item) items).maps j) k ≡ Some v in
          let here : P item.map item.key item.value = not_listed items (with_item before item) item.map item.key later own.0 ∙ value_here before item within.0 in
          subst (λ v. P m key v) e.2 (subst (λ k. P m k item.value) e.1 (subst (λ j. P j item.key item.value) e.0 here))
      | inr rest ↦ listed_value items (with_item before item) m key value later own.1 rest
    ]

-- ---- each key once

or_right : (a b : Bool) → (a || b) ≡ false → b ≡ false
or_right true b h = cc
or_right false b h = h

pub here_listed : (before : Listed) (item : Item) → is_listed (with_item before item).keys item.map item.key ≡ true
here_listed before item = let t : same item.key item.key ≡ true = same_itself item.key in listed_here before.keys item.map item.key item.key ∙ rw t refl

steps_own : (items : List Item) (before : Listed) → Steps before items → AreOwn items × ((m : ℕ) (key value : List ℕ) → IsListed items m key value → is_listed before.keys m key ≡ false)
steps_own [] before steps = (tt, λ m key value there. absurd there)
steps_own (item ∷ items) before steps =
    let later = steps_own items (with_item before item) steps.2 in (
      ((λ value there. (let clash : true ≡ false = sym (here_listed before item) ∙ later.1 item.map item.key value there in cc)), later.0),
      λ m key value there. elim there [
        | inl e ↦ subst (λ k. is_listed before.keys m k ≡ false) e.1 (subst (λ j. is_listed before.keys j item.key ≡ false) e.0 steps.0)
        | inr rest ↦ or_right _ _ (later.1 m key value rest)
      ],
    )

new_after : (items : List Item) (before : Listed) (item : Item) → ((value : List ℕ) → ¬ IsListed items item.map item.key value) → ((m : ℕ) (key value : List ℕ) → IsListed items m key value → is_listed before.keys m key ≡ false)
    → (m : ℕ) (key value : List ℕ) → IsListed items m key value → is_listed (with_item before item).keys m key ≡ false
new_after items before item own new m key value there = elim (cases_eq m item.map) [
  | inl is ↦
      let other : same key item.key ≡ false = differ_false key item.key (λ e. own value (subst (λ k. IsListed items item.map k value) e (subst (λ j. IsListed items j key value) is there))) in
      let P : ℕ → Type 0 = λ j. is_listed (with_item before item).keys j key ≡ false in
      subst P (sym is) (listed_here before.keys item.map item.key key ∙ rw other (subst (λ j. is_listed before.keys j key ≡ false) is (new m key value there)))
  | inr differ ↦ listed_other before.keys item.map m item.key key differ ∙ new m key value there
]

-- ---- room in a hash

-- a hash holds just what is listed of it
abbrev pub HashHolds : Listed → Type 0
HashHolds before = (m : ℕ) (key : List ℕ) → (decl_at before.maps m).kind ≡ Hash → m < length before.maps.contents → map.contains_key (contents_at before.maps m) key ≡ is_listed before.keys m key

pub hash_holds_on : (before : Listed) (item : Item) → item.map < length before.maps.contents → HashHolds before → HashHolds (with_item before item)
hash_holds_on before item lt holds m key hash within = elim (cases_eq m item.map) [
  | inl is ↦
      let P : ℕ → Type 0 = λ j. map.contains_key (contents_at (with_item before item).maps j) key ≡ is_listed (with_item before item).keys j key in
      subst P (sym is) (ap (λ (c : Contents). map.contains_key c key) (at_item before item lt) ∙ contains-insert (contents_at before.maps item.map) item.key item.value key
      ∙ ap (λ (b : Bool). same key item.key || b) (holds item.map key (subst (λ j. (decl_at before.maps j).kind ≡ Hash) is hash) lt) ∙ sym (listed_here before.keys item.map item.key key))
  | inr differ ↦ ap (λ (c : Contents). map.contains_key c key) (at_other before item lt m differ) ∙ holds m key hash (omega (arith, within, length-set before.maps.contents item.map (map.insert (contents_at before.maps item.map) item.key item.value))) ∙ sym (listed_other before.keys item.map m item.key key differ)
]

-- how many keys a map has after an item
pub len_after : (before : Listed) (item : Item) (m : ℕ) → item.map < length before.maps.contents → HashHolds before → is_listed before.keys item.map item.key ≡ false → (decl_at before.maps m).kind ≡ Hash → map.len (contents_at (with_item before item).maps m) ≡ cond (item.map == m) 1 0 + map.len (contents_at before.maps m)
len_after before item m lt holds new hash = elim (cases_eq item.map m) [
  | inl is ↦
      let yes : (item.map == item.map) ≡ true = eq-eqb item.map item.map refl in
      let P : ℕ → Type 0 = λ j. map.len (contents_at (with_item before item).maps j) ≡ cond (item.map == j) 1 0 + map.len (contents_at before.maps j) in
      let absent : map.contains_key (contents_at before.maps item.map) item.key ≡ false = holds item.map item.key (subst (λ j. (decl_at before.maps j).kind ≡ Hash) (sym is) hash) lt ∙ new in
      let one : map.len (map.insert (contents_at before.maps item.map) item.key item.value) ≡ map.len (contents_at before.maps item.map) + 1 = len-insert nat_list_cmp_total (contents_at before.maps item.map) item.key item.value ∙ ap (λ b. cond b (map.len (contents_at before.maps item.map)) (map.len (contents_at before.maps item.map) + 1)) absent in
      let more : map.len (contents_at before.maps item.map) + 1 ≡ 1 + map.len (contents_at before.maps item.map) = omega arith in
      subst P is (ap map.len (at_item before item lt) ∙ one ∙ more ∙ ap (λ b. cond b 1 0 + map.len (contents_at before.maps item.map)) (sym yes))
  | inr differ ↦
      let no_one : (item.map == m) ≡ false = ne_eqb item.map m differ in
      let none : map.len (contents_at before.maps m) ≡ 0 + map.len (contents_at before.maps m) = omega arith in
      ap map.len (at_other before item lt m (λ e. differ (sym e))) ∙ none ∙ ap (λ b. cond b 1 0 + map.len (contents_at before.maps m)) (sym no_one)
]

-- what is listed and what is to come have room in a hash
abbrev HasRoom : Listed → List Item → ℕ → Type 0
HasRoom before items m = map.len (contents_at before.maps m) + count_of m items ≤ (decl_at before.maps m).cap

steps_room : (items : List Item) (before : Listed) (m : ℕ) → Within (length before.maps.contents) items → HashHolds before → Steps before items → (decl_at before.maps m).kind ≡ Hash → map.len (contents_at before.maps m) ≤ (decl_at before.maps m).cap → HasRoom before items m
steps_room [] before m within holds steps hash le = omega (arith, le)
steps_room (item ∷ items) before m within holds steps hash le =
    let kept : length before.maps.contents ≡ length (with_item before item).maps.contents = sym (length-set before.maps.contents item.map _) in
    let len = len_after before item m within.0 holds steps.0 hash in
    let one : cond (item.map == m) 1 0 + map.len (contents_at before.maps m) ≤ (decl_at before.maps m).cap = elim (cases_eq item.map m) [
      | inl is ↦
          let yes : (item.map == m) ≡ true = eq-eqb item.map m is in
          let P : ℕ → Type 0 = λ j. is_full_as (decl_at before.maps j).kind (decl_at before.maps j).cap (contents_at before.maps j) ≡ false in
          let room : nat_le (decl_at before.maps m).cap (map.len (contents_at before.maps m)) ≡ false = sym (ap (λ k. is_full_as k (decl_at before.maps m).cap (contents_at before.maps m)) hash) ∙ subst P is steps.1 in
          let lt = leb-false (decl_at before.maps m).cap (map.len (contents_at before.maps m)) room in
          rw yes (omega (arith, lt))
      | inr differ ↦ let other : (item.map == m) ≡ false = ne_eqb item.map m differ in rw other (omega (arith, le))
    ] in
    let later = steps_room items (with_item before item) m (subst (λ n. Within n items) kept within.1) (hash_holds_on before item within.0 holds) steps.2 hash (subst (λ n. n ≤ (decl_at before.maps m).cap) (sym len) one) in
    omega (arith, later, len)

full_by : (k : MapKind) (cap : ℕ) (c : Contents) → (k ≡ Hash → map.len c < cap) → is_full_as k cap c ≡ false
full_by Hash cap c h = lt-leb cap (map.len c) (h refl)
full_by Array cap c h = refl

pub one_by : (b : Bool) → b ≡ true → 1 ≤ cond b 1 0
one_by true h = omega arith
one_by false h = cc

steps_from : (items : List Item) (before : Listed) → Within (length before.maps.contents) items → HashHolds before → AreOwn items → ((m : ℕ) (key value : List ℕ) → IsListed items m key value → is_listed before.keys m key ≡ false)
    → ((m : ℕ) → m < length before.maps.contents → (decl_at before.maps m).kind ≡ Hash → HasRoom before items m) → Steps before items
steps_from [] before within holds own new room = tt
steps_from (item ∷ items) before within holds own new room =
    let kept : length before.maps.contents ≡ length (with_item before item).maps.contents = sym (length-set before.maps.contents item.map _) in
    let fresh = new item.map item.key item.value (inl (refl, refl, refl)) in
    let yes : (item.map == item.map) ≡ true = eq-eqb item.map item.map refl in (
      fresh,
      full_by (decl_at before.maps item.map).kind (decl_at before.maps item.map).cap (contents_at before.maps item.map) (λ hash.
          let all = room item.map within.0 hash in
          let one : 1 ≤ cond (item.map == item.map) 1 0 = one_by (item.map == item.map) yes in
          omega (arith, all, one)),
      steps_from items (with_item before item) (subst (λ n. Within n items) kept within.1) (hash_holds_on before item within.0 holds) own.1
          (new_after items before item own.0 (λ m key value there. new m key value (inr there)))
          (λ m lt hash.
          let all = room m (omega (arith, lt, kept)) hash in
          let len = len_after before item m within.0 holds fresh hash in
          omega (arith, all, len)),
    )

-- ---- the whole

module _ (decls : List MapDecl) where
  pub opened_at : (m : ℕ) → m < length decls → contents_at (opened_state decls) m ≡ opened (decl_at (opened_state decls) m)
  opened_at m lt = get_or-map opened decls m no_decl map.empty lt

  pub len_first : length (opened_state decls).contents ≡ length decls
  len_first = length-map decls opened

  hash_first : (m : ℕ) → m < length decls → (decl_at (opened_state decls) m).kind ≡ Hash → contents_at (opened_state decls) m ≡ map.empty
  unfolding opened
  hash_first m lt hash = opened_at m lt ∙ ap (λ k. opened_as k (decl_at (opened_state decls) m)) hash

  pub none_first : HashHolds (unlisted decls)
  none_first m key hash within = ap (λ (c : Contents). map.contains_key c key) (hash_first m (omega (arith, within, len_first)) hash) ∙ ap is_some (get-empty (slice_cmp nat_cmp) key)

  pub len_none : (m : ℕ) → m < length decls → (decl_at (opened_state decls) m).kind ≡ Hash → map.len (contents_at (opened_state decls) m) ≡ 0
  len_none m lt hash = ap map.len (hash_first m lt hash) ∙ len-empty (slice_cmp nat_cmp) (List ℕ)

  pub within_first : (lines : List (List ℕ)) (items : List Item) → ListAll decls lines items → Within (length (opened_state decls).contents) items
  within_first lines items lists = subst (λ n. Within n items) (sym len_first) (within_all decls lines items lists)

  pub are_good : (lines : List (List ℕ)) (items : List Item) → ListAll decls lines items → Steps (unlisted decls) items → AreGood decls lines items
  are_good lines items lists steps = record {
    lists = lists;
    own = (steps_own items (unlisted decls) steps).0;
    room = λ m lt hash. (let r = steps_room items (unlisted decls) m (within_first lines items lists) none_first steps hash (omega (arith, len_none m lt hash)) in omega (arith, r));
  }

  pub good_steps : (lines : List (List ℕ)) (items : List Item) → AreGood decls lines items → Steps (unlisted decls) items
  good_steps lines items good = steps_from items (unlisted decls) (within_first lines items good.lists) none_first good.own (λ m key value there. refl) (λ m lt hash.
      let inside : m < length decls = omega (arith, lt, len_first) in
      omega (arith, good.room m inside hash, len_none m inside hash))

  module _ (text : List ℕ) where
    is_text : (after : Listed) → AreItems (unlisted decls) (lines_of text) after → IsMapsText decls text after.maps
    is_text after are =
        let within = subst (λ n. Within n are.items) (sym len_first) (within_all decls (lines_of text) are.items are.lists) in
        let own = steps_own are.items (unlisted decls) are.steps in
        let moved : IsMapsText decls text (with_items (unlisted decls) are.items).maps = record {
          items = are.items;
          good = are_good (lines_of text) are.items are.lists are.steps;
          decls_are = decls_kept are.items (unlisted decls);
          beside = len_kept are.items (unlisted decls) ∙ len_first;
          holds = λ m key value there. listed_value are.items (unlisted decls) m key value within own.0 there;
          others = λ m key lt never.
              let d_is : opened (decl_at (opened_state decls) m) ≡ opened (decl_at (with_items (unlisted decls) are.items).maps m) = ap (λ (ds : List MapDecl). opened (get_or ds m no_decl)) (sym (decls_kept are.items (unlisted decls))) in
              not_listed are.items (unlisted decls) m key within never ∙ ap (λ (c : Contents). map.get c key) (opened_at m lt ∙ d_is);
        } in
        subst (λ (l : Listed). IsMapsText decls text l.maps) are.is moved

    -- ---- and no other

    listed_or_not : (items : List Item) (m : ℕ) (key : List ℕ) → ((value : List ℕ) × IsListed items m key value) ⊎ ((value : List ℕ) → ¬ IsListed items m key value)
    listed_or_not [] m key = inr (λ value there. there)
    listed_or_not (item ∷ items) m key = elim (listed_or_not items m key) [
      | inl later ↦ inl (later.0, inr later.1)
      | inr never ↦ elim (cases_eq item.map m) [
        | inl is ↦ elim (same_cases item.key key) [
          | inl e ↦ inl (item.value, inl (is, e, refl))
          | inr differ ↦ inr (λ value there. elim there [ inl e ↦ differ e.1 | inr rest ↦ never value rest ])
        ]
        | inr differ ↦ inr (λ value there. elim there [ inl e ↦ differ e.0 | inr rest ↦ never value rest ])
      ]
    ]

    maps_are : (s : MapState) (t : IsMapsText decls text s) → SameByLookups → (with_items (unlisted decls) t.items).maps ≡ s
    maps_are s t alike =
        let made = (with_items (unlisted decls) t.items).maps in
        let within = subst (λ n. Within n t.items) (sym len_first) (within_all decls (lines_of text) t.items t.good.lists) in
        let ds : made.decls ≡ s.decls = decls_kept t.items (unlisted decls) ∙ sym t.decls_are in
        let len : length made.contents ≡ length decls = len_kept t.items (unlisted decls) ∙ len_first in
        let at : (m : ℕ) → m < length made.contents → contents_at made m ≡ contents_at s m = λ m lt. alike (contents_at made m) (contents_at s m) (λ key. elim (listed_or_not t.items m key) [
          | inl there ↦ listed_value t.items (unlisted decls) m key there.0 within t.good.own there.1 ∙ sym (t.holds m key there.0 there.1)
          | inr never ↦
              let inside : m < length decls = omega (arith, lt, len) in
              let d_is : opened (decl_at (opened_state decls) m) ≡ opened (decl_at s m) = ap (λ (x : List MapDecl). opened (get_or x m no_decl)) (sym t.decls_are) in
              not_listed t.items (unlisted decls) m key within never ∙ ap (λ (c : Contents). map.get c key) (opened_at m inside ∙ d_is) ∙ sym (t.others m key inside never)
        ]) in
        let cs : made.contents ≡ s.contents = ext_get_or map.empty made.contents s.contents (len ∙ sym t.beside) at in
        ap (λ (x : List MapDecl). let r : MapState = record { decls = x; contents = made.contents } in r) ds ∙ ap (λ (x : List Contents). let r : MapState = record { decls = s.decls; contents = x } in r) cs

    -- a text is read as some maps
    pub text-made : (s : MapState) (t : IsMapsText decls text s) → outcome decls text ≡ Ok (with_items (unlisted decls) t.items).maps
    unfolding outcome
    text-made s t =
        let steps = good_steps (lines_of text) t.items t.good in
        ap (λ (r : Result Listed MapsError). and_then r (λ all. Ok all.maps)) (lines_are 1 (unlisted decls) (lines_of text) t.items t.good.lists steps)

    pub text-outcome : (s : MapState) → SameByLookups → IsMapsText decls text s → outcome decls text ≡ Ok s
    text-outcome s alike t = text-made s t ∙ ap Ok (maps_are s t alike)

    found_by : (r : Result Listed MapsError) (s : MapState) → read_from 1 (unlisted decls) (lines_of text) ≡ r → and_then r (λ all. Ok all.maps) ≡ Ok s → IsMapsText decls text s
    unfolding value_or
    found_by (Ok after) s is h = subst (IsMapsText decls text) (ap (value_or s) h) (is_text after (items_of 1 (unlisted decls) (lines_of text) after is))
    found_by (Err e) s is h = cc

    pub outcome-text : (s : MapState) → outcome decls text ≡ Ok s → IsMapsText decls text s
    unfolding outcome
    outcome-text s h = found_by (read_from 1 (unlisted decls) (lines_of text)) s refl h

    pub gives_found : (result : Result MapState MapsError) → Gives result (outcome decls text) → IfOk result (IsMapsText decls text)
    gives_found (Ok s) h = outcome-text s (sym h)
    gives_found (Err e) h = tt

    pub gives_along : (result a b : Result MapState MapsError) → a ≡ b → Gives result a → Gives result b
    gives_along result a b e h = subst (Gives result) e h
