-- The fault of a text is that of its first bad line, by the first check that this line fails.
use Rattle.std.proofs.Common.{◌≡◌, ℕ, suc, ◌+◌, ◌<◌, ◌≤◌, Bool, true, false, List, [], ◌∷◌, ◌++◌, length, get_or, Option, Some, None, Result, Ok, Err, IfErr, refl, sym, ap, subst, ◌∙◌, ◌⊎◌, inl, inr, arith, length-set}
use Rattle.std.specs.Prelude.{◌||◌, nat_le, if◌then◌else◌}
use Rattle.std.proofs.lemmas.Bool.{cases_eq, leb-true, le-leb, or_right}
use Rattle.std.specs.FinMap as map
use Rattle.xdp_maps.specs.declared.decl.MapKind.{MapKind}
use Rattle.xdp_maps.specs.declared.decl.MapKind.TheVariants.{Hash, Array}
use Rattle.xdp_maps.specs.declared.decl.MapDecl.{MapDecl}
use Rattle.xdp_maps.specs.Contents.{Contents}
use Rattle.xdp_maps.specs.State.{MapState, no_decl, decl_at, contents_at}
use Rattle.maps_text.specs.declared.error.MapsError.{MapsError}
use Rattle.maps_text.specs.declared.error.MapsError.TheVariants.{Line, Unknown, Length, Twice, Full, NoMemory}
use Rattle.maps_text.specs.Lines.{Entry, lines_of, entry_in}
use Rattle.maps_text.specs.Reading.{Gives, same, map_named, fits, Listed, is_listed, is_full_as, listed_with, put_in, put_named, put_line, line_read, and_then, read_from, unlisted, outcome}
use Rattle.maps_text.specs.Text.{Item, ListAll, IsListed, count_of, Fails, IsFirstBad}
use Rattle.maps_text.proofs.Marking.{same_cases, differ_false, listed_here, listed_other}
use Rattle.maps_text.proofs.Texts.{with_item, with_items, Steps, item_of, line_of, named_within, Within, decls_kept, here_listed, HashHolds, hash_holds_on, len_after, none_first, len_none, within_first, are_good, good_steps}

error_or : {A : Type 0} → MapsError → Result A MapsError → MapsError
error_or d (Ok x) = d
error_or d (Err e) = e

err_is : {A : Type 0} (a b : MapsError) → ◌≡◌ {A = Result A MapsError} (Err a) (Err b) → a ≡ b
unfolding error_or
err_is a b h = ap (error_or a) h

-- ---- where reading stops

record Stops (n : ℕ) (before : Listed) (lines : List (List ℕ)) (e : MapsError) : Type 0 where
  front : List (List ℕ)
  line : List ℕ
  behind : List (List ℕ)
  whole : lines ≡ front ++ line ∷ behind
  items : List Item
  lists : ListAll before.maps.decls front items
  steps : Steps before items
  fails : line_read (n + length front) (with_items before items) line ≡ Err e

stop_by : (n : ℕ) (before : Listed) (line : List ℕ) (lines : List (List ℕ)) (e : MapsError) (r : Result Listed MapsError) → line_read n before line ≡ r → ((mid : Listed) → read_from (n + 1) mid lines ≡ Err e → Stops (n + 1) mid lines e)
    → and_then r (λ after. read_from (n + 1) after lines) ≡ Err e → Stops n before (line ∷ lines) e
stop_by n before line lines e (Err f) is rest h =
    let none : n + 0 ≡ n = omega arith in
    record { front = []; line = line; behind = lines; whole = refl; items = []; lists = tt; steps = tt; fails = ap (λ k. line_read k before line) none ∙ is ∙ ap Err (err_is f e h) }
stop_by n before line lines e (Ok mid) is rest h =
    let i = item_of n before line mid is in
    let s : Stops (n + 1) (with_item before i.item) lines e = subst (λ b. Stops (n + 1) b lines e) (sym i.is) (rest mid h) in
    let place : n + suc (length s.front) ≡ n + 1 + length s.front = omega arith in
    record {
      front = line ∷ s.front;
      line = s.line;
      behind = s.behind;
      whole = ap (λ (ls : List (List ℕ)). line ∷ ls) s.whole;
      items = i.item ∷ s.items;
      lists = (i.lists, s.lists);
      steps = (i.new, i.room, s.steps);
      fails = ap (λ k. line_read k (with_items (with_item before i.item) s.items) s.line) place ∙ s.fails;
    }

stop_of : (n : ℕ) (before : Listed) (lines : List (List ℕ)) (e : MapsError) → read_from n before lines ≡ Err e → Stops n before lines e
unfolding read_from
stop_of n before [] e h = cc
stop_of n before (line ∷ lines) e h = stop_by n before line lines e (line_read n before line) refl (λ mid stop. stop_of (n + 1) mid lines e stop) h

-- ---- what was listed before

listed_more : (before : Listed) (item : Item) (m : ℕ) (key : List ℕ) → is_listed before.keys m key ≡ true → is_listed (with_item before item).keys m key ≡ true
listed_more before item m key h = elim (cases_eq m item.map) [
  | inl is ↦
      let P : ℕ → Type 0 = λ j. is_listed (with_item before item).keys j key ≡ true in
      subst P (sym is) (listed_here before.keys item.map item.key key ∙ or_right (same key item.key) _ (subst (λ j. is_listed before.keys j key ≡ true) is h))
  | inr differ ↦ listed_other before.keys item.map m item.key key differ ∙ h
]

still_listed : (items : List Item) (before : Listed) (m : ℕ) (key : List ℕ) → is_listed before.keys m key ≡ true → is_listed (with_items before items).keys m key ≡ true
still_listed [] before m key h = h
still_listed (item ∷ items) before m key h = still_listed items (with_item before item) m key (listed_more before item m key h)

listed_true : (items : List Item) (before : Listed) (m : ℕ) (key value : List ℕ) → IsListed items m key value → is_listed (with_items before items).keys m key ≡ true
listed_true [] before m key value there = absurd there
listed_true (item ∷ items) before m key value there = elim there [
  | inl e ↦
      let P : ℕ → List ℕ → Type 0 = λ j k. is_listed (with_items (with_item before item) items).keys j k ≡ true in
      subst (P m) e.1 (subst (λ j. P j item.key) e.0 (still_listed items (with_item before item) item.map item.key (here_listed before item)))
  | inr rest ↦ listed_true items (with_item before item) m key value rest
]

or_cases : (a b : Bool) → (a || b) ≡ true → a ≡ false → b ≡ true
or_cases true b h f = cc
or_cases false b h f = h

listed_back : (items : List Item) (before : Listed) (m : ℕ) (key : List ℕ) → is_listed (with_items before items).keys m key ≡ true → (is_listed before.keys m key ≡ true) ⊎ ((value : List ℕ) × IsListed items m key value)
listed_back [] before m key h = inl h
listed_back (item ∷ items) before m key h = elim (listed_back items (with_item before item) m key h) [
  | inr later ↦ inr (later.0, inr later.1)
  | inl now ↦ elim (cases_eq item.map m) [
    | inl is ↦ elim (same_cases key item.key) [
      | inl e ↦ inr (item.value, inl (is, sym e, refl))
      | inr differ ↦
          let both : (same key item.key || is_listed before.keys item.map key) ≡ true = sym (listed_here before.keys item.map item.key key) ∙ subst (λ j. is_listed (with_item before item).keys j key ≡ true) (sym is) now in
          inl (subst (λ j. is_listed before.keys j key ≡ true) is (or_cases _ _ both (differ_false key item.key differ)))
    ]
    | inr other ↦ inl (sym (listed_other before.keys item.map m item.key key (λ e. other (sym e))) ∙ now)
  ]
]

len_items : (items : List Item) (before : Listed) (m : ℕ) → Within (length before.maps.contents) items → HashHolds before → Steps before items → (decl_at before.maps m).kind ≡ Hash → map.len (contents_at (with_items before items).maps m) ≡ count_of m items + map.len (contents_at before.maps m)
len_items [] before m within holds steps hash = omega arith
len_items (item ∷ items) before m within holds steps hash =
    let kept : length before.maps.contents ≡ length (with_item before item).maps.contents = sym (length-set before.maps.contents item.map _) in
    let later = len_items items (with_item before item) m (subst (λ n. Within n items) kept within.1) (hash_holds_on before item within.0 holds) steps.2 hash in
    let one = len_after before item m within.0 holds steps.0 hash in
    omega (arith, later, one)

module _ (decls : List MapDecl) (front : List (List ℕ)) (items : List Item) (lists : ListAll decls front items) (steps : Steps (unlisted decls) items) where
  abbrev mid : Listed
  mid = with_items (unlisted decls) items

  decls_are : mid.maps.decls ≡ decls
  decls_are = decls_kept items (unlisted decls)

  decl_is : (m : ℕ) → decl_at mid.maps m ≡ get_or decls m no_decl
  decl_is m = ap (λ (ds : List MapDecl). get_or ds m no_decl) decls_are

  is_there : (m : ℕ) (key : List ℕ) → is_listed mid.keys m key ≡ true → (value : List ℕ) × IsListed items m key value
  is_there m key h = elim (listed_back items (unlisted decls) m key h) [
    | inl none ↦ cc none
    | inr there ↦ there
  ]

  is_new : (m : ℕ) (key : List ℕ) → is_listed mid.keys m key ≡ false → (value : List ℕ) → ¬ IsListed items m key value
  is_new m key h value there = (let clash : true ≡ false = sym (listed_true items (unlisted decls) m key value there) ∙ h in cc)

  new_is : (m : ℕ) (key : List ℕ) → ((value : List ℕ) → ¬ IsListed items m key value) → is_listed mid.keys m key ≡ false
  new_is m key never = elim (is_listed mid.keys m key) as (λ b. is_listed mid.keys m key ≡ b → b ≡ false) [
    | true ↦ λ h. (let there = is_there m key h in absurd (never there.0 there.1))
    | false ↦ λ _. refl
  ] refl

  len_is : (m : ℕ) → m < length decls → (get_or decls m no_decl).kind ≡ Hash → map.len (contents_at mid.maps m) ≡ count_of m items
  len_is m lt hash =
      let len = len_items items (unlisted decls) m (within_first decls front items lists) (none_first decls) steps hash in
      omega (arith, len, len_none decls m lt hash)

  full_hash : (k : MapKind) (cap : ℕ) (c : Contents) → is_full_as k cap c ≡ true → (k ≡ Hash) × (cap ≤ map.len c)
  full_hash Hash cap c h = (refl, leb-true cap (map.len c) h)
  full_hash Array cap c h = cc

  -- ---- a line that stops is bad

  module _ (at : ℕ) (line : List ℕ) where
    fails_put : (e : Entry) (m : ℕ) (fault : MapsError) (fit new full : Bool) → entry_in line ≡ Some e → map_named e.name decls ≡ Some m → fits (get_or decls m no_decl) e ≡ fit → is_listed mid.keys m e.key ≡ new
        → is_full_as (get_or decls m no_decl).kind (get_or decls m no_decl).cap (contents_at mid.maps m) ≡ full
        → (if fit then (if new then Err (Twice at) else if full then Err (Full at) else Ok (listed_with mid m e.key e.value)) else Err (Length at)) ≡ Err fault → Fails decls items at line fault
    fails_put e m fault false new full is named f w l h = subst (Fails decls items at line) (err_is (Length at) fault h) (refl, e, m, is, named, f)
    fails_put e m fault true true full is named f w l h =
        let there = is_there m e.key w in
        subst (Fails decls items at line) (err_is (Twice at) fault h) (refl, record { map = m; key = e.key; value = e.value }, record { name = e.name; is_entry = is; is_map = named; can = f }, there.0, there.1)
    fails_put e m fault true false true is named f w l h =
        let full = full_hash (get_or decls m no_decl).kind (get_or decls m no_decl).cap (contents_at mid.maps m) l in
        let len = len_is m (named_within e.name decls m named) full.0 in
        subst (Fails decls items at line) (err_is (Full at) fault h) (refl, record { map = m; key = e.key; value = e.value }, record { name = e.name; is_entry = is; is_map = named; can = f }, is_new m e.key w, full.0, omega (arith, full.1, len))
    fails_put e m fault true false false is named f w l h = cc

    fails_named : (e : Entry) (o : Option ℕ) (fault : MapsError) → entry_in line ≡ Some e → map_named e.name decls ≡ o → put_named at mid e o ≡ Err fault → Fails decls items at line fault
    fails_named e None fault is named h = subst (Fails decls items at line) (err_is (Unknown at) fault h) (refl, e, is, named)
    fails_named e (Some m) fault is named h =
        fails_put e m fault _ _ _ is named (ap (λ (d : MapDecl). fits d e) (sym (decl_is m))) refl (ap (λ (d : MapDecl). is_full_as d.kind d.cap (contents_at mid.maps m)) (sym (decl_is m))) h

    fails_entry : (o : Option Entry) (fault : MapsError) → entry_in line ≡ o → put_line at mid o ≡ Err fault → Fails decls items at line fault
    fails_entry None fault is h = subst (Fails decls items at line) (err_is (Line at) fault h) (refl, is)
    fails_entry (Some e) fault is h = fails_named e (map_named e.name mid.maps.decls) fault is (ap (map_named e.name) (sym decls_are)) h

    pub stopped_fails : (fault : MapsError) → line_read at mid line ≡ Err fault → Fails decls items at line fault
    unfolding line_read
    stopped_fails fault h = fails_entry (entry_in line) fault refl h

    -- ---- and a bad line stops

    by_entry : (e : Entry) (m : ℕ) → entry_in line ≡ Some e → map_named e.name decls ≡ Some m → line_read at mid line ≡ put_in at mid m e
    unfolding line_read
    by_entry e m is named = ap (put_line at mid) is ∙ ap (put_named at mid e) (ap (map_named e.name) decls_are ∙ named)

    pub fails_stopped : (fault : MapsError) → Fails decls items at line fault → line_read at mid line ≡ Err fault
    unfolding line_read
    fails_stopped (Line n) f = ap (put_line at mid) f.1 ∙ ap (λ k. Err (Line k)) (sym f.0)
    fails_stopped (Unknown n) f = ap (put_line at mid) f.2 ∙ ap (put_named at mid f.1) (ap (map_named f.1.name) decls_are ∙ f.3) ∙ ap (λ k. Err (Unknown k)) (sym f.0)
    fails_stopped (Length n) f =
        let misfit : fits (decl_at mid.maps f.2) f.1 ≡ false = ap (λ (d : MapDecl). fits d f.1) (decl_is f.2) ∙ f.5 in
        let put : put_in at mid f.2 f.1 ≡ Err (Length at) = rw misfit refl in
        by_entry f.1 f.2 f.3 f.4 ∙ put ∙ ap (λ k. Err (Length k)) (sym f.0)
    fails_stopped (Twice n) f =
        let e : Entry = record { name = f.2.name; key = f.1.key; value = f.1.value } in
        let fit : fits (decl_at mid.maps f.1.map) e ≡ true = ap (λ (d : MapDecl). fits d e) (decl_is f.1.map) ∙ f.2.can in
        let there : is_listed mid.keys f.1.map f.1.key ≡ true = listed_true items (unlisted decls) f.1.map f.1.key f.3 f.4 in
        let put : put_in at mid f.1.map e ≡ Err (Twice at) = rw (fit, there) refl in
        by_entry e f.1.map f.2.is_entry f.2.is_map ∙ put ∙ ap (λ k. Err (Twice k)) (sym f.0)
    fails_stopped (Full n) f =
        let e : Entry = record { name = f.2.name; key = f.1.key; value = f.1.value } in
        let m = f.1.map in
        let fit : fits (decl_at mid.maps m) e ≡ true = ap (λ (d : MapDecl). fits d e) (decl_is m) ∙ f.2.can in
        let new : is_listed mid.keys m f.1.key ≡ false = new_is m f.1.key f.3 in
        let len = len_is m (named_within f.2.name decls m f.2.is_map) f.4 in
        let le : nat_le (get_or decls m no_decl).cap (map.len (contents_at mid.maps m)) ≡ true = le-leb (get_or decls m no_decl).cap (map.len (contents_at mid.maps m)) (omega (arith, len, f.5)) in
        let full : is_full_as (decl_at mid.maps m).kind (decl_at mid.maps m).cap (contents_at mid.maps m) ≡ true =
        ap (λ (d : MapDecl). is_full_as d.kind d.cap (contents_at mid.maps m)) (decl_is m) ∙ ap (λ k. is_full_as k (get_or decls m no_decl).cap (contents_at mid.maps m)) f.4 ∙ le in
        let put : put_in at mid m e ≡ Err (Full at) = rw (fit, new, full) refl in
        by_entry e m f.2.is_entry f.2.is_map ∙ put ∙ ap (λ k. Err (Full k)) (sym f.0)
    fails_stopped NoMemory f = absurd f

-- ---- the whole

read_front : (n : ℕ) (before : Listed) (front : List (List ℕ)) (items : List Item) (more : List (List ℕ)) → ListAll before.maps.decls front items → Steps before items → read_from n before (front ++ more) ≡ read_from (n + length front) (with_items before items) more
unfolding read_from
read_front n before [] [] more lists steps = let none : n ≡ n + 0 = omega arith in ap (λ k. read_from k before more) none
read_front n before (line ∷ front) (item ∷ items) more lists steps =
    let place : n + 1 + length front ≡ n + suc (length front) = omega arith in
    ap (λ (r : Result Listed MapsError). and_then r (λ after. read_from (n + 1) after (front ++ more))) (line_of n before line item lists.0 steps.0 steps.1)
    ∙ read_front (n + 1) (with_item before item) front items more lists.1 steps.2
    ∙ ap (λ k. read_from k (with_items (with_item before item) items) more) place
read_front n before [] (item ∷ items) more lists steps = absurd lists
read_front n before (line ∷ front) [] more lists steps = absurd lists

bad_by : (decls : List MapDecl) (text : List ℕ) (r : Result Listed MapsError) (e : MapsError) → read_from 1 (unlisted decls) (lines_of text) ≡ r → and_then r (λ all. Ok all.maps) ≡ Err e → IsFirstBad decls text e
bad_by decls text (Ok after) e is h = cc
bad_by decls text (Err f) e is h =
    let s = stop_of 1 (unlisted decls) (lines_of text) e (is ∙ ap Err (err_is f e h)) in
    record {
      before = s.front;
      line = s.line;
      behind = s.behind;
      lines = s.whole;
      items = s.items;
      good = are_good decls s.front s.items s.lists s.steps;
      fails = stopped_fails decls s.front s.items s.lists s.steps (1 + length s.front) s.line e s.fails;
    }

pub outcome-bad : (decls : List MapDecl) (text : List ℕ) (e : MapsError) → outcome decls text ≡ Err e → IsFirstBad decls text e
unfolding outcome
outcome-bad decls text e h = bad_by decls text (read_from 1 (unlisted decls) (lines_of text)) e refl h

pub bad-outcome : (decls : List MapDecl) (text : List ℕ) (e : MapsError) → IsFirstBad decls text e → outcome decls text ≡ Err e
unfolding outcome read_from
bad-outcome decls text e b =
    let steps = good_steps decls b.before b.items b.good in
    let stop = fails_stopped decls b.before b.items b.good.lists steps (1 + length b.before) b.line e b.fails in
    let all : read_from 1 (unlisted decls) (lines_of text) ≡ Err e =
    ap (read_from 1 (unlisted decls)) b.lines ∙ read_front 1 (unlisted decls) b.before b.items (b.line ∷ b.behind) b.good.lists steps
    ∙ ap (λ (r : Result Listed MapsError). and_then r (λ after. read_from (1 + length b.before + 1) after b.behind)) stop in
    ap (λ (r : Result Listed MapsError). and_then r (λ all. Ok all.maps)) all

gives_cases : (e : MapsError) (read : Result MapState MapsError) → Gives (Err e) read → (e ≡ NoMemory) ⊎ (Err e ≡ read)
gives_cases NoMemory read h = inl refl
gives_cases (Line n) read h = inr h
gives_cases (Unknown n) read h = inr h
gives_cases (Length n) read h = inr h
gives_cases (Twice n) read h = inr h
gives_cases (Full n) read h = inr h

fault_by : (decls : List MapDecl) (text : List ℕ) (e : MapsError) → ((e ≡ NoMemory) ⊎ (Err e ≡ outcome decls text)) → (e ≡ NoMemory) ⊎ IsFirstBad decls text e
fault_by decls text e (inl none) = inl none
fault_by decls text e (inr is) = inr (outcome-bad decls text e (sym is))

-- a fault that is answered, but for want of memory, is that of the first bad line
pub gives_fault : (decls : List MapDecl) (text : List ℕ) (result : Result MapState MapsError) → Gives result (outcome decls text) → IfErr result (λ e. (e ≡ NoMemory) ⊎ IsFirstBad decls text e)
gives_fault decls text (Ok s) h = tt
gives_fault decls text (Err e) h = fault_by decls text e (gives_cases e (outcome decls text) h)
