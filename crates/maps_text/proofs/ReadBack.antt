-- The text of maps is read line by line as what they hold.
use Rattle.std.proofs.Common.{◌≡◌, ℕ, zero, suc, ◌+◌, ◌<◌, ◌≤◌, ◌^◌, Bool, true, false, cond, List, [], ◌∷◌, ◌++◌, length, get_or, Option, Some, None, Result, Ok, slice_get, T, IfSome, is_some, refl, sym, ap, subst, ◌∙◌, inl, inr, arith, append_assoc, get_or-set_same, get_or-set_other, length-set}
use Rattle.std.specs.Prelude.{◌==◌, ◌&&◌, if◌then◌else◌}
use Rattle.std.proofs.lemmas.Bool.{and_parts, cases_eq, cases_lt, eq-eqb, lt-ltb, lt-leb}
use Rattle.std.proofs.lemmas.List.{set-set, set-get_or, ext_get_or, get_or-map, length-map, get_or_default, get_or_past}
use Rattle.std.proofs.lemmas.List.Elements.{All-get_or}
use Rattle.std.specs.Option.{option_map}
use Rattle.std.specs.Ordering.{nat_cmp, is_lt}
use Rattle.std.specs.Cmp.Lexicographic.{slice_cmp}
use Rattle.std.proofs.lemmas.Cmp.{tied_itself, nat_list_cmp_total}
use Rattle.std.specs.FinMap as map
use Rattle.std.specs.FinMap.{entries_sorted, len-insert, len-empty}
use Rattle.std.specs.FinMap.Entries.{below_all, is_sorted}
use Rattle.hex.specs.Hex as hex
use Rattle.xdp_maps.specs.declared.decl.MapKind.{MapKind}
use Rattle.xdp_maps.specs.declared.decl.MapKind.TheVariants.{Hash, Array}
use Rattle.xdp_maps.specs.declared.decl.MapDecl.{MapDecl}
use Rattle.xdp_maps.specs.Contents.{Contents, IsBytes, TakesKey_as, limits_as, index_key, index_of, opened, opened_as}
use Rattle.xdp_maps.specs.Calls.{entry_as, entry_of}
use Rattle.xdp_maps.specs.State.{MapState, IsSound, no_decl, decl_at, contents_at, with_contents}
use Rattle.xdp_maps.specs.Laws.{PairLaws, IndexLaws, KeepsOver, SameByLookups}
use Rattle.maps_text.specs.declared.error.MapsError.{MapsError}
use Rattle.maps_text.specs.Lines.{Entry, lines_of, entry_in}
use Rattle.maps_text.specs.Reading.{same, map_named, has_key_as, fits, Listed, is_listed, is_full_as, listed_with, put_in, put_named, put_line, line_read, and_then, read_from, unlisted, outcome}
use Rattle.maps_text.specs.Writing.{line_text, is_left_out, pair_text, pairs_text, all_text, text_of}
use Rattle.maps_text.specs.Laws.{IsField, AreNamed}
use Rattle.maps_text.proofs.Marking.{differ_false, listed_here, listed_other}
use Rattle.maps_text.proofs.Names.{map_named-found}
use Rattle.maps_text.proofs.Spelled.{body, lines_of-written, entry_in-written}
use Rattle.maps_text.proofs.Filled.{put_pair, filled, hash_inside, hash_room, filled_all}

-- ---- no two pairs of a map have one key

not_itself : (q : List ℕ) → is_lt (slice_cmp nat_cmp q q) ≡ true → ⊥
not_itself q h = let e : is_lt (slice_cmp nat_cmp q q) ≡ false = ap is_lt (tied_itself nat_list_cmp_total q) in let clash : true ≡ false = sym h ∙ e in cc

key_of : List ℕ → Option (List ℕ × List ℕ) → List ℕ
key_of d None = d
key_of d (Some p) = p.0

not_below : (es : List (List ℕ × List ℕ)) (q w : List ℕ) (j : ℕ) → below_all (slice_cmp nat_cmp) q es ≡ true → slice_get es j ≡ Some (q, w) → ⊥
unfolding key_of
not_below [] q w j h at = cc
not_below (e ∷ es) q w zero h at =
    let key : e.0 ≡ q = ap (key_of e.0) at in
    not_itself q (subst (λ k. is_lt (slice_cmp nat_cmp q k) ≡ true) key (and_parts _ _ h).0)
not_below (e ∷ es) q w (suc j) h at = not_below es q w j (and_parts _ _ h).1 at

apart : (es : List (List ℕ × List ℕ)) (q v w : List ℕ) (i j : ℕ) → is_sorted (slice_cmp nat_cmp) es ≡ true → i < j → slice_get es i ≡ Some (q, v) → slice_get es j ≡ Some (q, w) → ⊥
unfolding key_of
apart [] q v w i j sorted lt a b = cc
apart (e ∷ es) q v w zero zero sorted lt a b = absurd (omega arith)
apart (e ∷ es) q v w zero (suc j) sorted lt a b =
    let key : e.0 ≡ q = ap (key_of e.0) a in
    not_below es q w j (subst (λ k. below_all (slice_cmp nat_cmp) k es ≡ true) key (and_parts _ _ sorted).0) b
apart (e ∷ es) q v w (suc i) zero sorted lt a b = absurd (omega arith)
apart (e ∷ es) q v w (suc i) (suc j) sorted lt a b = apart es q v w i j (and_parts _ _ sorted).1 (omega arith) a b

sorted_true : (b : Bool) → T b → b ≡ true
sorted_true true h = refl
sorted_true false h = absurd h

indexed_key : (i : ℕ) (o : Option (List ℕ)) (q v : List ℕ) → option_map {U = List ℕ × List ℕ} (λ w. (index_key i, w)) o ≡ Some (q, v) → index_key i ≡ q
unfolding key_of
indexed_key i None q v h = cc
indexed_key i (Some w) q v h = ap (key_of q) h

pairs_apart : (k : MapKind) (c : Contents) (q v w : List ℕ) (i j : ℕ) → IndexLaws → i < j → j < 2 ^ 32 → entry_as k c i ≡ Some (q, v) → entry_as k c j ≡ Some (q, w) → ⊥
pairs_apart Hash c q v w i j laws lt small a b = apart (map.entries c) q v w i j (sorted_true _ (entries_sorted c)) lt a b
pairs_apart Array c q v w i j laws lt small a b =
    let one = indexed_key i (map.get c (index_key i)) q v a in
    let two = indexed_key j (map.get c (index_key j)) q w b in
    let e : i ≡ j = sym (laws.index_back i (omega arith)) ∙ ap index_of (one ∙ sym two) ∙ laws.index_back j small in
    omega (arith, e, lt)

-- ---- one line

has_key-true : (k : MapKind) (d : MapDecl) (key : List ℕ) → TakesKey_as k d key → has_key_as k d.cap key ≡ true
has_key-true Hash d key takes = refl
has_key-true Array d key takes = lt-ltb (index_of key) d.cap takes

bytes_at : (n : ℕ) (bytes : List ℕ) → IsBytes n bytes → hex.IsBytes bytes
bytes_at n bytes is i = elim (cases_lt i (length bytes)) [
  | inl within ↦ All-get_or (λ b. b < 256) bytes i 0 within is.bytes_fit
  | inr past ↦ (let e : get_or bytes i 0 ≡ 0 = get_or_past bytes i 0 past in omega (arith, e))
]

read_written : (n : ℕ) (before : Listed) (m : ℕ) (name key value rest : List ℕ) → IsField name → hex.IsBytes key → hex.IsBytes value → 0 < length key → 0 < length value
    → map_named name before.maps.decls ≡ Some m → fits (decl_at before.maps m) (record { name = name; key = key; value = value }) ≡ true → is_listed before.keys m key ≡ false → is_full_as (decl_at before.maps m).kind (decl_at before.maps m).cap (contents_at before.maps m) ≡ false
    → read_from n before (lines_of (line_text name key value ++ rest)) ≡ read_from (n + 1) (listed_with before m key value) (lines_of rest)
unfolding read_from line_read
read_written n before m name key value rest named k v k_some v_some is fit new room =
    let e : Entry = record { name = name; key = key; value = value } in
    let put : put_in n before m e ≡ Ok (listed_with before m key value) = rw (fit, new, room) refl in
    let line : put_line n before (entry_in (body name key value)) ≡ Ok (listed_with before m key value) = ap (put_line n before) (entry_in-written name key value named k v k_some v_some) ∙ ap (put_named n before e) is ∙ put in
    ap (read_from n before) (lines_of-written name key value named k v k_some v_some rest)
    ∙ ap (λ (r : Result Listed MapsError). and_then r (λ after. read_from (n + 1) after (lines_of rest))) line

-- ---- the pairs of one map

module _ (s : MapState) (sound : IsSound s) (named : AreNamed s.decls) (index : IndexLaws) (m : ℕ) (lt : m < length s.decls) (pairs : PairLaws (decl_at s m) (contents_at s m)) where
  own : map_named (decl_at s m).name s.decls ≡ Some m
  own = map_named-found (decl_at s m).name s.decls m lt refl (λ k d below e.
      named.own k m no_decl below lt (ap (λ (x : MapDecl). x.name) (get_or_default s.decls k no_decl d (omega (arith, below, lt))) ∙ sym e))

  field : IsField (decl_at s m).name
  field = All-get_or (λ (d : MapDecl). IsField d.name) s.decls m no_decl lt named.fields

  small : (decl_at s m).cap < 2 ^ 32
  small = cap_small (decl_at s m).kind (decl_at s m) (sound.limits m lt).by_kind where
    cap_small : (k : MapKind) (d : MapDecl) → limits_as k d → d.cap < 2 ^ 32
    cap_small Hash d h = omega (arith, h)
    cap_small Array d h = omega (arith, h.1)

  -- what is so before pair i is read
  record IsReady (i : ℕ) (before : Listed) : Type 0 where
    decls : before.maps.decls ≡ s.decls
    len : length before.maps.contents ≡ length s.decls
    fresh : (j : ℕ) (q v : List ℕ) → i ≤ j → j < (decl_at s m).cap → entry_of (decl_at s m) (contents_at s m) j ≡ Some (q, v) → is_listed before.keys m q ≡ false
    room : (decl_at s m).kind ≡ Hash → map.len (contents_at before.maps m) ≤ i

  -- what is so after pairs i, i + 1, .., n of them, are read
  record IsAfter (before : Listed) (i n : ℕ) (after : Listed) : Type 0 where
    maps : after.maps ≡ with_contents before.maps m (filled (decl_at s m) (contents_at s m) i n (contents_at before.maps m))
    others : (j : ℕ) (q : List ℕ) → (j ≡ m → ⊥) → is_listed after.keys j q ≡ is_listed before.keys j q

  same_set : (before : Listed) → length before.maps.contents ≡ length s.decls → with_contents before.maps m (contents_at before.maps m) ≡ before.maps
  same_set before len = ap (λ (cs : List Contents). record before.maps { contents = cs }) (set-get_or before.maps.contents m map.empty)

  at_new : (before : Listed) (x : Contents) → length before.maps.contents ≡ length s.decls → contents_at (with_contents before.maps m x) m ≡ x
  at_new before x len = get_or-set_same before.maps.contents m x map.empty (omega (arith, lt, len))

  len_one : (b : Bool) (n i : ℕ) → n ≤ i → cond b n (n + 1) ≤ suc i
  len_one true n i h = omega arith
  len_one false n i h = omega arith

  full_not : (k : MapKind) (cap : ℕ) (x : Contents) → (k ≡ Hash → map.len x < cap) → is_full_as k cap x ≡ false
  full_not Hash cap x h = lt-leb cap (map.len x) (h refl)
  full_not Array cap x h = refl

  decl_same : (before : Listed) → before.maps.decls ≡ s.decls → decl_at before.maps m ≡ decl_at s m
  decl_same before e = ap (λ (ds : List MapDecl). get_or ds m no_decl) e

  -- a pair that a line says
  read_pair : (n i : ℕ) (before : Listed) (key value rest : List ℕ) → i < (decl_at s m).cap → IsReady i before → entry_of (decl_at s m) (contents_at s m) i ≡ Some (key, value)
      → (read_from n before (lines_of (line_text (decl_at s m).name key value ++ rest)) ≡ read_from (n + 1) (listed_with before m key value) (lines_of rest)) × IsReady (suc i) (listed_with before m key value)
  read_pair n i before key value rest within ready is =
      let d = decl_at s m in
      let c = contents_at s m in
      let over = sound.over m lt in
      let limits = sound.limits m lt in
      let there : map.get c key ≡ Some value = pairs.found i key value is in
      let takes = over.keys key (ap is_some there) in
      let bytes : IsBytes d.value value = subst (λ o. IfSome o (IsBytes d.value)) there (over.values key) in
      let d_is = decl_same before ready.decls in
      let k_len : (length key == d.key) ≡ true = eq-eqb _ _ takes.0.len in
      let v_len : (length value == d.value) ≡ true = eq-eqb _ _ bytes.len in
      let can : has_key_as d.kind d.cap key ≡ true = has_key-true d.kind d key takes.1 in
      let e : Entry = record { name = d.name; key = key; value = value } in
      let fit : fits d e ≡ true = rw (k_len, v_len) can in
      let roomy : is_full_as d.kind d.cap (contents_at before.maps m) ≡ false = full_not d.kind d.cap (contents_at before.maps m) (λ hash. omega (arith, ready.room hash, hash_inside d c i key value hash over is, hash_room d c hash over)) in (
        read_written n before m d.name key value rest field (bytes_at d.key key takes.0) (bytes_at d.value value bytes) (omega (arith, takes.0.len, limits.key_some)) (omega (arith, bytes.len, limits.value_some))
            (ap (map_named d.name) ready.decls ∙ own) (ap (λ (x : MapDecl). fits x e) d_is ∙ fit) (ready.fresh i key value (omega arith) within is) (ap (λ (x : MapDecl). is_full_as x.kind x.cap (contents_at before.maps m)) d_is ∙ roomy),
        record {
          decls = ready.decls;
          len = length-set before.maps.contents m _ ∙ ready.len;
          fresh = λ j q v low high at.
              let other : same q key ≡ false = differ_false q key (λ same_key. pairs_apart d.kind c key value v i j index (omega (arith, low)) (omega (arith, high, small)) is (subst (λ k. entry_of d c j ≡ Some (k, v)) same_key at)) in
              listed_here before.keys m key q ∙ rw other (ready.fresh j q v (omega (arith, low)) high at);
          room = λ hash.
              let one = len_one (map.contains_key (contents_at before.maps m) key) (map.len (contents_at before.maps m)) i (ready.room hash) in
              subst (λ x. map.len x ≤ suc i) (sym (at_new before (map.insert (contents_at before.maps m) key value) ready.len)) (subst (λ l. l ≤ suc i) (sym (len-insert nat_list_cmp_total (contents_at before.maps m) key value)) one);
        },
      )

  -- a pair that no line says
  pass_pair : (i : ℕ) (before : Listed) → IsReady i before → IsReady (suc i) before
  pass_pair i before ready = record {
    decls = ready.decls;
    len = ready.len;
    fresh = λ j q v low high at. ready.fresh j q v (omega (arith, low)) high at;
    room = λ hash. omega (arith, ready.room hash);
  }

  -- what the pairs from i on give
  record Reads (n i left : ℕ) (before : Listed) (rest : List ℕ) : Type 0 where
    line : ℕ
    after : Listed
    is_after : IsAfter before i left after
    reads : read_from n before (lines_of (pairs_text (decl_at s m) (contents_at s m) i left ++ rest)) ≡ read_from line after (lines_of rest)

  -- the first of some pairs, and those after it
  module _ (left n i : ℕ) (before : Listed) (rest : List ℕ) (ready : IsReady i before) (within : i < (decl_at s m).cap) (next : (line : ℕ) (then_listed : Listed) → IsReady (suc i) then_listed → Reads line (suc i) left then_listed rest) where
    left_text : List ℕ
    left_text = pairs_text (decl_at s m) (contents_at s m) (suc i) left ++ rest

    put_there : Option (List ℕ × List ℕ) → MapState
    put_there o = with_contents before.maps m (put_pair (decl_at s m) o (contents_at before.maps m))

    go_on : (line : ℕ) (then_listed : Listed) → IsReady (suc i) then_listed → then_listed.maps ≡ put_there (entry_of (decl_at s m) (contents_at s m) i) → ((j : ℕ) (q : List ℕ) → (j ≡ m → ⊥) → is_listed then_listed.keys j q ≡ is_listed before.keys j q)
        → read_from n before (lines_of (pair_text (decl_at s m) (entry_of (decl_at s m) (contents_at s m) i) ++ left_text)) ≡ read_from line then_listed (lines_of left_text) → Reads n i (suc left) before rest
    unfolding pairs_text left_text put_there
    go_on line then_listed now maps others step =
        let d = decl_at s m in
        let c = contents_at s m in
        let y = put_pair d (entry_of d c i) (contents_at before.maps m) in
        let r = next line then_listed now in
        record {
          line = r.line;
          after = r.after;
          is_after = record {
            maps = r.is_after.maps
                ∙ ap (λ (t : MapState). with_contents t m (filled d c (suc i) left (contents_at t m))) maps
                ∙ ap (λ (x : Contents). with_contents (with_contents before.maps m y) m (filled d c (suc i) left x)) (at_new before y ready.len)
                ∙ ap (λ (cs : List Contents). record before.maps { contents = cs }) (set-set before.maps.contents m y (filled d c (suc i) left y));
            others = λ j q differ. r.is_after.others j q differ ∙ others j q differ;
          };
          reads = ap (λ (text : List ℕ). read_from n before (lines_of text)) (append_assoc (pair_text d (entry_of d c i)) (pairs_text d c (suc i) left) rest) ∙ step ∙ r.reads;
        }

    left_out : (key value : List ℕ) (b : Bool) → entry_of (decl_at s m) (contents_at s m) i ≡ Some (key, value) → is_left_out (decl_at s m).kind value ≡ b → Reads n i (suc left) before rest
    unfolding put_there
    left_out key value true is out = go_on n before (pass_pair i before ready)
        (sym (ap put_there is ∙ ap (λ (b : Bool). with_contents before.maps m (if b then contents_at before.maps m else map.insert (contents_at before.maps m) key value)) out ∙ same_set before ready.len))
        (λ j q differ. refl)
        (ap (λ (o : Option (List ℕ × List ℕ)). read_from n before (lines_of (pair_text (decl_at s m) o ++ left_text))) is ∙ ap (λ (b : Bool). read_from n before (lines_of ((if b then [] else line_text (decl_at s m).name key value) ++ left_text))) out)
    left_out key value false is out =
        let line = read_pair n i before key value left_text within ready is in
        go_on (n + 1) (listed_with before m key value) line.1
        (sym (ap put_there is ∙ ap (λ (b : Bool). with_contents before.maps m (if b then contents_at before.maps m else map.insert (contents_at before.maps m) key value)) out))
        (λ j q differ. listed_other before.keys m j key q differ)
        (ap (λ (o : Option (List ℕ × List ℕ)). read_from n before (lines_of (pair_text (decl_at s m) o ++ left_text))) is ∙ ap (λ (b : Bool). read_from n before (lines_of ((if b then [] else line_text (decl_at s m).name key value) ++ left_text))) out ∙ line.0)

    one_pair : (o : Option (List ℕ × List ℕ)) → entry_of (decl_at s m) (contents_at s m) i ≡ o → Reads n i (suc left) before rest
    unfolding put_there
    one_pair None is = go_on n before (pass_pair i before ready)
        (sym (ap put_there is ∙ same_set before ready.len))
        (λ j q differ. refl)
        (ap (λ (o : Option (List ℕ × List ℕ)). read_from n before (lines_of (pair_text (decl_at s m) o ++ left_text))) is)
    one_pair (Some p) is = left_out p.0 p.1 (is_left_out (decl_at s m).kind p.1) is refl

  read_pairs : (left n i : ℕ) (before : Listed) (rest : List ℕ) → i + left ≡ (decl_at s m).cap → IsReady i before → Reads n i left before rest
  unfolding pairs_text
  read_pairs zero n i before rest whole ready = record {
    line = n;
    after = before;
    is_after = record { maps = sym (same_set before ready.len); others = λ j q differ. refl };
    reads = refl;
  }
  read_pairs (suc left) n i before rest whole ready =
      one_pair left n i before rest ready (omega (arith, whole)) (λ line then_listed now. read_pairs left line (suc i) then_listed rest (omega (arith, whole)) now) (entry_of (decl_at s m) (contents_at s m) i) refl

-- ---- the maps

module _ (s : MapState) (sound : IsSound s) (named : AreNamed s.decls) (index : IndexLaws) (pairs : (d : MapDecl) (c : Contents) → PairLaws d c) (keeps : (d : MapDecl) (c : Contents) → KeepsOver d c) (alike : SameByLookups) where
  -- what is so before map m is read
  record IsBegun (m : ℕ) (before : Listed) : Type 0 where
    decls : before.maps.decls ≡ s.decls
    len : length before.maps.contents ≡ length s.decls
    done : (j : ℕ) → j < m → contents_at before.maps j ≡ contents_at s j
    open_still : (j : ℕ) → m ≤ j → j < length s.decls → contents_at before.maps j ≡ opened (decl_at s j)
    fresh : (j : ℕ) (q : List ℕ) → m ≤ j → is_listed before.keys j q ≡ false

  record ReadsMaps (n m left : ℕ) (before : Listed) : Type 0 where
    line : ℕ
    after : Listed
    begun : IsBegun (m + left) after
    reads : read_from n before (lines_of (all_text s m left)) ≡ read_from line after (lines_of [])

  empty_room : (k : MapKind) (d : MapDecl) → k ≡ Hash → map.len (opened_as k d) ≤ 0
  empty_room Hash d hash = (let none = len-empty (slice_cmp nat_cmp) (List ℕ) in omega (arith, none))
  empty_room Array d hash = cc

  opened_room : (d : MapDecl) → d.kind ≡ Hash → map.len (opened d) ≤ 0
  unfolding opened
  opened_room d hash = empty_room d.kind d hash

  map_filled : (m : ℕ) (lt : m < length s.decls) → filled (decl_at s m) (contents_at s m) 0 (decl_at s m).cap (opened (decl_at s m)) ≡ contents_at s m
  map_filled m lt =
      let d = decl_at s m in
      let c = contents_at s m in
      filled_all d c (pairs d c) index (sound.limits m lt) (sound.over m lt) ((keeps d c).opens (sound.limits m lt)) alike

  read_maps : (left n m : ℕ) (before : Listed) → m + left ≡ length s.decls → IsBegun m before → ReadsMaps n m left before
  unfolding all_text
  read_maps zero n m before whole begun =
      let e : m ≡ m + 0 = omega arith in
      record { line = n; after = before; begun = subst (λ k. IsBegun k before) e begun; reads = refl }
  read_maps (suc left) n m before whole begun =
      let lt : m < length s.decls = omega (arith, whole) in
      let d = decl_at s m in
      let c = contents_at s m in
      let first : contents_at before.maps m ≡ opened d = begun.open_still m (omega arith) lt in
      let r = read_pairs s sound named index m lt (pairs d c) d.cap n 0 before (all_text s (suc m) left) (omega arith) (record {
        decls = begun.decls;
        len = begun.len;
        fresh = λ j q v low high at. begun.fresh m q (omega arith);
        room = λ hash. subst (λ x. map.len x ≤ 0) (sym first) (opened_room d hash);
      }) in
      let x = filled d c 0 d.cap (contents_at before.maps m) in
      let at_j : (j : ℕ) → (j ≡ m → ⊥) → contents_at r.after.maps j ≡ contents_at before.maps j = λ j differ. ap (λ (t : MapState). contents_at t j) r.is_after.maps ∙ get_or-set_other before.maps.contents m j x map.empty differ in
      let at_m : contents_at r.after.maps m ≡ c = ap (λ (t : MapState). contents_at t m) r.is_after.maps ∙ get_or-set_same before.maps.contents m x map.empty (omega (arith, lt, begun.len)) ∙ ap (filled d c 0 d.cap) first ∙ map_filled m lt in
      let later = read_maps left r.line (suc m) r.after (omega (arith, whole)) (record {
        decls = ap (λ (t : MapState). t.decls) r.is_after.maps ∙ begun.decls;
        len = ap (λ (t : MapState). length t.contents) r.is_after.maps ∙ length-set before.maps.contents m x ∙ begun.len;
        done = λ j below. elim (cases_eq j m) [
          | inl is ↦ (let P : ℕ → Type 0 = λ k. contents_at r.after.maps k ≡ contents_at s k in subst P (sym is) at_m)
          | inr differ ↦ at_j j differ ∙ begun.done j (omega (arith, below, differ))
        ];
        open_still = λ j above within. at_j j (λ e. omega (arith, above, e)) ∙ begun.open_still j (omega (arith, above)) within;
        fresh = λ j q above. r.is_after.others j q (λ e. omega (arith, above, e)) ∙ begun.fresh j q (omega (arith, above));
      }) in
      let e : suc m + left ≡ m + suc left = omega arith in
      record { line = later.line; after = later.after; begun = subst (λ k. IsBegun k later.after) e later.begun; reads = r.reads ∙ later.reads }

  begun_first : IsBegun 0 (unlisted s.decls)
  begun_first = record {
    decls = refl;
    len = length-map s.decls opened;
    done = λ j below. absurd (omega (arith, below));
    open_still = λ j above within. get_or-map opened s.decls j no_decl map.empty within;
    fresh = λ j q above. refl;
  }

  all_done : (t : MapState) → t.decls ≡ s.decls → t.contents ≡ s.contents → t ≡ s
  all_done t ds cs =
      ap (λ (x : List MapDecl). let r : MapState = record { decls = x; contents = t.contents } in r) ds ∙ ap (λ (x : List Contents). let r : MapState = record { decls = s.decls; contents = x } in r) cs

  pub read_back : outcome s.decls (text_of s) ≡ Ok s
  unfolding outcome text_of read_from lines_of
  read_back =
      let r = read_maps (length s.decls) 1 0 (unlisted s.decls) (omega arith) begun_first in
      let b = r.begun in
      let same_contents : r.after.maps.contents ≡ s.contents = ext_get_or map.empty r.after.maps.contents s.contents (b.len ∙ sym sound.beside) (λ j within. b.done j (omega (arith, within, b.len))) in
      ap (λ (x : Result Listed MapsError). and_then x (λ all. Ok all.maps)) r.reads ∙ ap Ok (all_done r.after.maps b.decls same_contents)
