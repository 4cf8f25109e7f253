-- The words of a load.
use Rattle.std.specs.Prelude.{unwrap_or, slice_get, replicate}
use Rattle.std.proofs.Common.{◌≡◌, ℕ, zero, suc, ◌+◌, ◌-◌, ◌<◌, ◌≤◌, Option, Some, None, List, [], ◌∷◌, ◌++◌, length, map, take, drop, get_or, refl, sym, ap, ◌∙◌, subst, arith, length-append, MatchOption, IfSome, Bor}
use Rattle.std.proofs.lemmas.List.{length-map, length-replicate, get_or-replicate, get_or-append_right, get_or-map, at_drop_more, at_drop_all, get_or_default}
use Rattle.std.proofs.lemmas.List.FromFn.{length-map-range_with_len, get_or-map-range_with_len}
use Rattle.std.proofs.Math.ListN.{get_or-append}
use Rattle.std.proofs.lemmas.Option.{get_or_from_slice_get}
use Rattle.std.specs.Option.{option_map, option_copied}
use Rattle.std.specs.FinMap as finite
use Rattle.std.specs.FinMap.{len-entries}
use Rattle.beat_core.specs.Words.{word_of}
use Rattle.beat_core.proofs.BeatLaws.{beats_of-step, beats_of-nil}
use Rattle.net_core.specs.declared.ports.Inputs.{Inputs}
use Rattle.xdp_maps.specs.declared.decl.MapKind.{MapKind}
use Rattle.xdp_maps.specs.declared.decl.MapKind.TheVariants.{Hash, Array}
use Rattle.xdp_maps.specs.declared.decl.MapDecl.{MapDecl}
use Rattle.xdp_maps.specs.Contents.{Contents, IsOver, IsFilled_as, IsBytes, IsWithinLimits, index_key}
use Rattle.xdp_maps.specs.Calls.{entry_as, entry_of}
use Rattle.xdp_maps.specs.State.{MapState, no_decl, decl_at, contents_at}
use Rattle.realization.specs.HostHistory.Rows.{words_of, slot_of, rows_as, rows_of}
use Rattle.realization.specs.HostHistory.Host.{row_writes, map_writes, writes, written}
use Rattle.port_drive.specs.Reading.{row_with}

-- ---- the words of bytes
pub words-nil : (xs : List ℕ) → xs ≡ [] → words_of xs ≡ []
words-nil xs e = ap words_of e ∙ ap (map (λ b. b.word)) beats_of-nil

pub words-step : (xs : List ℕ) → 0 < length xs → words_of xs ≡ word_of (take 8 xs) ∷ words_of (drop 8 xs)
words-step xs some = ap (map (λ b. b.word)) (beats_of-step xs some)

-- the clocks of the first word that is left, and those of the others
pub writes-step : (m index word word' first : ℕ) (xs rest : List ℕ) → 0 < length xs → first ≡ word_of (take 8 xs) → rest ≡ drop 8 xs → word' ≡ word + 1
    → row_writes m index word (words_of xs) ≡ (written m index word first ∷ []) ++ row_writes m index word' (words_of rest)
writes-step m index word word' first xs rest some is left next =
    ap (row_writes m index word) (words-step xs some) ∙ ap (λ w. written m index word w ∷ row_writes m index (word + 1) (words_of (drop 8 xs))) (sym is)
    ∙ ap (λ l. written m index word first ∷ row_writes m index (word + 1) (words_of l)) (sym left) ∙ ap (λ w. written m index word first ∷ row_writes m index w (words_of rest)) (sym next)

-- ---- the words under an index
pub row_writes-append : (m index word word' : ℕ) (a b : List ℕ) → word + length a ≡ word' → row_writes m index word (a ++ b) ≡ row_writes m index word a ++ row_writes m index word' b
row_writes-append m index word word' [] b e = ap (λ w. row_writes m index w b) (omega arith)
row_writes-append m index word word' (w ∷ a) b e = ap (λ (l : List Inputs). written m index word w ∷ l) (row_writes-append m index (word + 1) word' a b (omega arith))

-- ---- the rows of a map
pub length-rows : (kind : MapKind) (d : MapDecl) (c : Contents) → IsFilled_as kind d c → length (rows_as kind d c) ≡ d.cap
length-rows Hash d c filled =
    let unused : List ℕ = 0 ∷ [] in
    omega (arith, length-append (map slot_of (finite.entries c)) (replicate (d.cap - finite.len c) unused), length-map (finite.entries c) slot_of, length-replicate (d.cap - finite.len c) unused, len-entries c)
length-rows Array d c filled = length-map-range_with_len _ 0 d.cap

-- the pair with a number, of which value is what stands under its key, if there is one
abbrev pub IsPair : MapKind → Contents → ℕ → List ℕ → Option (List ℕ) → Type 0
IsPair kind c index key value = entry_as kind c index ≡ option_map {U = List ℕ × List ℕ} (λ v. (key, v)) value

not_inside : {X : Type 0} (xs : List X) (i : ℕ) → slice_get xs i ≡ None → length xs ≤ i
not_inside [] i e = omega arith
not_inside (x ∷ xs) zero e = absurd (some_none x e)
  where
    some_none : {X : Type 0} (x : X) → Some x ≡ None → ⊥
    some_none x e = cc
not_inside (x ∷ xs) (suc i) e = let rest = not_inside xs i e in omega arith

inside : {X : Type 0} (xs : List X) (i : ℕ) (x : X) → slice_get xs i ≡ Some x → i < length xs
inside [] i x e = absurd (none_some x e)
  where
    none_some : {X : Type 0} (x : X) → None ≡ Some x → ⊥
    none_some x e = cc
inside (y ∷ xs) zero x e = omega arith
inside (y ∷ xs) (suc i) x e = let rest = inside xs i x e in omega arith

-- the row under an index says that pair
hash_row : (d : MapDecl) (c : Contents) (index : ℕ) (key : List ℕ) (value : Option (List ℕ)) → finite.len c ≤ d.cap → index < d.cap → IsPair Hash c index key value → get_or (rows_as Hash d c) index [] ≡ row_with Hash key value
hash_row d c index key None filled lt pair =
    let es = finite.entries c in
    let past : length es ≤ index = not_inside es index pair in
    get_or-append_right (map slot_of es) (replicate (d.cap - finite.len c) (0 ∷ [])) (length es) index [] (length-map es slot_of) past
    ∙ get_or-replicate (d.cap - finite.len c) (index - length es) (0 ∷ []) [] (omega (arith, len-entries c))
hash_row d c index key (Some v) filled lt pair =
    let es = finite.entries c in
    let within : index < length es = inside es index (key, v) pair in
    get_or-append (map slot_of es) (replicate (d.cap - finite.len c) (0 ∷ [])) [] index (omega (arith, length-map es slot_of, within))
    ∙ get_or-map slot_of es index (key, v) [] within
    ∙ ap slot_of (get_or_from_slice_get es index (key, v) (key, v) pair)

array_row : (index : ℕ) (key : List ℕ) (o value : Option (List ℕ)) → option_map {U = List ℕ × List ℕ} (λ v. (index_key index, v)) o ≡ option_map {U = List ℕ × List ℕ} (λ v. (key, v)) value → words_of (unwrap_or o []) ≡ row_with Array key value
array_row index key None None pair = words-nil [] refl
array_row index key None (Some v) pair = absurd (none_some (key, v) pair)
  where
    none_some : (x : List ℕ × List ℕ) → None ≡ Some x → ⊥
    none_some x e = cc
array_row index key (Some w) None pair = absurd (some_none (index_key index, w) pair)
  where
    some_none : (x : List ℕ × List ℕ) → Some x ≡ None → ⊥
    some_none x e = cc
array_row index key (Some w) (Some v) pair = ap words_of (ap (λ (o : Option (List ℕ × List ℕ)). (unwrap_or o (key, v)).1) pair)

pub row_at : (kind : MapKind) (d : MapDecl) (c : Contents) (index : ℕ) (key : List ℕ) (value : Option (List ℕ)) → IsFilled_as kind d c → index < d.cap → IsPair kind c index key value → get_or (rows_as kind d c) index [] ≡ row_with kind key value
row_at Hash d c index key value filled lt pair = hash_row d c index key value filled lt pair
row_at Array d c index key value filled lt pair =
    get_or-map-range_with_len (λ i. words_of (unwrap_or (finite.get c (index_key i)) [])) 0 d.cap index index [] lt (omega arith)
    ∙ array_row index key (finite.get c (index_key index)) value pair

-- ---- the clocks that are left
pub row-step : (m index : ℕ) (rows : List (List ℕ)) (row : List ℕ) → index < length rows → get_or rows index [] ≡ row → map_writes m index (drop index rows) ≡ row_writes m index 0 row ++ map_writes m (index + 1) (drop (index + 1) rows)
row-step m index rows row lt is =
    at_drop_more (map_writes m index) rows index [] lt ∙ ap (λ r. row_writes m index 0 r ++ map_writes m (index + 1) (drop (index + 1) rows)) is

pub rows-end : (m index : ℕ) (rows : List (List ℕ)) → length rows ≤ index → map_writes m index (drop index rows) ≡ []
rows-end m index rows le = at_drop_all (map_writes m index) rows index le

pub map-step : (s : MapState) (m : ℕ) → m < length s.decls → length s.contents ≡ length s.decls
    → writes m (drop m s.decls) (drop m s.contents) ≡ map_writes m 0 (rows_of (decl_at s m) (contents_at s m)) ++ writes (m + 1) (drop (m + 1) s.decls) (drop (m + 1) s.contents)
map-step s m lt beside =
    at_drop_more (λ ds. writes m ds (drop m s.contents)) s.decls m no_decl lt
    ∙ at_drop_more (λ cs. writes m (decl_at s m ∷ drop (m + 1) s.decls) cs) s.contents m finite.empty (omega arith)

-- ---- what is read of a map
pub decl_read : (s : MapState) (decls : List MapDecl) (m : ℕ) (d : MapDecl) → decls ≡ s.decls → m < length s.decls → d ≡ get_or decls m d → d ≡ decl_at s m
decl_read s decls m d same lt is = is ∙ ap (λ ds. get_or ds m d) same ∙ get_or_default s.decls m d no_decl lt

-- a call that gives the pair with a number, or none
pub pair_is : (kind : MapKind) (c : Contents) (index : ℕ) (key : List ℕ) (o : Option (Bor (List ℕ))) → MatchOption o (entry_as kind c index ≡ None) (λ v. entry_as kind c index ≡ Some (key, v.now)) → IsPair kind c index key (option_copied o)
pair_is kind c index key None h = h
pair_is kind c index key (Some v) h = h

pub row_of_pair : (d : MapDecl) (c : Contents) (index : ℕ) (key : List ℕ) (o : Option (Bor (List ℕ))) (kind : MapKind) → kind ≡ d.kind → IsFilled_as d.kind d c → index < d.cap
    → MatchOption o (entry_as d.kind c index ≡ None) (λ v. entry_as d.kind c index ≡ Some (key, v.now)) → get_or (rows_as d.kind d c) index [] ≡ row_with kind key (option_copied o)
row_of_pair d c index key o kind same filled lt h = row_at d.kind d c index key (option_copied o) filled lt (pair_is d.kind c index key o h) ∙ ap (λ k. row_with k key (option_copied o)) (sym same)

-- no value is longer than the limit
pub short_value : (d : MapDecl) (c : Contents) (index : ℕ) (key : List ℕ) (value : Option (List ℕ)) → IsWithinLimits d → IsOver d c → ((i : ℕ) (k v : List ℕ) → entry_of d c i ≡ Some (k, v) → finite.get c k ≡ Some v) → IsPair d.kind c index key value → IfSome value (λ v. length v ≤ 64)
short_value d c index key None limits over found pair = tt
short_value d c index key (Some v) limits over found pair =
    let fits : IsBytes d.value v = subst (λ o. IfSome o (IsBytes d.value)) (found index key v pair) (over.values key) in
    omega (arith, fits.len, limits.value_short)
