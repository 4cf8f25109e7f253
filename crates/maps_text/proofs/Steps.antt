-- A line is taken as reading says.
use Rattle.std.proofs.Common.{◌≡◌, ℕ, ◌<◌, ◌≤◌, Bool, true, false, List, length, get_or, set, Fits, w8, Option, Some, None, Result, Ok, Err, OnOk, refl, sym, ap, subst, ◌∙◌, arith}
use Rattle.std.specs.Prelude.{if◌then◌else◌, nat_le}
use Rattle.std.specs.FinMap as map
use Rattle.std.proofs.lemmas.Bool.{ltb-true}
use Rattle.std.proofs.lemmas.List.Elements.{All-from_get_or}
use Rattle.xdp_maps.specs.declared.decl.MapKind.TheVariants.{Hash, Array}
use Rattle.xdp_maps.specs.declared.decl.MapDecl.{MapDecl}
use Rattle.xdp_maps.specs.Contents.{IsBytes, IsWithinLimits, limits_as, index_of}
use Rattle.xdp_maps.specs.State.{MapState, IsSound, decl_at, contents_at}
use Rattle.xdp_maps.specs.Laws.{IndexLaws}
use Rattle.maps_text.specs.declared.error.MapsError.{MapsError}
use Rattle.maps_text.specs.declared.error.MapsError.TheVariants.{Line, Unknown, Length, Twice, Full, NoMemory}
use Rattle.maps_text.specs.declared.fields.Fields.{Fields}
use Rattle.maps_text.specs.Lines.{entry_in}
use Rattle.maps_text.specs.Reading.{Gives, Listed, is_listed, is_full_as, has_key_as, fits, map_named, with_pair, listed_with, placed, put_in, put_named, put_line, line_read}
use Rattle.maps_text.specs.Steps.{FindsEntry, Marks, Takes, place_of, told, hash_result, array_result}
use Rattle.maps_text.proofs.Marking.{marks_with_hash, marks_with_array}

-- what becomes of a key by the two tests
placed_by : (n : ℕ) (before : Listed) (m : ℕ) (key value : List ℕ) (present full : Bool) → is_listed before.keys m key ≡ present → is_full_as (decl_at before.maps m).kind (decl_at before.maps m).cap (contents_at before.maps m) ≡ full
    → placed n before m key value ≡ (if present then Err (Twice n) else if full then Err (Full n) else Ok (listed_with before m key value))
placed_by n before m key value present full p f = rw (p, f) refl

takes_by : (n : ℕ) (result : Result (Unit {0}) MapsError) (maps : MapState) (marks : List Bool) (listed : Listed) (read : Result Listed MapsError) (present full : Bool)
    → result ≡ told n present full → read ≡ (if present then Err (Twice n) else if full then Err (Full n) else Ok listed)
    → (result ≡ Ok tt → (listed.maps ≡ maps) × Marks marks listed) → Takes result maps marks read
takes_by n result maps marks listed read true full is r h = rw is r
takes_by n result maps marks listed read false true is r h = rw is r
takes_by n result maps marks listed read false false is r h = let ok = h is in rw is (listed, r, ok.0, ok.1)

-- a fact of a success
on_ok : (result : Result (Unit {0}) MapsError) (P : Type 0) → OnOk result P → result ≡ Ok tt → P
on_ok (Ok done) P h is = h
on_ok (Err e) P h is = cc

pub hash_takes : (n m : ℕ) (key value : List ℕ) (before : Listed) (marks : List Bool) (result : Result (Unit {0}) MapsError) (maps : MapState)
    → m < length before.maps.decls → length before.maps.contents ≡ length before.maps.decls → (decl_at before.maps m).kind ≡ Hash → Marks marks before
    → result ≡ hash_result n (decl_at before.maps m).cap (contents_at before.maps m) key → OnOk result (maps ≡ with_pair before.maps m key value)
    → Takes result maps marks (placed n before m key value)
hash_takes n m key value before marks result maps lt beside hash known is ok =
    let present = map.contains_key (contents_at before.maps m) key in
    let full = nat_le (decl_at before.maps m).cap (map.len (contents_at before.maps m)) in
    takes_by n result maps marks (listed_with before m key value) (placed n before m key value) present full is
    (placed_by n before m key value present full (sym (known.hash m key lt hash)) (ap (λ k. is_full_as k (decl_at before.maps m).cap (contents_at before.maps m)) hash))
    (λ done. (sym (on_ok result _ ok done), marks_with_hash marks before m key value known lt beside hash))

pub array_takes : (n m : ℕ) (key value : List ℕ) (before : Listed) (marks after : List Bool) (result : Result (Unit {0}) MapsError) (maps : MapState) → IndexLaws
    → m < length before.maps.decls → length before.maps.contents ≡ length before.maps.decls → (decl_at before.maps m).kind ≡ Array → IsBytes 4 key → index_of key < 65536 → Marks marks before
    → result ≡ array_result n (get_or marks (place_of m key) false) → OnOk result (maps ≡ with_pair before.maps m key value) → OnOk result (after ≡ set marks (place_of m key) true)
    → Takes result maps after (placed n before m key value)
array_takes n m key value before marks after result maps laws lt beside array four small known is ok marked =
    let present = get_or marks (place_of m key) false in
    takes_by n result maps after (listed_with before m key value) (placed n before m key value) present false is
    (placed_by n before m key value present false (sym (known.array m key lt array four small)) (ap (λ k. is_full_as k (decl_at before.maps m).cap (contents_at before.maps m)) array))
    (λ done. (
      sym (on_ok result _ ok done),
      subst (λ ms. Marks ms (listed_with before m key value)) (sym (on_ok result _ marked done)) (marks_with_array marks before m key value known lt beside laws array four small),
    ))

-- a fault of a line is what is answered
pub gives_err : (e : MapsError) (read : Result MapState MapsError) → read ≡ Err e → Gives (Err e) read
gives_err (Line n) read is = sym is
gives_err (Unknown n) read is = sym is
gives_err (Length n) read is = sym is
gives_err (Twice n) read is = sym is
gives_err (Full n) read is = sym is
gives_err NoMemory read is = tt

-- ---- the same, said of the maps

bytes_of_key : (key : List ℕ) → ((i : ℕ) → Fits w8 (get_or key i 0)) → length key ≡ 4 → IsBytes 4 key
bytes_of_key key fit four = record { len = four; bytes_fit = All-from_get_or (λ b. b < 256) key 0 (λ i within. omega (arith, fit i)) }

pub hash_put : (n m : ℕ) (key value : List ℕ) (s : MapState) (marks : List Bool) (result : Result (Unit {0}) MapsError) (maps : MapState)
    → IsSound s → m < length s.decls → (decl_at s m).kind ≡ Hash → result ≡ hash_result n (decl_at s m).cap (contents_at s m) key → OnOk result (maps ≡ with_pair s m key value)
    → (before : Listed) → before.maps ≡ s → Marks marks before → Takes result maps marks (placed n before m key value)
hash_put n m key value s marks result maps sound lt hash is ok before same known =
    let there : (IsSound before.maps → m < length before.maps.decls → (decl_at before.maps m).kind ≡ Hash → result ≡ hash_result n (decl_at before.maps m).cap (contents_at before.maps m) key → OnOk result (maps ≡ with_pair before.maps m key value) → Takes result maps marks (placed n before m key value)) =
    λ sound lt hash is ok. hash_takes n m key value before marks result maps lt sound.beside hash known is ok in
    subst (λ (t : MapState). IsSound t → m < length t.decls → (decl_at t m).kind ≡ Hash → result ≡ hash_result n (decl_at t m).cap (contents_at t m) key → OnOk result (maps ≡ with_pair t m key value) → Takes result maps marks (placed n before m key value)) same there sound lt hash is ok

pub array_put : (n m : ℕ) (key value : List ℕ) (s : MapState) (marks after : List Bool) (result : Result (Unit {0}) MapsError) (maps : MapState)
    → IndexLaws → ((i : ℕ) → Fits w8 (get_or key i 0)) → length key ≡ 4 → index_of key < 65536
    → IsSound s → m < length s.decls → (decl_at s m).kind ≡ Array → result ≡ array_result n (get_or marks (place_of m key) false) → OnOk result (maps ≡ with_pair s m key value) → OnOk result (after ≡ set marks (place_of m key) true)
    → (before : Listed) → before.maps ≡ s → Marks marks before → Takes result maps after (placed n before m key value)
array_put n m key value s marks after result maps laws fit four small sound lt array is ok marked before same known =
    let there : (IsSound before.maps → m < length before.maps.decls → (decl_at before.maps m).kind ≡ Array → OnOk result (maps ≡ with_pair before.maps m key value) → Takes result maps after (placed n before m key value)) =
    λ sound lt array ok. array_takes n m key value before marks after result maps laws lt sound.beside array (bytes_of_key key fit four) small known is ok marked in
    subst (λ (t : MapState). IsSound t → m < length t.decls → (decl_at t m).kind ≡ Array → OnOk result (maps ≡ with_pair t m key value) → Takes result maps after (placed n before m key value)) same there sound lt array ok

-- the limits of an array
pub array_limits : (d : MapDecl) → IsWithinLimits d → d.kind ≡ Array → (d.key ≡ 4) × (d.cap ≤ 65536)
array_limits d limits array = subst (λ k. limits_as k d) array limits.by_kind

pub array_inside : (d : MapDecl) (key : List ℕ) → d.kind ≡ Array → has_key_as d.kind d.cap key ≡ true → index_of key < d.cap
array_inside d key array can = ltb-true (index_of key) d.cap (subst (λ k. has_key_as k d.cap key ≡ true) array can)

-- ---- what is read of a line

pub no_entry : (n : ℕ) (before : Listed) (line : List ℕ) → entry_in line ≡ None → line_read n before line ≡ Err (Line n)
unfolding line_read
no_entry n before line none = ap (put_line n before) none

line_at : (n : ℕ) (before : Listed) (line : List ℕ) (fields : Fields) (s : MapState) (found : FindsEntry line fields) (o : Option ℕ) → before.maps ≡ s → o ≡ map_named fields.name.now s.decls → line_read n before line ≡ put_named n before found.entry o
unfolding line_read
line_at n before line fields s found o same named =
    let name : map_named found.entry.name before.maps.decls ≡ o = ap (λ (x : List ℕ). map_named x before.maps.decls) (sym found.written.name) ∙ ap (λ (t : MapState). map_named fields.name.now t.decls) same ∙ sym named in
    ap (put_line n before) found.found ∙ ap (put_named n before found.entry) name

pub no_map : (n : ℕ) (before : Listed) (line : List ℕ) (fields : Fields) (s : MapState) (found : FindsEntry line fields) → before.maps ≡ s → None ≡ map_named fields.name.now s.decls → line_read n before line ≡ Err (Unknown n)
no_map n before line fields s found same none = line_at n before line fields s found None same none

pub no_fit : (n : ℕ) (before : Listed) (line : List ℕ) (fields : Fields) (s : MapState) (found : FindsEntry line fields) (m : ℕ) → before.maps ≡ s → Some m ≡ map_named fields.name.now s.decls → fits (decl_at s m) found.entry ≡ false → line_read n before line ≡ Err (Length n)
no_fit n before line fields s found m same named misfit =
    let fit : fits (decl_at before.maps m) found.entry ≡ false = ap (λ (t : MapState). fits (decl_at t m) found.entry) same ∙ misfit in
    line_at n before line fields s found (Some m) same named ∙ rw fit refl

pub is_placed : (n : ℕ) (before : Listed) (line : List ℕ) (fields : Fields) (s : MapState) (found : FindsEntry line fields) (m : ℕ) (key value : List ℕ) → before.maps ≡ s → Some m ≡ map_named fields.name.now s.decls → fits (decl_at s m) found.entry ≡ true → key ≡ found.entry.key → value ≡ found.entry.value
    → line_read n before line ≡ placed n before m key value
is_placed n before line fields s found m key value same named fit k v =
    let yes : fits (decl_at before.maps m) found.entry ≡ true = ap (λ (t : MapState). fits (decl_at t m) found.entry) same ∙ fit in
    let there : put_in n before m found.entry ≡ placed n before m found.entry.key found.entry.value = rw yes refl in
    line_at n before line fields s found (Some m) same named ∙ there ∙ ap (λ (x : List ℕ). placed n before m x found.entry.value) (sym k) ∙ ap (placed n before m key) (sym v)

pub takes_along : (result : Result (Unit {0}) MapsError) (maps : MapState) (marks : List Bool) (read other : Result Listed MapsError) → other ≡ read → Takes result maps marks read → Takes result maps marks other
takes_along result maps marks read other is h = subst (Takes result maps marks) (sym is) h
