-- What a text of maps says, or its first bad line by the first check that this line fails.
use Rattle.std.specs.Prelude.{◌≡◌, ℕ, ◌+◌, suc, ◌==◌, nat_lt, nat_le, ◌&&◌, ◌||◌, Bool, true, false, if◌then◌else◌, List, [], ◌∷◌, length, Option, Some, None, Result, Ok, Err}
use Rattle.std.specs.Ordering.{nat_cmp, eq_by_cmp}
use Rattle.std.specs.Cmp.Lexicographic.{slice_cmp}
use Rattle.std.specs.Option.{option_map}
use Rattle.std.specs.FinMap as map
use Rattle.xdp_maps.specs.declared.decl.MapKind.{MapKind}
use Rattle.xdp_maps.specs.declared.decl.MapKind.TheVariants.{Hash, Array}
use Rattle.xdp_maps.specs.declared.decl.MapDecl.{MapDecl}
use Rattle.xdp_maps.specs.Contents.{Contents, index_of}
use Rattle.xdp_maps.specs.State.{MapState, opened_state, decl_at, contents_at, with_contents}
use Rattle.maps_text.specs.declared.error.MapsError.{MapsError}
use Rattle.maps_text.specs.declared.error.MapsError.TheVariants.{Line, Unknown, Length, Twice, Full, NoMemory}
use Rattle.maps_text.specs.Lines.{lines_of, Entry, entry_in}

-- whether two byte strings are equal
abbrev pub same : List ℕ → List ℕ → Bool
same a b = eq_by_cmp (slice_cmp nat_cmp) a b

-- the number of the first map of a name
unfoldable pub map_named : List ℕ → List MapDecl → Option ℕ
map_named name [] = None
map_named name (d ∷ ds) = if same name d.name then Some 0 else option_map suc (map_named name ds)

-- whether there can be a key: in a hash any, in an array an index below its capacity
abbrev pub has_key_as : MapKind → ℕ → List ℕ → Bool
has_key_as Hash cap key = true
has_key_as Array cap key = nat_lt (index_of key) cap

-- whether key and value have the lengths of a map that can have the key
abbrev pub fits : MapDecl → Entry → Bool
fits d e = length e.key == d.key && (length e.value == d.value && has_key_as d.kind d.cap e.key)

-- What the lines so far have listed: what the maps then hold, and of each line its map and key, those of the last line first.
pub record Listed : Type 0 where
  pub maps : MapState
  pub keys : List (ℕ × List ℕ)

-- whether a key of map m is among them
abbrev pub is_listed : List (ℕ × List ℕ) → ℕ → List ℕ → Bool
is_listed [] m key = false
is_listed (k ∷ ks) m key = m == k.0 && same key k.1 || is_listed ks m key

-- whether a hash holds as many keys as it can
abbrev pub is_full_as : MapKind → ℕ → Contents → Bool
is_full_as Hash cap c = nat_le cap (map.len c)
is_full_as Array cap c = false

-- the maps with a value under a key of map m
abbrev pub with_pair : MapState → ℕ → List ℕ → List ℕ → MapState
with_pair s m key value = with_contents s m (map.insert (contents_at s m) key value)

-- with a key of map m more
abbrev pub listed_with : Listed → ℕ → List ℕ → List ℕ → Listed
listed_with before m key value = record { maps = with_pair before.maps m key value; keys = (m, key) ∷ before.keys }

-- with a key of map m that line n lists, if it is new and there is room for it
abbrev pub placed : ℕ → Listed → ℕ → List ℕ → List ℕ → Result Listed MapsError
placed n before m key value =
    if is_listed before.keys m key then Err (Twice n) else
    if is_full_as (decl_at before.maps m).kind (decl_at before.maps m).cap (contents_at before.maps m) then Err (Full n) else
    Ok (listed_with before m key value)

-- with the entry of line n, which is one of map m, if that can have it
abbrev pub put_in : ℕ → Listed → ℕ → Entry → Result Listed MapsError
put_in n before m e = if fits (decl_at before.maps m) e then placed n before m e.key e.value else Err (Length n)

-- with the entry of line n, which is one of the map of its name, if there is one
abbrev pub put_named : ℕ → Listed → Entry → Option ℕ → Result Listed MapsError
put_named n before e None = Err (Unknown n)
put_named n before e (Some m) = put_in n before m e

-- with what line n says, if it is an entry
abbrev pub put_line : ℕ → Listed → Option Entry → Result Listed MapsError
put_line n before None = Err (Line n)
put_line n before (Some e) = put_named n before e (map_named e.name before.maps.decls)

unfoldable pub line_read : ℕ → Listed → List ℕ → Result Listed MapsError
line_read n before line = put_line n before (entry_in line)

-- what comes after a line, where that is not bad
abbrev pub and_then : {A : Type 0} → Result Listed MapsError → (Listed → Result A MapsError) → Result A MapsError
and_then (Ok after) later = later after
and_then (Err e) later = Err e

-- what the lines from line n on list, after what was listed before
unfoldable pub read_from : ℕ → Listed → List (List ℕ) → Result Listed MapsError
read_from n before [] = Ok before
read_from n before (line ∷ lines) = and_then (line_read n before line) (λ after. read_from (n + 1) after lines)

-- nothing is listed yet
abbrev pub unlisted : List MapDecl → Listed
unlisted decls = record { maps = opened_state decls; keys = [] }

-- what the maps of these declarations hold by a text, or the first bad line
unfoldable pub outcome : List MapDecl → List ℕ → Result MapState MapsError
outcome decls text = and_then (read_from 1 (unlisted decls) (lines_of text)) (λ all. Ok all.maps)

-- what was returned is what reading gives, or memory was wanted
abbrev pub Gives : Result MapState MapsError → Result MapState MapsError → Type 0
Gives (Err NoMemory) read = Unit {0}
Gives result read = result ≡ read
