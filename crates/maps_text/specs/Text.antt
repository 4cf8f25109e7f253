-- Which bytes are a text of maps, and of which; and the first bad line of others.
use Rattle.std.specs.Prelude.{◌≡◌, ℕ, ◌+◌, ◌<◌, ◌≤◌, ◌==◌, ◌⊎◌, true, false, cond, List, [], ◌∷◌, ◌++◌, length, Some, None}
use Rattle.xdp_maps.specs.declared.decl.MapKind.TheVariants.{Hash}
use Rattle.xdp_maps.specs.declared.decl.MapDecl.{MapDecl}
use Rattle.xdp_maps.specs.Contents.{opened}
use Rattle.xdp_maps.specs.Calls.{lookup_of}
use Rattle.xdp_maps.specs.State.{MapState, no_decl, decl_at, contents_at}
use Rattle.std.proofs.Common.{get_or}
use Rattle.maps_text.specs.declared.error.MapsError.{MapsError}
use Rattle.maps_text.specs.declared.error.MapsError.TheVariants as error
use Rattle.maps_text.specs.Lines.{Entry, lines_of, entry_in}
use Rattle.maps_text.specs.Reading.{map_named, fits}

-- what a line lists: a key of map m and its value
pub record Item : Type 0 where
  pub map : ℕ
  pub key : List ℕ
  pub value : List ℕ

-- a line is an entry of the map of its name, which can have it
pub record Lists (decls : List MapDecl) (line : List ℕ) (item : Item) : Type 0 where
  pub name : List ℕ
  pub is_entry : entry_in line ≡ Some (record { name = name; key = item.key; value = item.value })
  pub is_map : map_named name decls ≡ Some item.map
  pub can : fits (get_or decls item.map no_decl) (record { name = name; key = item.key; value = item.value }) ≡ true

-- line by line
abbrev pub ListAll : List MapDecl → List (List ℕ) → List Item → Type 0
ListAll decls [] [] = Unit {0}
ListAll decls (line ∷ lines) (item ∷ items) = Lists decls line item × ListAll decls lines items
ListAll decls [] (item ∷ items) = ⊥
ListAll decls (line ∷ lines) [] = ⊥

-- a value is listed under a key of map m
abbrev pub IsListed : List Item → ℕ → List ℕ → List ℕ → Type 0
IsListed [] m key value = ⊥
IsListed (item ∷ items) m key value = ((item.map ≡ m) × (item.key ≡ key) × (item.value ≡ value)) ⊎ IsListed items m key value

-- no two list the same key of a map
abbrev pub AreOwn : List Item → Type 0
AreOwn [] = Unit {0}
AreOwn (item ∷ items) = ((value : List ℕ) → ¬ IsListed items item.map item.key value) × AreOwn items

-- how many are of map m
abbrev pub count_of : ℕ → List Item → ℕ
count_of m [] = 0
count_of m (item ∷ items) = cond (item.map == m) 1 0 + count_of m items

-- no hash more than it has room for
abbrev pub HaveRoom : List MapDecl → List Item → Type 0
HaveRoom decls items = (m : ℕ) → m < length decls → (get_or decls m no_decl).kind ≡ Hash → count_of m items ≤ (get_or decls m no_decl).cap

-- Lines list each key once, of a hash no more than it has room for.
pub record AreGood (decls : List MapDecl) (lines : List (List ℕ)) (items : List Item) : Type 0 where
  pub lists : ListAll decls lines items
  pub own : AreOwn items
  pub room : HaveRoom decls items

-- The lines of a text are good, and the maps hold what they list; under each other key they hold what they were opened with.
pub record IsMapsText (decls : List MapDecl) (text : List ℕ) (s : MapState) : Type 0 where
  pub items : List Item
  pub good : AreGood decls (lines_of text) items
  pub decls_are : s.decls ≡ decls
  pub beside : length s.contents ≡ length decls
  pub holds : (m : ℕ) (key value : List ℕ) → IsListed items m key value → lookup_of (contents_at s m) key ≡ Some value
  pub others : (m : ℕ) (key : List ℕ) → m < length decls → ((value : List ℕ) → ¬ IsListed items m key value) → lookup_of (contents_at s m) key ≡ lookup_of (opened (decl_at s m)) key

-- ---- the first bad line

-- After lines that list these items, a line fails its checks, this one first.
abbrev pub Fails : List MapDecl → List Item → ℕ → List ℕ → MapsError → Type 0
Fails decls items at line (error.Line n) = (n ≡ at) × (entry_in line ≡ None)
Fails decls items at line (error.Unknown n) = (n ≡ at) × (e : Entry) × (entry_in line ≡ Some e) × (map_named e.name decls ≡ None)
Fails decls items at line (error.Length n) =
    (n ≡ at) × (e : Entry) × (m : ℕ) × (entry_in line ≡ Some e) × (map_named e.name decls ≡ Some m) × (fits (get_or decls m no_decl) e ≡ false)
Fails decls items at line (error.Twice n) = (n ≡ at) × (item : Item) × Lists decls line item × (value : List ℕ) × IsListed items item.map item.key value
Fails decls items at line (error.Full n) =
    (n ≡ at) × (item : Item) × Lists decls line item × ((value : List ℕ) → ¬ IsListed items item.map item.key value)
    × ((get_or decls item.map no_decl).kind ≡ Hash) × ((get_or decls item.map no_decl).cap ≤ count_of item.map items)
Fails decls items at line error.NoMemory = ⊥

-- The lines before are good, and this one is not.
pub record IsFirstBad (decls : List MapDecl) (text : List ℕ) (e : MapsError) : Type 0 where
  pub before : List (List ℕ)
  pub line : List ℕ
  pub behind : List (List ℕ)
  pub lines : lines_of text ≡ before ++ line ∷ behind
  pub items : List Item
  pub good : AreGood decls before items
  pub fails : Fails decls items (1 + length before) line e
