-- What the steps of reading give. No caller's clause cites this.
use Rattle.std.specs.Prelude.{◌≡◌, ℕ, ◌+◌, ◌*◌, ◌<◌, ◌==◌, nat_le, Bool, true, false, if◌then◌else◌, List, [], ◌∷◌, length, slice_index_or, Option, Some, None, Result, Ok, Err}
use Rattle.std.specs.FinMap as map
use Rattle.hex.specs.Hex.{decode_of}
use Rattle.xdp_maps.specs.declared.decl.MapKind.TheVariants.{Hash, Array}
use Rattle.xdp_maps.specs.declared.decl.MapDecl.{MapDecl}
use Rattle.xdp_maps.specs.Contents.{Contents, IsBytes, index_of}
use Rattle.xdp_maps.specs.State.{MapState, decl_at, contents_at}
use Rattle.maps_text.specs.declared.error.MapsError.{MapsError}
use Rattle.maps_text.specs.declared.error.MapsError.TheVariants.{Twice, Full}
use Rattle.maps_text.specs.declared.fields.Fields.{Fields}
use Rattle.maps_text.specs.Lines.{Entry, entry_in}
use Rattle.maps_text.specs.Reading.{Listed, is_listed, fits}

-- the part before the first separator, and what follows that, if it is there
unfoldable pub cut : ℕ → List ℕ → List ℕ × Option (List ℕ)
cut separator [] = ([], None)
cut separator (b ∷ bytes) = if b == separator then ([], Some bytes) else (b ∷ (cut separator bytes).0, (cut separator bytes).1)

-- the fields of a line are those of an entry, as they are written
pub record IsWritten (fields : Fields) (e : Entry) : Type 0 where
  pub name : fields.name.now ≡ e.name
  pub key : decode_of fields.key.now ≡ Ok e.key
  pub value : decode_of fields.value.now ≡ Ok e.value

pub record FindsEntry (line : List ℕ) (fields : Fields) : Type 0 where
  pub entry : Entry
  pub found : entry_in line ≡ Some entry
  pub written : IsWritten fields entry

-- A mark for each index that an array may have, those of map m from place m * 65536 on.
abbrev pub place_of : ℕ → List ℕ → ℕ
place_of m key = m * 65536 + index_of key

-- What is known of the listed keys: a hash holds just those, and of an array those have their marks.
pub record Marks (marks : List Bool) (listed : Listed) : Type 0 where
  pub enough : length marks ≡ length listed.maps.decls * 65536
  pub hash : (m : ℕ) (key : List ℕ) → m < length listed.maps.decls → (decl_at listed.maps m).kind ≡ Hash
      → map.contains_key (contents_at listed.maps m) key ≡ is_listed listed.keys m key
  pub array : (m : ℕ) (key : List ℕ) → m < length listed.maps.decls → (decl_at listed.maps m).kind ≡ Array → IsBytes 4 key → index_of key < 65536
      → slice_index_or marks (place_of m key) false ≡ is_listed listed.keys m key

-- the key and the value of an entry, if a map can have them
abbrev pub FitsPair : MapDecl → Entry → Option (List ℕ × List ℕ) → Type 0
FitsPair d e None = fits d e ≡ false
FitsPair d e (Some pair) = (fits d e ≡ true) × (pair.0 ≡ e.key) × (pair.1 ≡ e.value)

-- what becomes of a key of a hash: it may be there, or the hash be full
abbrev pub told : ℕ → Bool → Bool → Result (Unit {0}) MapsError
told n present full = if present then Err (Twice n) else if full then Err (Full n) else Ok tt

abbrev pub hash_result : ℕ → ℕ → Contents → List ℕ → Result (Unit {0}) MapsError
hash_result n cap c key = told n (map.contains_key c key) (nat_le cap (map.len c))

-- and of a key of an array, by its mark
abbrev pub array_result : ℕ → Bool → Result (Unit {0}) MapsError
array_result n marked = told n marked false

-- what becomes of a line: what is listed after it, or the fault
abbrev pub Takes : Result (Unit {0}) MapsError → MapState → List Bool → Result Listed MapsError → Type 0
Takes (Ok done) maps marks read = (after : Listed) × (read ≡ Ok after) × (after.maps ≡ maps) × Marks marks after
Takes (Err e) maps marks read = read ≡ Err e
