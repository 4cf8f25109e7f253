-- The text of maps: of each map in the order of the declarations its entries, of a hash by the bytes of their keys, of an array by index.
use Rattle.std.specs.Prelude.{ℕ, zero, suc, ◌==◌, Bool, false, if◌then◌else◌, List, [], ◌∷◌, ◌++◌, length, Option, Some, None}
use Rattle.std.specs.List.{list_all}
use Rattle.hex.specs.Hex.{encode_lower}
use Rattle.xdp_maps.specs.declared.decl.MapKind.{MapKind}
use Rattle.xdp_maps.specs.declared.decl.MapKind.TheVariants.{Hash, Array}
use Rattle.xdp_maps.specs.declared.decl.MapDecl.{MapDecl}
use Rattle.xdp_maps.specs.Contents.{Contents}
use Rattle.xdp_maps.specs.Calls.{entry_of}
use Rattle.xdp_maps.specs.State.{MapState, decl_at, contents_at}
use Rattle.maps_text.specs.Lines.{line_feed, space}

-- the line of an entry: its name, a space, the digits of its key, a space, those of its value, a line feed
unfoldable pub line_text : List ℕ → List ℕ → List ℕ → List ℕ
line_text name key value = name ++ space ∷ encode_lower key ++ space ∷ encode_lower value ++ line_feed ∷ []

abbrev pub are_zeros : List ℕ → Bool
are_zeros bytes = list_all (λ b. b == 0) bytes

-- an entry of an array that is zeros is what no line says
abbrev pub is_left_out : MapKind → List ℕ → Bool
is_left_out Hash value = false
is_left_out Array value = are_zeros value

abbrev pub pair_text : MapDecl → Option (List ℕ × List ℕ) → List ℕ
pair_text d None = []
pair_text d (Some pair) = if is_left_out d.kind pair.1 then [] else line_text d.name pair.0 pair.1

-- the lines of the pairs of a map whose numbers are i, i + 1, .., of n of them
unfoldable pub pairs_text : MapDecl → Contents → ℕ → ℕ → List ℕ
pairs_text d c i zero = []
pairs_text d c i (suc n) = pair_text d (entry_of d c i) ++ pairs_text d c (suc i) n

-- the lines of a map: there are no more pairs than its capacity
abbrev pub map_text : MapDecl → Contents → List ℕ
map_text d c = pairs_text d c 0 d.cap

-- the lines of the maps m, m + 1, .., of n of them
unfoldable pub all_text : MapState → ℕ → ℕ → List ℕ
all_text s m zero = []
all_text s m (suc n) = map_text (decl_at s m) (contents_at s m) ++ all_text s (suc m) n

-- the text of maps
unfoldable pub text_of : MapState → List ℕ
text_of s = all_text s 0 (length s.decls)
