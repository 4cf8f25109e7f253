-- What one map holds.
use Rattle.std.specs.Prelude.{ℕ, ◌≡◌, ◌+◌, ◌<◌, ◌≤◌, List, [], ◌∷◌, length, replicate, All, IsTrue, IfSome}
use Rattle.std.specs.Ordering.{nat_cmp}
use Rattle.std.specs.Cmp.Lexicographic.{slice_cmp}
use Rattle.byteorder.specs.Endian.{little_number, little_bytes}
use Rattle.std.specs.FinMap as map
use Rattle.xdp_maps.specs.declared.decl.MapKind.{MapKind}
use Rattle.xdp_maps.specs.declared.decl.MapKind.TheVariants.{Hash, Array}
use Rattle.xdp_maps.specs.declared.decl.MapDecl.{MapDecl}

-- The limits of a declaration.
abbrev pub limits_as : MapKind → MapDecl → Type 0
limits_as Hash d = d.cap ≤ 1024
limits_as Array d = (d.key ≡ 4) × (d.cap ≤ 65536)

pub record IsWithinLimits (d : MapDecl) : Type 0 where
  pub key_some : 0 < d.key
  pub key_short : d.key ≤ 40
  pub value_some : 0 < d.value
  pub value_short : d.value ≤ 64
  pub cap_some : 0 < d.cap
  pub by_kind : limits_as d.kind d

-- a finite map from key bytes to value bytes, its keys in the order of their bytes
abbrev pub Contents : Type 0
Contents = map.FinMap (slice_cmp nat_cmp) (List ℕ)

-- bytes of a length
pub record IsBytes (n : ℕ) (bytes : List ℕ) : Type 0 where
  pub len : length bytes ≡ n
  pub bytes_fit : All (λ b. b < 256) bytes

-- The key of an array's entry is its index: four bytes, the low one first.
unfoldable pub index_key : ℕ → List ℕ
index_key i = little_bytes 4 i

unfoldable pub index_of : List ℕ → ℕ
index_of key = little_number 4 key

-- values under their indexes, from one on
abbrev pub indexed : ℕ → List (List ℕ) → List (List ℕ × List ℕ)
indexed i [] = []
indexed i (v ∷ vs) = (index_key i, v) ∷ indexed (i + 1) vs

-- the contents of an array with these values
abbrev pub array_of : List (List ℕ) → Contents
array_of values = map.from_entries (indexed 0 values)

-- what a map holds before anything is written: a hash nothing, an array zeros under each index
abbrev pub opened_as : MapKind → MapDecl → Contents
opened_as Hash d = map.empty
opened_as Array d = array_of (replicate d.cap (replicate d.value 0))

unfoldable pub opened : MapDecl → Contents
opened d = opened_as d.kind d

-- whether there may be an entry under a key: a hash takes each key of its length, an array its indexes
abbrev pub TakesKey_as : MapKind → MapDecl → List ℕ → Type 0
TakesKey_as Hash d key = Unit {0}
TakesKey_as Array d key = index_of key < d.cap

abbrev pub TakesKey : MapDecl → List ℕ → Type 0
TakesKey d key = IsBytes d.key key × TakesKey_as d.kind d key

-- an array has every key that it takes, a hash at most its capacity of them
abbrev pub IsFilled_as : MapKind → MapDecl → Contents → Type 0
IsFilled_as Hash d c = map.len c ≤ d.cap
IsFilled_as Array d c = (key : List ℕ) → TakesKey d key → IsTrue (map.contains_key c key)

-- contents over a declaration
pub record IsOver (d : MapDecl) (c : Contents) : Type 0 where
  pub keys : (key : List ℕ) → IsTrue (map.contains_key c key) → TakesKey d key
  pub values : (key : List ℕ) → IfSome (map.get c key) (IsBytes d.value)
  pub filled : IsFilled_as d.kind d c
