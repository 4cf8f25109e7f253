-- The operations on a map as values: what a call of a helper, or an access through a pointer to an entry, asks of one map.
use Rattle.std.specs.Prelude.{ℕ, ◌+◌, ◌<◌, ◌≤◌, Bool, List, length, All}
use Rattle.xdp_maps.specs.declared.change.Change.{Change}
use Rattle.xdp_maps.specs.declared.decl.MapDecl.{MapDecl}
use Rattle.xdp_maps.specs.Contents.{Contents, IsBytes}
use Rattle.xdp_maps.specs.State.{MapState, decl_at, contents_at, with_contents}
use Rattle.xdp_maps.specs.Calls.{updated, deleted, stored, changed, change_bytes}

pub data Operation : Type 0 where
  Lookup : (key : List ℕ) → Operation
  Load : (key : List ℕ) → Operation
  Update : (key value : List ℕ) (flags : ℕ) → Operation
  Delete : (key : List ℕ) → Operation
  Store : (key : List ℕ) (at : ℕ) (bytes : List ℕ) → Operation
  -- an atomic change, and whether it answers the old number
  Atomic : (key : List ℕ) (at : ℕ) (change : Change) (fetch : Bool) → Operation

abbrev pub key_in : Operation → List ℕ
key_in (Lookup key) = key
key_in (Load key) = key
key_in (Update key value flags) = key
key_in (Delete key) = key
key_in (Store key at bytes) = key
key_in (Atomic key at x fetch) = key

-- The values of an operation have the lengths that the map declares, and an access stays inside the value.
abbrev pub FitsValue : MapDecl → Operation → Type 0
FitsValue d (Update key value flags) = IsBytes d.value value
FitsValue d (Store key at bytes) = (at + length bytes ≤ d.value) × All (λ b. b < 256) bytes
FitsValue d (Atomic key at x fetch) = at + change_bytes x.wide ≤ d.value
FitsValue d op = Unit {0}

abbrev pub Fits : MapDecl → Operation → Type 0
Fits d op = IsBytes d.key (key_in op) × FitsValue d op

-- the contents that an operation leaves
abbrev pub left_by : MapDecl → Contents → Operation → Contents
left_by d c (Update key value flags) = updated d c key value flags
left_by d c (Delete key) = deleted d c key
left_by d c (Store key at bytes) = stored c key at bytes
left_by d c (Atomic key at x fetch) = changed c key at x
left_by d c op = c

-- all maps after an operation on one of them
abbrev pub operated : MapState → ℕ → Operation → MapState
operated s q op = with_contents s q (left_by (decl_at s q) (contents_at s q) op)
