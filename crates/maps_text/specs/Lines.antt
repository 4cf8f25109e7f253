-- The lines of a text of maps, and the fields of a line.
use Rattle.std.specs.Prelude.{ℕ, ◌==◌, ◌||◌, Bool, if◌then◌else◌, List, [], ◌∷◌, length, Option, Some, None, Result, Ok, Err}
use Rattle.hex.specs.declared.error.FromHexError.{FromHexError}
use Rattle.hex.specs.Hex.{decode_of}

-- a line feed, and a space
abbrev pub line_feed : ℕ
line_feed = 10

abbrev pub space : ℕ
space = 32

-- a byte in front of the first of some parts
abbrev pub in_front : ℕ → List (List ℕ) → List (List ℕ)
in_front b [] = (b ∷ []) ∷ []
in_front b (part ∷ parts) = (b ∷ part) ∷ parts

-- The lines of a text: each ends with a line feed, which the last one may lack.
unfoldable pub lines_of : List ℕ → List (List ℕ)
lines_of [] = []
lines_of (b ∷ bytes) = if b == line_feed then [] ∷ lines_of bytes else in_front b (lines_of bytes)

-- The fields of a line: what stands before, between and after its spaces.
unfoldable pub fields_of : List ℕ → List (List ℕ)
fields_of [] = [] ∷ []
fields_of (b ∷ bytes) = if b == space then [] ∷ fields_of bytes else in_front b (fields_of bytes)

-- what a line says: under this key the map of this name holds this value
pub record Entry : Type 0 where
  pub name : List ℕ
  pub key : List ℕ
  pub value : List ℕ

abbrev pub decoded : List ℕ → Result (List ℕ) FromHexError → Result (List ℕ) FromHexError → Option Entry
decoded name (Ok key) (Ok value) = Some (record { name = name; key = key; value = value })
decoded name (Ok key) (Err e) = None
decoded name (Err e) value = None

abbrev pub is_empty : List ℕ → Bool
is_empty field = length field == 0

-- three fields, none of them empty, the last two of hexadecimal digits
abbrev pub entry_as : List (List ℕ) → Option Entry
entry_as (name ∷ key ∷ value ∷ []) =
    if is_empty name || (is_empty key || is_empty value) then None else decoded name (decode_of key) (decode_of value)
entry_as _ = None

unfoldable pub entry_in : List ℕ → Option Entry
entry_in line = entry_as (fields_of line)
