-- Names in a string part (Documentation/bpf/btf.rst, "String Encoding").
use Rattle.std.specs.Prelude.{ℕ, ◌==◌, ◌≡◌, nat_lt, is_some, Bool, false, List, take, drop, position, Option}
use Rattle.std.specs.Option.{option_map, option_map_or}
use Rattle.std.specs.Str.{bytes_eq}

-- the name that begins at a place: the bytes up to the first zero byte, if there is one
unfoldable pub name_at : List ℕ → ℕ → Option (List ℕ)
name_at strings at = option_map (λ n. take n (drop at strings)) (position (λ b. b == 0) (drop at strings))

-- whether a name is there, and these bytes
unfoldable pub is_named : List ℕ → ℕ → List ℕ → Bool
is_named strings at name = option_map_or (λ n. bytes_eq n name) (name_at strings at) false

-- names begin at exactly the places in front of an end
abbrev pub HasNamesBelow : List ℕ → ℕ → Type 0
HasNamesBelow strings end = (at : ℕ) → is_some (name_at strings at) ≡ nat_lt at end
