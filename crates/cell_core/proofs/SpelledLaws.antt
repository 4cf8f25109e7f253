-- Words as bytes.
use Rattle.std.proofs.Common.{◌≡◌, ℕ, ◌*◌, ◌≤◌, List, [], ◌∷◌, length, refl, arith, map as map_list, ◌<◌, All}
use Rattle.std.proofs.lemmas.List.{length-take-le, length-map}
use Rattle.std.proofs.lemmas.List.Elements.{All-nil, All-append, All-take}
use Rattle.byteorder.specs.Endian.{little_bytes}
use Rattle.xdp_state.specs.xdp_maps.Contents.{IsBytes}
use Rattle.xdp_state.proofs.xdp_maps_laws.ByteLaws.{IsBytes-little_bytes}
use Rattle.cell_core.specs.Sites.{spelled, bytes_of}

pub spelled_length : (xs : List ℕ) → length (spelled xs) ≡ 8 * length xs
spelled_length [] = refl
spelled_length (x ∷ xs) = omega (arith, spelled_length xs)

spelled_bytes : (words : List ℕ) → All (λ b. b < 256) (spelled words)
spelled_bytes [] = All-nil (λ b. b < 256)
spelled_bytes (x ∷ words) = All-append (λ b. b < 256) (little_bytes 8 x) (spelled words) (IsBytes-little_bytes 8 x).bytes_fit (spelled_bytes words)

-- as many as are asked for
pub bytes_are : (n : ℕ) (words : List ℕ) → n ≤ 8 * length words → IsBytes n (bytes_of n words)
bytes_are n words l = record { len = length-take-le n (spelled words) (omega (arith, l, spelled_length words)); bytes_fit = All-take (λ b. b < 256) n (spelled words) (spelled_bytes words) }

pub bytes_length : (n : ℕ) (xs : List ℕ) → n ≤ 8 * length xs → length (bytes_of n xs) ≡ n
bytes_length n xs h = length-take-le n (spelled xs) (omega (arith, spelled_length xs))

pub words_length : (n : ℕ) (v : ℕ → ℕ) (ws : List ℕ) → n ≤ 8 * length ws → length (bytes_of n (map_list v ws)) ≡ n
words_length n v ws h = bytes_length n (map_list v ws) (omega (arith, length-map ws v))
