-- Bytes: of a number, and written over others.
use Rattle.std.proofs.Common.{◌≡◌, ℕ, zero, suc, ◌+◌, ◌<◌, ◌≤◌, List, ◌++◌, length, take, drop, All, ◌∙◌, arith, length-append, length-drop}
use Rattle.std.proofs.lemmas.List.{length-take-le}
use Rattle.std.proofs.lemmas.List.Elements.{All-nil, All-cons, All-append, All-take, All-drop}
use Rattle.std.proofs.Math.Nat.{mod-lt}
use Rattle.std.specs.Int.{byte_at, bytes_low_first}
use Rattle.byteorder.specs.Endian.{little_bytes}
use Rattle.byteorder.specs.Numbers.{length-bytes_low_first}
use Rattle.xdp_maps.specs.Contents.{IsBytes}
use Rattle.xdp_maps.specs.Calls.{patched}

pub length-patched : (v : List ℕ) (at : ℕ) (bytes : List ℕ) → at + length bytes ≤ length v → length (patched v at bytes) ≡ length v
length-patched v at bytes inside =
    let front = length-take-le at v (omega arith) in
    omega (arith, front, length-append (take at v ++ bytes) (drop (at + length bytes) v), length-append (take at v) bytes, length-drop (at + length bytes) v)

-- bytes written inside a value leave its length
pub IsBytes-patched : (n : ℕ) (v : List ℕ) (at : ℕ) (bytes : List ℕ) → IsBytes n v → at + length bytes ≤ n → All (λ b. b < 256) bytes → IsBytes n (patched v at bytes)
IsBytes-patched n v at bytes old inside fit = record {
  len = length-patched v at bytes (omega (arith, old.len)) ∙ old.len;
  bytes_fit = All-append (λ b. b < 256) (take at v ++ bytes) _ (All-append (λ b. b < 256) (take at v) bytes (All-take (λ b. b < 256) at v old.bytes_fit) fit) (All-drop (λ b. b < 256) (at + length bytes) v old.bytes_fit);
}

byte_at-lt : (j x : ℕ) → byte_at j x < 256
byte_at-lt zero x = mod-lt x (omega arith)
byte_at-lt (suc j) x = mod-lt _ (omega arith)

bytes_from : (j n x : ℕ) → All (λ b. b < 256) (bytes_low_first j n x)
bytes_from j zero x = All-nil (λ b. b < 256)
bytes_from j (suc n) x = All-cons (λ b. b < 256) (byte_at j x) (bytes_low_first (suc j) n x) (byte_at-lt j x) (bytes_from (suc j) n x)

pub IsBytes-little_bytes : (n x : ℕ) → IsBytes n (little_bytes n x)
IsBytes-little_bytes n x = record { len = length-bytes_low_first 0 n x; bytes_fit = bytes_from 0 n x }

-- and written inside a value
pub IsBytes-written : (n at c x : ℕ) (value : List ℕ) → IsBytes n value → at + c ≤ n → IsBytes n (patched value at (little_bytes c x))
IsBytes-written n at c x value b inside = let w = IsBytes-little_bytes c x in IsBytes-patched n value at (little_bytes c x) b (omega (arith, inside, w.len)) w.bytes_fit
