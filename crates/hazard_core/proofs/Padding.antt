-- Bytes from a place on, also past the end of a value.
use Rattle.std.proofs.Common.{◌≡◌, ◌∙◌, ℕ, zero, suc, ◌+◌, ◌-◌, ◌*◌, ◌<◌, ◌≤◌, min, List, ◌++◌, length, take, drop, get_or, replicate, refl, sym, ap, arith, append-nil}
use Rattle.std.specs.Prelude.{slice_range}
use Rattle.std.proofs.lemmas.List.{get_or-take, get_or-drop, length-take-le, length-append, length-replicate, length-drop, take_at, take_min, drop_all}
use Rattle.byteorder.specs.Endian.{little_from, little_number}
use Rattle.xdp_maps.specs.Calls.{patched}

same_from : (n i : ℕ) (xs ys : List ℕ) → ((k : ℕ) → k < i + n → get_or xs k 0 ≡ get_or ys k 0) → little_from i n xs ≡ little_from i n ys
same_from zero i xs ys h = refl
same_from (suc n) i xs ys h =
    ap (λ (x : ℕ). x + 256 * little_from (suc i) n xs) (h i (omega arith))
    ∙ ap (λ (x : ℕ). get_or ys i 0 + 256 * x) (same_from n (suc i) xs ys (λ k l. h k (omega arith)))

part_at : (bytes : List ℕ) (at count k : ℕ) → k < count → get_or (slice_range bytes at (at + count)) k 0 ≡ get_or bytes (at + k) 0
part_at bytes at count k l =
    let e : at + count - at ≡ count = omega arith in
    ap (λ (n : ℕ). get_or (take n (drop at bytes)) k 0) e ∙ get_or-take count (drop at bytes) k 0 l ∙ get_or-drop at bytes k 0

pub padded_all : (bytes all : List ℕ) (at count : ℕ) → ((k : ℕ) → k < count → get_or all k 0 ≡ get_or bytes (at + k) 0) → little_number count all ≡ little_number count (slice_range bytes at (at + count))
padded_all bytes all at count h = same_from count 0 all (slice_range bytes at (at + count)) (λ k l. let b : k < count = omega arith in h k b ∙ sym (part_at bytes at count k b))

patch_front : (z y : List ℕ) (n : ℕ) → length y ≡ n → patched z 0 y ≡ y ++ drop n z
patch_front z y n e = let s : 0 + length y ≡ n = omega (arith, e) in ap (λ (k : ℕ). y ++ drop k z) s

patch_end : (y z bs : List ℕ) (n : ℕ) → length y ≡ n → length (y ++ z) ≤ n + length bs → patched (y ++ z) n bs ≡ y ++ bs
patch_end y z bs n e l =
    ap (λ (xs : List ℕ). xs ++ bs ++ drop (n + length bs) (y ++ z)) (take_at y z n e)
    ∙ ap (λ (xs : List ℕ). y ++ bs ++ xs) (drop_all (n + length bs) (y ++ z) l)
    ∙ append-nil (y ++ bs)

patch_past : (v bs : List ℕ) (at : ℕ) → length v ≤ at + length bs → patched v at bs ≡ take (min at (length v)) v ++ bs
patch_past v bs at l =
    ap (λ (xs : List ℕ). take at v ++ bs ++ xs) (drop_all (at + length bs) v l)
    ∙ append-nil (take at v ++ bs)
    ∙ ap (λ (xs : List ℕ). xs ++ bs) (sym (take_min at v))

-- bytes written where a value ends before: what stands before them, and they
pub patch_long : (v bs : List ℕ) (at head : ℕ) → head ≡ min at (length v) → length v ≤ at + length bs
    → patched (patched (replicate (head + length bs) 0) 0 (take head v)) head bs ≡ patched v at bs
patch_long v bs at head e l =
    let h : head ≤ length v = omega (arith, e) in
    let n = length-take-le head v h in
    let m : length (take head v ++ drop head (replicate (head + length bs) 0)) ≤ head + length bs =
    omega (arith, length-append {A = ℕ} (take head v) (drop head (replicate (head + length bs) 0)), n, length-drop {A = ℕ} head (replicate (head + length bs) 0), length-replicate {A = ℕ} (head + length bs) 0) in
    ap (λ (xs : List ℕ). patched xs head bs) (patch_front (replicate (head + length bs) 0) (take head v) head n)
    ∙ patch_end (take head v) (drop head (replicate (head + length bs) 0)) bs head n m
    ∙ ap (λ (k : ℕ). take k v ++ bs) e
    ∙ sym (patch_past v bs at l)
