-- The bytes of words.
use Rattle.std.proofs.Common.{◌≡◌, ℕ, suc, ◌*◌, ◌<◌, ◌≤◌, List, [], ◌∷◌, ◌++◌, length, get_or, take, drop, append_assoc, refl, sym, ◌∙◌, ap, arith}
use Rattle.std.proofs.lemmas.List.{take-append-le}
use Rattle.byteorder.specs.Endian.{little_bytes}
use Rattle.cell_core.specs.Sites.{spelled, bytes_of}
use Rattle.cell_core.proofs.SpelledLaws.{spelled_length}

spelled_append : (xs ys : List ℕ) → spelled (xs ++ ys) ≡ spelled xs ++ spelled ys
spelled_append [] ys = refl
spelled_append (x ∷ xs) ys = ap (λ (bs : List ℕ). little_bytes 8 x ++ bs) (spelled_append xs ys) ∙ sym (append_assoc (little_bytes 8 x) (spelled xs) (spelled ys))

prefix : (xs ys : List ℕ) → length xs ≤ length ys → ((j : ℕ) → j < length xs → get_or xs j 0 ≡ get_or ys j 0) → ys ≡ xs ++ drop (length xs) ys
prefix [] ys h same = refl
prefix (x ∷ xs) [] h same = absurd (omega arith)
prefix (x ∷ xs) (y ∷ ys) h same = ap (λ (n : ℕ). n ∷ ys) (sym (same 0 (omega arith))) ∙ ap (λ (ns : List ℕ). x ∷ ns) (prefix xs ys (omega arith) (λ j l. same (suc j) (omega (arith, l))))

-- words that are the same as far as the bytes reach
pub bytes_same : (n : ℕ) (xs ys : List ℕ) → n ≤ 8 * length xs → length xs ≤ length ys → ((j : ℕ) → j < length xs → get_or xs j 0 ≡ get_or ys j 0) → bytes_of n ys ≡ bytes_of n xs
bytes_same n xs ys h l same =
    ap (bytes_of n) (prefix xs ys l same)
    ∙ ap (take n) (spelled_append xs (drop (length xs) ys))
    ∙ take-append-le n (spelled xs) (spelled (drop (length xs) ys)) (omega (arith, spelled_length xs, h))
