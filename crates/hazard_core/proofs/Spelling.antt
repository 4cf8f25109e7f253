-- Words of eight bytes, one after another.
use Rattle.std.proofs.Common.{◌≡◌, ◌∙◌, ℕ, zero, suc, ◌+◌, ◌*◌, ◌<◌, ◌≤◌, List, [], ◌∷◌, ◌++◌, length, take, drop, get_or, refl, sym, ap, arith, append_assoc, length-append, map as map_list}
use Rattle.std.proofs.lemmas.List.{take_at, length-take-le, length-drop, length-map, get_or-map}
use Rattle.std.proofs.lemmas.Slice.{put_mid-paste}
use borrow.Rule.Slice.PartMut.{put_mid}
use Rattle.byteorder.specs.Endian.{little_bytes}
use Rattle.list_laws.proofs.ListLaws.{take_past}
use Rattle.cell_core.specs.Sites.{spelled, bytes_of}

spelled_take : (xs : List ℕ) (i : ℕ) → i < length xs → take (8 * i + 8) (spelled xs) ≡ take (8 * i) (spelled xs) ++ little_bytes 8 (get_or xs i 0)
spelled_take [] i h = absurd (omega arith)
spelled_take (x ∷ xs) zero h = take_at (little_bytes 8 x) (spelled xs) 8 refl
spelled_take (x ∷ xs) (suc i) h =
    let e : 8 * suc i + 8 ≡ 8 + (8 * i + 8) = omega arith in
    let f : 8 * suc i ≡ 8 + 8 * i = omega arith in
    rw (e, f) (take_past (little_bytes 8 x) (spelled xs) (8 * i + 8)
    ∙ ap (λ (ys : List ℕ). little_bytes 8 x ++ ys) (spelled_take xs i (omega arith))
    ∙ sym (append_assoc (little_bytes 8 x) (take (8 * i) (spelled xs)) (little_bytes 8 (get_or xs i 0)))
    ∙ ap (λ (ys : List ℕ). ys ++ little_bytes 8 (get_or xs i 0)) (sym (take_past (little_bytes 8 x) (spelled xs) (8 * i))))

-- a word more stands after those that stand there
pub spelled_more : (xs old new w : List ℕ) (i : ℕ) → i < length xs → 8 * i + 8 ≤ length old → new ≡ take (8 * i) old ++ w ++ drop (8 * i + 8) old → w ≡ little_bytes 8 (get_or xs i 0)
    → take (8 * i) old ≡ take (8 * i) (spelled xs) → take (8 * (i + 1)) new ≡ take (8 * (i + 1)) (spelled xs)
spelled_more xs old new w i h room e word before =
    let n : 8 * (i + 1) ≡ 8 * i + 8 = omega arith in
    let front : length (take (8 * i) old ++ w) ≡ 8 * i + 8 = omega (arith, length-append (take (8 * i) old) w, length-take-le (8 * i) old (omega arith), ap length word) in
    rw n (ap (take (8 * i + 8)) e ∙ take_at (take (8 * i) old ++ w) (drop (8 * i + 8) old) (8 * i + 8) front
    ∙ ap (λ (ys : List ℕ). ys ++ w) before ∙ ap (λ (ys : List ℕ). take (8 * i) (spelled xs) ++ ys) word ∙ sym (spelled_take xs i h))

fewer : (n m : ℕ) (xs : List ℕ) → n ≤ m → take n (take m xs) ≡ take n xs
fewer zero m xs h = refl
fewer (suc n) zero xs h = absurd (omega arith)
fewer (suc n) (suc m) [] h = refl
fewer (suc n) (suc m) (x ∷ xs) h = ap (λ (ys : List ℕ). x ∷ ys) (fewer n m xs (omega arith))

-- of so many whole words the first bytes
pub spelled_all : (xs bytes : List ℕ) (n m : ℕ) → n ≤ m → take m bytes ≡ take m (spelled xs) → take n bytes ≡ bytes_of n xs
spelled_all xs bytes n m h e = sym (fewer n m bytes h) ∙ ap (take n) e ∙ fewer n m (spelled xs) h

-- a word of a packet's cells more
pub spell_step : (v : ℕ → ℕ) (ws old ys w : List ℕ) (i k x : ℕ) → i < length ws → length old ≡ 64 → 8 * i + 8 ≤ 64 → k ≡ 8 → ys ≡ w → w ≡ little_bytes 8 x → x ≡ v (get_or ws i 0)
    → take (8 * i) old ≡ take (8 * i) (spelled (map_list v ws))
    → (length (put_mid (8 * i) k old ys) ≡ 64) × (take (8 * (i + 1)) (put_mid (8 * i) k old ys) ≡ take (8 * (i + 1)) (spelled (map_list v ws)))
spell_step v ws old ys w i k x l long room e f g h before =
    let bytes : ys ≡ little_bytes 8 x = f ∙ g in
    let eight : 8 ≡ length ys = sym (ap length bytes) in
    let put : put_mid (8 * i) k old ys ≡ take (8 * i) old ++ take 8 ys ++ drop (8 * i + 8) old = put_mid-paste (8 * i) k old ys ys 8 refl (sym e) eight in
    let word : take 8 ys ≡ little_bytes 8 (get_or (map_list v ws) i 0) = ap (take 8) bytes ∙ ap (little_bytes 8) (h ∙ sym (get_or-map v ws i 0 0 l)) in
    let n : i < length (map_list v ws) = omega (arith, length-map ws v, l) in
    let m : 8 * i + 8 ≤ length old = omega (arith, long, room) in
    (ap length put ∙ put_length old (take 8 ys) (8 * i) long room (ap length word), spelled_more (map_list v ws) old (put_mid (8 * i) k old ys) (take 8 ys) i n m put word before)
  where
    put_length : (old w : List ℕ) (a : ℕ) → length old ≡ 64 → a + 8 ≤ 64 → length w ≡ 8 → length (take a old ++ w ++ drop (a + 8) old) ≡ 64
    put_length old w a long room e =
        omega (arith, length-append (take a old ++ w) (drop (a + 8) old), length-append (take a old) w, length-take-le a old (omega arith), length-drop (a + 8) old, e, long)
