-- A word and its bytes, the lowest first.
use Rattle.std.proofs.Common.{◌≡◌, ℕ, zero, suc, ◌+◌, ◌*◌, ◌/◌, ◌%◌, ◌^◌, ◌<◌, ◌≤◌, min, List, [], ◌∷◌, length, take, get_or, refl, sym, ap, ◌∙◌, arith}
use Rattle.std.proofs.Math.Nat.{div-one, div-div-eq-div-mul, pow-suc, mod-lt}
use Rattle.std.specs.Int.{byte_at, bytes_low_first}
use Rattle.byteorder.specs.Endian.{little_from}
use Rattle.byteorder.specs.Numbers.{little_from-cons}
use Rattle.beat_core.specs.Words.{low_bytes, word_of}
use Rattle.list_laws.specs.Bytes.{IsBytes}

-- ---- one step of the definitions

pub low_bytes-zero : (word : ℕ) → low_bytes 0 word ≡ []
unfolding low_bytes
low_bytes-zero word = refl

pub low_bytes-suc : (n word : ℕ) → low_bytes (suc n) word ≡ word % 256 ∷ low_bytes n (word / 256)
unfolding low_bytes
low_bytes-suc n word = refl

pub word_of-nil : word_of [] ≡ 0
unfolding word_of
word_of-nil = refl

pub word_of-cons : (x : ℕ) (xs : List ℕ) → word_of (x ∷ xs) ≡ x + 256 * word_of xs
unfolding word_of
word_of-cons x xs = refl

-- ---- bytes of a word

pub length-low_bytes : (n word : ℕ) → length (low_bytes n word) ≡ n
unfolding low_bytes
length-low_bytes zero word = refl
length-low_bytes (suc n) word = ap suc (length-low_bytes n (word / 256))

pub take-low_bytes : (n m word : ℕ) → n ≤ m → take n (low_bytes m word) ≡ low_bytes n word
unfolding low_bytes
take-low_bytes zero m word h = refl
take-low_bytes (suc n) zero word h = absurd (omega arith)
take-low_bytes (suc n) (suc m) word h =
    ap (λ (r : List ℕ). word % 256 ∷ r) (take-low_bytes n m (word / 256) (omega arith))

pub IsBytes-low_bytes : (n word : ℕ) → IsBytes (low_bytes n word)
unfolding low_bytes
IsBytes-low_bytes zero word i = omega arith
IsBytes-low_bytes (suc n) word zero = mod-lt word (omega arith)
IsBytes-low_bytes (suc n) word (suc i) = IsBytes-low_bytes n (word / 256) i

-- byte i of a word
pub get_or-low_bytes : (n word i : ℕ) → i < n → get_or (low_bytes n word) i 0 ≡ word / 256 ^ i % 256
unfolding low_bytes
get_or-low_bytes zero word i h = absurd (omega arith)
get_or-low_bytes (suc n) word zero h = ap (λ (w : ℕ). w % 256) (sym (div-one word))
get_or-low_bytes (suc n) word (suc i) h =
    get_or-low_bytes n (word / 256) i (omega arith)
    ∙ ap (λ (w : ℕ). w % 256) (div-div-eq-div-mul word 256 (256 ^ i) ∙ ap (λ (p : ℕ). word / p) (sym (pow-suc 256 i ∙ omega arith)))

-- ---- a word and its bytes are each other's inverse

pub word_of-low_bytes : (n word : ℕ) → word < 256 ^ n → word_of (low_bytes n word) ≡ word
unfolding low_bytes word_of
word_of-low_bytes zero word h = omega arith
word_of-low_bytes (suc n) word h =
    let whole : 256 ^ suc n ≡ 256 ^ n * 256 = pow-suc 256 n in
    let rest : word_of (low_bytes n (word / 256)) ≡ word / 256 = word_of-low_bytes n (word / 256) (omega arith) in
    omega arith

pub low_bytes-word_of : (xs : List ℕ) → IsBytes xs → low_bytes (length xs) (word_of xs) ≡ xs
unfolding low_bytes word_of
low_bytes-word_of [] h = refl
low_bytes-word_of (x ∷ xs) h =
    let byte : x < 256 = h 0 in
    let first : (x + 256 * word_of xs) % 256 ≡ x = omega arith in
    let rest : (x + 256 * word_of xs) / 256 ≡ word_of xs = omega arith in
    rw (first, rest) (ap (λ (r : List ℕ). x ∷ r) (low_bytes-word_of xs (λ i. h (suc i))))

pub word_of-lt : (xs : List ℕ) → IsBytes xs → word_of xs < 256 ^ length xs
unfolding word_of
word_of-lt [] h = omega arith
word_of-lt (x ∷ xs) h =
    let byte : x < 256 = h 0 in
    let rest : word_of xs < 256 ^ length xs = word_of-lt xs (λ i. h (suc i)) in
    let whole : 256 ^ suc (length xs) ≡ 256 ^ length xs * 256 = pow-suc 256 (length xs) in
    omega arith

-- ---- what the calls on byte order say

-- the number that is read from the first n bytes
pub little_from-word_of : (n : ℕ) (xs : List ℕ) → n ≤ length xs → little_from 0 n xs ≡ word_of (take n xs)
unfolding word_of
little_from-word_of zero xs h = refl
little_from-word_of (suc n) [] h = absurd (omega arith)
little_from-word_of (suc n) (x ∷ xs) h =
    ap (λ (r : ℕ). x + 256 * r) (little_from-cons 0 n x xs ∙ little_from-word_of n xs (omega arith))

byte_at-div : (i word : ℕ) → byte_at i word ≡ word / 256 ^ i % 256
byte_at-div zero word = ap (λ (w : ℕ). w % 256) (sym (div-one word))
byte_at-div (suc i) word = refl

-- the bytes that are written of a word from byte i on
pub bytes_low_first-low_bytes : (i n word : ℕ) → bytes_low_first i n word ≡ low_bytes n (word / 256 ^ i)
unfolding low_bytes
bytes_low_first-low_bytes i zero word = refl
bytes_low_first-low_bytes i (suc n) word =
    let shift : word / 256 ^ i / 256 ≡ word / 256 ^ suc i = div-div-eq-div-mul word (256 ^ i) 256 ∙ ap (λ (p : ℕ). word / p) (sym (pow-suc 256 i)) in
    rw (byte_at-div i word, shift) (ap (λ (r : List ℕ). word / 256 ^ i % 256 ∷ r) (bytes_low_first-low_bytes (suc i) n word))

-- the first n bytes that are written of a word
pub written_bytes : (n word : ℕ) → n ≤ 8 → take n (bytes_low_first 0 8 word) ≡ low_bytes n word
written_bytes n word h =
    ap (take n) (bytes_low_first-low_bytes 0 8 word ∙ ap (low_bytes 8) (div-one word)) ∙ take-low_bytes n 8 word h

-- the first bytes of the word are those of the beat
pub prefix_is : (n k word : ℕ) (bytes : List ℕ) → n ≡ min k 8 → bytes ≡ low_bytes 8 word → take n bytes ≡ low_bytes (min k 8) word
prefix_is n k word bytes count whole =
    ap (take n) whole ∙ take-low_bytes n 8 word (omega arith) ∙ ap (λ m. low_bytes m word) count
