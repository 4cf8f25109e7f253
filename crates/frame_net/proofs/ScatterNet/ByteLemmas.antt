-- Bytes of words, and of the words of frames.
use Rattle.std.specs.Prelude.{◌≡◌, ℕ, zero, suc, ◌+◌, ◌-◌, ◌*◌, ◌/◌, ◌%◌, ◌^◌, ◌<◌, nat_eq, true, false, min, List, [], ◌∷◌, length, take, drop, map, Contains}
use Rattle.std.proofs.Common.{get_or, refl, sym, ap, ◌∙◌, arith}
use Rattle.std.proofs.Math.Nat.{pow-suc}
use Rattle.std.proofs.lemmas.Nat.{pow-add}
use Rattle.std.proofs.lemmas.Bool.{eqb-true, false≢true}
use Rattle.std.proofs.lemmas.List.{length-take, length-drop, get_or-take, get_or-drop}
use Rattle.std.proofs.lemmas.Grind.{same_number_lists}
use Rattle.std.proofs.lemmas.Map.Views.{list_any-from_Contains, Contains-from_any}
use Rattle.std.specs.Cmp.{nat_eq_equiv}
use Rattle.beat_core.specs.list_laws.Bytes.{IsBytes}
use Rattle.beat_core.proofs.list_laws_laws.ByteLaws.{IsBytes-take, IsBytes-drop}
use Rattle.beat_core.specs.Words.{low_bytes, word_of}
use Rattle.beat_core.proofs.WordLaws.{get_or-low_bytes, length-low_bytes, low_bytes-word_of}
use Rattle.frame_net.specs.Frames.{beat_of}
use Rattle.frame_net.specs.Answers.{byte_of}
use Rattle.frame_net.specs.ScatterNet.ScatterNets.{may_change}

pow_byte : (k : ℕ) → 256 ^ k ≡ 2 ^ (8 * k)
pow_byte zero = refl
pow_byte (suc k) =
    let e : 8 * suc k ≡ 8 * k + 8 = omega arith in
    let n : 256 ^ suc k ≡ 256 ^ k * 256 = pow-suc 256 k in
    let m : 2 ^ (8 * k + 8) ≡ 2 ^ (8 * k) * 256 = pow-add 2 (8 * k) 8 in
    n ∙ ap (λ x. x * 256) (pow_byte k) ∙ sym m ∙ ap (λ i. 2 ^ i) (sym e)

-- a byte of a word is one of its low bytes
low_byte : (n d k : ℕ) → k < n → get_or (low_bytes n d) k 0 ≡ byte_of d k
low_byte n d k l = get_or-low_bytes n d k l ∙ ap (λ m. d / m % 256) (pow_byte k)

-- a word of bytes has them
pub word_byte : (xs : List ℕ) (k : ℕ) → IsBytes xs → k < length xs → byte_of (word_of xs) k ≡ get_or xs k 0
word_byte xs k b l = sym (low_byte (length xs) (word_of xs) k l) ∙ ap (λ ys. get_or ys k 0) (low_bytes-word_of xs b)

-- a word with some low bytes has them
pub low_bytes_are : (xs : List ℕ) (n d : ℕ) → length xs ≡ n → ((k : ℕ) → k < n → byte_of d k ≡ get_or xs k 0) → low_bytes n d ≡ xs
low_bytes_are xs n d e h = same_number_lists (low_bytes n d) xs (length-low_bytes n d ∙ sym e) (λ k l. let m : k < n = omega (arith, length-low_bytes n d) in low_byte n d k m ∙ h k m)

-- a byte of a beat
pub beat_byte : (xs : List ℕ) (b k : ℕ) → IsBytes xs → k < 8 → 8 * b + k < length xs → byte_of (beat_of xs b).word k ≡ get_or xs (8 * b + k) 0
beat_byte xs b k h few within =
    let ys : List ℕ = take 8 (drop (8 * b) xs) in
    let n : length ys ≡ min 8 (length xs - 8 * b) = length-take 8 (drop (8 * b) xs) ∙ ap (min 8) (length-drop (8 * b) xs) in
    word_byte ys k (IsBytes-take 8 (drop (8 * b) xs) (IsBytes-drop (8 * b) xs h)) (omega (arith, n))
    ∙ get_or-take 8 (drop (8 * b) xs) k 0 few
    ∙ get_or-drop (8 * b) xs k 0

-- the word of a beat, by its bytes
pub beat_word : (xs : List ℕ) (b n d : ℕ) → n ≡ (beat_of xs b).bytes → ((k : ℕ) → k < 8 → 8 * b + k < length xs → byte_of d k ≡ get_or xs (8 * b + k) 0) → word_of (low_bytes n d) ≡ (beat_of xs b).word
beat_word xs b n d e h =
    let rest : List ℕ = drop (8 * b) xs in
    let m : length rest ≡ length xs - 8 * b = length-drop (8 * b) xs in
    ap word_of
    (low_bytes_are (take 8 rest) n d (length-take 8 rest ∙ sym e)
    (λ k l. let few : k < 8 = omega (arith, e) in let within : 8 * b + k < length xs = omega (arith, e, m) in h k few within ∙ sym (get_or-take 8 rest k 0 few ∙ get_or-drop (8 * b) xs k 0)))

-- ---- eight numbers below 256, the first the lowest
abbrev pub eight : (ℕ → ℕ) → List ℕ
eight f = f 0 ∷ f 1 ∷ f 2 ∷ f 3 ∷ f 4 ∷ f 5 ∷ f 6 ∷ f 7 ∷ []

IsBytes-map : (f : ℕ → ℕ) → ((k : ℕ) → f k < 256) → (xs : List ℕ) → IsBytes (map f xs)
IsBytes-map f h [] i = omega arith
IsBytes-map f h (x ∷ xs) zero = h x
IsBytes-map f h (x ∷ xs) (suc i) = IsBytes-map f h xs i

eight_at : (f : ℕ → ℕ) (k : ℕ) → k < 8 → get_or (eight f) k 0 ≡ f k
eight_at f zero l = refl
eight_at f (suc zero) l = refl
eight_at f (suc (suc zero)) l = refl
eight_at f (suc (suc (suc zero))) l = refl
eight_at f (suc (suc (suc (suc zero)))) l = refl
eight_at f (suc (suc (suc (suc (suc zero))))) l = refl
eight_at f (suc (suc (suc (suc (suc (suc zero)))))) l = refl
eight_at f (suc (suc (suc (suc (suc (suc (suc zero))))))) l = refl
eight_at f (suc (suc (suc (suc (suc (suc (suc (suc k)))))))) l = absurd (omega arith)

pub eight_byte : (f : ℕ → ℕ) (k : ℕ) → ((i : ℕ) → f i < 256) → k < 8 → byte_of (word_of (eight f)) k ≡ f k
eight_byte f k h l = word_byte (eight f) k (IsBytes-map f h (0 ∷ 1 ∷ 2 ∷ 3 ∷ 4 ∷ 5 ∷ 6 ∷ 7 ∷ [])) l ∙ eight_at f k l

-- their word, the highest before the others
pub eight_word : (f : ℕ → ℕ) → f 7 * 2 ^ 56 + (f 6 * 2 ^ 48 + (f 5 * 2 ^ 40 + (f 4 * 2 ^ 32 + (f 3 * 2 ^ 24 + (f 2 * 2 ^ 16 + (f 1 * 2 ^ 8 + f 0)))))) ≡ word_of (eight f)
unfolding word_of
eight_word f = omega arith

-- ---- which bytes may change
pub may : (bytes : List ℕ) (b : ℕ) → may_change bytes b ≡ true → Contains bytes b
may bytes b = Contains-from_any {eq = nat_eq} (λ x y. eqb-true x y) b bytes

pub may_not : (bytes : List ℕ) (b : ℕ) → may_change bytes b ≡ false → ¬ (Contains bytes b)
may_not bytes b e h = false≢true (sym e ∙ list_any-from_Contains {eq = nat_eq} nat_eq_equiv b bytes h)
