-- How long an object is at most.
use Rattle.std.proofs.Common.{ℕ, ◌+◌, ◌-◌, ◌*◌, ◌%◌, ◌≤◌, List, [], ◌∷◌, length, All, arith}
use Rattle.std.proofs.lemmas.List.Elements.{All-head, All-tail}
use Rattle.std.proofs.lemmas.Nat.{mod_below}
use Rattle.elf_view.specs.declared.object.MapRecord.{MapRecord}
use Rattle.elf_view.specs.Layout.{padded_size, names_size, strings_size, section_count, object_size}

padded_most : (n : ℕ) → padded_size n ≤ n + 7
padded_most n = let below = mod_below (8 - n % 8) 8 (omega arith) in omega (arith, below)

-- names of so many bytes at most
names_short : (maps : List MapRecord) → All (λ m. length m.name.now ≤ 64) maps → names_size maps ≤ 65 * length maps
names_short [] short = omega arith
names_short (m ∷ ms) short = let more = names_short ms (All-tail (λ m. length m.name.now ≤ 64) m ms short) in let first = All-head (λ m. length m.name.now ≤ 64) m ms short in omega (arith, more, first)

strings_short : (name : List ℕ) (maps : List MapRecord) → All (λ m. length m.name.now ≤ 64) maps → strings_size name maps ≤ 35 + length name + 65 * length maps
strings_short name [] short = omega arith
strings_short name (m ∷ ms) short = let more = names_short (m ∷ ms) short in omega (arith, more)

sections_few : (maps : List MapRecord) → section_count maps ≤ 6
sections_few [] = omega arith
sections_few (m ∷ ms) = omega arith

sum_short : (c n r p q s : ℕ) → c ≤ 65536 → n ≤ 16 → r ≤ 4096 → p ≤ 20 * n + 7 → q ≤ 5178 → s ≤ 6 → 64 + c + 24 * (2 + n) + 16 * r + p + q + 64 * s ≤ 1048576
sum_short c n r p q s a b d e f g = omega arith

-- the object of short parts
pub object_short : (name code : List ℕ) (maps : List MapRecord) (refs : List (ℕ × ℕ)) → length name ≤ 4096 → length code ≤ 65536 → length maps ≤ 16 → length refs ≤ 4096 → All (λ m. length m.name.now ≤ 64) maps
    → object_size name code maps refs ≤ 1048576
object_short name code maps refs name_short code_short few refs_few short =
    let strings = strings_short name maps short in
    let padded = padded_most (strings_size name maps) in
    let few_bytes : padded_size (strings_size name maps) ≤ 5178 = under (padded_size (strings_size name maps)) (strings_size name maps) (length name) (length maps) padded strings name_short few in
    sum_short (length code) (length maps) (length refs) (padded_size (20 * length maps)) (padded_size (strings_size name maps)) (section_count maps)
    code_short few refs_few (padded_most (20 * length maps)) few_bytes (sections_few maps)
  where
    under : (p s n m : ℕ) → p ≤ s + 7 → s ≤ 35 + n + 65 * m → n ≤ 4096 → m ≤ 16 → p ≤ 5178
    under p s n m a b c d = omega arith
