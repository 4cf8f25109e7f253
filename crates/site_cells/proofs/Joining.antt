-- Bytes joined to words.
use Rattle.std.proofs.Common.{◌≡◌, ℕ, suc, ◌+◌, ◌-◌, ◌*◌, ◌<◌, ◌≤◌, List, [], ◌∷◌, ◌++◌, length, length-append, append_assoc, take, drop, min, slice_range, map as map_list, refl, sym, ◌∙◌, ap, subst, arith}
use Rattle.std.specs.Prelude.{All}
use Rattle.std.proofs.lemmas.List.{take_all, take-take, take-append-drop, drop-take, take-map, drop-map, map-append, length-map, length-take, length-drop}
use Rattle.std.proofs.lemmas.List.Elements.{All-take, All-drop, All-push, All-map}
use Rattle.byteorder.specs.Endian.{little_number, little_bytes}
use Rattle.cell_core.specs.beat_core.Words.{low_bytes, word_of}
use Rattle.cell_core.proofs.beat_core_laws.WordLaws.{little_from-word_of, low_bytes-word_of, written_bytes}
use Rattle.cell_core.specs.xdp_machine.State.{PacketIn}
use Rattle.kind_core.proofs.xdp_machine_laws.PartLaws.{at_or}
use Rattle.cell_core.specs.Cells.{CellView, IsRun}
use Rattle.cell_core.specs.Sites.{spelled, bytes_of}
use Rattle.cell_core.proofs.SpelledLaws.{spelled_length}
use Rattle.operator_cells.specs.Making.{Grows, MakesIf}
use Rattle.operator_cells.proofs.MakingLaws.{grown, grown_none}
use Rattle.site_cells.specs.Words.{JoinsWords}

take_over : (xs ys : List ℕ) (k : ℕ) → take (length xs + k) (xs ++ ys) ≡ xs ++ take k ys
take_over [] ys k = let e : 0 + k ≡ k = omega arith in ap (λ (n : ℕ). take n ys) e
take_over (x ∷ xs) ys k =
    let e : suc (length xs) + k ≡ suc (length xs + k) = omega arith in
    ap (λ (n : ℕ). take n (x ∷ xs ++ ys)) e ∙ ap (λ (zs : List ℕ). x ∷ zs) (take_over xs ys k)

take_split : (a k : ℕ) (xs : List ℕ) → take a xs ++ take k (drop a xs) ≡ take (a + k) xs
take_split a k xs =
    ap (λ (ys : List ℕ). ys ++ take k (drop a xs)) (sym (take-take a (a + k) xs (omega arith)))
    ∙ ap (λ (ys : List ℕ). take a (take (a + k) xs) ++ ys) (sym (drop-take a k xs))
    ∙ take-append-drop a (take (a + k) xs)

spelled_more : (xs : List ℕ) (x : ℕ) → spelled (xs ++ x ∷ []) ≡ spelled xs ++ little_bytes 8 x
spelled_more [] x = refl
spelled_more (y ∷ xs) x = ap (λ (bs : List ℕ). little_bytes 8 y ++ bs) (spelled_more xs x) ∙ sym (append_assoc (little_bytes 8 y) (spelled xs) (little_bytes 8 x))

-- the first bytes of the number that they are
little_back : (xs : List ℕ) → length xs ≤ 8 → All (λ b. b < 256) xs → take (length xs) (little_bytes 8 (little_number (length xs) xs)) ≡ xs
little_back xs h all =
    written_bytes (length xs) _ h
    ∙ ap (low_bytes (length xs)) (little_from-word_of (length xs) xs (omega arith) ∙ ap word_of (take_all (length xs) xs (omega arith)))
    ∙ low_bytes-word_of xs (λ i. at_or (λ b. b < 256) xs i 0 all (omega arith))

-- a word more
words_step : (words bytes part : List ℕ) (a x : ℕ) → spelled words ≡ take a bytes → a ≡ 8 * length words → part ≡ take (length part) (drop a bytes) → length part ≤ 8 → All (λ b. b < 256) part
    → x ≡ little_number (length part) part → bytes_of (a + length part) (words ++ x ∷ []) ≡ take (a + length part) bytes
words_step words bytes part a x same whole is most all e =
    let k : ℕ = length part in
    let long : a ≡ length (spelled words) = omega (arith, spelled_length words, whole) in
    ap (take (a + k)) (spelled_more words x)
    ∙ ap (λ (n : ℕ). take (n + k) (spelled words ++ little_bytes 8 x)) long
    ∙ take_over (spelled words) (little_bytes 8 x) k
    ∙ ap (λ (n : ℕ). spelled words ++ take k (little_bytes 8 n)) e
    ∙ ap (λ (xs : List ℕ). spelled words ++ xs) (little_back part most all)
    ∙ ap (λ (xs : List ℕ). xs ++ part) same
    ∙ ap (λ (xs : List ℕ). take a bytes ++ xs) is
    ∙ take_split a k bytes

-- the first words
pub record Joined (old new : List CellView) (bytes : List ℕ) (count : ℕ) (words : List ℕ) : Type 0 where
  pub grows : Grows old new
  pub there : All (λ c. c < length new) words
  pub long : length words ≡ count
  pub value : (packet : PacketIn) (v : ℕ → ℕ) → IsRun packet new v → All (λ c. v c < 256) bytes
      → bytes_of (min (8 * count) (length bytes)) (map_list v words) ≡ take (min (8 * count) (length bytes)) (map_list v bytes)

pub joined_none : (cells : List CellView) (bytes : List ℕ) → Joined cells cells bytes 0 []
joined_none cells bytes = record {
  grows = grown_none;
  there = λ j d l. absurd (omega (arith, l));
  long = refl;
  value = λ packet v run all. let e : min (8 * 0) (length bytes) ≡ 0 = omega arith in rw e refl;
}

pub joined_more : (old mid new : List CellView) (bytes part words more : List ℕ) (j end c : ℕ) → Joined old mid bytes j words → 8 * j < length bytes → end ≡ min (8 * j + 8) (length bytes) → part ≡ slice_range bytes (8 * j) end
    → MakesIf mid new c (λ v. All (λ i. v i < 256) part) (λ packet v. little_number (length part) (map_list v part)) → more ≡ words ++ c ∷ [] → Joined old new bytes (j + 1) more
joined_more old mid new bytes part words more j end c before some to named made is = record {
  grows = grown before.grows made.grows;
  there = subst (All (λ i. i < length new)) (sym is) (All-push (λ i. i < length new) words c (λ i d l. omega (arith, before.there i d l, made.grows.longer)) made.there);
  long = omega (arith, ap length is, length-append words (c ∷ []), before.long);
  value = λ packet v run all.
      let n : ℕ = length bytes in
      let a : ℕ = 8 * j in
      let first : min a n ≡ a = omega (arith, some) in
      let k : length part ≡ end - a = omega (arith, ap length named, length-take (end - a) (drop a bytes), length-drop a bytes, to, some) in
      let whole : min (8 * (j + 1)) n ≡ a + length part = omega (arith, k, to, some) in
      let old_words : bytes_of a (map_list v words) ≡ take a (map_list v bytes) = rw first at (before.value packet v (made.grows.run packet v run) all) in
      let long : a ≡ 8 * length (map_list v words) = omega (arith, length-map words v, before.long) in
      let spelled_is : spelled (map_list v words) ≡ take a (map_list v bytes) = sym (take_all a (spelled (map_list v words)) (omega (arith, spelled_length (map_list v words), long))) ∙ old_words in
      let small : All (λ i. v i < 256) part = subst (All (λ i. v i < 256)) (sym named) (All-take (λ i. v i < 256) (end - a) (drop a bytes) (All-drop (λ i. v i < 256) a bytes all)) in
      let long_part : length (map_list v part) ≡ length part = length-map part v in
      let part_is : map_list v part ≡ take (length (map_list v part)) (drop a (map_list v bytes)) =
      ap (map_list v) named ∙ sym (take-map v (end - a) (drop a bytes)) ∙ ap (take (end - a)) (sym (drop-map v a bytes)) ∙ ap (λ (i : ℕ). take i (drop a (map_list v bytes))) (sym k ∙ sym long_part) in
      let step = words_step (map_list v words) (map_list v bytes) (map_list v part) a (v c) spelled_is long part_is (omega (arith, long_part, k, to)) (All-map (λ b. b < 256) v part small)
      (made.value packet v run small ∙ ap (λ (i : ℕ). little_number i (map_list v part)) (sym long_part)) in
      let e : min (8 * (j + 1)) n ≡ a + length (map_list v part) = omega (arith, whole, long_part) in
      ap (bytes_of (min (8 * (j + 1)) n)) (ap (map_list v) is ∙ map-append v words (c ∷ []))
      ∙ ap (λ (i : ℕ). bytes_of i (map_list v words ++ v c ∷ [])) e ∙ step ∙ ap (λ (i : ℕ). take i (map_list v bytes)) (sym e);
}

pub joined_all : (old new : List CellView) (bytes words : List ℕ) (count : ℕ) → length bytes ≤ 8 * count → Joined old new bytes count words → JoinsWords old new bytes words
joined_all old new bytes words count enough all = record {
  grows = all.grows;
  there = all.there;
  enough = omega (arith, all.long, enough);
  value = λ packet v run small.
      let e : min (8 * count) (length bytes) ≡ length bytes = omega (arith, enough) in
      let same = rw e at (all.value packet v run small) in
      same ∙ take_all (length bytes) (map_list v bytes) (omega (arith, length-map bytes v));
}

pub part_there : (n m : ℕ) (bytes : List ℕ) (a b : ℕ) → n ≤ m → All (λ i. i < n) bytes → All (λ i. i < m) (slice_range bytes a b)
part_there n m bytes a b l all = All-take (λ i. i < m) (b - a) (drop a bytes) (All-drop (λ i. i < m) a bytes (λ i d h. omega (arith, l, all i d h)))
