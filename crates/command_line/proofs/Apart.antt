-- Names that are apart, seen as references or as texts.
use Rattle.std.proofs.Common.{◌≡◌, ◌≢◌, ◌∙◌, sym, ℕ, ◌<◌, List, [], map, get_or, length, Bor, true, false, arith}
use Rattle.std.specs.Str.{bytes_eq}
use Rattle.std.proofs.lemmas.List.{get_or-map, length-map}
use Rattle.std.proofs.lemmas.Slice.Eq.{bytes_eq-Decides}
use Rattle.command_line.specs.Means.{AreDistinct}

at_name : (names : List (Bor (List ℕ))) (i : ℕ) (d : Bor (List ℕ)) (e : List ℕ) → i < length names → get_or (map (λ n. n.now) names) i e ≡ (get_or names i d).now
at_name names i d e within = get_or-map (λ (n : Bor (List ℕ)). n.now) names i d e within

-- two names that are equal
pub equal_names : (names : List (Bor (List ℕ))) (i j : ℕ) (d : Bor (List ℕ)) → i < j → j < length names → bytes_eq (get_or names i d).now (get_or names j d).now ≡ true → ¬ AreDistinct (map (λ n. n.now) names)
equal_names names i j d below within eq apart =
    apart i j [] below (omega (arith, within, length-map names (λ (n : Bor (List ℕ)). n.now)))
    (at_name names i d [] (omega (arith, below, within)) ∙ (bytes_eq-Decides (get_or names i d).now (get_or names j d).now).0 eq ∙ sym (at_name names j d [] within))

-- two names that are not
pub other_names : (names : List (Bor (List ℕ))) (i j : ℕ) (d : Bor (List ℕ)) (e : List ℕ) → i < j → j < length names → bytes_eq (get_or names i d).now (get_or names j d).now ≡ false → get_or (map (λ n. n.now) names) i e ≢ get_or (map (λ n. n.now) names) j e
other_names names i j d e below within differ same =
    let yes : bytes_eq (get_or names i d).now (get_or names j d).now ≡ true =
    (bytes_eq-Decides (get_or names i d).now (get_or names j d).now).1 (sym (at_name names i d e (omega (arith, below, within))) ∙ same ∙ at_name names j d e within) in
    cc (yes, differ)
