-- The parts of a small object, from its first on.
use Rattle.std.proofs.Common.{◌≡◌, ℕ, List, ◌++◌}
use Rattle.std.proofs.lemmas.List.{append_assoc}

pub regrouped : (h c s r m t b x : List ℕ) → h ++ c ++ s ++ r ++ m ++ t ++ b ++ x ≡ h ++ (c ++ (s ++ (r ++ (m ++ (t ++ (b ++ x))))))
regrouped h c s r m t b x = simp append_assoc
