use Rattle.std.proofs.Common.{◌≢◌, ◌<◌, ℕ, List, map, get_or}
use Rattle.command_line.proofs.values.are_distinct.Given as goal

abbrev pub invariant-loop-later : goal.invariant-loop-later
invariant-loop-later l = (i j : ℕ) (d : List ℕ) → i < j → j < l.later → get_or (map (λ n. n.now) l.names) i d ≢ get_or (map (λ n. n.now) l.names) j d

abbrev pub invariant-loop-earlier : goal.invariant-loop-earlier
invariant-loop-earlier l = (i : ℕ) (d : List ℕ) → i < l.earlier → get_or (map (λ n. n.now) l.names) i d ≢ get_or (map (λ n. n.now) l.names) l.later d
