-- Values that have the widths of a scope.
use Rattle.std.specs.Prelude.{◌≡◌, ℕ, ◌^◌, ◌<◌}
use Rattle.net_core.specs.declared.tree.Word.{Word}
use Rattle.net_core.specs.Value.{Env}
use Rattle.net_core.specs.Width.{Fits, Scope}

pub record IsOfWidth (w : ℕ) (x : Word) : Type 0 where
  pub width : x.width ≡ w
  pub fits : Fits x

-- what is there, has its width
pub record Suits {N : Type 0} (s : Scope N) (v : Env N) : Type 0 where
  pub net : (n : N) → 0 < s.net n → IsOfWidth (s.net n) (v.net n)
  pub memory_word : (m : N) (a : ℕ) → 0 < s.memory_word m → a < 2 ^ s.index m → IsOfWidth (s.memory_word m) (v.memory_word m a)
