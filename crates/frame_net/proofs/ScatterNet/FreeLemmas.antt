-- No product stands in the block of answers.
use Rattle.std.specs.Prelude.{◌≡◌, ℕ, zero, suc, ◌-◌, Bool, true, List, [], ◌∷◌}
use Rattle.std.specs.List.{list_all}
use Rattle.std.proofs.Common.{refl}
use Rattle.net_core.specs.ProductRules.Products.{is_flat}
use Rattle.block_core.specs.ProductBlocks.Alone.{wire_flat, IsFree}
use Rattle.block_core.specs.declared.name.Name.{Name}
use Rattle.block_core.proofs.list_laws_laws.BoolLaws.{and_is}
use Rattle.frame_net.specs.declared.held.Kept.{Kept}
use Rattle.frame_net.specs.Frames.{banks}
use Rattle.frame_net.specs.ScatterNet.ScatterNets.{beat_from, word_wires, scatter_block}

module _ {P : Type 0} (p gather exit : P) (bits : ℕ) (kept : List Kept) (bytes : List ℕ) (slot : Name P) (made : Name P → Bool) where
  beat_flat : (b n : ℕ) → is_flat made (beat_from p gather bits kept b n) ≡ true
  beat_flat b zero = refl
  beat_flat b (suc n) = beat_flat (suc b) n

  words_flat : (ws : List ℕ) (i : ℕ) → list_all (wire_flat made) (word_wires p exit slot bytes i ws) ≡ true
  words_flat [] i = refl
  words_flat (w ∷ ws) i = words_flat ws (suc i)

pub is_free : {P : Type 0} (p gather exit : P) (bits : ℕ) (kept : List Kept) (words bytes : List ℕ) (taken slot : Name P) → IsFree (scatter_block p gather exit bits kept words bytes taken slot)
is_free p gather exit bits kept words bytes taken slot = record {
  wires = λ made. and_is _ _ (beat_flat p gather exit bits kept bytes slot made 0 (banks bits - 1)) (words_flat p gather exit bits kept bytes slot made words 0);
  statement = λ made. refl;
}
