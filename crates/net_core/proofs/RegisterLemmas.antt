-- One step of the search for a register.
use Rattle.std.specs.Prelude.{◌≡◌, ℕ, zero, suc, ◌+◌, ◌-◌, ◌<◌, ◌≢◌, List, ◌∷◌, length, drop}
use Rattle.std.proofs.Common.{get_or, refl, ap, sym, ◌∙◌, arith}
use Rattle.std.proofs.lemmas.List.{drop_more}
use Rattle.net_core.specs.declared.tree.Word.{Word}
use Rattle.net_core.specs.declared.design.Declared.{Declared}
use Rattle.net_core.specs.declared.design.Declared.TheVariants.{Integer, Register}
use Rattle.net_core.specs.Width.{register_widths}

after_first : (x : ℕ) (xs : List ℕ) (k : ℕ) → k ≢ 0 → get_or (x ∷ xs) k 0 ≡ get_or xs (k - 1) 0
after_first x xs zero h = absurd (h refl)
after_first x xs (suc k) h = ap (λ n. get_or xs n 0) (omega arith)

pub register_passed : (ds : List Declared) (i : ℕ) (w : Word) (k left : ℕ) → i < length ds → get_or ds i Integer ≡ Register w → k ≢ 0 → left ≡ k - 1
    → get_or (register_widths (drop (i + 1) ds)) left 0 ≡ get_or (register_widths (drop i ds)) k 0
register_passed ds i w k left h r n e =
    ap (λ m. get_or (register_widths (drop (i + 1) ds)) m 0) e
    ∙ sym (ap (λ rest. get_or (register_widths rest) k 0) (drop_more ds i Integer h ∙ ap (λ y. y ∷ drop (i + 1) ds) r) ∙ after_first w.width (register_widths (drop (i + 1) ds)) k n)
