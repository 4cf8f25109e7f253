-- Bytes of a frame that cells write.
use Rattle.std.specs.Prelude.{slice_set}
use Rattle.std.proofs.Common.{◌≡◌, ℕ, suc, ◌<◌, List, [], ◌∷◌, length, get_or, refl, ◌∙◌, arith, length-set}
use Rattle.list_laws.specs.Bytes.{IsBytes}
use Rattle.list_laws.proofs.ByteLaws.{IsBytes-set}
use Rattle.cell_core.specs.declared.program.FrameByte.{FrameByte}
use Rattle.cell_core.specs.Sites.{with_bytes}

pub with_bytes_length : (v : ℕ → ℕ) (frame : List ℕ) (bs : List FrameByte) → length (with_bytes v frame bs) ≡ length frame
with_bytes_length v frame [] = refl
with_bytes_length v frame (b ∷ bs) = with_bytes_length v (slice_set frame b.at (v b.cell)) bs ∙ length-set frame b.at (v b.cell)

pub with_bytes_bytes : (v : ℕ → ℕ) (frame : List ℕ) (bs : List FrameByte) → ((j : ℕ) (d : FrameByte) → j < length bs → v (get_or bs j d).cell < 256) → IsBytes frame → IsBytes (with_bytes v frame bs)
with_bytes_bytes v frame [] h b = b
with_bytes_bytes v frame (x ∷ bs) h b = with_bytes_bytes v (slice_set frame x.at (v x.cell)) bs (λ j d lt. h (suc j) d (omega arith)) (IsBytes-set frame x.at (v x.cell) (h 0 x (omega arith)) b)
