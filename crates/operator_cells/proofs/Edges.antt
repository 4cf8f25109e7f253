-- The bits of edges.
use Rattle.std.proofs.Common.{◌≡◌, ℕ, zero, suc, ◌-◌, ◌^◌, ◌<◌, Bool, true, false, not, ◌&&◌, List, refl, ◌∙◌, ap, arith}
use Rattle.cell_core.specs.bpf_isa.declared.operation.AluCode.TheVariants.{And}
use Rattle.cell_core.specs.xdp_machine.Arithmetic.{low, arithmetic}
use Rattle.cell_core.specs.xdp_machine.State.{PacketIn}
use Rattle.kind_core.specs.Edges.{agrees}
use Rattle.cell_core.specs.Cells.{CellView, IsRun, bit, on, bits_from}
use Rattle.operator_cells.specs.Making.{Grows, Makes, MakesIf}
use Rattle.operator_cells.proofs.Growing.{grown}
use Rattle.operator_cells.proofs.MakingLaws.{not_bit}

pub is_bit : (n : ℕ) → n < 2 → n ≡ bit (on n)
is_bit zero h = refl
is_bit (suc zero) h = refl
is_bit (suc (suc n)) h = absurd (omega arith)

both : (a b : Bool) → bits_from (arithmetic And false 64 (low 64 (bit a)) (low 64 (bit b))) 0 1 ≡ bit (a && b)
both true true = refl
both true false = refl
both false true = refl
both false false = refl

pub taken_is : (g c : ℕ) → g < 2 → c < 2 → bits_from (arithmetic And false 64 (low 64 g) (low 64 c)) 0 1 ≡ bit (on g && agrees true (on c))
taken_is g c h k =
    ap (λ (n : ℕ). bits_from (arithmetic And false 64 (low 64 n) (low 64 c)) 0 1) (is_bit g h)
    ∙ ap (λ (n : ℕ). bits_from (arithmetic And false 64 (low 64 (bit (on g))) (low 64 n)) 0 1) (is_bit c k)
    ∙ both (on g) (on c)

pub passed_is : (g c d : ℕ) → g < 2 → c < 2 → d ≡ low 1 (2 ^ 64 - 1 - c) → bits_from (arithmetic And false 64 (low 64 g) (low 64 d)) 0 1 ≡ bit (on g && agrees false (on c))
passed_is g c d h k e =
    ap (λ (n : ℕ). bits_from (arithmetic And false 64 (low 64 n) (low 64 d)) 0 1) (is_bit g h)
    ∙ ap (λ (n : ℕ). bits_from (arithmetic And false 64 (low 64 (bit (on g))) (low 64 n)) 0 1) (e ∙ ap (λ (n : ℕ). low 1 (2 ^ 64 - 1 - n)) (is_bit c k) ∙ not_bit (on c))
    ∙ both (on g) (not (on c))

pub makes_if : (a b d : List CellView) (c : ℕ) (P : (ℕ → ℕ) → Type 0) (f g : PacketIn → (ℕ → ℕ) → ℕ) → Grows a b → Makes b d c f
    → ((packet : PacketIn) (v : ℕ → ℕ) → IsRun packet b v → P v → f packet v ≡ g packet v) → MakesIf a d c P g
makes_if a b d c P f g before made same = record {
  grows = grown a b d before made.grows;
  there = made.there;
  value = λ packet v r p. made.value packet v r ∙ same packet v (made.grows.run packet v r) p;
}
