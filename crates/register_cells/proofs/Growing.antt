-- More cells, and tests.
use Rattle.std.proofs.Common.{◌≡◌, ℕ, Result, Ok, Err, IfOk, ◌∙◌, List}
use Rattle.cell_core.specs.xdp_machine.State.{PacketIn}
use Rattle.xdp_state.specs.declared.refusal.Why.{Why}
use Rattle.cell_core.specs.Cells.{CellView, IsRun}
use Rattle.operator_cells.specs.Making.{Grows, Makes}
use Rattle.operator_cells.proofs.MakingLaws.{grown}

-- a cell after others that were added before
pub makes_after : {a b d : List CellView} {c : ℕ} {f g : PacketIn → (ℕ → ℕ) → ℕ} → Grows a b → Makes b d c f
    → ((packet : PacketIn) (v : ℕ → ℕ) → IsRun packet b v → f packet v ≡ g packet v) → Makes a d c g
makes_after before made same = record {
  grows = grown before made.grows;
  there = made.there;
  value = λ packet v r. made.value packet v r ∙ same packet v (made.grows.run packet v r);
}

pub ok_map : {A : Type 0} (r : Result A Why) (P Q : A → Type 0) → ((a : A) → P a → Q a) → IfOk r P → IfOk r Q
ok_map (Ok a) P Q f h = f a h
ok_map (Err e) P Q f h = tt
