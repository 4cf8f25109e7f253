-- More cells.
use Rattle.std.proofs.Common.{ℕ, List, subst, arith}
use Rattle.xdp_machine.specs.State.{PacketIn}
use Rattle.cell_core.specs.Cells.{CellView}
use Rattle.operator_cells.specs.Making.{GrowsWith, Grows, Makes}
use Rattle.operator_cells.specs.Following.{Goes, IsFollowed}
use Rattle.operator_cells.specs.declared.held_cells.way.Way.{Way}
use Rattle.edge_cells.specs.Meeting.{Picks}
use Rattle.edge_cells.specs.Pointing.{Follows}
use Rattle.operator_cells.proofs.MakingLaws.{grown}

pub picks_after : {a b d : List CellView} {here : List Way} {brings : (ℕ → ℕ) → Way → ℕ} {c : ℕ} → Grows a b → Picks b d here brings c → Picks a d here brings c
picks_after g p = record { grows = grown g p.grows; there = p.there; value = p.value }

pub picks_before : {a b d : List CellView} {here : List Way} {brings : (ℕ → ℕ) → Way → ℕ} {c : ℕ} → Picks a b here brings c → Grows b d → Picks a d here brings c
picks_before p g = record { grows = grown p.grows g; there = omega (arith, p.there, g.longer); value = λ packet v d r. p.value packet v d (g.run packet v r) }

-- numbers that go with more cells go with those that were there
pub followed_before : {R : ℕ → ℕ → Type 0} {a b : List CellView} {v u : ℕ → ℕ} → GrowsWith R a b → IsFollowed b v u → IsFollowed a v u
followed_before {v = v} {u = u} g f = record { each = λ k l. subst (λ (c : CellView). Goes v u c.ins c.op (u k)) (g.kept k l) (f.each k (omega (arith, l, g.longer))) }

pub follows_before : {a b : List CellView} {here : List Way} {brings : (ℕ → ℕ) → Way → ℕ} {c : ℕ} → Follows a here brings c → Grows a b → Follows b here brings c
follows_before f g = record { goes = λ v u d all. f.goes v u d (followed_before g all) }
