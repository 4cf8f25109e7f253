-- Settling, one instruction after another.
use Rattle.std.proofs.Common.{◌≡◌, ℕ, suc, Bool, List, Option, Some, None, ◌∙◌, ap}
use Rattle.xdp_machine.specs.bpf_isa.declared.instruction.Insn.{Insn}
use Rattle.xdp_machine.specs.bpf_isa.Text.{insn_at}
use Rattle.xdp_machine.specs.Values.{◌>>=◌}
use Rattle.kind_core.specs.declared.kind.Kinds.{Kinds}
use Rattle.cover_core.specs.Settling.{side, sure_side, settled_by, settled_at, settled_within}

within_suc : (insns : List Insn) (k : Kinds) (n m place : ℕ) → n ≡ suc m → settled_within insns k n place ≡ settled_at (settled_within insns k m) k place (insn_at insns place)
unfolding settled_within
within_suc insns k n m place e = ap (λ x. settled_within insns k x place) e

pub within_out : (insns : List Insn) (k : Kinds) (n place : ℕ) → n ≡ 0 → settled_within insns k n place ≡ None
unfolding settled_within
within_out insns k n place e = ap (λ x. settled_within insns k x place) e

-- no instruction begins there
pub within_lost : (insns : List Insn) (k : Kinds) (n m place : ℕ) → n ≡ suc m → insn_at insns place ≡ None → settled_within insns k n place ≡ None
within_lost insns k n m place e at = within_suc insns k n m place e ∙ ap (settled_at (settled_within insns k m) k place) at

module _ (insns : List Insn) (k : Kinds) (n m place : ℕ) (i : Insn) (e : n ≡ suc m) (at : insn_at insns place ≡ Some i) where
  by_side : (s : Option Bool) → sure_side k i i.op ≡ s → settled_within insns k n place ≡ settled_by (settled_within insns k m) place i s
  by_side s is = within_suc insns k n m place e ∙ ap (settled_at (settled_within insns k m) k place) at ∙ ap (settled_by (settled_within insns k m) place i) is

  -- the run settles there
  pub within_here : sure_side k i i.op ≡ None → settled_within insns k n place ≡ Some place
  within_here is = by_side None is

  -- it goes on, to a place or to none
  pub within_on : (taken : Bool) (to : Option ℕ) → sure_side k i i.op ≡ Some taken → side place i taken ≡ to → settled_within insns k n place ≡ (to >>= settled_within insns k m)
  within_on taken to is led = by_side (Some taken) is ∙ ap (λ p. p >>= settled_within insns k m) led
