-- A clock keeps the number of registers.
use Rattle.std.specs.Prelude.{◌≡◌, ◌==◌, if◌then◌else◌, Bool, true, false, List, [], ◌∷◌, length}
use Rattle.std.proofs.Common.{refl, ◌∙◌}
use Rattle.net_core.specs.declared.tree.Word.{Word}
use Rattle.net_core.specs.Nets.{StatementTree, SBlock, SIf, SIfElse, SSet, SStore, StatementTrees, SEnd, SThen, Netlist}
use Rattle.net_core.specs.Value.{Env, value}
use Rattle.net_core.specs.Clock.{Stored, done, all_done, edge, env_of}
use Rattle.register_rules.specs.EqualRegisters.Equal.{StayEqual}
use Rattle.std.proofs.lemmas.List.{length-set}

choice_count : (t : Bool) (s u : Stored) (n : List Word) → length s.registers ≡ length n → length u.registers ≡ length n → length (if t then s else u).registers ≡ length n
choice_count true s u n x y = x
choice_count false s u n x y = y

mutual
  pub done_count : {N : Type 0} (v : Env N) (a : StatementTree N) (s : Stored) → length (done v a s).registers ≡ length s.registers
  done_count v (SBlock more) s = all_done_count v more s
  done_count v (SIf c a) s = choice_count ((value v c).value == 0) s (done v a s) s.registers refl (done_count v a s)
  done_count v (SIfElse c a b) s = choice_count ((value v c).value == 0) (done v b s) (done v a s) s.registers (done_count v b s) (done_count v a s)
  done_count v (SSet r e) s = length-set s.registers r (value v e)
  done_count v (SStore m i e) s = refl

  pub all_done_count : {N : Type 0} (v : Env N) (more : StatementTrees N) (s : Stored) → length (all_done v more s).registers ≡ length s.registers
  all_done_count v SEnd s = refl
  all_done_count v (SThen a more) s = all_done_count v more (done v a s) ∙ done_count v a s

pub edge_count : {N : Type 0} (v : Env N) (rest : List (StatementTree N)) (s : Stored) → length (edge v rest s).registers ≡ length s.registers
edge_count v [] s = refl
edge_count v (a ∷ rest) s = edge_count v rest (done v a s) ∙ done_count v a s

-- where no other register is listed
pub own_stay : (d : Netlist) → StayEqual d []
own_stay d = record {
  begins = record { count = refl; same = λ k. refl };
  stays = λ ins s h. record { count = edge_count (env_of d ins s) d.always s ∙ h.count; same = λ k. refl };
}
