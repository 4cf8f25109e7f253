-- What the registers of several sites take.
use Rattle.std.proofs.Common.{◌≡◌, ◌∙◌, ℕ, zero, suc, ◌+◌, ◌<◌, All, List, [], ◌∷◌, ◌++◌, length, take, get_or, sym, ap, subst, arith, map as map_list}
use Rattle.std.proofs.lemmas.List.{map_push, take_more}
use Rattle.block_core.specs.net_core.Value.{Env}
use Rattle.block_core.specs.declared.name.Name.{Name}
use Rattle.block_core.specs.Blocks.{BlockWireTree}
use Rattle.overlay_net.specs.xdp_maps.declared.decl.MapDecl.{MapDecl}
use Rattle.overlay_net.specs.cell_core.Sites.{ProgramView}
use Rattle.overlay_net.specs.cell_nets.declared.operand.Operand.{Operand}
use Rattle.overlay_net.specs.cell_nets.declared.operand.Operand.TheVariants.{Net}
use Rattle.overlay_net.specs.cell_nets.Operands.{IsAvailable}
use Rattle.overlay_net.specs.cell_nets.Wires.{always}
use Rattle.overlay_net.specs.cell_nets.StepNets.Standing.{Stands}
use Rattle.overlay_net.proofs.cell_nets_laws.StepNets.ChainLaws.{starts}
use Rattle.overlay_net.specs.cell_nets.declared.operand_blocks.registers.Taken.{Taken}
use Rattle.overlay_net.specs.cell_nets.OperandBlocks.Registers.{operand_in}
use Rattle.read_net.specs.declared.mark_net.nets.MarkSite.{MarkSite}
use Rattle.read_net.specs.MarkNet.Sites.{site_operands, all_operands, outside}
use Rattle.read_net.specs.MarkNet.Marks.{TakesMark, TakeMarks}
use Rattle.read_net.proofs.MarkNet.StandLemmas.{left_of, right_of, behind_first, put_first, first_last, stands_as, joined}

-- the operands of one of them
site_in : {N : Type 0} (Q : Operand N → Type 0) (ms : List (MarkSite N)) (i : ℕ) (m : MarkSite N) → i < length ms → m ≡ get_or ms i m → All Q (all_operands ms) → All Q (site_operands m)
site_in Q [] i m l is h = absurd (omega arith)
site_in Q (x ∷ ms) zero m l is h = subst (λ (y : MarkSite _). All Q (site_operands y)) (sym is) (left_of Q (site_operands x) (all_operands ms) h)
site_in Q (x ∷ ms) (suc i) m l is h = site_in Q ms i m (omega (arith, l)) is (right_of Q (site_operands x) (all_operands ms) h)

marks_more : {N : Type 0} (v : Env N) (p : ProgramView) (decls : List MapDecl) (advance : N) (ms : List (MarkSite N)) (ts : List (Taken N)) (m : MarkSite N) (t : Taken N) → TakeMarks v p decls advance ms ts → TakesMark v p decls advance m t.operand → TakeMarks v p decls advance (ms ++ m ∷ []) (ts ++ t ∷ [])
marks_more v p decls advance [] [] m t h k = (k, tt)
marks_more v p decls advance [] (y ∷ ts) m t h k = absurd h
marks_more v p decls advance (x ∷ ms) [] m t h k = absurd h
marks_more v p decls advance (x ∷ ms) (y ∷ ts) m t h k = (h.0, marks_more v p decls advance ms ts m t h.1 k)

module _ {P : Type 0} (part : P) (advance : Name P) (p : ProgramView) (decls : List MapDecl) (ms : List (MarkSite (Name P))) where
  -- those of the first sites, so many
  abbrev pub AreNext : List (BlockWireTree (Name P)) → List (BlockWireTree (Name P)) → ℕ → List (Taken (Name P)) → Type 0
  AreNext old new i ts = Stands part old new (outside advance ms) always (map_list operand_in ts ++ outside advance ms) (λ v. TakeMarks v p decls advance (take i ms) ts)

  pub none_next : (ws : List (BlockWireTree (Name P))) → AreNext ws ws 0 []
  none_next ws = stands_as (outside advance ms) (λ v. TakeMarks v p decls advance (take 0 ms) []) (starts part ws (outside advance ms) always) (λ ins h. h) (λ v k. tt)

  pub more_next :
      (old mid new : List (BlockWireTree (Name P))) (i : ℕ) (m : MarkSite (Name P)) (ts : List (Taken (Name P))) (t : Taken (Name P)) → i < length ms → m ≡ get_or ms i m → AreNext old mid i ts
      → Stands part mid new (Net advance 1 ∷ site_operands m) always (t.operand ∷ []) (λ v. TakesMark v p decls advance m t.operand) → AreNext old new (i + 1) (ts ++ t ∷ [])
  more_next old mid new i m ts t l is x y =
      let args = outside advance ms in
      let outs = map_list operand_in ts in
      stands_as (map_list operand_in (ts ++ t ∷ []) ++ args) (λ v. TakeMarks v p decls advance (take (i + 1) ms) (ts ++ t ∷ []))
      (joined x y (λ ins h.
      let r = right_of (IsAvailable ins) outs args h in
      put_first (IsAvailable ins) (Net advance 1) (site_operands m) (r 0 (Net advance 1) (omega arith)) (site_in (IsAvailable ins) ms i m l is (behind_first (IsAvailable ins) (Net advance 1) (all_operands ms) r))) (λ v k. tt))
      (λ ins h. subst (λ l. All (IsAvailable ins) (l ++ args)) (sym (map_push operand_in ts t)) (first_last (IsAvailable ins) outs args t.operand h))
      (λ v k. subst (λ l. TakeMarks v p decls advance l (ts ++ t ∷ [])) (sym (take_more ms i m l ∙ ap (λ y. take i ms ++ y ∷ []) (sym is))) (marks_more v p decls advance (take i ms) ts m t k.0 k.1))
