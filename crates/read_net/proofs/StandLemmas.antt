-- Steps that give several operands, one after another.
use Rattle.std.proofs.Common.{zero, suc, All, List, [], ◌∷◌, ◌++◌, arith}
use Rattle.std.proofs.lemmas.List.Elements.{All-append}
use Rattle.block_core.specs.net_core.Value.{Env}
use Rattle.block_core.specs.declared.name.Name.{Name}
use Rattle.block_core.specs.Blocks.{BlockWireTree}
use Rattle.overlay_net.specs.cell_nets.declared.operand.Operand.{Operand}
use Rattle.overlay_net.specs.cell_nets.declared.operand.Operand.TheVariants.{Known}
use Rattle.overlay_net.specs.cell_nets.Operands.{IsAvailable}
use Rattle.overlay_net.specs.cell_nets.Wires.{behind}
use Rattle.overlay_net.proofs.cell_nets_laws.ApartLaws.{stay_none, stay_as, stay_next}
use Rattle.overlay_net.specs.cell_nets.StepNets.Standing.{Stands}
use Rattle.overlay_net.proofs.cell_nets_laws.StepNets.ChainLaws.{starts}

-- ---- what is said of each operand
module _ {X : Type 0} (Q : X → Type 0) where
  pub left_of : (xs ys : List X) → All Q (xs ++ ys) → All Q xs
  left_of [] ys h k d lt = absurd (omega (arith, lt))
  left_of (x ∷ xs) ys h zero d lt = h 0 d (omega arith)
  left_of (x ∷ xs) ys h (suc k) d lt = left_of xs ys (λ n e l. h (suc n) e (omega (arith, l))) k d (omega (arith, lt))

  pub right_of : (xs ys : List X) → All Q (xs ++ ys) → All Q ys
  right_of [] ys h = h
  right_of (x ∷ xs) ys h = right_of xs ys (λ n e l. h (suc n) e (omega (arith, l)))

  pub first_of : (x : X) (xs : List X) → Q x → All Q xs → All Q (x ∷ xs)
  first_of x xs h k zero d lt = h
  first_of x xs h k (suc n) d lt = k n d (omega (arith, lt))

  pub tail_of : (x : X) (xs : List X) → All Q (x ∷ xs) → All Q xs
  tail_of x xs h n d lt = h (suc n) d (omega (arith, lt))

  pub one_of : (x : X) → Q x → All Q (x ∷ [])
  one_of x h zero d lt = h
  one_of x h (suc k) d lt = absurd (omega (arith, lt))

-- ---- steps
module _ {P : Type 0} {p : P} where
  -- fewer operands, in other words
  pub stands_as :
      {old new : List (BlockWireTree (Name P))} {args outs : List (Operand (Name P))} {needs knows : Env (Name P) → Type 0} (lasts : List (Operand (Name P))) (more : Env (Name P) → Type 0) → Stands p old new args needs outs knows
      → ((ins : List (Operand (Name P))) → All (IsAvailable ins) outs → All (IsAvailable ins) lasts) → ((v : Env (Name P)) → knows v → more v) → Stands p old new args needs lasts more
  stands_as {old} {new} {args} {outs} lasts more x sub enough = record {
    before = x.before;
    stays = x.stays;
    wires = x.wires;
    there = λ outside a h. sub _ (x.there outside a h);
    known = λ outside v a h f s n. enough v (x.known outside v a h f s n);
    apart = stay_next p old new new args outs outs lasts (λ ins h k. k) x.apart (stay_none p new outs lasts sub);
  }

  -- several more
  pub stands_then :
      {old mid new : List (BlockWireTree (Name P))} {args outs bs lasts : List (Operand (Name P))} {needs knows more tells : Env (Name P) → Type 0} → Stands p old mid args needs outs knows → Stands p mid new bs more lasts tells
      → ((ins : List (Operand (Name P))) → All (IsAvailable ins) outs → All (IsAvailable ins) bs) → ((v : Env (Name P)) → knows v → more v) → Stands p old new args needs (lasts ++ outs) (λ v. knows v × tells v)
  stands_then {old} {mid} {new} {args} {outs} {bs} {lasts} x y sub enough = record {
    before = λ v s. x.before v (y.before v s);
    stays = λ outside a t. y.stays outside a (x.stays outside a t);
    wires = λ outside a h. y.wires outside (x.wires outside a h) (sub (behind p outside mid) (x.there outside a h));
    there = λ outside a h.
        All-append (IsAvailable (behind p outside new)) lasts outs (y.there outside (x.wires outside a h) (sub (behind p outside mid) (x.there outside a h))) (λ m d lt. y.stays outside _ (x.there outside a h m d lt));
    known = λ outside v a h f s n.
        let k = x.known outside v a h f (y.before v s) n in
        (k, y.known outside v (x.wires outside a h) (sub (behind p outside mid) (x.there outside a h)) f s (enough v k));
    apart = stay_next p old mid new args outs outs (lasts ++ outs) (λ ins h k. k) x.apart (stay_as p mid new bs lasts outs outs sub (λ ins h. h) y.apart);
  }

  -- the number 0, and no wire
  pub stands_none : {ws : List (BlockWireTree (Name P))} {args : List (Operand (Name P))} {needs : Env (Name P) → Type 0} (knows : Env (Name P) → Type 0) → ((v : Env (Name P)) → needs v → knows v) → Stands p ws ws args needs (Known 0 ∷ args) knows
  stands_none {ws} {args} {needs} knows same = stands_as (Known 0 ∷ args) knows (starts p ws args needs) (λ ins h. first_of (IsAvailable ins) (Known 0) args tt h) same
