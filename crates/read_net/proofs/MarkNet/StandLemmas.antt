-- Wires that stand one after another, with what is known of several operands.
use Rattle.std.proofs.Common.{ℕ, zero, suc, ◌+◌, All, List, [], ◌∷◌, ◌++◌, length, length-append, get_or, refl, subst, arith}
use Rattle.std.proofs.lemmas.List.{get_or_append_left, get_or-append-add}
use Rattle.std.proofs.lemmas.List.Elements.{All-append}
use Rattle.block_core.specs.net_core.Value.{Env}
use Rattle.block_core.specs.declared.name.Name.{Name}
use Rattle.block_core.specs.Blocks.{BlockWireTree}
use Rattle.overlay_net.specs.cell_nets.declared.operand.Operand.{Operand}
use Rattle.overlay_net.specs.cell_nets.Operands.{number_in, IsAvailable}
use Rattle.overlay_net.specs.cell_nets.Wires.{behind, always, Gives}
use Rattle.overlay_net.proofs.cell_nets_laws.ApartLaws.{stay_none, stay_as, stay_next}
use Rattle.overlay_net.specs.cell_nets.StepNets.Standing.{Stands}

-- ---- of several some
module _ {X : Type 0} (Q : X → Type 0) where
  pub left_of : (xs ys : List X) → All Q (xs ++ ys) → All Q xs
  left_of xs ys h k d l = subst Q (get_or_append_left xs ys d k l) (h k d (omega (arith, length-append xs ys)))

  pub right_of : (xs ys : List X) → All Q (xs ++ ys) → All Q ys
  right_of xs ys h k d l = subst Q (get_or-append-add xs ys k d) (h (length xs + k) d (omega (arith, length-append xs ys)))

  pub behind_first : (x : X) (xs : List X) → All Q (x ∷ xs) → All Q xs
  behind_first x xs h n d lt = h (suc n) d (omega (arith, lt))

  pub put_first : (x : X) (xs : List X) → Q x → All Q xs → All Q (x ∷ xs)
  put_first x xs h k zero d lt = h
  put_first x xs h k (suc n) d lt = k n d (omega (arith, lt))

  -- the first one of several stands after some of them
  pub first_last : (xs ys : List X) (x : X) → All Q (x ∷ xs ++ ys) → All Q ((xs ++ x ∷ []) ++ ys)
  first_last xs ys x h =
      let rest = behind_first x (xs ++ ys) h in
      All-append Q (xs ++ x ∷ []) ys (All-append Q xs (x ∷ []) (left_of xs ys rest) (left_of (x ∷ []) (xs ++ ys) h)) (right_of xs ys rest)

-- ---- steps
-- an operand of which nothing is known
pub unknown : {P : Type 0} {p : P} {old new : List (BlockWireTree (Name P))} {args : List (Operand (Name P))} {needs : Env (Name P) → Type 0} {f : Env (Name P) → ℕ} {w : ℕ} {o : Operand (Name P)} → Gives p old new args needs f w o → Gives p old new args always (λ v. number_in v o) w o
unknown x = record {
  before = x.before;
  stays = x.stays;
  operand = x.operand;
  bits = x.bits;
  given = λ outside a h. let i = x.given outside a h in record { wires = i.wires; there = i.there; value = λ v f s n. refl };
  apart = x.apart;
}

module _ {P : Type 0} {p : P} where
  -- other operands, and what is known in other words
  pub stands_as :
      {old new : List (BlockWireTree (Name P))} {args outs : List (Operand (Name P))} {needs knows : Env (Name P) → Type 0} (lasts : List (Operand (Name P))) (more : Env (Name P) → Type 0) → Stands p old new args needs outs knows
      → ((ins : List (Operand (Name P))) → All (IsAvailable ins) outs → All (IsAvailable ins) lasts) → ((v : Env (Name P)) → knows v → more v) → Stands p old new args needs lasts more
  stands_as {old} {new} {args} {outs} lasts more x sub enough = record {
    before = x.before;
    stays = x.stays;
    wires = x.wires;
    there = λ outside a h. sub _ (x.there outside a h);
    known = λ outside v a h f s n. enough v (x.known outside v a h f s n);
    apart = stay_next p old new new args outs outs lasts (λ ins h k. k) x.apart (stay_none p new outs lasts sub);
  }

  -- some after others
  module _ {old mid new : List (BlockWireTree (Name P))} {args outs bs lasts : List (Operand (Name P))} {needs knows more shows : Env (Name P) → Type 0} (x : Stands p old mid args needs outs knows) (y : Stands p mid new bs more lasts shows)
      (sub : (ins : List (Operand (Name P))) → All (IsAvailable ins) outs → All (IsAvailable ins) bs) (enough : (v : Env (Name P)) → knows v → more v) where
    pub joined : Stands p old new args needs (lasts ++ outs) (λ v. knows v × shows v)
    joined = record {
      before = λ v s. x.before v (y.before v s);
      stays = λ outside a t. y.stays outside a (x.stays outside a t);
      wires = λ outside a h. y.wires outside (x.wires outside a h) (sub (behind p outside mid) (x.there outside a h));
      there = λ outside a h.
          All-append (IsAvailable (behind p outside new)) lasts outs (y.there outside (x.wires outside a h) (sub (behind p outside mid) (x.there outside a h))) (λ m d lt. y.stays outside (get_or outs m d) (x.there outside a h m d lt));
      known = λ outside v a h f s n.
          let k = x.known outside v a h f (y.before v s) n in
          (k, y.known outside v (x.wires outside a h) (sub (behind p outside mid) (x.there outside a h)) f s (enough v k));
      apart = stay_next p old mid new args outs outs (lasts ++ outs) (λ ins h k. k) x.apart (stay_as p mid new bs lasts outs outs sub (λ ins h. h) y.apart);
    }
