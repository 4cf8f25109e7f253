-- Steps of nets, one after another, of which some are known for each of several clocks.
use Rattle.std.proofs.Common.{◌≡◌, ℕ, zero, suc, All, List, [], ◌∷◌, ◌++◌, get_or, subst, arith}
use Rattle.std.proofs.lemmas.List.Elements.{All-append}
use Rattle.net_core.specs.Value.{Env}
use Rattle.block_core.specs.declared.name.Name.{Name}
use Rattle.block_core.specs.Blocks.{BlockWireTree}
use Rattle.overlay_net.specs.cell_nets.declared.operand.Operand.{Operand}
use Rattle.overlay_net.specs.cell_nets.Operands.{number_in, IsAvailable}
use Rattle.overlay_net.specs.cell_nets.Wires.{behind, AreWires, IsGiven, Gives}
use Rattle.overlay_net.proofs.cell_nets_laws.ApartLaws.{stay_none, stay_as, stay_next}
use Rattle.overlay_net.specs.cell_nets.StepNets.Standing.{Stands}

pub first_of : {X : Type 0} (Q : X → Type 0) (x : X) (xs : List X) → Q x → All Q xs → All Q (x ∷ xs)
first_of Q x xs h k zero d lt = h
first_of Q x xs h k (suc n) d lt = k n d (omega (arith, lt))

pub tail : {X : Type 0} (Q : X → Type 0) (x : X) (xs : List X) → All Q (x ∷ xs) → All Q xs
tail Q x xs h n d lt = h (suc n) d (omega (arith, lt))

-- in other words
pub stands_as :
    {P : Type 0} {p : P} {old new : List (BlockWireTree (Name P))} {args outs : List (Operand (Name P))} {needs knows : Env (Name P) → Type 0} (lasts : List (Operand (Name P))) (more : Env (Name P) → Type 0) → Stands p old new args needs outs knows
    → ((ins : List (Operand (Name P))) → All (IsAvailable ins) outs → All (IsAvailable ins) lasts) → ((v : Env (Name P)) → knows v → more v) → Stands p old new args needs lasts more
stands_as {p = p} {old = old} {new = new} {args = args} {outs = outs} lasts more x sub enough = record {
  before = x.before;
  stays = x.stays;
  wires = x.wires;
  there = λ outside a h. sub _ (x.there outside a h);
  known = λ outside v a h f s n. enough v (x.known outside v a h f s n);
  apart = stay_next p old new new args outs outs lasts (λ ins h k. k) x.apart (stay_none p new outs lasts sub);
}

-- from no wires on
pub stands_from : {P : Type 0} {p : P} {old new : List (BlockWireTree (Name P))} {args outs : List (Operand (Name P))} {needs knows : Env (Name P) → Type 0} → old ≡ [] → Stands p old new args needs outs knows → Stands p [] new args needs outs knows
stands_from {p = p} {new = new} {args = args} {outs = outs} {needs = needs} {knows = knows} e x = subst (λ l. Stands p l new args needs outs knows) e x

module _ {P : Type 0} {p : P} {old mid new : List (BlockWireTree (Name P))} {args outs bs : List (Operand (Name P))} {needs knows : Env (Name P) → Type 0} (x : Stands p old mid args needs outs knows) where
  -- some after others
  pub joined :
      {lasts : List (Operand (Name P))} {more shows : Env (Name P) → Type 0} → Stands p mid new bs more lasts shows → ((ins : List (Operand (Name P))) → All (IsAvailable ins) outs → All (IsAvailable ins) bs) → ((v : Env (Name P)) → knows v → more v)
      → Stands p old new args needs (lasts ++ outs) (λ v. knows v × shows v)
  joined {lasts = lasts} y sub enough = record {
    before = λ v s. x.before v (y.before v s);
    stays = λ outside a t. y.stays outside a (x.stays outside a t);
    wires = λ outside a h. y.wires outside (x.wires outside a h) (sub (behind p outside mid) (x.there outside a h));
    there = λ outside a h.
        All-append (IsAvailable (behind p outside new)) lasts outs (y.there outside (x.wires outside a h) (sub (behind p outside mid) (x.there outside a h))) (λ m d lt. y.stays outside (get_or outs m d) (x.there outside a h m d lt));
    known = λ outside v a h f s n.
        let k = x.known outside v a h f (y.before v s) n in
        (k, y.known outside v (x.wires outside a h) (sub (behind p outside mid) (x.there outside a h)) f s (enough v k));
    apart = stay_next p old mid new args outs outs (lasts ++ outs) (λ ins h k. k) x.apart (stay_as p mid new bs lasts outs outs sub (λ ins h. h) y.apart);
  }

  -- one more, whose number is known where one of several conditions holds
  pub next_each :
      {I : Type 0} {more : I → Env (Name P) → Type 0} {g : I → Env (Name P) → ℕ} {u : ℕ} {o : Operand (Name P)} → I → ((i : I) → Gives p mid new bs (more i) (g i) u o) → ((ins : List (Operand (Name P))) → All (IsAvailable ins) outs → All (IsAvailable ins) bs)
      → Stands p old new args needs (o ∷ outs) (λ v. knows v × ((i : I) → more i v → number_in v o ≡ g i v))
  next_each {I = I} {more = more} {g = g} {o = o} some y sub = record {
    before = λ v s. x.before v ((y some).before v s);
    stays = λ outside a t. (y some).stays outside a (x.stays outside a t);
    wires = λ outside a h. (given outside a h some).wires;
    there = λ outside a h. first_of (IsAvailable (behind p outside new)) o outs (given outside a h some).there (λ m d lt. (y some).stays outside (get_or outs m d) (x.there outside a h m d lt));
    known = λ outside v a h f s n. (x.known outside v a h f ((y some).before v s) n, λ i m. (given outside a h i).value v f s m);
    apart = stay_next p old mid new args outs outs (o ∷ outs) (λ ins h k. k) x.apart (stay_as p mid new bs (o ∷ []) outs outs sub (λ ins h. h) (y some).apart);
  }
    where
      given : (outside : List (Operand (Name P))) → AreWires p outside old → All (IsAvailable (behind p outside old)) args → (i : I) → IsGiven p outside new (more i) (g i) o
      given outside a h i = (y i).given outside (x.wires outside a h) (sub (behind p outside mid) (x.there outside a h))
