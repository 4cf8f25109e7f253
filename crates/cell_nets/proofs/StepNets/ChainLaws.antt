-- Steps, one after another.
use Rattle.std.proofs.Common.{◌≡◌, ℕ, zero, suc, All, List, [], ◌∷◌, ◌∙◌, arith}
use Rattle.net_core.specs.Value.{Env}
use Rattle.block_core.specs.declared.name.Name.{Name}
use Rattle.block_core.specs.Blocks.{BlockWireTree}
use Rattle.block_core.specs.Parts.{Solve}
use Rattle.cell_nets.specs.declared.operand.Operand.{Operand}
use Rattle.cell_nets.specs.Operands.{number_in, IsOperand, IsFit, AreFit, IsAvailable}
use Rattle.cell_nets.specs.Wires.{behind, AreWires, IsGiven, HasBits, Gives}
use Rattle.cell_nets.proofs.ApartLaws.{stay_none, stay_as, stay_next}
use Rattle.cell_nets.proofs.ChoiceLaws.{fit_of}
pub use Rattle.cell_nets.specs.StepNets.Standing.{Stands}

-- those that are there
pub starts : {P : Type 0} (p : P) (ws : List (BlockWireTree (Name P))) (args : List (Operand (Name P))) (needs : Env (Name P) → Type 0) → Stands p ws ws args needs args needs
starts p ws args needs = record {
  before = λ v s. s;
  stays = λ outside a t. t;
  wires = λ outside a h. a;
  there = λ outside a h. h;
  known = λ outside v a h f s n. n;
  apart = stay_none p ws args args (λ ins h. h);
}

module _ {P : Type 0} {p : P} {old mid : List (BlockWireTree (Name P))} {args outs : List (Operand (Name P))} {needs knows : Env (Name P) → Type 0} (x : Stands p old mid args needs outs knows) where
  fits : (outside : List (Operand (Name P))) (v : Env (Name P)) → AreWires p outside old → All (IsAvailable (behind p outside old)) args → AreFit v outside → Solve v p 0 mid → All (IsFit v) outs
  fits outside v a h f s m d lt = fit_of (behind p outside mid) v _ (x.there outside a h m d lt) ((x.wires outside a h).fits v f s)

  -- one of them, in other words
  pub ends :
      (f : Env (Name P) → ℕ) (w : ℕ) (o : Operand (Name P)) → ((ins : List (Operand (Name P))) → All (IsAvailable ins) outs → IsAvailable ins o) → IsOperand o → HasBits w o
      → ((v : Env (Name P)) → All (IsFit v) outs → knows v → number_in v o ≡ f v) → Gives p old mid args needs f w o
  ends f w o pick operand bits same = record {
    before = x.before;
    stays = x.stays;
    operand = operand;
    bits = bits;
    given = λ outside a h. record {
      wires = x.wires outside a h;
      there = pick (behind p outside mid) (x.there outside a h);
      value = λ v f s n. same v (fits outside v a h f s) (x.known outside v a h f s n);
    };
    apart = stay_next p old mid mid args outs outs (o ∷ []) (λ ins h k. k) x.apart (stay_none p mid outs (o ∷ []) (λ ins h. one (IsAvailable ins) o (pick ins h)));
  }
    where
      one : {X : Type 0} (Q : X → Type 0) (y : X) → Q y → All Q (y ∷ [])
      one Q y h zero d lt = h
      one Q y h (suc k) d lt = absurd (omega arith)

  module _ {new : List (BlockWireTree (Name P))} {bs : List (Operand (Name P))} {more : Env (Name P) → Type 0} {g : Env (Name P) → ℕ} {u : ℕ} {o : Operand (Name P)} (y : Gives p mid new bs more g u o)
      (sub : (ins : List (Operand (Name P))) → All (IsAvailable ins) outs → All (IsAvailable ins) bs) (enough : (v : Env (Name P)) → All (IsFit v) outs → knows v → more v) where
    -- and one more
    pub next : Stands p old new args needs (o ∷ outs) (λ v. knows v × (number_in v o ≡ g v))
    next = record {
      before = λ v s. x.before v (y.before v s);
      stays = λ outside a t. y.stays outside a (x.stays outside a t);
      wires = λ outside a h. (given outside a h).wires;
      there = λ outside a h. behind_first (IsAvailable (behind p outside new)) o outs (given outside a h).there (λ m d lt. y.stays outside _ (x.there outside a h m d lt));
      known = λ outside v a h f s n.
          let earlier = y.before v s in
          let k = x.known outside v a h f earlier n in
          (k, (given outside a h).value v f s (enough v (fits outside v a h f earlier) k));
      apart = stay_next p old mid new args outs outs (o ∷ outs) (λ ins h k. k) x.apart (stay_as p mid new bs (o ∷ []) outs outs sub (λ ins h. h) y.apart);
    }
      where
        given : (outside : List (Operand (Name P))) → AreWires p outside old → All (IsAvailable (behind p outside old)) args → IsGiven p outside new more g o
        given outside a h = y.given outside (x.wires outside a h) (sub (behind p outside mid) (x.there outside a h))

        behind_first : {X : Type 0} (Q : X → Type 0) (b : X) (bs : List X) → Q b → All Q bs → All Q (b ∷ bs)
        behind_first Q b bs h k zero d lt = h
        behind_first Q b bs h k (suc m) d lt = k m d (omega arith)

    -- the last one
    pub last : (f : Env (Name P) → ℕ) → ((v : Env (Name P)) → All (IsFit v) outs → knows v → g v ≡ f v) → Gives p old new args needs f u o
    last f same = record {
      before = λ v s. x.before v (y.before v s);
      stays = λ outside a t. y.stays outside a (x.stays outside a t);
      operand = y.operand;
      bits = y.bits;
      given = λ outside a h.
          let i = y.given outside (x.wires outside a h) (sub (behind p outside mid) (x.there outside a h)) in
          record {
            wires = i.wires;
            there = i.there;
            value = λ v f s n.
                let earlier = y.before v s in
                let k = x.known outside v a h f earlier n in
                let z = fits outside v a h f earlier in
                i.value v f s (enough v z k) ∙ same v z k;
          };
      apart = stay_next p old mid new args outs bs (o ∷ []) (λ ins h k. sub ins k) x.apart y.apart;
    }
