-- Wires that become more step by step, and what is known of the operands that they give.
use Rattle.std.proofs.Common.{◌≡◌, ℕ, suc, true, false, subst, All, List, [], ◌∷◌, ◌++◌, refl, sym, ◌∙◌, ap, arith}
use Rattle.std.proofs.lemmas.List.Elements.{All-cons}
use Rattle.block_core.specs.net_core.Value.{Env}
use Rattle.hazard_core.specs.xdp_machine.State.{PacketIn}
use Rattle.block_core.specs.declared.name.Name.{Name}
use Rattle.block_core.specs.Blocks.{BlockWireTree}
use Rattle.block_core.specs.Parts.{Solve}
use Rattle.block_core.proofs.list_laws_laws.AllLaws.{all_one}
use Rattle.cell_nets.specs.declared.operand.Operand.{Operand}
use Rattle.cell_nets.specs.Apart.{StayApart}
use Rattle.cell_nets.specs.Operands.{number_in, IsOperand, IsFit, AreFit, IsAvailable}
use Rattle.hazard_core.specs.cell_core.declared.operator.Operator.{Operator}
use Rattle.hazard_core.specs.cell_core.Formed.{divides}
use Rattle.cell_nets.specs.Computing.{makes_product, taken, HasDivisor}
use Rattle.cell_nets.specs.Wires.{behind, AreWires, HasBits, IsGiven, GivesBy, Gives, always}
use Rattle.cell_nets.proofs.ApartLaws.{stay_none, stay_as, stay_then}
use Rattle.cell_nets.proofs.ChoiceLaws.{fit_of}
use Rattle.cell_nets.proofs.ComputingLaws.{no_divisor}

pub no_packet : PacketIn
no_packet = record { frame = []; ifindex = 0; time = 0 }

-- lists that are made of one element after another
pub two_listed : {X : Type 0} (none one two all : List X) (a b : X) → none ≡ [] → one ≡ none ++ a ∷ [] → two ≡ one ++ b ∷ [] → all ≡ two → all ≡ a ∷ b ∷ []
two_listed none one two all a b e f g h = h ∙ g ∙ ap (λ l. l ++ b ∷ []) (f ∙ ap (λ l. l ++ a ∷ []) e)

pub three_listed : {X : Type 0} (none one two three all : List X) (a b c : X) → none ≡ [] → one ≡ none ++ a ∷ [] → two ≡ one ++ b ∷ [] → three ≡ two ++ c ∷ [] → all ≡ three → all ≡ a ∷ b ∷ c ∷ []
three_listed none one two three all a b c e f g h i = i ∙ h ∙ ap (λ l. l ++ c ∷ []) (two_listed none one two two a b e f g refl)

-- After more wires some operands are there, and where a condition holds this is known of them.
pub record Holds {P : Type 0} (p : P) (old new : List (BlockWireTree (Name P))) (args outs : List (Operand (Name P))) (needs knows : Env (Name P) → Type 0) : Type 0 where
  pub before : (v : Env (Name P)) → Solve v p 0 new → Solve v p 0 old
  pub stays : (outside : List (Operand (Name P))) (a : Operand (Name P)) → IsAvailable (behind p outside old) a → IsAvailable (behind p outside new) a
  pub wires : (outside : List (Operand (Name P))) → AreWires p outside old → All (IsAvailable (behind p outside old)) args → AreWires p outside new
  pub there : (outside : List (Operand (Name P))) → AreWires p outside old → All (IsAvailable (behind p outside old)) args → All (IsAvailable (behind p outside new)) outs
  pub value :
      (outside : List (Operand (Name P))) (v : Env (Name P)) → AreWires p outside old → All (IsAvailable (behind p outside old)) args → AreFit v outside → Solve v p 0 new → needs v
      → knows v
  pub apart : StayApart false p old new args outs

module _ {P : Type 0} (p : P) where
  -- no wire
  pub hold_none : (ws : List (BlockWireTree (Name P))) (args : List (Operand (Name P))) (needs : Env (Name P) → Type 0) → Holds p ws ws args args needs needs
  hold_none ws args needs = record {
    before = λ v s. s;
    stays = λ outside a t. t;
    wires = λ outside a t. a;
    there = λ outside a t. t;
    value = λ outside v a t f s n. n;
    apart = stay_none p ws args args (λ ins h. h);
  }

  -- one operand more, made of those that are there
  pub hold_more :
      (old mid new : List (BlockWireTree (Name P))) (args outs bs : List (Operand (Name P))) (needs knows more : Env (Name P) → Type 0) (h : Env (Name P) → ℕ) (w : ℕ) (r : Operand (Name P)) → Holds p old mid args outs needs knows → Gives p mid new bs more h w r
      → ((ins : List (Operand (Name P))) → All (IsAvailable ins) outs → All (IsAvailable ins) bs) → ((v : Env (Name P)) → All (IsFit v) outs → knows v → more v) → Holds p old new args (r ∷ outs) needs (λ v. knows v × (number_in v r ≡ h v))
  hold_more old mid new args outs bs needs knows more h w r x y sub enough = record {
    before = λ v s. x.before v (y.before v s);
    stays = λ outside a t. y.stays outside a (x.stays outside a t);
    wires = λ outside a t. (next outside a t).wires;
    there = λ outside a t. All-cons (IsAvailable (behind p outside new)) r outs (next outside a t).there (λ k d lt. y.stays outside _ (x.there outside a t k d lt));
    value = λ outside v a t f s n.
        let earlier = y.before v s in
        let known = x.value outside v a t f earlier n in
        let fits : All (IsFit v) outs = λ k d lt. fit_of (behind p outside mid) v _ (x.there outside a t k d lt) ((x.wires outside a t).fits v f earlier) in
        (known, (next outside a t).value v f s (enough v fits known));
    apart = stay_then p old mid new args outs outs (r ∷ outs) (λ ins h k. k) x.apart (stay_as p mid new bs (r ∷ []) outs outs sub (λ ins h. h) y.apart);
  }
    where
      next : (outside : List (Operand (Name P))) → AreWires p outside old → All (IsAvailable (behind p outside old)) args → IsGiven p outside new more h r
      next outside a t = y.given outside (x.wires outside a t) (sub (behind p outside mid) (x.there outside a t))

  -- an operand that is there, by what is known of it
  pub hold_gives :
      (old new : List (BlockWireTree (Name P))) (args outs : List (Operand (Name P))) (needs knows : Env (Name P) → Type 0) (g : Env (Name P) → ℕ) (w : ℕ) (r : Operand (Name P)) → Holds p old new args outs needs knows → IsOperand r → HasBits w r
      → ((ins : List (Operand (Name P))) → All (IsAvailable ins) outs → IsAvailable ins r) → ((v : Env (Name P)) → All (IsFit v) outs → knows v → number_in v r ≡ g v) → Gives p old new args needs g w r
  hold_gives old new args outs needs knows g w r x is bits sub same = record {
    before = x.before;
    stays = x.stays;
    operand = is;
    bits = bits;
    given = λ outside a t. record {
      wires = x.wires outside a t;
      there = sub (behind p outside new) (x.there outside a t);
      value = λ v f s n.
          same v (λ k d lt. fit_of (behind p outside new) v _ (x.there outside a t k d lt) ((x.wires outside a t).fits v f s)) (x.value outside v a t f s n);
    };
    apart = stay_then p old new new args outs outs (r ∷ []) (λ ins h k. k) x.apart (stay_none p new outs (r ∷ []) (λ ins h. all_one (IsAvailable ins) r (sub ins h)));
  }

  -- one step, said otherwise
  pub step_gives :
      (old new : List (BlockWireTree (Name P))) (args bs : List (Operand (Name P))) (needs more : Env (Name P) → Type 0) (h g : Env (Name P) → ℕ) (w : ℕ) (r : Operand (Name P)) → Gives p old new bs more h w r
      → ((ins : List (Operand (Name P))) → All (IsAvailable ins) args → All (IsAvailable ins) bs) → ((v : Env (Name P)) → All (IsFit v) args → needs v → more v × (h v ≡ g v)) → Gives p old new args needs g w r
  step_gives old new args bs needs more h g w r y sub same =
      hold_gives old new args (r ∷ args) needs (λ v. needs v × (number_in v r ≡ h v)) g w r (hold_more old old new args args bs needs needs more h w r (hold_none old args needs) y sub (λ v f k. (same v f k).0)) y.operand y.bits (λ ins a. a 0 r (omega arith))
      (λ v f k. k.1 ∙ (same v (λ n d lt. f (suc n) d (omega (arith, lt))) k.0).1)

clash : true ≡ false → ⊥
clash e = cc

taken_all : {X : Type 0} (Q : X → Type 0) (op : Operator) (xs : List X) → divides op ≡ false → All Q xs → All Q (taken op xs)
taken_all Q op xs e h = rw e h

pub plain_gives :
    {P : Type 0} (p : P) (old new : List (BlockWireTree (Name P))) (args : List (Operand (Name P))) (op : Operator) (g : Env (Name P) → ℕ) (w : ℕ) (r : Operand (Name P)) → makes_product op ≡ false → GivesBy (makes_product op) p old new (taken op args) (HasDivisor op args) g w r
    → Gives p old new args always g w r
plain_gives {P} p old new args op g w r plain y =
    step_gives p old new args (taken op args) always (HasDivisor op args) g g w r (subst (λ b. GivesBy b p old new (taken op args) (HasDivisor op args) g w r) plain y)
    (λ ins h. taken_all (IsAvailable ins) op args (no_divisor op plain) h) (λ v f n. (none v, refl))
  where
    none : (v : Env (Name P)) → HasDivisor op args v
    none v d = absurd (clash (sym d ∙ no_divisor op plain))

-- a width, said otherwise
pub wide_gives : {P : Type 0} (p : P) (old new : List (BlockWireTree (Name P))) (args : List (Operand (Name P))) (needs : Env (Name P) → Type 0) (g : Env (Name P) → ℕ) (w u : ℕ) (r : Operand (Name P)) → w ≡ u → Gives p old new args needs g w r → Gives p old new args needs g u r
wide_gives p old new args needs g w u r e x = subst (λ k. Gives p old new args needs g k r) e x

-- an operand that is there already
pub there_gives : {P : Type 0} (p : P) (ws : List (BlockWireTree (Name P))) (args : List (Operand (Name P))) (needs : Env (Name P) → Type 0) (g : Env (Name P) → ℕ) (w : ℕ) (r : Operand (Name P)) → IsOperand r → HasBits w r
    → ((ins : List (Operand (Name P))) → All (IsAvailable ins) args → IsAvailable ins r) → ((v : Env (Name P)) → All (IsFit v) args → needs v → number_in v r ≡ g v) → Gives p ws ws args needs g w r
there_gives p ws args needs g w r is bits sub same = hold_gives p ws ws args args needs needs g w r (hold_none p ws args needs) is bits sub same
