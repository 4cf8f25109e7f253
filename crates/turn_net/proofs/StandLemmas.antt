-- Wires that stand one after another, with what is known of several operands.
use Rattle.std.proofs.Common.{◌≡◌, ℕ, ◌+◌, All, List, [], ◌∷◌, ◌++◌, length, length-append, subst, arith}
use Rattle.std.proofs.lemmas.List.{get_or_append_left, get_or-append-add}
use Rattle.std.proofs.lemmas.List.Elements.{All-append}
use Rattle.net_core.specs.Value.{Env}
use Rattle.block_core.specs.declared.name.Name.{Name}
use Rattle.block_core.specs.Blocks.{BlockWireTree}
use Rattle.block_core.proofs.list_laws_laws.AllLaws.{all_one}
use Rattle.cell_nets.specs.declared.operand.Operand.{Operand}
use Rattle.cell_nets.specs.Operands.{number_in, IsFit, IsAvailable}
use Rattle.cell_nets.specs.Wires.{behind, Gives}
use Rattle.cell_nets.proofs.ApartLaws.{stay_none, stay_as, stay_next}
use Rattle.cell_nets.proofs.ChoiceLaws.{fit_of}
use Rattle.turn_net.specs.Steps.{Leads}

-- ---- of several some
module _ {X : Type 0} (Q : X → Type 0) where
  pub left_of : (xs ys : List X) → All Q (xs ++ ys) → All Q xs
  left_of xs ys h k d l = subst Q (get_or_append_left xs ys d k l) (h k d (omega (arith, length-append xs ys)))

  pub right_of : (xs ys : List X) → All Q (xs ++ ys) → All Q ys
  right_of xs ys h k d l = subst Q (get_or-append-add xs ys k d) (h (length xs + k) d (omega (arith, length-append xs ys)))

module _ {P : Type 0} {p : P} {old mid : List (BlockWireTree (Name P))} where
  -- one operand, of which something is known under conditions
  pub given_leads :
      {bs : List (Operand (Name P))} {o : Operand (Name P)} {w : ℕ} {I : Type 0} (i : I) (more : I → Env (Name P) → Type 0) (f : I → Env (Name P) → ℕ) → ((i : I) → Gives p old mid bs (more i) (f i) w o)
      → Leads p old mid bs (o ∷ []) (λ v. (i : I) → more i v → number_in v o ≡ f i v)
  given_leads {o = o} i more f y = record {
    before = (y i).before;
    stays = (y i).stays;
    wires = λ outside a h. ((y i).given outside a h).wires;
    there = λ outside a h. all_one (IsAvailable (behind p outside mid)) o ((y i).given outside a h).there;
    known = λ outside v a h f s n j m. ((y j).given outside a h).value v f s m;
    apart = (y i).apart;
  }

  module _ {args outs : List (Operand (Name P))} {knows : Env (Name P) → Type 0} (x : Leads p old mid args outs knows) where
    -- other operands, and what is known in other words
    pub leads_as : (more : List (Operand (Name P))) (said : Env (Name P) → Type 0) → ((ins : List (Operand (Name P))) → All (IsAvailable ins) outs → All (IsAvailable ins) more) → ((v : Env (Name P)) → All (IsFit v) outs → knows v → said v) → Leads p old mid args more said
    leads_as more said sub same = record {
      before = x.before;
      stays = x.stays;
      wires = x.wires;
      there = λ outside a h. sub (behind p outside mid) (x.there outside a h);
      known = λ outside v a h f s n. same v (λ k d l. fit_of (behind p outside mid) v _ (x.there outside a h k d l) ((x.wires outside a h).fits v f s)) (x.known outside v a h f s n);
      apart = stay_next p old mid mid args outs outs more (λ ins h k. k) x.apart (stay_none p mid outs more sub);
    }

    -- more wires after them
    pub then_leads :
        {new : List (BlockWireTree (Name P))} {bs more : List (Operand (Name P))} {said : Env (Name P) → Type 0} → Leads p mid new bs more said → ((ins : List (Operand (Name P))) → All (IsAvailable ins) outs → All (IsAvailable ins) bs)
        → Leads p old new args (more ++ outs) (λ v. knows v × said v)
    then_leads {new = new} {bs = bs} {more = more} y sub = record {
      before = λ v s. x.before v (y.before v s);
      stays = λ outside a t. y.stays outside a (x.stays outside a t);
      wires = λ outside a h. y.wires outside (x.wires outside a h) (sub (behind p outside mid) (x.there outside a h));
      there = λ outside a h.
          All-append (IsAvailable (behind p outside new)) more outs (y.there outside (x.wires outside a h) (sub (behind p outside mid) (x.there outside a h))) (λ k d l. y.stays outside _ (x.there outside a h k d l));
      known = λ outside v a h f s n. (x.known outside v a h f (y.before v s) n, y.known outside v (x.wires outside a h) (sub (behind p outside mid) (x.there outside a h)) f s tt);
      apart = stay_next p old mid new args outs outs (more ++ outs) (λ ins h k. k) x.apart (stay_as p mid new bs more outs outs sub (λ ins h. h) y.apart);
    }
