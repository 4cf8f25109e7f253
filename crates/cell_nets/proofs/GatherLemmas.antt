-- Fewer operands in place of many.
use Rattle.std.specs.Prelude.{◌||◌}
use Rattle.std.specs.List.{list_any}
use Rattle.std.proofs.Common.{◌≡◌, ℕ, ◌+◌, ◌^◌, ◌<◌, ◌≤◌, Bool, true, false, All, List, [], ◌∷◌, ◌++◌, length, take, get_or, map, refl, sym, ◌∙◌, ap, subst, arith}
use Rattle.std.proofs.lemmas.List.{take_more, take_all}
use Rattle.std.proofs.lemmas.List.Elements.{All-nil, All-get_or, All-cons, All-head, All-tail, All-push}
use Rattle.std.proofs.lemmas.List.Folds.{list_any-append}
use Rattle.net_core.specs.Nets.{Tree}
use Rattle.net_core.specs.Value.{Env}
use Rattle.cell_core.specs.xdp_machine.State.{PacketIn}
use Rattle.block_core.specs.declared.name.Name.{Name}
use Rattle.block_core.specs.Blocks.{BlockWireTree}
use Rattle.block_core.proofs.list_laws_laws.AllLaws.{all_one}
use Rattle.cell_core.specs.declared.operator.Operator.TheVariants.{Any}
use Rattle.cell_core.specs.Cells.{bit, on, bits_from}
use Rattle.cell_nets.specs.declared.operand.Operand.{Operand}
use Rattle.cell_nets.specs.Gathering.{IsGathered}
use Rattle.cell_nets.specs.Operands.{number_in, IsOperand, IsAvailable}
use Rattle.cell_nets.specs.Parts.{Computes, worth}
use Rattle.cell_nets.specs.Wires.{behind, Gives, always}
use Rattle.cell_nets.proofs.NarrowLaws.{bits_small}
use Rattle.cell_nets.proofs.TestLemmas.{bit_low}
use Rattle.cell_nets.proofs.ListLemmas.{any_map}
use Rattle.cell_nets.proofs.ApartLaws.{stay_none, stay_as, stay_then}

apart : {X : Type 0} (Q : X → Type 0) (xs : List X) (x : X) → All Q (xs ++ x ∷ []) → All Q xs × Q x
apart Q [] x h = (All-nil Q, h 0 x (omega arith))
apart Q (y ∷ xs) x h = let r = apart Q xs x (All-tail Q y (xs ++ x ∷ []) h) in (All-cons Q y xs (All-head Q y (xs ++ x ∷ []) h) r.0, r.1)

-- as they are
pub gathered_same : {P : Type 0} (p : P) (ws : List (BlockWireTree (Name P))) (args : List (Operand (Name P))) → All IsOperand args → IsGathered p ws ws args args
gathered_same p ws args h = record { operands = h; before = λ v s. s; stays = λ o a t. t; wires = λ o a t. a; there = λ o a t. t; apart = stay_none p ws args args (λ ins t. t); value = λ o v a t f s. refl }

-- one for all of them
pub gathered_one : {P : Type 0} (p : P) (old new : List (BlockWireTree (Name P))) (args : List (Operand (Name P))) (packet : PacketIn) (found : Operand (Name P)) → Gives p old new args always (worth packet Any args 1) 1 found → IsGathered p old new args (found ∷ [])
gathered_one p old new args packet found x = record {
  operands = all_one IsOperand found x.operand;
  before = x.before;
  stays = x.stays;
  wires = λ o a t. (x.given o a t).wires;
  there = λ o a t. all_one (IsAvailable (behind p o new)) found (x.given o a t).there;
  apart = x.apart;
  value = λ o v a t f s.
      let b = list_any (λ a. on (number_in v a)) args in
      ap (λ k. on k || false) ((x.given o a t).value v f s tt ∙ sym (bit_low (list_any on (map (number_in v) args)) 1 (omega arith)) ∙ ap bit (sym (any_map v args))) ∙ on_bit b;
}
  where
    on_bit : (b : Bool) → (on (bit b) || false) ≡ b
    on_bit true = refl
    on_bit false = refl

-- the same operands in other words
pub gathered_as : {P : Type 0} (p : P) (old new : List (BlockWireTree (Name P))) (args xs ys : List (Operand (Name P))) → ys ≡ xs → IsGathered p old new args xs → IsGathered p old new args ys
gathered_as p old new args xs ys e g = subst (IsGathered p old new args) (sym e) g

pub gathered_all : {P : Type 0} (p : P) (old new : List (BlockWireTree (Name P))) (args left : List (Operand (Name P))) (i : ℕ) → length args ≤ i → IsGathered p old new (take i args) left → IsGathered p old new args left
gathered_all p old new args left i past g = subst (λ l. IsGathered p old new l left) (take_all i args past) g

pub none_gathered : {P : Type 0} (p : P) (ws : List (BlockWireTree (Name P))) (ys : List (Operand (Name P))) → ys ≡ [] → IsGathered p ws ws [] ys
none_gathered p ws ys e = gathered_as p ws ws [] [] ys e (gathered_same p ws [] (All-nil IsOperand))

-- what an expression computes on operands in other words
pub any_of :
    {N : Type 0} (xs ys : List (Operand N)) (w : ℕ) (t : Tree N) → xs ≡ ys → ((ins : List (Operand N)) (packet : PacketIn) → All (IsAvailable ins) xs → Computes ins w (worth packet Any xs w) t)
    → (ins : List (Operand N)) (packet : PacketIn) → All (IsAvailable ins) ys → Computes ins w (worth packet Any ys w) t
any_of xs ys w t e h = subst (λ l. (ins : List (Operand _)) (packet : PacketIn) → All (IsAvailable ins) l → Computes ins w (worth packet Any l w) t) e h

pub any_small : {N : Type 0} (packet : PacketIn) (xs : List (Operand N)) (w : ℕ) (v : Env N) → worth packet Any xs w v < 2 ^ w
any_small packet xs w v = bits_small (bit (list_any on (map (number_in v) xs))) 0 w

-- a step after another one
pub gathered_then : {P : Type 0} (p : P) (old mid new : List (BlockWireTree (Name P))) (args left last : List (Operand (Name P))) → IsGathered p old mid args left → IsGathered p mid new left last → IsGathered p old new args last
gathered_then p old mid new args left last x y = record {
  operands = y.operands;
  before = λ v s. x.before v (y.before v s);
  stays = λ o a t. y.stays o a (x.stays o a t);
  wires = λ o a t. y.wires o (x.wires o a t) (x.there o a t);
  there = λ o a t. y.there o (x.wires o a t) (x.there o a t);
  apart = stay_then p old mid new args left left last (λ ins h k. k) x.apart y.apart;
  value = λ o v a t f s. y.value o v (x.wires o a t) (x.there o a t) f s ∙ x.value o v a t f (y.before v s);
}

-- an operand more
pub gathered_more :
    {P : Type 0} (p : P) (old new : List (BlockWireTree (Name P))) (args left : List (Operand (Name P))) (i : ℕ) (x : Operand (Name P)) → i < length args → x ≡ get_or args i x → All IsOperand args → IsGathered p old new (take i args) left
    → IsGathered p old new (take (i + 1) args) (left ++ x ∷ [])
gathered_more {P} p old new args left i x inside is words g = subst (λ l. IsGathered p old new l (left ++ x ∷ [])) (sym (take_more args i x inside ∙ ap (λ a. take i args ++ a ∷ []) (sym is))) whole
  where
    whole : IsGathered p old new (take i args ++ x ∷ []) (left ++ x ∷ [])
    whole = record {
      operands = All-push IsOperand left x g.operands (subst IsOperand (sym is) (All-get_or IsOperand args i x inside words));
      before = g.before;
      stays = g.stays;
      wires = λ o a t. g.wires o a (apart (IsAvailable (behind p o old)) (take i args) x t).0;
      there = λ o a t. let r = apart (IsAvailable (behind p o old)) (take i args) x t in All-push (IsAvailable (behind p o new)) left x (g.there o a r.0) (g.stays o x r.1);
      apart = stay_as p old new (take i args) left (take i args ++ x ∷ []) (x ∷ []) (λ ins t. (apart (IsAvailable ins) (take i args) x t).0) (λ ins t. all_one (IsAvailable ins) x (apart (IsAvailable ins) (take i args) x t).1) g.apart;
      value = λ o v a t f s.
          let r = apart (IsAvailable (behind p o old)) (take i args) x t in
          let q = λ (a : Operand (Name P)). on (number_in v a) in
          list_any-append q left (x ∷ []) ∙ ap (λ b. b || (q x || false)) (g.value o v a r.0 f s) ∙ sym (list_any-append q (take i args) (x ∷ []));
    }

-- whether one is not 0, of those that are left
pub gathered_gives :
    {P : Type 0} (p : P) (old mid new : List (BlockWireTree (Name P))) (args left : List (Operand (Name P))) (packet : PacketIn) (w : ℕ) (out : Operand (Name P)) → IsGathered p old mid args left → Gives p mid new left always (worth packet Any left w) w out
    → Gives p old new args always (worth packet Any args w) w out
gathered_gives p old mid new args left packet w out x y = record {
  before = λ v s. x.before v (y.before v s);
  stays = λ o a t. y.stays o a (x.stays o a t);
  operand = y.operand;
  bits = y.bits;
  given = λ o a t.
      let z = y.given o (x.wires o a t) (x.there o a t) in
      record {
        wires = z.wires;
        there = z.there;
        value = λ v f s n. z.value v f s tt ∙ ap (λ b. bits_from (bit b) 0 w) (sym (any_map v left) ∙ x.value o v a t f (y.before v s) ∙ any_map v args);
      };
  apart = stay_then p old mid new args left left (out ∷ []) (λ ins h k. k) x.apart y.apart;
}

pub no_packet : PacketIn
no_packet = record { frame = []; ifindex = 0; time = 0 }
