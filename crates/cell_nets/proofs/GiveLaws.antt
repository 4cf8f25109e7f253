-- What wires give, step by step.
use Rattle.std.proofs.Common.{◌≡◌, ℕ, ◌+◌, ◌^◌, ◌<◌, ◌≤◌, Bool, All, List, [], ◌∷◌, refl, inl, sym, ◌∙◌, ap, subst, arith}
use Rattle.std.proofs.Math.Pow.{pow_mono}
use Rattle.std.proofs.lemmas.List.Elements.{All-nil}
use Rattle.net_core.specs.Value.{Env}
use Rattle.cell_core.specs.xdp_machine.State.{PacketIn}
use Rattle.block_core.specs.declared.name.Name.{Name}
use Rattle.block_core.specs.Blocks.{BlockWireTree}
use Rattle.block_core.proofs.list_laws_laws.AllLaws.{all_one}
use Rattle.cell_core.specs.declared.operator.Operator.{Operator}
use Rattle.cell_core.specs.Cells.{bits_from}
use Rattle.cell_nets.specs.declared.operand.Operand.{Operand}
use Rattle.cell_nets.specs.declared.operand.Operand.TheVariants.{Known, Net, Part}
use Rattle.cell_nets.specs.Operands.{number_in, IsWide, IsWithin, HasWidth, IsFit, IsAvailable}
use Rattle.cell_nets.specs.Parts.{worth}
use Rattle.cell_nets.specs.Wires.{behind, GivesBy, Gives, always}
use Rattle.cell_nets.proofs.ApartLaws.{stay_none, stay_as, stay_next}
use Rattle.cell_nets.proofs.ChoiceLaws.{fit_of}
use Rattle.cell_nets.proofs.SliceLaws.{whole_bits, bits_of_bits}

-- the same of more operands, in other words
pub gives_as :
    {P : Type 0} {b : Bool} (p : P) (old new : List (BlockWireTree (Name P))) (args bs : List (Operand (Name P))) (needs more : Env (Name P) → Type 0) (f g : Env (Name P) → ℕ) (w : ℕ) (o : Operand (Name P)) → GivesBy b p old new args needs f w o
    → ((ins : List (Operand (Name P))) → All (IsAvailable ins) bs → All (IsAvailable ins) args) → ((v : Env (Name P)) → All (IsFit v) bs → more v → needs v × (f v ≡ g v)) → GivesBy b p old new bs more g w o
gives_as p old new args bs needs more f g w o x sub same = record {
  before = x.before;
  stays = x.stays;
  operand = x.operand;
  bits = x.bits;
  given = λ outside a there.
      let y = x.given outside a (sub (behind p outside old) there) in
      record {
        wires = y.wires;
        there = y.there;
        value = λ v f s n. let z = same v (λ k d lt. fit_of (behind p outside old) v _ (there k d lt) (a.fits v f (x.before v s))) n in y.value v f s z.0 ∙ z.1;
      };
  apart = stay_as p old new args (o ∷ []) bs [] sub (λ ins h. All-nil (IsAvailable ins)) x.apart;
}

-- a step after another one
pub gives_then :
    {P : Type 0} {b : Bool} (p : P) (old mid new : List (BlockWireTree (Name P))) (args bs : List (Operand (Name P))) (needs : Env (Name P) → Type 0) (f h g : Env (Name P) → ℕ) (w u : ℕ) (o r : Operand (Name P)) → GivesBy b p old mid args needs f w o
    → Gives p mid new bs always h u r → ((ins : List (Operand (Name P))) → All (IsAvailable ins) args → IsAvailable ins o → All (IsAvailable ins) bs)
    → ((v : Env (Name P)) → All (IsFit v) args → number_in v o ≡ f v → h v ≡ g v) → GivesBy b p old new args needs g u r
gives_then p old mid new args bs needs f h g w u o r x y sub same = record {
  before = λ v s. x.before v (y.before v s);
  stays = λ outside a t. y.stays outside a (x.stays outside a t);
  operand = y.operand;
  bits = y.bits;
  given = λ outside a there.
      let first = x.given outside a there in
      let second = y.given outside first.wires (sub (behind p outside mid) (λ k d lt. x.stays outside _ (there k d lt)) first.there) in
      record {
        wires = second.wires;
        there = second.there;
        value = λ v f s n.
            let earlier = y.before v s in
            second.value v f s tt ∙ same v (λ k d lt. fit_of (behind p outside old) v _ (there k d lt) (a.fits v f (x.before v earlier))) (first.value v f earlier n);
      };
  apart = stay_next p old mid new args (o ∷ []) bs (r ∷ []) (λ ins h k. sub ins h (k 0 o (omega arith))) x.apart y.apart;
}

-- a step that takes what the step before gave
pub gives_next :
    {P : Type 0} {b : Bool} (p : P) (old mid new : List (BlockWireTree (Name P))) (args : List (Operand (Name P))) (needs : Env (Name P) → Type 0) (f h g : Env (Name P) → ℕ) (w u : ℕ) (o r : Operand (Name P)) → GivesBy b p old mid args needs f w o
    → Gives p mid new (o ∷ []) always h u r → ((v : Env (Name P)) → All (IsFit v) args → number_in v o ≡ f v → h v ≡ g v) → GivesBy b p old new args needs g u r
gives_next p old mid new args needs f h g w u o r x y same = gives_then p old mid new args (o ∷ []) needs f h g w u o r x y (λ ins all there. all_one (IsAvailable ins) o there) same

-- an operator in as many bits, said otherwise
pub worth_at :
    {P : Type 0} (p : P) (old new : List (BlockWireTree (Name P))) (args inputs : List (Operand (Name P))) (o : Operand (Name P)) (packet : PacketIn) (op : Operator) (m k : ℕ) → m ≡ k → Gives p old new args always (worth packet op inputs m) m o
    → Gives p old new args always (worth packet op inputs k) k o
worth_at p old new args inputs o packet op m k e x = subst (λ n. Gives p old new args always (worth packet op inputs n) n o) e x

-- a number, and no wire
pub known_gives :
    {P : Type 0} {b : Bool} (p : P) (ws : List (BlockWireTree (Name P))) (args : List (Operand (Name P))) (needs : Env (Name P) → Type 0) (g : Env (Name P) → ℕ) (w n : ℕ) → n < 2 ^ w → w ≤ 64
    → ((v : Env (Name P)) → All (IsFit v) args → needs v → n ≡ g v) → GivesBy b p ws ws args needs g w (Known n)
known_gives p ws args needs g w n small most same = record {
  before = λ v s. s;
  stays = λ outside a t. t;
  operand = omega (arith, small, pow_mono {i = w} {j = 64} most);
  bits = small;
  given = λ outside a there. record {
    wires = a;
    there = tt;
    value = λ v f s m. same v (λ k d lt. fit_of (behind p outside ws) v _ (there k d lt) (a.fits v f s)) m;
  };
  apart = stay_none p ws args (Known n ∷ []) (λ ins h. all_one (IsAvailable ins) (Known n) tt);
}

-- all bits of a net, and no wire
pub whole_gives :
    {P : Type 0} (p : P) (ws : List (BlockWireTree (Name P))) (n : Name P) (of from w : ℕ) → IsWide w → from ≡ 0 → of ≡ w → Gives p ws ws (Net n of ∷ []) always (λ v. bits_from (v.net n).value from w) w (Net n of)
whole_gives p ws n of from w wide zero_is same = record {
  before = λ v s. s;
  stays = λ outside a t. t;
  operand = subst IsWide (sym same) wide;
  bits = same;
  given = λ outside a there. record {
    wires = a;
    there = there 0 (Net n of) (omega arith);
    value = λ v f s m.
        let fit : HasWidth v n of = a.fits v f s (Net n of) (there 0 (Net n of) (omega arith)) in
        whole_bits (v.net n).value of fit.small ∙ ap (λ k. bits_from (v.net n).value 0 k) same ∙ ap (λ k. bits_from (v.net n).value k w) (sym zero_is);
  };
  apart = stay_none p ws (Net n of ∷ []) (Net n of ∷ []) (λ ins h. h);
}

-- some bits of a net, or of bits of one, and no wire
pub some_give : {P : Type 0} (p : P) (ws : List (BlockWireTree (Name P))) (n : Name P) (of from w : ℕ) → IsWithin of from w → Gives p ws ws (Net n of ∷ []) always (λ v. bits_from (v.net n).value from w) w (Part n of from w)
some_give p ws n of from w is = record {
  before = λ v s. s;
  stays = λ outside a t. t;
  operand = is;
  bits = refl;
  given = λ outside a there. record { wires = a; there = inl (there 0 (Net n of) (omega arith)); value = λ v f s m. refl };
  apart = stay_none p ws (Net n of ∷ []) (Part n of from w ∷ []) (λ ins h. all_one (IsAvailable ins) (Part n of from w) (inl (h 0 (Net n of) (omega arith))));
}

pub fewer_give :
    {P : Type 0} (p : P) (ws : List (BlockWireTree (Name P))) (n : Name P) (of at bits from w : ℕ) → IsWithin of at bits → 0 < w → from + w ≤ bits
    → Gives p ws ws (Part n of at bits ∷ []) always (λ v. bits_from (bits_from (v.net n).value at bits) from w) w (Part n of (at + from) w)
fewer_give p ws n of at bits from w is some inside = record {
  before = λ v s. s;
  stays = λ outside a t. t;
  operand = let below = is.inside in record { some = some; inside = omega arith; most = is.most };
  bits = refl;
  given = λ outside a there. record { wires = a; there = there 0 (Part n of at bits) (omega arith); value = λ v f s m. sym (bits_of_bits (v.net n).value at bits from w inside) };
  apart = stay_none p ws (Part n of at bits ∷ []) (Part n of (at + from) w ∷ []) (λ ins h. all_one (IsAvailable ins) (Part n of (at + from) w) (h 0 (Part n of at bits) (omega arith)));
}
