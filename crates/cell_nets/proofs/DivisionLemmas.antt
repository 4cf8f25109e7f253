-- Quotients and remainders.
use Rattle.std.specs.Prelude.{◌==◌, ◌≢◌, not, if◌then◌else◌}
use Rattle.std.proofs.Common.{◌≡◌, ℕ, zero, suc, ◌/◌, ◌%◌, ◌^◌, ◌<◌, Bool, true, false, List, [], ◌∷◌, ◌++◌, length, refl, sym, ◌∙◌, ap, subst, arith, inl}
use Rattle.std.proofs.lemmas.Bool.{eq-eqb, eqb-true}
use Rattle.std.proofs.lemmas.Nat.{mod_below}
use Rattle.std.proofs.Math.Nat.{mod-eq_of_lt, div-le_self}
use Rattle.net_core.specs.Nets.{Tree, RightTree, RPlain}
use Rattle.net_core.specs.Value.{Env, word, right_value, stops}
use Rattle.net_core.specs.Width.{Scope, right_width}
use Rattle.block_core.specs.design_rules.FormedSyntax.{right_spelled}
use Rattle.net_core.specs.ProductRules.Products.{right_flat}
use Rattle.cell_core.specs.bits_core.Bits.{div_u_of, mod_u_of}
use Rattle.cell_core.specs.xdp_machine.State.{PacketIn}
use Rattle.block_core.specs.declared.name.Name.{Name}
use Rattle.block_core.specs.declared.name.Name.TheVariants as name
use Rattle.block_core.specs.Blocks.{BlockWireTree}
use Rattle.block_core.specs.Order.{RightReads}
use Rattle.block_core.specs.Parts.{Solve}
use Rattle.block_core.proofs.list_laws_laws.AllLaws.{all_one}
use Rattle.cell_core.specs.declared.operator.Operator.TheVariants.{NonZero}
use Rattle.cell_core.specs.Cells.{number, bits_from}
use Rattle.cell_nets.specs.declared.operand.Operand.{Operand}
use Rattle.cell_nets.specs.declared.operand.Operand.TheVariants.{Net}
use Rattle.cell_nets.specs.Dividing.{divided, division}
use Rattle.cell_nets.specs.Operands.{number_in, IsOperand, IsWide, AreFit, IsAvailable, IsNetOf}
use Rattle.cell_nets.specs.Parts.{Computes, worth}
use Rattle.cell_nets.specs.Wires.{behind, GivesBy, Gives, always}
use Rattle.cell_nets.proofs.ExpressionPartLaws.{same_is}
use Rattle.cell_nets.proofs.NarrowLaws.{from_zero, bits_small}
use Rattle.cell_nets.proofs.SliceLaws.{whole_bits}
use Rattle.cell_nets.proofs.ChoiceLaws.{fit_of, number_small}
use Rattle.cell_nets.proofs.WireLemmas.{wires_more, stays_more, last_there, last_is, wire_gives}
use Rattle.cell_nets.proofs.ApartLaws.{stay_as, stay_wire, stay_then}

-- ---- a divisor
not_zero : (y : ℕ) → y ≢ 0 → (y == 0) ≡ false
not_zero y h = by_test (y == 0) refl
  where
    by_test : (t : Bool) → (y == 0) ≡ t → (y == 0) ≡ false
    by_test true e = absurd (h (eqb-true y 0 e))
    by_test false e = e

kept : (t : Bool) (y : ℕ) → t ≡ false → y < 2 ^ 64 → bits_from (if not t then y else 1) 0 64 ≡ y
kept true y e less = cc
kept false y e less = sym (whole_bits y 64 less)

some : (t : Bool) (y : ℕ) → (t ≡ false → y ≢ 0) → y < 2 ^ 64 → bits_from (if not t then y else 1) 0 64 ≢ 0
some true y h less e = absurd (omega (arith, e))
some false y h less e = h refl (whole_bits y 64 less ∙ e)

test_not : (y : ℕ) → (y == 0) ≡ false → y ≢ 0
test_not y e z = let f : (y == 0) ≡ true = eq-eqb y 0 z in cc

pub divisor_some : (packet : PacketIn) (y : ℕ) → y < 2 ^ 64 → bits_from (number packet NonZero (y ∷ [])) 0 64 ≢ 0
divisor_some packet y less = some (y == 0) y (test_not y) less

divisor_is : (packet : PacketIn) (y : ℕ) → y < 2 ^ 64 → y ≢ 0 → bits_from (number packet NonZero (y ∷ [])) 0 64 ≡ y
divisor_is packet y less h = kept (y == 0) y (not_zero y h) less

-- ---- what comes of a division
div_some : (a b : ℕ) → b ≢ 0 → div_u_of a b ≡ a / b
div_some a zero h = absurd (h refl)
div_some a (suc b) h = refl

mod_some : (a b : ℕ) → b ≢ 0 → mod_u_of a b ≡ a % b
mod_some a zero h = absurd (h refl)
mod_some a (suc b) h = refl

quotient_of : {N : Type 0} (v : Env N) (remainder : Bool) (n d : N) → ℕ
quotient_of v true n d = (v.net n).value % (v.net d).value
quotient_of v false n d = (v.net n).value / (v.net d).value

right_value_is : {N : Type 0} (v : Env N) (remainder : Bool) (n d : N) → right_value v (divided remainder n d) ≡ word (v.net n).width (quotient_of v remainder n d)
unfolding quotient_of
right_value_is v true n d = refl
right_value_is v false n d = refl

stops_is : {N : Type 0} (v : Env N) (remainder : Bool) (n d : N) → (v.net d).value ≢ 0 → stops v (divided remainder n d) ≡ false
stops_is v true n d h = not_zero (v.net d).value h
stops_is v false n d h = not_zero (v.net d).value h

quotient_small : {N : Type 0} (v : Env N) (remainder : Bool) (n d : N) → (v.net d).value ≢ 0 → (v.net n).value < 2 ^ 64 → (v.net d).value < 2 ^ 64 → quotient_of v remainder n d < 2 ^ 64
unfolding quotient_of
quotient_small v true n d h less small = let positive : 0 < (v.net d).value = omega arith in omega (arith, mod_below (v.net n).value (v.net d).value positive)
quotient_small v false n d h less small = omega (arith, div-le_self (v.net n).value (v.net d).value)

divided_width : {N : Type 0} (s : Scope N) (remainder : Bool) (n d : N) → s.net n ≡ 64 → s.net d ≡ 64 → right_width s (divided remainder n d) ≡ 64
divided_width s true n d e f = rw (e, f) (same_is 64)
divided_width s false n d e f = rw (e, f) (same_is 64)

divided_reads : {N : Type 0} (q : N → Type 0) (remainder : Bool) (n d : N) → q n → q d → RightReads q (divided remainder n d)
divided_reads q true n d h l = (h, l)
divided_reads q false n d h l = (h, l)

divided_spelled : {N : Type 0} (remainder : Bool) (n d : N) → right_spelled (divided remainder n d) ≡ true
divided_spelled true n d = refl
divided_spelled false n d = refl

-- the operator's number, where the divisor is not 0
quotient_is : {N : Type 0} (packet : PacketIn) (v : Env N) (remainder : Bool) (n d : N) (x y : ℕ) → (v.net n).value ≡ x % 2 ^ 64 → (v.net d).value ≡ y → y < 2 ^ 64 → y ≢ 0 → quotient_of v remainder n d < 2 ^ 64
    → quotient_of v remainder n d ≡ bits_from (number packet (division remainder) (x ∷ y ∷ [])) 0 64
unfolding quotient_of
quotient_is packet v true n d x y e f less h small =
    whole_bits _ 64 small ∙ ap (λ k. bits_from k 0 64) (ap (λ k. k % (v.net d).value) e ∙ ap (λ k. x % 2 ^ 64 % k) f ∙ sym (ap (λ k. mod_u_of (x % 2 ^ 64) k) (mod-eq_of_lt {n = y} {m = 2 ^ 64} less) ∙ mod_some (x % 2 ^ 64) y h))
quotient_is packet v false n d x y e f less h small =
    whole_bits _ 64 small ∙ ap (λ k. bits_from k 0 64) (ap (λ k. k / (v.net d).value) e ∙ ap (λ k. x % 2 ^ 64 / k) f ∙ sym (ap (λ k. div_u_of (x % 2 ^ 64) k) (mod-eq_of_lt {n = y} {m = 2 ^ 64} less) ∙ div_some (x % 2 ^ 64) y h))

divided_flat : {N : Type 0} (made : N → Bool) (remainder : Bool) (n d : N) → made n ≡ false → made d ≡ false → right_flat made (divided remainder n d) ≡ true
divided_flat made true n d h k = rw (h, k) refl
divided_flat made false n d h k = rw (h, k) refl

abbrev divided_wire : {N : Type 0} → Bool → N → N → BlockWireTree N
divided_wire remainder n d = record { width = 64; right = divided remainder n d }

-- a wire for each operand, and one for what comes of them
pub divided_gives :
    {P : Type 0} (p : P) (old one two three : List (BlockWireTree (Name P))) (remainder : Bool) (a b : Operand (Name P)) (top bottom : Tree (Name P)) (right : RightTree (Name P)) (n d q : Name P) (packet : PacketIn) → one ≡ old ++ record { width = 64; right = RPlain top } ∷ [] → n ≡ name.Wire p (length old)
    → two ≡ one ++ record { width = 64; right = RPlain bottom } ∷ [] → d ≡ name.Wire p (length one) → right ≡ divided remainder n d → three ≡ two ++ record { width = 64; right = right } ∷ [] → q ≡ name.Wire p (length two) → IsOperand b
    → ((ins : List (Operand (Name P))) → IsAvailable ins a → Computes ins 64 (λ v. bits_from (number_in v a) 0 64) top) → ((ins : List (Operand (Name P))) → IsAvailable ins b → Computes ins 64 (worth packet NonZero (b ∷ []) 64) bottom)
    → GivesBy true p old three (a ∷ b ∷ []) (λ v. number_in v b ≢ 0) (worth packet (division remainder) (a ∷ b ∷ []) 64) 64 (Net q 64)
divided_gives {P} p old one two three remainder a b top bottom right n d q packet is1 is2 is3 is4 is is5 is6 word_b ct cb =
    subst (λ l. GivesBy true p old l (a ∷ b ∷ []) (λ v. number_in v b ≢ 0) (worth packet (division remainder) (a ∷ b ∷ []) 64) 64 (Net q 64)) (sym (is5 ∙ ap (λ r. two ++ record { width = 64; right = r } ∷ []) is))
    (subst (λ m. GivesBy true p old (two ++ (divided_wire remainder n d) ∷ []) (a ∷ b ∷ []) (λ v. number_in v b ≢ 0) (worth packet (division remainder) (a ∷ b ∷ []) 64) 64 (Net m 64)) (sym is6) whole)
  where
    wide : IsWide 64
    wide = record { some = omega arith; most = omega arith }

    first : Gives p old one (a ∷ []) always (λ v. bits_from (number_in v a) 0 64) 64 (Net n 64)
    first = wire_gives p old one (a ∷ []) _ 64 top n is1 is2 wide (λ v. bits_small (number_in v a) 0 64) (λ ins h. ct ins (h 0 a (omega arith)))

    second : Gives p one two (b ∷ []) always (worth packet NonZero (b ∷ []) 64) 64 (Net d 64)
    second = wire_gives p one two (b ∷ []) _ 64 bottom d is3 is4 wide (λ v. bits_small (number packet NonZero (number_in v b ∷ [])) 0 64) (λ ins h. cb ins (h 0 b (omega arith)))

    whole : GivesBy true p old (two ++ (divided_wire remainder n d) ∷ []) (a ∷ b ∷ []) (λ v. number_in v b ≢ 0) (worth packet (division remainder) (a ∷ b ∷ []) 64) 64 (Net (name.Wire p (length two)) 64)
    whole = record {
      before = λ v s. first.before v (second.before v (last_is p v two (divided_wire remainder n d) s).0);
      stays = λ outside c t. stays_more p two (divided_wire remainder n d) outside c (second.stays outside c (first.stays outside c t));
      operand = wide;
      bits = refl;
      given = λ outside aw there.
          let x = first.given outside aw (all_one (IsAvailable (behind p outside old)) a (there 0 a (omega arith))) in
          let b_there = first.stays outside b (there 1 b (omega arith)) in
          let y = second.given outside x.wires (all_one (IsAvailable (behind p outside one)) b b_there) in
          let n_there = second.stays outside (Net n 64) x.there in
          let b_fit = λ (v : Env (Name P)) (f : AreFit v outside) (s : Solve v p 0 two). number_small v b word_b (fit_of (behind p outside one) v b b_there (x.wires.fits v f (second.before v s))) in
          let n_fit = λ (v : Env (Name P)) (f : AreFit v outside) (s : Solve v p 0 two). fit_of (behind p outside two) v (Net n 64) n_there (y.wires.fits v f s) in
          let d_fit = λ (v : Env (Name P)) (f : AreFit v outside) (s : Solve v p 0 two). fit_of (behind p outside two) v (Net d 64) y.there (y.wires.fits v f s) in
          let d_some = λ (v : Env (Name P)) (f : AreFit v outside) (s : Solve v p 0 two) (z : (v.net d).value ≡ 0). divisor_some packet (number_in v b) (b_fit v f s) (sym (y.value v f s tt) ∙ z) in
          let small = λ (v : Env (Name P)) (f : AreFit v outside) (s : Solve v p 0 two). quotient_small v remainder n d (d_some v f s) (n_fit v f s).small (d_fit v f s).small in
          record {
            wires = wires_more p outside two (divided_wire remainder n d) y.wires (record {
              wide = wide;
              typed = λ s h. divided_width s remainder n d (h (Net n 64) n_there) (h (Net d 64) y.there);
              width = λ v f s. ap (λ k. k.width) (right_value_is v remainder n d) ∙ (n_fit v f s).width;
              small = λ v f s. subst (λ k. k < 2 ^ 64) (sym (ap (λ k. k.value) (right_value_is v remainder n d))) (small v f s);
              goes = λ v f s. stops_is v remainder n d (d_some v f s);
              reads = divided_reads (IsNetOf (behind p outside two)) remainder n d (64, inl n_there) (64, inl y.there);
              spelled = divided_spelled remainder n d;
            });
            there = last_there p two (divided_wire remainder n d) outside;
            value = λ v f s m.
                let l = last_is p v two (divided_wire remainder n d) s in
                ap (λ k. k.value) l.1 ∙ ap (λ k. k.value) (right_value_is v remainder n d)
                ∙ quotient_is packet v remainder n d (number_in v a) (number_in v b) (x.value v f (second.before v l.0) tt ∙ from_zero (number_in v a) 64) (y.value v f l.0 tt ∙ divisor_is packet (number_in v b) (b_fit v f l.0) m) (b_fit v f l.0) m (small v f l.0);
          };
      apart = stay_then p old two (two ++ divided_wire remainder n d ∷ []) (a ∷ b ∷ []) both both (Net (name.Wire p (length two)) 64 ∷ []) (λ ins h k. k)
          (stay_then p old one two (a ∷ b ∷ []) (Net n 64 ∷ b ∷ []) (Net n 64 ∷ b ∷ []) both (λ ins h k. k)
          (stay_as p old one (a ∷ []) (Net n 64 ∷ []) (a ∷ b ∷ []) (b ∷ []) (λ ins h. all_one (IsAvailable ins) a (h 0 a (omega arith))) (λ ins h. all_one (IsAvailable ins) b (h 1 a (omega arith))) first.apart)
          (stay_as p one two (b ∷ []) (Net d 64 ∷ []) (Net n 64 ∷ b ∷ []) (Net n 64 ∷ []) (λ ins h. all_one (IsAvailable ins) b (h 1 a (omega arith))) (λ ins h. all_one (IsAvailable ins) (Net n 64) (h 0 a (omega arith))) second.apart))
          (stay_wire p two both (divided_wire remainder n d) 64 (λ made h. divided_flat made remainder n d (h 1 a (omega arith)) (h 0 a (omega arith))) (λ e. cc) (λ e. cc));
    }
      where
        both : List (Operand (Name P))
        both = Net d 64 ∷ Net n 64 ∷ []
