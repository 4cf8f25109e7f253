-- Wires of cells, one after another.
use Rattle.std.specs.Prelude.{◌==◌, ◌≢◌, ◌||◌, Option, Contains}
use Rattle.std.proofs.Common.{◌≡◌, ◌⊎◌, inl, inr, ℕ, zero, suc, ◌+◌, ◌<◌, Bool, true, false, Some, None, All, List, [], ◌∷◌, ◌++◌, length, take, get_or, set, map, refl, sym, ◌∙◌, ap, ap₂, subst, arith, slice_index}
use Rattle.std.proofs.lemmas.Bool.{eqb-true, eqb-false}
use Rattle.std.proofs.lemmas.List.{get_or-set_same, get_or-set_other, length-set, get_or-map}
use Rattle.std.proofs.lemmas.List.Elements.{All-append, All-contains, Contains-append_left, Contains-append_right}
use Rattle.std.proofs.Math.Seq.{take-suc}
use Rattle.net_core.specs.Value.{Env}
use Rattle.overlay_net.specs.xdp_machine.State.{PacketIn}
use Rattle.block_core.specs.declared.name.Name.{Name}
use Rattle.block_core.specs.Blocks.{BlockWireTree}
use Rattle.block_core.proofs.list_laws_laws.AllLaws.{both_all}
use Rattle.overlay_net.specs.cell_core.Cells.{CellView, cell_at, number, value, bits_from}
use Rattle.overlay_net.specs.cell_core.Formed.{IsFormed, divides}
use Rattle.cell_nets.specs.declared.operand.Operand.{Operand}
use Rattle.cell_nets.specs.Computing.{makes_product, taken, HasDivisor}
use Rattle.cell_nets.specs.Operands.{number_in, IsOperand, IsAvailable}
use Rattle.cell_nets.specs.Wires.{behind, HasBits, GivesBy}
use Rattle.row_net.specs.Table.{Stands, IsIn, IsTable, AreThere, Holds, AreOperands}
use Rattle.row_net.specs.Made.{IsReady, AreValues, IsRow}
use Rattle.row_net.proofs.ApartLaws.{divides_two, taken_all, cell_apart}

-- ---- a table with one entry changed
module _ {N : Type 0} (table : List (Option (Operand N))) (k : ℕ) (a : Operand N) (inside : k < length table) where
  abbrev changed : List (Option (Operand N))
  changed = set table k (Some a)

  here : Stands changed k a
  here = get_or-set_same table k (Some a) None inside

  other : (j : ℕ) → j ≢ k → get_or changed j None ≡ get_or table j None
  other j h = get_or-set_other table k j (Some a) None h

  same_or_other : (j : ℕ) → (j ≡ k) ⊎ (j ≢ k)
  same_or_other j = by_test (j == k) refl
    where
      by_test : (t : Bool) → (j == k) ≡ t → (j ≡ k) ⊎ (j ≢ k)
      by_test true e = inl (eqb-true j k e)
      by_test false e = inr (eqb-false j k e)

  some_is : (b c : Operand N) → Some b ≡ Some c → c ≡ b
  some_is b c e = cc

  new_or_old : (j : ℕ) (b : Operand N) → Stands changed j b → ((j ≡ k) × (b ≡ a)) ⊎ Stands table j b
  new_or_old j b s = by_cases (same_or_other j)
    where
      by_cases : (j ≡ k) ⊎ (j ≢ k) → ((j ≡ k) × (b ≡ a)) ⊎ Stands table j b
      by_cases (inl e) = inl (e, some_is a b (sym (ap (λ i. get_or changed i None) e ∙ here) ∙ s))
      by_cases (inr h) = inr (sym (other j h) ∙ s)

  still_in : (j : ℕ) → IsIn table j → IsIn changed j
  still_in j (b, s) = by_cases (same_or_other j)
    where
      by_cases : (j ≡ k) ⊎ (j ≢ k) → IsIn changed j
      by_cases (inl e) = subst (IsIn changed) (sym e) (a, here)
      by_cases (inr h) = (b, other j h ∙ s)

-- ---- inputs
values_are : {N : Type 0} (v : Env N) (val : ℕ → ℕ) (table : List (Option (Operand N))) (ins : List ℕ) (args : List (Operand N)) → AreOperands table ins args → Holds v table val → map (number_in v) args ≡ map val ins
values_are v val table [] [] o h = refl
values_are v val table [] (a ∷ args) o h = absurd (omega (arith, o.count))
values_are v val table (i ∷ ins) [] o h = absurd (omega (arith, o.count))
values_are v val table (i ∷ ins) (a ∷ args) o h =
    ap₂ (λ x xs. x ∷ xs) (h i a (o.each 0 a (omega arith))) (values_are v val table ins args (record { count = omega (arith, o.count); each = λ n d lt. o.each (suc n) d (omega (arith, lt)) }) h)

pub args_all : {N : Type 0} (Q : Operand N → Type 0) (table : List (Option (Operand N))) (ins : List ℕ) (args : List (Operand N)) → AreOperands table ins args → ((k : ℕ) (a : Operand N) → Stands table k a → Q a) → All Q args
args_all Q table ins args o h = λ n d lt. h (slice_index ins n) (get_or args n d) (o.each n d (omega (arith, lt, o.count)))

-- ---- one cell
pub cell_row :
    {P : Type 0} (p : P) (cells : List CellView) (k : ℕ) (old new : List (BlockWireTree (Name P))) (table after : List (Option (Operand (Name P)))) (args : List (Operand (Name P))) (out : Operand (Name P)) (none : PacketIn) → k < length cells → IsFormed cells k
    → IsTable cells table → AreOperands table (cell_at cells k).ins args → after ≡ set table k (Some out)
    → ((packet : PacketIn) → GivesBy (makes_product (cell_at cells k).op) p old new (taken (cell_at cells k).op args) (HasDivisor (cell_at cells k).op args) (λ v. bits_from (number packet (cell_at cells k).op (map (number_in v) args)) (cell_at cells k).from (cell_at cells k).width) (cell_at cells k).width out)
    → IsRow p cells (k ∷ []) old new table after
cell_row {P} p cells k old new table after args out none within formed t o is gives = subst (IsRow p cells (k ∷ []) old new table) (sym is) row
  where
    inside : k < length table
    inside = omega (arith, within, t.count)

    args_there : (outside : List (Operand (Name P))) → AreThere (behind p outside old) table → All (IsAvailable (behind p outside old)) (taken (cell_at cells k).op args)
    args_there outside h = taken_all (IsAvailable (behind p outside old)) (cell_at cells k).op args (args_all (IsAvailable (behind p outside old)) table (cell_at cells k).ins args o h)

    split : (Q : ℕ → Operand (Name P) → Type 0) → Q k out → ((j : ℕ) (b : Operand (Name P)) → Stands table j b → Q j b) → (j : ℕ) (b : Operand (Name P)) → Stands (set table k (Some out)) j b → Q j b
    split Q here rest j b s = by_cases (new_or_old table k out inside j b s)
      where
        by_cases : ((j ≡ k) × (b ≡ out)) ⊎ Stands table j b → Q j b
        by_cases (inl e) = subst (λ i. Q i b) (sym e.0) (subst (Q k) (sym e.1) here)
        by_cases (inr old) = rest j b old

    some_divisor : (v : Env (Name P)) (packet : PacketIn) (val : ℕ → ℕ) → AreValues packet cells (k ∷ []) val → map (number_in v) args ≡ map val (cell_at cells k).ins → HasDivisor (cell_at cells k).op args v
    some_divisor v packet val vals same d =
        let two : 1 < length (cell_at cells k).ins = omega (arith, formed.enough, divides_two (cell_at cells k).op d) in
        let e : slice_index (map (number_in v) args) 1 ≡ val (slice_index (cell_at cells k).ins 1) = ap (λ l. slice_index l 1) same ∙ get_or-map val (cell_at cells k).ins 1 0 0 two in
        λ zero_is. vals.divisors 0 0 (omega arith) d (sym e ∙ zero_is)

    row : IsRow p cells (k ∷ []) old new table (set table k (Some out))
    row = record {
      table = record {
        count = length-set table k (Some out) ∙ t.count;
        operand = split (λ j b. IsOperand b) (gives none).operand t.operand;
        bits = split (λ j b. HasBits (cell_at cells j).width b) (gives none).bits t.bits;
      };
      all_in = one_made;
      grows = still_in table k out inside;
      kept = λ j h. other table k out inside j (λ e. h (0, omega arith, sym e));
      earlier = (gives none).before;
      stays = (gives none).stays;
      wires = λ outside a h. ((gives none).given outside a (args_there outside h)).wires;
      there = λ outside a h. split (λ j b. IsAvailable (behind p outside new) b) ((gives none).given outside a (args_there outside h)).there (λ j b s. (gives none).stays outside b (h j b s));
      value = λ outside v packet val a h fit solved vals holds.
          let y = (gives packet).given outside a (args_there outside h) in
          let same : map (number_in v) args ≡ map val (cell_at cells k).ins = values_are v val table (cell_at cells k).ins args o holds in
          split (λ j b. number_in v b ≡ val j)
          (y.value v fit solved (some_divisor v packet val vals same) ∙ ap (λ l. bits_from (number packet (cell_at cells k).op l) (cell_at cells k).from (cell_at cells k).width) same ∙ sym (vals.each 0 0 (omega arith))) holds;
      apart = λ clean marks t keep. cell_apart p cells k old new table (set table k (Some out)) args out clean marks o (gives none).apart (new_or_old table k out inside) t keep;
    }
      where
        one_made : All (IsIn (set table k (Some out))) (k ∷ [])
        one_made zero d lt = (out, here table k out inside)
        one_made (suc n) d lt = absurd (omega (arith, lt))

pub no_packet : PacketIn
no_packet = record { frame = []; ifindex = 0; time = 0 }

pub row_then :
    {P : Type 0} (p : P) (cells : List CellView) (xs ys : List ℕ) (old mid new : List (BlockWireTree (Name P))) (a b c : List (Option (Operand (Name P)))) → IsRow p cells xs old mid a b → IsRow p cells ys mid new b c → IsRow p cells (xs ++ ys) old new a c
row_then p cells xs ys old mid new a b c x y = record {
  table = y.table;
  all_in = All-append (IsIn c) xs ys (λ n d lt. y.grows _ (x.all_in n d lt)) y.all_in;
  grows = λ k h. y.grows k (x.grows k h);
  kept = λ k h. y.kept k (λ e. h (Contains-append_right xs ys k e)) ∙ x.kept k (λ e. h (Contains-append_left xs ys k e));
  earlier = λ v s. x.earlier v (y.earlier v s);
  stays = λ outside o h. y.stays outside o (x.stays outside o h);
  wires = λ outside aw h. y.wires outside (x.wires outside aw h) (x.there outside aw h);
  there = λ outside aw h. y.there outside (x.wires outside aw h) (x.there outside aw h);
  value = λ outside v packet val aw h fit solved vals holds.
      let Is : ℕ → Type 0 = λ k. val k ≡ value packet val (cell_at cells k) in
      let Divides : ℕ → Type 0 = λ k. divides (cell_at cells k).op ≡ true → val (slice_index (cell_at cells k).ins 1) ≢ 0 in
      let left : AreValues packet cells xs val = record { each = (both_all Is xs ys vals.each).0; divisors = (both_all Divides xs ys vals.divisors).0 } in
      let right : AreValues packet cells ys val = record { each = (both_all Is xs ys vals.each).1; divisors = (both_all Divides xs ys vals.divisors).1 } in
      y.value outside v packet val (x.wires outside aw h) (x.there outside aw h) fit solved right (x.value outside v packet val aw h fit (y.earlier v solved) left holds);
  apart = λ clean marks t keep.
      let Takes : ℕ → Type 0 = λ k. (clean k || makes_product (cell_at cells k).op) ≡ true → All (λ i. clean i ≡ true) (taken (cell_at cells k).op (cell_at cells k).ins) in
      let Other : ℕ → Type 0 = λ k. clean k ≡ true → makes_product (cell_at cells k).op ≡ false in
      let taking = both_all Takes xs ys t.inputs in
      let other = both_all Other xs ys t.others in
      let first = x.apart clean marks (record { inputs = taking.0; others = other.0 }) keep in
      y.apart clean first.0 (record { inputs = taking.1; others = other.1 }) first.1;
}

-- one more of the cells that are to be made
pub row_more :
    {P : Type 0} (p : P) (cells : List CellView) (made : List ℕ) (i k : ℕ) (old mid new : List (BlockWireTree (Name P))) (a b c : List (Option (Operand (Name P)))) → i < length made → k ≡ get_or made i k → IsRow p cells (take i made) old mid a b → IsRow p cells (k ∷ []) mid new b c
    → IsRow p cells (take (i + 1) made) old new a c
row_more p cells made i k old mid new a b c inside is x y =
    let e : suc i ≡ i + 1 = omega arith in
    let f : take (i + 1) made ≡ take i made ++ k ∷ [] = ap (λ n. take n made) (sym e) ∙ take-suc made i k inside ∙ ap (λ z. take i made ++ z ∷ []) (sym is) in
    subst (λ l. IsRow p cells l old new a c) (sym f) (row_then p cells (take i made) (k ∷ []) old mid new a b c x y)

-- its inputs are there
pub inputs_in :
    {P : Type 0} (p : P) (cells : List CellView) (made : List ℕ) (i k : ℕ) (old mid : List (BlockWireTree (Name P))) (a b : List (Option (Operand (Name P)))) → i < length made → k ≡ slice_index made i → IsReady cells a made → IsRow p cells (take i made) old mid a b
    → All (IsIn b) (cell_at cells k).ins
inputs_in p cells made i k old mid a b inside is r x = subst (λ j. All (IsIn b) (cell_at cells j).ins) (sym is) (λ n d lt. by_cases (get_or (cell_at cells (slice_index made i)).ins n d) (r.inputs i inside n d lt))
  where
    by_cases : (j : ℕ) → IsIn a j ⊎ Contains (take i made) j → IsIn b j
    by_cases j (inl h) = x.grows j h
    by_cases j (inr h) = All-contains (IsIn b) (take i made) j x.all_in h
