-- The numbers of pointers after wires.
use Rattle.std.specs.Prelude.{Option, Contains, not, if◌then◌else◌}
use Rattle.std.proofs.Common.{◌≡◌, ◌⊎◌, inl, inr, ℕ, zero, suc, ◌+◌, ◌^◌, ◌<◌, Bool, true, false, Some, All, List, [], ◌∷◌, ◌++◌, length, length-append, take, get_or, set, map, refl, sym, ◌∙◌, ap, subst, arith, slice_index}
use Rattle.std.proofs.lemmas.Nat.{pow_pos}
use Rattle.std.proofs.lemmas.List.{length-set, length-map}
use Rattle.std.proofs.lemmas.List.Elements.{All-append, All-contains}
use Rattle.std.proofs.Math.Seq.{take-suc}
use Rattle.net_core.specs.Value.{Env}
use Rattle.overlay_net.specs.xdp_machine.State.{PacketIn}
use Rattle.block_core.specs.ProductBlocks.Apart.{is_marked, AreMarked}
use Rattle.block_core.proofs.ProductBlocks.FreeLaws.{all_marked}
use Rattle.block_core.proofs.ProductBlocks.CleanLaws.{marked_behind}
use Rattle.block_core.specs.declared.name.Name.{Name}
use Rattle.block_core.specs.Blocks.{BlockWireTree}
use Rattle.block_core.proofs.list_laws_laws.AllLaws.{both_all}
use Rattle.overlay_net.specs.cell_core.declared.operator.Operator.{Operator}
use Rattle.overlay_net.specs.cell_core.declared.operator.Operator.TheVariants.{Phi}
use Rattle.overlay_net.specs.cell_core.Cells.{CellView, cell_at, on, phi}
use Rattle.overlay_net.specs.hazard_core.declared.pointer.Pointer.{Pointer}
use Rattle.cell_nets.specs.declared.operand.Operand.{Operand}
use Rattle.cell_nets.specs.Operands.{number_in, IsOperand, AreFit, IsAvailable}
use Rattle.cell_nets.specs.Parts.{worth}
use Rattle.cell_nets.specs.Apart.{Agrees, StayApart}
use Rattle.cell_nets.specs.Wires.{behind, always, HasBits, Gives}
use Rattle.cell_nets.proofs.ApartLaws.{agrees_split, free_marked}
use Rattle.cell_nets.proofs.ChoiceLaws.{fit_of}
use Rattle.cell_nets.proofs.SliceLaws.{whole_bits}
use Rattle.cell_nets.proofs.PartLaws.{bits_below}
use Rattle.overlay_net.specs.SiteOperands.Pointers.{pointer_number}
use Rattle.row_net.specs.Table.{Stands, IsIn, AreThere, Holds}
use Rattle.row_net.specs.Apart.{KeepApart}
use Rattle.row_net.specs.SitePlace.Pointing.{joined_pointer, made_pointer, HoldsPointers, is_edge, HoldsOf, Takes, ArePointed}
use Rattle.row_net.specs.SitePlace.PointerNets.{AreChoices, BothThere, AddWires, GivesPointer, IsPointerRow}
use Rattle.row_net.proofs.SitePlace.ChangeLemmas.{at_place, of_changed, still_in}
use Rattle.row_net.proofs.SitePlace.PointingLaws.{takes_as}

-- ---- choices
not_not : (b : Bool) → not (not b) ≡ b
not_not true = refl
not_not false = refl

if_of : {A : Type 0} (f : A → ℕ) (c : Bool) (x y : A) → (if c then f x else f y) ≡ f (if c then x else y)
if_of f true x y = refl
if_of f false x y = refl

if_in : (Q : ℕ → Type 0) (c : Bool) (x y : ℕ) → Q x → Q y → Q (if c then x else y)
if_in Q true x y h g = h
if_in Q false x y h g = g

module _ {N : Type 0} (table pointers : List (Option (Operand N))) where
  abbrev IsChoice : Operand N → Bool → ℕ → Type 0
  IsChoice a b k = HoldsOf (λ i. Stands table i a) (λ i. Stands pointers i a) b k

  behind_pair : (e x : ℕ) (a b : Operand N) (ins : List ℕ) (args : List (Operand N)) → AreChoices table pointers (e ∷ x ∷ ins) (a ∷ b ∷ args) → AreChoices table pointers ins args
  behind_pair e x a b ins args h = record { count = omega (arith, h.count); each = λ n d l. subst (λ t. IsChoice (get_or args n d) t (slice_index ins n)) (not_not (is_edge n)) (h.each (suc (suc n)) d (omega (arith, l))) }

  -- each of them stands for a cell or a pointer
  pub choices_all : (Q : Operand N → Type 0) → ((k : ℕ) (a : Operand N) → Stands table k a → Q a) → ((k : ℕ) (a : Operand N) → Stands pointers k a → Q a) → (ins : List ℕ) (args : List (Operand N)) → AreChoices table pointers ins args → All Q args
  choices_all Q cells those ins args h = λ n d l. by_side (get_or args n d) (is_edge n) (slice_index ins n) (h.each n d (omega (arith, l, h.count)))
    where
      by_side : (a : Operand N) (b : Bool) (k : ℕ) → IsChoice a b k → Q a
      by_side a true k s = cells k a s
      by_side a false k s = those k a s

  module _ (v : Env N) (val : ℕ → ℕ) (at : ℕ → Pointer) (cells : Holds v table val) (those : HoldsPointers v pointers at) where
    pub phi_is : (ins : List ℕ) (args : List (Operand N)) → AreChoices table pointers ins args → phi (map (number_in v) args) ≡ pointer_number (joined_pointer val at ins)
    phi_is [] [] h = refl
    phi_is [] (a ∷ args) h = absurd (omega (arith, h.count))
    phi_is (e ∷ []) [] h = absurd (omega (arith, h.count))
    phi_is (e ∷ []) (a ∷ []) h = refl
    phi_is (e ∷ []) (a ∷ b ∷ args) h = absurd (omega (arith, h.count))
    phi_is (e ∷ x ∷ []) [] h = absurd (omega (arith, h.count))
    phi_is (e ∷ x ∷ []) (a ∷ []) h = absurd (omega (arith, h.count))
    phi_is (e ∷ x ∷ []) (a ∷ b ∷ []) h = those x b (h.each 1 b (omega arith))
    phi_is (e ∷ x ∷ []) (a ∷ b ∷ c ∷ args) h = absurd (omega (arith, h.count))
    phi_is (e ∷ x ∷ d ∷ ins) [] h = absurd (omega (arith, h.count))
    phi_is (e ∷ x ∷ d ∷ ins) (a ∷ []) h = absurd (omega (arith, h.count))
    phi_is (e ∷ x ∷ d ∷ ins) (a ∷ b ∷ []) h = absurd (omega (arith, h.count))
    phi_is (e ∷ x ∷ d ∷ ins) (a ∷ b ∷ c ∷ args) h =
        let edge : number_in v a ≡ val e = cells e a (h.each 0 a (omega arith)) in
        let here : number_in v b ≡ pointer_number (at x) = those x b (h.each 1 b (omega arith)) in
        let rest = phi_is (d ∷ ins) (c ∷ args) (behind_pair e x a b (d ∷ ins) (c ∷ args) h) in
        ap (λ n. if on n then number_in v b else phi (map (number_in v) (c ∷ args))) edge
        ∙ ap (λ n. if on (val e) then n else phi (map (number_in v) (c ∷ args))) here
        ∙ ap (λ n. if on (val e) then pointer_number (at x) else n) rest
        ∙ if_of pointer_number (on (val e)) (at x) (joined_pointer val at (d ∷ ins))

  pub phi_small : (v : Env N) (bits : ℕ) → ((k : ℕ) (a : Operand N) → Stands pointers k a → number_in v a < 2 ^ bits) → (ins : List ℕ) (args : List (Operand N)) → AreChoices table pointers ins args → phi (map (number_in v) args) < 2 ^ bits
  phi_small v bits small ins [] h = pow_pos bits
  phi_small v bits small ins (a ∷ []) h = pow_pos bits
  phi_small v bits small [] (a ∷ b ∷ args) h = absurd (omega (arith, h.count))
  phi_small v bits small (e ∷ []) (a ∷ b ∷ args) h = absurd (omega (arith, h.count))
  phi_small v bits small (e ∷ x ∷ ins) (a ∷ b ∷ []) h = small x b (h.each 1 b (omega arith))
  phi_small v bits small (e ∷ x ∷ ins) (a ∷ b ∷ c ∷ args) h =
      if_in (λ n. n < 2 ^ bits) (on (number_in v a)) (number_in v b) (phi (map (number_in v) (c ∷ args))) (small x b (h.each 1 b (omega arith))) (phi_small v bits small ins (c ∷ args) (behind_pair e x a b ins (c ∷ args) h))

-- ---- wires that become more
pub adds_none : {P : Type 0} (p : P) (ws : List (BlockWireTree (Name P))) → AddWires p ws ws
adds_none p ws = record { before = λ v s. s; stays = λ outside a h. h; apart = λ clean marks table keep. (marks, keep) }

pub adds_then : {P : Type 0} (p : P) (old mid new : List (BlockWireTree (Name P))) → AddWires p old mid → AddWires p mid new → AddWires p old new
adds_then p old mid new x y = record {
  before = λ v s. x.before v (y.before v s);
  stays = λ outside a h. y.stays outside a (x.stays outside a h);
  apart = λ clean marks table keep. let first = x.apart clean marks table keep in y.apart clean first.0 table first.1;
}

-- wires without products
keeps_apart :
    {P : Type 0} (p : P) (old new : List (BlockWireTree (Name P))) (args outs : List (Operand (Name P))) → StayApart false p old new args outs → (clean : ℕ → Bool) (marks : List Bool) (table : List (Option (Operand (Name P)))) → KeepApart p clean marks old table
    → (next : List Bool) × KeepApart p clean next new table
keeps_apart {P} p old new args outs stay clean marks table keep = (
  marks ++ all_marked stay.more,
  record {
    count = omega (arith, length-append marks (all_marked stay.more), keep.count, length-map stay.more (λ (w : BlockWireTree (Name P)). true), ap (λ (l : List (BlockWireTree (Name P))). length l) stay.added, length-append old stay.more);
    wires = λ all g.
        subst (AreMarked (is_marked all) (marks ++ all_marked stay.more)) (sym stay.added)
        (marked_behind (is_marked all) marks (all_marked stay.more) old stay.more (keep.wires all (front all g)) (free_marked stay.more (stay.free refl) (is_marked all)));
    stands = λ all g k a c s. keep.stands all (front all g) k a c s;
  },
)
  where
    front : (all : P → List Bool) → Agrees p 0 (marks ++ all_marked stay.more) (is_marked all) → Agrees p 0 marks (is_marked all)
    front all g = (agrees_split p 0 (length old) marks (all_marked stay.more) (is_marked all) (omega (arith, keep.count)) g).0

-- ---- one pointer
-- no wire
pub at_hand :
    {P : Type 0} (p : P) (bits : ℕ) (op : Operator) (ins : List ℕ) (table pointers : List (Option (Operand (Name P)))) (ws : List (BlockWireTree (Name P))) (out : Operand (Name P)) → IsOperand out → HasBits bits out → ((all : List (Operand (Name P))) → AreThere all pointers → IsAvailable all out)
    → ((v : Env (Name P)) (val : ℕ → ℕ) (at : ℕ → Pointer) → HoldsPointers v pointers at → number_in v out ≡ pointer_number (made_pointer val at ins op)) → GivesPointer p bits op ins table pointers ws ws out
at_hand p bits op ins table pointers ws out operand wide there value = record {
  adds = adds_none p ws;
  operand = operand;
  wide = wide;
  wires = λ outside both. both.wires;
  there = λ outside both. there (behind p outside ws) both.pointers;
  value = λ outside v val at both fit solved cells those. value v val at those;
}

-- the choice of a join
pub joined :
    {P : Type 0} (p : P) (bits : ℕ) (ins : List ℕ) (table pointers : List (Option (Operand (Name P)))) (old new : List (BlockWireTree (Name P))) (args : List (Operand (Name P))) (out : Operand (Name P)) → AreChoices table pointers ins args
    → ((k : ℕ) (a : Operand (Name P)) → Stands pointers k a → HasBits bits a) → ((packet : PacketIn) → Gives p old new args always (worth packet Phi args bits) bits out) → GivesPointer p bits Phi ins table pointers old new out
joined {P} p bits ins table pointers old new args out choices wide gives = record {
  adds = record { before = g.before; stays = g.stays; apart = keeps_apart p old new args (out ∷ []) g.apart };
  operand = g.operand;
  wide = g.bits;
  wires = λ outside both. (g.given outside both.wires (there outside both)).wires;
  there = λ outside both. (g.given outside both.wires (there outside both)).there;
  value = λ outside v val at both fit solved cells those.
      let fits : AreFit v (behind p outside old) = both.wires.fits v fit (g.before v solved) in
      let small = phi_small table pointers v bits (λ k a s. bits_below v a bits (wide k a s) (fit_of (behind p outside old) v a (both.pointers k a s) fits)) ins args choices in
      (g.given outside both.wires (there outside both)).value v fit solved tt ∙ sym (whole_bits (phi (map (number_in v) args)) bits small) ∙ phi_is table pointers v val at cells those ins args choices;
}
  where
    no_packet : PacketIn
    no_packet = record { frame = []; ifindex = 0; time = 0 }

    g : Gives p old new args always (worth no_packet Phi args bits) bits out
    g = gives no_packet

    there : (outside : List (Operand (Name P))) → BothThere p outside old table pointers → All (IsAvailable (behind p outside old)) args
    there outside both = choices_all table pointers (IsAvailable (behind p outside old)) both.cells both.pointers ins args choices

-- ---- pointers one after another

module _ {P : Type 0} (p : P) (cells : List CellView) (bits : ℕ) (made : List ℕ) (k : ℕ) (table : List (Option (Operand (Name P)))) (old mid new : List (BlockWireTree (Name P))) (a b : List (Option (Operand (Name P)))) (out : Operand (Name P)) (inside : k < length b)
    (x : IsPointerRow p cells bits made table old mid a b) (g : GivesPointer p bits (cell_at cells k).op (cell_at cells k).ins table b mid new out) where
  abbrev c : List (Option (Operand (Name P)))
  c = set b k (Some out)

  abbrev Is : (ℕ → ℕ) → (ℕ → Pointer) → ℕ → Type 0
  Is val at j = at j ≡ made_pointer val at (cell_at cells j).ins (cell_at cells j).op

  one_in : All (IsIn c) (k ∷ [])
  one_in zero d l = (out, at_place b k out inside)
  one_in (suc n) d l = absurd (omega (arith, l))

  one_more : IsPointerRow p cells bits (made ++ k ∷ []) table old new a c
  one_more = record {
    pointers = record {
      count = length-set b k (Some out) ∙ x.pointers.count;
      operand = of_changed b k out inside (λ j o. IsOperand o) g.operand x.pointers.operand;
      wide = of_changed b k out inside (λ j o. HasBits bits o) g.wide x.pointers.wide;
    };
    all_in = All-append (IsIn c) made (k ∷ []) (λ n d l. still_in b k out inside _ (x.all_in n d l)) one_in;
    grows = λ j i. still_in b k out inside j (x.grows j i);
    adds = adds_then p old mid new x.adds g.adds;
    there = λ outside both.
        let m = x.there outside both in
        record {
          wires = g.wires outside m;
          cells = λ j o s. g.adds.stays outside o (m.cells j o s);
          pointers = of_changed b k out inside (λ j o. IsAvailable (behind p outside new) o) (g.there outside m) (λ j o s. g.adds.stays outside o (m.pointers j o s));
        };
    value = λ outside v val at both fit solved are holds those.
        let parts = both_all (Is val at) made (k ∷ []) are in
        let m = x.there outside both in
        let earlier = x.value outside v val at both fit (g.adds.before v solved) parts.0 holds those in
        of_changed b k out inside (λ j o. number_in v o ≡ pointer_number (at j)) (g.value outside v val at m fit solved holds earlier ∙ ap pointer_number (sym (parts.1 0 0 (omega arith)))) earlier;
  }

-- one more of those that are to be made
pub pointers_more :
    {P : Type 0} (p : P) (cells : List CellView) (bits : ℕ) (made : List ℕ) (i k : ℕ) (table : List (Option (Operand (Name P)))) (old mid new : List (BlockWireTree (Name P))) (a b c : List (Option (Operand (Name P)))) (out : Operand (Name P)) → i < length made → k ≡ get_or made i k → k < length cells
    → IsPointerRow p cells bits (take i made) table old mid a b → GivesPointer p bits (cell_at cells k).op (cell_at cells k).ins table b mid new out → c ≡ set b k (Some out) → IsPointerRow p cells bits (take (i + 1) made) table old new a c
pointers_more p cells bits made i k table old mid new a b c out within is inside x g e =
    let s : suc i ≡ i + 1 = omega arith in
    let f : take (i + 1) made ≡ take i made ++ k ∷ [] = ap (λ n. take n made) (sym s) ∙ take-suc made i k within ∙ ap (λ z. take i made ++ z ∷ []) (sym is) in
    let row = one_more p cells bits (take i made) k table old mid new a b out (omega (arith, inside, x.pointers.count)) x g in
    subst (λ q. IsPointerRow p cells bits (take (i + 1) made) table old new a q) (sym e) (subst (λ l. IsPointerRow p cells bits l table old new a (set b k (Some out))) (sym f) row)

-- what the next one takes is there
pub takes_now :
    {P : Type 0} (p : P) (cells : List CellView) (bits : ℕ) (made : List ℕ) (i : ℕ) (table : List (Option (Operand (Name P)))) (old mid : List (BlockWireTree (Name P))) (a b : List (Option (Operand (Name P)))) → i < length made → ArePointed cells table a [] made → IsPointerRow p cells bits (take i made) table old mid a b
    → Takes (IsIn table) (IsIn b) (cell_at cells (slice_index made i)).op (cell_at cells (slice_index made i)).ins
takes_now p cells bits made i table old mid a b within r x =
    takes_as (λ j. IsIn table j ⊎ Contains [] j) (IsIn table) (λ j. IsIn a j ⊎ Contains (take i made) j) (IsIn b) of_cell of_pointer (cell_at cells (slice_index made i)).op (cell_at cells (slice_index made i)).ins (r.inputs i within)
  where
    of_cell : (j : ℕ) → IsIn table j ⊎ Contains [] j → IsIn table j
    of_cell j (inl h) = h
    of_cell j (inr h) = let l = h.1 in absurd (omega arith)

    of_pointer : (j : ℕ) → IsIn a j ⊎ Contains (take i made) j → IsIn b j
    of_pointer j (inl h) = x.grows j h
    of_pointer j (inr h) = All-contains (IsIn b) (take i made) j x.all_in h

-- after the row of cells nothing of it is still to be made
pub pointed_after :
    {N : Type 0} (cells : List CellView) (before after pointers : List (Option (Operand N))) (made made_pointers : List ℕ) → ((k : ℕ) → IsIn before k → IsIn after k) → All (IsIn after) made → ArePointed cells before pointers made made_pointers → ArePointed cells after pointers [] made_pointers
pointed_after cells before after pointers made made_pointers grows all_in r = record {
  within = r.within;
  inputs = λ n l.
      takes_as (λ j. IsIn before j ⊎ Contains made j) (λ j. IsIn after j ⊎ Contains [] j) (λ j. IsIn pointers j ⊎ Contains (take n made_pointers) j) (λ j. IsIn pointers j ⊎ Contains (take n made_pointers) j) of_cell (λ j h. h) (cell_at cells (slice_index made_pointers n)).op
      (cell_at cells (slice_index made_pointers n)).ins (r.inputs n l);
}
  where
    of_cell : (j : ℕ) → IsIn before j ⊎ Contains made j → IsIn after j ⊎ Contains [] j
    of_cell j (inl h) = inl (grows j h)
    of_cell j (inr h) = inl (All-contains (IsIn after) made j all_in h)
