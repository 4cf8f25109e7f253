-- Products among wires that become more.
use Rattle.std.specs.Prelude.{Contains}
use Rattle.std.specs.List.{list_all}
use Rattle.std.proofs.Common.{◌≡◌, ℕ, zero, suc, ◌+◌, Bool, true, false, All, List, [], ◌∷◌, ◌++◌, length, length-append, get_or, refl, sym, ◌∙◌, ap, subst, arith, inl, inr, append_assoc, append-nil}
use Rattle.std.proofs.lemmas.Bool.{and_from}
use Rattle.std.proofs.lemmas.List.Elements.{All-append, All-contains, All-contains_itself, Contains-append_left, Contains-append_right}
use Rattle.std.proofs.lemmas.List.{length-map}
use Rattle.std.proofs.lemmas.List.Folds.{list_all-append}
use Rattle.net_core.specs.Nets.{SBlock, SEnd}
use Rattle.net_core.specs.ProductRules.Products.{right_product, right_flat}
use Rattle.block_core.specs.declared.name.Name.{Name}
use Rattle.block_core.specs.declared.name.Name.TheVariants as name
use Rattle.block_core.specs.Blocks.{BlockTree, BlockWireTree}
use Rattle.block_core.specs.ProductBlocks.Apart.{AreMarked}
use Rattle.block_core.specs.ProductBlocks.Alone.{wire_flat}
use Rattle.block_core.proofs.ProductBlocks.FreeLaws.{all_marked, free_is_apart}
use Rattle.block_core.proofs.ProductBlocks.CleanLaws.{marked_behind}
use Rattle.cell_nets.specs.declared.operand.Operand.{Operand}
use Rattle.cell_nets.specs.declared.operand.Operand.TheVariants.{Known, Net, Part}
use Rattle.cell_nets.specs.Apart.{IsClean, Agrees, StayApart}
use Rattle.cell_nets.specs.Operands.{IsAvailable, IsNetOf}
use Rattle.cell_nets.proofs.AvailableLaws.{available}

-- ---- operands over others

pub all_self : {N : Type 0} (args : List (Operand N)) → All (IsAvailable args) args
all_self args n d lt = available args (get_or args n d) (All-contains_itself args n d lt)

module _ {N : Type 0} (made : N → Bool) (ins : List (Operand N)) (clean : All (IsClean made) ins) where
  at_clean : (a : Operand N) → Contains ins a → IsClean made a
  at_clean a h = All-contains (IsClean made) ins a clean h

  pub net_clean : (n : N) → IsNetOf ins n → made n ≡ false
  net_clean n (w, inl h) = at_clean (Net n w) h
  net_clean n (w, inr (from, u, h)) = at_clean (Part n w from u) h

  available_clean : (a : Operand N) → IsAvailable ins a → IsClean made a
  available_clean (Known n) h = tt
  available_clean (Net n w) h = at_clean (Net n w) h
  available_clean (Part n of from w) h = net_clean n (of, h)

  pub all_clean : (args : List (Operand N)) → All (IsAvailable ins) args → All (IsClean made) args
  all_clean args h n d lt = available_clean (get_or args n d) (h n d lt)

-- those that are there after others
beside : {N : Type 0} (made : N → Bool) (args outs bs : List (Operand N)) → ((ins : List (Operand N)) → All (IsAvailable ins) args → All (IsAvailable ins) outs → All (IsAvailable ins) bs) → All (IsClean made) args → All (IsClean made) outs → All (IsClean made) bs
beside made args outs bs sub h k =
    let ins = outs ++ args in
    all_clean made ins (All-append (IsClean made) outs args k h) bs
    (sub ins (λ n d lt. available ins (get_or args n d) (Contains-append_right outs args (get_or args n d) (All-contains_itself args n d lt)))
    (λ n d lt. available ins (get_or outs n d) (Contains-append_left outs args (get_or outs n d) (All-contains_itself outs n d lt))))

-- ---- marks
pub agrees_split : {P : Type 0} (p : P) (at n : ℕ) (ms ns : List Bool) (made : Name P → Bool) → n ≡ at + length ms → Agrees p at (ms ++ ns) made → Agrees p at ms made × Agrees p n ns made
agrees_split p at n [] ns made e h = let f : at ≡ n = omega arith in (tt, subst (λ k. Agrees p k ns made) f h)
agrees_split p at n (m ∷ ms) ns made e h = let r = agrees_split p (suc at) n ms ns made (omega arith) h.1 in ((h.0, r.0), r.1)

pub free_marked : {N : Type 0} (ws : List (BlockWireTree N)) → ((made : N → Bool) → list_all (wire_flat made) ws ≡ true) → (made : N → Bool) → AreMarked made (all_marked ws) ws
free_marked {N} ws h made = (free_is_apart alone (record { wires = h; statement = λ m. refl }) made).wires
  where
    alone : BlockTree N
    alone = record { registers = []; memories = []; wires = ws; statement = SBlock SEnd }

-- ---- no wire; the same wires in other words; one wire
pub stay_none : {P : Type 0} {b : Bool} (p : P) (ws : List (BlockWireTree (Name P))) (args outs : List (Operand (Name P))) → ((ins : List (Operand (Name P))) → All (IsAvailable ins) args → All (IsAvailable ins) outs) → StayApart b p ws ws args outs
stay_none p ws args outs sub = record {
  more = [];
  added = sym (append-nil ws);
  marks = [];
  count = refl;
  apart = λ made c g. tt;
  clean = λ e made c g. all_clean made args c outs (sub args (all_self args));
  free = λ e made. refl;
}

pub stay_as :
    {P : Type 0} {b : Bool} (p : P) (old new : List (BlockWireTree (Name P))) (args outs bs kept : List (Operand (Name P))) → ((ins : List (Operand (Name P))) → All (IsAvailable ins) bs → All (IsAvailable ins) args)
    → ((ins : List (Operand (Name P))) → All (IsAvailable ins) bs → All (IsAvailable ins) kept) → StayApart b p old new args outs → StayApart b p old new bs (outs ++ kept)
stay_as p old new args outs bs kept sub also x = record {
  more = x.more;
  added = x.added;
  marks = x.marks;
  count = x.count;
  apart = λ made c g. x.apart made (all_clean made bs c args (sub bs (all_self bs))) g;
  clean = λ e made c g. All-append (IsClean made) outs kept (x.clean e made (all_clean made bs c args (sub bs (all_self bs))) g) (all_clean made bs c kept (also bs (all_self bs)));
  free = x.free;
}

pub stay_wire :
    {P : Type 0} {b : Bool} (p : P) (old : List (BlockWireTree (Name P))) (args : List (Operand (Name P))) (w : BlockWireTree (Name P)) (u : ℕ) → ((made : Name P → Bool) → All (IsClean made) args → right_flat made w.right ≡ true)
    → (b ≡ false → (made : Name P → Bool) → All (IsClean made) args → right_product made w.right ≡ false) → (b ≡ false → (made : Name P → Bool) → right_flat made w.right ≡ true)
    → StayApart b p old (old ++ w ∷ []) args (Net (name.Wire p (length old)) u ∷ [])
stay_wire {P} {b} p old args w u flat none free = record {
  more = w ∷ [];
  added = refl;
  marks = b ∷ [];
  count = refl;
  apart = λ made c g. (λ e. none e made c, flat made c, tt);
  clean = λ e made c g. one made (g.0 ∙ e);
  free = λ e made. and_from _ _ (free e made) refl;
}
  where
    one : (made : Name P → Bool) → made (name.Wire p (length old)) ≡ false → All (IsClean made) (Net (name.Wire p (length old)) u ∷ [])
    one made e zero d lt = e
    one made e (suc k) d lt = absurd (omega arith)

-- ---- a step after another one
module _ {P : Type 0} {b c : Bool} (p : P) (old mid new : List (BlockWireTree (Name P))) (args outs bs lasts : List (Operand (Name P))) (x : StayApart b p old mid args outs) (y : StayApart c p mid new bs lasts) where
  long : length mid ≡ length old + length x.marks
  long = omega (arith, ap (λ (l : List (BlockWireTree (Name P))). length l) x.added, length-append old x.more, x.count)

  joined : new ≡ old ++ (x.more ++ y.more)
  joined = y.added ∙ ap (λ l. l ++ y.more) x.added ∙ append_assoc old x.more y.more

-- that takes what the step before gave, where this is no product
pub stay_then :
    {P : Type 0} {c : Bool} (p : P) (old mid new : List (BlockWireTree (Name P))) (args outs bs lasts : List (Operand (Name P))) → ((ins : List (Operand (Name P))) → All (IsAvailable ins) args → All (IsAvailable ins) outs → All (IsAvailable ins) bs)
    → StayApart false p old mid args outs → StayApart c p mid new bs lasts → StayApart c p old new args lasts
stay_then {P} p old mid new args outs bs lasts sub x y = record {
  more = x.more ++ y.more;
  added = joined p old mid new args outs bs lasts x y;
  marks = x.marks ++ y.marks;
  count = omega (arith, length-append x.marks y.marks, length-append x.more y.more, x.count, y.count);
  apart = λ made h g. marked_behind made x.marks y.marks x.more y.more (x.apart made h (split made g).0) (y.apart made (given made h g) (split made g).1);
  clean = λ e made h g. y.clean e made (given made h g) (split made g).1;
  free = λ e made. list_all-append (wire_flat made) x.more y.more ∙ and_from _ _ (x.free refl made) (y.free e made);
}
  where
    split : (made : Name P → Bool) → Agrees p (length old) (x.marks ++ y.marks) made → Agrees p (length old) x.marks made × Agrees p (length mid) y.marks made
    split made g = agrees_split p (length old) (length mid) x.marks y.marks made (long p old mid new args outs bs lasts x y) g

    given : (made : Name P → Bool) → All (IsClean made) args → Agrees p (length old) (x.marks ++ y.marks) made → All (IsClean made) bs
    given made h g = beside made args outs bs sub h (x.clean refl made h (split made g).0)

-- that is marked, where this is a product
stay_behind :
    {P : Type 0} (p : P) (old mid new : List (BlockWireTree (Name P))) (args outs bs lasts : List (Operand (Name P))) → StayApart true p old mid args outs → StayApart false p mid new bs lasts → StayApart true p old new args lasts
stay_behind {P} p old mid new args outs bs lasts x y = record {
  more = x.more ++ y.more;
  added = joined p old mid new args outs bs lasts x y;
  marks = x.marks ++ all_marked y.more;
  count = omega (arith, length-append x.marks (all_marked y.more), length-append x.more y.more, x.count, length-map y.more (λ (w : BlockWireTree (Name P)). true));
  apart = λ made h g.
      marked_behind made x.marks (all_marked y.more) x.more y.more (x.apart made h (agrees_split p (length old) (length mid) x.marks (all_marked y.more) made (long p old mid new args outs bs lasts x y) g).0) (free_marked y.more (y.free refl) made);
  clean = λ e. cc;
  free = λ e. cc;
}

pub stay_next :
    {P : Type 0} {b : Bool} (p : P) (old mid new : List (BlockWireTree (Name P))) (args outs bs lasts : List (Operand (Name P))) → ((ins : List (Operand (Name P))) → All (IsAvailable ins) args → All (IsAvailable ins) outs → All (IsAvailable ins) bs)
    → StayApart b p old mid args outs → StayApart false p mid new bs lasts → StayApart b p old new args lasts
stay_next {b = true} p old mid new args outs bs lasts sub x y = stay_behind p old mid new args outs bs lasts x y
stay_next {b = false} p old mid new args outs bs lasts sub x y = stay_then p old mid new args outs bs lasts sub x y
