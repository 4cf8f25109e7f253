-- Wires, one after another.
use Rattle.std.specs.Prelude.{Contains, nat_le}
use Rattle.std.specs.List.{list_all}
use Rattle.std.proofs.Common.{◌≡◌, ℕ, zero, suc, ◌+◌, ◌^◌, ◌<◌, Bool, true, false, ◌&&◌, All, List, [], ◌∷◌, ◌++◌, length, get_or, refl, sym, ◌∙◌, ap, subst, arith, inl, inr, ◌⊎◌, append_assoc}
use Rattle.std.proofs.lemmas.Bool.{le-leb, lt-ltb, eq-eqb}
use Rattle.std.proofs.lemmas.List.Elements.{Contains-append_left, Contains-append_cases, Contains-push, Contains-push_cases}
use Rattle.net_core.specs.Nets.{Tree, TConst, TRead, TBit, TPartSelect, TMemoryWord, TUnary, TBinary, TConditional, TConcatenation, Trees, TLast, TMore, RightTree, RPlain, RQuotient, RRemainder}
use Rattle.net_core.specs.Value.{Env, right_value, stops}
use Rattle.net_core.specs.Width.{Scope, right_width, same}
use Rattle.frame_net.specs.GatherNets as gathering
use Rattle.block_core.specs.design_rules.FormedSyntax.{right_spelled}
use Rattle.block_core.specs.declared.name.Name.{Name}
use Rattle.block_core.specs.declared.name.Name.TheVariants as name
use Rattle.block_core.specs.Blocks.{BlockWireTree, Whole}
use Rattle.block_core.specs.Formed.{block_wires_typed}
use Rattle.block_core.specs.Order.{Reads, AllRead, RightReads, IsBefore, InOrder}
use Rattle.block_core.specs.Parts.{Solve, Goes}
use Rattle.block_core.proofs.ProductBlocks.FreeLaws.{flat_without}
use Rattle.block_core.proofs.ProductBlocks.CleanLaws.{none_in}
use Rattle.block_core.proofs.list_laws_laws.BoolLaws.{both_of, and_is}
use Rattle.cell_nets.specs.declared.operand.Operand.{Operand}
use Rattle.cell_nets.specs.declared.operand.Operand.TheVariants.{Known, Net, Part}
use Rattle.cell_nets.specs.Operands.{IsWide, IsFit, AreFit, AreDeclared, IsAvailable, IsNetOf}
use Rattle.cell_nets.specs.Parts.{ComputesBy}
use Rattle.cell_nets.specs.Wires.{own, behind, is_spelled, AreWires, GivesBy, always}
use Rattle.cell_nets.proofs.ApartLaws.{all_self, net_clean, stay_wire}

-- ---- one wire more
module _ {P : Type 0} (p : P) where
  own_more : (at : ℕ) (ws : List (BlockWireTree (Name P))) (w : BlockWireTree (Name P)) (n : ℕ) → n ≡ at + length ws → own p at (ws ++ w ∷ []) ≡ own p at ws ++ Net (name.Wire p n) w.width ∷ []
  own_more at [] w n e = let f : at ≡ n = omega arith in ap (λ k. Net (name.Wire p k) w.width ∷ []) f
  own_more at (x ∷ ws) w n e = ap (λ l. Net (name.Wire p at) x.width ∷ l) (own_more (suc at) ws w n (omega arith))

  behind_more : (outside : List (Operand (Name P))) (ws : List (BlockWireTree (Name P))) (w : BlockWireTree (Name P)) → behind p outside (ws ++ w ∷ []) ≡ behind p outside ws ++ Net (name.Wire p (length ws)) w.width ∷ []
  behind_more outside ws w = ap (λ l. outside ++ l) (own_more 0 ws w (length ws) (omega arith)) ∙ sym (append_assoc outside (own p 0 ws) (Net (name.Wire p (length ws)) w.width ∷ []))

  solve_more : (v : Env (Name P)) (at : ℕ) (ws : List (BlockWireTree (Name P))) (w : BlockWireTree (Name P)) (n : ℕ) → n ≡ at + length ws → Solve v p at (ws ++ w ∷ []) → Solve v p at ws × (v.net (name.Wire p n) ≡ right_value v w.right)
  solve_more v at [] w n e h = let f : n ≡ at = omega arith in (tt, ap (λ k. v.net (name.Wire p k)) f ∙ h.0)
  solve_more v at (x ∷ ws) w n e h = let r = solve_more v (suc at) ws w n (omega arith) h.1 in ((h.0, r.0), r.1)

  order_more : (d : Whole P) (before : List P) (at : ℕ) (ws : List (BlockWireTree (Name P))) (w : BlockWireTree (Name P)) (n : ℕ) → n ≡ at + length ws → InOrder d before p at ws → RightReads (IsBefore d before p n) w.right → InOrder d before p at (ws ++ w ∷ [])
  order_more d before at [] w n e h r = let f : n ≡ at = omega arith in (subst (λ k. RightReads (IsBefore d before p k) w.right) f r, tt)
  order_more d before at (x ∷ ws) w n e h r = (h.0, order_more d before (suc at) ws w n (omega arith) h.1 r)

  own_net : (at : ℕ) (ws : List (BlockWireTree (Name P))) (n : Name P) (u k : ℕ) → k < length (own p at ws) → get_or (own p at ws) k (Net n u) ≡ Net n u → (i : ℕ) × (i < at + length ws) × (n ≡ name.Wire p i)
  own_net at [] n u k h e = absurd (omega arith)
  own_net at (x ∷ ws) n u zero h e = (at, omega arith, cc)
  own_net at (x ∷ ws) n u (suc k) h e = let r = own_net (suc at) ws n u k (omega arith) e in (r.0, omega (arith, r.1), r.2)

  own_whole : (at : ℕ) (ws : List (BlockWireTree (Name P))) (n : Name P) (of from w k : ℕ) → k < length (own p at ws) → get_or (own p at ws) k (Part n of from w) ≡ Part n of from w → ⊥
  own_whole at [] n of from w k h e = omega arith
  own_whole at (x ∷ ws) n of from w zero h e = cc
  own_whole at (x ∷ ws) n of from w (suc k) h e = own_whole (suc at) ws n of from w k (omega arith) e

  later : (d : Whole P) (before : List P) (at : ℕ) (n : Name P) → IsBefore d before p 0 n → IsBefore d before p at n
  later d before at (name.Port i) h = h
  later d before at (name.Register q i) h = h
  later d before at (name.Memory q i) h = h
  later d before at (name.Wire q i) (inl h) = absurd (let k = h.1 in omega arith)
  later d before at (name.Wire q i) (inr h) = inr h

  -- what stands after other wires comes before the next
  behind_before :
      (d : Whole P) (before : List P) (outside : List (Operand (Name P))) (ws : List (BlockWireTree (Name P))) → ((n : Name P) → IsNetOf outside n → IsBefore d before p 0 n)
      → (n : Name P) → IsNetOf (behind p outside ws) n → IsBefore d before p (length ws) n
  behind_before d before outside ws h n (u, inr (from, w, c)) = by_cases (Contains-append_cases outside (own p 0 ws) (Part n u from w) c)
    where
      by_cases : Contains outside (Part n u from w) ⊎ Contains (own p 0 ws) (Part n u from w) → IsBefore d before p (length ws) n
      by_cases (inl a) = later d before (length ws) n (h n (u, inr (from, w, a)))
      by_cases (inr b) = absurd (own_whole 0 ws n u from w b.0 b.1 b.2)
  behind_before d before outside ws h n (u, inl c) = by_cases (Contains-append_cases outside (own p 0 ws) (Net n u) c)
    where
      by_cases : Contains outside (Net n u) ⊎ Contains (own p 0 ws) (Net n u) → IsBefore d before p (length ws) n
      by_cases (inl a) = later d before (length ws) n (h n (u, inl a))
      by_cases (inr b) = let r = own_net 0 ws n u b.0 b.1 b.2 in subst (IsBefore d before p (length ws)) (sym r.2) (inl (refl, omega (arith, r.1)))

goes_more : {N : Type 0} (v : Env N) (ws : List (BlockWireTree N)) (w : BlockWireTree N) → Goes v ws → stops v w.right ≡ false → Goes v (ws ++ w ∷ [])
goes_more v [] w h e = (e, tt)
goes_more v (x ∷ ws) w h e = (h.0, goes_more v ws w h.1 e)

typed_more : {N : Type 0} (s : Scope N) (ws : List (BlockWireTree N)) (w : BlockWireTree N) → block_wires_typed s ws ≡ true → (same w.width (right_width s w.right) && nat_le w.width 64) ≡ true → block_wires_typed s (ws ++ w ∷ []) ≡ true
typed_more s [] w h e = and_is _ _ e refl
typed_more s (x ∷ ws) w h e = let q = both_of _ _ h in and_is _ _ q.0 (typed_more s ws w q.1 e)

all_more : {X : Type 0} (f : X → Bool) (xs : List X) (x : X) → list_all f xs ≡ true → f x ≡ true → list_all f (xs ++ x ∷ []) ≡ true
all_more f [] x h e = and_is _ _ e refl
all_more f (y ∷ xs) x h e = let q = both_of _ _ h in and_is _ _ q.0 (all_more f xs x q.1 e)

module _ {N : Type 0} (p q : N → Type 0) (h : (n : N) → p n → q n) where
  mutual
    pub reads_as : (e : Tree N) → Reads p e → Reads q e
    reads_as (TConst w) r = tt
    reads_as (TRead n) r = h n r
    reads_as (TBit n i) r = h n r
    reads_as (TPartSelect n hi lo) r = h n r
    reads_as (TMemoryWord m i) r = (h m r.0, reads_as i r.1)
    reads_as (TUnary o a) r = reads_as a r
    reads_as (TBinary op a b) r = (reads_as a r.0, reads_as b r.1)
    reads_as (TConditional c a b) r = (reads_as c r.0, reads_as a r.1, reads_as b r.2)
    reads_as (TConcatenation ps) r = parts_as ps r

    parts_as : (e : Trees N) → AllRead p e → AllRead q e
    parts_as (TLast a) r = reads_as a r
    parts_as (TMore a ps) r = (reads_as a r.0, parts_as ps r.1)

  right_as : (r : RightTree N) → RightReads p r → RightReads q r
  right_as (RPlain e) k = reads_as e k
  right_as (RQuotient a b) k = (h a k.0, h b k.1)
  right_as (RRemainder a b) k = (h a k.0, h b k.1)

-- what is asked of the right side of a further wire
pub record IsRight {P : Type 0} (p : P) (outside : List (Operand (Name P))) (ws : List (BlockWireTree (Name P))) (w : BlockWireTree (Name P)) : Type 0 where
  pub wide : IsWide w.width
  pub typed : (s : Scope (Name P)) → AreDeclared s (behind p outside ws) → right_width s w.right ≡ w.width
  pub width : (v : Env (Name P)) → AreFit v outside → Solve v p 0 ws → (right_value v w.right).width ≡ w.width
  pub small : (v : Env (Name P)) → AreFit v outside → Solve v p 0 ws → (right_value v w.right).value < 2 ^ w.width
  pub goes : (v : Env (Name P)) → AreFit v outside → Solve v p 0 ws → stops v w.right ≡ false
  pub reads : RightReads (IsNetOf (behind p outside ws)) w.right
  pub spelled : right_spelled w.right ≡ true

fit_at : {P : Type 0} (v : Env (Name P)) (a b : Operand (Name P)) → a ≡ b → IsFit v a → IsFit v b
fit_at v a b e f = subst (IsFit v) e f

pub wires_more : {P : Type 0} (p : P) (outside : List (Operand (Name P))) (ws : List (BlockWireTree (Name P))) (w : BlockWireTree (Name P)) → AreWires p outside ws → IsRight p outside ws w → AreWires p outside (ws ++ w ∷ [])
wires_more {P} p outside ws w a r = record {
  fits = λ v f h c in_all.
      let s = solve_more p v 0 ws w (length ws) (omega arith) h in
      let e = behind_more p outside ws w in
      fit_cases v f s.0 s.1 c (Contains-push_cases (behind p outside ws) (Net (name.Wire p (length ws)) w.width) c (subst (λ l. Contains l c) e in_all));
  goes = λ v f h. let s = solve_more p v 0 ws w (length ws) (omega arith) h in goes_more v ws w (a.goes v f s.0) (r.goes v f s.0);
  typed = λ s h. typed_more s ws w (a.typed s (earlier s h)) (width_holds s (r.typed s (earlier s h)));
  ordered = λ d before h. order_more p d before 0 ws w (length ws) (omega arith) (a.ordered d before h) (right_as _ _ (behind_before p d before outside ws h) w.right r.reads);
  spelled = all_more is_spelled ws w a.spelled r.spelled;
}
  where
    fit_cases : (v : Env (Name P)) → AreFit v outside → Solve v p 0 ws → v.net (name.Wire p (length ws)) ≡ right_value v w.right → (c : Operand (Name P)) → Contains (behind p outside ws) c ⊎ (Net (name.Wire p (length ws)) w.width ≡ c) → IsFit v c
    fit_cases v f s e c (inl h) = a.fits v f s c h
    fit_cases v f s e c (inr h) = fit_at v (Net (name.Wire p (length ws)) w.width) c h (record { width = ap (λ k. k.width) e ∙ r.width v f s; small = let k = r.small v f s in subst (λ k. k < 2 ^ w.width) (sym (ap (λ k. k.value) e)) k })

    earlier : (s : Scope (Name P)) → AreDeclared s (behind p outside (ws ++ w ∷ [])) → AreDeclared s (behind p outside ws)
    earlier s h c in_ws = h c (subst (λ l. Contains l c) (sym (behind_more p outside ws w)) (Contains-append_left (behind p outside ws) (Net (name.Wire p (length ws)) w.width ∷ []) c in_ws))

    width_holds : (s : Scope (Name P)) → right_width s w.right ≡ w.width → (same w.width (right_width s w.right) && nat_le w.width 64) ≡ true
    width_holds s e = rw e (and_is _ _ (and_is _ _ (lt-ltb 0 w.width r.wide.some) (eq-eqb w.width w.width refl)) (le-leb w.width 64 r.wide.most))

-- ---- what it gives
contains_more : {P : Type 0} (p : P) (ws : List (BlockWireTree (Name P))) (w : BlockWireTree (Name P)) (outside : List (Operand (Name P))) (a : Operand (Name P)) → Contains (behind p outside ws) a → Contains (behind p outside (ws ++ w ∷ [])) a
contains_more p ws w outside a h = subst (λ l. Contains l a) (sym (behind_more p outside ws w)) (Contains-append_left (behind p outside ws) (Net (name.Wire p (length ws)) w.width ∷ []) a h)

pub stays_more : {P : Type 0} (p : P) (ws : List (BlockWireTree (Name P))) (w : BlockWireTree (Name P)) (outside : List (Operand (Name P))) (a : Operand (Name P)) → IsAvailable (behind p outside ws) a → IsAvailable (behind p outside (ws ++ w ∷ [])) a
stays_more p ws w outside (Known n) h = tt
stays_more p ws w outside (Net n u) h = contains_more p ws w outside (Net n u) h
stays_more p ws w outside (Part n of from u) (inl h) = inl (contains_more p ws w outside (Net n of) h)
stays_more p ws w outside (Part n of from u) (inr (at, k, h)) = inr (at, k, contains_more p ws w outside (Part n of at k) h)

pub last_there : {P : Type 0} (p : P) (ws : List (BlockWireTree (Name P))) (w : BlockWireTree (Name P)) (outside : List (Operand (Name P))) → Contains (behind p outside (ws ++ w ∷ [])) (Net (name.Wire p (length ws)) w.width)
last_there p ws w outside = subst (λ l. Contains l (Net (name.Wire p (length ws)) w.width)) (sym (behind_more p outside ws w)) (Contains-push (behind p outside ws) (Net (name.Wire p (length ws)) w.width))

pub last_is : {P : Type 0} (p : P) (v : Env (Name P)) (ws : List (BlockWireTree (Name P))) (w : BlockWireTree (Name P)) → Solve v p 0 (ws ++ w ∷ []) → Solve v p 0 ws × (v.net (name.Wire p (length ws)) ≡ right_value v w.right)
last_is p v ws w h = solve_more p v 0 ws w (length ws) (omega arith) h

-- a wire with an expression
pub wire_gives :
    {P : Type 0} {b : Bool} (p : P) (old new : List (BlockWireTree (Name P))) (args : List (Operand (Name P))) (f : Env (Name P) → ℕ) (w : ℕ) (t : Tree (Name P)) (n : Name P) → new ≡ old ++ record { width = w; right = RPlain t } ∷ [] → n ≡ name.Wire p (length old)
    → IsWide w → ((v : Env (Name P)) → f v < 2 ^ w) → ((ins : List (Operand (Name P))) → All (IsAvailable ins) args → ComputesBy b ins w f t) → GivesBy b p old new args always f w (Net n w)
wire_gives {P} {b} p old new args f w t n is called wide small comp = subst (λ l. GivesBy b p old l args always f w (Net n w)) (sym is) (subst (λ m. GivesBy b p old (old ++ gathering.wire w t ∷ []) args always f w (Net m w)) (sym called) whole)
  where
    whole : GivesBy b p old (old ++ gathering.wire w t ∷ []) args always f w (Net (name.Wire p (length old)) w)
    whole = record {
      before = λ v h. (last_is p v old (gathering.wire w t) h).0;
      stays = stays_more p old (gathering.wire w t);
      operand = wide;
      bits = refl;
      given = λ outside a there.
          let c = comp (behind p outside old) there in
          record {
            wires = wires_more p outside old (gathering.wire w t) a (record {
              wide = wide;
              typed = c.typed;
              width = λ v f s. ap (λ k. k.width) (c.value v (a.fits v f s));
              small = λ v g s. subst (λ k. k < 2 ^ w) (sym (ap (λ k. k.value) (c.value v (a.fits v g s)))) (small v);
              goes = λ v f s. refl;
              reads = c.reads;
              spelled = c.spelled;
            });
            there = last_there p old (gathering.wire w t) outside;
            value = λ v g h u. let s = last_is p v old (gathering.wire w t) h in ap (λ k. k.value) s.1 ∙ ap (λ k. k.value) (c.value v (a.fits v g s.0));
          };
      apart = stay_wire p old args (gathering.wire w t) w (λ made c. mine.flat made (net_clean made args c)) (λ e made c. none_in made (IsNetOf args) (net_clean made args c) t mine.reads (mine.no_product e)) (λ e made. flat_without made t (mine.no_product e));
    }
      where
        mine : ComputesBy b args w f t
        mine = comp args (all_self args)
