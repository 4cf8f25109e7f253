-- What stands for the cells of a site, by the tables of a place.
use Rattle.std.specs.Prelude.{Option}
use Rattle.std.proofs.Common.{◌≡◌, ◌∙◌, inl, inr, ℕ, zero, suc, ◌<◌, All, Some, None, List, [], ◌∷◌, ◌++◌, length, map as map_list, get_or, refl, sym, ap, subst, arith, slice_index, lit<}
use Rattle.std.proofs.lemmas.List.Elements.{All-nil, All-cons, All-head, All-tail, All-append}
use Rattle.std.proofs.lemmas.Nat.{pow_pos}
use Rattle.block_core.specs.net_core.Value.{Env}
use Rattle.hazard_core.specs.cell_core.Acts.{pointer_operand}
use Rattle.hazard_core.specs.cell_core.Sites.{ProgramView, site_at}
use Rattle.overlay_net.specs.cell_nets.declared.operand.Operand.{Operand}
use Rattle.overlay_net.specs.cell_nets.declared.operand.Operand.TheVariants.{Known, Net, Part}
use Rattle.overlay_net.specs.cell_nets.Operands.{number_in, IsOperand, IsNarrow, IsAvailable}
use Rattle.overlay_net.specs.cell_nets.Wires.{HasBits}
use Rattle.hazard_core.specs.declared.pointer.Pointer.{Pointer}
use Rattle.hazard_core.specs.declared.pointer.Pointer.TheVariants.{Null}
use Rattle.hazard_core.specs.StageValues.{StageValues, stage_value, pointer_in, found_cell, answer_cell}
use Rattle.overlay_net.specs.SiteOperands.Pointers.{pointer_number}
use Rattle.overlay_net.specs.SiteOperands.Sites.{SiteOperands, all_of, ShowsAsked, ShowsSite}
use Rattle.row_net.specs.Table.{Stands, Holds}
use Rattle.row_net.specs.SitePlace.Pointing.{HoldsPointers}
use Rattle.stage_net.specs.SiteTable.Sites.{or_zero, operand_at, site_operands, HasValue, HasPointer, HasAsked, HasSite, IsSiteOf}

-- ---- what holds of 0 and of all that stands in a table holds of what stands for a cell
module _ {N : Type 0} (table : List (Option (Operand N))) (Q : Operand N → Type 0) (none : Q (Known 0)) (each : (k : ℕ) (a : Operand N) → Stands table k a → Q a) where
  pub at_cell : (k : ℕ) → Q (operand_at table k)
  at_cell k = by_entry (get_or table k None) refl
    where
      by_entry : (o : Option (Operand N)) → get_or table k None ≡ o → Q (operand_at table k)
      by_entry None e = subst Q (sym (ap or_zero e)) none
      by_entry (Some a) e = subst Q (sym (ap or_zero e)) (each k a e)

  pub at_cells : (ks : List ℕ) → All Q (map_list (operand_at table) ks)
  at_cells [] = All-nil Q
  at_cells (k ∷ ks) = All-cons Q (operand_at table k) (map_list (operand_at table) ks) (at_cell k) (at_cells ks)

  pub at_index : (ks : List ℕ) (i : ℕ) → Q (get_or (map_list (operand_at table) ks) i (Known 0))
  at_index [] i = none
  at_index (k ∷ ks) zero = at_cell k
  at_index (k ∷ ks) (suc i) = at_index ks i

-- ---- numbers
pub cell_shown : {N : Type 0} (v : Env N) (table : List (Option (Operand N))) (val : ℕ → ℕ) (k : ℕ) → Holds v table val → HasValue table val k → number_in v (operand_at table k) ≡ val k
cell_shown {N} v table val k holds has = by_entry (get_or table k None) refl has
  where
    by_entry : (o : Option (Operand N)) → get_or table k None ≡ o → HasValue table val k → number_in v (operand_at table k) ≡ val k
    by_entry None e (inl (a, s)) = cc
    by_entry None e (inr z) = ap (λ o. number_in v (or_zero o)) e ∙ sym z
    by_entry (Some a) e h = ap (λ o. number_in v (or_zero o)) e ∙ holds k a e

pub pointer_shown : {N : Type 0} (v : Env N) (pointers : List (Option (Operand N))) (at : ℕ → Pointer) (k : ℕ) → HoldsPointers v pointers at → HasPointer pointers at k → number_in v (operand_at pointers k) ≡ pointer_number (at k)
pointer_shown {N} v pointers at k holds has = by_entry (get_or pointers k None) refl has
  where
    by_entry : (o : Option (Operand N)) → get_or pointers k None ≡ o → HasPointer pointers at k → number_in v (operand_at pointers k) ≡ pointer_number (at k)
    by_entry None e (inl (a, s)) = cc
    by_entry None e (inr z) = ap (λ o. number_in v (or_zero o)) e ∙ ap pointer_number (sym z)
    by_entry (Some a) e h = ap (λ o. number_in v (or_zero o)) e ∙ holds k a e

pub cells_shown : {N : Type 0} (v : Env N) (table : List (Option (Operand N))) (val : ℕ → ℕ) (ks : List ℕ) → Holds v table val → All (HasValue table val) ks → map_list (number_in v) (map_list (operand_at table) ks) ≡ map_list val ks
cells_shown v table val [] holds has = refl
cells_shown v table val (k ∷ ks) holds has =
    ap (λ n. n ∷ map_list (number_in v) (map_list (operand_at table) ks)) (cell_shown v table val k holds (All-head (HasValue table val) k ks has))
    ∙ ap (λ l. val k ∷ l) (cells_shown v table val ks holds (All-tail (HasValue table val) k ks has))

pub access_shown : {N : Type 0} (v : Env N) (pointers : List (Option (Operand N))) (at : ℕ → Pointer) (ks : List ℕ) (i : ℕ) → HoldsPointers v pointers at → (i < length ks → HasPointer pointers at (slice_index ks i))
    → number_in v (get_or (map_list (operand_at pointers) ks) i (Known 0)) ≡ pointer_number (get_or (map_list at ks) i Null)
access_shown v pointers at [] i holds has = refl
access_shown v pointers at (k ∷ ks) zero holds has = pointer_shown v pointers at k holds (has (omega arith))
access_shown v pointers at (k ∷ ks) (suc i) holds has = access_shown v pointers at ks i holds (λ l. has (omega (arith, l)))

bits_narrow : {N : Type 0} (bits : ℕ) (a : Operand N) → HasBits bits a → IsNarrow bits a
bits_narrow bits (Known n) h = h
bits_narrow bits (Net n w) h = omega (arith, h)
bits_narrow bits (Part n of from w) h = omega (arith, h)

-- ---- a site
module _ {N : Type 0} (p : ProgramView) (table pointers : List (Option (Operand N))) (j : ℕ) where
  abbrev own : SiteOperands N
  own = site_operands p table pointers j

  -- what holds of the entries of both tables holds of all its operands
  all_are : (Q : Operand N → Type 0) → Q (Known 0) → ((k : ℕ) (a : Operand N) → Stands table k a → Q a) → ((k : ℕ) (a : Operand N) → Stands pointers k a → Q a) → All Q (all_of own)
  all_are Q none cells those =
      let s = site_at p.sites j in
      All-cons Q own.guard (own.found ∷ own.answer ∷ own.pointer ∷ own.key ++ own.operands) (at_cell table Q none cells s.guard)
      (All-cons Q own.found (own.answer ∷ own.pointer ∷ own.key ++ own.operands) (at_cell pointers Q none those (found_cell p.cells j))
      (All-cons Q own.answer (own.pointer ∷ own.key ++ own.operands) (at_cell table Q none cells (answer_cell p.cells j))
      (All-cons Q own.pointer (own.key ++ own.operands) (at_index pointers Q none those s.operands (pointer_operand s.act)) (All-append Q own.key own.operands (at_cells table Q none cells s.key) (at_cells table Q none cells s.operands)))))

  own_asked : (v : Env N) (h : StageValues) → Holds v table (stage_value h) → HoldsPointers v pointers (pointer_in h) → HasAsked table pointers h (site_at p.sites j) → ShowsAsked v p h j own
  own_asked v h cells those has = record {
    key = cells_shown v table (stage_value h) (site_at p.sites j).key cells has.key;
    operands = cells_shown v table (stage_value h) (site_at p.sites j).operands cells has.operands;
    pointer = access_shown v pointers (pointer_in h) (site_at p.sites j).operands (pointer_operand (site_at p.sites j).act) those has.pointer;
  }

  own_shown : (v : Env N) (h : StageValues) → Holds v table (stage_value h) → HoldsPointers v pointers (pointer_in h) → HasSite table pointers p h j → ShowsSite v p h j own
  own_shown v h cells those has = record {
    asked = own_asked v h cells those has.asked;
    guard = cell_shown v table (stage_value h) (site_at p.sites j).guard cells has.guard;
    found = pointer_shown v pointers (pointer_in h) (found_cell p.cells j) those has.found;
    answer = cell_shown v table (stage_value h) (answer_cell p.cells j) cells has.answer;
  }

  own_is : IsSiteOf p table pointers j own
  own_is = record {
    are = refl;
    operands = λ bits cells those. all_are IsOperand (lit< tt) cells.operand those.operand;
    found_narrow = λ bits those. at_cell pointers (IsNarrow bits) (pow_pos bits) (λ k a s. bits_narrow bits a (those.wide k a s)) (found_cell p.cells j);
    pointer_narrow = λ bits those. at_index pointers (IsNarrow bits) (pow_pos bits) (λ k a s. bits_narrow bits a (those.wide k a s)) (site_at p.sites j).operands (pointer_operand (site_at p.sites j).act);
    there = λ ins cells those. all_are (IsAvailable ins) tt cells those;
    asked = own_asked;
    shown = own_shown;
  }

  pub site_is : (s : SiteOperands N) → s ≡ own → IsSiteOf p table pointers j s
  site_is s e = subst (IsSiteOf p table pointers j) (sym e) own_is
