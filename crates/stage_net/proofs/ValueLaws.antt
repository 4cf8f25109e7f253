-- The numbers of the cells that a place makes are their values, also where the program reads maps.
use Rattle.std.specs.List.{AllByRecursion}
use Rattle.std.proofs.Common.{◌≡◌, ◌∙◌, ℕ, zero, suc, ◌^◌, ◌<◌, Bool, true, false, All, List, [], ◌∷◌, length, get_or, refl, sym, ap, arith, map as map_list}
use Rattle.std.proofs.lemmas.List.Elements.{recursion_from_All}
use Rattle.hazard_core.specs.xdp_machine.State.{PacketIn}
use Rattle.hazard_core.specs.cell_core.declared.operator.Operator.{Operator}
use Rattle.hazard_core.specs.cell_core.declared.operator.Operator.TheVariants.{Quotient, Remainder}
use Rattle.hazard_core.specs.cell_core.Cells.{CellView, cell_at, is_read, bits_from, number, value, Solves_as, IsRun}
use Rattle.hazard_core.specs.cell_core.CellLaws.{SameReads, HaveValues, DivisorsAreSome}
use Rattle.hazard_core.specs.cell_core.Formed.{AreFormed, takes, divides}
use Rattle.hazard_core.specs.cell_core.Rows.{AreRows, RowsRise}
use Rattle.hazard_core.specs.StageValues.{StageValues, stage_value}
use Rattle.row_net.specs.Made.{AreValues}

divides_two : (o : Operator) → divides o ≡ true → takes o ≡ 2
divides_two Quotient e = refl
divides_two Remainder e = refl
divides_two o e = cc

same_values : (f g : ℕ → ℕ) (ks : List ℕ) → AllByRecursion (λ k. f k ≡ g k) ks → map_list f ks ≡ map_list g ks
same_values f g [] h = refl
same_values f g (k ∷ ks) h = let e = h.0 in let more = same_values f g ks h.1 in λ j. e j ∷ more j

solved : (r : Bool) (packet : PacketIn) (w : ℕ → ℕ) (c : CellView) (x : ℕ) → r ≡ false → Solves_as r packet w c x → x ≡ value packet w c
solved true packet w c x e h = cc
solved false packet w c x e h = h

module _ (rise : RowsRise) (have : HaveValues) (some : DivisorsAreSome) (cells : List CellView) (row : ℕ → ℕ) (formed : AreFormed cells) (rows : AreRows cells row) (packet : PacketIn) (r : ℕ) (h : StageValues)
    (fits : (c : ℕ) → stage_value h c < 2 ^ (cell_at cells c).width) (computes : (c : ℕ) → c < length cells → row c < r → is_read (cell_at cells c).op ≡ false → stage_value h c ≡ value packet (stage_value h) (cell_at cells c)) where
  -- values of all cells, where reads have what the packet holds
  abbrev run : (v : ℕ → ℕ) × IsRun packet cells v × SameReads cells v (stage_value h)
  run = have packet cells (stage_value h) formed (λ k lt e. fits k)

  by_kind : (c : ℕ) → c < length cells → row c < r → AllByRecursion (λ i. stage_value h i ≡ run.0 i) (cell_at cells c).ins → (b : Bool) → is_read (cell_at cells c).op ≡ b → stage_value h c ≡ run.0 c
  by_kind c l here same true e = sym (run.2 c l e)
  by_kind c l here same false e =
      computes c l here e ∙ ap (λ (xs : List ℕ). bits_from (number packet (cell_at cells c).op xs) (cell_at cells c).from (cell_at cells c).width) (same_values (stage_value h) run.0 (cell_at cells c).ins same)
      ∙ sym (solved (is_read (cell_at cells c).op) packet run.0 (cell_at cells c) (run.0 c) e (run.1.each c l))

  below : (n c : ℕ) → c < n → c < length cells → row c < r → stage_value h c ≡ run.0 c
  below zero c lt l here = absurd (omega arith)
  below (suc n) c lt l here =
      by_kind c l here
      (recursion_from_All (λ i. stage_value h i ≡ run.0 i) (cell_at cells c).ins (λ j d m.
      let early = (formed.each c l).earlier j d m in
      let up = rise cells row rows c l j d m in
      below n (get_or (cell_at cells c).ins j d) (omega (arith, early, lt)) (omega (arith, early, l)) (omega (arith, up, here))))
      (is_read (cell_at cells c).op) refl

  two_taken : (k : ℕ) → k < length cells → divides (cell_at cells k).op ≡ true → 1 < length (cell_at cells k).ins
  two_taken k lt e = let n = (formed.each k lt).enough in omega (arith, n, divides_two (cell_at cells k).op e)

  -- cells of rows below are values, and none of them divides by 0
  pub are_values : (made : List ℕ) → All (λ k. k < length cells) made → All (λ k. row k < r) made → All (λ k. is_read (cell_at cells k).op ≡ false) made → AreValues packet cells made (stage_value h)
  are_values made within here plain = record {
    each = λ n d lt. computes (get_or made n d) (within n d lt) (here n d lt) (plain n d lt);
    divisors = λ n d lt e zero_is.
        let k = get_or made n d in
        let l = within n d lt in
        let two = two_taken k l e in
        let early = (formed.each k l).earlier 1 0 two in
        let up = rise cells row rows k l 1 0 two in
        some packet cells run.0 formed run.1 k l e (sym (below (suc (get_or (cell_at cells k).ins 1 0)) (get_or (cell_at cells k).ins 1 0) (omega arith) (omega (arith, early, l)) (omega (arith, up, here n d lt))) ∙ zero_is);
  }
