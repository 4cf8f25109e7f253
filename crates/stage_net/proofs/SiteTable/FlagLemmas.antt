-- Flags of cells, one after another.
use Rattle.std.specs.Prelude.{◌==◌, Contains}
use Rattle.std.specs.List.{list_any}
use Rattle.std.proofs.Common.{◌≡◌, ◌∙◌, ◌⊎◌, inl, inr, ℕ, ◌+◌, ◌*◌, ◌<◌, ◌≤◌, Bool, true, false, List, [], ◌∷◌, ◌++◌, length, refl, sym, ap, subst, arith, slice_index}
use Rattle.std.proofs.lemmas.Bool.{eqb-true, eqb-false, eq-eqb}
use Rattle.std.proofs.lemmas.List.{get_or_push, get_or_append_left}
use Rattle.block_core.proofs.list_laws_laws.BoolLaws.{either_of, left_or, right_or}
use Rattle.hazard_core.specs.cell_core.declared.operator.Operator.{Operator}
use Rattle.hazard_core.specs.cell_core.Cells.{CellView, cell_at, is_read}
use Rattle.hazard_core.specs.cell_core.Formed.{takes, AreFormed}
use Rattle.hazard_core.specs.cell_core.Rows.{taken_by}
use Rattle.hazard_core.specs.cell_core.Sites.{ProgramView}
use Rattle.row_net.specs.Needed.{flag}
use Rattle.row_net.proofs.FlagLaws.{marked_inside}
use Rattle.stage_net.specs.SiteTable.Parts.{IsPart, Taken, Read, AreParts, is_part}
use Rattle.stage_net.specs.SiteTable.Parts as parts
use Rattle.stage_net.specs.SiteTable.Pointing.{AreFlagged, IsFlagged}
use Rattle.stage_net.proofs.SiteTable.ListLemmas.{any_of, of_any}

-- one flag more
pub flags_more : (f : ℕ → Bool) (xs more : List Bool) (n : ℕ) (b : Bool) → length xs ≡ n → ((k : ℕ) → k < n → flag xs k ≡ f k) → b ≡ f n → more ≡ xs ++ b ∷ [] → (k : ℕ) → k < n + 1 → flag more k ≡ f k
flags_more f xs more n b count each is e k lt = ap (λ l. flag l k) e ∙ by_test (k == n) refl
  where
    by_test : (t : Bool) → (k == n) ≡ t → flag (xs ++ b ∷ []) k ≡ f k
    by_test true s = let same : k ≡ n = eqb-true k n s in ap (flag (xs ++ b ∷ [])) same ∙ get_or_push xs b false n count ∙ is ∙ ap f (sym same)
    by_test false s = let less : k < n = omega (arith, lt, eqb-false k n s) in get_or_append_left xs (b ∷ []) false k (omega (arith, count)) ∙ each k less

-- ---- the cells of sites
part_is : (p : ProgramView) (k : ℕ) → IsPart p k → is_part p k ≡ true
part_is p k (Taken s there takes) =
    right_or (is_read (cell_at p.cells k).op) (list_any (λ s. parts.takes s k) p.sites) (any_of (λ s. parts.takes s k) p.sites s there (any_of (λ c. c == k) (taken_by s) k takes (eq-eqb k k refl)))
part_is p k (Read e) = left_or (is_read (cell_at p.cells k).op) (list_any (λ s. parts.takes s k) p.sites) e

is_of_part : (p : ProgramView) (k : ℕ) → is_part p k ≡ true → IsPart p k
is_of_part p k h = by_cases (either_of (is_read (cell_at p.cells k).op) (list_any (λ s. parts.takes s k) p.sites) h)
  where
    by_cases : (is_read (cell_at p.cells k).op ≡ true) ⊎ (list_any (λ s. parts.takes s k) p.sites ≡ true) → IsPart p k
    by_cases (inl e) = Read e
    by_cases (inr e) =
        let a = of_any (λ s. parts.takes s k) p.sites e in
        let b = of_any (λ c. c == k) (taken_by a.0) a.2 in
        Taken a.0 a.1 (subst (Contains (taken_by a.0)) (eqb-true b.0 k b.2) b.1)

pub parts_are : (p : ProgramView) (flags : List Bool) → length flags ≡ length p.cells → ((k : ℕ) → k < length p.cells → flag flags k ≡ is_part p k) → AreParts p flags
parts_are p flags count each = record {
  count = count;
  marked = λ k lt is. each k lt ∙ part_is p k is;
  only = λ k h. let lt : k < length p.cells = omega (arith, count, marked_inside flags k h) in is_of_part p k (sym (each k lt) ∙ h);
}

-- ---- cells that may have pointers
same_flags : (flags more : List Bool) (op : Operator) (ins : List ℕ) (b : Bool) → takes op ≤ length ins → ((j : ℕ) → j < length ins → flag more (slice_index ins j) ≡ flag flags (slice_index ins j)) → IsFlagged flags op ins b → IsFlagged more op ins b
same_flags flags more op ins b enough same is = record {
  found = is.found;
  wire = λ e h. let some : takes op ≡ 1 = ap takes e in is.wire e (sym (same 0 (omega arith)) ∙ h);
  phi = λ e h. is.phi e (h.0, h.1, sym (same (2 * h.0 + 1) h.1) ∙ h.2);
  only = is.only;
}

pub flagged_more :
    (cells : List CellView) (flags more : List Bool) (i : ℕ) (c : CellView) (b : Bool) → AreFormed cells → i < length cells → length flags ≡ i → ((k : ℕ) → k < i → IsFlagged flags (cell_at cells k).op (cell_at cells k).ins (flag flags k)) → cell_at cells i ≡ c
    → IsFlagged flags c.op c.ins b → more ≡ flags ++ b ∷ [] → (k : ℕ) → k < i + 1 → IsFlagged more (cell_at cells k).op (cell_at cells k).ins (flag more k)
flagged_more cells flags more i c b formed within count each at is e k lt =
    subst (λ l. IsFlagged l (cell_at cells k).op (cell_at cells k).ins (flag l k)) (sym e) (same_flags flags (flags ++ b ∷ []) (cell_at cells k).op (cell_at cells k).ins (flag (flags ++ b ∷ []) k) (formed.each k (omega (arith, within, lt))).enough same (by_test (k == i) refl))
  where
    same : (j : ℕ) → j < length (cell_at cells k).ins → flag (flags ++ b ∷ []) (slice_index (cell_at cells k).ins j) ≡ flag flags (slice_index (cell_at cells k).ins j)
    same j l = let earlier = (formed.each k (omega (arith, within, lt))).earlier j 0 l in get_or_append_left flags (b ∷ []) false (slice_index (cell_at cells k).ins j) (omega (arith, earlier, lt, count))

    by_test : (t : Bool) → (k == i) ≡ t → IsFlagged flags (cell_at cells k).op (cell_at cells k).ins (flag (flags ++ b ∷ []) k)
    by_test true s =
        let here : k ≡ i = eqb-true k i s in
        let own : flag (flags ++ b ∷ []) i ≡ b = get_or_push flags b false i count in
        subst (λ n. IsFlagged flags (cell_at cells n).op (cell_at cells n).ins (flag (flags ++ b ∷ []) n)) (sym here)
        (subst (λ (d : CellView). IsFlagged flags d.op d.ins (flag (flags ++ b ∷ []) i)) (sym at) (subst (IsFlagged flags c.op c.ins) (sym own) is))
    by_test false s =
        let less : k < i = omega (arith, lt, eqb-false k i s) in
        subst (IsFlagged flags (cell_at cells k).op (cell_at cells k).ins) (sym (get_or_append_left flags (b ∷ []) false k (omega (arith, count)))) (each k less)

pub flagged_are : (cells : List CellView) (flags : List Bool) → length flags ≡ length cells → ((k : ℕ) → k < length cells → IsFlagged flags (cell_at cells k).op (cell_at cells k).ins (flag flags k)) → AreFlagged cells flags
flagged_are cells flags count each = record {
  pointing = record {
    count = count;
    found = λ k j lt e. (each k lt).found j e;
    wire = λ k lt e h. (each k lt).wire e h;
    phi = λ k n lt e l h. (each k lt).phi e (n, l, h);
  };
  only = λ k h. let lt : k < length cells = omega (arith, count, marked_inside flags k h) in (each k lt).only h;
}
