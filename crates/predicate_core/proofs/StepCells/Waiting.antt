-- The cells that stand for the writes of a map.
use Rattle.std.proofs.Common.{◌≡◌, ℕ, ◌+◌, ◌<◌, ◌≤◌, ◌==◌, ◌⊎◌, inl, inr, true, false, Option, Some, None, List, [], ◌∷◌, ◌++◌, length, get_or, length-append, refl, sym, ◌∙◌, ap, subst, arith}
use Rattle.std.specs.Prelude.{All, Contains}
use Rattle.std.specs.Option.{option_eq}
use Rattle.std.proofs.Math.Seq.{get_or-append_seam}
use Rattle.std.proofs.Math.ListN.{get_or-eq_default}
use Rattle.std.proofs.lemmas.Bool.{cases_lt}
use Rattle.std.proofs.lemmas.Bool.Decides.{nat_tests}
use Rattle.std.proofs.lemmas.List.{get_or-map}
use Rattle.std.proofs.lemmas.List.Elements.{All-nil, All-cons, All-head, All-tail, All-append, All-push, Contains-append_left, Contains-append_right}
use Rattle.cell_core.specs.declared.cell.Cell.{Cell}
use Rattle.cell_core.specs.declared.site.Site.{Site}
use Rattle.cell_core.specs.Cells.{CellView, no_cell, cell_at, site_in}
use Rattle.cell_core.specs.Sites.{SiteView, no_site, site_at, records}
use Rattle.cell_core.specs.View.{site_of}
use Rattle.cell_core.specs.Rows.{taken_by, greatest}
use Rattle.cell_core.specs.Formed.{IsBelow}
use Rattle.operator_cells.specs.declared.joining.Arm.{Arm}
use Rattle.operator_cells.specs.Making.{seen, Adds, Grows}
use Rattle.operator_cells.specs.Joining.{flat}
use Rattle.operator_cells.specs.Rising.{Rises}
use Rattle.operator_cells.proofs.MakingLaws.{grown_none}
use Rattle.operator_cells.proofs.RisingLaws.{rises_none}
use Rattle.operator_cells.proofs.SeenLaws.{seen_length, seen_at}
use Rattle.operator_cells.proofs.ArmLaws.{flat_first}
use Rattle.site_cells.specs.Sited.{sited}
use Rattle.site_cells.proofs.SitedLaws.{sited_length}
use Rattle.predicate_core.specs.StepCells.Waiting.{waiting_for, AreReaders, WaitsBehind, Gathers}

pub flat_there : (n : ℕ) (arms : List Arm) → All (λ a. (a.bit < n) × (a.cell < n)) arms → All (λ i. i < n) (flat arms)
flat_there n [] there = All-nil (λ i. i < n)
flat_there n (a ∷ more) there =
    let first = All-head (λ (x : Arm). (x.bit < n) × (x.cell < n)) a more there in
    All-cons (λ i. i < n) a.bit (a.cell ∷ flat more) first.0
    (All-cons (λ i. i < n) a.cell (flat more) first.1 (flat_there n more (All-tail (λ (x : Arm). (x.bit < n) × (x.cell < n)) a more there)))

-- ---- the cells that read a site

-- those below cell i
abbrev pub AreSoFar : List CellView → ℕ → ℕ → ℕ → List ℕ → Type 0
AreSoFar cells number first i all = (first ≤ i) × All (λ k. k < length cells) all × ((k : ℕ) → first ≤ k → k < i → site_in (cell_at cells k).op ≡ Some number → Contains all k)
    × All (λ k. (first ≤ k) × (site_in (cell_at cells k).op ≡ Some number)) all

some_equal : (o : Option ℕ) (n : ℕ) → option_eq (λ a b. a == b) o (Some n) ≡ true → o ≡ Some n
some_equal None n e = absurd (cc e)
some_equal (Some m) n e = let same : m ≡ n = grind (arith, nat_tests) in ap Some same

pub one_more : (cells : List Cell) (number first i c : ℕ) (x : Cell) (all all2 : List ℕ) → i < length cells → c ≡ i → option_eq (λ a b. a == b) (site_in (get_or cells i x).op) (Some number) ≡ true → all2 ≡ all ++ c ∷ []
    → AreSoFar (seen cells) number first i all → AreSoFar (seen cells) number first (i + 1) all2
one_more cells number first i c x all all2 l same reads_it is so =
    subst (AreSoFar (seen cells) number first (i + 1)) (sym is) (
      omega (arith, so.0),
      All-push (λ k. k < length (seen cells)) all c so.1 (omega (arith, l, same, seen_length cells)),
      (λ k low high reads. by k low high reads (cases_lt k i)),
      All-push (λ k. (first ≤ k) × (site_in (cell_at (seen cells) k).op ≡ Some number)) all c so.3 (omega (arith, so.0, same), own),
    )
  where
    own : site_in (cell_at (seen cells) c).op ≡ Some number
    own = ap (λ (j : ℕ). site_in (cell_at (seen cells) j).op) same ∙ ap (λ (y : CellView). site_in y.op) (seen_at cells i x l) ∙ some_equal (site_in (get_or cells i x).op) number reads_it

    by : (k : ℕ) → first ≤ k → k < i + 1 → site_in (cell_at (seen cells) k).op ≡ Some number → (k < i) ⊎ (i ≤ k) → Contains (all ++ c ∷ []) k
    by k low high reads (inl below) = Contains-append_left all (c ∷ []) k (so.2 k low below reads)
    by k low high reads (inr here) = let at : c ≡ k = omega (arith, high, here, same) in Contains-append_right all (c ∷ []) k (0, omega arith, at)

pub none_more : (cells : List Cell) (number first i : ℕ) (x : Cell) (all all2 : List ℕ) → i < length cells → option_eq (λ a b. a == b) (site_in (get_or cells i x).op) (Some number) ≡ false → all2 ≡ all
    → AreSoFar (seen cells) number first i all → AreSoFar (seen cells) number first (i + 1) all2
none_more cells number first i x all all2 l other is so = subst (AreSoFar (seen cells) number first (i + 1)) (sym is) (omega (arith, so.0), so.1, (λ k low high reads. by k low high reads (cases_lt k i)), so.3)
  where
    own : (number == number) ≡ true
    own = grind (arith, nat_tests)

    by : (k : ℕ) → first ≤ k → k < i + 1 → site_in (cell_at (seen cells) k).op ≡ Some number → (k < i) ⊎ (i ≤ k) → Contains all k
    by k low high reads (inl below) = so.2 k low below reads
    by k low high reads (inr here) =
        let at : k ≡ i = omega (arith, high, here) in
        let reads_it : site_in (get_or cells i x).op ≡ Some number = sym (ap (λ (c : CellView). site_in c.op) (seen_at cells i x l)) ∙ ap (λ (j : ℕ). site_in (cell_at (seen cells) j).op) (sym at) ∙ reads in
        let bad : true ≡ false = sym own ∙ ap (λ (o : Option ℕ). option_eq (λ a b. a == b) o (Some number)) (sym reads_it) ∙ other in
        absurd (cc bad)

pub all_read : (cells : List Cell) (number first i : ℕ) (all : List ℕ) → length cells ≤ i → AreSoFar (seen cells) number first i all → AreReaders (seen cells) number first all
all_read cells number first i all l so = record { there = so.1; each = λ k low high reads. so.2 k low (omega (arith, high, l, seen_length cells)) reads; only = so.3 }

-- ---- the cell after a node

pub site_seen : (sites : List Site) (n : ℕ) (x : Site) → n < length sites → x ≡ get_or sites n x → site_at (sited sites) n ≡ site_of x
unfolding sited
site_seen sites n x l is = get_or-map site_of sites n x no_site l ∙ ap site_of (sym is)

stays : (cells : List CellView) (sites : List SiteView) (number first before : ℕ) → before < length cells → records (site_at sites number).act ≡ false → WaitsBehind cells cells sites number first before before
stays cells sites number first before there none = record {
  grows = grown_none;
  there = there;
  stays = λ r. (refl, refl);
  waits = λ r. let bad : true ≡ false = sym r ∙ none in absurd (cc bad);
}

-- no site is added
pub stays_alone : (cells : List CellView) (sites : List Site) (number first before : ℕ) → before < length cells → length sites ≤ number → WaitsBehind cells cells (sited sites) number first before before
stays_alone cells sites number first before there past =
    stays cells (sited sites) number first before there (ap (λ (s : SiteView). records s.act) (get_or-eq_default (sited sites) no_site (omega (arith, past, sited_length sites))))

-- one that does not write
pub stays_unwritten : (cells : List CellView) (sites : List Site) (number first before : ℕ) (x : Site) → before < length cells → number < length sites → x ≡ get_or sites number x → records x.act ≡ false
    → WaitsBehind cells cells (sited sites) number first before before
stays_unwritten cells sites number first before x there l is none =
    stays cells (sited sites) number first before there (ap (λ (s : SiteView). records s.act) (site_seen sites number x l is) ∙ none)

-- what a site takes is there
pub taken_there : (n : ℕ) (s : SiteView) (before : ℕ) (readers : List ℕ) → before < n → IsBelow n s → All (λ i. i < n) readers → All (λ i. i < n) (before ∷ taken_by s ++ readers)
taken_there n s before readers there below reads =
    All-append (λ i. i < n) (before ∷ taken_by s) readers
    (All-cons (λ i. i < n) before (taken_by s) there (All-cons (λ i. i < n) s.guard (s.key ++ s.operands) below.guard (All-append (λ i. i < n) s.key s.operands below.key below.operands))) reads

-- the cell that is added
added : (old new : List CellView) (c : ℕ) (ins : List ℕ) → Adds old new c (waiting_for ins) → cell_at new c ≡ waiting_for ins
added old new c ins adds =
    ap (λ (k : ℕ). cell_at new k) adds.at ∙ ap (λ (cells : List CellView). cell_at cells (length old)) adds.is ∙ get_or-append_seam old (waiting_for ins) [] no_cell

-- one that may write
pub waits : (old new : List CellView) (sites : List SiteView) (number first before c : ℕ) (s : SiteView) (ins readers : List ℕ)
    → site_at sites number ≡ s → records s.act ≡ true → AreReaders old number first readers → ins ≡ before ∷ taken_by s ++ readers → Adds old new c (waiting_for ins) → Grows old new
    → Rises old new c (λ row. greatest row ins) → WaitsBehind old new sites number first before c
waits old new sites number first before c s ins readers at writes read is adds grows rises = record {
  grows = grows;
  there = omega (arith, adds.at, ap length adds.is, length-append old (waiting_for ins ∷ []));
  stays = λ r. let bad : true ≡ false = sym (ap (λ (x : SiteView). records x.act) at ∙ writes) ∙ r in absurd (cc bad);
  waits = λ r. record {
    readers = readers;
    read = read;
    is = added old new c ins adds ∙ ap waiting_for same;
    rises = subst (λ (xs : List ℕ). Rises old new c (λ row. greatest row xs)) same rises;
  };
}
  where
    same : ins ≡ before ∷ taken_by (site_at sites number) ++ readers
    same = is ∙ ap (λ (x : SiteView). before ∷ taken_by x ++ readers) (sym at)

-- ---- where edges meet
-- all bring what the first does
pub gathers_one : (cells : List CellView) (arms : List Arm) (d : Arm) (first : ℕ) → 1 ≤ length arms → first ≡ (get_or arms 0 d).cell → All (λ a. (a.bit < length cells) × (a.cell < length cells)) arms → All (λ a. a.cell ≡ first) arms
    → Gathers cells cells arms first
gathers_one cells arms d first some is there all = record {
  grows = grown_none;
  there = omega (arith, is, (there 0 d some).1);
  stays = λ c same. (is ∙ same 0 d some, refl);
  rises = rises_none first (λ row. greatest row (flat arms)) (λ row. omega (arith, ap row is, flat_first row arms d some));
  is = inl all;
}

-- one brings another
pub gathers_all : (old new : List CellView) (arms : List Arm) (d : Arm) (first c : ℕ) (ins : List ℕ) → 1 ≤ length arms → first ≡ (get_or arms 0 d).cell → (All (λ a. a.cell ≡ first) arms → ⊥) → ins ≡ flat arms → Adds old new c (waiting_for ins)
    → Grows old new → Rises old new c (λ row. greatest row ins) → Gathers old new arms c
gathers_all old new arms d first c ins some is other same adds grows rises = record {
  grows = grows;
  there = omega (arith, adds.at, ap length adds.is, length-append old (waiting_for ins ∷ []));
  stays = λ x all. absurd (other (λ j e l. all j e l ∙ sym (is ∙ all 0 d some)));
  rises = subst (λ (xs : List ℕ). Rises old new c (λ row. greatest row xs)) same rises;
  is = inr (added old new c ins adds ∙ ap waiting_for same);
}
