-- Which action a clock takes, and what beats leave as it is.
use Rattle.std.proofs.Common.{◌≡◌, ℕ, zero, suc, ◌+◌, ◌<◌, ◌≤◌, inl, inr, Bool, true, false, List, Option, Some, None, length, refl, sym, ap, ◌∙◌, subst, arith}
use Rattle.std.specs.Prelude.{if◌then◌else◌, nat_le, ◌&&◌}
use Rattle.std.specs.List.{find}
use Rattle.std.proofs.lemmas.Bool.{and_parts, cases_lt, le-leb}
use Rattle.std.proofs.lemmas.Bool.Decides.{nat_tests}
use Rattle.hazard_core.specs.cell_core.Rows.{numbers}
use Rattle.hazard_core.specs.StageValues.{writes}
use Rattle.pipe_core.specs.Machine.{Packet, State, Input, Build, Action, Commits, Writes, Moves, place_at, chosen, commits_as, commits_or_moves, action_of}

-- the first of some numbers that passes a test
pub record FirstNumber (test : ℕ → Bool) (from to j : ℕ) : Type 0 where
  pub passes : test j ≡ true
  pub from_on : from ≤ j
  pub below : j < to
  pub before : (i : ℕ) → from ≤ i → i < j → test i ≡ false

pub first_number : (test : ℕ → Bool) (from n j : ℕ) → find test (numbers from n) ≡ Some j → FirstNumber test from (from + n) j
first_number test from zero j e = cc
first_number test from (suc n) j e = by (test from) refl e (first_number test (suc from) n j)
  where
    by : (c : Bool) → test from ≡ c → (if c then Some from else find test (numbers (suc from) n)) ≡ Some j → (find test (numbers (suc from) n) ≡ Some j → FirstNumber test (suc from) (suc from + n) j) → FirstNumber test from (from + suc n) j
    by true q e more =
        let same : from ≡ j = cc in
        record { passes = ap test (sym same) ∙ q; from_on = omega (arith, same); below = omega (arith, same); before = λ i l m. absurd (omega (arith, same)) }
    by false q e more =
        let f = more e in
        record {
          passes = f.passes;
          from_on = omega (arith, f.from_on);
          below = omega (arith, f.below);
          before = λ i l m. elim (cases_lt from i) [
            | inl after ↦ f.before i after m
            | inr here ↦ let same : i ≡ from = omega (arith, l, here) in ap test same ∙ q
          ];
        }

-- the packet at the commit place commits the first of its operations that is not through and writes; of those before none is left that does
pub record IsChosen (b : Build) (s : State) (rest : List (Option Packet)) (j : ℕ) (x : Packet) : Type 0 where
  pub here : place_at rest b.plan.commit ≡ Some x
  pub in_range : j < length b.program.sites
  pub from_on : s.done ≤ j
  pub writes_there : writes b.program s.tables.decls x.held j ≡ true
  pub before : (i : ℕ) → s.done ≤ i → i < j → writes b.program s.tables.decls x.held i ≡ false

-- where none is chosen, none is left that writes
abbrev pub IsThrough : Build → State → List (Option Packet) → Type 0
IsThrough b s rest = (x : Packet) → place_at rest b.plan.commit ≡ Some x → (i : ℕ) → s.done ≤ i → i < length b.program.sites → writes b.program s.tables.decls x.held i ≡ false

abbrev pub ActionIs : Build → State → List (Option Packet) → Action → Type 0
ActionIs b s rest (Commits j x) = IsChosen b s rest j x
ActionIs b s rest (Writes a n) = ⊥
ActionIs b s rest Moves = IsThrough b s rest

none_passes : (test : ℕ → Bool) (from n : ℕ) → find test (numbers from n) ≡ None → (i : ℕ) → from ≤ i → i < from + n → test i ≡ false
none_passes test from zero e i l m = absurd (omega (arith, l, m))
none_passes test from (suc n) e i l m = by (test from) refl e (none_passes test (suc from) n)
  where
    by : (c : Bool) → test from ≡ c → (if c then Some from else find test (numbers (suc from) n)) ≡ None → (find test (numbers (suc from) n) ≡ None → (i : ℕ) → suc from ≤ i → i < suc from + n → test i ≡ false) → test i ≡ false
    by true q e more = cc
    by false q e more = elim (cases_lt from i) [
      | inl after ↦ more e i after (omega (arith, m))
      | inr here ↦ let same : i ≡ from = omega (arith, l, here) in ap test same ∙ q
    ]

not_left : (done i : ℕ) (c : Bool) → done ≤ i → nat_le done i && c ≡ false → c ≡ false
not_left done i c l e = ap (λ d. d && c) (sym (le-leb done i l)) ∙ e

as_chosen : (b : Build) (s : State) (rest : List (Option Packet)) (o : Option Packet) → place_at rest b.plan.commit ≡ o → ActionIs b s rest (commits_or_moves b s o)
as_chosen b s rest None here = λ x e. absurd (no x (sym here ∙ e))
  where
    no : (x : Packet) → None ≡ Some x → ⊥
    no x e = cc
as_chosen b s rest (Some x) here = by (chosen b s.tables s.done x) refl
  where
    test : ℕ → Bool
    test j = nat_le s.done j && writes b.program s.tables.decls x.held j

    by : (o : Option ℕ) → chosen b s.tables s.done x ≡ o → ActionIs b s rest (commits_as x o)
    by None e = λ y q i l m.
        let same : x ≡ y = some_same (sym here ∙ q) in
        subst (λ (z : Packet). writes b.program s.tables.decls z.held i ≡ false) same
        (not_left s.done i (writes b.program s.tables.decls x.held i) l (none_passes test 0 (length b.program.sites) e i (omega arith) (omega (arith, m))))
      where
        some_same : {y : Packet} → Some x ≡ Some y → x ≡ y
        some_same e = cc
    by (Some j) e =
        let f = first_number test 0 (length b.program.sites) j e in
        let q = and_parts (nat_le s.done j) (writes b.program s.tables.decls x.held j) f.passes in
        record {
          here = here;
          in_range = omega (arith, f.below);
          from_on = at_most (nat_le s.done j) refl q.0;
          writes_there = q.1;
          before = λ i l m. not_left s.done i (writes b.program s.tables.decls x.held i) l (f.before i (omega arith) m);
        }
      where
        at_most : (c : Bool) → nat_le s.done j ≡ c → c ≡ true → s.done ≤ j
        at_most true e f = grind (arith, nat_tests)
        at_most false e f = cc

pub action_is : (b : Build) (i : Input) → i.host ≡ None → (s : State) (rest : List (Option Packet)) → ActionIs b s rest (action_of b i s rest)
action_is b i silent s rest = rw silent (as_chosen b s rest (place_at rest b.plan.commit) refl)
