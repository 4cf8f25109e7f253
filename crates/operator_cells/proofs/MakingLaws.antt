-- More cells, and their values.
use Rattle.std.proofs.Common.{◌≡◌, ℕ, ◌-◌, ◌^◌, ◌<◌, ◌≤◌, ◌⊎◌, inl, inr, Bool, true, false, not, Some, List, length, refl, sym, ap, ◌∙◌, arith}
use Rattle.std.proofs.Math.Nat.{pow-le-pow_right}
use Rattle.std.proofs.lemmas.Bool.{cases_lt}
use Rattle.cell_core.specs.xdp_machine.Arithmetic.{low}
use Rattle.cell_core.specs.xdp_machine.State.{PacketIn}
use Rattle.cell_core.specs.CellLaws.{ValuesFit}
use Rattle.cell_core.specs.Cells.{CellView, IsRun, cell_at, site_in, bit}
use Rattle.cell_core.specs.Formed.{AreFormed}
use Rattle.operator_cells.specs.Making.{GrowsWith, Grows, Makes}

-- one growth after another, with what may be read
pub grown_with : (R : ℕ → ℕ → Type 0) (a b c : List CellView) → GrowsWith R a b → GrowsWith R b c → GrowsWith R a c
grown_with R a b c g h = record {
  longer = omega (arith, g.longer, h.longer);
  kept = λ k l. h.kept k (omega (arith, l, g.longer)) ∙ g.kept k l;
  formed = λ f. h.formed (g.formed f);
  alone = λ n. h.alone (g.alone n);
  run = λ packet v r. g.run packet v (h.run packet v r);
  reads = λ k j low high is. by k j low high is (cases_lt k (length b));
}
  where
    by : (k j : ℕ) → length a ≤ k → k < length c → site_in (cell_at c k).op ≡ Some j → (k < length b) ⊎ (length b ≤ k) → R k j
    by k j low high is (inl l) = g.reads k j low l (ap (λ (x : CellView). site_in x.op) (sym (h.kept k l)) ∙ is)
    by k j low high is (inr l) = h.reads k j l high is

pub grown : {a b c : List CellView} → Grows a b → Grows b c → Grows a c
grown {a} {b} {c} g h = grown_with (λ k j. ⊥) a b c g h

pub grown_none : {a : List CellView} → Grows a a
grown_none = record { longer = omega arith; kept = λ k l. refl; formed = λ f. f; alone = λ n. n; run = λ packet v r. r; reads = λ k j low high is. absurd (omega (arith, low, high)) }

-- what may be read may be said more weakly
pub reads_within : (R S : ℕ → ℕ → Type 0) (a b : List CellView) → ((k j : ℕ) → length a ≤ k → R k j → S k j) → GrowsWith R a b → GrowsWith S a b
reads_within R S a b f g = record { longer = g.longer; kept = g.kept; formed = g.formed; alone = g.alone; run = g.run; reads = λ k j low high is. f k j low (g.reads k j low high is) }

-- where nothing is read nothing is said of it
pub reads_none : (S : ℕ → ℕ → Type 0) (a b : List CellView) → Grows a b → GrowsWith S a b
reads_none S a b g = reads_within (λ k j. ⊥) S a b (λ k j low none. absurd none) g

pub fits_64 : (packet : PacketIn) (cells : List CellView) (v : ℕ → ℕ) → ValuesFit → AreFormed cells → IsRun packet cells v → (a : ℕ) → a < length cells → v a < 2 ^ 64
fits_64 packet cells v fit formed run a h = omega (arith, fit packet cells v run a h, pow-le-pow_right {n = 2} (omega arith) {i = (cell_at cells a).width} {j = 64} (formed.each a h).width)

pub not_bit : (b : Bool) → low 1 (2 ^ 64 - 1 - bit b) ≡ bit (not b)
not_bit true = refl
not_bit false = refl

-- what is made of the cells of two numbers
pub made_of_two : {a b d e : List CellView} {x y c : ℕ} {f g : PacketIn → (ℕ → ℕ) → ℕ} (h : ℕ → ℕ → ℕ) → Makes a b x f → Makes b d y g → Makes d e c (λ packet v. h (v x) (v y))
    → Makes a e c (λ packet v. h (f packet v) (g packet v))
made_of_two {y = y} {f = f} h first second last = record {
  grows = grown first.grows (grown second.grows last.grows);
  there = last.there;
  value = λ packet v r.
      let before = last.grows.run packet v r in
      last.value packet v r ∙ ap (λ (n : ℕ). h n (v y)) (first.value packet v (second.grows.run packet v before)) ∙ ap (h (f packet v)) (second.value packet v before);
}
