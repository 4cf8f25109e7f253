-- Flags by number.
use Rattle.std.proofs.Common.{◌≡◌, ◌∙◌, sym, ap, refl, ℕ, Bool, true, false, not, ◌||◌, ◌&&◌, ◌==◌, List}
use Rattle.net_core.specs.declared.tree.Net.{Net}
use Rattle.net_core.specs.Nets.{StatementTree, StatementTrees, SEnd, SThen}
use Rattle.design_rules.specs.FormedScope.{leaves_register, leaves_memory, all_targets_pass}
use Rattle.verilog_read.specs.declared.targets.Targets.{Targets}
use Rattle.verilog_read.specs.View.{is_up, Raises, AddsTargets, AddsAllTargets}

or_nothing : (b : Bool) → b ≡ (b || false)
or_nothing true = refl
or_nothing false = refl

-- ---- tests, one after another
pub none_raised : (flags : List Bool) → Raises flags flags (λ k. false)
none_raised flags k = or_nothing (is_up flags k)

-- ---- a list of statements, of which some are left
abbrev pub register_left : StatementTrees Net → ℕ → Bool
register_left more r = not (all_targets_pass (λ k. not (k == r)) (λ k. true) more)

abbrev pub memory_left : StatementTrees Net → ℕ → Bool
memory_left more m = not (all_targets_pass (λ k. true) (λ k. not (k == m)) more)

-- with what is left to note it comes to the whole
pub record Notes (start now : Targets) (whole left : StatementTrees Net) : Type 0 where
  pub registers : (k : ℕ) → (is_up now.registers.items k || register_left left k) ≡ (is_up start.registers.items k || register_left whole k)
  pub memories : (k : ℕ) → (is_up now.memories.items k || memory_left left k) ≡ (is_up start.memories.items k || memory_left whole k)

pub notes_start : (t : Targets) (whole : StatementTrees Net) → Notes t t whole whole
notes_start t whole = record { registers = λ k. refl; memories = λ k. refl }

one_left : (now next f g : Bool) → next ≡ (now || not f) → (next || not g) ≡ (now || not (f && g))
one_left now next f g e = ap (λ (b : Bool). b || not g) e ∙ by_test now f
  where
    by_test : (a b : Bool) → ((a || not b) || not g) ≡ (a || not (b && g))
    by_test true b = refl
    by_test false true = refl
    by_test false false = refl

pub notes_next : (start now next : Targets) (whole more : StatementTrees Net) (a : StatementTree Net) → Notes start now whole (SThen a more) → AddsTargets now next a → Notes start next whole more
notes_next start now next whole more a h k = record {
  registers = λ j. one_left (is_up now.registers.items j) (is_up next.registers.items j) (leaves_register j a) (all_targets_pass (λ k. not (k == j)) (λ k. true) more) (k.registers j) ∙ h.registers j;
  memories = λ j. one_left (is_up now.memories.items j) (is_up next.memories.items j) (leaves_memory j a) (all_targets_pass (λ k. true) (λ k. not (k == j)) more) (k.memories j) ∙ h.memories j;
}

pub notes_end : (start now : Targets) (whole left : StatementTrees Net) → left ≡ SEnd → Notes start now whole left → AddsAllTargets start now whole
notes_end start now whole left e h = record {
  registers = λ k. none_raised now.registers.items k ∙ ap (λ (more : StatementTrees Net). is_up now.registers.items k || register_left more k) (sym e) ∙ h.registers k;
  memories = λ k. none_raised now.memories.items k ∙ ap (λ (more : StatementTrees Net). is_up now.memories.items k || memory_left more k) (sym e) ∙ h.memories k;
}
