use Rattle.std.proofs.Common.{◌≡◌, ◌≢◌, ◌∙◌, sym, ℕ, Ok}
use Rattle.kind_core.specs.declared.number.Number.{Number}
use Rattle.kind_core.specs.declared.number.Number.TheVariants.{Known, Between}
use Rattle.kind_core.specs.Access.{underlying}
use Rattle.register_cells.proofs.StoreRows.{part_to}
use Rattle.register_cells.proofs.Made.{part_finds}
use Rattle.register_cells.proofs.storing.part_stored.Goals as goal
use Rattle.register_cells.proofs.storing.part_stored.Goals.{in_default-via-in-Known+in_default, in_default-via-in_default}

-- not both are known
open_one : (c : goal.In_ok-c-in_default) (m : Number) → underlying c.args.a ≡ Ok m → (i j : ℕ) → m ≡ Known i → c.args.n ≢ Known j
open_one c m e i j f = elim c.in_default.branch [
  | in_default-via-in-Known+in_default w ↦ λ g. let h : Between _ _ ≡ Known j = sym w.in_default.is-1 ∙ g in absurd cc
  | in_default-via-in_default w ↦ λ g. let h : Between _ _ ≡ Known i = sym w.in_default.is-0 ∙ c.underlying.ensures m e ∙ f in absurd cc
]

pub returns-in_ok-c-in_default-clause-finds : goal.returns-in_ok-c-in_default-clause-finds
returns-in_ok-c-in_default-clause-finds c = λ m e.
    part_finds _ _ _ _ c.args.size c.args.at c.args.a c.args.p m c.args.n c.args.q _ _ _ (open_one c m e) c.in_ok-old-in_default.ensures.makes c.in_ok-part-in_default.ensures.makes c.in_ok-c-in_default.ensures.makes

pub returns-in_ok-c-in_default-clause-rows : goal.returns-in_ok-c-in_default-clause-rows
returns-in_ok-c-in_default-clause-rows c = λ m e.
    part_to _ _ _ _ _ c.args.size c.args.at c.args.a c.args.p m c.args.n c.args.q _ _ _ (open_one c m e) c.in_ok-old-in_default.ensures.rises c.in_ok-part-in_default.ensures.rises c.in_ok-c-in_default.ensures.rises
