-- What is made for marks is made of operands, of sites of the program.
use Rattle.std.specs.Prelude.{◌^◌, ◌≤◌, IfSome, Option, Some, None, slice_index}
use Rattle.std.specs.List.{filter}
use Rattle.std.proofs.Common.{◌≡◌, ℕ, ◌<◌, Bool, All, List, length, get_or, refl, sym, ap, subst, arith}
use Rattle.std.proofs.lemmas.List.{length-map}
use Rattle.std.proofs.lemmas.List.Sums.{length-filter, count_by-le-length}
use Rattle.block_core.proofs.list_laws_laws.PlaceLaws.{some_of}
use Rattle.block_core.specs.declared.name.Name.{Name}
use Rattle.hazard_core.specs.cell_core.Rows.{numbers}
use Rattle.hazard_core.specs.cell_core.View.{site_of}
use Rattle.hazard_core.proofs.cell_core_laws.NumberLaws.{numbers_long}
use Rattle.overlay_net.specs.cell_nets.declared.operand.Operand.{Operand}
use Rattle.overlay_net.specs.cell_nets.declared.operand.Operand.TheVariants.{Net}
use Rattle.overlay_net.specs.cell_nets.Operands.{IsOperand}
use Rattle.hazard_core.specs.Marks.{has_read}
use Rattle.overlay_net.specs.declared.site_operands.SiteNets.{SiteNets}
use Rattle.read_net.specs.declared.touch_net.marks.MarkNets.{MarkNets}
use Rattle.read_net.specs.TouchNet.Marking as marking
use Rattle.read_net.specs.TouchNet.Marking.{AreKnown}
use Rattle.pipe_net.specs.declared.parts.Part.{Part}
use Rattle.pipe_net.specs.declared.parts.Sizes.{Sizes}
use Rattle.place_parts.specs.declared.mark_parts.layout.MarkLayout.{MarkLayout}
use Rattle.place_parts.specs.MarkParts.Places.{program_in, rows_in, reads_in, register_of, IsMarkLayout, HaveOperands}
use Rattle.place_parts.specs.MarkParts.Reload.{IsGuard, AreMarkNets}
use Rattle.place_parts.proofs.MarkParts.Listing.{kept_below}

pub read_known : (f : MarkLayout) (k : ℕ) → All (λ j. j < length (program_in f).sites) (reads_in f k)
read_known f k = kept_below (has_read (program_in f) (rows_in f) k) (length (program_in f).sites)

filter_short : (q : ℕ → Bool) (xs : List ℕ) → length (filter q xs) ≤ length xs
filter_short q xs = omega (arith, length-filter q xs, count_by-le-length q xs)

pub reads_few : (f : MarkLayout) (k : ℕ) → IsMarkLayout f → length (reads_in f k) < 2 ^ 31
reads_few f k is =
    omega (arith, filter_short (has_read (program_in f) (rows_in f) k) (numbers 0 (length (program_in f).sites)), numbers_long 0 (length (program_in f).sites), length-map f.program.now.sites.items site_of, is.few)

-- of those that are listed
pub read_in : (f : MarkLayout) (k : ℕ) (reads : List ℕ) → reads ≡ reads_in f k → (i : ℕ) → i < length reads → get_or reads i 0 < length (program_in f).sites
read_in f k reads is i lt = subst (λ js. get_or js i 0 < length (program_in f).sites) (sym is) (read_known f k i 0 (omega (arith, lt, ap length is)))

pub few_in : (f : MarkLayout) (k : ℕ) (reads : List ℕ) → IsMarkLayout f → reads ≡ reads_in f k → (i : ℕ) → i < length reads → i < 2 ^ 31
few_in f k reads of is i lt = omega (arith, lt, ap length is, reads_few f k of)

pub net_has : (n : Name Part) → IsOperand (Net n 1)
net_has n = record { some = omega arith; most = omega arith }

pub register_has : (z : Sizes) (k i : ℕ) → IsOperand (register_of z k i)
register_has z k i = record { some = omega arith; most = omega arith }

module _ (f : MarkLayout) (sites : List (SiteNets (Name Part))) (ops : HaveOperands f sites) (k : ℕ) where
  guard_has : (j : ℕ) → j < length sites → (o : Option (Operand (Name Part))) → IsGuard f sites k j o → IfSome o IsOperand
  guard_has j lt None is = tt
  guard_has j lt (Some g) is =
      let s = some_of sites j lt in
      subst IsOperand (sym (is.is g s refl)) (ops.operands j s lt 0 g (omega arith))

  known_in : (i : ℕ) → i < length (reads_in f k) → slice_index (reads_in f k) i < length sites
  known_in i lt = omega (arith, read_known f k i 0 lt, ops.count)

  pub nets_have : (reloads : List (MarkNets (Name Part))) → AreMarkNets f sites k reloads → All marking.HasOperands reloads
  nets_have reloads are i m lt =
      let x = are.each i m lt in
      record {
        marked = subst IsOperand (sym x.marked) (register_has f.sizes k i);
        guard = guard_has (slice_index (reads_in f k) i) (known_in i (omega (arith, lt, are.count))) (get_or reloads i m).guard x.guard;
      }
