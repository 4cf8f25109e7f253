-- What marks are made for, and what stands at a place.
use Rattle.std.specs.Prelude.{◌≡◌, ℕ, zero, suc, ◌^◌, ◌<◌, All, List, [], length, slice_index, filter}
use Rattle.std.proofs.Common.{get_or}
use Rattle.block_core.specs.declared.name.Name.{Name}
use Rattle.block_core.specs.declared.name.Name.TheVariants as name
use Rattle.hazard_core.specs.cell_core.Formed.{AllFit}
use Rattle.hazard_core.specs.cell_core.Rows.{numbers}
use Rattle.hazard_core.specs.cell_core.Sites.{ProgramView, site_at}
use Rattle.hazard_core.specs.cell_core.View.{program_of}
use Rattle.overlay_net.specs.cell_nets.declared.operand.Operand.{Operand}
use Rattle.overlay_net.specs.cell_nets.declared.operand.Operand.TheVariants.{Net}
use Rattle.overlay_net.specs.cell_nets.Operands.{IsOperand}
use Rattle.hazard_core.specs.Marks.{has_read}
use Rattle.overlay_net.specs.declared.site_operands.SiteNets.{SiteNets}
use Rattle.overlay_net.specs.SiteOperands.Sites.{operands_of, all_of}
use Rattle.pipe_net.specs.declared.parts.Part.{Part}
use Rattle.pipe_net.specs.declared.parts.Sizes.{Sizes}
use Rattle.pipe_net.specs.Parts as part
use Rattle.pipe_net.specs.Parts.{IsSmall}
use Rattle.place_parts.specs.declared.mark_parts.layout.MarkLayout.{MarkLayout}

abbrev pub program_in : MarkLayout → ProgramView
program_in f = program_of f.program.now

abbrev pub rows_in : MarkLayout → ℕ → ℕ
rows_in f = slice_index f.rows.now

-- sites fit their maps, and there are not too many
pub record IsMarkLayout (f : MarkLayout) : Type 0 where
  pub small : IsSmall f.sizes
  pub few : length f.program.now.sites.items < 2 ^ 31
  pub fits : AllFit f.decls.now (program_in f).sites

-- ---- marks
-- the sites at which a packet with the rows up to one has read
abbrev pub reads_of : ProgramView → (ℕ → ℕ) → ℕ → List ℕ
reads_of p row k = filter (has_read p row k) (numbers 0 (length p.sites))

abbrev pub reads_in : MarkLayout → ℕ → List ℕ
reads_in f k = reads_of (program_in f) (rows_in f) k

-- a packet comes into the first place without having read
abbrev pub reads_before : MarkLayout → ℕ → List ℕ
reads_before f zero = []
reads_before f (suc k) = reads_in f k

-- the register of the mark at the i-th of these
abbrev pub register_of : Sizes → ℕ → ℕ → Operand (Name Part)
register_of z k i = Net (name.Register (part.marks z k) i) 1

-- ---- the operands of all sites
-- one of several, by its number
abbrev pub IsAt : {A : Type 0} → List A → ℕ → A → Type 0
IsAt {A} xs n x = (d : A) → get_or xs n d ≡ x

pub record HaveOperands (f : MarkLayout) (sites : List (SiteNets (Name Part))) : Type 0 where
  pub count : length sites ≡ length (program_in f).sites
  pub operands : (j : ℕ) (s : SiteNets (Name Part)) → j < length sites → All IsOperand (all_of (operands_of (get_or sites j s)))
  pub keys : (j : ℕ) (s : SiteNets (Name Part)) → j < length sites → length (get_or sites j s).key.items ≡ length (site_at (program_in f).sites j).key
