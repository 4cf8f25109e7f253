-- A map of the program as its block sees it.
use Rattle.std.specs.Prelude.{ℕ, ◌^◌, ◌<◌, ◌≤◌}
use Rattle.overlay_net.specs.xdp_maps.Contents.{IsWithinLimits}
use Rattle.commit_net.specs.declared.map_block.form.MapForm.{MapForm}

-- The declaration is within its limits, and the number of a slot has the least bits that are enough, and at least one.
pub record FormFits (f : MapForm) : Type 0 where
  pub number : f.number < 16
  pub limits : IsWithinLimits f.decl
  pub some : 1 ≤ f.bits
  pub most : f.bits ≤ 16
  pub room : f.decl.cap ≤ 2 ^ f.bits
  pub least : (b : ℕ) → 1 ≤ b → f.decl.cap ≤ 2 ^ b → f.bits ≤ b
