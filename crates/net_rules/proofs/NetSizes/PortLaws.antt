-- The words at the ports of single bits are 0 or 1.
use Rattle.std.specs.Prelude.{◌≡◌, ◌==◌, ℕ, ◌<◌, Bool, true, false, if◌then◌else◌, ◌||◌}
use Rattle.std.proofs.Common.{get_or, refl, sym, subst, arith}
use Rattle.std.proofs.lemmas.Bool.{eqb-true}
use Rattle.net_core.specs.declared.ports.Inputs.{Inputs}
use Rattle.net_core.specs.declared.ports.TheConstants.{IN_VALID, IN_LAST, OUT_READY, HOST_WRITE}
use Rattle.net_core.specs.Value.{nothing}
use Rattle.net_core.specs.Ports.{words_of}
use Rattle.net_rules.specs.NetSizes.Fitting.{Fits, port_size}
use Rattle.net_rules.specs.NetSizes.Staying.{PortsHaveSizes}
use Rattle.net_rules.proofs.NetSizes.FittingLaws.{bit_fits}

module _ (i : Inputs) where
  abbrev HasSize : ℕ → Type 0
  HasSize p = Fits (port_size p) (get_or (words_of i) p nothing)

  at : (p q : ℕ) → (p == q) ≡ true → HasSize q → HasSize p
  at p q e h = subst HasSize (sym (eqb-true p q e)) h

  any : (p : ℕ) (a b c d : Bool) → (p == IN_VALID) ≡ a → (p == IN_LAST) ≡ b → (p == OUT_READY) ≡ c → (p == HOST_WRITE) ≡ d
      → 0 < (if a || b || c || d then 1 else 0) → HasSize p
  any p true b c d e f g h some = at p IN_VALID e (bit_fits i.in_valid)
  any p false true c d e f g h some = at p IN_LAST f (bit_fits i.in_last)
  any p false false true d e f g h some = at p OUT_READY g (bit_fits i.out_ready)
  any p false false false true e f g h some = at p HOST_WRITE h (bit_fits i.host_write)
  any p false false false false e f g h some = absurd (omega arith)

pub ports_have_sizes : PortsHaveSizes
ports_have_sizes i p some = any i p (p == IN_VALID) (p == IN_LAST) (p == OUT_READY) (p == HOST_WRITE) refl refl refl refl some some
