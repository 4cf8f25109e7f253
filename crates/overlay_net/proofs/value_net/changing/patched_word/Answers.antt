use Rattle.std.proofs.Common.{◌≡◌, [], ◌∷◌, ap, arith}
use Rattle.byteorder.specs.Endian.{little_bytes}
use Rattle.hazard_core.specs.xdp_maps.Calls.{patched}
use Rattle.hazard_core.specs.Commits.{word_at}
use Rattle.cell_nets.specs.Operands.{number_in}
use Rattle.overlay_net.proofs.ValueNet.Holding.{step_gives}
use Rattle.overlay_net.proofs.value_net.changing.patched_word.Goals as goal

pub returns : goal.returns
returns g c = λ n value b inside.
    let old = c.args.old in
    let number = c.args.number in
    let e = c.bytes_of.ensures.value in
    step_gives c.args.part _ _ (old ∷ number ∷ []) (old ∷ number ∷ []) (λ v. number_in v old ≡ word_at value c.args.w) (λ v. number_in v old ≡ word_at value c.args.w) _ _ 64 c.in_ok-out.out (c.in_ok-out.ensures n value b (omega (arith, e, inside))) (λ ins h. h)
    (λ v f k. (k, ap (λ m. word_at (patched value c.args.at (little_bytes m (number_in v number))) c.args.w) e))
