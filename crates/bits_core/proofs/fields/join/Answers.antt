use Rattle.std.proofs.Common.{◌≡◌, ◌∙◌, ◌*◌, ◌^◌, ◌%◌, ap, arith, bit_or}
use Rattle.std.proofs.lemmas.Nat.{or_shifted}
use Rattle.bits_core.proofs.fields.join.Goals as goal

pub returns : goal.returns
returns c =
    let whole : c.args.hi * 2 ^ c.args.w % 2 ^ 64 ≡ c.args.hi * 2 ^ c.args.w = omega (arith, c.requires.fits) in
    ap (λ n. bit_or n c.args.lo) whole ∙ or_shifted c.args.hi c.args.w c.args.lo c.requires.low
