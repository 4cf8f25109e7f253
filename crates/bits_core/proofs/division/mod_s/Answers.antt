use Rattle.std.proofs.Common.{◌≡◌, ◌∙◌, ◌≢◌, ap}
use Rattle.std.specs.Int.{w64, cast_signed}
use Rattle.bits_core.specs.Bits.{signed_of}
use Rattle.bits_core.proofs.division.mod_s.Goals as goal
use Rattle.bits_core.proofs.Words.{reduced, extended, masked_below}

pub returns-clause-value : goal.returns-clause-value
returns-clause-value c =
    let x : c.cast_signed.result ≡ signed_of c.args.w c.args.a = c.cast_signed.ensures ∙ (ap (cast_signed w64) c.sext.ensures ∙ extended c.args.a c.args.w c.requires.width c.requires.dividend) in
    let y : c.cast_signed-2.result ≡ signed_of c.args.w c.args.b = c.cast_signed-2.ensures ∙ (ap (cast_signed w64) c.sext-2.ensures ∙ extended c.args.b c.args.w c.requires.width c.requires.divisor) in
    let some : c.args.b ≢ 0 = c.if-b-eq0.false in
    reduced c.args.a c.args.b c.args.w c.cast_unsigned.result c.mask.result c.cast_signed.result c.cast_signed-2.result c.wrapping_rem-remainder.result
    c.requires.width c.requires.divisor some c.cast_signed.type_inv c.cast_signed-2.type_inv c.wrapping_rem-remainder.type_inv x y c.wrapping_rem-remainder.ensures c.cast_unsigned.ensures c.mask.ensures

pub returns-clause-word : goal.returns-clause-word
returns-clause-word c = masked_below c.cast_unsigned.result c.mask.result c.args.w c.mask.ensures
