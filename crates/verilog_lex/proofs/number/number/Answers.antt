use Rattle.std.proofs.Common.{◌≡◌, ℕ, ◌+◌, ◌*◌, ◌^◌, ◌<◌, List, length, min, take, get_or, ◌∙◌, ap, arith}
use Rattle.std.proofs.lemmas.Int.Digits.{digits_value_more}
use Rattle.std.specs.Char.{digit_value}
use Rattle.std.specs.Str.Parse.{digits_value}
use Rattle.verilog_lex.proofs.number.number.Goals as goal

-- a digit more after a number that may have been cut to the cap
cut_more : (v r d cap : ℕ) → 0 < r → min cap (min v cap * r + d) ≡ min (v * r + d) cap
cut_more v r d cap h = grind arith

cut_step : (r i v w cap : ℕ) (ds : List ℕ) → 0 < r → i < length ds → v ≡ min (digits_value r (take i ds)) cap → w ≡ min cap (v * r + digit_value (get_or ds i 0)) → w ≡ min (digits_value r (take (i + 1) ds)) cap
cut_step r i v w cap ds h k e f =
    f ∙ ap (λ n. min cap (n * r + digit_value (get_or ds i 0))) e
    ∙ cut_more (digits_value r (take i ds)) r (digit_value (get_or ds i 0)) cap h
    ∙ ap (λ n. min n cap) (cc (digits_value_more r ds i k))

pub loop-c-preserved : goal.loop-c-preserved
loop-c-preserved c =
    cut_step c.args.radix c.loop-c.c-index c.loop-c.value c.min-value.result (2 ^ 64) c.args.digits.now (omega arith) (omega arith) c.loop-c.invariant
    (c.min-value.ensures ∙ (cc))
