use Rattle.std.proofs.Common.{ℕ, List, Result, Ok, Err, MatchResult, refl}
use Rattle.std.specs.Result.{IsOk}
use Rattle.std.specs.Str.{IsUtf8}
use Rattle.verilog_read.proofs.Texts.{is_text}
use Rattle.verilog_read.proofs.parts.as_text.Goals as goal

-- what is text is read as such
is_read : {X Y : Type 0} (P : X → Type 0) (Q : Y → Type 0) (bs : List ℕ) (r : Result X Y) → IsUtf8 bs → MatchResult r P (λ e. ¬ (IsUtf8 bs) × Q e) → IsOk r
is_read P Q bs (Ok x) h m = refl
is_read P Q bs (Err e) h m = absurd (m.0 h)

pub unwrap-requires : goal.unwrap-requires
unwrap-requires c = is_read _ _ c.args.name.now c.from_utf8.result (is_text c.args.name.now c.requires) c.from_utf8.ensures.cases
