use Rattle.std.proofs.Common.{◌≡◌, ◌∙◌, sym, ap, ap₂, subst, refl, inl, inr, true, map}
use Rattle.std.proofs.lemmas.List.{map-id}
use Rattle.clap.specs.Values.{kind_of}
use Rattle.clap.specs.Kinds.{IsAmong, Kinds}
use Rattle.clap.specs.Simple.{app_of, is_simple, subcommand_of}
use Rattle.clap.specs.Faults.{fault_of, is_simple_and_free}
use Rattle.command_line.specs.Commands.{app}
use Rattle.command_line.specs.declared.error.WordsError.TheVariants.{NoMemory, Usage}
use Rattle.command_line.specs.declared.error.WordsError.{WordsError}
use Rattle.command_line.proofs.parse.parse.Goals as goal

is_app_simple : is_simple app ≡ true
is_app_simple = refl

is_app_free : is_simple_and_free app ≡ true
is_app_free = refl

two_errors : {P : Type 0} (e : WordsError) → e ≡ Usage → e ≡ NoMemory → P
two_errors e f g = absurd cc

pub returns-in-Ok-clause-ok : goal.returns-in-Ok-clause-ok
returns-in-Ok-clause-ok c =
    let is : app_of c.in_ok-program.program ≡ app = c.in_ok-program.ensures in
    let words_are : map (λ w. w) c.as_slice.result.now ≡ c.args.words.now = map-id c.as_slice.result.now ∙ c.as_slice.ensures in (
      sym (ap₂ fault_of is words_are) ∙ c.in-Ok.ensures.kinds (ap is_simple_and_free is ∙ is_app_free),
      (c.in-Ok.ensures.matches (ap is_simple is ∙ is_app_simple)).1 ∙ ap₂ subcommand_of is words_are,
    )

pub returns-in-Err-clause-usage : goal.returns-in-Err-clause-usage
returns-in-Err-clause-usage c = λ usage none.
    let is : app_of c.in_ok-program.program ≡ app = c.in_ok-program.ensures in
    let words_are : map (λ w. w) c.as_slice.result.now ≡ c.args.words.now = map-id c.as_slice.result.now ∙ c.as_slice.ensures in
    let is_usage : c.error_of.result ≡ Usage = cc usage in
    let P : Kinds → Type 0 = IsAmong (kind_of c.in-Err.error) in
    elim (c.in-Err.ensures.kinds (ap is_simple_and_free is ∙ is_app_free)) [
      | inl memory ↦ two_errors c.error_of.result is_usage (c.error_of.ensures.1 (c.kind.ensures ∙ memory))
      | inr among ↦ subst P (ap₂ fault_of is words_are ∙ none) among
    ]
