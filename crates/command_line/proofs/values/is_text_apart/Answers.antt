use Rattle.std.proofs.Common.{◌↔◌, ◌∷◌, Option, List, ℕ, Bor, IsTrue, sym, subst}
use Rattle.std.specs.Option.{option_copied}
use Rattle.command_line.specs.Request.{file_in}
use Rattle.command_line.specs.Means.{AreDistinct}
use Rattle.command_line.proofs.values.is_text_apart.Goals as goal

pub returns-in-Some : goal.returns-in-Some
returns-in-Some c =
    let f = c.args.files.now in
    let P : Option (Bor (List ℕ)) → Type 0 = λ m. IsTrue c.are_distinct.result ↔ AreDistinct (c.args.verilog.now ∷ f.object.now ∷ f.capture.now ∷ f.answer.now ∷ f.verdicts.now ∷ f.final_maps.now ∷ file_in (option_copied m)) in
    subst P (sym c.in-Some.is) c.are_distinct.ensures

pub returns-in-None : goal.returns-in-None
returns-in-None c =
    let f = c.args.files.now in
    let P : Option (Bor (List ℕ)) → Type 0 = λ m. IsTrue c.are_distinct-in-None.result ↔ AreDistinct (c.args.verilog.now ∷ f.object.now ∷ f.capture.now ∷ f.answer.now ∷ f.verdicts.now ∷ f.final_maps.now ∷ file_in (option_copied m)) in
    subst P (sym c.in-None.is) c.are_distinct-in-None.ensures
