-- The parts of a line come one after another.
use Rattle.std.proofs.Common.{ℕ, List, [], ◌∷◌, ◌++◌, ap, ◌∙◌}
use Rattle.hex.specs.Hex.{encode_lower}
use Rattle.maps_text.specs.Lines.{space, line_feed}
use Rattle.maps_text.proofs.Written.{line_pushed}
use Rattle.maps_text.proofs.write.push_line.Goals as goal

pub returns : goal.returns
returns c =
    let behind : List ℕ → List ℕ → List ℕ = λ part x. x ++ part in
    let name = c.in_ok-extend_from_slice.ensures.items ∙ ap (λ (x : List ℕ). c.args.text.now.items ++ x) c.as_slice.ensures.bytes in
    let first = c.in_ok-push.ensures.items ∙ ap (behind (space ∷ [])) name in
    let key = c.in_ok-push_digits.ensures ∙ ap (behind (encode_lower c.args.key.now)) first in
    let second = c.in_ok-push-2.ensures.items ∙ ap (behind (space ∷ [])) key in
    let value = c.in_ok-push_digits-2.ensures ∙ ap (behind (encode_lower c.args.value.now)) second in
    c.in_ok-push-3.ensures.items ∙ ap (behind (line_feed ∷ [])) value ∙ line_pushed c.args.text.now.items c.args.decl.now.name c.args.key.now c.args.value.now
