-- The name is compared in the window.
use Rattle.std.proofs.Common.{◌∙◌, false, ℕ, Option, ap, bytes_eq, sym, take}
use Rattle.std.specs.Option.{option_map_or}
use Rattle.btf_view.proofs.NameEnds.{is_named-window}
use Rattle.btf_view.proofs.strings.Strings.is_named.Goals as goal

pub returns-in-Some : goal.returns-in-Some
returns-in-Some c =
    let name = c.args.name.now in
    let head = c.window-head.result.now in
    let first = ap (λ (o : Option ℕ). option_map_or (λ n. bytes_eq (take n head) name) o false) c.in-Some.ensures.place in
    c.eq.ensures ∙ first ∙ sym (is_named-window c.args.self.now name head c.args.at c.window-head.ensures)

pub returns-in-None : goal.returns-in-None
returns-in-None c =
    let name = c.args.name.now in
    let head = c.window-head.result.now in
    let none = ap (λ (o : Option ℕ). option_map_or (λ n. bytes_eq (take n head) name) o false) c.in-None.ensures.place in
    none ∙ sym (is_named-window c.args.self.now name head c.args.at c.window-head.ensures)
