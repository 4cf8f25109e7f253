use Rattle.std.proofs.Common.{rules, ◌≡◌, ◌∙◌, ◌-◌, ◌+◌, ℕ, max, sym, ap}
use Rattle.cell_core.specs.Rows.{greatest, numbers}
use Rattle.row_rules.specs.PlaceRows.Origins.{row_at}
use Rattle.row_rules.proofs.PlaceRows.PlaceLaws.{greatest_split}
use Rattle.row_rules.proofs.place_rows.origin.Origins.span_row.Goals as goal

pub loop-place-preserved : goal.loop-place-preserved
loop-place-preserved c =
    let row : ℕ → ℕ = row_at c.args.self.now.places in
    let n : ℕ = c.loop-place.place in
    let most : c.max-most.result ≡ max c.loop-place.most (row n) = search rules in
    ap (λ m. max m (greatest row (numbers (n + 1) (c.args.span.end - (n + 1))))) most
    ∙ sym (greatest_split row n c.args.span.end c.loop-place.most c.loop-place-test.true) ∙ c.loop-place.invariant
