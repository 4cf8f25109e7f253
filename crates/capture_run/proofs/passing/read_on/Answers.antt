use Rattle.std.proofs.Common.{◌≡◌, ◌<◌, ℕ, List, length, take, drop, Option, Some, sym, subst, arith, rules}
use Rattle.shelf_core.specs.Shelf.{IsLonger}
use Rattle.shelf_core.specs.Feeding.{IsAheadOf, IsNextOf}
use Rattle.beat_core.specs.list_laws.Bytes.{IsBytes}
use Rattle.capture_run.proofs.PassingLemmas.{passed_more}
use Rattle.capture_run.proofs.passing.read_on.Goals as goal

pub returns-in-Ok-clause-on : goal.returns-in-Ok-clause-on
returns-in-Ok-clause-on g c = λ content t a.
    let held = g.S.Shelf.held c.args.shelf.now c.args.name.now in
    let old = c.args.feed.now in
    let new = c.next.new.self in
    let before : IsAheadOf held old = subst (λ (h : Option (List ℕ)). IsAheadOf h old) (sym t.there) a in
    let after : IsAheadOf (Some content) new = subst (λ (h : Option (List ℕ)). IsAheadOf h new) t.there (c.next.ensures.ahead t.tells before) in
    let next : new.given ≡ take c.args.need (drop old.at content) = subst (λ (h : Option (List ℕ)). IsNextOf h old.at c.args.need new.given) t.there (c.in-Ok.ensures.next t.tells before) in
    let are_bytes : IsBytes new.given = let P : List ℕ → Type 0 = IsBytes in subst P c.given.ensures c.count_of.ensures.bytes in
    record { ahead = after; bytes = λ p. passed_more content new.given old.at c.args.need new.at next c.in-Ok.ensures.ok.at are_bytes p }

pub returns-in-Err-TooLong-clause-told : goal.returns-in-Err-TooLong-clause-told
returns-in-Err-TooLong-clause-told g c = λ content t a.
    let held = g.S.Shelf.held c.args.shelf.now c.args.name.now in
    let old = c.args.feed.now in
    let before : IsAheadOf held old = subst (λ (h : Option (List ℕ)). IsAheadOf h old) (sym t.there) a in
    let longer : old.limit < length content = subst (λ (h : Option (List ℕ)). IsLonger old.limit h) t.there (c.in-Err-TooLong.ensures.too_long (search rules) t.tells before) in
    omega (arith, longer, c.requires.limit)
