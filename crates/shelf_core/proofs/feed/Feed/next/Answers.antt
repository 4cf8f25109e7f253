use Rattle.std.proofs.Common.{◌≡◌, ◌≤◌, ◌+◌, ◌-◌, List, ℕ, [], length, take, drop, sym, ap, ◌∙◌, subst, arith}
use Rattle.std.proofs.lemmas.List.{with_items_is}
use Rattle.std.specs.Vec.{with_items}
use Rattle.shelf_core.specs.Feeding.{Feeding, StandsAt, IsAheadOf, IsNextOf, GivesNext}
use Rattle.shelf_core.proofs.FeedingLaws.{moved, gives_kept, kept_next, kept_ahead, gives_read, read_next, read_ahead}
use Rattle.shelf_core.proofs.feed.Feed.next.Goals as goal

pub returns-then-need-kept-clause-ok : goal.returns-then-need-kept-clause-ok
returns-then-need-kept-clause-ok g c =
    let s = c.self.inside in
    let items = s.buffer.items in
    let room : s.middle + c.args.need ≤ s.end = omega (arith, c.if-need-kept.true, c.self.invariant.1) in
    subst (λ (f : Feeding). GivesNext f (record { limit = s.limit; at = s.at + c.args.need; given = drop s.middle (take (s.middle + c.args.need) items); ahead = drop (s.middle + c.args.need) (take s.end items) }) c.args.need) c.self.view_is
    (gives_kept items (drop s.start (take s.middle items)) s.limit s.at s.middle s.end c.args.need room c.self.invariant.2)

pub returns-then-need-kept-clause-next : goal.returns-then-need-kept-clause-next
returns-then-need-kept-clause-next g c tells ahead =
    let s = c.self.inside in
    let items = s.buffer.items in
    let room : s.middle + c.args.need ≤ s.end = omega (arith, c.if-need-kept.true, c.self.invariant.1) in
    let held = g.S.Shelf.held c.args.shelf.now c.args.name.now in
    let stands : StandsAt held s.at (drop s.middle (take s.end items)) = subst (λ (f : Feeding). IsAheadOf held f) (sym c.self.view_is) ahead in
    subst (λ (f : Feeding). IsNextOf held f.at c.args.need (drop s.middle (take (s.middle + c.args.need) items))) c.self.view_is (kept_next held items s.at s.middle s.end c.args.need room c.self.invariant.2 stands)

pub returns-then-need-kept-clause-ahead : goal.returns-then-need-kept-clause-ahead
returns-then-need-kept-clause-ahead g c tells ahead =
    let s = c.self.inside in
    let items = s.buffer.items in
    let room : s.middle + c.args.need ≤ s.end = omega (arith, c.if-need-kept.true, c.self.invariant.1) in
    let held = g.S.Shelf.held c.args.shelf.now c.args.name.now in
    let stands : StandsAt held s.at (drop s.middle (take s.end items)) = subst (λ (f : Feeding). IsAheadOf held f) (sym c.self.view_is) ahead in
    kept_ahead held items s.at s.middle s.end c.args.need room c.self.invariant.2 stands

pub returns-in-Ok-clause-ok : goal.returns-in-Ok-clause-ok
returns-in-Ok-clause-ok g c =
    let s = c.self.inside in
    let items = s.buffer.items in
    let read = c.read_on.new.buffer in
    let kept = s.end - s.middle in
    let bytes = drop s.middle (take s.end items) in
    let count : length read ≡ c.copy_within.new.self.len = omega (arith, c.read_on.auto.buffer, c.deref_mut.ensures.len, c.copy_within.new.self.ok.0) in
    let is : (with_items c.copy_within.new.self read).items ≡ read = with_items_is c.copy_within.new.self read count in
    let front : take kept c.deref_mut.result.now ≡ bytes = ap (λ (l : List ℕ). take kept l) (c.deref_mut.ensures.value ∙ c.copy_within.ensures.items) ∙ moved items s.middle s.end c.self.invariant.1 c.self.invariant.2 in
    let same : take kept read ≡ bytes = c.read_on.ensures.same ∙ front in
    let gives = gives_read read (drop s.start (take s.middle items)) bytes s.limit s.at kept c.args.need c.in-Ok.end c.min-self-inside.result c.in-Ok.ensures.more c.in-Ok.ensures.room same c.min-self-inside.ensures in
    subst (λ (l : List ℕ). GivesNext c.args.self.now (record { limit = s.limit; at = s.at + c.min-self-inside.result; given = take c.min-self-inside.result l; ahead = drop c.min-self-inside.result (take c.in-Ok.end l) }) c.args.need) (sym is)
    (subst (λ (f : Feeding). GivesNext f (record { limit = s.limit; at = s.at + c.min-self-inside.result; given = take c.min-self-inside.result read; ahead = drop c.min-self-inside.result (take c.in-Ok.end read) }) c.args.need) c.self.view_is gives)

pub returns-in-Ok-clause-next : goal.returns-in-Ok-clause-next
returns-in-Ok-clause-next g c tells ahead =
    let s = c.self.inside in
    let items = s.buffer.items in
    let read = c.read_on.new.buffer in
    let kept = s.end - s.middle in
    let bytes = drop s.middle (take s.end items) in
    let count : length read ≡ c.copy_within.new.self.len = omega (arith, c.read_on.auto.buffer, c.deref_mut.ensures.len, c.copy_within.new.self.ok.0) in
    let is : (with_items c.copy_within.new.self read).items ≡ read = with_items_is c.copy_within.new.self read count in
    let front : take kept c.deref_mut.result.now ≡ bytes = ap (λ (l : List ℕ). take kept l) (c.deref_mut.ensures.value ∙ c.copy_within.ensures.items) ∙ moved items s.middle s.end c.self.invariant.1 c.self.invariant.2 in
    let held = g.S.Shelf.held c.args.shelf.now c.args.name.now in
    let stands : StandsAt held s.at (drop s.middle (take s.end items)) = subst (λ (f : Feeding). IsAheadOf held f) (sym c.self.view_is) ahead in
    let there : StandsAt held s.at (take c.in-Ok.end read) = c.in-Ok.ensures.stand tells (subst (λ (l : List ℕ). StandsAt held s.at l) (sym front) stands) in
    subst (λ (l : List ℕ). IsNextOf held c.args.self.now.at c.args.need (take c.min-self-inside.result l)) (sym is)
    (subst (λ (f : Feeding). IsNextOf held f.at c.args.need (take c.min-self-inside.result read)) c.self.view_is (read_next held read s.at c.args.need c.in-Ok.end c.min-self-inside.result c.in-Ok.ensures.room c.min-self-inside.ensures there (c.in-Ok.ensures.ends tells)))

pub returns-in-Ok-clause-ahead : goal.returns-in-Ok-clause-ahead
returns-in-Ok-clause-ahead g c tells ahead =
    let s = c.self.inside in
    let items = s.buffer.items in
    let read = c.read_on.new.buffer in
    let kept = s.end - s.middle in
    let bytes = drop s.middle (take s.end items) in
    let count : length read ≡ c.copy_within.new.self.len = omega (arith, c.read_on.auto.buffer, c.deref_mut.ensures.len, c.copy_within.new.self.ok.0) in
    let is : (with_items c.copy_within.new.self read).items ≡ read = with_items_is c.copy_within.new.self read count in
    let front : take kept c.deref_mut.result.now ≡ bytes = ap (λ (l : List ℕ). take kept l) (c.deref_mut.ensures.value ∙ c.copy_within.ensures.items) ∙ moved items s.middle s.end c.self.invariant.1 c.self.invariant.2 in
    let held = g.S.Shelf.held c.args.shelf.now c.args.name.now in
    let stands : StandsAt held s.at (drop s.middle (take s.end items)) = subst (λ (f : Feeding). IsAheadOf held f) (sym c.self.view_is) ahead in
    let there : StandsAt held s.at (take c.in-Ok.end read) = c.in-Ok.ensures.stand tells (subst (λ (l : List ℕ). StandsAt held s.at l) (sym front) stands) in
    subst (λ (l : List ℕ). StandsAt held (s.at + c.min-self-inside.result) (drop c.min-self-inside.result (take c.in-Ok.end l))) (sym is)
    (read_ahead held read s.at c.args.need c.in-Ok.end c.min-self-inside.result c.in-Ok.ensures.room c.min-self-inside.ensures there)

pub returns-in-Err-clause-err : goal.returns-in-Err-clause-err
returns-in-Err-clause-err g c =
    let s = c.self.inside in
    let items = s.buffer.items in
    let read = c.read_on.new.buffer in
    let kept = s.end - s.middle in
    let bytes = drop s.middle (take s.end items) in
    let count : length read ≡ c.copy_within.new.self.len = omega (arith, c.read_on.auto.buffer, c.deref_mut.ensures.len, c.copy_within.new.self.ok.0) in
    let is : (with_items c.copy_within.new.self read).items ≡ read = with_items_is c.copy_within.new.self read count in
    let front : take kept c.deref_mut.result.now ≡ bytes = ap (λ (l : List ℕ). take kept l) (c.deref_mut.ensures.value ∙ c.copy_within.ensures.items) ∙ moved items s.middle s.end c.self.invariant.1 c.self.invariant.2 in
    let same : take kept read ≡ bytes = c.read_on.ensures.same ∙ front in
    ap (λ (l : List ℕ). record { limit = s.limit; at = s.at; given = []; ahead = l }) (ap (λ (l : List ℕ). take kept l) is ∙ same)
    ∙ ap (λ (f : Feeding). record { limit = f.limit; at = f.at; given = []; ahead = f.ahead }) c.self.view_is

pub returns-in-Err-clause-ahead : goal.returns-in-Err-clause-ahead
returns-in-Err-clause-ahead g c tells ahead =
    let s = c.self.inside in
    let items = s.buffer.items in
    let read = c.read_on.new.buffer in
    let kept = s.end - s.middle in
    let bytes = drop s.middle (take s.end items) in
    let count : length read ≡ c.copy_within.new.self.len = omega (arith, c.read_on.auto.buffer, c.deref_mut.ensures.len, c.copy_within.new.self.ok.0) in
    let is : (with_items c.copy_within.new.self read).items ≡ read = with_items_is c.copy_within.new.self read count in
    let front : take kept c.deref_mut.result.now ≡ bytes = ap (λ (l : List ℕ). take kept l) (c.deref_mut.ensures.value ∙ c.copy_within.ensures.items) ∙ moved items s.middle s.end c.self.invariant.1 c.self.invariant.2 in
    let same : take kept read ≡ bytes = c.read_on.ensures.same ∙ front in
    let held = g.S.Shelf.held c.args.shelf.now c.args.name.now in
    let stands : StandsAt held s.at (drop s.middle (take s.end items)) = subst (λ (f : Feeding). IsAheadOf held f) (sym c.self.view_is) ahead in
    subst (λ (l : List ℕ). StandsAt held s.at l) (sym (ap (λ (l : List ℕ). take kept l) is ∙ same)) stands
