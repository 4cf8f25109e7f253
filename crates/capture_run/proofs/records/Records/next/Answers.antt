use Rattle.std.proofs.Common.{◌≡◌, ◌≤◌, ℕ, List, length, Option, Some, sym, ap, subst}
use Rattle.shelf_core.specs.Feeding.{Feeding, IsAheadOf}
use Rattle.capture_run.specs.Captures.{Reading}
use Rattle.capture_run.proofs.RecordLemmas.{gives_none}
use Rattle.capture_run.proofs.records.Records.next.Goals as goal

pub returns-in-None-clause-gives : goal.returns-in-None-clause-gives
returns-in-None-clause-gives g c = λ told packets stands.
    let held = g.S.Shelf.held c.args.shelf.now c.args.name.now in
    let old = c.args.self.now in
    let content = stands.content in
    let same : c.self.inside.feed ≡ old.feed = ap (λ (r : Reading). r.feed) c.self.view_is in
    let ahead : IsAheadOf (Some content) old.feed = subst (λ (h : Option (List ℕ)). IsAheadOf h old.feed) stands.there stands.ahead in
    let here : IsAheadOf (Some content) c.self.inside.feed = subst (λ (f : Feeding). IsAheadOf (Some content) f) (sym same) ahead in
    let all : length content ≤ c.self.inside.feed.at = rw c.in-None.is at (c.in_ok-stamp.ensures.told content (record { tells = told; there = stands.there }) here) in
    gives_none c.args.stream.now held packets _ old (record { index = c.self.inside.index; feed = c.read_record.new.feed }) stands (subst (λ (f : Feeding). length content ≤ f.at) same all)
