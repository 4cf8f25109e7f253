use Rattle.std.proofs.Common.{◌∙◌, length, ap, subst, arith}
use Rattle.std.proofs.lemmas.List.FromFn.{length-map-range_with_len}
use Rattle.block_core.specs.View.{block_of}
use Rattle.block_core.specs.declared.name.Name.TheVariants as name
use Rattle.commit_net.specs.Fetching.{IsFetch, fetched_words}
use Rattle.commit_net.proofs.map_block.found.find_words.Goals as goal

pub commit_slot-requires-clause-bits : goal.commit_slot-requires-clause-bits
commit_slot-requires-clause-bits g c = let s = c.requires.form_fits in record { some = omega (arith, s.some); most = omega (arith, s.most) }

pub returns-clause-finds : goal.returns-clause-finds
returns-clause-finds g c = c.in_ok-found.ensures

pub returns-clause-fetches : goal.returns-clause-fetches
returns-clause-fetches g c =
    let a = c.args in
    subst (λ n. IsFetch a.parts.fetcher a.parts.own a.form.now.bits a.first a.form.now.decl.value 0 n c.in_ok-found.found.slot (block_of c.in_ok-fetches.fetches)) c.word_count-count.ensures.count c.in_ok-fetches.ensures

pub returns-clause-words : goal.returns-clause-words
returns-clause-words g c = c.in_ok-words.ensures ∙ ap (fetched_words c.args.parts.fetcher) c.word_count-count.ensures.count

pub returns-clause-count : goal.returns-clause-count
returns-clause-count g c = ap length c.in_ok-words.ensures ∙ length-map-range_with_len (λ i. name.Wire c.args.parts.fetcher i) 0 c.word_count-count.result ∙ c.word_count-count.ensures.count
