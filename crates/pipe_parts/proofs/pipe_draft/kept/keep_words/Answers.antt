use Rattle.std.proofs.Common.{◌≡◌, ℕ, ◌<◌, map, subst, arith}
use Rattle.hazard_core.specs.cell_core.View.{cell_of}
use Rattle.frame_net.specs.declared.held.Kept.TheVariants.{Word}
use Rattle.pipe_parts.specs.PipeDraft.Keeping.{KeepsMore}
use Rattle.pipe_parts.proofs.PipeDraft.Keeps.{no_words, words_more}
use Rattle.pipe_parts.proofs.pipe_draft.kept.keep_words.Goals as goal

pub loop-word-init : goal.loop-word-init
loop-word-init c = no_words (map cell_of c.args.cells.now) c.args.listed.now c.args.kept.now.items

pub loop-word-preserved : goal.loop-word-preserved
loop-word-preserved c =
    words_more (map cell_of c.args.cells.now) c.args.listed.now c.loop-word.word c.args.kept.now.items c.loop-word.kept.items c.keep.new.kept.items c.loop-word.invariant c.in_ok-keep.ensures

pub returns : goal.returns
returns c =
    let all : c.loop-word.word ≡ 32 = omega arith in
    subst (λ n. KeepsMore (map cell_of c.args.cells.now) c.args.listed.now (λ x. (j : ℕ) × (j < n) × (x ≡ Word j)) n c.args.kept.now.items c.loop-word.kept.items) all c.loop-word.invariant
