use Rattle.std.proofs.Common.{◌≤◌, get_or, arith}
use Rattle.overlay_net.specs.SiteOperands.Sites.{operands_of}
use Rattle.pipe_net.specs.Layout.{last_of}
use Rattle.pipe_parts.proofs.PipeDraft.Laying.{laid, site_of_tables, commits_up}
use Rattle.pipe_parts.proofs.pipe_draft.laws.pipeline_planned_are_laid.Goals as goal

pub returns-clause-laid : goal.returns-clause-laid
returns-clause-laid c = λ d places l is stand from answered. laid d is places l stand from answered

pub returns-clause-sites : goal.returns-clause-sites
returns-clause-sites c = λ d places l is stand from answered k j b s le lt.
    let up : k ≤ last_of l = omega (arith, le, commits_up d is places l stand from) in
    c.sites_at_places.ensures l (laid d is places l stand from answered) k j (operands_of (get_or (get_or places k b).sites.items j s)) le up lt (site_of_tables d is places l stand from k j b s up lt)
