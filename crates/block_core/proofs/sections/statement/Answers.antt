use Rattle.std.proofs.Common.{◌≡◌, ap, ◌∙◌, get_or}
use Rattle.std.proofs.lemmas.Result.{IfOk-weaker}
use Rattle.net_core.specs.declared.tree.Net.{Net}
use Rattle.net_core.specs.declared.tree.Stmt.{Stmt}
use Rattle.net_core.specs.View.{statement_of}
use Rattle.block_core.specs.Rename.{rename_statement}
use Rattle.block_core.specs.View.{resolve_in}
use Rattle.block_core.proofs.sections.statement.Goals as goal

pub returns-clause-linked : goal.returns-clause-linked
returns-clause-linked g c =
    let f = resolve_in g.P.Part.place c.args.starts.now in
    let t = statement_of c.args.placed.now.block.statement in
    let r = c.start-registers.ensures ∙ ap (λ xs. get_or xs (g.P.Part.place c.args.placed.now.part) 0) c.deref.ensures.value in
    let m = c.start-memories.ensures ∙ ap (λ xs. get_or xs (g.P.Part.place c.args.placed.now.part) 0) c.deref-2.ensures.value in
    IfOk-weaker c.link_stmt.result _ _ (λ (x : Stmt Net) (h : statement_of x ≡ rename_statement f c.start-registers.result c.start-memories.result t). h ∙ (λ i. rename_statement f (r i) (m i) t)) c.link_stmt.ensures.linked
