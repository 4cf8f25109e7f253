use Rattle.std.proofs.Common.{◌≡◌, ℕ, ◌+◌, ◌-◌, List, [], ◌∷◌, ◌++◌, length, take, drop, Ok, Err, refl, sym, ap, subst, ◌∙◌, arith, length-drop}
use Rattle.std.proofs.Math.Seq.{take-length}
use Rattle.std.proofs.lemmas.Grind.{common_steps}
use Rattle.verilog_lex.specs.Element.{element_in}
use Rattle.verilog_lex.specs.Lexeme.{lexemes_of}
use Rattle.verilog_lex.specs.Tokens.{Leads, Read, token}
use Rattle.verilog_lex.specs.Tokens.Leads.{here}
use Rattle.verilog_lex.specs.declared.element.LexicalElement.{LexicalElement}
use Rattle.verilog_lex.specs.declared.token.Token.{Token}
use Rattle.verilog_lex.proofs.LeadsLemmas.{AreSpans-leads, Leads-separator, Leads-token, tokens_in-leads, tokens_in-stuck}
use Rattle.verilog_lex.proofs.LexemeLaws.{Lexes-leads, tokens_in-lexes}
use Rattle.verilog_lex.proofs.lex.tokens.Goals as goal

-- the element of `&text[at..]`
element_here : (text : List ℕ) (at : ℕ) (p : LexicalElement) → p ≡ element_in (take (length text - at) (drop at text)) → element_in (drop at text) ≡ p
element_here text at p e =
    let same : take (length text - at) (drop at text) ≡ drop at text =
    ap (λ n. take n (drop at text)) (sym (length-drop at text)) ∙ take-length (drop at text) in
    ap element_in (sym same) ∙ sym e

pub loop-at-init : goal.loop-at-init
loop-at-init c = record {
  leads =
      let P : List Token → Type 0 = λ ts. Leads c.args.text.now 0 ts 0 in
      subst P (sym c.new-all.ensures.items) (here 0);
  within = omega arith;
}

pub loop-at-preserved-in-Separator : goal.loop-at-preserved-in-Separator
loop-at-preserved-in-Separator c = record {
  leads = Leads-separator c.args.text.now 0 c.loop-at.all.items c.loop-at.at c.in-Separator.len c.loop-at.invariant.leads
      (element_here c.args.text.now c.loop-at.at _ c.in-Separator.ensures.element);
  within = grind (arith, common_steps);
}

pub loop-at-preserved : goal.loop-at-preserved
loop-at-preserved c =
    let t : Token = token c.in-Token.kind c.loop-at.at (c.loop-at.at + c.in-Token.len) in
    let pushed : c.push.new.self.items ≡ c.loop-at.all.items ++ t ∷ [] = grind (arith, common_steps) in
    let P : List Token → Type 0 = λ ts. Leads c.args.text.now 0 ts (c.loop-at.at + c.in-Token.len) in
    record {
      leads = subst P (sym pushed) (Leads-token c.args.text.now 0 c.loop-at.all.items c.loop-at.at c.in-Token.len c.in-Token.kind c.loop-at.invariant.leads
          (element_here c.args.text.now c.loop-at.at _ c.in-Token.ensures.element));
      within = grind (arith, common_steps);
    }

pub returns-in-Nothing-clause-exact : goal.returns-in-Nothing-clause-exact
returns-in-Nothing-clause-exact c =
    tokens_in-stuck c.args.text.now c.loop-at.at
    (c.loop-at.all.items, c.loop-at.invariant.leads, c.loop-at-test.true, element_here c.args.text.now c.loop-at.at _ c.in-Nothing.ensures.element)

pub returns-in-Nothing-clause-only : goal.returns-in-Nothing-clause-only
returns-in-Nothing-clause-only c = λ ts leads.
    sym (tokens_in-leads c.args.text.now ts leads) ∙ returns-in-Nothing-clause-exact c

-- at the end of the loop the tokens lead to the end of the text
done : (c : goal.After-loop-at) → Leads c.args.text.now 0 c.loop-at.all.items (length c.args.text.now)
done c =
    let P : ℕ → Type 0 = λ to. Leads c.args.text.now 0 c.loop-at.all.items to in
    let end : c.loop-at.at ≡ length c.args.text.now = omega arith in subst P end c.loop-at.invariant.leads

pub returns-clause-exact : goal.returns-clause-exact
returns-clause-exact c = tokens_in-leads c.args.text.now c.loop-at.all.items (done c)

pub returns-clause-only : goal.returns-clause-only
returns-clause-only c = λ ts leads. sym (tokens_in-leads c.args.text.now ts leads) ∙ returns-clause-exact c

pub returns-clause-spans : goal.returns-clause-spans
returns-clause-spans c = AreSpans-leads c.args.text.now 0 c.loop-at.all.items (length c.args.text.now) (done c)

pub returns-clause-lexes : goal.returns-clause-lexes
returns-clause-lexes c = Lexes-leads c.args.text.now 0 c.loop-at.all.items (length c.args.text.now) (done c) refl

pub returns-clause-spelled : goal.returns-clause-spelled
returns-clause-spelled c = λ ls h.
    let read = tokens_in-lexes c.args.text.now ls h in
    let same : read.0 ≡ c.loop-at.all.items = (let e : (let r : Read = Ok read.0 in r) ≡ Ok c.loop-at.all.items = sym read.1 ∙ returns-clause-exact c in cc) in
    ap (lexemes_of c.args.text.now) (sym same) ∙ read.2

pub returns-in-Nothing-clause-spelled : goal.returns-in-Nothing-clause-spelled
returns-in-Nothing-clause-spelled c = λ ls h.
    let read = tokens_in-lexes c.args.text.now ls h in
    let e : (let r : Read = Ok read.0 in r) ≡ Err c.loop-at.at = sym read.1 ∙ returns-in-Nothing-clause-exact c in cc
