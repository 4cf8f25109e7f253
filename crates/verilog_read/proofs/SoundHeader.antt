-- What is read as the header of a design is spelled so.
use Rattle.std.proofs.Common.{◌≡◌, ℕ, zero, suc, ◌+◌, Bool, true, false, Ok, List, [], ◌∷◌, ◌++◌, length, get_or, refl, sym, ap, ◌∙◌, append_assoc, arith, length-append}
use Rattle.std.specs.Prelude.{if◌then◌else◌, codes}
use Rattle.std.proofs.Math.Seq.{get_or-append_seam}
use Rattle.net_core.specs.declared.design.Port.{Port}
use Rattle.net_core.specs.Nets.{Netlist}
use Rattle.verilog_lex.specs.declared.token.Keyword.TheVariants as keyword
use Rattle.verilog_lex.specs.declared.token.Symbol.TheVariants as symbol
use Rattle.verilog_lex.specs.Lexeme.{Lexeme, LName, LKeyword, LSymbol}
use Rattle.verilog_expression.specs.verilog_write.VerilogGrammar.Grammar.{range_lexemes, port_lexemes, text_at, ports_lexemes}
use Rattle.verilog_expression.specs.Reads.{Read}
use Rattle.verilog_expression.specs.Lexemes.{lexeme_at, behind}
use Rattle.verilog_expression.proofs.LexemeLaws.{bind_ok, same_ok, ok_so, lexeme_takes, behind_takes}
use Rattle.verilog_read.specs.Header.{range_at, fresh_at, direction_at, with_port, port_at, more_ports_at, ports_at, no_design, header_at}
use Rattle.verilog_read.proofs.SoundWords.{range_takes, fresh_takes}

-- ---- a port
record IsPortFound (d : Netlist) (ts : List Lexeme) (x : Netlist × List Lexeme) : Type 0 where
  name : List ℕ
  port : Port
  made : with_port name port d ≡ x.0
  text : ts ≡ port_lexemes name port ++ x.1

abbrev direction : Bool → Lexeme
direction output = LKeyword (if output then keyword.Output else keyword.Input)

direction_takes : (ts : List Lexeme) (x : Bool × List Lexeme) → direction_at ts ≡ Ok x → ts ≡ direction x.0 ∷ x.1
direction_takes (LKeyword keyword.Input ∷ ts) x e = ap (λ (p : Bool × List Lexeme). direction p.0 ∷ p.1) (same_ok (false, ts) x e)
direction_takes (LKeyword keyword.Output ∷ ts) x e = ap (λ (p : Bool × List Lexeme). direction p.0 ∷ p.1) (same_ok (true, ts) x e)
direction_takes ts x e = absurd cc

port_text : (o wire s : Lexeme) (w ts t1 t2 t3 t4 : List Lexeme) → ts ≡ o ∷ t1 → t1 ≡ wire ∷ t2 → t2 ≡ w ++ t3 → t3 ≡ s ∷ t4 → ts ≡ (o ∷ wire ∷ (w ++ s ∷ [])) ++ t4
port_text o wire s w ts t1 t2 t3 t4 p q r u = rw (p, q, r, u) (simp append_assoc)

port_found : (d : Netlist) (ts : List Lexeme) (x : Netlist × List Lexeme) → port_at d ts ≡ Ok x → IsPortFound d ts x
unfolding port_at
port_found d ts x e =
    let o = bind_ok (direction_at ts) _ x e in
    let a = bind_ok (lexeme_at (LKeyword keyword.Wire) o.0.1) _ x o.2 in
    let w = bind_ok (range_at a.0) _ x a.2 in
    let s = bind_ok (fresh_at d w.0.1) _ x w.2 in
    let p : Port = record { output = o.0.0; width = w.0.0 } in
    ok_so (IsPortFound d ts) (with_port s.0.0 p d, s.0.1) x s.2
    (record {
      name = s.0.0;
      port = p;
      made = refl;
      text = port_text (direction o.0.0) (LKeyword keyword.Wire) (LName s.0.0) (range_lexemes w.0.0) ts o.0.1 a.0 w.0.1 s.0.1
          (direction_takes ts o.0 o.1) (lexeme_takes (LKeyword keyword.Wire) o.0.1 a.0 a.1) (range_takes a.0 w.0 w.1).text (fresh_takes d w.0.1 s.0 s.1).text;
    })

-- ---- the names of the finished design
-- its names begin with those so far
pub record IsBegun (e d : Netlist) : Type 0 where
  pub more : List (List ℕ)
  pub names : e.names ≡ d.names ++ more

-- the same without the last name, which stands at its place
pub begun_before : (e : Netlist) (names more : List (List ℕ)) (s : List ℕ) → e.names ≡ (names ++ s ∷ []) ++ more → e.names ≡ names ++ s ∷ more
begun_before e names more s h = h ∙ append_assoc names (s ∷ []) more

pub placed : (e : Netlist) (names more : List (List ℕ)) (s : List ℕ) → e.names ≡ names ++ s ∷ more → text_at e (length names) ≡ s
placed e names more s h = ap (λ (l : List (List ℕ)). get_or l (length names) []) h ∙ get_or-append_seam names s more []

pub one_more : {A : Type 0} (xs : List A) (y : A) → length (xs ++ y ∷ []) ≡ suc (length xs)
one_more xs y = omega (arith, length-append xs (y ∷ []))

-- the text so far, and one more
pub grown : (all before own read ts r : List Lexeme) → all ≡ before ++ own → own ≡ read → ts ≡ read ++ r → before ++ ts ≡ all ++ r
grown all before own read ts r p q u = rw (p, q, u) (simp append_assoc)

-- ---- the ports
-- while ports are read
pub record HasPorts (d : Netlist) : Type 0 where
  pub names : length d.names ≡ length d.ports
  pub declared : d.declared ≡ []
  pub wires : d.wires ≡ []
  pub assigns : d.assigns ≡ []
  pub always : d.always ≡ []

-- ports that others follow
abbrev ports_before : Netlist → ℕ → List Port → List Lexeme
ports_before e at [] = []
ports_before e at (p ∷ ps) = port_lexemes (text_at e at) p ++ LSymbol symbol.Comma ∷ ports_before e (suc at) ps

before_port : (e : Netlist) (at k : ℕ) (ps : List Port) (p : Port) → k ≡ at + length ps → ports_before e at (ps ++ p ∷ []) ≡ ports_before e at ps ++ (port_lexemes (text_at e k) p ++ LSymbol symbol.Comma ∷ [])
before_port e at k [] p h = let i : at ≡ k = omega arith in ap (λ (n : ℕ). port_lexemes (text_at e n) p ++ LSymbol symbol.Comma ∷ []) i
before_port e at k (q ∷ ps) p h =
    ap (λ (l : List Lexeme). port_lexemes (text_at e at) q ++ LSymbol symbol.Comma ∷ l) (before_port e (suc at) k ps p (omega arith))
    ∙ sym (append_assoc (port_lexemes (text_at e at) q) (LSymbol symbol.Comma ∷ ports_before e (suc at) ps) (port_lexemes (text_at e k) p ++ LSymbol symbol.Comma ∷ []))

last_port : (e : Netlist) (at k : ℕ) (ps : List Port) (p : Port) → k ≡ at + length ps → ports_lexemes e at (ps ++ p ∷ []) ≡ ports_before e at ps ++ port_lexemes (text_at e k) p
last_port e at k [] p h = let i : at ≡ k = omega arith in ap (λ (n : ℕ). port_lexemes (text_at e n) p) i
last_port e at k (q ∷ []) p h =
    ap (λ (l : List Lexeme). port_lexemes (text_at e at) q ++ LSymbol symbol.Comma ∷ l) (last_port e (suc at) k [] p (omega arith))
    ∙ sym (append_assoc (port_lexemes (text_at e at) q) (LSymbol symbol.Comma ∷ []) (port_lexemes (text_at e k) p))
last_port e at k (q ∷ q' ∷ ps) p h =
    ap (λ (l : List Lexeme). port_lexemes (text_at e at) q ++ LSymbol symbol.Comma ∷ l) (last_port e (suc at) k (q' ∷ ps) p (omega arith))
    ∙ sym (append_assoc (port_lexemes (text_at e at) q) (LSymbol symbol.Comma ∷ ports_before e (suc at) (q' ∷ ps)) (port_lexemes (text_at e k) p))

-- what is read up to the end of the list, in a finished design e
record IsPortsFound (e d : Netlist) (ts : List Lexeme) (x : Netlist × List Lexeme) : Type 0 where
  counted : HasPorts d → HasPorts x.0
  begun : IsBegun e x.0 → IsBegun e d
  spelled : HasPorts d → IsBegun e x.0 → ports_before e 0 d.ports ++ ts ≡ ports_lexemes e 0 x.0.ports ++ x.1

-- a port and the comma after it
then_comma : (own ts t1 r : List Lexeme) → ts ≡ own ++ t1 → t1 ≡ LSymbol symbol.Comma ∷ r → ts ≡ (own ++ LSymbol symbol.Comma ∷ []) ++ r
then_comma own ts t1 r p q = rw (p, q) (simp append_assoc)

-- one port more
module _ (e d : Netlist) (s : List ℕ) (p : Port) (ts t1 : List Lexeme) (text : ts ≡ port_lexemes s p ++ t1) where
  has_one_more : HasPorts d → HasPorts (with_port s p d)
  has_one_more c = record { names = omega (arith, one_more d.names s, one_more d.ports p, c.names); declared = c.declared; wires = c.wires; assigns = c.assigns; always = c.always }

  without_last : IsBegun e (with_port s p d) → IsBegun e d
  without_last b = record { more = s ∷ b.more; names = begun_before e d.names b.more s b.names }

  last_named : IsBegun e (with_port s p d) → text_at e (length d.names) ≡ s
  last_named b = placed e d.names b.more s (begun_before e d.names b.more s b.names)

  last_found : IsPortsFound e d ts (with_port s p d, t1)
  last_found = record {
    counted = has_one_more;
    begun = without_last;
    spelled = λ c b. grown (ports_lexemes e 0 (d.ports ++ p ∷ [])) (ports_before e 0 d.ports) (port_lexemes (text_at e (length d.names)) p) (port_lexemes s p) ts t1
        (last_port e 0 (length d.names) d.ports p (omega (arith, c.names)))
        (ap (λ (n : List ℕ). port_lexemes n p) (last_named b))
        text;
  }

  next_found : (r : List Lexeme) (x : Netlist × List Lexeme) → t1 ≡ LSymbol symbol.Comma ∷ r → IsPortsFound e (with_port s p d) r x → IsPortsFound e d ts x
  next_found r x k f = record {
    counted = λ c. f.counted (has_one_more c);
    begun = λ b. without_last (f.begun b);
    spelled = λ c b.
        grown (ports_before e 0 (d.ports ++ p ∷ [])) (ports_before e 0 d.ports) (port_lexemes (text_at e (length d.names)) p ++ LSymbol symbol.Comma ∷ []) (port_lexemes s p ++ LSymbol symbol.Comma ∷ []) ts r
        (before_port e 0 (length d.names) d.ports p (omega (arith, c.names)))
        (ap (λ (n : List ℕ). port_lexemes n p ++ LSymbol symbol.Comma ∷ []) (last_named (f.begun b)))
        (then_comma (port_lexemes s p) ts t1 r text k)
        ∙ f.spelled (has_one_more c) b;
  }

more_found : (e : Netlist) (ports : Netlist → List Lexeme → Read Netlist) → ((d : Netlist) (ts : List Lexeme) (x : Netlist × List Lexeme) → ports d ts ≡ Ok x → IsPortsFound e d ts x)
    → (d : Netlist) (s : List ℕ) (p : Port) (ts t1 : List Lexeme) (x : Netlist × List Lexeme) → ts ≡ port_lexemes s p ++ t1 → more_ports_at ports (with_port s p d) t1 ≡ Ok x → IsPortsFound e d ts x
unfolding more_ports_at
more_found e ports many d s p ts (LSymbol symbol.Comma ∷ t1) x text h = next_found e d s p ts (LSymbol symbol.Comma ∷ t1) text t1 x refl (many (with_port s p d) t1 x h)
more_found e ports many d s p ts t1 x text h = ok_so (IsPortsFound e d ts) (with_port s p d, t1) x h (last_found e d s p ts t1 text)

ports_found : (e : Netlist) (n : ℕ) (d : Netlist) (ts : List Lexeme) (x : Netlist × List Lexeme) → ports_at n d ts ≡ Ok x → IsPortsFound e d ts x
unfolding ports_at
ports_found e zero d ts x h = absurd cc
ports_found e (suc n) d ts x h =
    let p = bind_ok (port_at d ts) _ x h in
    let f = port_found d ts p.0 p.1 in
    more_found e (ports_at n) (ports_found e n) d f.name f.port ts p.0.1 x f.text (ap (λ (q : Netlist). more_ports_at (ports_at n) q p.0.1) f.made ∙ p.2)

-- ---- the header, in each finished design whose names begin with those of the ports
abbrev header_prefix : List Lexeme
header_prefix = LKeyword keyword.Module ∷ LName (codes "ehdl") ∷ LSymbol symbol.OpenParenthesis ∷ []

abbrev header_end : List Lexeme
header_end = LSymbol symbol.CloseParenthesis ∷ LSymbol symbol.Semicolon ∷ []

pub record IsHeaderFound (ts : List Lexeme) (x : Netlist × List Lexeme) : Type 0 where
  pub counted : HasPorts x.0
  pub text : (e : Netlist) → IsBegun e x.0 → ts ≡ LKeyword keyword.Module ∷ LName (codes "ehdl") ∷ LSymbol symbol.OpenParenthesis ∷ (ports_lexemes e 0 x.0.ports ++ LSymbol symbol.CloseParenthesis ∷ LSymbol symbol.Semicolon ∷ x.1)

header_text : (ports ts t1 t2 r : List Lexeme) → ts ≡ header_prefix ++ t1 → t1 ≡ ports ++ t2 → t2 ≡ header_end ++ r → ts ≡ header_prefix ++ (ports ++ (header_end ++ r))
header_text ports ts t1 t2 r p q u = p ∙ ap (λ (l : List Lexeme). header_prefix ++ l) (q ∙ ap (λ (l : List Lexeme). ports ++ l) u)

no_ports : HasPorts no_design
no_ports = record { names = refl; declared = refl; wires = refl; assigns = refl; always = refl }

pub header_found : (ts : List Lexeme) (x : Netlist × List Lexeme) → header_at ts ≡ Ok x → IsHeaderFound ts x
unfolding header_at
header_found ts x h =
    let a = bind_ok (behind header_prefix ts) _ x h in
    let p = bind_ok (ports_at (length a.0) no_design a.0) _ x a.2 in
    let r = bind_ok (behind header_end p.0.1) _ x p.2 in
    ok_so (IsHeaderFound ts) (p.0.0, r.0) x r.2
    (record {
      counted = (ports_found p.0.0 (length a.0) no_design a.0 p.0 p.1).counted no_ports;
      text = λ e b. header_text (ports_lexemes e 0 p.0.0.ports) ts a.0 p.0.1 r.0 (behind_takes header_prefix ts a.0 a.1) ((ports_found e (length a.0) no_design a.0 p.0 p.1).spelled no_ports b) (behind_takes header_end p.0.1 r.0 r.1);
    })
