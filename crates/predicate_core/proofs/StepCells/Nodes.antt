-- From what is known of each sort of instruction to the code of a node.
use Rattle.std.proofs.Common.{◌≡◌, ℕ, ◌<◌, Bool, true, false, Option, Some, None, Result, Ok, Err, List, [], ◌∷◌, ◌++◌, length, refl, sym, ◌∙◌, ap, subst}
use Rattle.std.specs.Prelude.{OnOk, map as map_list}
use Rattle.xdp_machine.specs.bpf_isa.declared.operation.Op.{Op}
use Rattle.xdp_machine.specs.bpf_isa.declared.operation.Op.TheVariants.{Ja, Jump, Exit}
use Rattle.xdp_machine.specs.bpf_isa.declared.instruction.Insn.{Insn}
use Rattle.xdp_machine.specs.xdp_maps.declared.decl.MapDecl.{MapDecl}
use Rattle.kind_core.specs.declared.kind.Kinds.{Kinds}
use Rattle.xdp_state.specs.declared.refusal.Why.{Why}
use Rattle.kind_core.specs.Kinds.{register}
use Rattle.kind_core.specs.Tests.{◌>>=◌, passed, number_in}
use Rattle.kind_core.specs.Profile.{profiled}
use Rattle.kind_core.specs.Effects.{effect_of, effect_as, verdict, jump}
use Rattle.kind_core.specs.Edges.{changed_if, transferred}
use Rattle.cell_core.specs.Cells.{CellView}
use Rattle.cell_core.specs.Sites.{SiteView}
use Rattle.operator_cells.specs.declared.held_cells.machine_cells.RegisterCells.{RegisterCells}
use Rattle.operator_cells.specs.declared.held_cells.way.Way.{Way}
use Rattle.operator_cells.specs.declared.held_cells.way.Exit.{Exit as End}
use Rattle.operator_cells.specs.HeldCells.RegisterCells.{PointerView, AreInside}
use Rattle.operator_cells.specs.HeldCells.Carrying.{Carries}
use Rattle.operator_cells.specs.HeldCells.Operating.{Operates}
use Rattle.edge_cells.specs.declared.joining.Here.{Here}
use Rattle.register_cells.specs.Plain.{is_plain}
use Rattle.edge_cells.specs.NodeCells.Carrying.{CarriesOperate}
use Rattle.edge_cells.specs.NodeCells.Ends.{leads_on, brought, brought_along, all_brought}
use Rattle.edge_cells.specs.NodeCells.Stepping.{JumpSteps, EdgeSteps, StepsOn}
use Rattle.predicate_core.specs.StepCells.Stepping.{NodeSteps}
use Rattle.predicate_core.proofs.StepCells.Chosen.{plain_untouched}

pub on_ok : {A B : Type 0} (r : Result A B) (P Q : Type 0) → (P → Q) → OnOk r P → OnOk r Q
on_ok (Ok a) P Q f h = f h
on_ok (Err b) P Q f h = tt

-- the cells of an instruction that operates on no map
pub plain_operates : {A B : Type 0} (r : Result A B) → CarriesOperate → (decls : List MapDecl) (ps qs : List PointerView) (i : Insn) (node guard : ℕ) (is_ref : Bool) (k : Kinds) (h next : RegisterCells) (old new : List CellView) (sites : List SiteView)
    → qs ≡ ps → is_plain k i ≡ true → verdict (effect_of decls k i) ≡ passed → AreInside decls (length old) ps h k
    → (verdict (effect_of decls k i) ≡ passed → AreInside decls (length old) qs h k → OnOk r (Carries decls qs i node is_ref false k h next old new))
    → OnOk r (Operates decls i node guard is_ref false k h next old new ps ps sites sites)
plain_operates r operate decls ps qs i node guard is_ref k h next old new sites same plain allowed inside carries =
    on_ok r (Carries decls ps i node is_ref false k h next old new) _ (operate decls ps i node guard is_ref false k h next old new sites (plain_untouched k i i.op plain) allowed)
    (subst (λ (xs : List PointerView). OnOk r (Carries decls xs i node is_ref false k h next old new)) same (carries allowed (subst (λ (xs : List PointerView). AreInside decls (length old) xs h k) (sym same) inside)))

-- ---- what a jump leaves does not rest on whether its place is a reference to a map

same_behind : {A : Type 0} (node : ℕ) (a b taken : Bool) (k : Kinds) (r : Result A Why) (f : A → _) → ((x : A) → changed_if node a taken k (f x) ≡ changed_if node b taken k (f x))
    → changed_if node a taken k (r >>= f) ≡ changed_if node b taken k (r >>= f)
same_behind node a b taken k (Ok x) f same = same x
same_behind node a b taken k (Err y) f same = refl

same_as : (decls : List MapDecl) (k : Kinds) (i : Insn) (node : ℕ) (a b taken : Bool) (op : Op) → leads_on op ≡ false → changed_if node a taken k (effect_as decls k i op) ≡ changed_if node b taken k (effect_as decls k i op)
same_as decls k i node a b taken (Ja w) e = refl
same_as decls k i node a b taken (Jump w c s) e = same_behind node a b taken k (jump k i w c s) _ (λ x. refl)
same_as decls k i node a b taken Exit e = same_behind node a b taken k (number_in (register k 0)) _ (λ n. refl)
same_as decls k i node a b taken op e = absurd (cc e)

unreferred : (decls : List MapDecl) (k : Kinds) (i : Insn) (node : ℕ) (a b taken : Bool) → leads_on i.op ≡ false → transferred decls k i node a taken ≡ transferred decls k i node b taken
unfolding effect_of
unreferred decls k i node a b taken e = same_behind node a b taken k (profiled i k) _ (λ u. same_as decls k i node a b taken i.op e)

along_same : (decls : List MapDecl) (node : ℕ) (k : Kinds) (i : Insn) (a b taken : Bool) (o : Option ℕ) → leads_on i.op ≡ false → brought_along decls node k i a taken o ≡ brought_along decls node k i b taken o
along_same decls node k i a b taken None e = refl
along_same decls node k i a b taken (Some to) e = ap (λ (x : Kinds). (to, x) ∷ []) (unreferred decls k i node a b taken e)

all_same : (decls : List MapDecl) (node : ℕ) (k : Kinds) (i : Insn) (a b : Bool) (next jump : Option ℕ) → leads_on i.op ≡ false → all_brought decls node k i a next jump ≡ all_brought decls node k i b next jump
all_same decls node k i a b next jump e =
    ap (λ (xs : List (ℕ × Kinds)). xs ++ brought_along decls node k i a true jump) (along_same decls node k i a b false next e)
    ∙ ap (λ (xs : List (ℕ × Kinds)). brought_along decls node k i b false next ++ xs) (along_same decls node k i a b true jump e)

-- the edges of a jump bring the same, whatever its place is
pub jump_brings : (decls : List MapDecl) (node : ℕ) (k : Kinds) (i : Insn) (op : Op) (is_ref : Bool) (next jump : Option ℕ) (ways ways2 : List Way) → i.op ≡ op → leads_on op ≡ false
    → map_list brought ways2 ≡ map_list brought ways ++ all_brought decls node k i false next jump → map_list brought ways2 ≡ map_list brought ways ++ all_brought decls node k i is_ref next jump
jump_brings decls node k i op is_ref next jump ways ways2 is e h =
    h ∙ ap (λ (xs : List (ℕ × Kinds)). map_list brought ways ++ xs) (all_same decls node k i false is_ref next jump (subst (λ (o : Op). leads_on o ≡ false) (sym is) e))

-- ---- by the sort of the instruction

pub jump_node : (decls : List MapDecl) (node : ℕ) (k : Kinds) (here : Here) (i : Insn) (is_ref : Bool) (next jump : Option ℕ) (cells cells2 : List CellView) (ps qs : List PointerView) (sites : List SiteView) (ways ways2 : List Way) (exits : List End)
    → qs ≡ ps → JumpSteps decls node k here i next jump cells cells2 qs ways ways2
    → NodeSteps decls node k here i is_ref next jump (record { cells = cells; pointers = ps; sites = sites; ways = ways; exits = exits }) (record { cells = cells2; pointers = ps; sites = sites; ways = ways2; exits = exits })
jump_node decls node k here i is_ref next jump cells cells2 ps qs sites ways ways2 exits same s g d is ends ref made =
    subst (λ (xs : List PointerView). JumpSteps decls node k here i next jump cells cells2 xs ways ways2) same s g sites exits d is ends.next_is ends.jump_is made

pub away_node : (decls : List MapDecl) (node : ℕ) (k : Kinds) (here : Here) (i : Insn) (is_ref : Bool) (to : ℕ) (cells cells2 : List CellView) (ps qs : List PointerView) (sites : List SiteView) (ways ways2 : List Way) (exits : List End)
    → qs ≡ ps → EdgeSteps decls node k here i true to cells cells2 qs ways ways2
    → NodeSteps decls node k here i is_ref None (Some to) (record { cells = cells; pointers = ps; sites = sites; ways = ways; exits = exits }) (record { cells = cells2; pointers = ps; sites = sites; ways = ways2; exits = exits })
away_node decls node k here i is_ref to cells cells2 ps qs sites ways ways2 exits same s g d is ends ref made =
    subst (λ (xs : List PointerView). EdgeSteps decls node k here i true to cells cells2 xs ways ways2) same s g sites exits d is ends.jump_is made

pub along_node : (decls : List MapDecl) (node : ℕ) (k : Kinds) (here : Here) (i : Insn) (is_ref : Bool) (to : ℕ) (next : RegisterCells) (cells cells2 : List CellView) (ps qs : List PointerView) (sites sites2 : List SiteView) (ways mid ways2 : List Way) (exits exits2 : List End)
    → mid ≡ ways → exits2 ≡ exits → leads_on i.op ≡ true → here.guard < length cells → Operates decls i node here.guard is_ref false k here.held next cells cells2 ps qs sites sites2
    → StepsOn decls node k i is_ref here.guard next to mid ways2
    → NodeSteps decls node k here i is_ref (Some to) None (record { cells = cells; pointers = ps; sites = sites; ways = ways; exits = exits }) (record { cells = cells2; pointers = qs; sites = sites2; ways = ways2; exits = exits2 })
along_node decls node k here i is_ref to next cells cells2 ps qs sites sites2 ways mid ways2 exits exits2 same none leads there o s g d is ends ref made =
    rw none (subst (λ (xs : List Way). StepsOn decls node k i is_ref here.guard next to xs ways2) same s g here.held cells cells2 ps qs sites sites2 exits d is leads ref ends.next_is there
    (subst (λ (ds : List MapDecl). Operates ds i node here.guard is_ref false k here.held next cells cells2 ps qs sites sites2) (sym d) o) made)
