-- The program can be written.
use Rattle.std.proofs.Common.{◌≡◌, ◌≢◌, ℕ, zero, suc, ◌+◌, ◌<◌, ◌≤◌, [], ◌∷◌, slice_index, arith, refl, rules, lit<, lit≤, IsTrue, codes}
use Rattle.std.proofs.lemmas.List.Elements.{All-cons, All-from_recursion, All-nil}
use Rattle.std.specs.List.{All, AllByRecursion}
use Rattle.bpf_isa.specs.Spelling.{IsInsn}
use Rattle.xdp_object.specs.xdp_maps.declared.decl.MapDecl.{MapDecl}
use Rattle.xdp_object.specs.xdp_maps.declared.decl.MapKind.TheVariants.{Hash}
use Rattle.xdp_object.specs.xdp_machine.Program.{IsDeclaration, IsProgram, IsReference, is_name_byte}
use Rattle.xdp_object.specs.Laws.{AreNumbered, IsWritable}
use Rattle.flow_demo.specs.Program.{demo_insns, demo_program, flow, load_map}

each_is : AllByRecursion IsInsn demo_insns
unfolding demo_insns
each_is = search rules depth 40

pub insns_are : All IsInsn demo_insns
insns_are = All-from_recursion IsInsn demo_insns each_is

flow_is : IsDeclaration flow
flow_is = record {
  limits = record { key_some = lit< tt; key_short = lit≤ tt; value_some = lit< tt; value_short = lit≤ tt; cap_some = lit< tt; by_kind = lit≤ tt };
  name = record { some = lit< tt; short = lit≤ tt; letters = All-from_recursion (λ b. IsTrue (is_name_byte b)) flow.name (search rules) };
}

rising : (k : ℕ) → k + 1 < 2 → slice_index (10 ∷ 16 ∷ []) k < slice_index (10 ∷ 16 ∷ []) (k + 1)
rising zero h = lit< tt
rising (suc k) h = absurd (omega arith)

numbered : AreNumbered demo_program
unfolding demo_program demo_insns
numbered zero h = (0, lit< tt, refl, λ j low. absurd (omega arith))
numbered (suc n) h = absurd (omega arith)

pub program_is : IsProgram demo_program
unfolding demo_program demo_insns
program_is =
    let IsRef : ℕ → Type 0 = IsReference demo_insns 1 in
    record {
      legal = insns_are;
      few = lit< tt;
      maps = lit≤ tt;
      decls = All-cons IsDeclaration flow [] flow_is (All-nil IsDeclaration);
      names = λ i j d low below. absurd (omega arith);
      refs = All-cons IsRef 10 (16 ∷ [])
          (record { insn = load_map 1; begins = refl; load = refl; source = refl; map = lit< tt })
          (All-cons IsRef 16 [] (record { insn = load_map 1; begins = refl; load = refl; source = refl; map = lit< tt }) (All-nil IsRef));
      ascending = rising;
    }

pub program_writable : (hash_cap : ℕ) → flow.cap ≤ hash_cap → IsWritable hash_cap demo_program
unfolding demo_program demo_insns
program_writable hash_cap room =
    let FitsCap : MapDecl → Type 0 = λ d. d.kind ≡ Hash → d.cap ≤ hash_cap in
    record {
      program = program_is;
      name = All-from_recursion (λ b. b ≢ 0) (codes "demo") (search rules);
      some = λ e. cc;
      numbered = numbered;
      hashes = All-cons FitsCap flow [] (λ is. room) (All-nil FitsCap);
    }
