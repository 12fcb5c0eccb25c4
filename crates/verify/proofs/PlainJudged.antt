-- `judged` finds no fault in a plain program: each register that is read is known to hold a number.
use Rattle.std.proofs.Common.{◌≡◌, ◌∙◌, ℕ, zero, suc, ◌<◌, List, [], ◌∷◌, length, arith, refl, sym, ap, subst, false, Option, Some, None, Result, Ok, ⊎_elim, length-set}
use Rattle.std.specs.Prelude.{ℤ, pos, replicate, slice_set, IfSome}
use Rattle.std.specs.List.{AllByRecursion}
use Rattle.std.proofs.lemmas.List.{length-replicate}
use Rattle.insn.specs.declared.insn.Insn.{Insn}
use Rattle.insn.specs.Insn.{IsInsn}
use Rattle.insn.specs.Program.{slots_of, instruction_at}
use Rattle.insn.proofs.WellLemmas.{found_well}
use Rattle.semantics.specs.Plain.{IsIn, IsPlain, Unwritten, at_entry, along as goes_along, leads_to}
use Rattle.absval.specs.Table.{joined}
use Rattle.absval.specs.Contains.{is_number}
use Rattle.verify.specs.declared.error.VerifyError.{VerifyError}
use Rattle.verify.specs.declared.reason.Reason.{Reason}
use Rattle.verify.specs.declared.state.AbsState.{AbsState}
use Rattle.verify.specs.Registers.{known_at, joined_all}
use Rattle.verify.specs.Knowledge.{met}
use Rattle.verify.specs.Knowledge.{at_entry as entry}
use Rattle.verify.specs.Transfer.{Edge, edges}
use Rattle.verify.specs.Judgement.{KnownSoFar, reached_at, joined_with, along, along_all, settled, passed_at, passed_on, passed_to, first_of, judged}
use Rattle.verify.proofs.Edges.{start_inside}
use Rattle.verify.proofs.PlainWalk.{structure_of_plain}
use Rattle.absmem.proofs.TableLaws.{length-table, table_at}
use Rattle.verify.proofs.Taken.{taken_some}
use Rattle.verify.proofs.Zips.{at_set}
use Rattle.verify.proofs.KnownNumbers.{number_at, true_or_not}
use Rattle.absval.proofs.NumberRows.{joined_numbers}
use Rattle.verify.proofs.PlainEdges.{EdgesFine}
use Rattle.verify.proofs.PlainRuns.{instruction_runs}
use Rattle.absval.specs.declared.value.AbsVal.TheVariants.{Unset}
use Rattle.absval.specs.declared.value.AbsVal.{AbsVal}

-- A register that is not known to hold a number at a unit is unwritten on some path there.
record FineAt (program : List Insn) (unit : ℕ) (a : AbsState) : Type 0 where
  size : length a.registers ≡ 11
  blank : (r : ℕ) → r < 11 → number_at a.registers r ≡ false → Unwritten program r unit

record Fine (program : List Insn) (reached : KnownSoFar) : Type 0 where
  count : length reached ≡ length (slots_of program)
  each : (v : ℕ) (a : AbsState) → reached_at reached v ≡ Some a → FineAt program v a

met_fine : (program : List Insn) (unit : ℕ) (a b : AbsState) → FineAt program unit a → FineAt program unit b → FineAt program unit (met a b)
met_fine program unit a b h k =
    let both = joined_all a.registers b.registers in
    record {
      size = length-table 11 (λ r. joined (known_at a.registers r) (known_at b.registers r));
      blank = λ r low none.
          let here : known_at both r ≡ joined (known_at a.registers r) (known_at b.registers r) =
          table_at 11 (λ n. joined (known_at a.registers n) (known_at b.registers n)) r Unset low in
          ⊎_elim (λ e. h.blank r low e) (λ e. k.blank r low e)
          (joined_numbers (known_at a.registers r) (known_at b.registers r) (subst (λ (e : AbsVal). is_number e ≡ false) here none));
    }

joined_fine : (program : List Insn) (unit : ℕ) (o : Option AbsState) (a : AbsState) → IfSome o (λ b. FineAt program unit b) → FineAt program unit a → FineAt program unit (joined_with o a)
joined_fine program unit None a h k = k
joined_fine program unit (Some b) a h k = met_fine program unit a b k h

before_fine : (program : List Insn) (reached : KnownSoFar) (unit : ℕ) → Fine program reached → IfSome (reached_at reached unit) (λ b. FineAt program unit b)
before_fine program reached unit fine = by_known (reached_at reached unit) refl
  where
    by_known : (o : Option AbsState) → reached_at reached unit ≡ o → IfSome o (λ b. FineAt program unit b)
    by_known None e = tt
    by_known (Some b) e = fine.each unit b e

along_fine : (program : List Insn) (reached : KnownSoFar) (to : ℕ) (a : AbsState) → to < length (slots_of program) → Fine program reached → FineAt program to a → Fine program (along (pos to, a) reached)
along_fine program reached to a lt fine here = record {
  count = length-set reached to _ ∙ fine.count;
  each = λ v b. at_set (λ (o : Option AbsState). o ≡ Some b → FineAt program v b) reached to v (Some (joined_with (reached_at reached to) a)) None (omega (arith, fine.count))
      (λ same e.
      let new : joined_with (reached_at reached to) a ≡ b = cc in
      subst (λ (n : ℕ). FineAt program n b) (sym same) (subst (λ (c : AbsState). FineAt program to c) new (joined_fine program to (reached_at reached to) a (before_fine program reached to fine) here)))
      (λ other e. fine.each v b e);
}

edges_walk : (program : List Insn) (i : Insn) (unit : ℕ) (known : List AbsVal) (es : List Edge) (reached : KnownSoFar) → IsPlain program → instruction_at program unit ≡ Some i →
    ((r : ℕ) → r < 11 → number_at known r ≡ false → Unwritten program r unit) → EdgesFine i unit known es → Fine program reached → Fine program (along_all es reached)
edges_walk program i unit known [] reached plain at here h fine = fine
edges_walk program i unit known (e ∷ es) reached plain at here h fine =
    let start = (plain.forward unit i e.0 at h.0.edge).1 in
    let next : Fine program (along (pos start.0, e.1) reached) =
    along_fine program reached start.0 e.1 (start_inside program start.0 start.2) fine (record {
      size = h.0.size;
      blank = λ r low none.
          let old = h.0.blank r low none in
          goes_along i start.0 (here r low old.1) at old.0 (subst (λ (z : ℤ). IsIn z (leads_to i unit)) start.1 h.0.edge);
    }) in
    edges_walk program i unit known es (along e reached) plain at here h.1 (subst (λ (z : ℤ). Fine program (along (z, e.1) reached)) (sym start.1) next)

taken_fine : (program : List Insn) (reached : KnownSoFar) (unit : ℕ) → Fine program reached → Fine program (slice_set reached unit None)
taken_fine program reached unit fine = record {
  count = length-set reached unit None ∙ fine.count;
  each = λ v a e. fine.each v a (taken_some reached unit v a e);
}

abbrev Passed : List Insn → Result KnownSoFar VerifyError → Type 0
Passed program answer = (next : KnownSoFar) × (answer ≡ Ok next) × Fine program next

unit_passed : (program : List Insn) (unit : ℕ) (o : Option Insn) (k : Option AbsState) (reached : KnownSoFar) → IsPlain program → AllByRecursion IsInsn program → Fine program reached →
    instruction_at program unit ≡ o → IfSome k (λ a. FineAt program unit a) → Passed program (passed_at unit o k reached)
unit_passed program unit None k reached plain well fine at here = (reached, refl, fine)
unit_passed program unit (Some i) None reached plain well fine at here = (reached, refl, fine)
unit_passed program unit (Some i) (Some a) reached plain well fine at here =
    let runs = instruction_runs i unit a (plain.numbers unit i at) (plain.frame_kept unit i at) (found_well program unit (Some i) well (sym at))
    (λ r low read. true_or_not (number_at a.registers r) (λ none. plain.written_before unit r i at read (here.blank r low none))) here.size in (
      along_all (edges i unit a) (slice_set reached unit None),
      ap (λ (o : Option Reason). settled o unit (along_all (edges i unit a) (slice_set reached unit None))) runs.0,
      edges_walk program i unit a.registers (edges i unit a) (slice_set reached unit None) plain at here.blank runs.1 (taken_fine program reached unit fine),
    )

nothing_at : (n v : ℕ) → reached_at (replicate n None) v ≡ None
nothing_at zero v = refl
nothing_at (suc n) zero = refl
nothing_at (suc n) (suc v) = nothing_at n v

plain_some : (program : List Insn) → IsPlain program → 0 < length (slots_of program)
plain_some [] plain = absurd plain.exit_last
plain_some (i ∷ is) plain = omega arith

entry_fine : (program : List Insn) → FineAt program 0 entry
entry_fine program = record { size = refl; blank = λ r low none. at_entry }

plain_passed : (program : List Insn) → IsPlain program → AllByRecursion IsInsn program → 0 < length (slots_of program) → (unit : ℕ) → Passed program (passed_to program unit)
unfolding passed_to
plain_passed program plain well some zero =
    let units = length (slots_of program) in (
      along (pos 0, entry) (replicate units None),
      refl,
      along_fine program (replicate units None) 0 entry some
          (record { count = length-replicate units None; each = λ v a e. absurd (let none = nothing_at units v in cc) }) (entry_fine program),
    )
plain_passed program plain well some (suc unit) =
    let before = plain_passed program plain well some unit in
    let step = unit_passed program unit (instruction_at program unit) (reached_at before.0 unit) before.0 plain well before.2 refl (before_fine program before.0 unit before.2) in
    (step.0, ap (passed_on program unit) before.1 ∙ step.1, step.2)

-- `judged` finds no fault in a plain program.
pub plain_judged : (program : List Insn) → AllByRecursion IsInsn program → IsPlain program → judged program ≡ None
unfolding judged
plain_judged program well plain =
    let last = plain_passed program plain well (plain_some program plain) (length (slots_of program)) in
    ap (λ (o : Option VerifyError). first_of o (passed_to program (length (slots_of program)))) (structure_of_plain program plain) ∙ ap (first_of None) last.1
