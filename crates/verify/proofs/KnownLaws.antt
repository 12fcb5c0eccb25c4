-- In an accepted program, what is known at a unit describes each state of a run there.
use Rattle.std.proofs.Common.{◌≡◌, ◌∙◌, ℕ, zero, suc, ◌+◌, ◌-◌, ◌<◌, ◌≤◌, List, length, Option, Some, None, Result, Ok, Err, refl, sym, subst, arith}
use Rattle.std.specs.Prelude.{pos, IsSome}
use Rattle.std.specs.List.{AllByRecursion}
use Rattle.std.proofs.lemmas.Int.{ints}
use Rattle.std.proofs.lemmas.List.{length-replicate}
use Rattle.insn.specs.declared.insn.Insn.{Insn}
use Rattle.insn.specs.Insn.{IsInsn}
use Rattle.insn.specs.Program.{slots_of, instruction_at}
use Rattle.semantics.specs.Relay.{IsRelay, IsSetting, Relay}
use Rattle.semantics.specs.State.{State, Outcome, entry}
use Rattle.semantics.specs.Outbox.{empty_outbox}
use Rattle.semantics.specs.Execution.{step, executed}
use Rattle.semantics.specs.Run.{IsContext}
use Rattle.semantics.specs.Reached.{Reached, at_entry as reached_entry, stepped, answered}
use Rattle.semantics.specs.Safety.{LeadsTo}
use Rattle.semantics.specs.Plain.{IsIn, leads_to}
use Rattle.verify.specs.declared.error.VerifyError.{VerifyError}
use Rattle.verify.specs.declared.state.AbsState.{AbsState}
use Rattle.verify.specs.Describes.{IsAsKnown}
use Rattle.verify.specs.Forward.{IsForward}
use Rattle.verify.specs.Structure.{structural_fault}
use Rattle.verify.specs.Knowledge.{at_entry}
use Rattle.verify.specs.Judgement.{KnownSoFar, reached_at, along, passed_on, passed_to, judged}
use Rattle.verify.specs.KnownAtUnits.{known_before}
use Rattle.verify.proofs.Edges.{start_inside}
use Rattle.verify.proofs.SafeLaws.{leads_weaker}
use Rattle.verify.proofs.Walk.{forward_of_structure}
use Rattle.verify.proofs.JoinSound.{entry_meant, entry_described}
use Rattle.verify.proofs.EdgesSound.{DescribedBy}
use Rattle.verify.proofs.PassSound.{At, along_takes}
use Rattle.verify.proofs.PassLaws.{stays}
use Rattle.verify.proofs.Surveys.{on_the_pass, before_is}
use Rattle.verify.proofs.JudgedSound.{Passed, unit_passed, step_at, some_is, first_start, empty, nothing_meant, walks, first_none}

module _ (program : List Insn) (forward : IsForward program) (well : AllByRecursion IsInsn program) (some : 0 < length (slots_of program)) (last : KnownSoFar)
    (through : passed_to program (length (slots_of program)) ≡ Ok last) where
  -- The pass reaches each unit.
  came : (unit : ℕ) → unit ≤ length (slots_of program) → (reached : KnownSoFar) × (passed_to program unit ≡ Ok reached)
  came unit le = by_result (passed_to program unit) refl
    where
      by_result : (r : Result KnownSoFar VerifyError) → passed_to program unit ≡ r → (reached : KnownSoFar) × (passed_to program unit ≡ Ok reached)
      by_result (Ok reached) e = (reached, e)
      by_result (Err fault) e = absurd (let stopped = stays program fault unit (length (slots_of program)) le e in cc)

  passes : (unit : ℕ) (old new : KnownSoFar) → passed_to program unit ≡ Ok old → passed_to program (suc unit) ≡ Ok new → Passed program unit old new
  unfolding passed_to
  passes unit old new e f =
      let w = walks program forward well some unit old e in
      let g : passed_on program unit (Ok old) ≡ Ok new = subst (λ (r : Result KnownSoFar VerifyError). passed_on program unit r ≡ Ok new) e f in
      unit_passed program unit (instruction_at program unit) (reached_at old unit) old new forward well w.meant w.count refl refl g

  -- States that are described at later units still are when the pass reaches them.
  carries : (n unit v : ℕ) (s : State) → unit + n ≡ v → v ≤ length (slots_of program) → (old new : KnownSoFar) → passed_to program unit ≡ Ok old → passed_to program v ≡ Ok new → At old v s → At new v s
  carries zero unit v s e le old new f g at =
      let same : unit ≡ v = omega (arith, e) in
      let h : passed_to program v ≡ Ok old = subst (λ (u : ℕ). passed_to program u ≡ Ok old) same f in
      let is : old ≡ new = cc in
      subst (λ (r : KnownSoFar). At r v s) is at
  carries (suc n) unit v s e le old new f g at =
      let lt : unit < v = omega (arith, e) in
      let next = came (suc unit) (omega (arith, lt, le)) in
      carries n (suc unit) v s (omega (arith, e)) le next.0 new next.1 g ((passes unit old next.0 f next.1).keeps v s lt at)

  -- The state is at an instruction, and what is known there describes it.
  record Stands (s : State) : Type 0 where
    inside : IsSome (instruction_at program s.unit)
    known : (reached : KnownSoFar) → passed_to program s.unit ≡ Ok reached → At reached s.unit s

  -- So is each state that may follow.
  follows : (context : List ℕ) (relay : Relay) → IsSetting context relay → (t : State) → Stands t → LeadsTo Stands (step program context relay t)
  follows context relay setting t stands =
      subst (λ (o : Outcome). LeadsTo Stands o) (sym (step_at program context relay t.unit found.0 t found.1 refl))
      (leads_weaker (λ u. IsIn (pos u.unit) (leads_to found.0 t.unit) × At new.0 u.unit u) Stands (executed context relay found.0 t) later
      ((passes t.unit old.0 new.0 old.1 new.1).leads found.0 context relay t setting found.1 refl (stands.known old.0 old.1)))
    where
      found : (i : Insn) × (instruction_at program t.unit ≡ Some i)
      found = some_is (instruction_at program t.unit) stands.inside

      lt : t.unit < length (slots_of program)
      lt = start_inside program t.unit stands.inside

      old : (reached : KnownSoFar) × (passed_to program t.unit ≡ Ok reached)
      old = came t.unit (omega (arith, lt))

      new : (reached : KnownSoFar) × (passed_to program (suc t.unit) ≡ Ok reached)
      new = came (suc t.unit) (omega (arith, lt))

      later : (u : State) → IsIn (pos u.unit) (leads_to found.0 t.unit) × At new.0 u.unit u → Stands u
      later u h =
          let edge = forward.edges t.unit found.0 found.1 (pos u.unit) h.0 in
          let ahead : suc t.unit ≤ u.unit = let z = edge.0 in omega (arith, ints) in
          let same : u.unit ≡ edge.1.0 = let y = edge.1.1 in cc in
          let start : IsSome (instruction_at program u.unit) = subst (λ (v : ℕ). IsSome (instruction_at program v)) (sym same) edge.1.2 in
          let within : u.unit < length (slots_of program) = start_inside program u.unit start in
          let sum : suc t.unit + (u.unit - suc t.unit) ≡ u.unit = omega (arith, ahead) in
          record {
            inside = start;
            known = λ reached e. carries (u.unit - suc t.unit) (suc t.unit) u.unit u sum (omega (arith, within)) new.0 reached new.1 e h.1;
          }

  entry_stands : (relay : Relay) → Stands (entry (empty_outbox relay))
  unfolding passed_to
  entry_stands relay = record {
    inside = first_start program some;
    known = λ reached e.
        let none : Option AbsState = None in
        let room : 0 < length (empty program) = omega (arith, some, length-replicate (length (slots_of program)) none) in
        let same : along (pos 0, at_entry) (empty program) ≡ reached = cc in
        subst (λ (r : KnownSoFar). At r 0 (entry (empty_outbox relay))) same
        (along_takes 0 at_entry (empty program) (entry (empty_outbox relay)) (nothing_meant program) entry_meant room (entry_described (empty_outbox relay)));
  }

  reached_stands : (context : List ℕ) (relay : Relay) → IsSetting context relay → {answers : List (List ℕ)} {s : State} → Reached program context relay answers s → Stands s
  reached_stands context relay setting reached_entry = entry_stands relay
  reached_stands context relay setting (stepped {s = s} next before e) =
      subst (λ (o : Outcome). LeadsTo Stands o) e (follows context relay setting s (reached_stands context relay setting before))
  reached_stands context relay setting (answered {s = s} request asked answer before e f) =
      subst (λ (o : Outcome). LeadsTo Stands o) e (follows context relay setting s (reached_stands context relay setting before)) answer f

  as_known : (s : State) → structural_fault program ≡ None → Stands s → IsAsKnown (known_before program s.unit) s
  as_known s none stands =
      let within : s.unit < length (slots_of program) = start_inside program s.unit stands.inside in
      let here = came s.unit (omega (arith, within)) in
      let is : known_before program s.unit ≡ Some (reached_at here.0 s.unit) = before_is program s.unit none ∙ on_the_pass program s.unit (Ok here.0) here.1 in
      subst (λ (o : Option (Option AbsState)). IsAsKnown o s) (sym is) (described (reached_at here.0 s.unit) (stands.known here.0 here.1))
    where
      described : (o : Option AbsState) → DescribedBy o s → IsAsKnown (Some o) s
      described None d = d
      described (Some a) d = d

pub states_as_known : (program : List Insn) → AllByRecursion IsInsn program → 0 < length (slots_of program) → judged program ≡ None →
    (context : List ℕ) (relay : Relay) (answers : List (List ℕ)) (s : State) → IsContext context → IsRelay relay → Reached program context relay answers s → IsAsKnown (known_before program s.unit) s
unfolding judged
states_as_known program well some e context relay answers s c h reached =
    let parts = first_none (structural_fault program) (passed_to program (length (slots_of program))) e in
    let forward = forward_of_structure program parts.0 in
    as_known program forward well some parts.1 parts.2 s parts.0 (reached_stands program forward well some parts.1 parts.2 context relay (record { is_context = c; is_relay = h }) reached)

-- A state of a run when the pass reaches its unit.
pub record Standing (program : List Insn) (s : State) : Type 0 where
  pub within : s.unit < length (slots_of program)
  pub start : IsSome (instruction_at program s.unit)
  pub reached : KnownSoFar
  pub comes : passed_to program s.unit ≡ Ok reached
  pub described : DescribedBy (reached_at reached s.unit) s

pub standing_of : (program : List Insn) → AllByRecursion IsInsn program → 0 < length (slots_of program) → judged program ≡ None →
    (context : List ℕ) (relay : Relay) (answers : List (List ℕ)) (s : State) → IsContext context → IsRelay relay → Reached program context relay answers s → Standing program s
unfolding judged
standing_of program well some e context relay answers s c h reached =
    let parts = first_none (structural_fault program) (passed_to program (length (slots_of program))) e in
    let forward = forward_of_structure program parts.0 in
    let stands = reached_stands program forward well some parts.1 parts.2 context relay (record { is_context = c; is_relay = h }) reached in
    let within : s.unit < length (slots_of program) = start_inside program s.unit stands.inside in
    let here = came program forward well some parts.1 parts.2 s.unit (omega (arith, within)) in
    record { within = within; start = stands.inside; reached = here.0; comes = here.1; described = stands.known here.0 here.1 }
