-- A program in which `judged` finds no fault is sound.
use Rattle.std.proofs.Common.{◌≡◌, ◌∙◌, ℕ, zero, suc, ◌+◌, ◌<◌, ◌≤◌, List, [], ◌∷◌, length, replicate, Option, Some, None, Result, Ok, Err, IfSome, refl, sym, ap, subst, arith, ⊎_elim, ◌≢◌, length-set, get_or-set_other}
use Rattle.std.specs.Prelude.{pos, slice_set, IsSome}
use Rattle.std.specs.List.{AllByRecursion}
use Rattle.std.proofs.lemmas.Int.{ints}
use Rattle.std.proofs.lemmas.Bool.{cases_lt}
use Rattle.std.proofs.lemmas.List.{length-replicate, get_or-replicate}
use Rattle.std.proofs.Math.ListN.{get_or-eq_default}
use Rattle.insn.specs.declared.insn.Insn.{Insn}
use Rattle.insn.specs.Insn.{IsInsn}
use Rattle.insn.specs.Program.{slots_of, instruction_at}
use Rattle.insn.proofs.WellLemmas.{found_well}
use Rattle.semantics.specs.Relay.{IsRelay, IsSetting, Relay}
use Rattle.semantics.specs.State.{State, Outcome, entry}
use Rattle.semantics.specs.Outbox.{empty_outbox}
use Rattle.semantics.specs.Execution.{step, executed, fetched}
use Rattle.semantics.specs.Run.{IsContext, IsSound}
use Rattle.semantics.specs.Safety.{LeadsTo, IsSafe}
use Rattle.semantics.specs.Plain.{IsIn, leads_to}
use Rattle.semantics.proofs.SafetyLaws.{IsSafe-longer}
use Rattle.verify.specs.declared.error.VerifyError.{VerifyError}
use Rattle.verify.specs.declared.reason.Reason.{Reason}
use Rattle.verify.specs.declared.state.AbsState.{AbsState}
use Rattle.verify.specs.Forward.{IsForward}
use Rattle.verify.proofs.Safe.{StartsSafe}
use Rattle.verify.specs.Structure.{structural_fault}
use Rattle.verify.specs.Instructions.{reason_of}
use Rattle.verify.specs.Knowledge.{at_entry}
use Rattle.verify.specs.Transfer.{edges}
use Rattle.verify.specs.Judgement.{KnownSoFar, reached_at, along, along_all, settled, passed_at, passed_on, passed_to, first_of, judged}
use Rattle.verify.proofs.Edges.{start_inside}
use Rattle.verify.proofs.Starts.{left, left-le, left-falls, left-bound}
use Rattle.verify.proofs.SafeLaws.{leads_weaker, IsSafe-step, sound_of_start}
use Rattle.verify.proofs.Walk.{forward_of_structure}
use Rattle.verify.proofs.StepSound.{IsMeant}
use Rattle.verify.proofs.JoinSound.{entry_meant, entry_described}
use Rattle.verify.proofs.EdgesSound.{DescribedBy}
use Rattle.verify.proofs.Taken.{taken_if, length-along, length-passed_at}
use Rattle.verify.proofs.PassSound.{AreMeant, At, Lands, along_meant, along_takes, unit_leads, unit_meant, unit_keeps}

-- ---- a unit is passed

-- States that were described at the unit lead to described ones, and those that were described at later units still
-- are.
pub record Passed (program : List Insn) (unit : ℕ) (old new : KnownSoFar) : Type 0 where
  pub leads : (i : Insn) (context : List ℕ) (relay : Relay) (s : State) → IsSetting context relay → instruction_at program unit ≡ Some i → s.unit ≡ unit → At old unit s →
      LeadsTo (λ t. IsIn (pos t.unit) (leads_to i unit) × At new t.unit t) (executed context relay i s)
  pub keeps : (v : ℕ) (s : State) → unit < v → At old v s → At new v s
  pub meant : AreMeant new
  pub count : length new ≡ length old

-- Nothing happens if no instruction starts there, or no path leads there.
passed_by : (program : List Insn) (unit : ℕ) (old : KnownSoFar) → AreMeant old → ((i : Insn) (s : State) → instruction_at program unit ≡ Some i → At old unit s → ⊥) → Passed program unit old old
passed_by program unit old all none = record {
  leads = λ i context relay s setting at e kept. absurd (none i s at kept);
  keeps = λ v s lt h. h;
  meant = all;
  count = refl;
}

settled_ok : (o : Option Reason) (unit : ℕ) (reached next : KnownSoFar) → settled o unit reached ≡ Ok next → (o ≡ None) × (reached ≡ next)
settled_ok None unit reached next e = (refl, cc)
settled_ok (Some reason) unit reached next e = cc

lands_at : (program : List Insn) (unit : ℕ) (i : Insn) → IsForward program → instruction_at program unit ≡ Some i → Lands i unit
lands_at program unit i forward at z e = let start = (forward.edges unit i at z e).1 in (start.0, start.1)

inside_at : (program : List Insn) (unit : ℕ) (i : Insn) (old : KnownSoFar) → IsForward program → length old ≡ length (slots_of program) → instruction_at program unit ≡ Some i →
    (v : ℕ) → IsIn (pos v) (leads_to i unit) → v < length old
inside_at program unit i old forward long at v e =
    let start = (forward.edges unit i at (pos v) e).1 in
    let same : v ≡ start.0 = let h = start.1 in cc in
    let inside : start.0 < length (slots_of program) = start_inside program start.0 start.2 in
    omega arith

pub unit_passed : (program : List Insn) (unit : ℕ) (o : Option Insn) (k : Option AbsState) (old new : KnownSoFar) → IsForward program → AllByRecursion IsInsn program → AreMeant old →
    length old ≡ length (slots_of program) → instruction_at program unit ≡ o → reached_at old unit ≡ k → passed_at unit o k old ≡ Ok new → Passed program unit old new
unit_passed program unit None k old new forward well all long at known e =
    let same : old ≡ new = cc in
    subst (λ (r : KnownSoFar). Passed program unit old r) same (passed_by program unit old all (λ i s found h. cc))
unit_passed program unit (Some i) None old new forward well all long at known e =
    let same : old ≡ new = cc in
    subst (λ (r : KnownSoFar). Passed program unit old r) same (passed_by program unit old all (λ j s found h. subst (λ (o : Option AbsState). DescribedBy o s) known h))
unit_passed program unit (Some i) (Some a) old new forward well all long at known e =
    let taken : KnownSoFar = slice_set old unit None in
    let left : AreMeant taken = λ v. taken_if IsMeant old unit v (all v) in
    let count : length taken ≡ length old = length-set old unit None in
    let parts = settled_ok (reason_of i a) unit (along_all (edges i unit a) taken) new e in
    let insn : IsInsn i = subst (λ (o : Option Insn). IfSome o (λ j. IsInsn j)) at (found_well program unit (instruction_at program unit) well refl) in
    let m : IsMeant a = subst (λ (o : Option AbsState). IfSome o IsMeant) known (all unit) in
    subst (λ (r : KnownSoFar). Passed program unit old r) parts.1 (record {
      leads = λ j context relay s setting found e h.
          let same : i ≡ j = let both = sym at ∙ found in cc in
          subst (λ (l : Insn). LeadsTo (λ t. IsIn (pos t.unit) (leads_to l unit) × At (along_all (edges i unit a) taken) t.unit t) (executed context relay l s)) same
          (unit_leads i unit a taken context relay s insn left m parts.0 (lands_at program unit i forward at) (inside_at program unit i taken forward (count ∙ long) at) setting e
          (subst (λ (o : Option AbsState). DescribedBy o s) known h));
      keeps = λ v s lt h.
          let other : v ≢ unit = omega arith in
          unit_keeps i unit a taken insn left m v s (subst (λ (o : Option AbsState). DescribedBy o s) (sym (get_or-set_other old unit v None None other)) h);
      meant = unit_meant i unit a taken insn left m;
      count = length-passed_at unit (Some i) (Some a) old (along_all (edges i unit a) taken) (ap (λ (o : Option Reason). settled o unit (along_all (edges i unit a) taken)) parts.0);
    })

-- ---- what remains to be shown of states from a unit on

abbrev pub Rest : List Insn → List ℕ → Relay → KnownSoFar → ℕ → Type 0
Rest program context relay reached unit = (s : State) → unit ≤ s.unit → IsSome (instruction_at program s.unit) → At reached s.unit s → IsSafe program context relay (left program s.unit) s

-- If that is shown, the entry state is safe.
abbrev pub EntryRests : List Insn → KnownSoFar → ℕ → Type 0
EntryRests program reached unit = (context : List ℕ) (relay : Relay) → IsContext context → IsRelay relay → Rest program context relay reached unit →
    IsSafe program context relay (length program) (entry (empty_outbox relay))

pub step_at : (program : List Insn) (context : List ℕ) (relay : Relay) (unit : ℕ) (i : Insn) (s : State) → instruction_at program unit ≡ Some i → s.unit ≡ unit →
    step program context relay s ≡ executed context relay i s
unfolding step
step_at program context relay unit i s at e =
    let here : instruction_at program s.unit ≡ Some i = subst (λ (u : ℕ). instruction_at program u ≡ Some i) (sym e) at in
    ap (λ (o : Option Insn). fetched context relay o s) here

module _ (program : List Insn) (context : List ℕ) (relay : Relay) (old new : KnownSoFar) (unit : ℕ) (forward : IsForward program) (passed : Passed program unit old new)
    (setting : IsSetting context relay) (rest : Rest program context relay new (unit + 1)) where
  -- A state at the unit is safe.
  safe_here : (i : Insn) (s : State) → instruction_at program unit ≡ Some i → s.unit ≡ unit → At old unit s → IsSafe program context relay (left program unit) s
  safe_here i s at e kept =
      let leads = passed.leads i context relay s setting at e kept in
      let less : left program (unit + 1) + 1 ≤ left program unit = left-falls program unit (unit + 1) i at (omega arith) in
      let later : (t : State) → IsIn (pos t.unit) (leads_to i unit) × At new t.unit t → IsSafe program context relay (left program (unit + 1)) t = λ t h.
      let edge = forward.edges unit i at (pos t.unit) h.0 in
      let lt : unit + 1 ≤ t.unit = let z = edge.0 in omega (arith, ints) in
      let same : t.unit ≡ edge.1.0 = let y = edge.1.1 in cc in
      let some : IsSome (instruction_at program t.unit) = subst (λ (v : ℕ). IsSome (instruction_at program v)) (sym same) edge.1.2 in
      IsSafe-longer program context relay (left program t.unit) (left program (unit + 1)) t (left-le program (unit + 1) t.unit lt) (rest t lt some h.1) in
      let follows = leads_weaker (λ t. IsIn (pos t.unit) (leads_to i unit) × At new t.unit t) (λ t. IsSafe program context relay (left program (unit + 1)) t) (executed context relay i s) later leads in
      let steps = subst (λ (o : Outcome). LeadsTo (λ t. IsSafe program context relay (left program (unit + 1)) t) o) (sym (step_at program context relay unit i s at e)) follows in
      let more : suc (left program (unit + 1)) ≤ left program unit = omega arith in
      IsSafe-longer program context relay (suc (left program (unit + 1))) (left program unit) s more
      (IsSafe-step program context relay (left program (unit + 1)) s steps)

pub some_is : (o : Option Insn) → IsSome o → (i : Insn) × (o ≡ Some i)
some_is None some = absurd (cc)
some_is (Some i) some = (i, refl)

pass_step : (program : List Insn) (context : List ℕ) (relay : Relay) (old new : KnownSoFar) (unit : ℕ) → IsForward program → Passed program unit old new → IsSetting context relay →
    Rest program context relay new (unit + 1) → Rest program context relay old unit
pass_step program context relay old new unit forward passed setting rest s le some kept = ⊎_elim
    (λ lt. rest s (omega arith) some (passed.keeps s.unit s lt kept))
    (λ ge. let e : s.unit ≡ unit = omega arith in
    let found = some_is (instruction_at program s.unit) some in
    let at = subst (λ (u : ℕ). instruction_at program u ≡ Some found.0) e found.1 in
    subst (λ (u : ℕ). IsSafe program context relay (left program u) s) (sym e)
    (safe_here program context relay old new unit forward passed setting rest found.0 s at e (subst (λ (u : ℕ). At old u s) e kept)))
    (cases_lt unit s.unit)

rests_step : (program : List Insn) (old new : KnownSoFar) (unit : ℕ) → IsForward program → Passed program unit old new → EntryRests program old unit → EntryRests program new (suc unit)
rests_step program old new unit forward passed rests context relay c h rest =
    let next : suc unit ≡ unit + 1 = omega arith in
    rests context relay c h (pass_step program context relay old new unit forward passed (record { is_context = c; is_relay = h }) (subst (λ (n : ℕ). Rest program context relay new n) next rest))

-- ---- the entry

pub first_start : (program : List Insn) → 0 < length (slots_of program) → IsSome (instruction_at program 0)
first_start [] lt = absurd (omega arith)
first_start (i ∷ is) lt = refl

rests_start : (program : List Insn) (reached : KnownSoFar) → 0 < length (slots_of program) → ((relay : Relay) → At reached 0 (entry (empty_outbox relay))) → EntryRests program reached 0
rests_start program reached lt kept context relay c h rest =
    let start = entry (empty_outbox relay) in
    IsSafe-longer program context relay (left program 0) (length program) start (left-bound program 0) (rest start (omega arith) (first_start program lt) (kept relay))

-- No unit is reached yet.
abbrev pub empty : List Insn → KnownSoFar
empty program = replicate (length (slots_of program)) None

nothing_at : (program : List Insn) (v : ℕ) → reached_at (empty program) v ≡ None
nothing_at program v = ⊎_elim (λ lt. get_or-replicate (length (slots_of program)) v None None lt)
    (λ ge. let none : Option AbsState = None in
    let out : length (empty program) ≤ v = omega (arith, length-replicate (length (slots_of program)) none) in get_or-eq_default (empty program) None out)
    (cases_lt v (length (slots_of program)))

pub nothing_meant : (program : List Insn) → AreMeant (empty program)
nothing_meant program v = subst (λ (o : Option AbsState). IfSome o IsMeant) (sym (nothing_at program v)) tt

-- ---- the pass

-- What is reached at the units before one.
pub record Walks (program : List Insn) (unit : ℕ) (reached : KnownSoFar) : Type 0 where
  pub meant : AreMeant reached
  pub count : length reached ≡ length (slots_of program)
  pub rests : EntryRests program reached unit

starts : (program : List Insn) → 0 < length (slots_of program) → Walks program 0 (along (pos 0, at_entry) (empty program))
starts program some =
    let long : length (empty program) ≡ length (slots_of program) = length-replicate (length (slots_of program)) None in
    let room : 0 < length (empty program) = omega arith in
    record {
      meant = along_meant (pos 0) at_entry (empty program) (nothing_meant program) entry_meant;
      count = length-along (pos 0, at_entry) (empty program) ∙ long;
      rests = rests_start program (along (pos 0, at_entry) (empty program)) some
          (λ relay. along_takes 0 at_entry (empty program) (entry (empty_outbox relay)) (nothing_meant program) entry_meant room (entry_described (empty_outbox relay)));
    }

walks_on : (program : List Insn) (unit : ℕ) (old new : KnownSoFar) → IsForward program → AllByRecursion IsInsn program → Walks program unit old →
    passed_at unit (instruction_at program unit) (reached_at old unit) old ≡ Ok new → Walks program (suc unit) new
walks_on program unit old new forward well w e =
    let passed = unit_passed program unit (instruction_at program unit) (reached_at old unit) old new forward well w.meant w.count refl refl e in
    record { meant = passed.meant; count = passed.count ∙ w.count; rests = rests_step program old new unit forward passed w.rests }

pub walks : (program : List Insn) → IsForward program → AllByRecursion IsInsn program → 0 < length (slots_of program) → (unit : ℕ) (reached : KnownSoFar) → passed_to program unit ≡ Ok reached → Walks program unit reached
unfolding passed_to
walks program forward well some zero reached e =
    let same : along (pos 0, at_entry) (empty program) ≡ reached = cc in subst (λ (r : KnownSoFar). Walks program 0 r) same (starts program some)
walks program forward well some (suc unit) reached e = by_before (passed_to program unit) e (walks program forward well some unit)
  where
    by_before : (r : Result KnownSoFar VerifyError) → passed_on program unit r ≡ Ok reached → ((before : KnownSoFar) → r ≡ Ok before → Walks program unit before) → Walks program (suc unit) reached
    by_before (Err fault) f ih = cc
    by_before (Ok before) f ih = walks_on program unit before reached forward well (ih before refl) f

-- After the last unit, nothing remains to be shown.
ends : (program : List Insn) (reached : KnownSoFar) → Walks program (length (slots_of program)) reached → StartsSafe program
ends program reached w = record {
  safe = λ context relay c h. w.rests context relay c h (λ s le some kept.
      let inside : s.unit < length (slots_of program) = start_inside program s.unit some in absurd (omega arith));
}

pub first_none : (o : Option VerifyError) (r : Result KnownSoFar VerifyError) → first_of o r ≡ None → (o ≡ None) × (reached : KnownSoFar) × (r ≡ Ok reached)
first_none None (Ok reached) e = (refl, reached, refl)
first_none None (Err fault) e = cc
first_none (Some fault) r e = cc

pub judged_sound : (program : List Insn) → AllByRecursion IsInsn program → 0 < length (slots_of program) → judged program ≡ None → IsSound program
unfolding judged
judged_sound program well some e =
    let parts = first_none (structural_fault program) (passed_to program (length (slots_of program))) e in
    sound_of_start program (ends program parts.1 (walks program (forward_of_structure program parts.0) well some (length (slots_of program)) parts.1 parts.2))
