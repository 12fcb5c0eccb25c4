-- Lemmas about the reports on refusals.
use Rattle.std.proofs.Common.{ℕ, ◌≡◌, ◌≢◌, Bool, true, false, List, [], refl, subst, sym}
use Rattle.std.specs.Borrow.{Bor}
use Rattle.std.specs.Prelude.{Option, None, Some, IfSome}
use Rattle.streams.specs.Names.{shown}
use Rattle.cli_tasks.specs.Faults.{IsTold, IsToldIf, Stops, fault_of}
use Rattle.cli_tasks.specs.Hints.{hint_behind}
use Rattle.cli_tasks.specs.Serving.{AreSecondBytes, IfKnown, IsHintLater, IsRefusedLater, IsToldLater}
use Rattle.cli_tasks.specs.Whys.{Nothing, Role, TellsWhyOf}
use Rattle.threads.specs.declared.error.MusterError.{MusterError}
use Rattle.cli_tasks.specs.declared.failure.TaskFailure.{TaskFailure}
use Rattle.cli_tasks.specs.declared.failure.TaskFailure.TheVariants.{Read, Text, Refused, Write, Memory}
use Rattle.cli_tasks.specs.declared.first_answer.FirstAnswer.TheVariants.{Muster}
use Rattle.scenario.specs.declared.messages.Campaign.{Campaign}
use Rattle.cli_words.specs.declared.tasks.Lieutenants.{Lieutenants}
use Rattle.cli_tasks.specs.declared.hint.Hint.{Hint}
use Rattle.cli_tasks.specs.declared.refusal.InputRefusal.{InputRefusal}
use Rattle.cli_tasks.specs.declared.refusal.InputRefusal.TheVariants as refusal

-- An empty report is the same for every name.
pub nothing_said : (name : Option (List ℕ)) → IfSome name (λ n. ◌≡◌ {A = List ℕ} [] [])
nothing_said None = tt
nothing_said (Some n) = refl

-- A failure whose hint fulfils a property also fulfils a weaker one.
weaker : (cause : InputRefusal) (file : Bor (List ℕ)) (P Q : List ℕ → Type 0) (fault : TaskFailure) → ((text : List ℕ) → P text → Q text) → IsTold cause file P fault → IsTold cause file Q fault
weaker cause file P Q (Read own) f told = told
weaker cause file P Q (Text own) f told = told
weaker cause file P Q (Refused own hint) f told = (told.0, told.1, told.2, f (hint_behind hint) told.3)
weaker cause file P Q Write f told = told
weaker cause file P Q Memory f told = told

pub told_weaker : (explained : Bool) (cause : InputRefusal) (file : Bor (List ℕ)) (P Q : List ℕ → Type 0) (fault : TaskFailure) → ((text : List ℕ) → P text → Q text)
    → IsToldIf explained cause file P fault → IsToldIf explained cause file Q fault
told_weaker false cause file P Q fault f told = told
told_weaker true cause file P Q fault f told = weaker cause file P Q fault f told

-- ---- a refusal of the second file

known_bytes : (known : Option (Option (List ℕ))) (bytes : List ℕ) (P : List ℕ → Type 0) → AreSecondBytes known bytes → P bytes → IfKnown known P
known_bytes None bytes P are p = subst P are p
known_bytes (Some None) bytes P are p = tt
known_bytes (Some (Some all)) bytes P are p = subst P are p

plain : (unread : Type 0) (known : Option (Option (List ℕ))) (R : InputRefusal → Type 0) (of : Role) (cause : InputRefusal) (file : Bor (List ℕ))
    → (cause ≢ refusal.Memory → R cause) → Stops unread (λ r h. R r × IsHintLater false file.now known of r h) file.now (fault_of cause file)
plain unread known R of (refusal.Codec error) file refused = ((λ e. cc), (refused (λ e. cc), refl))
plain unread known R of (refusal.Object fault) file refused = ((λ e. cc), (refused (λ e. cc), refl))
plain unread known R of (refusal.Verifier fault) file refused = ((λ e. cc), (refused (λ e. cc), refl))
plain unread known R of (refusal.Assembly error) file refused = ((λ e. cc), (refused (λ e. cc), refl))
plain unread known R of (refusal.Table error) file refused = ((λ e. cc), (refused (λ e. cc), refl))
plain unread known R of (refusal.Scenario error) file refused = ((λ e. cc), (refused (λ e. cc), refl))
plain unread known R of (refusal.Setting error) file refused = ((λ e. cc), (refused (λ e. cc), refl))
plain unread known R of (refusal.Trace error) file refused = ((λ e. cc), (refused (λ e. cc), refl))
plain unread known R of (refusal.Threads error) file refused = ((λ e. cc), (refused (λ e. cc), refl))
plain unread known R of (refusal.Accesses fault) file refused = ((λ e. cc), (refused (λ e. cc), refl))
plain unread known R of refusal.Tolerated file refused = ((λ e. cc), (refused (λ e. cc), refl))
plain unread known R of (refusal.RuleCall unit) file refused = ((λ e. cc), (refused (λ e. cc), refl))
plain unread known R of (refusal.LongSearch steps) file refused = ((λ e. cc), (refused (λ e. cc), refl))
plain unread known R of refusal.LongScenario file refused = ((λ e. cc), (refused (λ e. cc), refl))
plain unread known R of (refusal.Stranger general generals) file refused = ((λ e. cc), (refused (λ e. cc), refl))
plain unread known R of refusal.NotText file refused = ((refused (λ e. cc), refl), refl)
plain unread known R of refusal.Memory file refused = tt

reported : (unread : Type 0) (known : Option (Option (List ℕ))) (R : InputRefusal → Type 0) (of : Role) (bytes : List ℕ) (cause : InputRefusal) (file : Bor (List ℕ)) (fault : TaskFailure)
    → AreSecondBytes known bytes → (cause ≢ refusal.Memory → R cause) → IsTold cause file (TellsWhyOf cause of file.now bytes) fault
    → Stops unread (λ r h. R r × IsHintLater true file.now known of r h) file.now fault
reported unread known R of bytes cause file (Read own) are refused told = absurd told
reported unread known R of bytes cause file (Text own) are refused told =
    let other : cause ≢ refusal.Memory = λ e. let f = told.0 in cc in
    ((subst R told.0 (refused other), known_bytes known bytes _ are (nothing_said (shown file.now))), subst (λ (f : Bor (List ℕ)). f.now ≡ file.now) (sym told.1) refl)
reported unread known R of bytes cause file (Refused own hint) are refused told =
    let P : InputRefusal → Type 0 = λ r. (r ≢ refusal.NotText) × (R r × IsHintLater true file.now known of r hint) in
    subst P (sym told.0) (told.1, (refused told.2, known_bytes known bytes _ are told.3))
reported unread known R of bytes cause file Write are refused told = absurd told
reported unread known R of bytes cause file Memory are refused told = tt

pub stops_later : (unread : Type 0) (explained : Bool) (known : Option (Option (List ℕ))) (R : InputRefusal → Type 0) (of : Role) (bytes : List ℕ) (cause : InputRefusal) (file : Bor (List ℕ)) (fault : TaskFailure)
    → AreSecondBytes known bytes → (cause ≢ refusal.Memory → R cause) → IsToldIf explained cause file (TellsWhyOf cause of file.now bytes) fault
    → Stops unread (λ r h. R r × IsHintLater explained file.now known of r h) file.now fault
stops_later unread false known R of bytes cause file fault are refused told =
    subst (λ (f : TaskFailure). Stops unread (λ r h. R r × IsHintLater false file.now known of r h) file.now f) (sym told) (plain unread known R of cause file refused)
stops_later unread true known R of bytes cause file fault are refused told = reported unread known R of bytes cause file fault are refused told

-- ---- a run with threads that made no chronicle

any_bytes : (known : Option (Option (List ℕ))) (P : Type 0) → P → IfKnown known (λ all. P)
any_bytes None P p = p
any_bytes (Some None) P p = tt
any_bytes (Some (Some all)) P p = p

threads_told : (unread : Type 0) (known : Option (Option (List ℕ))) (c : Campaign) (who : Option Lieutenants) (error : MusterError) (file : Bor (List ℕ)) (fault : TaskFailure)
    → IsRefusedLater (Muster c who) known (refusal.Threads error) → IsTold (refusal.Threads error) file (TellsWhyOf (refusal.Threads error) Nothing file.now []) fault
    → Stops unread (IsToldLater true file.now known (Muster c who)) file.now fault
threads_told unread known c who error file (Read own) refused told = absurd told
threads_told unread known c who error file (Text own) refused told = let f = told.0 in absurd cc
threads_told unread known c who error file (Refused own hint) refused told =
    let P : InputRefusal → Type 0 = λ r. (r ≢ refusal.NotText) × IsToldLater true file.now known (Muster c who) r hint in
    subst P (sym told.0) (told.1, (refused, any_bytes known _ told.3))
threads_told unread known c who error file Write refused told = absurd told
threads_told unread known c who error file Memory refused told = tt

memory_told : (unread : Type 0) (R : InputRefusal → Option Hint → Type 0) (tells : List ℕ → Type 0) (file : Bor (List ℕ)) (fault : TaskFailure) → IsTold refusal.Memory file tells fault → Stops unread R file.now fault
memory_told unread R tells file (Read own) told = absurd told
memory_told unread R tells file (Text own) told = let f = told.0 in absurd cc
memory_told unread R tells file (Refused own hint) told = absurd (told.2 refl)
memory_told unread R tells file Write told = absurd told
memory_told unread R tells file Memory told = tt

pub unmustered : (unread : Type 0) (explained : Bool) (known : Option (Option (List ℕ))) (c : Campaign) (who : Option Lieutenants) (cause : InputRefusal) (file : Bor (List ℕ)) (fault : TaskFailure)
    → (cause ≢ refusal.Memory → IsRefusedLater (Muster c who) known cause) → IsToldIf explained cause file (TellsWhyOf cause Nothing file.now []) fault
    → Stops unread (IsToldLater explained file.now known (Muster c who)) file.now fault
unmustered unread false known c who cause file fault refused told =
    subst (λ (f : TaskFailure). Stops unread (IsToldLater false file.now known (Muster c who)) file.now f) (sym told) (plain unread known (IsRefusedLater (Muster c who) known) Nothing cause file refused)
unmustered unread true known c who (refusal.Threads error) file fault refused told = threads_told unread known c who error file fault (refused (λ e. cc)) told
unmustered unread true known c who refusal.Memory file fault refused told = memory_told unread (IsToldLater true file.now known (Muster c who)) (TellsWhyOf refusal.Memory Nothing file.now []) file fault told
unmustered unread true known c who (refusal.Codec error) file fault refused told = absurd (refused (λ e. cc)).1
unmustered unread true known c who (refusal.Object own) file fault refused told = absurd (refused (λ e. cc)).1
unmustered unread true known c who (refusal.Verifier own) file fault refused told = absurd (refused (λ e. cc)).1
unmustered unread true known c who (refusal.Assembly error) file fault refused told = absurd (refused (λ e. cc)).1
unmustered unread true known c who (refusal.Table error) file fault refused told = absurd (refused (λ e. cc)).1
unmustered unread true known c who (refusal.Scenario error) file fault refused told = absurd (refused (λ e. cc)).1
unmustered unread true known c who (refusal.Setting error) file fault refused told = absurd (refused (λ e. cc)).1
unmustered unread true known c who (refusal.Trace error) file fault refused told = absurd (refused (λ e. cc)).1
unmustered unread true known c who (refusal.Accesses own) file fault refused told = absurd (refused (λ e. cc)).1
unmustered unread true known c who refusal.Tolerated file fault refused told = absurd (refused (λ e. cc)).1
unmustered unread true known c who (refusal.RuleCall unit) file fault refused told = absurd (refused (λ e. cc)).1
unmustered unread true known c who (refusal.LongSearch steps) file fault refused told = absurd (refused (λ e. cc)).1
unmustered unread true known c who refusal.LongScenario file fault refused told = absurd (refused (λ e. cc)).1
unmustered unread true known c who (refusal.Stranger general generals) file fault refused told = absurd (refused (λ e. cc)).1
unmustered unread true known c who refusal.NotText file fault refused told = absurd (refused (λ e. cc)).1
