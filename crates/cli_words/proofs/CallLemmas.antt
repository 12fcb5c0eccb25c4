-- What the result of a call of `clap` means for the definitions.
use Rattle.std.proofs.Common.{Result, Ok, Err, IfOk, IfErr, IsSome, IsSomeAnd, true, false, ◌≡◌, ◌≢◌, ◌∙◌, ◌⊎◌, inl, inr, List, [], Option, Some, None, ap, refl, subst, sym}
use Rattle.clap.specs.Words.{App, IsAmong, Row, Text, fault_of, kind_of, is_simple, is_simple_and_free, subcommand_of}
use Rattle.clap.specs.declared.error.Error.{Error}
use Rattle.clap.specs.declared.error.kind.ErrorKind.{ErrorKind}
use Rattle.clap.specs.declared.error.kind.ErrorKind.TheVariants.{OutOfMemory}
use Rattle.clap.proofs.OnLiterals.{clap_on_literals}
use Rattle.cli_words.specs.Asked.{asked, is_meant, spelt}
use Rattle.cli_words.specs.Lab.{app_for, app_with, lab_app, task_met}
use Rattle.cli_words.specs.Met.{has_places}
use Rattle.cli_words.specs.Tasks.{Asks, IfMisuse, IfRefused, IfWords, IsErrorOf, IsMisused, IsToldBy, Told}
use Rattle.cli_words.specs.declared.tasks.TaskRequest.{TaskRequest}
use Rattle.cli_words.specs.declared.errors.Misuse.{Misuse as MisuseOf}
use Rattle.cli_words.specs.declared.errors.TaskError.{TaskError}
use Rattle.cli_words.specs.declared.errors.TaskError.TheVariants.{Words, Misuse, Memory}
use Rattle.cli_words.proofs.AskedLemmas.{LabAgrees, rule_agrees, same_for, true_for}
use Rattle.cli_words.proofs.MeantLemmas.{misused_not_meant, says_meant}

simple_for : (words : List Text) → is_simple (app_for words) ≡ true
unfolding clap_on_literals
simple_for = true_for (λ us. is_simple (app_with us)) refl refl

free_for : (words : List Text) → is_simple_and_free (app_for words) ≡ true
unfolding clap_on_literals
free_for = true_for (λ us. is_simple_and_free (app_with us)) refl refl

-- The definitions find the task that `clap` parsed.
pub record IsFound (words : List Text) (met : Option (Text × List Row)) : Type 0 where
  pub task : Told
  pub spelt_is : spelt words ≡ Some task
  pub met_is : task_met met ≡ Some task
  pub filled : has_places task ≡ true

found_by : (words : List Text) (task : Option Told) → spelt words ≡ task → fault_of lab_app words ≡ []
    → LabAgrees (fault_of lab_app words) (subcommand_of lab_app words) task → IsFound words (subcommand_of lab_app words)
found_by words None is none fails = absurd (fails none)
found_by words (Some task) is none agrees =
    record { task = task; spelt_is = is; met_is = agrees.1; filled = agrees.2 }

-- If `clap` returns matches, the definitions find the task that it parsed.
pub task_found : (app : App) (words : List Text) (met : Option (Text × List Row)) → app ≡ app_for words
    → (is_simple_and_free app ≡ true → fault_of app words ≡ [])
    → (is_simple app ≡ true → met ≡ subcommand_of app words) → IsFound words met
task_found app words met lab passes meets =
    let none : fault_of lab_app words ≡ [] =
    sym (ap (λ (a : App). fault_of a words) lab ∙ (same_for words).fault) ∙ passes (ap is_simple_and_free lab ∙ free_for words) in
    let met_is : met ≡ subcommand_of lab_app words =
    meets (ap is_simple lab ∙ simple_for words) ∙ (ap (λ (a : App). subcommand_of a words) lab ∙ (same_for words).met) in
    subst (IsFound words) (sym met_is) (found_by words (spelt words) refl none (rule_agrees words))

-- In this case, `clap` parsed a subcommand.
pub some_met : (met : Option (Text × List Row)) (told : Told) → task_met met ≡ Some told → IsSome met
some_met None told is = absurd cc
some_met (Some p) told is = refl

none_by : (words : List Text) (task : Option Told) (k : ErrorKind) → IsAmong k (fault_of lab_app words)
    → LabAgrees (fault_of lab_app words) (subcommand_of lab_app words) task → task ≡ None
none_by words None k among fails = refl
none_by words (Some task) k among agrees =
    let bad : IsAmong k [] = subst (IsAmong k) agrees.0 among in absurd bad

-- If `clap` returns an error other than out of memory, its kind is among the errors for the words.
pub kind_among : (app : App) (words : List Text) (k : ErrorKind) → app ≡ app_for words
    → (is_simple_and_free app ≡ true → (k ≡ OutOfMemory) ⊎ IsAmong k (fault_of app words))
    → (k ≡ OutOfMemory → ⊥) → IsAmong k (fault_of lab_app words)
kind_among app words k lab fails apart = elim (fails (ap is_simple_and_free lab ∙ free_for words)) [
  | inl memory ↦ absurd (apart memory)
  | inr among ↦ subst (IsAmong k) (ap (λ (a : App). fault_of a words) lab ∙ (same_for words).fault) among
]

-- In this case, the definitions find no task in the words.
pub none_found : (app : App) (words : List Text) (k : ErrorKind) → app ≡ app_for words
    → (is_simple_and_free app ≡ true → (k ≡ OutOfMemory) ⊎ IsAmong k (fault_of app words))
    → (k ≡ OutOfMemory → ⊥) → asked words ≡ None
none_found app words k lab fails apart =
    let none : spelt words ≡ None = none_by words (spelt words) k (kind_among app words k lab fails apart) (rule_agrees words) in rw none refl

-- ---- the error for words that `clap` rejected

pub told_unasked : (app : App) (words : List Text) (refusal : Error) (error : TaskError) → IsToldBy refusal error
    → app ≡ app_for words → (is_simple_and_free app ≡ true → (kind_of refusal ≡ OutOfMemory) ⊎ IsAmong (kind_of refusal) (fault_of app words))
    → IfRefused error (asked words ≡ None)
told_unasked app words refusal (Words own) told lab fails = none_found app words (kind_of refusal) lab fails told.1
told_unasked app words refusal (Misuse misuse) told lab fails = absurd told
told_unasked app words refusal Memory told lab fails = tt

pub told_among : (app : App) (words : List Text) (refusal : Error) (error : TaskError) → IsToldBy refusal error
    → app ≡ app_for words → (is_simple_and_free app ≡ true → (kind_of refusal ≡ OutOfMemory) ⊎ IsAmong (kind_of refusal) (fault_of app words))
    → IfWords error (λ own. IsAmong (kind_of own) (fault_of lab_app words))
told_among app words refusal (Words own) told lab fails =
    subst (λ (e : Error). IsAmong (kind_of e) (fault_of lab_app words)) (sym told.0)
    (kind_among app words (kind_of refusal) lab fails told.1)
told_among app words refusal (Misuse misuse) told lab fails = tt
told_among app words refusal Memory told lab fails = tt

pub told_not_memory : (refusal : Error) (error : TaskError) → IsToldBy refusal error
    → IfWords error (λ own. kind_of own ≢ OutOfMemory)
told_not_memory refusal (Words own) told = subst (λ (e : Error). kind_of e ≢ OutOfMemory) (sym told.0) told.1
told_not_memory refusal (Misuse misuse) told = tt
told_not_memory refusal Memory told = tt

pub told_no_misuse : (P : MisuseOf → Type 0) (refusal : Error) (error : TaskError) → IsToldBy refusal error
    → IfMisuse error P
told_no_misuse P refusal (Words own) told = tt
told_no_misuse P refusal (Misuse misuse) told = absurd told
told_no_misuse P refusal Memory told = tt

-- ---- words that `clap` accepted

module _ (words : List Text) (told : Told) (is : spelt words ≡ Some told) where
  asked_is : is_meant told ≡ true → asked words ≡ Some told
  asked_is meant = rw (is, meant) refl

  none_asked : is_meant told ≡ false → asked words ≡ None
  none_asked other = rw (is, other) refl

  pub request_is_asked : (r : Result TaskRequest TaskError) → IfOk r (Asks told) → IfOk r (λ request. IsSomeAnd (asked words) (λ t. Asks t request))
  request_is_asked (Ok request) asks = subst (λ (o : Option Told). IsSomeAnd o (λ t. Asks t request)) (sym (asked_is (says_meant told request.task asks.0))) asks
  request_is_asked (Err error) asks = tt

  refused : (error : TaskError) → IsErrorOf told error → IfRefused error (asked words ≡ None)
  refused (Words error) is_error = absurd is_error
  refused (Misuse misuse) is_error = none_asked (misused_not_meant told misuse is_error)
  refused Memory is_error = tt

  pub error_is_refused : (r : Result TaskRequest TaskError) → IfErr r (IsErrorOf told) → IfErr r (λ error. IfRefused error (asked words ≡ None))
  error_is_refused (Ok task) is_error = tt
  error_is_refused (Err error) is_error = refused error is_error

  pub misuse_is_told : (r : Result TaskRequest TaskError) → IfErr r (IsErrorOf told)
      → IfErr r (λ error. IfMisuse error (λ misuse. IsSomeAnd (spelt words) (λ t. IsMisused t misuse)))
  misuse_is_told (Ok task) is_error = tt
  misuse_is_told (Err (Words error)) is_error = tt
  misuse_is_told (Err (Misuse misuse)) is_error = subst (λ (o : Option Told). IsSomeAnd o (λ t. IsMisused t misuse)) (sym is) is_error
  misuse_is_told (Err Memory) is_error = tt
