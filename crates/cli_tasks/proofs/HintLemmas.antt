-- Lemmas about refusals whose hint is a report.
use Rattle.std.proofs.Common.{ℕ, ◌≡◌, List, refl, subst}
use Rattle.std.specs.Borrow.{Bor}
use Rattle.std.specs.declared.alloc.Global.{Global}
use Rattle.std.specs.Prelude.{Option, None, Some, IfSome, String, string_bytes}
use Rattle.cli_tasks.specs.Faults.{IsTold, text_fault}
use Rattle.cli_tasks.specs.declared.refusal.InputRefusal.{InputRefusal}
use Rattle.cli_tasks.specs.declared.refusal.InputRefusal.TheVariants as refusal

-- What holds for the name that was made for a file holds for the file's name as it is displayed.
pub told_named : (name : Option (List ℕ)) (own : List ℕ) (P : List ℕ → Type 0) → IfSome name (λ n. own ≡ n) → P own → IfSome name P
told_named None own P is p = tt
told_named (Some n) own P is p = subst P is p

-- A failure with a text as its hint is what `IsTold` states.
pub by_text : (cause : InputRefusal) (file : Bor (List ℕ)) (text : String Global) (tells : List ℕ → Type 0) → tells (string_bytes text) → IsTold cause file tells (text_fault cause file text)
by_text (refusal.Codec error) file text tells t = (refl, (λ e. cc), (λ e. cc), t)
by_text (refusal.Object fault) file text tells t = (refl, (λ e. cc), (λ e. cc), t)
by_text (refusal.Verifier fault) file text tells t = (refl, (λ e. cc), (λ e. cc), t)
by_text (refusal.Assembly error) file text tells t = (refl, (λ e. cc), (λ e. cc), t)
by_text (refusal.Table error) file text tells t = (refl, (λ e. cc), (λ e. cc), t)
by_text (refusal.Scenario error) file text tells t = (refl, (λ e. cc), (λ e. cc), t)
by_text (refusal.Setting error) file text tells t = (refl, (λ e. cc), (λ e. cc), t)
by_text (refusal.Trace error) file text tells t = (refl, (λ e. cc), (λ e. cc), t)
by_text (refusal.Threads error) file text tells t = (refl, (λ e. cc), (λ e. cc), t)
by_text (refusal.Accesses fault) file text tells t = (refl, (λ e. cc), (λ e. cc), t)
by_text refusal.Tolerated file text tells t = (refl, (λ e. cc), (λ e. cc), t)
by_text (refusal.RuleCall unit) file text tells t = (refl, (λ e. cc), (λ e. cc), t)
by_text (refusal.LongSearch steps) file text tells t = (refl, (λ e. cc), (λ e. cc), t)
by_text refusal.LongScenario file text tells t = (refl, (λ e. cc), (λ e. cc), t)
by_text (refusal.Stranger general generals) file text tells t = (refl, (λ e. cc), (λ e. cc), t)
by_text refusal.NotText file text tells t = (refl, refl)
by_text refusal.Memory file text tells t = tt
