-- A scenario that was read, with the files that it names, and the report if it is rejected.
use Rattle.std.proofs.Common.{ℕ, ◌≡◌, Bool, List, subst}
use Rattle.std.specs.Prelude.{◌≢◌, Option, Result, Ok, Err, IfOk, IfSome, IsUtf8, Some, String, string_bytes}
use Rattle.std.specs.Global.{Global}
use Rattle.cli_words.specs.declared.tasks.Task.{Task}
use Rattle.cli_tasks.specs.Seen.{Sees}
use Rattle.cli_tasks.specs.Story.{with_story}
use Rattle.cli_report.specs.Refused.{IsTold}
use Rattle.byzlab.specs.declared.input.Opened.{Opened}
use Rattle.byzlab.specs.Files.{IsSeen, IsTextOf}
use Rattle.byzlab.specs.Rejected.{TellsRefused}

pub is_seen : {F S E G : Type 0} (no_files : Bool) (known : Option (List ℕ)) (beside : List ℕ → Option (List ℕ)) (task : Task) (read own bytes : List ℕ)
    (given : Result (Result (Opened F S) E) G) → IfOk given (λ input. IfOk input (IsTextOf (with_story task own bytes)))
    → Sees no_files beside read bytes → IfSome known (λ all. read ≡ all) → own ≡ read
    → IfOk given (λ input. IfOk input (IsSeen no_files known beside task))
is_seen no_files known beside task read own bytes (Ok (Ok input)) t s k e =
    (read, bytes, k, s, subst (λ o. IsTextOf (with_story task o bytes) input) e t)
is_seen no_files known beside task read own bytes (Ok (Err told)) t s k e = tt
is_seen no_files known beside task read own bytes (Err lack) t s k e = tt

-- The scenario is rejected, and the report is at one of its lines or at a line of a file that it names.
pub refused_told : (no_files : Bool) (known : Option (List ℕ)) (beside : List ℕ → Option (List ℕ)) (task : Task) (read own made : List ℕ) (lines : String Global)
    → IfSome known (λ all. read ≡ all) → Sees no_files beside read made → own ≡ read → own ≢ made
    → (own ≢ made → IsUtf8 own → IsUtf8 made → IsTold task own made (Some (string_bytes lines)))
    → (own : List ℕ) × IfSome known (λ all. own ≡ all) × TellsRefused no_files beside task own lines
refused_told no_files known beside task read own made lines k s e named told = (
  read,
  k,
  (
    made,
    s,
    subst (λ (o : List ℕ). o ≢ made) e named,
    subst (λ (o : List ℕ). IsUtf8 o → IsUtf8 made → IsTold task o made (Some (string_bytes lines))) e (told named),
  ),
)
