-- If a request asks for neither JSON nor one line, the answer is shown as it is.
use Rattle.std.proofs.Common.{ℕ, ◌≡◌, Bool, true, false, List, ◌||◌, refl, subst, sym}
use Rattle.std.specs.Prelude.{Option, Some, IfSome}
use Rattle.std.specs.Io.KnownBytes.{Appends}
use Rattle.cli_words.specs.declared.tasks.TaskRequest.{TaskRequest}
use Rattle.label.specs.declared.shape.Shape.{Shape}
use Rattle.cli_tasks.specs.Serving.{Files, IsPrinted}
use Rattle.cli_answers.specs.Printing.{answer_as, answer_by, is_shaped, judged}
use Rattle.cli_answers.specs.Serving.{IsShown}

as_it_is : (json verdicts : Bool) (name text : List ℕ) (place : Option Shape) → (json || verdicts) ≡ false → answer_by json verdicts name place text ≡ Some text
as_it_is false false name text place plain = refl
as_it_is true verdicts name text place plain = absurd cc
as_it_is false true name text place plain = absurd cc

pub shown_plainly : (request : TaskRequest) (files : Files) (old new : Option (List ℕ)) → is_shaped request ≡ false → IsPrinted request.task files old new → IsShown request files old new
shown_plainly request files old new plain (text, (place, answer), appends) =
    (text, (place, answer, subst (λ (told : Option (List ℕ)). IfSome told (Appends old new)) (sym (as_it_is request.json request.verdicts (judged request.task) text place plain)) appends))
