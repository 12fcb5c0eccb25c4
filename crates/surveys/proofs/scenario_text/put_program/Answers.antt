use Rattle.std.proofs.Common.{◌∙◌, ◌++◌, ap}
use Rattle.std.specs.String.{string_bytes}
use Rattle.surveys.specs.Plot.{Traitor}
use Rattle.surveys.specs.Wording.{program_text}
use Rattle.surveys.proofs.LineLemmas.{three_pieces}
use Rattle.surveys.proofs.scenario_text.put_program.Goals as goal

pub returns : goal.returns
unfolding program_text
returns c =
    let lies = rw c.as_slice.ensures.value at c.in_ok-put_lies.ensures in
    three_pieces _ _ _ _ _ _ _ c.in_ok-put_counting.ensures lies c.in_ok-push_str.ensures.bytes ∙ ap (λ (t : Traitor). string_bytes c.args.out.now ++ program_text t) c.traitor.view_is
