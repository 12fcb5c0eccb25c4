use Rattle.std.proofs.Common.{◌≡◌, ◌∙◌, ◌++◌, ap, codes}
use Rattle.std.specs.Prelude.{decimal, option_map}
use Rattle.std.specs.String.{string_bytes}
use Rattle.surveys.specs.Plot.{Traitor}
use Rattle.surveys.specs.Wording.{source_text, traitor_text}
use Rattle.surveys.proofs.LineLemmas.{named, two_pieces}
use Rattle.surveys.proofs.scenario_text.put_traitor.Goals as goal

pub returns : goal.returns
unfolding traitor_text
returns c =
    let g = c.args.traitor.now.general in
    let o = string_bytes c.args.out.now in
    let s = string_bytes c.put_numbered.new.out in
    let t = string_bytes c.put_source.new.out in
    let general : c.from.result ≡ g = c.from.ensures ∙ ap (λ (q : Traitor). q.general) c.traitor.view_is in
    two_pieces o s t (codes "\n[[traitor]]\ngeneral = " ++ decimal g) (source_text (option_map (λ hex. hex.now) c.args.given) c.args.traitor.now)
    (named o s (codes "\n[[traitor]]\ngeneral = ") (decimal g) (rw (← general) c.in_ok-put_numbered.ensures))
    c.in_ok-put_source.ensures
