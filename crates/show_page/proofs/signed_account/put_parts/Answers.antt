use Rattle.std.proofs.Common.{◌∙◌, ◌++◌, ap}
use Rattle.std.specs.Prelude.{option_map}
use Rattle.std.specs.String.{string_bytes}
use Rattle.html.specs.Sections.{sections_in}
use Rattle.show_page.specs.Room.{room_for_sections}
use Rattle.show_page.proofs.ChainLemmas.{chained, same_sections}
use Rattle.show_page.specs.SignedAccount.{parts, sections, verdict_part}
use Rattle.show_page.proofs.signed_account.put_parts.Goals as goal

pub returns : goal.returns
unfolding parts
returns c =
    let start = string_bytes c.args.out.now in
    let told = c.args.chronicle.now in
    let all = sections c.args.scenario_text.now (option_map (λ s. s.now) c.args.schedule) told in
    let begun = string_bytes c.put_verdict_of.new.out in
    chained start (verdict_part told.verdict) (sections_in room_for_sections all) _ _ c.in_ok-put_verdict_of.ensures
    (c.in_ok-put_sections.ensures
    ∙ ap (λ ss. begun ++ sections_in room_for_sections ss)
    (same_sections _ _ _ _ _ _ _ _ _ _ _ _ _ _ c.in_ok-picture.ensures c.in_ok-lieutenants.ensures c.in_ok-scenario.ensures c.in_ok-programs.ensures
    c.in_ok-time.ensures c.in_ok-accesses.ensures c.in_ok-text.ensures))
