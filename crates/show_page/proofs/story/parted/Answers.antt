use Rattle.std.proofs.Common.{◌≡◌, ◌∙◌, ap, subst, sym}
use Rattle.std.specs.Str.{IsCharBoundary}
use Rattle.show_page.specs.Story.{story_bytes}
use Rattle.show_page.proofs.StoryLemmas.{edge}
use Rattle.show_page.proofs.story.parted.Goals as goal

pub range-requires-clause-end_boundary : goal.range-requires-clause-end_boundary
range-requires-clause-end_boundary c =
    let text = c.args.text.now in
    let end : c.story_bytes-end.result ≡ story_bytes text = c.story_bytes-end.ensures ∙ ap story_bytes c.as_bytes.ensures.value in
    subst (IsCharBoundary text) (sym end) (edge text c.utf8.text)

pub range_from-requires : goal.range_from-requires
range_from-requires c =
    let text = c.args.text.now in
    let end : c.story_bytes-end.result ≡ story_bytes text = c.story_bytes-end.ensures ∙ ap story_bytes c.as_bytes.ensures.value in
    λ _. subst (IsCharBoundary text) (sym end) (edge text c.utf8.text)
