use Rattle.label.specs.Oral.{om}
use Rattle.combine.specs.Rule.{combined_by}
use Rattle.std.proofs.Common.{◌∷◌, []}
use Rattle.bounds.specs.Stories.{is_traitor_in, story_messages, story_order}
use Rattle.bounds.proofs.RefutationLemmas.{AreAlikeSoFar}
use Rattle.bounds.proofs.refutation.is_broken.Given as goal

abbrev pub invariant-loop-general : goal.invariant-loop-general
invariant-loop-general l =
    AreAlikeSoFar l.generals l.commander (story_order l.story) (is_traitor_in l.story l.commander)
    (om (combined_by l.rule) l.generals (story_messages l.story l.commander) l.bound (l.commander ∷ [])) l.expected l.general
