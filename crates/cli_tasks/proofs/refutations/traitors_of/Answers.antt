use Rattle.std.proofs.Common.{◌≡◌, ◌<◌, ◌+◌, ◌++◌, ◌∷◌, [], ℕ, Bool, true, false, refl, length, sym, ap, ◌∙◌, arith, lit<, append-nil}
use Rattle.std.specs.List.{filter, range_with_len}
use Rattle.std.proofs.lemmas.List.Elements.{filter-append}
use Rattle.bounds.specs.Stories.{is_traitor_in}
use Rattle.book.proofs.Gathering.{range_more}
use Rattle.lies.proofs.CodeLemmas.{filter_few}
use Rattle.cli_tasks.proofs.refutations.traitors_of.Goals as goal
use Rattle.cli_tasks.proofs.refutations.traitors_of.Goals.{then-is_traitor, else-is_traitor}

-- One more general, who is a traitor or is not.
more : (f : ℕ → Bool) (j : ℕ) → filter f (range_with_len 0 (j + 1)) ≡ filter f (range_with_len 0 j) ++ filter f (j ∷ [])
more f j = ap (filter f) (range_more j) ∙ filter-append f (range_with_len 0 j) (j ∷ [])

more_yes : (f : ℕ → Bool) (j : ℕ) → f j ≡ true → filter f (range_with_len 0 j) ++ j ∷ [] ≡ filter f (range_with_len 0 (j + 1))
more_yes f j is =
    let last : filter f (j ∷ []) ≡ j ∷ [] = rw is refl in
    sym (more f j ∙ ap (λ x. filter f (range_with_len 0 j) ++ x) last)

more_no : (f : ℕ → Bool) (j : ℕ) → f j ≡ false → filter f (range_with_len 0 j) ≡ filter f (range_with_len 0 (j + 1))
more_no f j is =
    let last : filter f (j ∷ []) ≡ [] = rw is refl in
    sym (more f j ∙ (ap (λ x. filter f (range_with_len 0 j) ++ x) last ∙ append-nil (filter f (range_with_len 0 j))))

pub push-requires : goal.push-requires
push-requires c =
    let few = filter_few (is_traitor_in c.args.story c.args.commander) c.loop-general.general in
    let so : length c.loop-general.traitors.items ≡ length (filter (is_traitor_in c.args.story c.args.commander) (range_with_len 0 c.loop-general.general)) = ap length c.loop-general.invariant in
    let limit = c.requires in
    let test = c.loop-general-test.true in
    let room : length c.loop-general.traitors.items < 13 = omega arith in
    (lit< tt, room)

pub loop-general-preserved : goal.loop-general-preserved
loop-general-preserved c = elim c.if-is_traitor.branch [
  | then-is_traitor w ↦ rw (w.traitors-is, w.push.ensures.items, c.loop-general.invariant) (more_yes (is_traitor_in c.args.story c.args.commander) c.loop-general.general (sym c.is_traitor.ensures ∙ w.if-is_traitor.true))
  | else-is_traitor w ↦ rw (w.traitors-is, c.loop-general.invariant) (more_no (is_traitor_in c.args.story c.args.commander) c.loop-general.general (sym c.is_traitor.ensures ∙ w.if-is_traitor.false))
]
