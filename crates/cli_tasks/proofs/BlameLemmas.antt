-- In the picture of a signed campaign, every message of a loyal general is drawn as one that follows the protocol.
use Rattle.std.proofs.Common.{ℕ, suc, ◌+◌, ◌<◌, ◌≡◌, ◌∙◌, Bool, true, false, not, List, [], ◌∷◌, ◌++◌, ap, subst, sym, refl, arith}
use Rattle.std.proofs.lemmas.List.Elements.{All-from_recursion}
use Rattle.std.specs.Prelude.{filter, map}
use Rattle.std.specs.List.{AllByRecursion, range_with_len}
use Rattle.book.proofs.Places.{all_flat}
use Rattle.label.proofs.Counting.{range-on_within}
use Rattle.label.proofs.Places.{all-append}
use Rattle.show_diagram.specs.Laws.{IsDrawnHonest}
use Rattle.show_diagram.specs.Order.{arranged}
use Rattle.show_diagram.specs.Words.{kind_of}
use Rattle.show_diagram.specs.declared.stroke.Stroke.{Stroke}
use Rattle.show_diagram.proofs.OrderLemmas.{all_arranged}
use Rattle.round.specs.Scenario.{Scenario, IsScenario, is_traitor}
use Rattle.signed.specs.Accepted.{firsts}
use Rattle.signed.specs.Chains.{Chain, orders}
use Rattle.signed.specs.Chronicle.{signed_chronicle_of}
use Rattle.signed.specs.Kind.{signed_kind, played}
use Rattle.signed.proofs.Concluding.{same_scenario}
use Rattle.signed.proofs.Promised.{complete_finished}
use Rattle.signed.proofs.Worlds.{signed_campaigns}
use Rattle.show_chains.specs.declared.stroke.Way.{Way}
use Rattle.show_chains.specs.Owed.{is_among, owed_to, sent_to}
use Rattle.show_chains.specs.Strokes.{Drawn, behind, between, grouped, in_round, is_lie, list_to, made, numbered, sender, strokes_of, told_between, told_to, way}
use Rattle.show_chains.proofs.LoyalLaws.{proved_only_traitors_differ}
use Rattle.trace.specs.Names.{names_of}
use Rattle.trace.specs.SignedAudit.{signed_chronicle_told}
use Rattle.world.specs.Chronicle.{Chronicle}
use Rattle.world.specs.KindLists.{IsComplete, listed, replayed}
use Rattle.world.specs.Schedules.{lines_by}
use Rattle.world.specs.declared.event.Event.{Event}
use Rattle.world.specs.declared.schedule.Repeat.{Repeat}
use Rattle.world.proofs.Lasting.{lists_are_complete}
use Rattle.cli_tasks.specs.Schedules.{signed_played}
use Rattle.cli_tasks.specs.Diagrams.{BlamesSignedTraitors}

drawn_honest : (stroke : Stroke) → stroke.differs ≡ false → IsDrawnHonest stroke
drawn_honest stroke e = (e, ap (λ (b : Bool). kind_of b stroke.told) e)

module _ (traitor : ℕ → Bool) where
  abbrev IsHonest : Stroke → Type 0
  IsHonest stroke = traitor stroke.teller ≡ false → IsDrawnHonest stroke

  -- The row in which a message is drawn does not matter for this.
  abbrev IsHonestDrawn : Drawn → Type 0
  IsHonestDrawn x = IsHonest x.stroke

  made_honest : (w : Way) (chains : List Chain) (told : List ℕ) → (traitor w.teller ≡ false → w.differs ≡ false) → AllByRecursion IsHonestDrawn (map (made w chains) told)
  made_honest w chains [] h = tt
  made_honest w chains (order ∷ told) h = (λ loyal. drawn_honest (made w chains order).stroke (h loyal), made_honest w chains told h)

  grouped_honest : (w : Way) (chains : List Chain) → (traitor w.teller ≡ false → w.differs ≡ false) → AllByRecursion IsHonestDrawn (grouped w chains)
  grouped_honest w chains h = made_honest w chains (orders (firsts [] chains)) h

  -- The claim is about loyal generals only, so it holds for the messages of a traitor.
  of_traitor : (round p g : ℕ) (sent owed : List Chain) → traitor g ≡ true → AllByRecursion IsHonestDrawn (told_between round p g sent owed)
  of_traitor round p g sent owed is =
      let same : List Chain = filter (is_among owed) sent in
      let other : List Chain = filter (λ ch. not (is_among owed ch)) sent in
      let withheld : List Chain = filter (λ ch. not (is_among sent ch)) owed in
      all-append IsHonestDrawn (grouped (way round p g true false) same ++ grouped (way round p g true true) other) (grouped (way round p g false true) withheld)
      (all-append IsHonestDrawn (grouped (way round p g true false) same) (grouped (way round p g true true) other)
      (grouped_honest (way round p g true false) same (λ loyal. refl))
      (grouped_honest (way round p g true true) other (λ loyal. sym is ∙ loyal)))
      (grouped_honest (way round p g false true) withheld (λ loyal. sym is ∙ loyal))

  -- All messages of a loyal general are drawn in the same way.
  of_loyal : (round p g : ℕ) (sent : List Chain) (xs : List Drawn) → xs ≡ grouped (way round p g true false) sent → AllByRecursion IsHonestDrawn xs
  of_loyal round p g sent xs is = subst (AllByRecursion IsHonestDrawn) (sym is) (grouped_honest (way round p g true false) sent (λ loyal. refl))

  by_kind : (P : Type 0) (g : ℕ) (b : Bool) → traitor g ≡ b → (traitor g ≡ true → P) → (traitor g ≡ false → P) → P
  by_kind P g true is one other = one is
  by_kind P g false is one other = other is

  numbered_honest : (xs : List Drawn) (row : ℕ) → AllByRecursion IsHonestDrawn xs → AllByRecursion IsHonestDrawn (numbered xs row)
  numbered_honest [] row h = tt
  numbered_honest (x ∷ xs) row h = (h.0, numbered_honest xs (suc row) h.1)

-- If the claim holds for each pair of generals in each round, it holds for the whole picture.
module _ (c : Chronicle)
    (pairs : (round p g : ℕ) → p < c.scenario.generals → g < c.scenario.generals → AllByRecursion (IsHonestDrawn (is_traitor c.scenario)) (between c round p g)) where
  abbrev IsSo : Drawn → Type 0
  IsSo x = IsHonestDrawn (is_traitor c.scenario) x

  list_honest : (round p : ℕ) → p < c.scenario.generals → AllByRecursion IsSo (list_to c round p)
  list_honest round p general =
      numbered_honest (is_traitor c.scenario) (arranged is_lie sender (told_to c round p)) 0
      (all_arranged IsSo is_lie sender (told_to c round p)
      (all_flat IsSo (between c round p) (range_with_len 0 c.scenario.generals)
      (λ g on. pairs round p g general (let l : g < 0 + c.scenario.generals = range-on_within 0 c.scenario.generals g on in omega arith))))

  round_honest : (round : ℕ) → AllByRecursion IsSo (in_round c round)
  round_honest round =
      all_flat IsSo (list_to c round) (range_with_len 0 c.scenario.generals)
      (λ p on. list_honest round p (let l : p < 0 + c.scenario.generals = range-on_within 0 c.scenario.generals p on in omega arith))

  all_honest : BlamesSignedTraitors c
  unfolding strokes_of
  all_honest = record { honest = All-from_recursion IsSo (strokes_of c) (all_flat IsSo (behind c) (range_with_len 0 (c.scenario.bound + 1)) (λ before on. round_honest (before + 1))) }

-- The claim holds for the chronicle of a complete list of events of a signed campaign.
complete_blames : (s : Scenario) (events : List Event) → IsScenario s → IsComplete signed_kind s events → BlamesSignedTraitors (signed_chronicle_of (played s events))
complete_blames s events is complete =
    let c : Chronicle = signed_chronicle_of (played s events) in
    let same : c.scenario ≡ s = same_scenario s events in
    all_honest c (λ round p g pn gn.
    let traitor : ℕ → Bool = is_traitor c.scenario in
    by_kind traitor (AllByRecursion (IsHonestDrawn traitor) (between c round p g)) g (traitor g) refl
    (of_traitor traitor round p g (sent_to c round g p) (owed_to c round g p))
    (λ loyal. of_loyal traitor round p g (sent_to c round g p) (between c round p g)
    (proved_only_traitors_differ.drawn s events round g p is (complete_finished s events complete)
    (subst (λ (t : Scenario). g < t.generals) same gn) (subst (λ (t : Scenario). p < t.generals) same pn)
    (subst (λ (t : Scenario). is_traitor t g ≡ false) same loyal))))

pub signed_played_blames : (s : Scenario) (schedule : List (List Repeat)) → IsScenario s → BlamesSignedTraitors (signed_played s schedule)
signed_played_blames s schedule is =
    complete_blames s (listed s (lines_by schedule)) is ((lists_are_complete signed_kind signed_campaigns).listed s (lines_by schedule) is)

pub signed_told_blames : (s : Scenario) (bytes : List ℕ) → IsScenario s → BlamesSignedTraitors (signed_chronicle_told s bytes)
unfolding signed_chronicle_told
signed_told_blames s bytes is =
    complete_blames s (replayed signed_kind s (names_of bytes)) is ((lists_are_complete signed_kind signed_campaigns).replayed s (names_of bytes) is)
