-- Laws of diagrams of signed campaigns. Each is the contract of a function of this crate.
use Rattle.std.specs.Prelude.{ℕ, ◌+◌, ◌<◌, ◌≤◌, ◌≡◌, ◌==◌, ◌&&◌, ◌||◌, Bool, true, false, not, if◌then◌else◌, is_some, List, ◌++◌, codes, count_by, drop, filter, length, map, take}
use Rattle.std.specs.Bool.{beq}
use Rattle.std.specs.List.{All, list_any, range_with_len}
use Rattle.html.specs.Grammar.{IsElement}
use Rattle.round.specs.Scenario.{Scenario, IsScenario, is_traitor}
use Rattle.world.specs.Agreement.{IsFinished}
use Rattle.world.specs.Chronicle.{Chronicle}
use Rattle.world.specs.declared.event.Event.{Event}
use Rattle.signed.specs.Chronicle.{signed_chronicle_of}
use Rattle.signed.specs.Chains.{Chain}
use Rattle.signed.specs.Kind.{played}
use Rattle.show_diagram.specs.declared.stroke.Stroke.{Stroke}
use Rattle.show_diagram.specs.Left.{is_left, is_left_lie}
use Rattle.show_diagram.specs.Lists.{is_to}
use Rattle.show_diagram.specs.Order.{most_rows}
use Rattle.show_chains.specs.Owed.{is_among, owed_to, sent_to}
use Rattle.show_chains.specs.Strokes.{Drawn, bare, between, grouped, is_lie, strokes_of, way, with_rows}
use Rattle.show_chains.specs.Svg.{signed_svg}

-- States that a diagram is always one XML element followed by a line feed.
abbrev pub SignedDiagramsAreElements : Type 0
SignedDiagramsAreElements =
    (c : Chronicle) → (text : List ℕ) × IsElement text × (signed_svg c ≡ text ++ codes "\n")

-- States that in a finished campaign a loyal general sends exactly the chains that he should send by SM(m), and that
-- all his strokes are drawn as honest.
pub record OnlyTraitorsDiffer : Type 0 where
  pub owed : (s : Scenario) (events : List Event) (round g p : ℕ) → IsScenario s →
      IsFinished (played s events) → g < s.generals → p < s.generals → is_traitor s g ≡ false →
      sent_to (signed_chronicle_of (played s events)) round g p
      ≡ owed_to (signed_chronicle_of (played s events)) round g p
  pub drawn : (s : Scenario) (events : List Event) (round g p : ℕ) → IsScenario s →
      IsFinished (played s events) → g < s.generals → p < s.generals → is_traitor s g ≡ false →
      between (signed_chronicle_of (played s events)) round p g
      ≡ grouped (way round p g true false) (sent_to (signed_chronicle_of (played s events)) round g p)

-- Returns the strokes to `p` in a round, for what was sent to him and for what was withheld from him. Each has a row in
-- his list.
abbrev pub list_in : Chronicle → ℕ → ℕ → List Drawn
list_in c round p = filter (λ x. is_to round p x.stroke) (strokes_of c)

-- Returns those strokes to `p` in a round that are drawn.
abbrev pub drawn_in : Chronicle → ℕ → ℕ → List Drawn
drawn_in c round p = filter (λ x. is_to round p x.stroke) (with_rows (strokes_of c))

abbrev pub is_lie_by : ℕ → Drawn → Bool
is_lie_by g x = is_lie x && x.stroke.teller == g

-- States that a stroke is right about a chain: whether the chain was sent, and whether a loyal general in the sender's
-- place would have done otherwise.
pub record IsTold (c : Chronicle) (stroke : Stroke) (ch : Chain) : Type 0 where
  pub sent : is_some stroke.told ≡ is_among (sent_to c stroke.round stroke.teller stroke.receiver) ch
  pub differs : stroke.differs
      ≡ not (beq (is_among (sent_to c stroke.round stroke.teller stroke.receiver) ch)
      (is_among (owed_to c stroke.round stroke.teller stroke.receiver) ch))

-- Returns whether general `g` is the sender of this stroke, and the stroke has this chain.
abbrev pub tells_of : ℕ → Chain → Drawn → Bool
tells_of g ch x = x.stroke.teller == g && is_among x.chains ch

-- States that a chain is in exactly one stroke if `g` sent it to `p` in a round, or if a loyal general in his place
-- would have sent it, and in no stroke otherwise. Each stroke has the number of its chains and is right about each of
-- them.
pub record StrokesAreExact : Type 0 where
  pub once : (c : Chronicle) (round g p : ℕ) (ch : Chain) → g < c.scenario.generals → p < c.scenario.generals →
      0 < round → round ≤ c.scenario.bound + 1 →
      length (filter (tells_of g ch) (list_in c round p))
      ≡ (if is_among (sent_to c round g p) ch || is_among (owed_to c round g p) ch then 1 else 0)
  pub wide : (c : Chronicle) → All (λ x. x.stroke.labels ≡ length x.chains) (strokes_of c)
  pub told : (c : Chronicle) → All (λ x. All (IsTold c x.stroke) x.chains) (strokes_of c)

-- States that the rows of each list are numbered from 0, and the first ones are drawn. If a lie is left out, no honest
-- row is drawn. Each general who lies has a row that is drawn. The counts of rows and lies left out are exact.
pub record RowsAreExact : Type 0 where
  pub numbered : (c : Chronicle) (round p : ℕ) → p < c.scenario.generals → 0 < round →
      round ≤ c.scenario.bound + 1 →
      map (λ (x : Drawn). x.stroke.row) (list_in c round p) ≡ range_with_len 0 (length (list_in c round p))
  pub first : (c : Chronicle) (round p : ℕ) → p < c.scenario.generals → 0 < round →
      round ≤ c.scenario.bound + 1 → drawn_in c round p ≡ take most_rows (list_in c round p)
  pub lies : (c : Chronicle) (round p : ℕ) → p < c.scenario.generals → 0 < round → round ≤ c.scenario.bound + 1 →
      list_any is_lie (drop most_rows (list_in c round p)) ≡ true →
      All (λ x. is_lie x ≡ true) (drawn_in c round p)
  pub liars : (c : Chronicle) (round p g : ℕ) → p < c.scenario.generals → 0 < round → round ≤ c.scenario.bound + 1 →
      c.scenario.generals ≤ most_rows → list_any (is_lie_by g) (list_in c round p) ≡ true →
      list_any (is_lie_by g) (drawn_in c round p) ≡ true
  pub counted : (c : Chronicle) (round p : ℕ) →
      length (drawn_in c round p) + count_by (is_left round p) (bare (strokes_of c)) ≡ length (list_in c round p)
  pub lies_counted : (c : Chronicle) (round p : ℕ) →
      count_by is_lie (drawn_in c round p) + count_by (is_left_lie round p) (bare (strokes_of c))
      ≡ count_by is_lie (list_in c round p)
