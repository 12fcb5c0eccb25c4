-- The reduction of broken campaigns, until nothing more can be removed from them (own).
use Rattle.std.specs.Prelude.{ℕ, ◌≡◌, ◌≤◌, ◌<◌, ◌+◌, ◌⊎◌, Bool, true, false, [], length, sum_by, slice_set, slice_index_or}
use Rattle.std.specs.List.{remove}
use Rattle.world.specs.declared.verdict.Verdict.{Verdict}
use Rattle.scenario.specs.declared.fault.ScenarioError.{ScenarioError}
use Rattle.surveys.specs.Judging.{IsJudged, IsRefused}
use Rattle.surveys.specs.Plot.{Plot, Traitor}
use Rattle.surveys.specs.Sums.{is_sound}
use Rattle.surveys.specs.Wording.{plot_text}

-- States that `well` says whether the verdict on the campaign, played without a schedule, is sound: whether the loyal
-- lieutenants decide alike and obey a loyal commander.
abbrev pub Comes : Bool → Plot → Type 0
Comes well p = (v : Verdict) × IsJudged (plot_text p) v × (is_sound v ≡ well)

-- States that the verdict on the campaign is sound: the loyal lieutenants decide alike and obey a loyal commander.
abbrev pub ComesWell : Plot → Type 0
ComesWell p = Comes true p

-- States that the campaign is broken: the loyal lieutenants do not decide alike or do not obey a loyal commander.
abbrev pub IsBroken : Plot → Type 0
IsBroken p = Comes false p

-- A traitor without statements, for an index at which a campaign has no traitor.
abbrev pub nobody : Traitor
nobody = record { general = 0; counts = false; lies = [] }

-- Returns the traitor at index `place`, or `nobody` if there is none.
abbrev pub traitor_at : Plot → ℕ → Traitor
traitor_at p place = slice_index_or p.traitors place nobody

-- Returns the campaign with the traitor at index `place` made loyal.
abbrev pub without_traitor : Plot → ℕ → Plot
without_traitor p place = record p { traitors = remove p.traitors place }

-- Returns the traitor without the statement at index `index`.
abbrev pub quieter : Traitor → ℕ → Traitor
quieter t index = record t { lies = remove t.lies index }

-- Returns the campaign without the statement at index `index` of the traitor at index `place`.
abbrev pub without_lie : Plot → ℕ → ℕ → Plot
without_lie p place index = record p { traitors = slice_set p.traitors place (quieter (traitor_at p place) index) }

-- States that the second campaign is `p` with one traitor made loyal, or without one of his statements.
pub data IsLess (p : Plot) : Plot → Type 0 where
  loyal : (place : ℕ) → place < length p.traitors → IsLess p (without_traitor p place)
  silent : (place index : ℕ) → place < length p.traitors → index < length (traitor_at p place).lies →
      IsLess p (without_lie p place index)

-- States that the second campaign is `p` with traitors made loyal and statements removed, any number of times.
pub data IsPartOf (p : Plot) : Plot → Type 0 where
  whole : IsPartOf p p
  lessened : (q r : Plot) → IsPartOf p q → IsLess q r → IsPartOf p r

-- Returns how many traitors and statements a campaign has together.
abbrev pub size : Plot → ℕ
size p = sum_by (λ (t : Traitor). length t.lies + 1) p.traitors

-- States that the campaign needs each of its traitors to stay broken: if one is made loyal, it is not broken.
abbrev pub TraitorsAreNeeded : Plot → Type 0
TraitorsAreNeeded p = (place : ℕ) → place < length p.traitors → ComesWell (without_traitor p place)

-- States that the campaign needs each statement of the traitor at index `place` to stay broken.
abbrev pub LiesAreNeeded : Plot → ℕ → Type 0
LiesAreNeeded p place = (index : ℕ) → index < length (traitor_at p place).lies → ComesWell (without_lie p place index)

-- States that the campaign needs each statement of each traitor to stay broken.
abbrev pub AllLiesAreNeeded : Plot → Type 0
AllLiesAreNeeded p = (place : ℕ) → place < length p.traitors → LiesAreNeeded p place

-- States that a campaign is broken, and that it is not broken without any one of its traitors or statements.
pub record IsLeast (p : Plot) : Type 0 where
  pub broken : IsBroken p
  pub traitors : TraitorsAreNeeded p
  pub lies : AllLiesAreNeeded p

-- States that `q` is `p` with one traitor made loyal or one statement removed, and that it is still broken.
pub record IsStillBroken (p q : Plot) : Type 0 where
  pub less : IsLess p q
  pub broken : IsBroken q

-- States that `q` is `p` with the first traitor made loyal that `p` does not need to stay broken.
pub record IsWithoutFirstTraitor (p q : Plot) : Type 0 where
  pub place : ℕ
  pub within : place < length p.traitors
  pub less : q ≡ without_traitor p place
  pub broken : IsBroken q
  pub needed : (before : ℕ) → before < place → ComesWell (without_traitor p before)

-- States that `q` is `p` without the first statement of the traitor at index `place` that `p` does not need to stay
-- broken.
pub record IsWithoutFirstLieOf (p : Plot) (place : ℕ) (q : Plot) : Type 0 where
  pub index : ℕ
  pub within : index < length (traitor_at p place).lies
  pub less : q ≡ without_lie p place index
  pub broken : IsBroken q
  pub needed : (before : ℕ) → before < index → ComesWell (without_lie p place before)

-- States that `q` is `p` without the first statement, of all traitors, that `p` does not need to stay broken.
pub record IsWithoutFirstLie (p q : Plot) : Type 0 where
  pub place : ℕ
  pub within : place < length p.traitors
  pub less : IsWithoutFirstLieOf p place q
  pub needed : (before : ℕ) → before < place → LiesAreNeeded p before

-- States that `q` is `p` with the first traitor made loyal that `p` does not need to stay broken or, if it needs all
-- traitors, without the first such statement.
abbrev pub IsWithoutFirst : Plot → Plot → Type 0
IsWithoutFirst p q = IsWithoutFirstTraitor p q ⊎ (TraitorsAreNeeded p × IsWithoutFirstLie p q)

-- States that a pass over the traitors, from an index on, leaves the campaign `q`. In their order, the pass removes
-- each traitor that the campaign does not need to stay broken.
pub data TraitorWalk (q : Plot) : ℕ → Plot → Type 0 where
  traitors_end : (place : ℕ) → length q.traitors ≤ place → TraitorWalk q place q
  traitor_stays : (place : ℕ) (p : Plot) → place < length p.traitors → ComesWell (without_traitor p place) →
      TraitorWalk q (place + 1) p → TraitorWalk q place p
  traitor_out : (place : ℕ) (p : Plot) → place < length p.traitors → IsBroken (without_traitor p place) →
      TraitorWalk q place (without_traitor p place) → TraitorWalk q place p

-- States that a pass over the statements of the traitor at index `place`, from an index on, leaves the campaign `q`. In
-- their order, the pass removes each statement that the campaign does not need to stay broken.
pub data LieWalk (place : ℕ) (q : Plot) : ℕ → Plot → Type 0 where
  lies_end : (i : ℕ) → length (traitor_at q place).lies ≤ i → LieWalk place q i q
  lie_stays : (i : ℕ) (p : Plot) → i < length (traitor_at p place).lies → ComesWell (without_lie p place i) →
      LieWalk place q (i + 1) p → LieWalk place q i p
  lie_out : (i : ℕ) (p : Plot) → i < length (traitor_at p place).lies → IsBroken (without_lie p place i) →
      LieWalk place q i (without_lie p place i) → LieWalk place q i p

-- States that passes over the statements of one traitor after another, from an index on, leave the campaign `q`.
pub data LieWalks (q : Plot) : ℕ → Plot → Type 0 where
  all_end : (place : ℕ) → length q.traitors ≤ place → LieWalks q place q
  one_then : (place : ℕ) (p r : Plot) → place < length p.traitors → LieWalk place r 0 p → LieWalks q (place + 1) r →
      LieWalks q place p

-- States that a pass over the traitors of `p`, and then one over their statements, leave the campaign `q`.
pub record IsWalked (p q : Plot) : Type 0 where
  pub fewer : Plot
  pub traitors : TraitorWalk fewer 0 p
  pub lies : LieWalks q 0 fewer

-- States that the reduction of a campaign leaves `q`. As long as the campaign does not need everything to stay broken,
-- the reduction removes the first traitor or statement that it does not need, and then makes a pass over the traitors
-- and one over their statements.
pub data ShrinksTo (q : Plot) : Plot → Type 0 where
  nothing_more : ShrinksTo q q
  further : (p r s : Plot) → IsWithoutFirst p r → IsWalked r s → ShrinksTo q s → ShrinksTo q p

-- States that `e` is a fault of the text of the campaign `p` or of a reduction of it.
pub record IsRefusedOf (p : Plot) (e : ScenarioError) : Type 0 where
  pub left : Plot
  pub part : IsPartOf p left
  pub refused : IsRefused (plot_text left) e
