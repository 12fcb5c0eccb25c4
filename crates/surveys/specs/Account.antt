-- The account of a campaign in a survey (own).
use Rattle.std.specs.Prelude.{ℕ, List}
use Rattle.surveys.specs.declared.finding.Finding.{Finding}

-- The account of a campaign: its result, the commander's order, the numbers of the traitors, ascending, and the
-- decisions of the lieutenants, in ascending order of the lieutenants' numbers.
pub record Account : Type 0 where
  pub finding : Finding
  pub order : ℕ
  pub traitors : List ℕ
  pub decisions : List ℕ
