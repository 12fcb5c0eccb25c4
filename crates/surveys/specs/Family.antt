-- Families of campaigns, from which seeds draw (own).
use Rattle.std.specs.Prelude.{ℕ, Bool, ◌≤◌, Option, IfSome}
use Rattle.surveys.specs.declared.adversary.Adversary.{Adversary}
use Rattle.surveys.specs.declared.span.CountRange.{CountRange}
use Rattle.surveys.specs.declared.manner.Manner.{Manner}

-- A family: the ranges of the number of generals, the bound and the number of traitors, the commander and the greatest
-- order. It also says whether consecutive seeds go through all combinations of the ranges, how orders are sent, how
-- many steps a traitor may take in a round, and what traitors do.
pub record Family : Type 0 where
  pub generals : CountRange
  pub bound : CountRange
  pub traitors : CountRange
  pub commander : ℕ
  pub orders : ℕ
  pub grid : Bool
  pub manner : Manner
  pub patience : Option ℕ
  pub adversary : Adversary

-- States that no range is empty, that there are 2 to 13 generals, and that a patience, if there is one, is 1 to 4,096
-- steps.
pub record IsFamily (f : Family) : Type 0 where
  pub some : f.generals.low ≤ f.generals.high
  pub least : 2 ≤ f.generals.low
  pub most : f.generals.high ≤ 13
  pub bounds : f.bound.low ≤ f.bound.high
  pub counts : f.traitors.low ≤ f.traitors.high
  pub waits : IfSome f.patience (λ steps. (1 ≤ steps) × (steps ≤ 4096))
