-- Drawn campaigns, with the programs of their traitors as lists of statements (own).
use Rattle.std.specs.Prelude.{ℕ, Bool, List, Option}
use Rattle.surveys.specs.declared.lie.Lie.{Lie}
use Rattle.surveys.specs.declared.manner.Manner.{Manner}

-- A traitor: his number, whether his program first increments a count on the board, and its statements in order.
pub record Traitor : Type 0 where
  pub general : ℕ
  pub counts : Bool
  pub lies : List Lie

-- A campaign that a seed draws from a family. Its traitors ascend by number. If bytecode is given, in hex, it is the
-- program of all traitors, in place of their statements.
pub record Plot : Type 0 where
  pub generals : ℕ
  pub bound : ℕ
  pub commander : ℕ
  pub order : ℕ
  pub manner : Manner
  pub patience : Option ℕ
  pub given : Option (List ℕ)
  pub traitors : List Traitor
