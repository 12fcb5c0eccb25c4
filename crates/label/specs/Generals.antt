-- What is known of every value of the type Label.
use Rattle.std.specs.Prelude.{ℕ, ◌<◌, ◌≡◌, true, List, length}
use Rattle.label.specs.Labels.{is_distinct}
use Rattle.label.specs.Oral.{AllBelow}

-- States that a list has 1 to 13 generals, all different, each below 13.
pub record IsGenerals (w : List ℕ) : Type 0 where
  pub filled : 0 < length w
  pub below : AllBelow 13 w
  pub distinct : is_distinct w ≡ true
