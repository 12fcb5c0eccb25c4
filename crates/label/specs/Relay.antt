-- The labels that a general relays in a round, and their receivers (TOPLAS 1982, algorithm OM).
use Rattle.std.specs.Prelude.{ℕ, ◌-◌, ◌<◌, ◌≤◌, ◌==◌, if◌then◌else◌, List, [], ◌∷◌, ◌++◌}
use Rattle.label.specs.declared.shape.Shape.{Shape}
use Rattle.label.specs.Labels.{labels, others}

-- States that the numbers of a relay can occur in a campaign: at most 13 generals, numbered from 0, and rounds 1 to
-- 5.
pub record IsShape (s : Shape) : Type 0 where
  pub few : s.generals ≤ 13
  pub commander : s.commander < s.generals
  pub general : s.general < s.generals
  pub first : 1 ≤ s.round
  pub last : s.round ≤ 5

-- Returns the labels that a general relays in a round. The commander relays the empty label, only in round 1. Another
-- general relays the labels of the previous round that he is not on.
abbrev pub relay : Shape → List (List ℕ)
relay s = if s.general == s.commander then (if s.round == 1 then [] ∷ [] else [])
    else labels s.generals s.commander s.general (s.round - 1)

-- Returns the generals to whom the relay's general reports about the label w: those who are not on it, except
-- himself.
abbrev pub receivers : Shape → List ℕ → List ℕ
receivers s w = others s.generals (w ++ s.general ∷ [])
