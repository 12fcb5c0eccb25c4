-- Defines what always holds of the fields of a tree.
use Rattle.std.specs.Prelude.{ℕ, ◌<◌, List, Option}
use Rattle.label.specs.Oral.{Messages}
use Rattle.label.specs.Space.{IsSpace}
use Rattle.label.specs.declared.space.Space.{Space}
use Rattle.tree.specs.LieutenantTree.{LieutenantTree, IsFilled}

-- Returns the tree with these fields in the form in which contracts see it.
abbrev pub kept : Space → ℕ → List (List (Option ℕ)) → LieutenantTree
kept s m ls = record {
  generals = s.generals;
  bound = m;
  commander = s.commander;
  general = s.general;
  levels = ls;
}

-- States that `s` has the numbers of a campaign and of a lieutenant in it, and that the levels have the orders of some
-- message function M.
pub record IsFilledBySome (s : Space) (m : ℕ) (ls : List (List (Option ℕ))) : Type 0 where
  pub space : IsSpace s
  pub small : m < 13
  pub M : Messages
  pub filled : IsFilled (kept s m ls) M
