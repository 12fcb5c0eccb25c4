-- The setting in which a program is tried: its general, round, orders and board (own).
use Rattle.std.specs.Prelude.{ℕ, ◌≡◌, ◌≤◌, ◌+◌, List, [], length, replicate}
use Rattle.semantics.specs.Limits.{board_words}
use Rattle.label.specs.declared.shape.Shape.{Shape}
use Rattle.label.specs.Relay.{IsShape, relay}
use Rattle.round.specs.Contexts.{context_bytes, context_numbers}

-- A setting: the number of generals, the commander, the general and the round (`shape`), and the campaign's bound. It
-- also has the order that the general took for each label that he relays, by rank, and the board's words at the
-- start.
pub record Setting : Type 0 where
  pub shape : Shape
  pub bound : ℕ
  pub taken : List ℕ
  pub board : List ℕ

-- States that the numbers can occur in a campaign, and that there is an order for each label that the general relays.
pub record IsTold (shape : Shape) (bound : ℕ) (taken : List ℕ) : Type 0 where
  pub limits : IsShape shape
  pub rounds : shape.round ≤ bound + 1
  pub few : bound ≤ 4
  pub enough : bound + 2 ≤ shape.generals
  pub each : length taken ≡ length (relay shape)

-- The setting in which a program is checked if none is given: general 3 of 4 in round 1, with commander 0 and bound
-- 1. He relays nothing, and the board's words are 0.
abbrev pub bench : Setting
bench = record {
  shape = record { generals = 4; commander = 0; general = 3; round = 1 };
  bound = 1;
  taken = [];
  board = replicate board_words 0;
}

-- Returns the context that the general's program can read in a setting.
abbrev pub context_in : Setting → List ℕ
context_in s = context_bytes (context_numbers s.shape s.bound s.taken)
