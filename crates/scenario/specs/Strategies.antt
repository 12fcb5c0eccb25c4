-- The strategies that a scenario can name, and their programs in assembly (own). They are listed in src/strategies.rt.
use Rattle.std.specs.Prelude.{ℕ, if◌then◌else◌, List, [], ◌∷◌, Option, None, Some, bytes_eq, map}
use Rattle.scenario.specs.declared.strategies.TheConstants.{STRATEGIES}

-- Returns the program of the first strategy with this name, or `None` if there is none. Each strategy is a name and a
-- program.
abbrev pub program_among : List ℕ → List (List ℕ × List ℕ) → Option (List ℕ)
program_among name [] = None
program_among name (s ∷ more) = if bytes_eq s.0 name then Some s.1 else program_among name more

-- Returns the program of the strategy with this name, or `None` if no strategy has it.
unfoldable pub program_named : List ℕ → Option (List ℕ)
program_named name = program_among name (map (λ s. (s.0.now, s.1.now)) STRATEGIES)

-- The names of all strategies, in ascending order.
unfoldable pub strategy_names : List (List ℕ)
strategy_names = map (λ s. s.0.now) STRATEGIES
