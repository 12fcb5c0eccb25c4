-- The tables of a scenario's traitors, with the checks that come before a program is assembled or decoded (own).
use Rattle.std.specs.Prelude.{ℕ, Bool, not, is_some, List, slice_index_or, Option, Some, None, Result, Ok, Err, codes}
use Rattle.std.specs.Option.{ok_or}
use Rattle.toml.specs.Data.{Data, Members, get_member, as_str, as_table}
use Rattle.insn.specs.declared.insn.Insn.{Insn}
use Rattle.scenario.specs.declared.place.ScenarioKey.TheVariants as names
use Rattle.scenario.specs.declared.place.ScenarioPlace.TheVariants as places
use Rattle.scenario.specs.declared.fault.ScenarioFault.TheVariants as faults
use Rattle.scenario.specs.Names.{is_entry_key}
use Rattle.scenario.specs.Flaws.{Flaw, faulty, ◌>>=◌}
use Rattle.scenario.specs.Strategies.{program_named}
use Rattle.scenario.specs.Checks.{first_unknown, known, general, test}

-- A program in the form in which a traitor's table contains it: assembly, or bytecode in hex.
pub data Source : Type 0 where
  Assembly : List ℕ → Source
  Hex : List ℕ → Source

-- What a traitor's table contains: the number of its general, and his program.
pub record Table : Type 0 where
  pub general : ℕ
  pub source : Source

-- Returns the program of the strategy with this name, which table `i` names. Fails if no strategy has it.
abbrev pub source_named : ℕ → List ℕ → Result Source Flaw
source_named i name =
    ok_or (program_named name) (faulty faults.Range (places.Entry i names.Strategy)) >>= λ t. Ok (Assembly t)

-- Returns the program of the strategy that table `i` names by this value. Fails if no strategy has this name.
unfoldable pub strategy : ℕ → Data → Result Source Flaw
strategy i d = do
  name ← ok_or (as_str d) (faulty faults.Kind (places.Entry i names.Strategy))
  source_named i name

-- Returns the program of table `i` from the values of `asm`, `code` and `strategy`. Fails unless the table has exactly
-- one of them, with a text.
unfoldable pub source : ℕ → Option Data → Option Data → Option Data → Result Source Flaw
source i (Some a) None None = ok_or (as_str a) (faulty faults.Kind (places.Entry i names.Asm)) >>= λ t. Ok (Assembly t)
source i None (Some b) None = ok_or (as_str b) (faulty faults.Kind (places.Entry i names.Code)) >>= λ t. Ok (Hex t)
source i None None (Some s) = strategy i s
source i asm code named = Err (faulty faults.Key (places.Entry i names.Asm))

-- The program of each general, or `None` if no earlier table gave him one.
abbrev pub Seats : Type 0
Seats = List (Option (List Insn))

-- Returns whether an earlier table gave general `g` a program.
abbrev pub is_seated : Seats → ℕ → Bool
is_seated seats g = is_some (slice_index_or seats g None)

-- Returns the general and the program of the traitor's table `i`, or its first fault. There are `n` generals, and
-- `seats` has the programs of the earlier tables.
unfoldable pub table_in : ℕ → Seats → ℕ → Members → Result Table Flaw
table_in n seats i ms = do
  none ← known (Some i) (first_unknown is_entry_key ms)
  g ← general (places.Entry i names.General) faults.General n (get_member (codes "general") ms)
  once ← test (not (is_seated seats g)) faults.Twice (places.Entry i names.General)
  s ← source i (get_member (codes "asm") ms) (get_member (codes "code") ms) (get_member (codes "strategy") ms)
  Ok (record { general = g; source = s })

-- Returns the general and the program of element `i` of the list of traitors, or its first fault. The element must be a
-- table.
unfoldable pub table : ℕ → Seats → ℕ → Data → Result Table Flaw
table n seats i d = do
  ms ← ok_or (as_table d) (faulty faults.Kind (places.Table i))
  table_in n seats i ms
